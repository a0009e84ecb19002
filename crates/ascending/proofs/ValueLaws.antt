-- Items of any width and the numbers that they are. Assumes nothing.
use mathlib.Core.Path.{◌≡◌, sym, ap, ◌∙◌}
use mathlib.Core.List.{List}
use Prim.Native.Nat.{ℕ, ◌<◌}
use lib.ListN.{length, get_or}
use Rattle.std.proofs.Common.{map}
use Rattle.std.proofs.lemmas.List.{get_or-map}

-- the number at a place is that of the item which was read there
pub value-at : {A : Type 0} (value : A → ℕ) (l : List A) (i : ℕ) (x : A) → i < length l → x ≡ get_or l i x → get_or (map value l) i 0 ≡ value x
value-at value l i x h e = get_or-map value l i x 0 h ∙ ap value (sym e)
