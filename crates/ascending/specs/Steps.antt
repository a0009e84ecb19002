-- What the contracts of inner functions cite besides: how far a merge has come. Assumes nothing.
use Rattle.std.specs.Prelude.{◌⊎◌, List, ◌≡◌, ℕ, ◌+◌, ◌≤◌, length, take, drop}
use Rattle.ascending.specs.declared.merging.Kept.{Kept}
use Rattle.ascending.specs.declared.merging.Places.{Places}
use Rattle.ascending.specs.Merging.{merged}

-- what is left of a merge is the merge of what is left of the two lists
pub record Heads (kept : Kept) (l r : List ℕ) (at : Places) : Type 0 where
  pub left : at.left ≤ length l
  pub right : at.right ≤ length r
  pub few : at.kept ≤ at.left + at.right
  pub within : at.kept ≤ length (merged kept l r)
  pub rest : drop at.kept (merged kept l r) ≡ merged kept (drop at.left l) (drop at.right r)

-- one of the two lists has ended, and what has been kept stands in front of `out`
pub record Headed (kept : Kept) (l r : List ℕ) (at : Places) (out : List ℕ) : Type 0 where
  pub heads : Heads kept l r at
  pub ended : (length l ≤ at.left) ⊎ (length r ≤ at.right)
  pub front : take at.kept out ≡ take at.kept (merged kept l r)
