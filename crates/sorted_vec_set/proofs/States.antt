-- Members and bytes: the members and the room fix every byte, and every call leaves a set in range and sound that was so,
-- whatever its operands hold. Assumes nothing.
use mathlib.Core.Path.{◌≡◌, sym, ap₂, ◌∙◌}
use mathlib.Core.Bool.{true}
use mathlib.Core.List.{List, [], ◌∷◌}
use Prim.Native.Nat.{ℕ, ◌≤◌}
use native.Mathlib.Numerals.{unary_clauses}
use native.Mathlib.Omega.{arith}
use lib.Dec.{eqb, leb}
use lib.ListN.{length, drop}
use lib.Seq.{length-take-le}
use borrow.Author.Tests.{eqb-true, le-leb, leb-true}
use Rattle.words.specs.Sets.{From, Ascending}
use Rattle.words.specs.Words.{zeros}
use Rattle.words.proofs.Cases.{and_parts, pick-case}
use Rattle.words.proofs.SetLaws.{single, ascending-insert, ascending-remove, ascending-toggle, ascending-difference, ascending-intersection}
use Rattle.answers.specs.Judging.{verdict}
use Rattle.answers.proofs.Judging.{Passed, none_passed, none_more}
use Rattle.ascending.specs.Order.{row}
use Rattle.ascending.proofs.OrderLaws.{ascends-ascending, ascending-ascends}
use Rattle.ascending.proofs.RowLaws.{row_is, length-row, take_row, zeros-row}
use Rattle.sorted_vec_set.specs.Calls.{Bytes, Outcome, in_range, sound, judged, members, encode, refused, result, preparing, inserting, removing, toggling, clearing, singling, xoring, xoring_shared, xoring_unshared, taking}

-- in range and sound
abbrev pub InOrder : Bytes → Type 0
InOrder b = Passed (judged b)

-- ---- bytes and members

-- members that a room holds
pub record Lawful (room : ℕ) (l : List ℕ) : Type 0 where
  pub ascending : Ascending l
  pub within : length l ≤ room

sound_parts : (b : Bytes) → sound b ≡ true → (b.count ≤ length b.elements) × Ascending (members b) × (zeros (drop b.count b.elements) ≡ true)
unfolding sound members
sound_parts b h =
    let parts = and_parts _ _ h in
    let rest = and_parts _ _ parts.1 in
    (leb-true _ _ parts.0, ascends-ascending _ rest.0, rest.1)

pub members-lawful : (b : Bytes) → sound b ≡ true → Lawful (length b.elements) (members b)
unfolding members
members-lawful b h =
    let parts = sound_parts b h in
    record { ascending = parts.1; within = rw (length-take-le b.count b.elements parts.0) parts.0 }

pub encode-members : (b : Bytes) → sound b ≡ true → encode (length b.elements) (members b) ≡ b
unfolding encode members
encode-members b h =
    let parts = sound_parts b h in
    rw (length-take-le b.count b.elements parts.0, ← row_is b.count b.elements parts.0 parts.2)

-- the members and the room fix every byte
pub bytes_fixed : (a b : Bytes) → sound a ≡ true → sound b ≡ true → length a.elements ≡ length b.elements → members a ≡ members b → a ≡ b
bytes_fixed a b f g e m = sym (encode-members a f) ∙ ap₂ encode e m ∙ encode-members b g

pub members-encode : {room : ℕ} {l : List ℕ} → Lawful room l → members (encode room l) ≡ l
unfolding members encode
members-encode {room} {l} h = take_row room l

pub encode-sound : {room : ℕ} {l : List ℕ} → Lawful room l → room ≤ 8192 → InOrder (encode room l)
unfolding judged encode in_range sound
encode-sound {room} {l} h w = record {
  in_range = rw (length-row room l h.within) (le-leb room 8192 w);
  sound = rw (length-row room l h.within, le-leb (length l) room h.within, take_row room l, ascending-ascends l h.ascending, zeros-row room l);
}

-- ---- the calls

pub result-sound : (n : ℕ) (b : Bytes) (v : ℕ) (l : List ℕ) → InOrder b → (n ≡ 0 → Ascending l) → InOrder (result n b v l).bytes
unfolding result refused judged in_range
result-sound n b v l w h =
    pick-case (λ (o : Outcome). InOrder o.bytes) (eqb n 0)
    (λ e. pick-case (λ (o : Outcome). InOrder o.bytes) (leb (length l) (length b.elements))
    (λ d. encode-sound (record { ascending = h (eqb-true n 0 e); within = leb-true (length l) (length b.elements) d }) (leb-true (length b.elements) 8192 w.in_range))
    (λ d. w))
    (λ e. w)

-- sets that nothing refuses hold ascending members
passed-ascending : (b : Bytes) → Passed (judged b) → Ascending (members b)
unfolding judged
passed-ascending b p = (sound_parts b p.sound).1

pub none-ascending : (b : Bytes) → verdict (judged b ∷ []) ≡ 0 → Ascending (members b)
none-ascending b z = passed-ascending b (none_passed (judged b) z)

pub two_ascending : (b o : Bytes) → verdict (judged b ∷ judged o ∷ []) ≡ 0 → Ascending (members b) × Ascending (members o)
two_ascending b o z = let parts = none_more (judged b) (judged o ∷ []) z in (passed-ascending b parts.0, none-ascending o parts.1)

pub three_ascending : (b o p : Bytes) → verdict (judged b ∷ judged o ∷ judged p ∷ []) ≡ 0
    → Ascending (members b) × Ascending (members o) × Ascending (members p)
three_ascending b o p z =
    let parts = none_more (judged b) (judged o ∷ judged p ∷ []) z in
    let operands = two_ascending o p parts.1 in
    (passed-ascending b parts.0, operands.0, operands.1)

pub preparing-sound : (elements : List ℕ) → length elements ≤ 8192 → InOrder (preparing elements).bytes
unfolding preparing encode row From
preparing-sound elements h =
    rw (le-leb (length elements) 8192 h) (simp unary_clauses at (encode-sound {l = []} (record { ascending = tt; within = omega arith }) h))

pub inserting-sound : (x : ℕ) (b : Bytes) → InOrder b → InOrder (inserting x b).bytes
unfolding inserting
inserting-sound x b w = result-sound _ b _ _ w (λ z. ascending-insert x (members b) (none-ascending b z))

pub removing-sound : (x : ℕ) (b : Bytes) → InOrder b → InOrder (removing x b).bytes
unfolding removing
removing-sound x b w = result-sound _ b _ _ w (λ z. ascending-remove x (members b) (none-ascending b z))

pub toggling-sound : (x : ℕ) (b : Bytes) → InOrder b → InOrder (toggling x b).bytes
unfolding toggling
toggling-sound x b w = result-sound _ b _ _ w (λ z. ascending-toggle x (members b) (none-ascending b z))

pub clearing-sound : (b : Bytes) → InOrder b → InOrder (clearing b).bytes
unfolding clearing From
clearing-sound b w = result-sound (verdict (judged b ∷ [])) b 0 [] w (λ z. tt)

pub singling-sound : (x : ℕ) (b : Bytes) → InOrder b → InOrder (singling x b).bytes
unfolding singling
singling-sound x b w = result-sound (verdict (judged b ∷ [])) b 0 (x ∷ []) w (λ z. single x)

pub xoring-sound : (b o : Bytes) → InOrder b → InOrder (xoring b o).bytes
unfolding xoring
xoring-sound b o w = result-sound _ b _ _ w (λ z. let all = two_ascending b o z in ascending-difference _ _ all.0 all.1)

pub xoring-shared-sound : (b o p : Bytes) → InOrder b → InOrder (xoring_shared b o p).bytes
unfolding xoring_shared
xoring-shared-sound b o p w =
    result-sound _ b _ _ w (λ z. let all = three_ascending b o p z in ascending-difference _ _ all.0 (ascending-intersection _ _ all.1 all.2))

pub xoring-unshared-sound : (b o p : Bytes) → InOrder b → InOrder (xoring_unshared b o p).bytes
unfolding xoring_unshared
xoring-unshared-sound b o p w =
    result-sound _ b _ _ w (λ z. let all = three_ascending b o p z in ascending-difference _ _ all.0 (ascending-difference _ _ all.1 all.2))

pub taking-sound : (b o : Bytes) → InOrder b → InOrder o → InOrder (taking b o).from × InOrder (taking b o).to
unfolding taking judged in_range From
taking-sound b o w v = (
  pick-case InOrder (eqb (result (verdict (judged b ∷ judged o ∷ [])) o 0 (members b)).answer.number 0)
      (λ e. encode-sound {l = []} (record { ascending = tt; within = omega arith }) (leb-true (length b.elements) 8192 w.in_range)) (λ e. w),
  result-sound (verdict (judged b ∷ judged o ∷ [])) o 0 (members b) v (λ z. (two_ascending b o z).0),
)
