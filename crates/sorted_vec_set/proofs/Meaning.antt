-- What each served call makes of membership: the set rules, whatever the bytes. Assumes nothing.
use mathlib.Core.Path.{◌≡◌, refl}
use mathlib.Core.Bool.{Bool, true, false, not, ◌&&◌, ◌||◌, xor}
use mathlib.Core.List.{List}
use Prim.Native.Nat.{ℕ}
use native.Mathlib.Omega.{arith}
use lib.Dec.{eqb, leb}
use lib.ListN.{length}
use borrow.Author.Tests.{eqb-true, eqb-false}
use Rattle.words.specs.Sets.{pick, has}
use Rattle.words.proofs.SetLaws.{ascending-difference, ascending-intersection, has-insert, has-remove, has-toggle, has-difference, has-intersection}
use Rattle.ascending.proofs.RowLaws.{take_row}
use Rattle.sorted_vec_set.specs.Calls.{Bytes, Outcome, members, encode, refused, result, inserting, removing, toggling, xoring, xoring_shared, xoring_unshared}
use Rattle.sorted_vec_set.proofs.States.{none-ascending, two_ascending, three_ascending}

-- a served call was refused by no number, and leaves the members that it was asked for
served : (n : ℕ) (b : Bytes) (v : ℕ) (l : List ℕ) → (result n b v l).answer.number ≡ 0 → (n ≡ 0) × (members (result n b v l).bytes ≡ l)
unfolding result refused encode members
served n b v l z = go (eqb n 0) refl (leb (length l) (length b.elements)) z
  where
    choice : Bool → Bool → Outcome
    choice s t = pick s (pick t (record { answer = record { number = 0; value = v }; bytes = encode (length b.elements) l }) (refused 5 b)) (refused n b)

    go : (s : Bool) → eqb n 0 ≡ s → (t : Bool) → (choice s t).answer.number ≡ 0 → (n ≡ 0) × (members (choice s t).bytes ≡ l)
    go true e true z = (eqb-true n 0 e, take_row (length b.elements) l)
    go true e false z = absurd (omega arith)
    go false e t z = absurd (eqb-false n 0 e z)

module _ (b : Bytes) (y : ℕ) where
  pub has-inserting : (x : ℕ) → (inserting x b).answer.number ≡ 0 → has (members (inserting x b).bytes) y ≡ (eqb x y || has (members b) y)
  unfolding inserting
  has-inserting x z = let s = served _ b _ _ z in rw s.1 (has-insert x (members b) y (none-ascending b s.0))

  pub has-removing : (x : ℕ) → (removing x b).answer.number ≡ 0 → has (members (removing x b).bytes) y ≡ (not (eqb x y) && has (members b) y)
  unfolding removing
  has-removing x z = let s = served _ b _ _ z in rw s.1 (has-remove x (members b) y (none-ascending b s.0))

  pub has-toggling : (x : ℕ) → (toggling x b).answer.number ≡ 0 → has (members (toggling x b).bytes) y ≡ xor (eqb x y) (has (members b) y)
  unfolding toggling
  has-toggling x z = let s = served _ b _ _ z in rw s.1 (has-toggle x (members b) y (none-ascending b s.0))

  pub has-xoring : (o : Bytes) → (xoring b o).answer.number ≡ 0 → has (members (xoring b o).bytes) y ≡ xor (has (members b) y) (has (members o) y)
  unfolding xoring
  has-xoring o z =
      let s = served _ b _ _ z in
      let all = two_ascending b o s.0 in
      rw s.1 (has-difference (members b) (members o) y all.0 all.1)

  pub has-xoring-shared : (o p : Bytes) → (xoring_shared b o p).answer.number ≡ 0
      → has (members (xoring_shared b o p).bytes) y ≡ xor (has (members b) y) (has (members o) y && has (members p) y)
  unfolding xoring_shared
  has-xoring-shared o p z =
      let s = served _ b _ _ z in
      let all = three_ascending b o p s.0 in
      rw (s.1, ← has-intersection (members o) (members p) y all.1 all.2)
      (has-difference (members b) _ y all.0 (ascending-intersection (members o) (members p) all.1 all.2))

  pub has-xoring-unshared : (o p : Bytes) → (xoring_unshared b o p).answer.number ≡ 0
      → has (members (xoring_unshared b o p).bytes) y ≡ xor (has (members b) y) (xor (has (members o) y) (has (members p) y))
  unfolding xoring_unshared
  has-xoring-unshared o p z =
      let s = served _ b _ _ z in
      let all = three_ascending b o p s.0 in
      rw (s.1, ← has-difference (members o) (members p) y all.1 all.2)
      (has-difference (members b) _ y all.0 (ascending-difference (members o) (members p) all.1 all.2))
