-- What the calls are proved by: a set is sound exactly when nothing refuses it, what a set rule does to ascending elements, and
-- what is then written. Assumes nothing.
use mathlib.Core.Path.{◌≡◌, refl, sym, ap}
use mathlib.Core.Bool.{true, false}
use mathlib.Core.List.{List, [], ◌∷◌, ◌++◌}
use Prim.Native.Nat.{ℕ, ◌+◌, ◌≤◌, ◌<◌}
use native.Mathlib.Omega.{arith}
use lib.ListN.{length, take, drop, replicate, length-take, length-drop, length-replicate, length-append}
use lib.Seq.{length-take-le, drop-drop}
use borrow.Author.Tests.{le-leb, leb-true}
use Rattle.words.specs.Sets.{pick, Ascending, has, insert, remove, toggle}
use Rattle.words.specs.Words.{zeros}
use Rattle.words.proofs.Cases.{and_parts, pick-case}
use Rattle.words.proofs.SetLaws.{remove_absent}
use Rattle.words.proofs.RowLaws.{zeros-drop, zeros-append, zeros-replicate}
use Rattle.answers.specs.Judging.{verdict, Judged}
use Rattle.answers.proofs.Judging.{Passed, passed_none, none_passed, more_none, none_more}
use Rattle.ascending.specs.Order.{row}
use Rattle.ascending.specs.Places.{insert_at, remove_at}
use Rattle.ascending.specs.Search.{place}
use Rattle.ascending.proofs.OrderLaws.{ascends-ascending, ascending-ascends}
use Rattle.ascending.proofs.SearchLaws.{Stands, Lacks, place-le, place-lt}
use Rattle.ascending.proofs.PlaceLaws.{length-insert-at, length-remove-at, insert-absent, insert-present, remove-present, toggle-absent, toggle-present}
use Rattle.ascending.proofs.RowLaws.{row_of, row_is}
use Rattle.sorted_vec_set.specs.declared.SortedVecSet.{SortedVecSet}
use Rattle.sorted_vec_set.specs.declared.lent.Lent.{Lent}
use Rattle.sorted_vec_set.specs.Calls.{in_range, sound, judged, bytes_of, lent_bytes, Sound}

-- ---- judging

-- a set has passed exactly when it is sound
pub sound-passed : {set : SortedVecSet} {es : List ℕ} → Sound set es → Passed (judged (bytes_of set es))
unfolding judged in_range sound bytes_of
sound-passed {set} {es} h = record {
  in_range = le-leb (length es) 8192 h.few;
  sound = rw (le-leb set.count (length es) h.within, ascending-ascends (take set.count es) h.ascending, h.beyond);
}

pub passed-sound : {set : SortedVecSet} {es : List ℕ} → Passed (judged (bytes_of set es)) → Sound set es
unfolding judged in_range sound bytes_of
passed-sound {set} {es} p =
    let parts = and_parts _ _ p.sound in
    let rest = and_parts _ _ parts.1 in
    record {
      few = leb-true (length es) 8192 p.in_range;
      within = leb-true set.count (length es) parts.0;
      ascending = ascends-ascending (take set.count es) rest.0;
      beyond = rest.1;
    }

-- nothing refuses a sound set
pub sound_none : {set : SortedVecSet} {es : List ℕ} → Sound set es → verdict (judged (bytes_of set es) ∷ []) ≡ 0
sound_none h = passed_none (sound-passed h)

-- where nothing refuses several sets, the first is sound and nothing refuses the others
pub first_sound : (s : Lent) (sets : List Judged) → verdict (judged (lent_bytes s) ∷ sets) ≡ 0 → Sound s.set s.elements.now × (verdict sets ≡ 0)
first_sound s sets e = let parts = none_more _ sets e in (passed-sound parts.0, parts.1)

-- where nothing refuses the first nor the others, nothing refuses all of them
pub together_none : (s : Judged) (sets : List Judged) → verdict (s ∷ []) ≡ 0 → verdict sets ≡ 0 → verdict (s ∷ sets) ≡ 0
together_none s sets e f = more_none sets (none_passed s e) f

-- ---- the set rules, by whether the element is there

module _ (x : ℕ) (l : List ℕ) (a : Ascending l) where
  stands : has l x ≡ true → Stands x l (place x l)
  stands e = record { is = e; at = refl; within = place-lt x l e }

  lacks : has l x ≡ false → Lacks x l (place x l)
  lacks e = record { is = e; at = refl; within = place-le x l }

  pub insert_is : insert x l ≡ pick (has l x) l (insert_at (place x l) x l)
  insert_is = pick-case (λ r. insert x l ≡ r) (has l x) (λ e. insert-present a (stands e)) (λ e. insert-absent a (lacks e))

  pub remove_is : remove x l ≡ pick (has l x) (remove_at (place x l) l) l
  remove_is = pick-case (λ r. remove x l ≡ r) (has l x) (λ e. remove-present a (stands e)) (λ e. remove_absent x l a e)

  pub toggle_is : toggle x l ≡ pick (has l x) (remove_at (place x l) l) (insert_at (place x l) x l)
  toggle_is = pick-case (λ r. toggle x l ≡ r) (has l x) (λ e. toggle-present a (stands e)) (λ e. toggle-absent a (lacks e))

-- ---- the first n as they were, with one more, with one less and with none, over elements that are 0 behind them

module _ (n : ℕ) (es : List ℕ) (z : zeros (drop n es) ≡ true) where
  pub row_same : n ≤ length es → row (length es) (take n es) ≡ es
  row_same h = sym (row_is n es h z)

  pub row_grown : (p x : ℕ) → n < length es → insert_at p x (take n es) ++ drop (n + 1) es ≡ row (length es) (insert_at p x (take n es))
  row_grown p x h =
      row_of (length es) (insert_at p x (take n es)) (drop (n + 1) es)
      (omega (arith, length-insert-at p x (take n es), length-take-le n es (omega arith), length-drop (n + 1) es))
      (rw (← drop-drop 1 n es) (zeros-drop 1 (drop n es) z))

  pub row_shrunk : (p : ℕ) → n ≤ length es → p < n → remove_at p (take n es) ++ (0 ∷ drop n es) ≡ row (length es) (remove_at p (take n es))
  unfolding zeros
  row_shrunk p h q =
      let k : length (take n es) ≡ n = length-take-le n es h in
      row_of (length es) (remove_at p (take n es)) (0 ∷ drop n es)
      (omega (arith, length-remove-at p (take n es) (omega (arith, k)), k, length-drop n es)) z

  pub row_emptied : (front : List ℕ) → n ≤ length es → front ≡ replicate (length (take n es)) 0 → front ++ drop n es ≡ row (length es) []
  row_emptied front h e =
      row_of (length es) [] (front ++ drop n es)
      (simp (length-append, length-drop) (omega (arith, ap length e, length-replicate {A = ℕ} (length (take n es)) 0, length-take-le n es h)))
      (rw (zeros-append front (drop n es), e, z, zeros-replicate))

pub ruleset calls = (first_sound, sound_none, together_none, insert_is, remove_is, toggle_is, place-le, place-lt, row_same, row_grown, row_shrunk, row_emptied, length-insert-at, length-remove-at, length-take)
