-- What judging comes to for two sets and three, what calls leave, and what the reads of sound sets answer, path by path: as theorems
-- beside the calls, whose proofs do without all but `contained_answer`. Assumes nothing.
use mathlib.Core.Path.{◌≡◌, sym, ap, ◌∙◌}
use mathlib.Core.List.{List, [], ◌∷◌, ◌++◌}
use Prim.Native.Nat.{ℕ, ◌+◌, ◌-◌, ◌≤◌, ◌<◌}
use native.Mathlib.Omega.{arith}
use lib.Dec.{eqb}
use lib.ListN.{length, take, drop, replicate, length-take, length-drop}
use lib.Seq.{length-take-le}
use borrow.Author.Tests.{eq-eqb, ne_eqb, le-leb, lt-leb}
use Rattle.std.specs.Prelude.{Result, Ok, Err}
use Rattle.words.specs.Words.{zeros}
use Rattle.answers.specs.declared.Refusal.{Refusal}
use Rattle.answers.specs.declared.Refusal.TheVariants.{Room}
use Rattle.answers.specs.Answers.{Answer, truth, number}
use Rattle.answers.specs.Judging.{verdict}
use Rattle.answers.proofs.Answering.{number_some, served-answer}
use Rattle.answers.proofs.Judging.{more_none, none_more}
use Rattle.ascending.specs.Order.{row}
use Rattle.ascending.specs.Places.{remove_at}
use Rattle.ascending.specs.Search.{found, present, told}
use Rattle.ascending.proofs.SearchLaws.{Stands, found-present, told_is}
use Rattle.ascending.proofs.PlaceLaws.{length-remove-at}
use Rattle.ascending.proofs.RowLaws.{row_of, row_is}
use Rattle.sorted_vec_set.specs.declared.SortedVecSet.{SortedVecSet}
use Rattle.sorted_vec_set.specs.Calls.{members, encode, refused, judged, result, taking, containing, emptiness, bytes_of, left, handed, Sound}
use Rattle.sorted_vec_set.proofs.Outcomes.{sound-passed, passed-sound, sound_none, row_emptied}

-- ---- judging

pub none-sound : {set : SortedVecSet} {es : List ℕ} → verdict (judged (bytes_of set es) ∷ []) ≡ 0 → Sound set es
none-sound e = passed-sound (none_more _ [] e).0

-- two sets and three are refused by nothing exactly when they are sound
pub two_none : {set other : SortedVecSet} {es os : List ℕ} → Sound set es × Sound other os
    → verdict (judged (bytes_of set es) ∷ judged (bytes_of other os) ∷ []) ≡ 0
two_none h = more_none _ (sound-passed h.0) (sound_none h.1)

pub two_sound : {set other : SortedVecSet} {es os : List ℕ} → verdict (judged (bytes_of set es) ∷ judged (bytes_of other os) ∷ []) ≡ 0
    → Sound set es × Sound other os
two_sound e = let parts = none_more _ _ e in (passed-sound parts.0, none-sound parts.1)

pub three_none : {target set other : SortedVecSet} {ts es os : List ℕ} → Sound target ts × Sound set es × Sound other os
    → verdict (judged (bytes_of target ts) ∷ judged (bytes_of set es) ∷ judged (bytes_of other os) ∷ []) ≡ 0
three_none h = more_none _ (sound-passed h.0) (two_none (h.1, h.2))

pub three_sound : {target set other : SortedVecSet} {ts es os : List ℕ}
    → verdict (judged (bytes_of target ts) ∷ judged (bytes_of set es) ∷ judged (bytes_of other os) ∷ []) ≡ 0
    → Sound target ts × Sound set es × Sound other os
three_sound e =
    let parts = none_more _ _ e in
    let operands = two_sound parts.1 in
    (passed-sound parts.0, operands.0, operands.1)

-- ---- from a result to what the call leaves

count-is : {set : SortedVecSet} {es : List ℕ} → Sound set es → length (take set.count es) ≡ set.count
count-is {set} {es} h = length-take-le set.count es h.within

module _ {A : Type 0} (gives : A → SortedVecSet × ℕ) where
  -- more members than room
  pub lacking_left : (set : SortedVecSet) (es : List ℕ) (v : ℕ) (l : List ℕ) {n : ℕ} → n ≡ 0 → length es < length l
      → left gives set (Err Room) es ≡ result n (bytes_of set es) v l
  unfolding left result refused bytes_of
  lacking_left set es v l {n} e h = rw (eq-eqb n 0 e, lt-leb (length l) (length es) h)

  served-left : (set : SortedVecSet) (es new l : List ℕ) {n v : ℕ} (given : A) → n ≡ 0 → length l ≤ length es → new ≡ row (length es) l
      → gives given ≡ (record { count = length l }, v) → left gives set (Ok given) new ≡ result n (bytes_of set es) v l
  unfolding left result encode bytes_of
  served-left set es new l {n} given e h w q = rw (q, w, eq-eqb n 0 e, le-leb (length l) (length es) h)

  -- nothing has changed, where the members that are asked for are those that stand
  pub same_left : {set : SortedVecSet} {es l : List ℕ} {v : ℕ} (given : A) → Sound set es → l ≡ take set.count es → gives given ≡ (set, v)
      → left gives set (Ok given) es ≡ result (verdict (judged (bytes_of set es) ∷ [])) (bytes_of set es) v l
  same_left {set} {es} given h m q =
      rw m (served-left set es es (take set.count es) given (sound_none h) (rw (count-is h) h.within) (row_is set.count es h.within h.beyond) (rw (count-is h) q))

  -- one element less
  pub shrunk_left : {set : SortedVecSet} {es l new : List ℕ} {p x v : ℕ} (given : A) → Sound set es → Stands x (take set.count es) p
      → l ≡ remove_at p (take set.count es) → new ≡ remove_at p (take set.count es) ++ (0 ∷ drop set.count es)
      → gives given ≡ (record { count = set.count - 1 }, v)
      → left gives set (Ok given) new ≡ result (verdict (judged (bytes_of set es) ∷ [])) (bytes_of set es) v l
  unfolding zeros
  shrunk_left {set} {es} {l} {new} {p} given h stands m w q =
      let less : length l + 1 ≡ set.count = omega (arith, ap length m, length-remove-at p (take set.count es) stands.within, count-is h) in
      let n : set.count - 1 ≡ length l = omega arith in
      served-left set es new l given (sound_none h) (omega (arith, h.within))
      (w ∙ rw (← m) (row_of (length es) l (0 ∷ drop set.count es) (omega (arith, length-drop set.count es, h.within)) h.beyond))
      (rw n at q)

-- ---- handing over

pub refused-handed : (set other : SortedVecSet) (es os : List ℕ) (refusal : Refusal)
    → number refusal ≡ verdict (judged (bytes_of set es) ∷ judged (bytes_of other os) ∷ [])
    → handed set other (Err refusal) es os ≡ taking (bytes_of set es) (bytes_of other os)
unfolding handed taking result refused bytes_of
refused-handed set other es os refusal e =
    rw (← e, ne_eqb (number refusal) 0 (number_some refusal), ne_eqb (number refusal) 0 (number_some refusal))

-- no room in the set that is to be filled
pub lacking_handed : {set other : SortedVecSet} {es os : List ℕ} → Sound set es × Sound other os → length os < set.count
    → handed set other (Err Room) es os ≡ taking (bytes_of set es) (bytes_of other os)
unfolding handed taking result refused members bytes_of number
lacking_handed {set} {es = es} {os} h k = rw (two_none h, count-is h.0, lt-leb set.count (length os) k)

pub served-handed : {set other : SortedVecSet} {es os front new : List ℕ} → Sound set es × Sound other os → set.count ≤ length os
    → new ≡ row (length os) (take set.count es) → front ≡ replicate (length (take set.count es)) 0
    → handed set other (Ok (record { count = 0 }, record { count = set.count })) (front ++ drop set.count es) new
    ≡ taking (bytes_of set es) (bytes_of other os)
unfolding handed taking result encode members bytes_of
served-handed {set} {es = es} {os} {front} h k w e =
    rw (two_none h, count-is h.0, le-leb set.count (length os) k, w, row_emptied set.count es h.0.beyond front h.0.within e)

-- ---- merging and reading

-- what a merge has put in front of a scratch fits in it
pub front_fits : {n : ℕ} {merged : List ℕ} (scratch : List ℕ) → (n ≡ length merged) × (take n scratch ≡ merged) → n ≤ length scratch
front_fits {n} scratch e = omega (arith, length-take n scratch, ap length e.1)

pub contained_answer : (x : ℕ) {set : SortedVecSet} {es : List ℕ} {f : Result ℕ ℕ} {r : Answer} → Sound set es
    → f ≡ found x (take set.count es) → r ≡ told f → r ≡ containing x (bytes_of set es)
unfolding containing members bytes_of
contained_answer x {set} {es} {f} h e q =
    served-answer (sound_none h) (ap truth (ap present e ∙ found-present x (take set.count es))) (q ∙ told_is f)

pub empty_answer : {set : SortedVecSet} {es : List ℕ} {value : ℕ} {r : Answer} → Sound set es → value ≡ truth (eqb set.count 0)
    → r ≡ record { number = 0; value = value } → r ≡ emptiness (bytes_of set es)
unfolding emptiness members bytes_of
empty_answer h a q = served-answer (sound_none h) (a ∙ ap (λ (n : ℕ). truth (eqb n 0)) (sym (count-is h))) q
