-- What calls on a sound set come to, on the state that it holds. Assumes nothing.
use Rattle.std.proofs.Common.{◌≡◌, Bool, true, false, ℕ, ◌≤◌, eqb, leb, List, [], ◌∷◌, ◌++◌, length, take, drop, replicate, Result, Ok, refl, sym, ap, ◌∙◌, arith}
use Rattle.std.specs.Result.{is_ok}
use lib.ListN.{length-replicate}
use lib.Seq.{length_front}
use borrow.Author.Tests.{le-leb, leb-true}
use Rattle.words.specs.Sets.{pick, has}
use Rattle.words.specs.Words as words
use Rattle.words.specs.Words.{at, count, zeros, words_of, flips}
use Rattle.words.proofs.Cases.{and_parts, pick-case}
use Rattle.words.proofs.RowLaws.{zeros-is, zeros-append, zeros-replicate}
use Rattle.words.proofs.MemberLaws.{has-members, members_front}
use Rattle.ascending.specs.Search.{found}
use Rattle.answers.specs.Answers.{Answer, truth}
use Rattle.adaptive_rules.specs.States as states
use Rattle.adaptive_rules.specs.States.{narrow, members}
use Rattle.adaptive_rules.specs.Rules.{cleared}
use Rattle.adaptive_rules.specs.Bytes.{Bytes, in_range, stored, view, encode, Sound}
use Rattle.adaptive_rules.specs.Calls.{containing, counting, emptiness, clearing, effect, value, refusal, first, limited, index, measured, fit, answer, operands, viewed, written, result_of}
use Rattle.adaptive_rules.proofs.CallLaws.{AllSound, served, sound-answer}
use Rattle.adaptive_index_set.specs.declared.Header.{Header}
use Rattle.adaptive_index_set.specs.Contract.{bytes_of, left}

-- ---- reads

module _ {b : Bytes} (s : Sound b) where
  pub contained : (i : ℕ) → (result_of (containing i) b).answer
      ≡ pick (leb i 4294967295) (record { number = 0; value = truth (has (members (view b)) i) }) (record { number = 3; value = 0 })
  unfolding AllSound operands viewed answer first index limited fit effect refusal value
  contained i = sound-answer (containing i) b (s, tt) ∙ go (leb i 4294967295)
    where
      go : (t : Bool) → first (refusal (pick t 0 3) ∷ refusal 0 ∷ []) (record { number = 0; value = truth (has (members (view b)) i) })
          ≡ pick t (record { number = 0; value = truth (has (members (view b)) i) }) (record { number = 3; value = 0 })
      go true = refl
      go false = refl

  pub counted : (result_of counting b).answer ≡ record { number = 0; value = states.count (view b) }
  unfolding AllSound operands viewed answer first index fit effect refusal value
  counted = sound-answer counting b (s, tt)

  pub emptied : (result_of emptiness b).answer ≡ record { number = 0; value = truth (eqb (states.count (view b)) 0) }
  unfolding AllSound operands viewed answer first index fit effect refusal value
  emptied = sound-answer emptiness b (s, tt)

-- what a search says of an element, and words of an index
pub found_has : (x : ℕ) (l : List ℕ) → is_ok (found x l) ≡ has l x
unfolding found
found_has x l = pick-case (λ (f : Result ℕ ℕ). is_ok f ≡ has l x) (has l x) (λ e. sym e) (λ e. sym e)

pub at_has : (ws : List ℕ) (i : ℕ) → at ws i ≡ has (words.members ws) i
at_has ws i = sym (has-members ws i)

-- words count as their front does, where the others are 0
pub count_front : (k : ℕ) (ws : List ℕ) → zeros (drop k ws) ≡ true → count (take k ws) ≡ length (words.members ws)
unfolding count
count_front k ws z = ap length (members_front k ws z)

pub ruleset reads = (contained, counted, emptied, found_has, at_has, count_front)

-- ---- clearing

-- a front set to 0, before a rest that is 0
pub all_zero : (n : ℕ) (l front : List ℕ) → front ≡ replicate (length (take n l)) 0 → zeros (drop n l) ≡ true
    → front ++ drop n l ≡ replicate (length l) 0
all_zero n l front e z =
    let long = length_front l front n (ap length e ∙ length-replicate _ 0) in
    zeros-is (front ++ drop n l) (rw (zeros-append front (drop n l), e, z, zeros-replicate)) ∙ ap (λ (k : ℕ). replicate k 0) long

module _ (h : Header) (ws ks : List ℕ) where
  pub cleared_left : {p : ℕ} {new keys : List ℕ} → Sound (bytes_of h ws ks) → cleared (view (bytes_of h ws ks)) ≡ narrow p [] → p ≤ 32
      → new ≡ replicate (length ws) 0 → keys ≡ replicate (length ks) 0
      → left h (Ok (record { mode = 0; span = p; count = 0 })) new keys ≡ result_of clearing (bytes_of h ws ks)
  unfolding left bytes_of result_of in_range AllSound operands viewed answer first index fit effect refusal value measured written encode stored words_of flips
  cleared_left {p} s e l w k =
      let b = bytes_of h ws ks in
      let low : p ≤ length ws = omega (arith, leb-true 32 (length ws) (and_parts (leb 32 (length ws)) _ s.in_range).0) in
      let gives : (result_of clearing b).answer ≡ record { number = 0; value = 0 } =
      sound-answer clearing b (s, tt) ∙ rw (e, le-leb p (length ws) low) in
      let leaves : (result_of clearing b).bytes ≡ encode (length ws) (length ks) (narrow p []) =
      (served clearing b (ap (λ (a : Answer). a.number) gives)).bytes ∙ rw e in
      rw (w, k) cc
