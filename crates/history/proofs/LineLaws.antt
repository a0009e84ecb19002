-- Digits under way: the number that those before a place spell, and the digits to come. Assumes nothing.
use Rattle.std.proofs.Common.{◌≡◌, ℕ, ◌+◌, ◌*◌, ◌^◌, ◌<◌, ◌≤◌, List, [], length, get_or, drop, sym, refl, ap, ◌∙◌, le_trans, pow-suc, add-one, arith, drop_of_length-le}
use native.Mathlib.Nat.{pow-le-pow_right}
use Rattle.std.proofs.Math.Seq.{drop-cons}
use Rattle.history.specs.Lines.{digit, spelt}

pub record Spelling (digits : List ℕ) (number place : ℕ) : Type 0 where
  pub fits : number < 16 ^ place
  pub is : spelt number (drop place digits) ≡ spelt 0 digits

pub spelling_begin : {digits : List ℕ} → Spelling digits 0 0
spelling_begin = record { fits = omega arith; is = refl }

-- before the last of sixteen digits there is room for one more
pub spelling_room : {digits : List ℕ} {number place : ℕ} → Spelling digits number place → place < length digits → length digits ≤ 16 → number < 2 ^ 60
spelling_room {digits} {number} {place} s more room =
    let most : 16 ^ place ≤ 16 ^ 15 = pow-le-pow_right (omega arith) {j = 15} (omega arith) in
    le_trans s.fits most

pub spelling-next : {digits : List ℕ} {number place d : ℕ} → Spelling digits number place → place < length digits
    → d ≡ digit (get_or digits place 0) → d < 16 → Spelling digits (number * 16 + d) (place + 1)
unfolding spelt
spelling-next {digits} {number} {place} {d} s more e below =
    record {
      fits = rw (add-one, pow-suc) (omega arith);
      is = rw (add-one place, e) (ap (spelt number) (sym (drop-cons digits place 0 more)) ∙ s.is);
    }

pub spelling_end : {digits : List ℕ} {number place : ℕ} → Spelling digits number place → length digits ≤ place → number ≡ spelt 0 digits
unfolding spelt
spelling_end {digits} {number} {place} s done =
    let none : drop place digits ≡ [] = drop_of_length-le digits {i = place} done in
    sym (ap (spelt number) none) ∙ s.is
