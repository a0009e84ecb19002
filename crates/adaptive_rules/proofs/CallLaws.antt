-- What a call's result comes to: refused by the first number that is not 0, with everything as it was; or served, and then every set
-- it names is in range and sound, its index is lawful and the state that it leaves fits. Assumes nothing.
use mathlib.Core.Path.{◌≡◌, refl, sym, ◌∙◌}
use mathlib.Core.Logic.{⊎_elim}
use mathlib.Core.Bool.{Bool, true, false}
use mathlib.Core.List.{List, [], ◌∷◌, ◌++◌, map}
use Prim.Native.Nat.{ℕ}
use native.Mathlib.Omega.{arith}
use lib.Dec.{eqb}
use lib.ListN.{length}
use borrow.Author.Tests.{eq-eqb, ne_eqb}
use Rattle.words.specs.Sets.{pick}
use Rattle.words.proofs.Cases.{same_or_not}
use Rattle.answers.specs.Answers.{Answer}
use Rattle.adaptive_rules.specs.Bytes.{Bytes, in_range, sound, view, Sound}
use Rattle.adaptive_rules.specs.Calls.{Call, keeps, effect, value, refusal, first, range, verdict, index, fit, answer, operands, viewed, judged, written, result_of}

-- ---- the first refusal

-- none of a list refuses
unfoldable pub None : List Answer → Type 0
None [] = Unit
None (r ∷ rs) = (r.number ≡ 0) × None rs

pub first-none : (rs : List Answer) (a : Answer) → None rs → first rs a ≡ a
unfolding None first
first-none [] a h = refl
first-none (r ∷ rs) a h = rw (eq-eqb r.number 0 h.0) (first-none rs a h.1)

pub first-served : (rs : List Answer) (a : Answer) → (first rs a).number ≡ 0 → None rs × (a.number ≡ 0)
unfolding None first
first-served [] a e = (tt, e)
first-served (r ∷ rs) a e =
    ⊎_elim
    (λ z. let rest = first-served rs a (rw (eq-eqb r.number 0 z) at e) in ((z, rest.0), rest.1))
    (λ n. absurd (n (rw (ne_eqb r.number 0 n) at e))) (same_or_not r.number 0)

-- where one refuses, it is given whatever the answer would have been
pub first-refused : (rs : List Answer) (a x : Answer) → a.number ≡ 0 → ((first rs a).number ≡ 0 → ⊥) → first rs x ≡ first rs a
unfolding first
first-refused [] a x z h = absurd (h z)
first-refused (r ∷ rs) a x z h = go (eqb r.number 0) h (first-refused rs a x z)
  where
    go : (t : Bool) → ((pick t (first rs a) r).number ≡ 0 → ⊥) → (((first rs a).number ≡ 0 → ⊥) → first rs x ≡ first rs a)
        → pick t (first rs x) r ≡ pick t (first rs a) r
    go true h rest = rest h
    go false h rest = refl

none-append : (l r : List Answer) → None (l ++ r) → None l × None r
unfolding None
none-append [] r h = (tt, h)
none-append (a ∷ l) r h = let parts = none-append l r h.1 in ((h.0, parts.0), parts.1)

append-none : (l r : List Answer) → None l → None r → None (l ++ r)
unfolding None
append-none [] r f g = g
append-none (a ∷ l) r f g = (f.0, append-none l r f.1 g)

-- ---- judging

-- a test that refuses with n passes exactly when its number is 0
pub passes : (t : Bool) (n : ℕ) → (n ≡ 0 → ⊥) → (refusal (pick t 0 n)).number ≡ 0 → t ≡ true
unfolding refusal
passes true n h e = refl
passes false n h e = absurd (h e)

-- "number 0 exactly when sound"
pub verdict-sound : (b : Bytes) → (verdict b).number ≡ 0 → sound b ≡ true
unfolding verdict
verdict-sound b e = passes (sound b) 2 (λ z. omega arith) e

pub sound-verdict : (b : Bytes) → sound b ≡ true → verdict b ≡ record { number = 0; value = 0 }
unfolding verdict refusal
sound-verdict b e = rw e

pub range_in : (b : Bytes) → (range b).number ≡ 0 → in_range b ≡ true
unfolding range
range_in b e = passes (in_range b) 1 (λ z. omega arith) e

unfoldable pub AllSound : List Bytes → Type 0
AllSound [] = Unit
AllSound (b ∷ sets) = Sound b × AllSound sets

all_sound : (sets : List Bytes) → None (map range sets) → None (map verdict sets) → AllSound sets
unfolding None AllSound
all_sound [] f g = tt
all_sound (b ∷ sets) f g = (record { in_range = range_in b f.0; sound = verdict-sound b g.0 }, all_sound sets f.1 g.1)

sound_none : (sets : List Bytes) → AllSound sets → None (map range sets) × None (map verdict sets)
unfolding None AllSound range verdict refusal
sound_none [] h = (tt, tt)
sound_none (b ∷ sets) h = let rest = sound_none sets h.1 in ((rw h.0.in_range, rest.0), (rw h.0.sound, rest.1))

-- sound sets are refused by nothing before the index
pub judged-none : (c : Call Bytes) (b : Bytes) → AllSound (b ∷ operands c) → None (judged c b)
unfolding judged
judged-none c b h = let parts = sound_none (b ∷ operands c) h in append-none (map range (b ∷ operands c)) (map verdict (b ∷ operands c)) parts.0 parts.1

-- ---- a call's result

-- its answer on the states that the sets hold
abbrev pub given : Call Bytes → Bytes → Answer
given c b = answer (length b.words) (length b.keys) (viewed c) (view b)

pub record Served (c : Call Bytes) (b : Bytes) : Type 0 where
  pub sets : AllSound (b ∷ operands c)
  pub index : (index (viewed c)).number ≡ 0
  pub fits : (fit (length b.words) (length b.keys) (effect (viewed c) (view b))).number ≡ 0
  pub answer : (result_of c b).answer ≡ record { number = 0; value = value (viewed c) (view b) }
  pub bytes : (result_of c b).bytes ≡ written b (effect (viewed c) (view b))

pub served : (c : Call Bytes) (b : Bytes) → (result_of c b).answer.number ≡ 0 → Served c b
unfolding result_of judged answer None
served c b e =
    let outer = first-served (judged c b) (given c b) e in
    let both = none-append (map range (b ∷ operands c)) (map verdict (b ∷ operands c)) outer.0 in
    let inner = first-served _ _ outer.1 in
    record {
      sets = all_sound (b ∷ operands c) both.0 both.1;
      index = inner.0.0;
      fits = inner.0.1.0;
      answer = first-none (judged c b) (given c b) outer.0 ∙ first-none _ _ inner.0;
      bytes = rw (eq-eqb (first (judged c b) (given c b)).number 0 e);
    }

-- a refused call leaves everything as it was
pub refused-same : (c : Call Bytes) (b : Bytes) → ((result_of c b).answer.number ≡ 0 → ⊥) → (result_of c b).bytes ≡ b
unfolding result_of
refused-same c b h = rw (ne_eqb (first (judged c b) (given c b)).number 0 h)

-- and so does a read
pub read_same : (c : Call Bytes) (b : Bytes) → effect (viewed c) (view b) ≡ keeps → (result_of c b).bytes ≡ b
unfolding written
read_same c b k =
    ⊎_elim (λ e. (served c b e).bytes ∙ rw k) (λ n. refused-same c b n) (same_or_not (result_of c b).answer.number 0)

-- over sound sets, a call answers as on the states that they hold
pub sound-answer : (c : Call Bytes) (b : Bytes) → AllSound (b ∷ operands c) → (result_of c b).answer ≡ given c b
unfolding result_of
sound-answer c b h = first-none (judged c b) (given c b) (judged-none c b h)

-- ---- a call on one set

-- what its check refuses with is what the call answers, and where it refuses nothing the set is sound
module _ (b : Bytes) {r : Answer} (e : r ≡ first (range b ∷ verdict b ∷ []) (refusal 0)) where
  pub refused-answer : (c : Call Bytes) → operands c ≡ [] → (r.number ≡ 0 → ⊥) → r ≡ (result_of c b).answer
  unfolding result_of judged refusal
  refused-answer c o h = e ∙ sym (rw o (first-refused (range b ∷ verdict b ∷ []) (refusal 0) (given c b) refl (λ z. h (rw e z))))

  pub answer-sound : r.number ≡ 0 → Sound b
  unfolding None
  answer-sound z =
      let none = (first-served (range b ∷ verdict b ∷ []) (refusal 0) (rw e at z)).0 in
      record { in_range = range_in b none.0; sound = verdict-sound b none.1.0 }
