-- Rows as chains of iterators give them: word by word where all of them reach, and what follows. Assumes nothing.
use Rattle.std.proofs.Common.{◌≡◌, refl, sym, ap, ◌∙◌, ℕ, ◌+◌, ◌-◌, ◌≤◌, ◌<◌, min, Bool, true, false, List, [], ◌∷◌, ◌++◌, map, length, reverse, bit_and, bit_xor, arith, Option, None, Some, unwrap_or}
use Rattle.std.specs.List.{zip, AllWithin, HoldsAt}
use Rattle.std.specs.Option.{MatchOption}
use Rattle.std.proofs.lemmas.Slice.Zip.{length-zip}
use Rattle.std.proofs.lemmas.List.{map-append}
use Rattle.std.proofs.lemmas.Iterator.{index_from_first}
use borrow.Author.Tests.{eq-eqb, ne_eqb}
use lib.Dec.{eqb}
use mathlib.Core.List.{reverse-cons, reverse-reverse}
use lib.ListN.{length-reverse}
use Rattle.words.specs.Sets.{pick}
use Rattle.words.specs.Words.{exact, exact_from, ands, xors}
use Rattle.words.proofs.RowLaws.{ands-append, xors-append, xors-none, length-ands, length-xors, exact-append, exact-le, exact_none, count-le}

-- ---- rows word by word

ands-zip : (a b : List ℕ) → map (λ p. bit_and p.0 p.1) (zip a b) ≡ ands a b
unfolding ands
ands-zip [] b = refl
ands-zip (x ∷ a) [] = refl
ands-zip (x ∷ a) (y ∷ b) = ap (λ (l : List ℕ). bit_and x y ∷ l) (ands-zip a b)

xors-zip : (a b : List ℕ) → length a ≡ length b → map (λ p. bit_xor p.0 p.1) (zip a b) ≡ xors a b
unfolding xors
xors-zip [] [] h = refl
xors-zip [] (y ∷ b) h = absurd (omega arith)
xors-zip (x ∷ a) [] h = absurd (omega arith)
xors-zip (x ∷ a) (y ∷ b) h = ap (λ (l : List ℕ). bit_xor x y ∷ l) (xors-zip a b (omega arith))

-- a third row in front
three-zip : (f g : ℕ → ℕ → ℕ) (c a b : List ℕ) → map (λ p. f p.0 (g p.1.0 p.1.1)) (zip c (zip a b)) ≡ map (λ p. f p.0 p.1) (zip c (map (λ p. g p.0 p.1) (zip a b)))
three-zip f g [] a b = refl
three-zip f g (z ∷ c) [] b = refl
three-zip f g (z ∷ c) (x ∷ a) [] = refl
three-zip f g (z ∷ c) (x ∷ a) (y ∷ b) = ap (λ (l : List ℕ). f z (g x y) ∷ l) (three-zip f g c a b)

-- ---- the words that stand in every row, and the rests

module _ {a b : List ℕ} (a₀ a₁ b₀ b₁ : List ℕ) (e : a ≡ a₀ ++ a₁) (d : b ≡ b₀ ++ b₁) (h : length a₀ ≡ length b₀) where
  pub ands-parts : map (λ p. bit_and p.0 p.1) (zip a₀ b₀) ++ ands a₁ b₁ ≡ ands a b
  ands-parts = rw (e, d, ands-zip a₀ b₀) (sym (ands-append a₀ a₁ b₀ b₁ h))

  pub xors-parts : map (λ p. bit_xor p.0 p.1) (zip a₀ b₀) ++ xors a₁ b₁ ≡ xors a b
  xors-parts = rw (e, d, xors-zip a₀ b₀ h) (sym (xors-append a₀ a₁ b₀ b₁ h))

  module _ {c : List ℕ} (c₀ c₁ : List ℕ) (u : c ≡ c₀ ++ c₁) (l : length c₀ ≡ length a₀) where
    pub xors-ands-parts : map (λ p. bit_xor p.0 (bit_and p.1.0 p.1.1)) (zip c₀ (zip a₀ b₀)) ++ xors c₁ (ands a₁ b₁) ≡ xors c (ands a b)
    xors-ands-parts = rw (three-zip bit_xor bit_and c₀ a₀ b₀, ands-zip a₀ b₀, u, e, d, ands-append a₀ a₁ b₀ b₁ h, xors-zip c₀ (ands a₀ b₀) (simp length-ands (omega arith)))
        (sym (xors-append c₀ c₁ (ands a₀ b₀) (ands a₁ b₁) (simp length-ands (omega arith))))

    pub xors-xors-parts : map (λ p. bit_xor p.0 (bit_xor p.1.0 p.1.1)) (zip c₀ (zip a₀ b₀)) ++ xors c₁ (xors a₁ b₁) ≡ xors c (xors a b)
    xors-xors-parts = rw (three-zip bit_xor bit_xor c₀ a₀ b₀, xors-zip a₀ b₀ h, u, e, d, xors-append a₀ a₁ b₀ b₁ h, xors-zip c₀ (xors a₀ b₀) (simp length-xors (omega arith)))
        (sym (xors-append c₀ c₁ (xors a₀ b₀) (xors a₁ b₁) (simp length-xors (omega arith))))

nothing : {A : Type 0} (l : List A) → length l ≡ 0 → l ≡ []
nothing [] e = refl
nothing (x ∷ l) e = absurd (omega arith)

-- f, the count or the exact span, of rests of which one is empty
module _ (f : List ℕ → ℕ) (none : f [] ≡ 0) (a b : List ℕ) (h : min (length a) (length b) ≡ 0) where
  pub ands-rest : 0 ≡ f (ands a b)
  ands-rest = sym (ap f (nothing (ands a b) (length-ands a b ∙ h)) ∙ none)

  pub xors-rest : {x y : ℕ} → x ≡ f a → y ≡ f b → x + y ≡ f (xors a b)
  unfolding xors
  xors-rest = go a b h
    where
      go : (a b : List ℕ) → min (length a) (length b) ≡ 0 → {x y : ℕ} → x ≡ f a → y ≡ f b → x + y ≡ f (xors a b)
      go [] b h p q = omega (arith, none)
      go (x ∷ a) [] h p q = omega (arith, none)
      go (x ∷ a) (y ∷ b) h p q = absurd (omega arith)

module _ (f : List ℕ → ℕ) (c a b : List ℕ) {x : ℕ} where
  pub rest-first : length c ≡ 0 → x ≡ f (xors a b) → x ≡ f (xors c (xors a b))
  unfolding xors
  rest-first h e = rw (nothing c h) e

  pub rest-second : length a ≡ 0 → x ≡ f (xors c b) → x ≡ f (xors c (xors a b))
  unfolding xors
  rest-second h e = rw (nothing a h) e

  pub rest-third : (length c ≡ 0 → ⊥) → (length a ≡ 0 → ⊥) → min (length c) (min (length a) (length b)) ≡ 0 → x ≡ f (xors c a) → x ≡ f (xors c (xors a b))
  rest-third n m h e = rw (nothing b (omega arith), xors-none a) e

-- ---- from the last words down

zip-append : {A B : Type 0} (a : List A) (b : List B) (c : List A) (d : List B) → length a ≡ length b → zip (a ++ c) (b ++ d) ≡ zip a b ++ zip c d
zip-append [] [] c d h = refl
zip-append [] (y ∷ b) c d h = absurd (omega arith)
zip-append (x ∷ a) [] c d h = absurd (omega arith)
zip-append {A} {B} (x ∷ a) (y ∷ b) c d h = ap (λ (l : List (A × B)). (x, y) ∷ l) (zip-append a b c d (omega arith))

reverse-zip : {A B : Type 0} (a : List A) (b : List B) → length a ≡ length b → zip (reverse a) (reverse b) ≡ reverse (zip a b)
reverse-zip [] [] h = refl
reverse-zip [] (y ∷ b) h = absurd (omega arith)
reverse-zip (x ∷ a) [] h = absurd (omega arith)
reverse-zip {A} {B} (x ∷ a) (y ∷ b) h =
    rw (reverse-cons x a, reverse-cons y b, reverse-cons (x, y) (zip a b), zip-append (reverse a) (reverse b) (x ∷ []) (y ∷ []) (simp length-reverse (omega arith)))
    (ap (λ (l : List (A × B)). l ++ (x, y) ∷ []) (reverse-zip a b (omega arith)))

map-reverse : {A B : Type 0} (h : A → B) (xs : List A) → map h (reverse xs) ≡ reverse (map h xs)
map-reverse h [] = refl
map-reverse {B = B} h (x ∷ xs) = rw (reverse-cons x xs, reverse-cons (h x) (map h xs), map-append h (reverse xs) (x ∷ [])) (ap (λ (l : List B). l ++ h x ∷ []) (map-reverse h xs))

-- two rows and three
pub two-down : {A B C : Type 0} (h : A × B → C) (a : List A) (b : List B) → length a ≡ length b → map h (zip (reverse a) (reverse b)) ≡ reverse (map h (zip a b))
two-down h a b e = rw (reverse-zip a b e) (map-reverse h (zip a b))

pub three-down : {A B C D : Type 0} (h : A × (B × C) → D) (c : List A) (a : List B) (b : List C)
    → length a ≡ length b → length c ≡ length a → map h (zip (reverse c) (zip (reverse a) (reverse b))) ≡ reverse (map h (zip c (zip a b)))
three-down h c a b e l = rw (reverse-zip a b e) (two-down h c (zip a b) (simp length-zip (omega arith)))

-- ---- the exact span

-- a word behind a row
exact-push : (ws : List ℕ) (w : ℕ) → exact (ws ++ w ∷ []) ≡ pick (eqb w 0) (exact ws) (length ws + 1)
unfolding exact exact_from
exact-push ws w = exact-append ws (w ∷ []) ∙ by_test (eqb w 0) (exact ws)
  where
    by_test : (zero : Bool) (n : ℕ) → let one : ℕ = pick zero 0 1 in pick (eqb one 0) n (length ws + one) ≡ pick zero n (length ws + 1)
    by_test true n = refl
    by_test false n = refl

-- the first word that is not 0 from the last down, or that there is none
abbrev pub FirstDown : List ℕ → Option ℕ → Type 0
FirstDown ws r = MatchOption r (AllWithin (λ w. w ≡ 0) ws 0 (length ws)) (λ i. (i < length ws) × HoldsAt (λ w. w ≡ 0 → ⊥) ws i × AllWithin (λ w. w ≡ 0) ws 0 i)

-- how many words are 0 from the last down
zeros-down : (ws : List ℕ) (r : Option ℕ) → FirstDown ws r → length ws - exact (reverse ws) ≡ unwrap_or r (length ws)
zeros-down = index_from_first (λ ws. length ws - exact (reverse ws)) (λ w. w ≡ 0 → ⊥) (λ w. w ≡ 0) (omega (arith, exact_none))
    (λ w ws h. rw (reverse-cons w ws, exact-push (reverse ws) w, ne_eqb w 0 h, length-reverse ws) (omega arith))
    (λ w ws z. rw (reverse-cons w ws, exact-push (reverse ws) w, eq-eqb w 0 z) (omega (arith, exact-le (reverse ws), length-reverse ws)))

-- of a row whose first k words are ws and whose others are tail
module _ (ws tail : List ℕ) {k rest : ℕ} (long : length ws ≡ k) (e : rest ≡ exact tail) where
  pub exact-rest : 0 < rest → k + rest ≡ exact (ws ++ tail)
  exact-rest h = sym (exact-append ws tail ∙ rw (← e, ne_eqb rest 0 (λ z. omega arith), long))

  pub exact-down : (r : Option ℕ) {n : ℕ} → rest ≤ 0 → FirstDown (reverse ws) r → MatchOption r (n ≡ 0) (λ i. n ≡ k - i) → n ≡ exact (ws ++ tail)
  exact-down r h f m =
      let zeros : k - exact ws ≡ unwrap_or r k = rw (length-reverse ws, reverse-reverse ws, long) at (zeros-down (reverse ws) r f) in
      let is : exact (ws ++ tail) ≡ exact ws = exact-append ws tail ∙ rw (← e, eq-eqb rest 0 (omega arith)) in
      left r m zeros is
    where
      left : (r : Option ℕ) {n : ℕ} → MatchOption r (n ≡ 0) (λ i. n ≡ k - i) → k - exact ws ≡ unwrap_or r k → exact (ws ++ tail) ≡ exact ws → n ≡ exact (ws ++ tail)
      left None m z d = omega (arith, exact-le ws)
      left (Some i) m z d = omega (arith, exact-le ws)

-- what a sum of counts or of exact spans is at most
pub ruleset limits = (count-le, exact-le, length-ands, length-xors)
