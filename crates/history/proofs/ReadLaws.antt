-- Reading a text a part at a time: what stands at its start is what the reader gave. Assumes nothing.
use Rattle.std.proofs.Common.{◌≡◌, ℕ, ◌+◌, ◌-◌, ◌<◌, ◌≤◌, List, [], ◌++◌, Some, None, Option, IfSome, length, take, drop, sym, ap, subst, ◌∙◌, append-nil, inl, inr, take_all, take_at, drop_at, drop_of_length-le, length-take-le}
use Rattle.std.specs.Io.KnownBytes.{Consumes, IsAtEnd}
use Rattle.std.proofs.Math.Nat.{eq-or-lt_of_le}
use Rattle.std.proofs.KnownBytes.{Consumes-trans}
use borrow.Rule.Slice.PartMut.{put_mid, post_of, take_put}
use lib.Seq.{take-add, take-append-le}

-- the start grows by the part that is read behind it
pub read_more : (a b c : Option (List ℕ)) (text part : List ℕ) (got more : ℕ) → got ≤ length text → more ≤ length part
    → Consumes a b (take got text) → Consumes b c (take more part)
    → Consumes a c (take (got + more) (put_mid got (length text - got) text part))
read_more a b c text part got more within fits before now =
    let put = put_mid got (length text - got) text part in
    let behind = post_of got (length text - got) text in
    let start = take_put got (length text - got) text part within in
    let added = ap (take more) (drop_at (take got text) (part ++ behind) got (length-take-le got text within)) ∙ take-append-le more part behind fits in
    let whole : take (got + more) put ≡ take got text ++ take more part =
    take-add got more put ∙ ap (λ l. l ++ take more (drop got put)) start ∙ ap (λ l. take got text ++ l) added in
    subst (Consumes a c) (sym whole) (Consumes-trans a b c _ _ before now)

-- what is read until n bytes are there or the input ends is the first n bytes of what was left
front : (n : ℕ) (xs ys bs : List ℕ) → length bs ≤ n → xs ≡ bs ++ ys → (length bs < n → ys ≡ []) → take n xs ≡ bs
front n xs ys bs most is end =
    elim (eq-or-lt_of_le most) [
      | inl full ↦ ap (take n) is ∙ take_at bs ys n full
      | inr short ↦ ap (take n) (is ∙ ap (λ l. bs ++ l) (end short) ∙ append-nil bs) ∙ take_all n bs most
    ]

-- and what is left is the rest
back : (n : ℕ) (xs ys bs : List ℕ) → length bs ≤ n → xs ≡ bs ++ ys → (length bs < n → ys ≡ []) → drop n xs ≡ ys
back n xs ys bs most is end =
    elim (eq-or-lt_of_le most) [
      | inl full ↦ ap (drop n) is ∙ drop_at bs ys n full
      | inr short ↦ ap (drop n) (is ∙ ap (λ l. bs ++ l) (end short) ∙ append-nil bs) ∙ drop_of_length-le bs most ∙ sym (end short)
    ]

pub read_first : (a b : Option (List ℕ)) (n : ℕ) (bs : List ℕ) (P : List ℕ → Type 0) → length bs ≤ n → Consumes a b bs
    → (length bs < n → IsAtEnd b) → P bs → IfSome a (λ xs. P (take n xs))
read_first None b n bs P most is end holds = tt
read_first (Some xs) None n bs P most is end holds = absurd is
read_first (Some xs) (Some ys) n bs P most is end holds = subst P (sym (front n xs ys bs most is end)) holds

pub read_rest : (a b : Option (List ℕ)) (n : ℕ) (bs : List ℕ) → length bs ≤ n → Consumes a b bs
    → (length bs < n → IsAtEnd b) → IfSome a (λ xs. b ≡ Some (drop n xs))
read_rest None b n bs most is end = tt
read_rest (Some xs) None n bs most is end = absurd is
read_rest (Some xs) (Some ys) n bs most is end = ap Some (sym (back n xs ys bs most is end))
