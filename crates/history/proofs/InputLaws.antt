-- Reading an input a line at a time: what is left of it, and that none is left where no line is. Assumes nothing.
use Rattle.std.proofs.Common.{◌≡◌, refl, sym, ap, subst, ◌∙◌, ℕ, ◌+◌, ◌-◌, ◌*◌, ◌^◌, ◌<◌, ◌≤◌, List, [], Option, Some, None, inl, inr, IfSome, length, take, drop, arith, take_all, drop_of_length-le, length-take-le}
use borrow.Author.Tests.{eq-eqb, ne_eqb}
use Rattle.std.proofs.lemmas.Bool.{cases_lt}
use Rattle.std.proofs.lemmas.List.{drop-drop}
use Rattle.history.specs.declared.line.Line.{Line}
use Rattle.history.specs.Lines.{line_of}

no_some : {A : Type 0} {x : A} → None ≡ Some x → ⊥
no_some e = subst (λ o. IfSome o (λ x. ⊥)) e tt

-- fewer bytes than a line has say none
pub shorter : (bytes : List ℕ) → line_of (take 31 bytes) ≡ None → length bytes < 31
unfolding line_of
shorter bytes none =
    elim (cases_lt (length bytes) 31) [
      | inl fewer ↦ fewer
      | inr enough ↦ absurd (no_some (sym (rw (eq-eqb (length (take 31 bytes)) 31 (length-take-le 31 bytes enough)) at none)))
    ]

pub longer : (bytes : List ℕ) (line : Line) → line_of (take 31 bytes) ≡ Some line → 31 ≤ length bytes
unfolding line_of
longer bytes line said =
    elim (cases_lt (length bytes) 31) [
      | inl fewer ↦
          let short : length (take 31 bytes) ≡ length bytes = ap length (take_all 31 bytes (omega arith)) in
          absurd (no_some (rw (ne_eqb (length (take 31 bytes)) 31 (λ e. omega arith)) at said))
      | inr enough ↦ enough
    ]

-- so many lines have been read
abbrev pub LinesRead : Option (List ℕ) → Option (List ℕ) → ℕ → Type 0
LinesRead old new n = IfSome old (λ bytes. new ≡ Some (drop (31 * n) bytes))

pub read_none : (a : Option (List ℕ)) → LinesRead a a 0
read_none None = tt
read_none (Some bytes) = refl

-- what holds of the bytes left holds of those behind the lines that are read
pub behind : (b : Option (List ℕ)) (n : ℕ) (bytes : List ℕ) (P : List ℕ → Type 0) → b ≡ Some (drop (31 * n) bytes) → IfSome b P → P (drop (31 * n) bytes)
behind b n bytes P before holds = subst (λ b. IfSome b P) before holds

pub read_one_more : (a b c : Option (List ℕ)) (n : ℕ) → LinesRead a b n → IfSome b (λ bytes. c ≡ Some (drop 31 bytes)) → LinesRead a c (n + 1)
read_one_more None b c n before now = tt
read_one_more (Some bytes) b c n before now =
    behind b n bytes (λ left. c ≡ Some (drop 31 left)) before now ∙ ap Some (drop-drop 31 (31 * n) bytes ∙ ap (λ k. drop k bytes) (omega arith))

-- more lines than an input of less than 2 ^ 64 bytes has
pub read_all : (a b : Option (List ℕ)) (n : ℕ) → LinesRead a b n → 2 ^ 64 - 1 ≤ n
    → IfSome a (λ bytes. length bytes < 2 ^ 64 → b ≡ Some [])
read_all None b n before most = tt
read_all (Some bytes) b n before most = λ short. before ∙ ap Some (drop_of_length-le bytes (omega arith))

-- no line is left
pub read_to_the_end : (a b c : Option (List ℕ)) (n : ℕ) (line : Option Line) → LinesRead a b n
    → IfSome b (λ bytes. line ≡ line_of (take 31 bytes)) → IfSome b (λ bytes. c ≡ Some (drop 31 bytes)) → line ≡ None
    → IfSome a (λ bytes. length bytes < 2 ^ 64 → c ≡ Some [])
read_to_the_end None b c n line before is now none = tt
read_to_the_end (Some bytes) b c n line before is now none = λ small.
    let left = drop (31 * n) bytes in
    let few = shorter left (sym (behind b n bytes (λ left. line ≡ line_of (take 31 left)) before is) ∙ none) in
    behind b n bytes (λ left. c ≡ Some (drop 31 left)) before now ∙ ap Some (drop_of_length-le left {i = 31} (omega arith))
