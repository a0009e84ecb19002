-- The adaptive set's mode rules, sentence by sentence: document 01, "Mode rules". Assumes nothing.
use Rattle.std.specs.Prelude.{Bool, not, ◌&&◌, ◌||◌, List, [], ℕ, ◌+◌, ◌*◌, ◌-◌, ◌/◌, max, min, leb, ltb, length}
use Rattle.words.specs.Sets.{pick, has, insert, remove, toggle, difference, intersection}
use Rattle.words.specs.Words.{needed}
use Rattle.adaptive_rules.specs.States.{State, narrow, wide, sparse, members, span, is_narrow, is_sparse}

-- "limit(n) = max(32, 2n). hold(n) = max(32, 4n)."
unfoldable pub limit : ℕ → ℕ
limit n = max 32 (2 * n)

unfoldable pub hold : ℕ → ℕ
hold n = max 32 (4 * n)

-- "Settle: with t the exact span, narrow with span t if t ≤ 32; else sparse if t > hold(count); else wide."
unfoldable pub settle : List ℕ → State
settle l = pick (leb (needed l) 32) (narrow (needed l) l) (pick (ltb (hold (length l)) (needed l)) (sparse l) (wide l))

-- ---- one index

-- "needed = index / 64 + 1"
unfoldable pub reach : ℕ → ℕ
reach i = i / 64 + 1

-- "Else if needed > span: sparse if needed > limit(count + 1), otherwise grown to needed."
unfoldable pub grown : ℕ → ℕ → List ℕ → State
grown i n l = pick (ltb (limit (n + 1)) (reach i)) (sparse l) (wide l)

-- "insert, toggle, dense .. Narrow and needed ≤ 32: span becomes max(span, needed), no trimming. Else if needed > span .. Else,
-- within a wide span"; "Sparse stays sparse": the state that i, put in or taken out, makes of s, where l are the members then and
-- `within` is the state if i lies within a wide span
unfoldable pub changed : ℕ → State → List ℕ → State → State
changed i (narrow p m) l within = pick (leb (reach i) 32) (narrow (max p (reach i)) l) (grown i (length m) l)
changed i (wide m) l within = pick (ltb (needed m) (reach i)) (grown i (length m) l) within
changed i (sparse m) l within = sparse l

-- "a bit turned on doesn't" settle
unfoldable pub inserted : ℕ → State → State
inserted i s = let l = insert i (members s) in changed i s l (wide l)

-- "a bit turned off settles, a bit turned on doesn't"
unfoldable pub toggled : ℕ → State → State
toggled i s = let l = toggle i (members s) in changed i s l (pick (has (members s) i) (settle l) (wide l))

-- "narrow keeps its span; wide settles"; "Sparse stays sparse under all three, even when emptied."
unfoldable pub without : ℕ → State → State
without i (narrow p m) = narrow p (remove i m)
without i (wide m) = settle (remove i m)
without i (sparse m) = sparse (remove i m)

-- "remove: absent answers false and changes nothing"
unfoldable pub removed : ℕ → State → State
removed i s = pick (has (members s) i) (without i s) s

-- "clear: narrow keeps its span; wide and sparse become narrow with span 0."
unfoldable pub cleared : State → State
cleared (narrow p m) = narrow p []
cleared (wide m) = narrow 0 []
cleared (sparse m) = narrow 0 []

-- ---- XOR

-- an operand: whether its indices are walked, its span and its members
pub record Operand : Type 0 where
  pub walked : Bool
  pub span : ℕ
  pub members : List ℕ

-- "XOR with a dense operand, span s, count n"; "Walk (an XOR operand is sparse ..)": a sparse operand's span is the exact one
unfoldable pub alone : State → Operand
alone o = record { walked = is_sparse o; span = span o; members = members o }

-- "Fused: the operand is their intersection or symmetric difference. Both operands dense: if target and both operands are narrow, s
-- is the smaller span (intersection) or the larger (symmetric difference); otherwise s is the exact span of the combined words";
-- "Walk (.. or either fused operand is)"
unfoldable pub fused : State → State → State → ℕ → List ℕ → Operand
fused t o p s l =
    record {
      walked = is_sparse o || is_sparse p;
      span = pick (is_narrow t && (is_narrow o && is_narrow p)) s (needed l);
      members = l;
    }

unfoldable pub shared : State → State → State → Operand
shared t o p = fused t o p (min (span o) (span p)) (intersection (members o) (members p))

unfoldable pub unshared : State → State → State → Operand
unshared t o p = fused t o p (max (span o) (span p)) (difference (members o) (members p))

-- "(b) Dense, both spans ≤ 32: narrow, span the larger. (c) Else if s > span and s > limit(count + n): sparse. (d) Else XOR over
-- the larger span, then settle": a target of span p and count c, an operand of span s and count n, and the members l afterwards
unfoldable pub xored_dense : ℕ → ℕ → ℕ → ℕ → List ℕ → State
xored_dense p c s n l =
    pick (leb p 32 && leb s 32) (narrow (max p s) l) (pick (ltb p s && ltb (limit (c + n)) s) (sparse l) (settle l))

-- "(a) Sparse target, count c, own exact span o: if c ≤ n and max(s, o) ≤ limit(n − c) it turns dense with span max(s, o) and goes
-- on by (b) or (d); otherwise the result is sparse": by a span of at least s it never goes on by (c). "Walk: a sparse target stays
-- sparse"
unfoldable pub turns : List ℕ → Operand → Bool
turns m o =
    not o.walked
    && (leb (length m) (length o.members) && leb (max o.span (needed m)) (limit (length o.members - length m)))

-- XOR by (a) to (d). "Walk: .. a dense target follows (b) to (d) with the exact span and number of the walked indices, which are
-- the operand's members."
unfoldable pub xored : State → Operand → State
xored (narrow p m) o = xored_dense p (length m) o.span (length o.members) (difference m o.members)
xored (wide m) o = xored_dense (needed m) (length m) o.span (length o.members) (difference m o.members)
xored (sparse m) o =
    let l = difference m o.members in
    pick (turns m o) (xored_dense (max o.span (needed m)) (length m) o.span (length o.members) l) (sparse l)
