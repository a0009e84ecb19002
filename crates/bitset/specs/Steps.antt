-- What the contracts of the inner functions cite besides. Assumes nothing.
use Rattle.std.specs.Prelude.{List, [], ◌∷◌, ℕ, ◌+◌, ◌/◌, max}

-- the span that reaches every index of a list, and at least s
unfoldable pub reached : ℕ → List ℕ → ℕ
reached s [] = s
reached s (i ∷ l) = reached (max s (i / 64 + 1)) l
