-- The adaptive set's states: narrow with a span, wide, sparse; each with its members, an ascending list. Assumes nothing.
use Rattle.std.specs.Prelude.{Bool, true, false, List, [], ℕ, length}
use Rattle.words.specs.Words.{needed}

pub data State : Type 0 where
  narrow : ℕ → List ℕ → State
  wide : List ℕ → State
  sparse : List ℕ → State

abbrev pub members : State → List ℕ
members (narrow p l) = l
members (wide l) = l
members (sparse l) = l

abbrev pub count : State → ℕ
count s = length (members s)

-- the stored span where narrow, the exact one elsewhere
abbrev pub span : State → ℕ
span (narrow p l) = p
span (wide l) = needed l
span (sparse l) = needed l

abbrev pub is_narrow : State → Bool
is_narrow (narrow p l) = true
is_narrow (wide l) = false
is_narrow (sparse l) = false

abbrev pub is_sparse : State → Bool
is_sparse (narrow p l) = false
is_sparse (wide l) = false
is_sparse (sparse l) = true

-- "Preparing .. gives narrow with span 0."
abbrev pub prepared : State
prepared = narrow 0 []
