-- What a reader has lost where reading a line fails. Assumes nothing.
use Rattle.std.specs.Prelude.{ℕ, ◌<◌, Option, List, length}
use Rattle.std.specs.Io.KnownBytes.{Consumes}

-- fewer than n of the known bytes are gone
abbrev pub LosesFewer : ℕ → Option (List ℕ) → Option (List ℕ) → Type 0
LosesFewer n old new = (bytes : List ℕ) × Consumes old new bytes × (length bytes < n)
