-- A merge, told by the three flags that the code passes, and one step of it. Assumes nothing.
use Rattle.std.specs.Prelude.{Bool, not, List, ℕ, ◌+◌}
use Rattle.words.specs.Sets.{pick, merge}
use Rattle.ascending.specs.declared.merging.Kept.{Kept}
use Rattle.ascending.specs.declared.merging.Places.{Places}

-- two ascending lists merged
abbrev pub merged : Kept → List ℕ → List ℕ → List ℕ
merged kept l r = merge kept.left kept.right kept.both l r

-- a place, or the next one where it has been passed
unfoldable pub past : ℕ → Bool → ℕ
past place passed = place + pick passed 1 0

-- the flag of the lower of two heads, or of two equal ones
unfoldable pub keeps : Kept → Bool → Bool → Bool
keeps kept less more = pick less kept.left (pick more kept.right kept.both)

-- the places past the lower of two heads, or past both where they are equal
unfoldable pub stepped : Kept → Places → Bool → Bool → Places
unfolding past keeps
stepped kept at less more = record {
  left = past at.left (not more);
  right = past at.right (not less);
  kept = past at.kept (keeps kept less more);
}
