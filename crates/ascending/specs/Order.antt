-- Strictly ascending elements, as a test, and a buffer that holds them. Assumes nothing.
use Rattle.std.specs.Prelude.{Bool, true, ◌&&◌, List, [], ◌∷◌, ◌++◌, ℕ, ◌-◌, ltb, length, replicate}

-- each element is above x, and above the one before it
unfoldable pub above : ℕ → List ℕ → Bool
above x [] = true
above x (y ∷ l) = ltb x y && above y l

-- "strictly ascending"
unfoldable pub ascends : List ℕ → Bool
unfolding above
ascends [] = true
ascends (x ∷ l) = above x l

-- the buffer with room for so many that holds a list in front and 0 behind it
unfoldable pub row : ℕ → List ℕ → List ℕ
row room l = l ++ replicate (room - length l) 0
