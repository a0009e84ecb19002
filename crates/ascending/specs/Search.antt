-- The place of an element among ascending ones, and what a search answers. Assumes nothing.
use Rattle.std.specs.Prelude.{Bool, true, false, List, [], ◌∷◌, ℕ, suc, ◌+◌, ltb, Result, Ok, Err}
use Rattle.words.specs.Sets.{pick, has}
use Rattle.answers.specs.Answers.{Answer}

-- how many elements stand before the first that is not below x
unfoldable pub place : ℕ → List ℕ → ℕ
place x [] = 0
place x (y ∷ l) = pick (ltb y x) (suc (place x l)) 0

-- what a search for x answers: `Ok` the place where it stands, or `Err` the one where it would stand
unfoldable pub found : ℕ → List ℕ → Result ℕ ℕ
unfolding place
found x l = pick (has l x) (Ok (place x l)) (Err (place x l))

-- whether an answer says that the element is there
unfoldable pub present : Result ℕ ℕ → Bool
present (Ok p) = true
present (Err p) = false

-- the place that an answer names
unfoldable pub place_of : Result ℕ ℕ → ℕ
place_of (Ok p) = p
place_of (Err p) = p

-- an answer about the part from place n on, as one about the whole
unfoldable pub later : ℕ → Result ℕ ℕ → Result ℕ ℕ
later n (Ok p) = Ok (n + p)
later n (Err p) = Err (n + p)

-- what a search's answer comes to as an answer of document 01: "Yes is 1"
unfoldable pub told : Result ℕ ℕ → Answer
told (Ok place) = record { number = 0; value = 1 }
told (Err place) = record { number = 0; value = 0 }
