-- Words as sets. Document 01: "A word's members are its one bits, lowest first; index i is bit i % 64 of word i / 64.
-- Count of ones; exact span (last nonzero word's place plus one, 0 if none)." Assumes nothing.
use Rattle.std.specs.Prelude.{Bool, true, not, ◌&&◌, List, [], ◌∷◌, ◌++◌, ℕ, zero, suc, ◌+◌, ◌-◌, ◌/◌, ◌%◌, ◌^◌, ◌<◌, eqb, length, get_or, set, replicate}
use Rattle.std.specs.Int.Bits.{bit_and, bit_xor}
use Rattle.words.specs.Sets.{pick, keep}

-- bit k of the word w
abbrev pub bit : ℕ → ℕ → Bool
bit w k = eqb (w / 2 ^ k % 2) 1

-- index i is bit i % 64 of word i / 64; past the last word no bit is one
abbrev pub at : List ℕ → ℕ → Bool
at ws i = bit (get_or ws (i / 64) 0) (i % 64)

-- the one bits among the n lowest of w, lowest first, where the lowest bit is the index b
unfoldable pub ones_from : ℕ → ℕ → ℕ → List ℕ
ones_from b zero w = []
ones_from b (suc n) w = keep (eqb (w % 2) 1) b (ones_from (suc b) n (w / 2))

-- the place of a word's lowest one, 64 if there is none
unfoldable pub lowest : ℕ → ℕ
unfolding ones_from
lowest w = get_or (ones_from 0 64 w) 0 64

-- the members of words whose first bit is the index b
unfoldable pub members_from : ℕ → List ℕ → List ℕ
unfolding ones_from
members_from b [] = []
members_from b (w ∷ ws) = ones_from b 64 w ++ members_from (b + 64) ws

-- the members of words
abbrev pub members : List ℕ → List ℕ
members ws = members_from 0 ws

-- how many they are
unfoldable pub count : List ℕ → ℕ
unfolding members_from
count ws = length (members ws)

-- the span once the word w at place p has been passed, where s is the span before it
abbrev pub reach : ℕ → ℕ → ℕ → ℕ
reach w p s = pick (eqb w 0) s (suc p)

-- the exact span of words from place p on, where s is that of the words before
unfoldable pub exact_from : ℕ → ℕ → List ℕ → ℕ
exact_from p s [] = s
exact_from p s (w ∷ ws) = exact_from (suc p) (reach w p s) ws

-- last nonzero word's place plus one, 0 if none
unfoldable pub exact : List ℕ → ℕ
unfolding exact_from
exact ws = exact_from 0 0 ws

-- last member ÷ 64 plus one; s if there is none
unfoldable pub needed_from : ℕ → List ℕ → ℕ
needed_from s [] = s
needed_from s (x ∷ l) = needed_from (x / 64 + 1) l

-- the words that the members of an ascending list need: last member ÷ 64 plus one, 0 if there is none
unfoldable pub needed : List ℕ → ℕ
unfolding needed_from
needed l = needed_from 0 l

-- every word is 0
unfoldable pub zeros : List ℕ → Bool
zeros [] = true
zeros (w ∷ ws) = eqb w 0 && zeros ws

-- every word is below 2 ^ 64, as all words of a slice are
unfoldable pub Words : List ℕ → Type 0
Words [] = Unit
Words (w ∷ ws) = (w < 2 ^ 64) × Words ws

-- the word w with bit k made v
unfoldable pub put : ℕ → ℕ → Bool → ℕ
put w k v = w - pick (bit w k) (2 ^ k) 0 + pick v (2 ^ k) 0

-- the words with index i made v
unfoldable pub put_at : List ℕ → ℕ → Bool → List ℕ
unfolding put
put_at ws i v = set ws (i / 64) (put (get_or ws (i / 64) 0) (i % 64) v)

-- index i flipped
unfoldable pub flip : List ℕ → ℕ → List ℕ
unfolding put_at
flip ws i = put_at ws i (not (at ws i))

-- each index of a list flipped, one after another
unfoldable pub flips : List ℕ → List ℕ → List ℕ
unfolding flip
flips ws [] = ws
flips ws (i ∷ l) = flips (flip ws i) l

-- the W words whose members are l, an ascending list below 64 * W
unfoldable pub words_of : ℕ → List ℕ → List ℕ
unfolding flips
words_of W l = flips (replicate W 0) l

-- word by word to the end of the longer, of which a missing word is 0
unfoldable pub xors : List ℕ → List ℕ → List ℕ
xors [] vs = vs
xors (w ∷ ws) [] = w ∷ ws
xors (w ∷ ws) (v ∷ vs) = bit_xor w v ∷ xors ws vs

-- word by word to the end of the shorter: past it no member is in both
unfoldable pub ands : List ℕ → List ℕ → List ℕ
ands [] vs = []
ands (w ∷ ws) [] = []
ands (w ∷ ws) (v ∷ vs) = bit_and w v ∷ ands ws vs

-- the words vs XORed into the words ws, which keep their length
unfoldable pub into : List ℕ → List ℕ → List ℕ
into [] vs = []
into (w ∷ ws) [] = w ∷ ws
into (w ∷ ws) (v ∷ vs) = bit_xor w v ∷ into ws vs
