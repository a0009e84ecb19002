-- The adaptive set's memory: "A header (mode 0 dense or 1 sparse, span, count), W words (32 to 8,192) and K keys (0 to 16,384)."
-- Which bytes are sound, the state that they hold, and the bytes of a state. Assumes nothing.
use Rattle.std.specs.Prelude.{Bool, true, false, not, ◌&&◌, List, ◌≡◌, ℕ, ◌*◌, ◌-◌, ◌^◌, ◌≤◌, ◌<◌, eqb, leb, ltb, length, get_or, take, drop, replicate}
use Rattle.words.specs.Sets.{pick, Ascending, Below}
use Rattle.words.specs.Words as words
use Rattle.words.specs.Words.{needed, zeros, words_of, Words}
use Rattle.ascending.specs.Order.{ascends, row}
use Rattle.adaptive_rules.specs.States.{State, narrow, wide, sparse, members}

pub record Header : Type 0 where
  pub mode : ℕ
  pub span : ℕ
  pub count : ℕ

pub record Bytes : Type 0 where
  pub header : Header
  pub words : List ℕ
  pub keys : List ℕ

-- "W words (32 to 8,192) and K keys (0 to 16,384)"
unfoldable pub in_range : Bytes → Bool
in_range b = leb 32 (length b.words) && (leb (length b.words) 8192 && leb (length b.keys) 16384)

-- ---- states and bytes

-- the header's count of a state: "stored count 0" where narrow, "count exact" where wide, the number of keys where sparse
unfoldable pub stored : State → ℕ
stored (narrow p l) = 0
stored (wide l) = length l
stored (sparse l) = length l

-- the state that bytes hold
unfoldable pub view : Bytes → State
view b =
    pick (eqb b.header.mode 0)
    (pick (leb b.header.span 32) (narrow b.header.span (words.members b.words)) (wide (words.members b.words)))
    (sparse (take b.header.count b.keys))

-- the bytes of a state in W words and K keys: "The members, W, K, mode and narrow span fix every byte."
unfoldable pub encode : ℕ → ℕ → State → Bytes
encode W K (narrow p l) =
    record { header = record { mode = 0; span = p; count = stored (narrow p l) }; words = words_of W l; keys = replicate K 0 }
encode W K (wide l) =
    record { header = record { mode = 0; span = needed l; count = stored (wide l) }; words = words_of W l; keys = replicate K 0 }
encode W K (sparse l) =
    record { header = record { mode = 1; span = 0; count = stored (sparse l) }; words = replicate W 0; keys = row K l }

-- ---- soundness: "Sound means one of"

-- "narrow: dense, span at most 32, stored count 0; trailing zero words allowed; words past the span 0; all keys 0." The count is
-- judged for all three in `sound`
unfoldable pub sound_narrow : Bytes → Bool
sound_narrow b = leb b.header.span 32 && (zeros (drop b.header.span b.words) && zeros b.keys)

-- "wide: dense, span 33 to W, last word of the span not 0, count exact, span at most 4 × count; words past the span 0; all keys 0."
unfoldable pub sound_wide : Bytes → Bool
sound_wide b =
    ltb 32 b.header.span
    && (leb b.header.span (length b.words)
    && (not (eqb (get_or b.words (b.header.span - 1) 0) 0)
    && (leb b.header.span (4 * b.header.count)
    && (zeros (drop b.header.span b.words) && zeros b.keys))))

-- "sparse: span 0, count at most K, the first count keys strictly ascending, later keys 0, all words 0. Key 0 is a lawful member."
unfoldable pub sound_sparse : Bytes → Bool
sound_sparse b =
    eqb b.header.span 0
    && (leb b.header.count (length b.keys)
    && (ascends (take b.header.count b.keys)
    && (zeros (drop b.header.count b.keys) && zeros b.words)))

-- a mode other than 0 and 1 is not sound
unfoldable pub sound : Bytes → Bool
sound b =
    eqb b.header.count (stored (view b))
    && pick (eqb b.header.mode 0) (pick (leb b.header.span 32) (sound_narrow b) (sound_wide b))
    (pick (eqb b.header.mode 1) (sound_sparse b) false)

-- lent in range, and sound
pub record Sound (b : Bytes) : Type 0 where
  pub in_range : in_range b ≡ true
  pub sound : sound b ≡ true

-- words and keys as slices hold them
pub record Slices (b : Bytes) : Type 0 where
  pub words : Words b.words
  pub keys : Below (2 ^ 32) b.keys

-- ---- lawful states

-- what W words and K keys can hold: a narrow span is at most 32 and at least the exact one, a wide exact span is 33 to W and at most
-- 4 × count, a sparse count is at most K
unfoldable pub Fits : ℕ → ℕ → State → Type 0
Fits W K (narrow p l) = (needed l ≤ p) × (p ≤ 32)
Fits W K (wide l) = (32 < needed l) × (needed l ≤ W) × (needed l ≤ 4 * length l)
Fits W K (sparse l) = length l ≤ K

pub record Lawful (W K : ℕ) (s : State) : Type 0 where
  pub ascending : Ascending (members s)
  pub below : Below (2 ^ 32) (members s)
  pub fits : Fits W K s
