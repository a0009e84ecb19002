-- What the contracts of the adaptive set's calls say: what a call leaves is the result that the rules give. Assumes nothing.
use Rattle.std.specs.Prelude.{List, ℕ, Result, Ok, Err}
use Rattle.answers.specs.declared.Refusal.{Refusal}
use Rattle.answers.specs.Answers.{number}
use Rattle.answers.specs.Judging.{Judged}
use Rattle.adaptive_rules.specs.Bytes.{Bytes, in_range, sound}
use Rattle.adaptive_rules.specs.Calls.{Outcome}
use Rattle.adaptive_index_set.specs.declared.Header.{Header}
use Rattle.adaptive_index_set.specs.declared.lent.Lent.{Lent}

-- a header over its words and keys
unfoldable pub bytes_of : Header → List ℕ → List ℕ → Bytes
bytes_of h words keys = record { header = record { mode = h.mode; span = h.span; count = h.count }; words = words; keys = keys }

-- a set over its words and keys, lent to be read
abbrev pub lent_bytes : Lent → Bytes
lent_bytes s = bytes_of s.header s.words.now s.keys.now

-- what is found of a set
unfoldable pub judged : Bytes → Judged
judged b = record { in_range = in_range b; sound = sound b }

-- what a call that answers nothing but a header has left of a set, and its words and keys. A refusal gives no header: the one that
-- went in stays
unfoldable pub left : Header → Result Header Refusal → List ℕ → List ℕ → Outcome
unfolding number bytes_of
left h (Ok header) words keys = record { answer = record { number = 0; value = 0 }; bytes = bytes_of header words keys }
left h (Err refusal) words keys = record { answer = record { number = number refusal; value = 0 }; bytes = bytes_of h words keys }
