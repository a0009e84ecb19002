-- What a line of a history asks for, what its call leaves, and what is printed after it; oracle/README.md has the table of
-- operations. Assumes nothing.
use Rattle.std.specs.Prelude.{ℕ, Bool, true, false, min, List, [], ◌∷◌, ◌++◌, length, set, slice_index, take, Some, Result, Ok, Err, ◌==◌, nat_lt, if◌then◌else◌}
use Rattle.std.specs.List.{flat_map}
use Rattle.words.specs.Words.{members}
use Rattle.answers.specs.Answers.{Answer, number as refusal_number}
use Rattle.answers.specs.declared.Refusal.TheVariants.{Length}
use Rattle.history.specs.Faults.{number, answer_of}
use Rattle.history.specs.Fields.{answer_fields, member_line}
use Rattle.history.specs.Lines.{lower}
use Rattle.history.specs.Operations.{is_dump}
use Rattle.history.specs.States.{header_of as header}
use Rattle.history.specs.declared.fault.Fault.TheVariants.{Unknown}
use Rattle.history.specs.declared.line.Line.{Line}
use Rattle.history.specs.declared.operation.Operation.{Operation}
use Rattle.history.specs.declared.operation.Operation.TheVariants.{New, Insert, Remove, Toggle, Contains, Len, Clear, Xor, IntersectionCount, XorIntersection, XorSymmetricDifference, IsEmpty, Eq, Dump, Push, FlipList, FlipListShared, CountList, TakeClearing, SetSingle}
use Rattle.history.specs.declared.state.State.{State}
use Rattle.bitset.specs.declared.BitSet.{BitSet}
use Rattle.bitset.specs.Calls.{Bytes, Outcome, refused, bytes_of, preparing, inserting, removing, toggling, clearing, xoring, xoring_shared, xoring_unshared, flipping, flipping_shared, containing, counting, emptiness, counting_shared, counting_entries, comparing}

-- the header of one of the three sets; one above 2 counts as 2
abbrev pub header_of : State BitSet → ℕ → BitSet
header_of s place = header (record { span = 0 }) s place

-- what a read leaves: its answer, and the bytes as they were
abbrev pub reading : Answer → Bytes → Outcome
reading answer b = record { answer = answer; bytes = b }

-- a push on a list that is full is refused for its length; it leaves the bytes as they were
abbrev pub pushing : List ℕ → Bytes → Outcome
pushing list b = if nat_lt (length list) 16384 then reading (record { number = 0; value = 0 }) b else refused (refusal_number Length) b

-- what a call on a target leaves, whose number is given: the two operands, of which a read may have the target as the first, and
-- the list, which the slice forms take. What a BitSet doesn't have is refused and changes nothing
unfoldable pub calling : Result Operation ℕ → ℕ → Bytes → Bytes → Bytes → Bytes → List ℕ → Outcome
calling (Ok New) i b other o p list = preparing b.words
calling (Ok Insert) i b other o p list = inserting i b
calling (Ok Remove) i b other o p list = removing i b
calling (Ok Toggle) i b other o p list = toggling i b
calling (Ok Contains) i b other o p list = reading (containing i b) b
calling (Ok Len) i b other o p list = reading (counting b) b
calling (Ok Clear) i b other o p list = clearing b
calling (Ok Xor) i b other o p list = xoring b o
calling (Ok IntersectionCount) i b other o p list = reading (counting_shared b other) b
calling (Ok XorIntersection) i b other o p list = xoring_shared b o p
calling (Ok XorSymmetricDifference) i b other o p list = xoring_unshared b o p
calling (Ok IsEmpty) i b other o p list = reading (emptiness b) b
calling (Ok Eq) i b other o p list = reading (comparing b other) b
calling (Ok Dump) i b other o p list = reading (counting b) b
calling (Ok Push) i b other o p list = pushing list b
calling (Ok FlipList) i b other o p list = flipping list b
calling (Ok FlipListShared) i b other o p list = flipping_shared list b o
calling (Ok CountList) i b other o p list = reading (counting_entries list b) b
calling (Ok TakeClearing) i b other o p list = refused (number Unknown) b
calling (Ok SetSingle) i b other o p list = refused (number Unknown) b
calling (Err code) i b other o p list = refused (number Unknown) b

-- what the call that a line names leaves of a set, with two operands
abbrev pub asked : Line → Bytes → Bytes → Bytes → List ℕ → Outcome
asked line b o p list = calling line.operation line.number b (if line.a == line.set then b else o) o p list

-- the same of the sets that the line names, over their words
abbrev pub call : Line → State BitSet → List ℕ → List ℕ → List ℕ → List ℕ → Outcome
call line s words a b list =
    asked line (bytes_of (header_of s line.set) words) (bytes_of (header_of s line.a) a) (bytes_of (header_of s line.b) b) list

-- whether a call leaves the list empty: the slice forms do, and all that has a code above theirs; 0x10 is a push's
unfoldable pub takes_list : Result Operation ℕ → Bool
takes_list (Ok FlipList) = true
takes_list (Ok FlipListShared) = true
takes_list (Ok CountList) = true
takes_list (Ok TakeClearing) = true
takes_list (Ok SetSingle) = true
takes_list (Ok _) = false
takes_list (Err code) = nat_lt 0x10 code

-- the list after a push, which puts the line's number behind the entries where there is room; any other call keeps it
unfoldable pub pushed : Result Operation ℕ → ℕ → List ℕ → List ℕ
pushed (Ok Push) i list = if nat_lt (length list) 16384 then list ++ i ∷ [] else list
pushed (Ok _) i list = list
pushed (Err _) i list = list

-- the list after a line's call
abbrev pub listed : Line → List ℕ → List ℕ
listed line list = if takes_list line.operation then [] else pushed line.operation line.number list

-- of the buffers of the two other sets, the lower set's first, what is lent to one of them
abbrev pub operand : Line → State BitSet → ℕ → List ℕ → List ℕ → List ℕ
operand line s place first second =
    let buffer = if place == lower line.set then first else second in take (min (slice_index s.lent (min place 2)) (length buffer)) buffer

-- the headers with another one for a set
abbrev pub with_header : List BitSet → ℕ → Bytes → List BitSet
with_header sets place b = set sets (min place 2) (record { span = b.span })

-- the members of a set, a line each; no set is lent more than 8,192 words
abbrev pub member_lines : List ℕ → List ℕ
member_lines words = flat_map member_line (members (take 8192 words))

-- the lines of members before the answer's, which a dump alone has
unfoldable pub dump : Line → List ℕ → List ℕ
dump line words = if is_dump line.operation then member_lines words else []

-- what is printed after a line's calls, whose set is over these words
unfoldable pub printed : Line → State BitSet → List ℕ → List ℕ
printed line s words =
    let own = header_of s line.set in
    dump line words ++ answer_fields (answer_of s.answer) (counting (bytes_of own words)) (Some own.span) ++ 10 ∷ []
