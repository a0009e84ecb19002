-- What a line of a history asks for, what its call leaves, and what is printed after it; oracle/README.md has the table of
-- operations. Assumes nothing.
use Rattle.std.specs.Prelude.{ℕ, Bool, true, false, min, List, [], ◌∷◌, ◌++◌, set, None, Result, Ok, Err, ◌==◌, if◌then◌else◌}
use Rattle.std.specs.List.{flat_map}
use Rattle.answers.specs.Answers.{Answer}
use Rattle.history.specs.Faults.{number, answer_of}
use Rattle.history.specs.Fields.{answer_fields, member_line}
use Rattle.history.specs.Lines.{lower}
use Rattle.history.specs.Operations.{is_dump}
use Rattle.history.specs.States.{header_of as header}
use Rattle.history.specs.declared.fault.Fault.TheVariants.{Unknown}
use Rattle.history.specs.declared.line.Line.{Line}
use Rattle.history.specs.declared.operation.Operation.{Operation}
use Rattle.history.specs.declared.operation.Operation.TheVariants.{New, Insert, Remove, Toggle, Contains, Len, Clear, Xor, IntersectionCount, XorIntersection, XorSymmetricDifference, IsEmpty, Eq, Dump, Push, FlipList, FlipListShared, CountList, TakeClearing, SetSingle}
use Rattle.history.specs.declared.state.State.{State}
use Rattle.sorted_vec_set.specs.declared.SortedVecSet.{SortedVecSet}
use Rattle.sorted_vec_set.specs.Calls.{Bytes, Outcome, Handed, members, refused, bytes_of, preparing, inserting, removing, toggling, clearing, singling, xoring, xoring_shared, xoring_unshared, containing, counting, emptiness, counting_shared, comparing, taking}

-- the header of one of the three sets; one above 2 counts as 2
abbrev pub header_of : State SortedVecSet → ℕ → SortedVecSet
header_of s place = header (record { count = 0 }) s place

-- what a read leaves: its answer, and the bytes as they were
abbrev pub reading : Answer → Bytes → Outcome
reading answer b = record { answer = answer; bytes = b }

-- what a call on a target leaves that writes one set at most, the line's number being given, and two operands, of which a read
-- may have the target as the first. What a SortedVecSet doesn't have is refused and changes nothing
unfoldable pub calling : Result Operation ℕ → ℕ → Bytes → Bytes → Bytes → Bytes → Outcome
calling (Ok New) x b other o p = preparing b.elements
calling (Ok Insert) x b other o p = inserting x b
calling (Ok Remove) x b other o p = removing x b
calling (Ok Toggle) x b other o p = toggling x b
calling (Ok Contains) x b other o p = reading (containing x b) b
calling (Ok Len) x b other o p = reading (counting b) b
calling (Ok Clear) x b other o p = clearing b
calling (Ok Xor) x b other o p = xoring b o
calling (Ok IntersectionCount) x b other o p = reading (counting_shared b other) b
calling (Ok XorIntersection) x b other o p = xoring_shared b o p
calling (Ok XorSymmetricDifference) x b other o p = xoring_unshared b o p
calling (Ok IsEmpty) x b other o p = reading (emptiness b) b
calling (Ok Eq) x b other o p = reading (comparing b other) b
calling (Ok Dump) x b other o p = reading (counting b) b
calling (Ok Push) x b other o p = refused (number Unknown) b
calling (Ok FlipList) x b other o p = refused (number Unknown) b
calling (Ok FlipListShared) x b other o p = refused (number Unknown) b
calling (Ok CountList) x b other o p = refused (number Unknown) b
calling (Ok TakeClearing) x b other o p = refused (number Unknown) b
calling (Ok SetSingle) x b other o p = singling x b
calling (Err code) x b other o p = refused (number Unknown) b

-- what the call that a line names leaves of a set, with two operands
abbrev pub asked : Line → Bytes → Bytes → Bytes → Outcome
asked line b o p = calling line.operation line.number b (if line.a == line.set then b else o) o p

-- of the elements of the two other sets, the lower set's first, those of one of them
abbrev pub operand_elements : Line → ℕ → List ℕ → List ℕ → List ℕ
operand_elements line set first second = if set == lower line.set then first else second

-- the same of the sets that the line names, over their elements
abbrev pub call : Line → State SortedVecSet → List ℕ → List ℕ → List ℕ → Outcome
call line s elements first second =
    let a = operand_elements line line.a first second in
    let b = operand_elements line line.b first second in
    asked line (bytes_of (header_of s line.set) elements) (bytes_of (header_of s line.a) a) (bytes_of (header_of s line.b) b)

-- what is left where the set's elements are handed over to the set a, which is over the others
abbrev pub handing : Line → State SortedVecSet → List ℕ → List ℕ → Handed
handing line s elements others = taking (bytes_of (header_of s line.set) elements) (bytes_of (header_of s line.a) others)

-- the headers with another one for a set
abbrev pub with_header : List SortedVecSet → ℕ → Bytes → List SortedVecSet
with_header sets place b = set sets (min place 2) (record { count = b.count })

-- what a line's call leaves: the headers, its answer, and the elements of its set and of the two others, the lower set's first
pub record Made : Type 0 where
  pub sets : List SortedVecSet
  pub answer : Answer
  pub elements : List ℕ
  pub first : List ℕ
  pub second : List ℕ

-- a call that hands the set's elements over to the set a
abbrev pub handed_over : Line → State SortedVecSet → List ℕ → List ℕ → List ℕ → Made
handed_over line s elements first second =
    let h = handing line s elements (operand_elements line line.a first second) in
    record {
      sets = with_header (with_header s.sets line.set h.from) line.a h.to;
      answer = h.answer;
      elements = h.from.elements;
      first = if line.a == lower line.set then h.to.elements else first;
      second = if line.a == lower line.set then second else h.to.elements;
    }

-- a call that writes one set at most
abbrev pub called : Line → State SortedVecSet → List ℕ → List ℕ → List ℕ → Made
called line s elements first second =
    let o = call line s elements first second in
    record {
      sets = with_header s.sets line.set o.bytes;
      answer = o.answer;
      elements = o.bytes.elements;
      first = first;
      second = second;
    }

unfoldable pub hands_over : Result Operation ℕ → Bool
hands_over (Ok TakeClearing) = true
hands_over (Ok _) = false
hands_over (Err _) = false

-- what the call that a line names leaves: take_clearing writes two sets, any other call one at most
abbrev pub making : Line → State SortedVecSet → List ℕ → List ℕ → List ℕ → Made
making line s elements first second =
    if hands_over line.operation then handed_over line s elements first second else called line s elements first second

-- the lines of members before the answer's, which a dump alone has
unfoldable pub dump : Line → Bytes → List ℕ
dump line b = if is_dump line.operation then flat_map member_line (members b) else []

-- what is printed after a line's calls, whose set is over these elements
unfoldable pub printed : Line → State SortedVecSet → List ℕ → List ℕ
printed line s elements =
    let b = bytes_of (header_of s line.set) elements in
    dump line b ++ answer_fields (answer_of s.answer) (counting b) None ++ 10 ∷ []
