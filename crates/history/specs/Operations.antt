-- The table of operations, by their codes; oracle/README.md has it. Assumes nothing.
use Rattle.std.specs.Prelude.{ℕ, Bool, true, false, Result, Ok, Err, ◌==◌, if◌then◌else◌}
use Rattle.history.specs.declared.operation.Operation.{Operation}
use Rattle.history.specs.declared.operation.Operation.TheVariants.{New, Insert, Remove, Toggle, Contains, Len, Clear, Xor, IntersectionCount, XorIntersection, XorSymmetricDifference, IsEmpty, Eq, Dump, Push, FlipList, FlipListShared, CountList, TakeClearing, SetSingle}

-- the operation of a code; a code that the table doesn't have stays one
unfoldable pub operation_of : ℕ → Result Operation ℕ
operation_of code =
    if code == 0x00 then Ok New
    else if code == 0x01 then Ok Insert
    else if code == 0x02 then Ok Remove
    else if code == 0x03 then Ok Toggle
    else if code == 0x04 then Ok Contains
    else if code == 0x05 then Ok Len
    else if code == 0x06 then Ok Clear
    else if code == 0x07 then Ok Xor
    else if code == 0x08 then Ok IntersectionCount
    else if code == 0x09 then Ok XorIntersection
    else if code == 0x0a then Ok XorSymmetricDifference
    else if code == 0x0c then Ok IsEmpty
    else if code == 0x0d then Ok Eq
    else if code == 0x0e then Ok Dump
    else if code == 0x10 then Ok Push
    else if code == 0x11 then Ok FlipList
    else if code == 0x12 then Ok FlipListShared
    else if code == 0x13 then Ok CountList
    else if code == 0x14 then Ok TakeClearing
    else if code == 0x15 then Ok SetSingle
    else Err code

-- whether the members are asked for
unfoldable pub is_dump : Result Operation ℕ → Bool
is_dump (Ok Dump) = true
is_dump (Ok _) = false
is_dump (Err _) = false
