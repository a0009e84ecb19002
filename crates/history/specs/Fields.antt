-- What is printed of a number. Assumes nothing.
use Rattle.std.specs.Prelude.{ℕ, ◌-◌, min, false, List, [], ◌∷◌, ◌++◌, length, replicate, Option, Some, None, ◌==◌, if◌then◌else◌}
use Rattle.std.specs.Fmt.{digits}
use Rattle.answers.specs.Answers.{Answer}
use Rattle.answers.specs.Judging.{earlier}

-- the lowercase hexadecimal digits of n, with zeros before them up to the width, 16 at most
unfoldable pub hexadecimal : ℕ → ℕ → List ℕ
hexadecimal width n = replicate (min width 16 - length (digits 16 false n)) 48 ++ digits 16 false n

-- the line that a member of a dump stands on
abbrev pub member_line : ℕ → List ℕ
member_line member = hexadecimal 16 member ++ 10 ∷ []

-- the digits of a span, which not every set has
abbrev pub span_field : Option ℕ → List ℕ
span_field (Some span) = hexadecimal 4 span
span_field None = []

-- the fields of an answer: value, count and span, or the number alone where a call was refused
unfoldable pub answer_fields : Answer → Answer → Option ℕ → List ℕ
answer_fields sum count span =
    let number = earlier sum.number count.number in
    if number == 0 then hexadecimal 16 sum.value ++ hexadecimal 6 count.value ++ span_field span else hexadecimal 2 number
