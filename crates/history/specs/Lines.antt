-- What the bytes of a history's line say; oracle/README.md has the table of its fields. Assumes nothing.
use Rattle.std.specs.Prelude.{ℕ, ◌+◌, ◌-◌, ◌*◌, ◌%◌, ◌^◌, cond, List, [], ◌∷◌, length, slice_range, Option, Some, None, ◌==◌, nat_lt}
use Rattle.history.specs.declared.line.Line.{Line}
use Rattle.history.specs.Operations.{operation_of}

-- the number of a lowercase hexadecimal digit; 0 of any other byte
unfoldable pub digit : ℕ → ℕ
digit b = cond (nat_lt b 48) 0 (cond (nat_lt b 58) (b - 48) (cond (nat_lt b 97) 0 (cond (nat_lt b 103) (b - 97 + 10) 0)))

-- the number that n and the digits after it spell
unfoldable pub spelt : ℕ → List ℕ → ℕ
spelt n [] = n
spelt n (b ∷ bytes) = spelt (n * 16 + digit b) bytes

-- the number that the digits from one place to another spell
unfoldable pub field : ℕ → ℕ → List ℕ → ℕ
field from to text = spelt 0 (slice_range text from to)

-- what a line says; what has another length is no line
unfoldable pub line_of : List ℕ → Option Line
line_of text =
    cond (length text == 31)
    (Some (record {
      operation = operation_of (field 0 2 text);
      set = field 2 4 text;
      a = field 4 6 text;
      b = field 6 8 text;
      times = field 10 14 text;
      number = field 14 30 text;
    }))
    None

-- the line on the number after, as a u64 has it
abbrev pub following : Line → Line
following l =
    record {
      operation = l.operation;
      set = l.set;
      a = l.a;
      b = l.b;
      times = l.times;
      number = (l.number + 1) % 2 ^ 64;
    }

-- of the sets 0, 1 and 2 without one of them, the lower and the higher
unfoldable pub lower : ℕ → ℕ
lower set = cond (set == 0) 1 0

unfoldable pub upper : ℕ → ℕ
upper set = cond (nat_lt set 2) 2 1
