-- What `write!` makes of a number in a field is its digits in the width. Assumes nothing.
use Rattle.std.proofs.Common.{◌≡◌, ℕ, ◌-◌, ◌^◌, min, false, [], ◌++◌, length, replicate, ap, append-nil, arith}
use Rattle.std.specs.Fmt.{char_count, digits, padded_integral, format_spec}
use Rattle.history.specs.Fields.{hexadecimal}

pub padded_with_zeros : (width n : ℕ)
    → padded_integral (format_spec 32 0 4 (min width 16) (2 ^ 64 - 1)) false [] (digits 16 false n) ≡ hexadecimal width n
unfolding hexadecimal padded_integral char_count
padded_with_zeros width n =
    let numeral = digits 16 false n in
    let short = min width 16 - length numeral in
    let zeros : short - 0 - 0 ≡ short = omega arith in
    simp append-nil (ap (λ k. replicate k 48 ++ numeral) zeros)
