use Rattle.history.proofs.PrintLaws.{padded_with_zeros}
use Rattle.history.proofs.print.print_field.Goals as goal

pub returns : goal.returns
returns g c = rw (c.in_radix.ensures, c.laid_out.ensures, c.min-digits.ensures, padded_with_zeros) at c.write.ensures.bytes
