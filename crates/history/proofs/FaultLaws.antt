-- Faults by their numbers. Assumes nothing.
use Rattle.std.proofs.Common.{◌≡◌, refl, false, ◌==◌}
use native.Mathlib.Omega.{arith}
use borrow.Author.Tests.{ne_eqb}
use Rattle.std.specs.Ordering.{ord_min}
use Rattle.answers.proofs.Answering.{number_some}
use Rattle.answers.specs.Answers.{number as refusal_number}
use Rattle.answers.specs.Judging.{earlier}
use Rattle.answers.specs.declared.Refusal.TheVariants.{Length, Unsound, Index, Span, Room}
use Rattle.history.specs.Faults.{number}
use Rattle.history.specs.declared.fault.Fault.{Fault}
use Rattle.history.specs.declared.fault.Fault.TheVariants.{Refused, Unknown}
use Rattle.history.specs.contracts.fault.FaultOrd as order

-- none has the number of a line that is answered
pub some_number : (fault : Fault) → (number fault == 0) ≡ false
unfolding number
some_number (Refused refusal) = ne_eqb _ 0 (number_some refusal)
some_number Unknown = ne_eqb 6 0 (λ e. omega arith)

each : (P : Fault → Type 0) → P (Refused Length) → P (Refused Unsound) → P (Refused Index) → P (Refused Span) → P (Refused Room) → P Unknown
    → (fault : Fault) → P fault
each P a b c d e f (Refused Length) = a
each P a b c d e f (Refused Unsound) = b
each P a b c d e f (Refused Index) = c
each P a b c d e f (Refused Span) = d
each P a b c d e f (Refused Room) = e
each P a b c d e f Unknown = f

-- the lesser is the one that is checked first
abbrev pub Lesser : Fault → Fault → Type 0
Lesser f g = number (ord_min order.TheImpl.cmp-value.it f g) ≡ earlier (number f) (number g)

pub lesser : (f g : Fault) → Lesser f g
unfolding number refusal_number earlier
lesser (Refused Length) g = each (Lesser (Refused Length)) refl refl refl refl refl refl g
lesser (Refused Unsound) g = each (Lesser (Refused Unsound)) refl refl refl refl refl refl g
lesser (Refused Index) g = each (Lesser (Refused Index)) refl refl refl refl refl refl g
lesser (Refused Span) g = each (Lesser (Refused Span)) refl refl refl refl refl refl g
lesser (Refused Room) g = each (Lesser (Refused Room)) refl refl refl refl refl refl g
lesser Unknown g = each (Lesser Unknown) refl refl refl refl refl refl g
