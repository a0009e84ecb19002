-- `sorted_vec_set::checked::Checked::contains` meets its contract.
use Rattle.sorted_vec_set.proofs.Outcomes.{first_sound}
use Rattle.sorted_vec_set.proofs.Paths.{contained_answer}
use Rattle.sorted_vec_set.proofs.checked.Checked.contains.Goals as goal

pub returns : goal.returns
returns c = contained_answer c.args.element (first_sound c.args.self.lent _ c.args.self.passed).0 (rw c.members.ensures at c.lookup.ensures) c.told.ensures
