use Rattle.std.proofs.Common.{arith, ◌≡◌, ◌∙◌, ap}
use Rattle.adaptive_index_set.proofs.Calls.{reads}
use Rattle.adaptive_index_set.proofs.Stored.{stored, members_in_words}
use Rattle.answers.specs.Answers.{Answer, answer_of, truth}
use Rattle.ascending.specs.Search.{present}
use Rattle.ascending.proofs.SearchLaws.{found-present, told_is}
use Rattle.adaptive_index_set.proofs.checked.Checked.contains.Goals as goal

pub returns-then-index-gt-LARGEST : goal.returns-then-index-gt-LARGEST
unfolding answer_of
returns-then-index-gt-LARGEST c = grind (arith, reads)

pub lookup-requires : goal.lookup-requires
lookup-requires c = (stored _ _ _ c.args.self.sound c.from.ensures c.in-Sparse.is).ascending

pub returns-in-Sparse : goal.returns-in-Sparse
unfolding answer_of
returns-in-Sparse c =
    let x = stored _ _ _ c.args.self.sound c.from.ensures c.in-Sparse.is in
    let says : truth c.told.result ≡ truth (present c.lookup.result) =
    ap (λ (a : Answer). a.value) (c.told.ensures ∙ told_is c.lookup.result) in
    grind (arith, reads, found-present)

pub returns-in_default : goal.returns-in_default
unfolding answer_of
returns-in_default c =
    let x = members_in_words _ _ _ c.args.self.sound c.from.ensures c.in_default.not-Sparse in grind (arith, reads)
