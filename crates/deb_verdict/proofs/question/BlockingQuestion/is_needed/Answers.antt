use Rattle.number_sets.specs.Sets.{members_of}
use Rattle.deb_verdict.proofs.question.BlockingQuestion.is_needed.Goals as goal

pub returns : goal.returns
returns c = λ on none.
    let question = c.args.self.now in
    c.has.ensures on question.groundwork.now.index.now question.p (members_of question.out.now) question.is_known none
