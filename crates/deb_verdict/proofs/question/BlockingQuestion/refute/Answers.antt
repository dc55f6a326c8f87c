use Rattle.std.proofs.Common.{ℕ, List}
use Rattle.number_sets.specs.Sets.{NumberSet, members_of}
use Rattle.core_extract.specs.Reduction.{left, listed}
use Rattle.deb_health.specs.Causes.{without}
use Rattle.deb_verdict.proofs.Whole.{refuted_listed, refuted_same, refuted_without}
use Rattle.deb_verdict.proofs.question.BlockingQuestion.refute.Goals as goal

pub returns-clause-refuted : goal.returns-clause-refuted
returns-clause-refuted c = λ _.
    let index = c.args.self.now.groundwork.now.index.now in
    let p = c.args.self.now.p in
    let out : NumberSet = members_of c.args.self.now.out.now in
    let part : NumberSet = left (members_of c.args.kept.now) c.args.rest in
    let used : List ℕ = c.refute_part.new.workspace.used.items in
    let sorted : List ℕ = c.take_rising.new.used.items in
    refuted_without index p out part (listed sorted)
    (refuted_listed index p c.len-limit.ensures.few c.len-limit.ensures.few_asked (without out part) sorted
    (refuted_same index p (without out part) used sorted c.take_rising.ensures.same (c.in_ok-refuted.ensures.refuted c.if-not-refuted.false)))
