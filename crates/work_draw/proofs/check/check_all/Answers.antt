use Rattle.std.proofs.Common.{◌<◌, All, Global, IfOk, Vec, length, subst, sym}
use Rattle.std.proofs.lemmas.Result.{IfOk-weaker}
use Rattle.deb_index.specs.Packages.{IndexView}
use Rattle.deb_health.specs.Verdicts.{IsVerdict, SpeaksOf, verdict_view}
use Rattle.deb_health.specs.declared.answer.Verdict.{Verdict}
use Rattle.work_draw.specs.Checks.{AnswersEach, IsFound}
use Rattle.work_draw.proofs.Answered.{AnswersEach-All, AnswersEach-length, AnswersEach-map}
use Rattle.work_draw.proofs.check.check_all.Goals as goal

pub invariant_of-chunks : goal.invariant_of-chunks
invariant_of-chunks g c = record {
  places = subst (λ (index : IndexView). All (λ place. place < length index.packages) c.args.asked.now) (sym c.in_ok-groundwork.ensures) c.requires.places;
  some = c.requires.chunk;
}

pub returns : goal.returns
returns g c =
    let index = c.args.index.now in
    let asked = c.args.asked.now in
    let result = c.check_each-found.result in
    let found : IfOk result (λ all. AnswersEach (IsFound index) asked all.items) =
    IfOk-weaker result _ _ (λ (all : Vec Verdict Global) each. subst (λ (on : IndexView). AnswersEach (IsFound on) asked all.items) c.in_ok-groundwork.ensures each) c.check_each-found.ensures
    in
    record {
      each = IfOk-weaker result _ _ (λ (all : Vec Verdict Global) h. AnswersEach-map (IsFound index) (IsVerdict index) verdict_view (λ place verdict both. both.0) asked all.items h) found;
      same = IfOk-weaker result _ _ (λ (all : Vec Verdict Global) h. AnswersEach-length (IsFound index) asked all.items h) found;
      within = IfOk-weaker result _ _ (λ (all : Vec Verdict Global) h. AnswersEach-All (IsFound index) (SpeaksOf index) verdict_view (λ place verdict both. both.1) asked all.items h) found;
    }
