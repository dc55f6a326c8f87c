use Rattle.std.proofs.Common.{◌∙◌, None, refl, sym}
use Rattle.std.proofs.KnownBytes.{Keeps-refl}
use Rattle.std.proofs.lemmas.Bool.{false≢true}
use Rattle.std.proofs.lemmas.Result.{IfErr-weaker, err_from_is_err_and}
use Rattle.run_settings.specs.Settings.{settings_of}
use Rattle.deb_input.specs.Inputs.{input}
use Rattle.debcheck.proofs.PhaseLemmas.{all-read, runs-indexed, runs-unindexed}
use Rattle.debcheck.proofs.phases.run_ending.Goals as goal

pub returns-in_err-index : goal.returns-in_err-index
returns-in_err-index g c =
    let p = err_from_is_err_and c.from_residual.result c.from_residual.ensures.1 in
    let text = input (g.S.Source.remaining c.args.reader.now) (g.S.Source.failed c.read_index.new.reader) in
    let background = input (g.B.Source.remaining c.args.background.now) (g.B.Source.failed c.read_index.new.background) in
    let fails = c.in_err-index.ensures in
    rw (p.1, p.2) (record {
      end = tt;
      background_end = tt;
      spared = c.read_index.ensures.spared;
      unbegun = fails.unbegun;
      untouched = λ other. refl;
      runs = runs-unindexed (settings_of c.args.job.now.config.now) None text background None _ c.in_err-index.field-0.0 refl fails.refused (Keeps-refl _);
      may_fail = fails.may_fail;
    })

pub returns-clause-runs : goal.returns-clause-runs
returns-clause-runs g c =
    let text = input (g.S.Source.remaining c.args.reader.now) (g.S.Source.failed c.read_index.new.reader) in
    let background = input (g.B.Source.remaining c.args.background.now) (g.B.Source.failed c.read_index.new.background) in
    runs-indexed (settings_of c.args.job.now.config.now) None text background None c.in_ok-index.index _ c.report_and_write.result refl c.in_ok-index.ensures.index c.in_ok-index.ensures.unfailed.1 tt
    c.report_and_write.ensures.tells

pub returns-clause-unbegun : goal.returns-clause-unbegun
returns-clause-unbegun g c =
    IfErr-weaker c.report_and_write.result _ _
    (λ fault h unread. absurd (false≢true (sym (all-read (settings_of c.args.job.now.config.now) c.in_ok-index.index _ fault h).0 ∙ unread))) c.report_and_write.ensures.tells.refused

pub returns-clause-may_fail : goal.returns-clause-may_fail
returns-clause-may_fail g c =
    IfErr-weaker c.report_and_write.result _ _
    (λ fault h e. absurd ((all-read (settings_of c.args.job.now.config.now) c.in_ok-index.index _ fault h).1 e)) c.report_and_write.ensures.tells.refused
