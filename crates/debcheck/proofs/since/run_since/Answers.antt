use Rattle.std.proofs.Common.{◌∙◌, Some, map, refl, subst, sym}
use Rattle.std.proofs.KnownBytes.{Keeps-refl}
use Rattle.std.proofs.lemmas.Bool.{false≢true}
use Rattle.std.proofs.lemmas.Result.{IfErr-weaker, err_from_is_err_and}
use Rattle.run_settings.specs.Settings.{settings_of}
use Rattle.deb_report.specs.Since.{broken_view}
use Rattle.deb_input.specs.declared.fault.RunFault.{RunFault}
use Rattle.deb_input.specs.Inputs.{input}
use Rattle.debcheck.specs.Run.{FailsToIndex}
use Rattle.debcheck.proofs.PhaseLemmas.{all-read, none-of-earlier, runs-behind, runs-indexed, runs-unindexed, write-of-none}
use Rattle.debcheck.proofs.since.run_since.Goals as goal

pub returns-in_err-before : goal.returns-in_err-before
returns-in_err-before g c =
    let p = err_from_is_err_and c.from_residual.result c.from_residual.ensures.1 in
    let earlier = input (g.E.Source.remaining c.args.earlier.now) (g.E.Source.failed c.read_before.new.earlier) in
    let text = input (g.S.Source.remaining c.args.reader.now) (g.S.Source.failed c.args.reader.now) in
    let background = input (g.B.Source.remaining c.args.background.now) (g.B.Source.failed c.read_before.new.background) in
    let fails = c.in_err-before.ensures in
    rw (p.1, p.2) (record {
      end = tt;
      background_end = tt;
      earlier_end = tt;
      spared = c.read_before.ensures.spared;
      unbegun = λ of. refl;
      untouched = λ other. refl;
      runs = runs-behind (settings_of c.args.job.now.config.now) earlier text background _ c.in_err-before.field-0.0 c.requires.reader fails.refused (Keeps-refl _);
      may_fail = fails.may_fail;
      earlier_may_fail = fails.earlier_may_fail;
    })

pub returns-in_err-index : goal.returns-in_err-index
returns-in_err-index g c =
    let p = err_from_is_err_and c.from_residual-in_err-index.result c.from_residual-in_err-index.ensures.1 in
    let settings = settings_of c.args.job.now.config.now in
    let earlier = input (g.E.Source.remaining c.args.earlier.now) (g.E.Source.failed c.read_before.new.earlier) in
    let text = input (g.S.Source.remaining c.args.reader.now) (g.S.Source.failed c.read_now.new.reader) in
    let background = input (g.B.Source.remaining c.args.background.now) (g.B.Source.failed c.read_before.new.background) in
    let broken = map broken_view c.in_ok-before.before.items in
    let second = rw (← c.as_slice.ensures.value) at c.in_ok-before.ensures.behind in
    let fails = c.in_err-index.ensures.refused background second in
    let P : RunFault → Type 0 = λ fault. FailsToIndex settings text background fault in
    rw (p.1, p.2) (record {
      end = tt;
      background_end = tt;
      earlier_end = tt;
      spared = c.read_before.ensures.spared;
      unbegun = λ of. absurd (none-of-earlier P (λ h. h) (λ h. h) (λ cause h. h) c.in_err-index.field-0.0 fails of);
      untouched = λ other. refl;
      runs = runs-unindexed settings (Some earlier) text background (Some broken) _ c.in_err-index.field-0.0 (broken, refl, c.in_ok-before.ensures.broken) fails (Keeps-refl _);
      may_fail = λ e. absurd (false≢true (sym second.0 ∙ (subst P e fails).1));
      earlier_may_fail = λ e. absurd (subst P e fails);
    })

pub returns-clause-runs : goal.returns-clause-runs
returns-clause-runs g c =
    let settings = settings_of c.args.job.now.config.now in
    let earlier = input (g.E.Source.remaining c.args.earlier.now) (g.E.Source.failed c.read_before.new.earlier) in
    let text = input (g.S.Source.remaining c.args.reader.now) (g.S.Source.failed c.read_now.new.reader) in
    let background = input (g.B.Source.remaining c.args.background.now) (g.B.Source.failed c.read_before.new.background) in
    let broken = map broken_view c.in_ok-before.before.items in
    let second = rw (← c.as_slice.ensures.value) at c.in_ok-before.ensures.behind in
    let tells = rw c.as_slice-2.ensures.value at c.report_and_write.ensures.tells in
    runs-indexed settings (Some earlier) text background (Some broken) c.in_ok-index.index _ c.report_and_write.result
    (broken, refl, c.in_ok-before.ensures.broken) (c.in_ok-index.ensures.index background second) c.in_ok-before.ensures.unfailed.1 c.in_ok-before.ensures.unfailed.0 tells

pub returns-clause-unbegun : goal.returns-clause-unbegun
returns-clause-unbegun g c =
    IfErr-weaker c.report_and_write.result _ _
    (λ fault h of. absurd (write-of-none (settings_of c.args.job.now.config.now) c.in_ok-index.index _ fault h of)) c.report_and_write.ensures.tells.refused

pub returns-clause-may_fail : goal.returns-clause-may_fail
returns-clause-may_fail g c =
    IfErr-weaker c.report_and_write.result _ _
    (λ fault h e. absurd ((all-read (settings_of c.args.job.now.config.now) c.in_ok-index.index _ fault h).1 e)) c.report_and_write.ensures.tells.refused

pub returns-clause-earlier_may_fail : goal.returns-clause-earlier_may_fail
returns-clause-earlier_may_fail g c =
    IfErr-weaker c.report_and_write.result _ _
    (λ fault h e. absurd ((all-read (settings_of c.args.job.now.config.now) c.in_ok-index.index _ fault h).2 e)) c.report_and_write.ensures.tells.refused
