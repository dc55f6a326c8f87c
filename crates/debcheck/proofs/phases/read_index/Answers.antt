use Rattle.std.proofs.Common.{◌∙◌, subst, sym}
use Rattle.std.proofs.lemmas.Bool.{false≢true}
use Rattle.std.proofs.lemmas.Result.{err_from_is_err_and}
use Rattle.run_settings.specs.Settings.{settings_of}
use Rattle.deb_input.specs.declared.fault.RunFault.{RunFault}
use Rattle.deb_input.specs.Inputs.{FailsToAccept, input}
use Rattle.debcheck.proofs.PhaseLemmas.{accept-fails, accepted-as, behind-fails, read-as, read_whole}
use Rattle.debcheck.proofs.phases.read_index.Goals as goal

pub returns-clause-index : goal.returns-clause-index
returns-clause-index g c =
    let text = input (g.S.Source.remaining c.args.reader.now) (g.S.Source.failed c.read_text.new.reader) in
    let background = input (g.B.Source.remaining c.args.background.now) (g.B.Source.failed c.read_behind.new.background) in
    let read = c.in_ok-outcome.ensures.text in
    let first = read_whole read.1 c.requires.reader in
    let makes = rw c.in_ok-index.was at c.finish-read.ensures.index in
    accepted-as (settings_of c.args.job.now.config.now) text background read.0 c.as_slice.result.now c.in_ok-index.index first (rw c.as_slice.ensures.value c.in-Ok.ensures.bytes) (makes read.0 read.2)

pub returns-in_err-index-clause-refused : goal.returns-in_err-index-clause-refused
returns-in_err-index-clause-refused g c =
    let p = err_from_is_err_and c.from_residual-in_err-index.result c.from_residual-in_err-index.ensures.1 in
    let text = input (g.S.Source.remaining c.args.reader.now) (g.S.Source.failed c.read_text.new.reader) in
    let background = input (g.B.Source.remaining c.args.background.now) (g.B.Source.failed c.read_behind.new.background) in
    let read = c.in_ok-outcome.ensures.text in
    let first = read_whole read.1 c.requires.reader in
    let fails = rw c.in_err-index.was at c.finish-read.ensures.refused in
    rw (p.1, p.2) (accept-fails (settings_of c.args.job.now.config.now) text background read.0 c.as_slice.result.now c.in_err-index.field-0.0 first (rw c.as_slice.ensures.value c.in-Ok.ensures.bytes) (fails read.0 read.2))

pub returns-in_err-index-clause-unbegun : goal.returns-in_err-index-clause-unbegun
returns-in_err-index-clause-unbegun g c =
    let p = err_from_is_err_and c.from_residual-in_err-index.result c.from_residual-in_err-index.ensures.1 in
    let read = rw c.in_err-index.was at c.finish-read.ensures.read in
    rw (p.1, p.2) (λ unread. absurd (false≢true (sym read ∙ unread)))

pub returns-in_err-index-clause-may_fail : goal.returns-in_err-index-clause-may_fail
returns-in_err-index-clause-may_fail g c =
    let p = err_from_is_err_and c.from_residual-in_err-index.result c.from_residual-in_err-index.ensures.1 in
    let read = c.in_ok-outcome.ensures.text in
    let fails = rw c.in_err-index.was at c.finish-read.ensures.refused in
    rw (p.1, p.2) (λ e. absurd (subst (λ (f : RunFault). FailsToAccept (settings_of c.args.job.now.config.now) read.0 c.as_slice.result.now f) e (fails read.0 read.2)))

pub returns-in_err-index-clause-read_may_fail : goal.returns-in_err-index-clause-read_may_fail
returns-in_err-index-clause-read_may_fail g c =
    let p = err_from_is_err_and c.from_residual-in_err-index.result c.from_residual-in_err-index.ensures.1 in
    let read = c.in_ok-outcome.ensures.text in
    let fails = rw c.in_err-index.was at c.finish-read.ensures.refused in
    rw (p.1, p.2) (λ e. absurd (subst (λ (f : RunFault). FailsToAccept (settings_of c.args.job.now.config.now) read.0 c.as_slice.result.now f) e (fails read.0 read.2)))

pub returns-in-Err-clause-refused : goal.returns-in-Err-clause-refused
returns-in-Err-clause-refused g c =
    let text = input (g.S.Source.remaining c.args.reader.now) (g.S.Source.failed c.read_text.new.reader) in
    let background = input (g.B.Source.remaining c.args.background.now) (g.B.Source.failed c.read_behind.new.background) in
    let read = c.in_ok-outcome.ensures.text in
    let first = read_whole read.1 c.requires.reader in
    (behind-fails (settings_of c.args.job.now.config.now) text background c.in-Err.fault (read-as text read.0 first) c.in-Err.ensures.refused).0

pub returns-in-Err-clause-unbegun : goal.returns-in-Err-clause-unbegun
returns-in-Err-clause-unbegun g c unread =
    let text = input (g.S.Source.remaining c.args.reader.now) (g.S.Source.failed c.read_text.new.reader) in
    let background = input (g.B.Source.remaining c.args.background.now) (g.B.Source.failed c.read_behind.new.background) in
    let read = c.in_ok-outcome.ensures.text in
    let first = read_whole read.1 c.requires.reader in
    absurd (false≢true (sym (behind-fails (settings_of c.args.job.now.config.now) text background c.in-Err.fault (read-as text read.0 first) c.in-Err.ensures.refused).1 ∙ unread))
