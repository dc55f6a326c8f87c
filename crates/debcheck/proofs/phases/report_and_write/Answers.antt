use Rattle.std.proofs.Common.{◌∙◌, List, inr, refl, subst, ℕ}
use Rattle.std.proofs.KnownBytes.{Keeps-refl}
use Rattle.std.proofs.lemmas.Result.{err_from_is_err_and}
use Rattle.std.specs.Io.KnownBytes.{Appends}
use Rattle.devices.specs.Devices.{AppendsPart}
use Rattle.debcheck.proofs.PhaseLemmas.{tells-none}
use Rattle.debcheck.proofs.phases.report_and_write.Goals as goal

pub returns-in_err-output-clause-tells : goal.returns-in_err-output-clause-tells
returns-in_err-output-clause-tells g c =
    let p = err_from_is_err_and c.from_residual.result c.from_residual.ensures.1 in
    let h = rw c.in_err-output.was at c.check_and_tell-told.ensures.refused in
    rw (p.1, p.2) (tells-none _ _ _ _ _ h (Keeps-refl _))

pub returns-in-Ok-clause-tells : goal.returns-in-Ok-clause-tells
returns-in-Ok-clause-tells g c =
    let on = rw c.in_ok-output.was at c.check_and_tell-told.ensures.report in
    record {
      report = (
        c.in_ok-output.output.items,
        on,
        subst (λ (bytes : List ℕ). Appends (g.K.Sink.contents c.args.writer.now) (g.K.Sink.contents c.write_all.new.writer) bytes) c.as_slice.ensures.value c.in-Ok.ensures.bytes,
      );
      flushed = c.in-Ok.ensures.flushed;
      unfailed = c.in-Ok.ensures.mark ∙ c.requires.writer;
      refused = tt;
      kept = tt;
      front = tt;
    }

pub returns-clause-tells : goal.returns-clause-tells
returns-clause-tells g c =
    let on = rw c.in_ok-output.was at c.check_and_tell-told.ensures.report in
    record {
      report = tt;
      flushed = tt;
      unfailed = tt;
      refused = inr (refl, c.in-Err.ensures.failed, (on.asked, on.is_asked));
      kept = λ other. absurd (other refl);
      front = λ is. (
        c.in_ok-output.output.items,
        c.in_ok-output.summary,
        on,
        subst (λ (bytes : List ℕ). AppendsPart (g.K.Sink.contents c.args.writer.now) (g.K.Sink.contents c.write_all.new.writer) bytes) c.as_slice.ensures.value c.in-Err.ensures.part,
      );
    }
