use Rattle.std.proofs.Common.{inl, inr, option_map, refl, string_bytes}
use Rattle.deb_input.specs.declared.fault.RunFault.TheVariants as run_fault
use Rattle.debcheck.specs.Program.{Runs}
use Rattle.debcheck.proofs.ProgramLemmas.{may_by, may_none, named_by, unopened, unopened_memory}
use Rattle.debcheck.proofs.program.open_and_run.Goals as goal

pub returns-in_default : goal.returns-in_default
unfolding Runs
returns-in_default g c = inr (_, rw c.in_default.is tt, (λ e. may_none (g.O.Opener.named c.args.files.now) _ (rw c.in_default.is refl)), c.run_behind.ensures.runs)

pub returns-in-Ok : goal.returns-in-Ok
unfolding Runs
returns-in-Ok g c =
    inr (
      _,
      (named_by (g.O.Opener.named c.args.files.now) (option_map string_bytes c.args.job.now.config.now.bg) c.as_str.result.now (string_bytes c.in-Some.name) _ (rw c.in-Some.is refl) c.as_str.ensures.value c.in-Ok.ensures.opened),
      (may_by (g.O.Opener.named c.args.files.now) (option_map string_bytes c.args.job.now.config.now.bg) c.as_str.result.now (string_bytes c.in-Some.name) _ run_fault.BackgroundRead c.run_behind-outcome.result (rw c.in-Some.is refl) c.as_str.ensures.value c.in-Ok.ensures.may_fail c.run_behind-outcome.ensures.may_fail),
      c.run_behind-outcome.ensures.runs,
    )

pub returns-in-Err-Memory : goal.returns-in-Err-Memory
unfolding Runs
returns-in-Err-Memory g c = inl (run_fault.Memory, refl, unopened_memory (g.O.Opener.named c.args.files.now) _ _ (string_bytes c.in-Some.name) _ _ _ _ _ _ (rw c.in-Some.is refl) c.requires.reader)

pub returns-in-Err-Unopened : goal.returns-in-Err-Unopened
unfolding Runs
returns-in-Err-Unopened g c =
    inl (
      run_fault.BackgroundRead,
      refl,
      unopened (g.O.Opener.named c.args.files.now) _ _ c.as_str.result.now (string_bytes c.in-Some.name) _ _ _ _ _ _ (rw c.in-Some.is refl) c.as_str.ensures.value c.requires.reader
          (c.in-Err-Unopened.ensures.refused c.in-Err-Unopened.field-0-is),
    )
