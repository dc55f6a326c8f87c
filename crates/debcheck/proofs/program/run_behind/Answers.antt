use Rattle.std.proofs.Common.{inl, option_map, refl, string_bytes}
use Rattle.deb_input.specs.declared.fault.RunFault.TheVariants as run_fault
use Rattle.debcheck.specs.Program.{RunsBehind}
use Rattle.debcheck.proofs.ProgramLemmas.{runs_alone, runs_since, unopened, unopened_memory}
use Rattle.debcheck.proofs.program.run_behind.Goals as goal

pub returns-in_default-clause-runs : goal.returns-in_default-clause-runs
returns-in_default-clause-runs g c =
    runs_alone _ (g.O.Opener.named c.args.files.now) _ _ _ _ _ c.run_ending.result (rw c.in_default.is refl) c.run_ending.ensures.runs

pub returns-in-Ok-clause-runs : goal.returns-in-Ok-clause-runs
returns-in-Ok-clause-runs g c =
    runs_since _ (g.O.Opener.named c.args.files.now) (option_map string_bytes c.args.job.now.config.now.since) c.as_str.result.now (string_bytes c.in-Some.file) _ _ _ _ _ _ c.run_since-outcome.result (rw c.in-Some.is refl) c.as_str.ensures.value c.in-Ok.ensures.opened
    c.in-Ok.ensures.may_fail c.run_since-outcome.ensures.earlier_may_fail c.run_since-outcome.ensures.runs

pub returns-in-Err-Memory-clause-runs : goal.returns-in-Err-Memory-clause-runs
unfolding RunsBehind
returns-in-Err-Memory-clause-runs g c = inl (run_fault.Memory, refl, unopened_memory (g.O.Opener.named c.args.files.now) _ _ (string_bytes c.in-Some.file) _ _ _ _ _ _ (rw c.in-Some.is refl) c.requires.reader)

pub returns-in-Err-Unopened-clause-runs : goal.returns-in-Err-Unopened-clause-runs
unfolding RunsBehind
returns-in-Err-Unopened-clause-runs g c =
    inl (
      run_fault.EarlierRead,
      refl,
      unopened (g.O.Opener.named c.args.files.now) _ _ c.as_str.result.now (string_bytes c.in-Some.file) _ _ _ _ _ _ (rw c.in-Some.is refl) c.as_str.ensures.value c.requires.reader
          (c.in-Err-Unopened.ensures.refused c.in-Err-Unopened.field-0-is),
    )
