use Rattle.std.proofs.Common.{map, option_map, refl, string_bytes}
use Rattle.std.proofs.lemmas.Result.{err_from_is_err_and}
use Rattle.deb_input.specs.Inputs.{input}
use Rattle.debcheck.proofs.ProgramLemmas.{takes_bad, takes_memory, takes_none, takes_those, takes_unopened}
use Rattle.debcheck.proofs.program.take_names.Goals as goal

pub returns-in_default-clause-taken : goal.returns-in_default-clause-taken
returns-in_default-clause-taken g c = takes_none (g.O.Opener.named c.args.files.now) _ _ (rw c.in_default.is refl)

pub returns-in_ok-read_names-in-Ok-clause-taken : goal.returns-in_ok-read_names-in-Ok-clause-taken
returns-in_ok-read_names-in-Ok-clause-taken g c =
    takes_those (g.O.Opener.named c.args.files.now) (option_map string_bytes c.args.config.now.only_file) c.as_str.result.now (string_bytes c.in-Some.list)
    (input (g.O.File.Source.remaining c.in-Ok.file) (g.O.File.Source.failed c.read_names.new.source)) (map (λ name. name.items) c.in_ok-read_names-in-Ok.field-0.items) _ _
    (rw c.in-Some.is refl) c.as_str.ensures.value c.in-Ok.ensures.opened c.in_ok-read_names-in-Ok.ensures.names refl

pub returns-in_err-read_names-in-Ok-clause-taken : goal.returns-in_err-read_names-in-Ok-clause-taken
returns-in_err-read_names-in-Ok-clause-taken g c = rw (err_from_is_err_and c.from_residual.result c.from_residual.ensures.1).1 tt

pub returns-in_err-read_names-in-Ok-clause-refused : goal.returns-in_err-read_names-in-Ok-clause-refused
returns-in_err-read_names-in-Ok-clause-refused g c =
    let p = err_from_is_err_and c.from_residual.result c.from_residual.ensures.1 in
    rw (p.1, p.2) (takes_bad (g.O.Opener.named c.args.files.now) (option_map string_bytes c.args.config.now.only_file) c.as_str.result.now (string_bytes c.in-Some.list) _
    (input (g.O.File.Source.remaining c.in-Ok.file) (g.O.File.Source.failed c.read_names.new.source)) _
    (rw c.in-Some.is refl) c.as_str.ensures.value c.in-Ok.ensures.opened c.in-Ok.ensures.may_fail c.in_err-read_names-in-Ok.ensures.may_fail c.in_err-read_names-in-Ok.ensures.refused)

pub returns-in-Err-Memory-clause-refused : goal.returns-in-Err-Memory-clause-refused
returns-in-Err-Memory-clause-refused g c = takes_memory (g.O.Opener.named c.args.files.now) _ (string_bytes c.in-Some.list) _ (rw c.in-Some.is refl) refl

pub returns-in-Err-Unopened-clause-refused : goal.returns-in-Err-Unopened-clause-refused
returns-in-Err-Unopened-clause-refused g c =
    takes_unopened (g.O.Opener.named c.args.files.now) _ c.as_str.result.now (string_bytes c.in-Some.list) _ (rw c.in-Some.is refl) c.as_str.ensures.value refl
    (c.in-Err-Unopened.ensures.refused c.in-Err-Unopened.field-0-is)
