use Rattle.std.proofs.Common.{◌∙◌, Bool, true, List, ℕ, OnErr, Result, Ok, Err, subst}
use Rattle.std.specs.Io.KnownBytes.{Appends}
use Rattle.devices.specs.Devices.{AppendsPart}
use Rattle.deb_input.specs.Faults.{told_line}
use Rattle.debcheck.proofs.output.write_fault.Goals as goal

on_err : {T E : Type 0} (r : Result T E) (P : Type 0) → P → OnErr r P
on_err (Ok x) P p = tt
on_err (Err e) P p = p

pub returns-in_ok-write_all-in-Err-clause-line : goal.returns-in_ok-write_all-in-Err-clause-line
returns-in_ok-write_all-in-Err-clause-line g c =
    let P : List ℕ → Type 0 = λ line. Appends (g.K.Sink.contents c.args.writer.now) (g.K.Sink.contents c.write_all-in-Err.new.writer) line in
    subst P c.memory_line.ensures c.in_ok-write_all-in-Err.ensures.bytes

pub returns-in_err-write_all-in-Ok-clause-part : goal.returns-in_err-write_all-in-Ok-clause-part
returns-in_err-write_all-in-Ok-clause-part g c =
    let P : List ℕ → Type 0 = λ line. AppendsPart (g.K.Sink.contents c.args.writer.now) (g.K.Sink.contents c.write_all.new.writer) line in
    let part : (own : Bool) × P (told_line own c.args.fault.now) = (true, subst P (c.as_slice.ensures.value ∙ c.in-Ok.ensures) c.in_err-write_all-in-Ok.ensures.part) in
    on_err _ _ part
