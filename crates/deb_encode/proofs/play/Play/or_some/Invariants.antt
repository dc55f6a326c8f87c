use Rattle.std.proofs.Common.{take, false}
use Rattle.deb_encode.specs.Encoders.{WidensBySome}
use Rattle.deb_encode.proofs.play.Play.or_some.Given as goal

abbrev pub invariant-loop-place : goal.invariant-loop-place
invariant-loop-place l = WidensBySome l.self (take l.place-index l.places) l.positive l.initial.clause.items l.clause.items false
