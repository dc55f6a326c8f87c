use Rattle.std.proofs.Common.{take}
use Rattle.deb_encode.specs.Encoders.{KeepsOut, Tells}
use Rattle.deb_encode.proofs.encoder.Encoder.add_apart_from.Given as goal

abbrev pub invariant-loop-other : goal.invariant-loop-other
invariant-loop-other l = Tells (λ play. KeepsOut l.place (take l.other-index l.row)) l.initial.self l.self
