use Rattle.std.proofs.Common.{arith}
use Rattle.deb_control.proofs.RunLemmas.{length-stanzas_of}
use Rattle.deb_control.proofs.reader.Reader.behind.Goals as goal

pub invariant_of-result : goal.invariant_of-result
invariant_of-result c = omega (arith, c.requires, length-stanzas_of c.args.text.now)
