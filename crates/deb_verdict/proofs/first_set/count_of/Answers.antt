use Rattle.std.proofs.Common.{arith}
use Rattle.deb_index.proofs.IndexFacts.{rising_length}
use Rattle.deb_verdict.proofs.first_set.count_of.Goals as goal

pub prove-unreachable-requires : goal.prove-unreachable-requires
prove-unreachable-requires c =
    omega (arith, c.if-prove.true, c.len-packages.ensures.value, rising_length c.args.places.now c.requires.rising _ c.requires.within)
