use Rattle.std.proofs.Common.{◌≤◌, length, arith}
use Rattle.deb_index.proofs.IndexFacts.{rising_length}
use Rattle.deb_encode.proofs.play.Play.new.Goals as goal

pub invariant_of-result-clause-few : goal.invariant_of-result-clause-few
invariant_of-result-clause-few c =
    let size : length c.args.candidates.now ≤ length c.args.index.now.packages = rising_length c.args.candidates.now c.requires.rising (length c.args.index.now.packages) c.requires.candidates_within in
    omega (arith, c.len-places.ensures.few)
