use Rattle.deb_groundwork.proofs.Derived.{essential_gives}
use Rattle.deb_groundwork.proofs.derivation.by_essential.Goals as goal

pub returns : goal.returns
returns c = essential_gives c.args.index.now c.args.number c.essential_row.result.now c.essential_row.ensures
