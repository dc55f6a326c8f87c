use Rattle.std.proofs.Common.{◌∙◌, sym}
use Rattle.number_sets.specs.Sets.{members_of}
use Rattle.deb_groundwork.proofs.HopelessLemmas.{hopeless_by_name}
use Rattle.deb_groundwork.proofs.hopeless.lacks_essential.Goals as goal

pub returns-then-has_all : goal.returns-then-has_all
returns-then-has_all c = λ holds.
    hopeless_by_name c.args.index.now (members_of c.args.hopeless.now) c.loop-position.position c.essential_row.result.now c.essential_row.ensures c.requires
    (sym c.has_all.ensures ∙ c.if-has_all.true)
