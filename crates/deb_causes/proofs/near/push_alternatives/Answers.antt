use Rattle.std.proofs.Common.{ap, map}
use Rattle.deb_relation.specs.declared.atom.Atom.{Atom}
use Rattle.deb_relation.specs.Relationship.{atom_view}
use Rattle.number_sets.proofs.AtomSteps.{pushed}
use Rattle.deb_causes.proofs.near.push_alternatives.Goals as goal

pub loop-atom-preserved : goal.loop-atom-preserved
loop-atom-preserved c =
    pushed (λ atom. atom_view atom.now) atom_view c.push.new.self.items c.loop-atom.atoms.items _ (map (λ atom. atom_view atom.now) c.args.atoms.now.items)
    c.need-group.result.now c.loop-atom.atom-index c.atom-item.result c.in_ok-push.ensures.items c.loop-atom.invariant c.loop-atom-test.true (ap (λ (a : Atom). atom_view a) c.atom-item.is)
