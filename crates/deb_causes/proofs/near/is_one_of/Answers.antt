use Rattle.std.proofs.Common.{rules, ◌≡◌, ◌<◌, arith, length, sym, true}
use Rattle.std.specs.Str.{bytes_eq}
use Rattle.deb_relation.specs.Relationship.{atom_view}
use Rattle.number_sets.proofs.ListLemmas.{any_here}
use Rattle.deb_causes.proofs.near.is_one_of.Goals as goal

pub returns-then-eq : goal.returns-then-eq
returns-then-eq c =
    let inside : c.loop-atom.atom-index < length c.args.atoms.now = omega arith in
    let passes : bytes_eq (atom_view c.atom-item.result.now).name c.args.name.now ≡ true = search rules in
    sym (any_here (λ atom. bytes_eq atom.name c.args.name.now) (λ atom. atom_view atom.now) c.args.atoms.now c.loop-atom.atom-index c.atom-item.result inside c.atom-item.is passes)
