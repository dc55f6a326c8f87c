use Rattle.std.proofs.Common.{◌∙◌, Bool, Bor, ap, map, refl, rules, sym, tests}
use Rattle.std.proofs.lemmas.Iterator.{YieldsList-from_slice}
use Rattle.std.proofs.lemmas.Iterator.Consumers.{YieldsList-from_filter, map_from_collect}
use Rattle.std.proofs.lemmas.Result.{IfOk-weaker}
use Rattle.number_sets.proofs.ListLemmas.{map-twice}
use Rattle.deb_relation.specs.declared.atom.Atom.{Atom}
use Rattle.deb_relation.specs.Relationship.{atom_view}
use Rattle.deb_causes.specs.Near.{provides_one}
use Rattle.deb_causes.proofs.FirstOnes.{filter-seen}
use Rattle.deb_causes.proofs.near.provided_of.Goals as goal

pub returns : goal.returns
returns c =
    let other = provides_one c.args.arch.now (map (λ atom. atom_view atom.now) c.args.atoms.now) in
    let test : Atom → Bool = λ entry. other (atom_view entry) in
    IfOk-weaker c.collect.result _ _
    (λ provided are. sym (map-twice atom_view (λ (entry : Bor Atom). entry.now) provided.items) ∙ ap (map atom_view) are ∙ filter-seen test other atom_view c.args.provides.now (λ k d h. refl))
    (map_from_collect _ c.collect.ensures.ran (YieldsList-from_filter _ test (YieldsList-from_slice c.args.provides.now cc) c.filter.ensures.closure (λ x r q k. search (rules, tests))))
