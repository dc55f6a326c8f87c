use Rattle.std.proofs.Common.{◌∙◌, rules, sym, tests}
use Rattle.std.proofs.lemmas.Iterator.{YieldsList-from_slice}
use Rattle.std.proofs.lemmas.Iterator.Search.{any_from_yields_List}
use Rattle.deb_relation.specs.declared.atom.Atom.{Atom}
use Rattle.deb_relation.specs.Relationship.{atom_view}
use Rattle.deb_index.specs.Packages.{package_view}
use Rattle.deb_index.proofs.FirstLemmas.{any-map}
use Rattle.deb_report.specs.Answers.{answers_by}
use Rattle.deb_report.proofs.answers.is_by.Goals as goal

pub returns : goal.returns
returns c =
    let test = answers_by c.args.arch.now (package_view c.args.deb.now) (atom_view c.args.entry.now) in
    any_from_yields_List (λ (atom : Atom). test (atom_view atom)) _ _ c.any.result c.any.ensures.ran (YieldsList-from_slice c.args.atoms.now cc) (λ x b q k. search (rules, tests))
    ∙ sym (any-map test atom_view c.args.atoms.now)
