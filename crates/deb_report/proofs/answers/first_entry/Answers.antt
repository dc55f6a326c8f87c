use Rattle.std.proofs.Common.{◌∙◌, Bool, Bor, ap, map, option_map, rules, tests}
use Rattle.std.specs.List.{list_any}
use Rattle.std.proofs.lemmas.Iterator.{YieldsList-from_slice}
use Rattle.std.proofs.lemmas.Iterator.Search.{find_from_yields_List}
use Rattle.deb_relation.specs.declared.atom.Atom.{Atom}
use Rattle.deb_relation.specs.Relationship.{atom_view, AtomText}
use Rattle.deb_index.specs.Packages.{package_view}
use Rattle.deb_report.specs.Answers.{answers_by}
use Rattle.deb_report.proofs.FindLemmas.{find-map, mapped-twice}
use Rattle.deb_report.proofs.answers.first_entry.Goals as goal

pub returns : goal.returns
returns c =
    let test : AtomText → Bool = λ entry. list_any (answers_by c.args.arch.now (package_view c.args.deb.now) entry) (map atom_view c.args.atoms.now) in
    let entries = c.args.deb.now.provides.items in
    mapped-twice atom_view (λ (entry : Bor Atom). entry.now) c.find.result
    ∙ ap (option_map atom_view) (find_from_yields_List (λ (entry : Atom). test (atom_view entry)) _ _ c.find.result c.find.ensures.ran (YieldsList-from_slice entries cc) (λ x b q k. search (rules, tests)))
    ∙ find-map test atom_view entries
