-- Bearers of names: one that is in and meets an alternative answers the need.
use Rattle.std.proofs.Common.{◌≡◌, ℕ, ◌<◌, true, List, length, map, get_or, sym, ap, ◌∙◌}
use Rattle.std.specs.List.{list_any}
use Rattle.std.proofs.lemmas.List.Folds.{list_any_at}
use Rattle.deb_relation.specs.declared.atom.Atom.{Atom}
use Rattle.deb_relation.specs.Relationship.{atom_view, AtomText}
use Rattle.deb_index.specs.Packages.{IndexView, need_at}
use Rattle.deb_index.specs.Meets.{group_satisfiers, meets_need, meets_need_at, need_satisfiers}
use Rattle.deb_index.proofs.FirstLemmas.{any-map}
use Rattle.deb_index.proofs.MemberLemmas.{member-places_where}
use Rattle.number_sets.specs.Sets.{NumberSet}
use Rattle.number_sets.proofs.ListMembers.{any_member, member_any}
use Rattle.deb_groundwork.proofs.Forcing.{member_answers}

-- a place that is in and meets an alternative is among those that do
pub met_by_one : (index : IndexView) (set : NumberSet) (atom : AtomText) (place : ℕ) → set place ≡ true → meets_need_at index place atom ≡ true → list_any set (need_satisfiers index atom) ≡ true
met_by_one index set atom place inside meets =
    member_any set (need_satisfiers index atom) place inside (member-places_where (λ q. meets_need index.arch q atom) index.packages place ∙ meets)

-- where an alternative of a need is met, the need is answered
pub answered_by_one : (index : IndexView) (set : NumberSet) (place number : ℕ) (alternatives : List Atom) (k : ℕ) (one : Atom) → map atom_view alternatives ≡ need_at index place number
    → k < length alternatives → one ≡ get_or alternatives k one → list_any set (need_satisfiers index (atom_view one)) ≡ true
    → list_any set (group_satisfiers index (need_at index place number)) ≡ true
answered_by_one index set place number alternatives k one same inside is met =
    let found = any_member set (need_satisfiers index (atom_view one)) met in
    let meets : meets_need_at index found.0 (atom_view one) ≡ true = sym (member-places_where (λ q. meets_need index.arch q (atom_view one)) index.packages found.0) ∙ found.2 in
    let some = list_any_at (λ (atom : Atom). meets_need_at index found.0 (atom_view atom)) alternatives k one inside (ap (λ (atom : Atom). meets_need_at index found.0 (atom_view atom)) (sym is) ∙ meets) in
    let answers = ap (list_any (meets_need_at index found.0)) (sym same) ∙ (any-map (meets_need_at index found.0) atom_view alternatives ∙ some) in
    member_any set (group_satisfiers index (need_at index place number)) found.0 found.1 (member_answers index place number found.0 ∙ answers)
