-- What is told of packages and constraints, whatever its form.
use Rattle.std.specs.Prelude.{ℕ, ◌==◌, nat_lt, List, [], ◌∷◌, ◌++◌, length, codes, if◌then◌else◌}
use Rattle.deb_relation.specs.Relationship.{AtomText}
use Rattle.deb_index.specs.declared.constraint.Constraint.{Constraint}
use Rattle.deb_index.specs.declared.constraint.Constraint.TheVariants.{Essential, Need, Apart, Only}
use Rattle.deb_index.specs.Packages.{IndexView, PackageView, package_at, name_at, need_at, apart_at}
use Rattle.deb_causes.specs.Near.{is_missing, NearMissView, near_misses, similar_names}
use Rattle.deb_report.specs.Forms.{PartView, OfField, OfKind, OfName, OfPackage, OfProvides, OfRelation, item_front, item_in, name_in, some_in}
use Rattle.deb_report.specs.declared.form.Lead.TheVariants.{Within}
use Rattle.run_settings.specs.declared.config.Format.{Format}

-- ---- packages

abbrev pub package_part : PackageView → PartView
package_part deb = OfPackage deb.name deb.version

-- the package at a place
abbrev pub place_in : Format → IndexView → ℕ → List ℕ
place_in form index place = item_in form Within (package_part (package_at index place) ∷ [])

-- a near miss, with what it provides, where it is near by that alone
unfoldable pub near_parts : NearMissView → List PartView
near_parts miss = package_part miss.deb ∷ (if length miss.provides == 0 then [] else OfProvides miss.provides ∷ [])

abbrev pub near_in : Format → NearMissView → List ℕ
near_in form miss = item_in form Within (near_parts miss)

-- what comes near to the needs among constraints, and the names that are similar to theirs
unfoldable pub near_to_in : Format → IndexView → List Constraint → List ℕ
near_to_in form index constraints = some_in form (codes "present") (near_in form) (near_misses index constraints)
    ++ some_in form (codes "similar") (name_in form) (similar_names index constraints)

-- ---- constraints

-- the field that a group stands in: the groups of Pre-Depends come first
unfoldable pub group_field : PackageView → ℕ → List ℕ
group_field deb number = if nat_lt number (length deb.pre_depends) then codes "Pre-Depends" else codes "Depends"

-- the field that an entry stands in: those of Conflicts come first
unfoldable pub entry_field : PackageView → ℕ → List ℕ
entry_field deb number = if nat_lt number (length deb.conflicts) then codes "Conflicts" else codes "Breaks"

-- what a package asks for
abbrev pub asked_parts : PackageView → List ℕ → List AtomText → List PartView
asked_parts deb field relation = package_part deb ∷ OfField field ∷ OfRelation relation ∷ []

-- what a constraint is told by: of what kind it is, and the name that it is of, or the relation of a package, with its field
unfoldable pub reason_parts : IndexView → Constraint → List PartView
reason_parts index (Essential name) = OfKind (codes "essential") ∷ OfName (name_at index name) ∷ []
reason_parts index (Need place number) = let deb = package_at index place in let group = need_at index place number in
    OfKind (if is_missing index group then codes "missing" else codes "depends") ∷ asked_parts deb (group_field deb number) group
reason_parts index (Apart place number) = let deb = package_at index place in
    OfKind (codes "conflict") ∷ asked_parts deb (entry_field deb number) (apart_at index place number ∷ [])
reason_parts index (Only name) = OfKind (codes "versions") ∷ OfName (name_at index name) ∷ []

abbrev pub reason_front : Format → IndexView → Constraint → List ℕ
reason_front form index constraint = item_front form Within (reason_parts index constraint)
