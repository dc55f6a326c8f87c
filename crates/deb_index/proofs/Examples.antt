-- Worked examples: what the definitions give, by computation.
use Rattle.std.proofs.Common.{◌≡◌, ℕ, List, [], ◌∷◌, Option, Some, None, true, false, Result, Ok, Err, refl}
use Rattle.std.specs.Prelude.{codes, map, nat_eq}
use Rattle.deb_control.specs.Lines.{lines, content_lines}
use Rattle.deb_control.specs.Fields.{is_field_name, field_parts, has_bad_line, value_of, fields_of, has_repeat, field_value}
use Rattle.deb_control.specs.Stanzas.{runs, stanzas_of, good_fields, read_stanza}
use Rattle.deb_relation.specs.Bytes.{after_run, run}
use Rattle.deb_relation.specs.Relationship.{AtomText, atom_of, bound_at, each, inside_at}
use Rattle.deb_relation.specs.VersionOrder.{continued_cmp, in_front, part_cmp, split, rest_cmp, version_cmp}
use Rattle.deb_relation.specs.VersionText.{colon_in, compared_epoch, compared_revision, compared_upstream, fault_of, hyphen_in, last_position, rest_fault}
use Rattle.deb_relation.specs.declared.bound.Op.{Op}
use Rattle.deb_relation.specs.declared.bound.Op.TheVariants.{Ge, Eq}
use Rattle.deb_index.specs.declared.error.IndexError.{IndexError}
use Rattle.deb_index.specs.declared.error.IndexError.TheVariants.{BadLine, RepeatedField, MissingField, BadName, BadVersion, BadRelation}
use Rattle.deb_index.specs.declared.error.RelField.TheVariants.{Depends, Provides}
use Rattle.deb_index.specs.declared.constraint.Constraint.TheVariants.{Essential, Need, Apart, Only}
use Rattle.deb_index.specs.Packages.{IndexView, PackageView, first_of_each, places_where}
use Rattle.deb_index.specs.Reading.{collected, head_of, index_of, package_of, provides_in, reading_of, readings, stanza_reading}
use Rattle.deb_index.specs.Meets.{meets, meets_need, meets_at, meets_need_at, need_satisfiers, provided_at, satisfiers}
use Rattle.deb_index.specs.Constraints.{is_holding, constraints_of}

abbrev read : List ℕ → Result IndexView IndexError
read text = index_of text (codes "amd64") true

-- what an accepted text's index has
abbrev seen : {X : Type 0} → (IndexView → X) → List ℕ → Option X
seen f text = of f (read text)
  where
    of : {X : Type 0} → (IndexView → X) → Result IndexView IndexError → Option X
    of f (Ok index) = Some (f index)
    of f (Err e) = None

abbrev asked : List ℕ → Option (Op × List ℕ) → AtomText
asked name bound = record { name = name; qualifier = None; bound = bound }

abbrev counts : IndexView → List ℕ
counts index = index.stanzas ∷ index.skipped ∷ index.duplicates ∷ []

abbrev provided_version : List ℕ
provided_version = codes "Package: foo\nVersion: 1\nArchitecture: all\nDepends: bar (>= 1.0)\n\nPackage: bar\nVersion: 0.9\nArchitecture: all\n\nPackage: bar-plus\nVersion: 1\nArchitecture: all\nProvides: bar (= 1.0)\n"

pub bounded_provides :
    (seen (λ i. satisfiers i (asked (codes "bar") (Some (Ge, codes "1.0")))) provided_version ≡ Some (2 ∷ []))
    × (seen (λ i. satisfiers i (asked (codes "bar") None)) provided_version ≡ Some (1 ∷ 2 ∷ []))
    × (seen (λ i. meets_at i 1 (asked (codes "bar") (Some (Ge, codes "1.0")))) provided_version ≡ Some false)
unfolding lines content_lines is_field_name field_parts has_bad_line value_of fields_of has_repeat field_value runs stanzas_of good_fields read_stanza each atom_of bound_at inside_at run after_run fault_of rest_fault colon_in hyphen_in last_position split in_front part_cmp continued_cmp rest_cmp version_cmp compared_epoch compared_upstream compared_revision first_of_each places_where head_of package_of provides_in reading_of stanza_reading readings collected index_of meets provided_at constraints_of is_holding meets_need
bounded_provides = (refl, refl, refl)

abbrev spelled : List ℕ
spelled = codes "Package: a\nVersion: 1.0\nArchitecture: amd64\n\nPackage: a\nVersion: 1.0\nArchitecture: all\n\nPackage: a\nVersion: 1.0\nArchitecture: i386\nDepends: b (\n\nPackage: a\nVersion: 1.00\nArchitecture: amd64\n"

pub duplicates_and_skipped :
    (seen counts spelled ≡ Some (4 ∷ 1 ∷ 1 ∷ []))
    × (seen (λ i. map (λ (p : PackageView). p.version) i.packages) spelled ≡ Some (codes "1.0" ∷ codes "1.00" ∷ []))
unfolding lines content_lines is_field_name field_parts has_bad_line value_of fields_of has_repeat field_value runs stanzas_of good_fields read_stanza each atom_of bound_at inside_at run after_run fault_of rest_fault colon_in hyphen_in last_position split in_front part_cmp continued_cmp rest_cmp version_cmp compared_epoch compared_upstream compared_revision first_of_each places_where head_of package_of provides_in reading_of stanza_reading readings collected index_of meets provided_at constraints_of is_holding meets_need
duplicates_and_skipped = (refl, refl)

pub refusals :
    (read (codes " x") ≡ Err (BadLine 1))
    × (read (codes "Package: a\nVersion: 1\nArchitecture: all\nDepends: b (>=") ≡ Err (BadRelation 1 Depends))
    × (read (codes "Package: a!\nArchitecture: all\n") ≡ Err (MissingField 1))
    × (read (codes "Package: a\nPackage: b\nno colon here") ≡ Err (BadLine 1))
    × (read (codes "Package: a!\nArchitecture: all\n\n x") ≡ Err (MissingField 1))
    × (read (codes "Package: a\nVersion: 1\nArchitecture: all\nProvides: v (>= 1)\n") ≡ Err (BadRelation 1 Provides))
    × (read (codes "Package: a\nVersion: 1_2\nArchitecture: all\n") ≡ Err (BadVersion 1))
    × (read (codes "Package: a!\nVersion: 1\nArchitecture: all\n") ≡ Err (BadName 1))
    × (read (codes "Package: a\nVersion: 1\nArchitecture: all\npackage: a\n") ≡ Err (RepeatedField 1))
unfolding lines content_lines is_field_name field_parts has_bad_line value_of fields_of has_repeat field_value runs stanzas_of good_fields read_stanza each atom_of bound_at inside_at run after_run fault_of rest_fault colon_in hyphen_in last_position split in_front part_cmp continued_cmp rest_cmp version_cmp compared_epoch compared_upstream compared_revision first_of_each places_where head_of package_of provides_in reading_of stanza_reading readings collected index_of meets provided_at constraints_of is_holding meets_need
refusals = (refl, refl, refl, refl, refl, refl, refl, refl, refl)

pub in_order :
    (seen constraints_of (codes "Package: a\nVersion: 1\nArchitecture: all\nDepends: x, y\n") ≡ Some (Need 0 0 ∷ Need 0 1 ∷ Only 0 ∷ []))
    × (seen constraints_of (codes "Package: base\nVersion: 1\nArchitecture: all\nEssential: yes\n\nPackage: x\nVersion: 1\nArchitecture: all\nConflicts: base\n") ≡ Some (Essential 0 ∷ Apart 1 0 ∷ Only 0 ∷ Only 1 ∷ []))
unfolding lines content_lines is_field_name field_parts has_bad_line value_of fields_of has_repeat field_value runs stanzas_of good_fields read_stanza each atom_of bound_at inside_at run after_run fault_of rest_fault colon_in hyphen_in last_position split in_front part_cmp continued_cmp rest_cmp version_cmp compared_epoch compared_upstream compared_revision first_of_each places_where head_of package_of provides_in reading_of stanza_reading readings collected index_of meets provided_at constraints_of is_holding meets_need
in_order = (refl, refl)

pub held :
    (seen (λ i. is_holding i (λ p. nat_eq p 0) (Need 0 0)) (codes "Package: s\nVersion: 1\nArchitecture: all\nDepends: s, v\nProvides: v\n") ≡ Some true)
    × (seen (λ i. is_holding i (λ p. nat_eq p 0) (Need 0 1)) (codes "Package: s\nVersion: 1\nArchitecture: all\nDepends: s, v\nProvides: v\n") ≡ Some true)
    × (seen (λ i. is_holding i (λ p. true) (Apart 1 0)) (codes "Package: base\nVersion: 1\nArchitecture: all\nEssential: yes\n\nPackage: x\nVersion: 1\nArchitecture: all\nConflicts: base\n") ≡ Some false)
    × (seen (λ i. is_holding i (λ p. nat_eq p 1) (Essential 0)) (codes "Package: base\nVersion: 1\nArchitecture: all\nEssential: yes\n\nPackage: x\nVersion: 1\nArchitecture: all\nConflicts: base\n") ≡ Some false)
unfolding lines content_lines is_field_name field_parts has_bad_line value_of fields_of has_repeat field_value runs stanzas_of good_fields read_stanza each atom_of bound_at inside_at run after_run fault_of rest_fault colon_in hyphen_in last_position split in_front part_cmp continued_cmp rest_cmp version_cmp compared_epoch compared_upstream compared_revision first_of_each places_where head_of package_of provides_in reading_of stanza_reading readings collected index_of meets provided_at constraints_of is_holding meets_need
held = (refl, refl, refl, refl)

abbrev provided_twice : List ℕ
provided_twice = codes "Package: v\nVersion: 1\nArchitecture: all\nProvides: v (= 2), v\n\nPackage: w\nVersion: 1\nArchitecture: all\nProvides: v\n"

pub provided :
    (seen (λ i. satisfiers i (asked (codes "v") None)) provided_twice ≡ Some (0 ∷ 1 ∷ []))
    × (seen (λ i. satisfiers i (asked (codes "v") (Some (Eq, codes "1")))) provided_twice ≡ Some (0 ∷ []))
    × (seen (λ i. satisfiers i (asked (codes "v") (Some (Eq, codes "2")))) provided_twice ≡ Some (0 ∷ []))
    × (seen (λ i. satisfiers i (asked (codes "v") (Some (Eq, codes "3")))) provided_twice ≡ Some [])
    × (seen (λ i. satisfiers i (record { name = codes "v"; qualifier = Some (codes "i386"); bound = None })) provided_twice ≡ Some [])
    × (seen (λ i. provided_at i (codes "v")) provided_twice ≡ Some ((0, 0) ∷ (0, 1) ∷ (1, 0) ∷ []))
    × (seen (λ i. provided_at i (codes "w")) provided_twice ≡ Some [])
unfolding lines content_lines is_field_name field_parts has_bad_line value_of fields_of has_repeat field_value runs stanzas_of good_fields read_stanza each atom_of bound_at inside_at run after_run fault_of rest_fault colon_in hyphen_in last_position split in_front part_cmp continued_cmp rest_cmp version_cmp compared_epoch compared_upstream compared_revision first_of_each places_where head_of package_of provides_in reading_of stanza_reading readings collected index_of meets provided_at constraints_of is_holding meets_need
provided = (refl, refl, refl, refl, refl, refl, refl)

-- two packages provide a name, and one of them is marked
abbrev marked_provider : List ℕ
marked_provider = codes "Package: a\nVersion: 1\nArchitecture: all\nDepends: v:any\n\nPackage: q\nVersion: 1\nArchitecture: all\nProvides: v\nMulti-Arch: allowed\n\nPackage: p\nVersion: 1\nArchitecture: all\nProvides: v\nMulti-Arch: foreign\n"

abbrev of_any : AtomText
of_any = record { name = codes "v"; qualifier = Some (codes "any"); bound = None }

pub marks :
    (seen (λ i. need_satisfiers i of_any) marked_provider ≡ Some (1 ∷ []))
    × (seen (λ i. satisfiers i of_any) marked_provider ≡ Some (1 ∷ 2 ∷ []))
    × (seen (λ i. meets_need_at i 2 of_any) marked_provider ≡ Some false)
    × (seen (λ i. meets_at i 2 of_any) marked_provider ≡ Some true)
    × (seen (λ i. need_satisfiers i (asked (codes "v") None)) marked_provider ≡ Some (1 ∷ 2 ∷ []))
unfolding lines content_lines is_field_name field_parts has_bad_line value_of fields_of has_repeat field_value runs stanzas_of good_fields read_stanza each atom_of bound_at inside_at run after_run fault_of rest_fault colon_in hyphen_in last_position split in_front part_cmp continued_cmp rest_cmp version_cmp compared_epoch compared_upstream compared_revision first_of_each places_where head_of package_of provides_in reading_of stanza_reading readings collected index_of meets provided_at constraints_of is_holding meets_need
marks = (refl, refl, refl, refl, refl)
