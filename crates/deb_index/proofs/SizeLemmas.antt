-- How much a package asks for and provides, against the bytes of its stanza.
use Rattle.std.proofs.Common.{◌≡◌, ◌≤◌, ◌+◌, ◌<◌, ℕ, Bool, true, false, cond, ltb, List, [], ◌∷◌, ◌++◌, length, Option, Some, None, unwrap_or, Result, Ok, Err, refl, sym, subst, ap, ◌∙◌, arith, length-append, ltb-false}
use Rattle.std.specs.List.{All, find, list_all, sum_by}
use Rattle.std.proofs.lemmas.List.{map-id}
use Rattle.std.proofs.lemmas.List.Elements.{All-tail}
use Rattle.std.proofs.lemmas.List.Sums.{get_or-le-sum_by}
use Rattle.deb_control.specs.declared.error.ControlError.{ControlError}
use Rattle.deb_control.specs.Lines.{is_empty}
use Rattle.deb_control.specs.Fields.{Entry, field_value, same_name}
use Rattle.deb_control.specs.Stanzas.{size_of, read_stanza}
use Rattle.deb_control.proofs.SizeLemmas.{values-fit}
use Rattle.deb_index.proofs.FieldSums.{four-fit, shown}
use Rattle.deb_relation.specs.declared.atom.RelationError.{RelationError}
use Rattle.deb_relation.specs.Relationship.{AtomText, atoms_of, group_in, groups_of, single_of}
use Rattle.deb_relation.proofs.Counts.{few-read}
use Rattle.deb_index.specs.declared.error.IndexError.{IndexError}
use Rattle.deb_index.specs.declared.error.IndexError.TheVariants.{TooManyStanzas}
use Rattle.deb_index.specs.declared.error.RelField.{RelField}
use Rattle.deb_index.specs.declared.error.RelField.TheVariants.{PreDepends, Depends, Conflicts, Breaks, Provides}
use Rattle.deb_index.specs.Packages.{PackageView}
use Rattle.deb_index.specs.Reading.{◌>>=◌, HeadView, atoms_in, field_name, from_control, groups_in, head_of, in_field, is_for, is_provided, package_of, provided, provides_in, reading_of, relation_text, stanza_limit, stanza_reading}
use Rattle.deb_index.specs.Tables.{asked_count}

-- ---- steps that did not fail

pub done : {A B : Type 0} (read : Result A IndexError) (f : A → Result B IndexError) (y : B) → (read >>= f) ≡ Ok y → (x : A) × (read ≡ Ok x) × (f x ≡ Ok y)
done (Ok x) f y e = (x, refl, e)
done (Err d) f y e = absurd cc

abbrev okay : {A : Type 0} → A → Result A IndexError
okay x = Ok x

pub same : {A : Type 0} (x y : A) → okay x ≡ okay y → x ≡ y
same x y e = cc

kept : {A : Type 0} (b : Bool) (x y : A) (f : IndexError) → cond b (Ok x) (Err f) ≡ Ok y → x ≡ y
kept true x y f e = cc
kept false x y f e = absurd cc

well : {A : Type 0} (n : ℕ) (field : RelField) (read : Result A RelationError) (x : A) → in_field n field read ≡ Ok x → read ≡ Ok x
well n field (Ok y) x e = cc
well n field (Err d) x e = absurd cc

pub read-well : {A : Type 0} (read : Result A ControlError) (x : A) → from_control read ≡ Ok x → read ≡ Ok x
read-well (Ok y) x e = cc
read-well (Err d) x e = absurd cc

-- ---- fields

abbrev AreShort : ℕ → List Entry → Type 0
AreShort k fields = All (λ entry. length entry.value ≤ k) fields

filled : (b : Bool) (k : ℕ) (own value : List ℕ) → length own ≤ k → cond b None (Some own) ≡ Some value → length value ≤ k
filled true k own value here e = absurd cc
filled false k own value here e = let is : own ≡ value = cc in omega (arith, ap (λ (v : List ℕ). length v) is)

picked : (t : Bool) (k : ℕ) (field : Entry) (rest : Option Entry) (value : List ℕ) → length field.value ≤ k → (shown rest ≡ Some value → length value ≤ k)
    → shown (cond t (Some field) rest) ≡ Some value → length value ≤ k
picked true k field rest value here later e = filled (is_empty field.value) k field.value value here e
picked false k field rest value here later e = later e

value-short : (k : ℕ) (fields : List Entry) (name value : List ℕ) → AreShort k fields → field_value fields name ≡ Some value → length value ≤ k
unfolding field_value
value-short k [] name value short e = absurd cc
value-short k (field ∷ fields) name value short e =
    picked (same_name field.name name) k field (find (λ other. same_name other.name name) fields) value (short 0 field (omega arith))
    (value-short k fields name value (All-tail (λ (entry : Entry). length entry.value ≤ k) field fields short)) e

text-short : (k : ℕ) (fields : List Entry) (field : RelField) → AreShort k fields → length (relation_text fields field) ≤ k
text-short k fields field short = of (field_value fields (field_name field)) (λ value e. value-short k fields (field_name field) value short e)
  where
    of : (o : Option (List ℕ)) → ((value : List ℕ) → o ≡ Some value → length value ≤ k) → length (unwrap_or o []) ≤ k
    of None h = omega arith
    of (Some value) h = h value refl

groups-fit : (n : ℕ) (fields : List Entry) (field : RelField) (groups : List (List AtomText)) → groups_in n fields field ≡ Ok groups → length groups ≤ length (relation_text fields field) + 1
groups-fit n fields field groups e =
    let read = well n field (groups_of (relation_text fields field)) groups e in
    let few = few-read group_in (λ (g : List AtomText). g) groups (relation_text fields field) (read ∙ ap Ok (sym (map-id groups))) in
    omega (arith, few)

atoms-fit : (n : ℕ) (fields : List Entry) (field : RelField) (atoms : List AtomText) → atoms_in n fields field ≡ Ok atoms → length atoms ≤ length (relation_text fields field) + 1
atoms-fit n fields field atoms e =
    let read = well n field (atoms_of (relation_text fields field)) atoms e in
    let few = few-read single_of (λ (a : AtomText). a) atoms (relation_text fields field) (read ∙ ap Ok (sym (map-id atoms))) in
    omega (arith, few)

provides-fit : (n k : ℕ) (fields : List Entry) (atoms : List AtomText) → AreShort k fields → provides_in n fields ≡ Ok atoms → length atoms ≤ k + 1
unfolding provides_in
provides-fit n k fields atoms short e =
    let read = done (atoms_in n fields Provides) (provided n) atoms e in
    let are = kept (list_all is_provided read.0) read.0 atoms _ read.2 in
    omega (arith, atoms-fit n fields Provides read.0 read.1, text-short k fields Provides short, ap (λ (xs : List AtomText). length xs) are)

-- ---- packages

-- a package asks for and provides at most so much, where its fields have so many bytes
abbrev Fills : ℕ → PackageView → Type 0
Fills k p = (asked_count p ≤ k + 4) × (length p.provides ≤ k + 1)

-- and so much, where its stanza has so many
abbrev pub Fits : ℕ → PackageView → Type 0
Fits size p = (asked_count p ≤ size + 3) × (length p.provides ≤ size)

package-fits : (n k : ℕ) (fields : List Entry) (head : HeadView) (p : PackageView) → AreShort k fields → sum_by (λ entry. length entry.value) fields ≤ k → package_of n fields head ≡ Ok p → Fills k p
unfolding package_of
package-fits n k fields head p short fit e =
    let pre_depends = done (groups_in n fields PreDepends) _ p e in
    let depends = done (groups_in n fields Depends) _ p pre_depends.2 in
    let conflicts = done (atoms_in n fields Conflicts) _ p depends.2 in
    let breaks = done (atoms_in n fields Breaks) _ p conflicts.2 in
    let provides = done (provides_in n fields) _ p breaks.2 in
    let texts = four-fit (field_name PreDepends) (field_name Depends) (field_name Conflicts) (field_name Breaks) refl refl refl refl refl refl fields in
    let asked : (length (pre_depends.0 ++ depends.0) + length (conflicts.0 ++ breaks.0)) ≤ k + 4 = omega (
      arith,
      length-append pre_depends.0 depends.0,
      length-append conflicts.0 breaks.0,
      groups-fit n fields PreDepends pre_depends.0 pre_depends.1,
      groups-fit n fields Depends depends.0 depends.1,
      atoms-fit n fields Conflicts conflicts.0 conflicts.1,
      atoms-fit n fields Breaks breaks.0 breaks.1,
      texts,
      fit,
    ) in
    subst (Fills k) (same _ p provides.2) (asked, provides-fit n k fields provides.0 short provides.1)

counted-fits : (b : Bool) (n k : ℕ) (fields : List Entry) (head : HeadView) (p : PackageView) → AreShort k fields → sum_by (λ entry. length entry.value) fields ≤ k → cond b (package_of n fields head >>= λ q. Ok (Some q)) (Ok None) ≡ Ok (Some p) → Fills k p
counted-fits true n k fields head p short fit e =
    let read = done (package_of n fields head) (λ q. Ok (Some q)) (Some p) e in
    let is : read.0 ≡ p = some-same read.0 p (same (Some read.0) (Some p) read.2) in
    package-fits n k fields head p short fit (read.1 ∙ ap Ok is)
  where
    some-same : (q r : PackageView) → Some q ≡ Some r → q ≡ r
    some-same q r h = cc
counted-fits false n k fields head p short fit e = absurd cc

-- a stanza that is read has a field
some-field : (arch : List ℕ) (n : ℕ) (fields : List Entry) (r : Option PackageView) → reading_of arch n fields ≡ Ok r → 0 < length fields
unfolding reading_of head_of field_value
some-field arch n [] r e = absurd cc
some-field arch n (field ∷ fields) r e = omega arith

reading-fits : (arch : List ℕ) (n k : ℕ) (fields : List Entry) (p : PackageView) → AreShort k fields → sum_by (λ entry. length entry.value) fields ≤ k → reading_of arch n fields ≡ Ok (Some p) → Fills k p
unfolding reading_of
reading-fits arch n k fields p short fit e =
    let head = done (head_of n fields) _ (Some p) e in
    counted-fits (is_for arch head.0.architecture) n k fields head.0 p short fit head.2

limited-fits : (b : Bool) (arch : List ℕ) (n : ℕ) (stanza : List (List ℕ)) (p : PackageView)
    → cond b (Err (TooManyStanzas n)) (from_control (read_stanza n stanza) >>= λ fields. reading_of arch n fields) ≡ Ok (Some p) → Fits (size_of stanza) p
limited-fits true arch n stanza p e = absurd cc
limited-fits false arch n stanza p e =
    let read = done (from_control (read_stanza n stanza)) _ (Some p) e in
    let k = sum_by (λ (entry : Entry). length entry.value) read.0 in
    let fits = reading-fits arch n k read.0 p (λ i d within. get_or-le-sum_by (λ (entry : Entry). length entry.value) read.0 i d within) (omega arith) read.2 in
    let room = values-fit n stanza read.0 (read-well (read_stanza n stanza) read.0 read.1) in
    let some = some-field arch n read.0 (Some p) read.2 in
    (omega (arith, fits.0, room, some), omega (arith, fits.1, room, some))

-- a package asks for and provides no more than its stanza has room for
pub stanza-fits : (arch : List ℕ) (before n : ℕ) (stanza : List (List ℕ)) (p : PackageView) → stanza_reading arch before n stanza ≡ Ok (Some p) → Fits (size_of stanza) p
unfolding stanza_reading
stanza-fits arch before n stanza p e = limited-fits (ltb stanza_limit (before + n)) arch n stanza p e

limited-few : (b : Bool) (total n : ℕ) (read : Result (Option PackageView) IndexError) (r : Option PackageView) → ltb stanza_limit total ≡ b → cond b (Err (TooManyStanzas n)) read ≡ Ok r → total ≤ stanza_limit
limited-few true total n read r h e = absurd cc
limited-few false total n read r h e = ltb-false stanza_limit total h

-- a stanza that is read is none too many
pub stanza-few : (arch : List ℕ) (before n : ℕ) (stanza : List (List ℕ)) (r : Option PackageView) → stanza_reading arch before n stanza ≡ Ok r → before + n ≤ stanza_limit
unfolding stanza_reading
stanza-few arch before n stanza r e = limited-few (ltb stanza_limit (before + n)) (before + n) n _ r refl e
