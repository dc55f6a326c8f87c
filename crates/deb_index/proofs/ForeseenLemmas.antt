-- What a stanza without a fault reads as doesn't depend on where it stands, as long as there are not too many.
use Rattle.std.proofs.Common.{◌≡◌, ◌≤◌, ◌+◌, ℕ, Bool, true, false, cond, ltb, List, [], ◌∷◌, length, Option, Some, None, Result, Ok, Err, ap, ◌∙◌, arith}
use Rattle.std.specs.Prelude.{codes}
use Rattle.std.specs.List.{list_all}
use Rattle.std.specs.Option.{is_none}
use Rattle.std.proofs.lemmas.Bool.{le-ltb}
use Rattle.deb_control.specs.declared.error.ControlError.{ControlError}
use Rattle.deb_control.specs.Fields.{Entry, field_value}
use Rattle.deb_control.specs.Stanzas.{read_stanza}
use Rattle.deb_control.proofs.ReadLemmas.{read_stanza-free}
use Rattle.deb_relation.specs.declared.atom.RelationError.{RelationError}
use Rattle.deb_relation.specs.Relationship.{atoms_of, groups_of, is_name}
use Rattle.deb_relation.specs.VersionText.{fault_of}
use Rattle.deb_index.specs.declared.error.IndexError.{IndexError}
use Rattle.deb_index.specs.declared.error.IndexError.TheVariants.{BadName, BadRelation, BadVersion, TooManyStanzas}
use Rattle.deb_index.specs.declared.error.RelField.{RelField}
use Rattle.deb_index.specs.declared.error.RelField.TheVariants.{PreDepends, Depends, Conflicts, Breaks, Provides}
use Rattle.deb_index.specs.Packages.{PackageView}
use Rattle.deb_index.specs.Reading.{◌>>=◌, HeadView, from_control, head_of, in_field, is_allowed, is_for, is_marked, is_provided, mandatory, package_of, provides_in, reading_of, readings, relation_text, stanza_limit, stanza_reading}
use Rattle.deb_index.proofs.SizeLemmas.{done, read-well}

-- a step that gives the same with any number, where it gives something
abbrev IsFree : {A E : Type 0} → (ℕ → Result A E) → Type 0
IsFree {A = A} step = (n m : ℕ) (x : A) → step n ≡ Ok x → step m ≡ Ok x

-- one step after the other
free-on : {A B : Type 0} (step : ℕ → Result A IndexError) (next : ℕ → A → Result B IndexError) → IsFree step → ((x : A) → IsFree (λ n. next n x)) → IsFree (λ n. step n >>= next n)
free-on step next free frees n m y e =
    let first = done (step n) (next n) y e in
    ap (λ r. r >>= next m) (free n m first.0 first.1) ∙ frees first.0 n m y first.2

-- a step that takes no number
always-free : {A : Type 0} (x : A) → IsFree {E = IndexError} (λ n. Ok x)
always-free x n m y e = e

test-free : {A E : Type 0} (b : Bool) (x : A) (fault : ℕ → E) → IsFree (λ n. cond b (Ok x) (Err (fault n)))
test-free true x fault n m y e = e
test-free false x fault n m y e = absurd cc

from-free : {A : Type 0} (step : ℕ → Result A ControlError) → IsFree step → IsFree (λ n. from_control (step n))
from-free step free n m x e = ap from_control (free n m x (read-well (step n) x e))

-- ---- a package

mandatory-free : (value : Option (List ℕ)) → IsFree (λ n. mandatory n value)
mandatory-free None n m x e = absurd cc
mandatory-free (Some value) n m x e = e

head-free : (fields : List Entry) → IsFree (λ n. head_of n fields)
unfolding head_of
head-free fields =
    free-on _ _ (mandatory-free (field_value fields (codes "Package"))) (λ name.
    free-on _ _ (mandatory-free (field_value fields (codes "Version"))) (λ version.
    free-on _ _ (mandatory-free (field_value fields (codes "Architecture"))) (λ architecture.
    free-on _ _ (test-free (is_name name) name BadName) (λ name.
    free-on _ _ (test-free (is_none (fault_of version)) version BadVersion) (λ version.
    always-free (record { name = name; version = version; architecture = architecture }))))))

in-free : {A : Type 0} (field : RelField) (read : Result A RelationError) → IsFree (λ n. in_field n field read)
in-free field (Ok y) n m x e = e
in-free field (Err d) n m x e = absurd cc

provides-free : (fields : List Entry) → IsFree (λ n. provides_in n fields)
unfolding provides_in
provides-free fields = free-on _ _ (in-free Provides (atoms_of (relation_text fields Provides))) (λ atoms. test-free (list_all is_provided atoms) atoms (λ n. BadRelation n Provides))

package-free : (fields : List Entry) (head : HeadView) → IsFree (λ n. package_of n fields head)
unfolding package_of
package-free fields head =
    free-on _ _ (in-free PreDepends (groups_of (relation_text fields PreDepends))) (λ pre_depends.
    free-on _ _ (in-free Depends (groups_of (relation_text fields Depends))) (λ depends.
    free-on _ _ (in-free Conflicts (atoms_of (relation_text fields Conflicts))) (λ conflicts.
    free-on _ _ (in-free Breaks (atoms_of (relation_text fields Breaks))) (λ breaks.
    free-on _ _ (provides-free fields) (λ provides.
    always-free (record { name = head.name; version = head.version; architecture = head.architecture; essential = is_marked fields; multi_arch_allowed = is_allowed fields; pre_depends = pre_depends; depends = depends; conflicts = conflicts; breaks = breaks; provides = provides }))))))

counted-free : (b : Bool) (fields : List Entry) (head : HeadView) → IsFree (λ n. cond b (package_of n fields head >>= λ p. Ok (Some p)) (Ok None))
counted-free true fields head n m x e = free-on _ _ (package-free fields head) (λ p. always-free (Some p)) n m x e
counted-free false fields head n m x e = e

reading-free : (arch : List ℕ) (fields : List Entry) → IsFree (λ n. reading_of arch n fields)
unfolding reading_of
reading-free arch fields = free-on _ _ (head-free fields) (λ head. counted-free (is_for arch head.architecture) fields head)

-- ---- the stanzas of a text

abbrev unlimited : List ℕ → List (List ℕ) → ℕ → Result (Option PackageView) IndexError
unlimited arch lines n = from_control (read_stanza n lines) >>= λ fields. reading_of arch n fields

unlimited-free : (arch : List ℕ) (lines : List (List ℕ)) → IsFree (unlimited arch lines)
unlimited-free arch lines = free-on _ _ (from-free (λ n. read_stanza n lines) (λ n m x e. read_stanza-free n m lines x e)) (λ fields. reading-free arch fields)

limited-ok : (b : Bool) (n : ℕ) (read : Result (Option PackageView) IndexError) (r : Option PackageView) → cond b (Err (TooManyStanzas n)) read ≡ Ok r → read ≡ Ok r
limited-ok true n read r e = absurd cc
limited-ok false n read r e = e

stanza-foreseen : (arch : List ℕ) (first k before n : ℕ) (lines : List (List ℕ)) (r : Option PackageView) → stanza_reading arch first k lines ≡ Ok r → before + n ≤ stanza_limit → stanza_reading arch before n lines ≡ Ok r
unfolding stanza_reading
stanza-foreseen arch first k before n lines r e few =
    ap (λ b. cond b (Err (TooManyStanzas n)) (unlimited arch lines n)) (le-ltb stanza_limit (before + n) few)
    ∙ unlimited-free arch lines k n r (limited-ok (ltb stanza_limit (first + k)) k (unlimited arch lines k) r e)

pub foreseen : (arch : List ℕ) (first k before n : ℕ) (stanzas : List (List (List ℕ))) (read : List (Option PackageView)) → readings arch first k stanzas ≡ Ok read → before + n + length stanzas ≤ stanza_limit
    → readings arch before n stanzas ≡ Ok read
unfolding readings
foreseen arch first k before n [] read e few = e
foreseen arch first k before n (stanza ∷ more) read e few =
    let one = done (stanza_reading arch first (k + 1) stanza) (λ r. readings arch first (k + 1) more >>= λ others. Ok (r ∷ others)) read e in
    let rest = done (readings arch first (k + 1) more) (λ rs. Ok (one.0 ∷ rs)) read one.2 in
    ap (λ x. x >>= λ r. readings arch before (n + 1) more >>= λ others. Ok (r ∷ others)) (stanza-foreseen arch first (k + 1) before (n + 1) stanza one.0 one.1 (omega arith))
    ∙ ap (λ x. x >>= λ others. Ok (one.0 ∷ others)) (foreseen arch first (k + 1) before (n + 1) more rest.0 rest.1 (omega arith))
    ∙ rest.2
