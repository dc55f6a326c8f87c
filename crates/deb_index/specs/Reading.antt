-- What the stanzas of a text, or of a text and a background behind it, read as: the index that they make, or the first fault.
use Rattle.std.specs.Prelude.{◌≡◌, ◌≢◌, ℕ, ◌+◌, ◌-◌, Bool, true, false, ◌&&◌, ◌||◌, nat_lt, List, [], ◌∷◌, ◌++◌, length, filter_map, Option, Some, None, Result, Ok, Err, if◌then◌else◌, codes, unwrap_or}
use Rattle.std.specs.List.{list_all, list_any, fold}
use Rattle.std.specs.Option.{option_map_or, is_none}
use Rattle.std.specs.Str.{bytes_eq}
use Rattle.deb_control.specs.declared.error.ControlError.{ControlError}
use Rattle.deb_control.specs.declared.error.ControlError.TheVariants as control
use Rattle.deb_control.specs.Fields.{Entry, field_value}
use Rattle.deb_control.specs.Stanzas.{Unread, read_stanza, stanzas_of}
use Rattle.deb_relation.specs.declared.atom.RelationError.{RelationError}
use Rattle.deb_relation.specs.declared.atom.RelationError.TheVariants as relation
use Rattle.deb_relation.specs.declared.bound.Op.{Op}
use Rattle.deb_relation.specs.declared.bound.Op.TheVariants.{Lt, Le, Eq, Ge, Gt}
use Rattle.deb_relation.specs.Relationship.{AtomText, atoms_of, groups_of, is_name}
use Rattle.deb_relation.specs.VersionText.{fault_of}
use Rattle.deb_index.specs.declared.error.IndexError.{IndexError}
use Rattle.deb_index.specs.declared.error.IndexError.TheVariants.{BadLine, RepeatedField, MissingField, BadName, BadVersion, BadRelation, TooManyStanzas, Memory}
use Rattle.deb_index.specs.declared.error.BothError.{BothError}
use Rattle.deb_index.specs.declared.error.BothError.TheVariants.{Fore, Back}
use Rattle.deb_index.specs.declared.error.RelField.{RelField}
use Rattle.deb_index.specs.declared.error.RelField.TheVariants.{PreDepends, Depends, Conflicts, Breaks, Provides}
use Rattle.deb_index.specs.declared.package.Reading.{Reading}
use Rattle.deb_index.specs.declared.package.Reading.TheVariants as reading
use Rattle.deb_index.specs.declared.package.Head.{Head}
use Rattle.deb_index.specs.Packages.{PackageView, IndexView, package_view, first_of_each}

-- how many bytes each text may have
abbrev pub byte_limit : ℕ
byte_limit = 1073741824

-- how many stanzas there may be, over both texts
abbrev pub stanza_limit : ℕ
stanza_limit = 4194304

-- reading goes on with the value of a step that did not fail
infixl 10 ◌>>=◌
abbrev pub ◌>>=◌ : {A B E : Type 0} → Result A E → (A → Result B E) → Result B E
(Ok x) >>= f = f x
(Err e) >>= f = Err e

-- what a function returned, seen by view, is what a reading gives, unless memory ran out
abbrev pub Fails : {Y : Type 0} → IndexError → Result Y IndexError → Type 0
Fails Memory read = Unit {0}
Fails e read = read ≡ Err e

abbrev pub Gives : {X Y : Type 0} → (X → Y) → Result X IndexError → Result Y IndexError → Type 0
Gives view (Ok x) read = read ≡ Ok (view x)
Gives view (Err e) read = Fails e read

-- ---- one stanza

-- the value of a field that has to be there
abbrev pub mandatory : ℕ → Option (List ℕ) → Result (List ℕ) IndexError
mandatory n None = Err (MissingField n)
mandatory n (Some value) = Ok value

-- what each stanza has, of whatever architecture
pub record HeadView : Type 0 where
  pub name : List ℕ
  pub version : List ℕ
  pub architecture : List ℕ

abbrev pub head_view : Head → HeadView
head_view h = record { name = h.name.now; version = h.version; architecture = h.architecture.now }

abbrev pub good_name : ℕ → List ℕ → Result (List ℕ) IndexError
good_name n name = if is_name name then Ok name else Err (BadName n)

abbrev pub good_version : ℕ → List ℕ → Result (List ℕ) IndexError
good_version n version = if is_none (fault_of version) then Ok version else Err (BadVersion n)

-- all three are looked for before a name or a version is judged
unfoldable pub head_of : ℕ → List Entry → Result HeadView IndexError
head_of n fields = do
  name ← mandatory n (field_value fields (codes "Package"))
  version ← mandatory n (field_value fields (codes "Version"))
  architecture ← mandatory n (field_value fields (codes "Architecture"))
  name ← good_name n name
  version ← good_version n version
  Ok (record { name = name; version = version; architecture = architecture })

abbrev pub field_name : RelField → List ℕ
field_name PreDepends = codes "Pre-Depends"
field_name Depends = codes "Depends"
field_name Conflicts = codes "Conflicts"
field_name Breaks = codes "Breaks"
field_name Provides = codes "Provides"

-- a field that is absent reads as the empty one
abbrev pub relation_text : List Entry → RelField → List ℕ
relation_text fields field = unwrap_or (field_value fields (field_name field)) []

-- the fault of a stanza with a relationship that cannot be read
abbrev pub relation_fault : ℕ → RelField → RelationError → IndexError
relation_fault n field relation.Name = BadRelation n field
relation_fault n field relation.Bound = BadRelation n field
relation_fault n field relation.Alternative = BadRelation n field
relation_fault n field relation.Trailing = BadRelation n field
relation_fault n field relation.Memory = Memory

abbrev pub in_field : {A : Type 0} → ℕ → RelField → Result A RelationError → Result A IndexError
in_field n field (Ok x) = Ok x
in_field n field (Err e) = Err (relation_fault n field e)

abbrev pub groups_in : ℕ → List Entry → RelField → Result (List (List AtomText)) IndexError
groups_in n fields field = in_field n field (groups_of (relation_text fields field))

abbrev pub atoms_in : ℕ → List Entry → RelField → Result (List AtomText) IndexError
atoms_in n fields field = in_field n field (atoms_of (relation_text fields field))

-- what is provided has a version or none, and no other bound
abbrev pub is_equal : Op → Bool
is_equal Lt = false
is_equal Le = false
is_equal Eq = true
is_equal Ge = false
is_equal Gt = false

abbrev pub is_provided : AtomText → Bool
is_provided atom = option_map_or (λ b. is_equal b.0) atom.bound true

abbrev pub provided : ℕ → List AtomText → Result (List AtomText) IndexError
provided n atoms = if list_all is_provided atoms then Ok atoms else Err (BadRelation n Provides)

unfoldable pub provides_in : ℕ → List Entry → Result (List AtomText) IndexError
provides_in n fields = do
  atoms ← atoms_in n fields Provides
  provided n atoms

abbrev pub is_marked : List Entry → Bool
is_marked fields = option_map_or (λ value. bytes_eq value (codes "yes")) (field_value fields (codes "Essential")) false

-- the value `allowed` in these letters; any other counts as absent
abbrev pub is_allowed : List Entry → Bool
is_allowed fields = option_map_or (λ value. bytes_eq value (codes "allowed")) (field_value fields (codes "Multi-Arch")) false

-- the package that a stanza's head and its relationships make
unfoldable pub package_of : ℕ → List Entry → HeadView → Result PackageView IndexError
package_of n fields head = do
  pre_depends ← groups_in n fields PreDepends
  depends ← groups_in n fields Depends
  conflicts ← atoms_in n fields Conflicts
  breaks ← atoms_in n fields Breaks
  provides ← provides_in n fields
  Ok (record {
    name = head.name;
    version = head.version;
    architecture = head.architecture;
    essential = is_marked fields;
    multi_arch_allowed = is_allowed fields;
    pre_depends = pre_depends;
    depends = depends;
    conflicts = conflicts;
    breaks = breaks;
    provides = provides;
  })

-- whether a stanza counts for an architecture
abbrev pub is_for : List ℕ → List ℕ → Bool
is_for arch architecture = bytes_eq architecture arch || bytes_eq architecture (codes "all")

-- what a stanza without a fault is: a package, or one of another architecture, whose relationships are not read
unfoldable pub reading_of : List ℕ → ℕ → List Entry → Result (Option PackageView) IndexError
reading_of arch n fields = do
  head ← head_of n fields
  if is_for arch head.architecture then (package_of n fields head >>= λ p. Ok (Some p)) else Ok None

abbrev pub reading_view : Reading → Option PackageView
reading_view reading.Skipped = None
reading_view (reading.Kept p) = Some (package_view p)

-- ---- the stanzas of a text, where so many stood in an earlier one

abbrev pub control_fault : ControlError → IndexError
control_fault (control.BadLine n) = BadLine n
control_fault (control.RepeatedField n) = RepeatedField n
control_fault control.Memory = Memory

abbrev pub from_control : {A : Type 0} → Result A ControlError → Result A IndexError
from_control (Ok x) = Ok x
from_control (Err e) = Err (control_fault e)

-- the fault of the n-th stanza where its lines or fields have one: that there are too many stanzas goes first
abbrev pub stanza_fault : ℕ → ℕ → ControlError → IndexError
stanza_fault before n control.Memory = Memory
stanza_fault before n (control.BadLine m) = if nat_lt stanza_limit (before + n) then TooManyStanzas n else BadLine m
stanza_fault before n (control.RepeatedField m) = if nat_lt stanza_limit (before + n) then TooManyStanzas n else RepeatedField m

-- the n-th stanza: that there are too many goes first, then the faults of its lines and fields
unfoldable pub stanza_reading : List ℕ → ℕ → ℕ → List (List ℕ) → Result (Option PackageView) IndexError
stanza_reading arch before n lines =
    if nat_lt stanza_limit (before + n) then Err (TooManyStanzas n)
    else (from_control (read_stanza n lines) >>= λ fields. reading_of arch n fields)

-- each stanza in turn, or the fault of the first that has one; n of this text were read before
unfoldable pub readings : List ℕ → ℕ → ℕ → List (List (List ℕ)) → Result (List (Option PackageView)) IndexError
readings arch before n [] = Ok []
readings arch before n (stanza ∷ more) = do
  first ← stanza_reading arch before (n + 1) stanza
  others ← readings arch before (n + 1) more
  Ok (first ∷ others)

-- two stanzas of one package have its name and its version text
abbrev pub same_package : PackageView → PackageView → Bool
same_package p q = bytes_eq p.name q.name && bytes_eq p.version q.version

abbrev pub kept : List (Option PackageView) → List PackageView
kept read = filter_map (λ (r : Option PackageView). r) read

-- the index of what stanzas read as: the first of each package, and what was left out; none is the foreground's yet
unfoldable pub collected : List ℕ → Bool → List (Option PackageView) → IndexView
collected arch with_essential read =
    let packages = first_of_each same_package (kept read) in
    record {
      arch = arch;
      packages = packages;
      with_essential = with_essential;
      stanzas = length read;
      skipped = length read - length (kept read);
      duplicates = length (kept read) - length packages;
      foreground = 0;
    }

-- all packages are the foreground's
abbrev pub with_foreground : IndexView → IndexView
with_foreground index = record index { foreground = length index.packages }

-- the index of a text, or its first fault
unfoldable pub index_of : List ℕ → List ℕ → Bool → Result IndexView IndexError
index_of text arch with_essential = do
  read ← readings arch 0 0 (stanzas_of text)
  Ok (with_foreground (collected arch with_essential read))

-- ---- a text and a background

abbrev pub in_fore : {A : Type 0} → Result A IndexError → Result A BothError
in_fore (Ok x) = Ok x
in_fore (Err e) = Err (Fore e)

abbrev pub in_back : {A : Type 0} → Result A IndexError → Result A BothError
in_back (Ok x) = Ok x
in_back (Err e) = Err (Back e)

-- want of memory is no fault of either text
abbrev pub IsBare : BothError → Type 0
IsBare e = (e ≢ Fore Memory) × (e ≢ Back Memory)

-- the index of the stanzas of both, or the first fault, where the text's goes first; the packages of the text are the foreground
unfoldable pub index_of_both : List ℕ → List ℕ → List ℕ → Bool → Result IndexView BothError
index_of_both text background arch with_essential = do
  fore ← in_fore (readings arch 0 0 (stanzas_of text))
  back ← in_back (readings arch (length fore) 0 (stanzas_of background))
  Ok (record (collected arch with_essential (fore ++ back)) { foreground = length (collected arch with_essential fore).packages })

-- ---- one stanza after the other

-- a step reads the first stanza that is left
pub record Steps (arch : List ℕ) (before : ℕ) (left : Unread) (read : Option PackageView) (new : Unread) : Type 0 where
  pub stanza : List (List ℕ)
  pub first : left.stanzas ≡ stanza ∷ new.stanzas
  pub counts : new.count ≡ left.count + 1
  pub reads : stanza_reading arch before new.count stanza ≡ Ok read

-- an index with one stanza more
abbrev pub with_reading : IndexView → Option PackageView → IndexView
with_reading index None = record index { stanzas = index.stanzas + 1; skipped = index.skipped + 1 }
with_reading index (Some p) =
    if list_any (λ q. same_package q p) index.packages then record index { stanzas = index.stanzas + 1; duplicates = index.duplicates + 1 }
    else record index { packages = index.packages ++ p ∷ []; stanzas = index.stanzas + 1 }

-- an index, continued with what is read
abbrev pub continued : IndexView → Result (List (Option PackageView)) IndexError → Result IndexView IndexError
continued index read = read >>= λ rest. Ok (fold with_reading index rest)

-- an index, continued with stanzas behind its own; so many of these stood in an earlier text
abbrev pub read_behind : IndexView → ℕ → List (List (List ℕ)) → Result IndexView IndexError
read_behind index before stanzas = continued index (readings index.arch before (index.stanzas - before) stanzas)
