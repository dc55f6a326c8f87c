-- By what a package answers a need, and the packages that entries of Conflicts and Breaks hit.
use Rattle.std.specs.Prelude.{ℕ, Bool, ◌&&◌, List, [], ◌∷◌, Option, None, Some, if◌then◌else◌, ◌==◌, false, not, length, filter}
use Rattle.std.specs.List.{find, list_any}
use Rattle.deb_relation.specs.Relationship.{AtomText, is_usable}
use Rattle.deb_index.specs.Meets.{allows, entry_meets, meets_itself}
use Rattle.deb_index.specs.declared.constraint.Constraint.{Constraint}
use Rattle.deb_index.specs.Packages.{IndexView, PackageView, package_at}
use Rattle.deb_causes.specs.Near.{NearMissView, alternatives}
use Rattle.deb_index.specs.declared.constraint.Constraint.TheVariants.{Essential, Need, Apart, Only}
use Rattle.deb_index.specs.Constraints.{below, hits}

-- the package may stand for the alternative, whatever it meets it by: the alternative is usable, and with the qualifier `any` the package has the mark
abbrev pub may_answer : List ℕ → PackageView → AtomText → Bool
may_answer arch deb atom = is_usable arch atom.qualifier && allows deb atom

-- it meets the alternative by its own name and version
abbrev pub answers_itself : List ℕ → PackageView → AtomText → Bool
answers_itself arch deb atom = may_answer arch deb atom && meets_itself deb atom

-- it meets the alternative by an entry of its Provides
abbrev pub answers_by : List ℕ → PackageView → AtomText → AtomText → Bool
answers_by arch deb entry atom = may_answer arch deb atom && entry_meets arch atom entry

-- the first entry of a package's Provides that meets one of these alternatives
abbrev pub first_entry : List ℕ → List AtomText → PackageView → Option AtomText
first_entry arch atoms deb = find (λ entry. list_any (answers_by arch deb entry) atoms) deb.provides

abbrev pub listed_if : Option AtomText → List AtomText
listed_if None = []
listed_if (Some entry) = entry ∷ []

-- what is told of how a package meets one of these alternatives: nothing where its own name and version meet one, else that entry
unfoldable pub entry_told : List ℕ → List AtomText → PackageView → List AtomText
entry_told arch atoms deb = if list_any (answers_itself arch deb) atoms then [] else listed_if (first_entry arch atoms deb)

-- of the package at a place, and a need
abbrev pub met_by : IndexView → Constraint → ℕ → List AtomText
met_by index constraint place = entry_told index.arch (alternatives index constraint) (package_at index place)

-- the package with what is told of how it meets the need
abbrev pub answer_at : IndexView → Constraint → ℕ → NearMissView
answer_at index constraint place = record { deb = package_at index place; provides = met_by index constraint place }

-- the constraint is an entry that hits the package
abbrev pub is_hit_by : IndexView → ℕ → Constraint → Bool
is_hit_by index place (Essential name) = false
is_hit_by index place (Need needing number) = false
is_hit_by index place (Apart apart number) = hits index apart number place && not (place == apart)
is_hit_by index place (Only name) = false

-- the places of the packages that the entries among the constraints hit, rising
unfoldable pub hits_of : IndexView → List Constraint → List ℕ
hits_of index constraints = filter (λ place. list_any (is_hit_by index place) constraints) (below (length index.packages))
