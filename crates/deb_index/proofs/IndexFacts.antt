-- What the definitions of an index give, and rising lists of places.
use Rattle.std.proofs.Common.{◌≡◌, ℕ, ◌<◌, Bool, true, false, List, length, Option, Some, None, slice_get, refl, subst, ◌∙◌, arith, All, ◌↔◌, sym, Contains, zero, suc, ◌≤◌}
use Rattle.std.specs.List.{list_any}
use Rattle.std.specs.Option.{option_map_or}
use Rattle.std.proofs.lemmas.Bool.{false≢true}
use Rattle.std.proofs.lemmas.List.Elements.{All-contains_itself}
use Rattle.std.proofs.lemmas.Option.{slice_get_within, get_or_from_slice_get}
use Rattle.deb_relation.specs.Relationship.{AtomText}
use Rattle.deb_index.specs.declared.constraint.Constraint.{Constraint}
use Rattle.deb_index.specs.declared.constraint.Constraint.TheVariants.{Essential, Need, Apart, Only}
use Rattle.deb_index.specs.Packages.{IndexView, PackageView, names, name_at, is_named, places_of, essential_names, need_at, is_essential}
use Rattle.deb_index.specs.Meets.{meets, meets_at, meets_need, satisfiers}
use Rattle.deb_index.specs.Constraints.{constraints_of, has_name, answers, Holds, HasOneOf}
use Rattle.deb_index.proofs.ConstraintLemmas.{all-constraints}
use Rattle.deb_index.proofs.HoldsLemmas.{group-at}
use Rattle.deb_index.proofs.MemberLemmas.{member-places_where, below-places_where}
use Rattle.number_sets.specs.Sets.{NumberSet, members_of}
use Rattle.number_sets.proofs.ListMembers.{member_any}
use Rattle.std.specs.List.Sorted.{IsStrictlyIncreasing}
use Rattle.number_sets.proofs.SparseSetLemmas.{position_at_most}

-- what is at an index of the list has what all have
pub All-at : {A : Type 0} (P : A → Type 0) (xs : List A) (k : ℕ) (x : A) → All P xs → slice_get xs k ≡ Some x → P x
All-at P xs k x all there =
    let inside : k < length xs = slice_get_within xs k x there in
    subst P (get_or_from_slice_get xs k x x there) (all k x inside)

-- only essential names have an `Essential` constraint
abbrev pub IsRight : IndexView → Constraint → Type 0
IsRight index (Essential number) = Contains (essential_names index) number
IsRight index (Need p j) = Unit {0}
IsRight index (Apart p j) = Unit {0}
IsRight index (Only number) = Unit {0}

pub all_right : (index : IndexView) → All (IsRight index) (constraints_of index)
all_right index = all-constraints index (IsRight index) (All-contains_itself (essential_names index)) (λ p less j few. tt) (λ p less j few. tt) (λ n less. tt)

-- a test of what is at a place passes at places alone
found_within : {A : Type 0} (test : A → Bool) (xs : List A) (q : ℕ) (found : Option A) → slice_get xs q ≡ found → option_map_or test found false ≡ true → q < length xs
found_within test xs q (Some x) there holds = slice_get_within xs q x there
found_within test xs q None there holds = absurd (false≢true holds)

pub named_is_place : (index : IndexView) (q number : ℕ) → has_name index q number ≡ true → q < length index.packages
named_is_place index q number named = found_within (is_named (name_at index number)) index.packages q (slice_get index.packages q) refl named

pub answers_is_place : (index : IndexView) (p j q : ℕ) → answers index p j q ≡ true → q < length index.packages
answers_is_place index p j q answered =
    let found : Option PackageView = slice_get index.packages q in
    found_within (λ item. list_any (meets_need index.arch item) (need_at index p j)) index.packages q found refl (group-at (meets_need index.arch) (need_at index p j) found ∙ answered)

-- the places of a name are those that have it
pub member_named : (index : IndexView) (number q : ℕ) → members_of (places_of index (name_at index number)) q ≡ has_name index q number
member_named index number q = member-places_where (is_named (name_at index number)) index.packages q

-- the satisfiers of an atom are the places that meet it
pub member_satisfiers : (index : IndexView) (atom : AtomText) (q : ℕ) → members_of (satisfiers index atom) q ≡ meets_at index q atom
member_satisfiers index atom q = member-places_where (λ item. meets index.arch item atom) index.packages q

-- a member with the name is one of the name's places
pub some_named : (index : IndexView) (candidates : NumberSet) (q number : ℕ) → candidates q ≡ true → has_name index q number ≡ true → list_any candidates (places_of index (name_at index number)) ≡ true
some_named index candidates q number is_in named =
    member_any candidates (places_of index (name_at index number)) q is_in (member_named index number q ∙ named)

-- at most one of the places of a name is in where no two of its packages are
pub only_says_once : (index : IndexView) (number : ℕ) (set : NumberSet) → Holds index set (Only number) → HasOneOf (places_of index (name_at index number)) set
only_says_once index number set holds q r named also is_there is_too = holds q r is_there is_too (sym (member_named index number q) ∙ named) (sym (member_named index number r) ∙ also)

pub once_says_only : (index : IndexView) (number : ℕ) (set : NumberSet) → (HasOneOf (places_of index (name_at index number)) set ↔ Holds index set (Only number))
once_says_only index number set = (
  λ once q r is_there is_too named also. once q r (member_named index number q ∙ named) (member_named index number r ∙ also) is_there is_too,
  λ holds. only_says_once index number set holds,
)

-- the places of a name, and those that meet an atom, are places
pub named_below : (index : IndexView) (name : List ℕ) → All (λ q. q < length index.packages) (places_of index name)
named_below index name = below-places_where (is_named name) index.packages

-- the numbers of essential names are numbers of names
pub essential_below : (index : IndexView) → All (λ number. number < length (names index)) (essential_names index)
essential_below index = below-places_where (is_essential index) (names index)

-- a rising list of numbers below a bound is no longer than the bound
last_above : (xs : List ℕ) (size : ℕ) → length xs ≡ size → IsStrictlyIncreasing xs → (bound : ℕ) → All (λ q. q < bound) xs → size ≤ bound
last_above xs zero size_is rising bound below = omega arith
last_above xs (suc size) size_is rising bound below = omega (arith, position_at_most xs size rising (omega arith), below size 0 (omega arith))

pub rising_length : (xs : List ℕ) → IsStrictlyIncreasing xs → (bound : ℕ) → All (λ q. q < bound) xs → length xs ≤ bound
rising_length xs rising bound below = last_above xs (length xs) refl rising bound below
