-- Sets of places cut down to those that matter.
use Rattle.std.proofs.Common.{◌≡◌, ◌⊎◌, ℕ, true, false, refl, sym, ◌∙◌, ap, inl, inr}
use Rattle.std.specs.List.{list_any}
use Rattle.std.proofs.lemmas.Bool.{cases_Bool, false≢true, true≢false, and_parts, and_from, both_ways}
use Rattle.deb_index.specs.declared.constraint.Constraint.{Constraint}
use Rattle.deb_index.specs.declared.constraint.Constraint.TheVariants.{Essential, Need, Apart, Only}
use Rattle.deb_index.specs.Packages.{IndexView, places_of, name_at}
use Rattle.deb_index.specs.Constraints.{Holds, constraints_of, answers}
use Rattle.number_sets.specs.Sets.{NumberSet, IsFirst, all_of, IsWithin}
use Rattle.number_sets.proofs.SetLemmas.{first_within}
use Rattle.deb_health.specs.Health.{IsHealthy, IsInstallation, MeetsAt, Admits, AdmitsNone}
use Rattle.deb_verdict.specs.Closure.{HasNames, cut, IsClosed, is_kept, is_kept_there, kept}
use Rattle.deb_index.proofs.IndexFacts.{All-at, IsRight, all_right, some_named}
use Rattle.deb_health.proofs.HealthLemmas.{healthy_from_meets}

-- a part of the places in which a forced place answers each need of a member, or else all that may answer it are members too
pub record IsEnough (index : IndexView) (forced within : NumberSet) : Type 0 where
  pub has_forced : IsWithin forced within
  pub essential : HasNames index forced within
  pub answered : (member j : ℕ) → within member ≡ true
      → ((q : ℕ) × (forced q ≡ true) × (answers index member j q ≡ true)) ⊎ IsWithin (answers index member j) within

-- a constraint that a set meets, it meets when cut down to such a part
pub cut_holds : (index : IndexView) (forced within : NumberSet) → IsEnough index forced within → (set : NumberSet) → IsWithin forced set
    → (constraint : Constraint) → IsRight index constraint → Holds index set constraint → Holds index (cut set within) constraint
cut_holds index forced within enough set has (Essential number) right holds =
    elim (enough.essential number right) [
      | inl one ↦ (one.0, and_from (set one.0) (within one.0) (has one.0 one.1) (enough.has_forced one.0 one.1), one.2)
      | inr all ↦ (holds.0, and_from (set holds.0) (within holds.0) holds.1 (all holds.0 holds.2), holds.2)
    ]
cut_holds index forced within enough set has (Need p j) right holds =
    λ is_in.
    let both = and_parts (set p) (within p) is_in in
    let found = holds both.0 in
    elim (enough.answered p j both.1) [
      | inl one ↦ (one.0, and_from (set one.0) (within one.0) (has one.0 one.1) (enough.has_forced one.0 one.1), one.2)
      | inr all ↦ (found.0, and_from (set found.0) (within found.0) found.1 (all found.0 found.2), found.2)
    ]
cut_holds index forced within enough set has (Apart p j) right holds =
    λ is_in q there hit. holds ((and_parts (set p) (within p) is_in).0) q ((and_parts (set q) (within q) there).0) hit
cut_holds index forced within enough set has (Only number) right holds =
    λ q r one other. holds q r ((and_parts (set q) (within q) one).0) ((and_parts (set r) (within r) other).0)

-- the pruned form: what a set meets, it meets when cut down
pub cut_meets : (index : IndexView) (forced within : NumberSet) → IsEnough index forced within → (set : NumberSet) → IsWithin forced set
    → (positions : NumberSet) → MeetsAt index set positions → MeetsAt index (cut set within) positions
cut_meets index forced within enough set has positions meets k constraint asked there =
    cut_holds index forced within enough set has constraint (All-at (IsRight index) (constraints_of index) k constraint (all_right index) there) (meets k constraint asked there)

pub meets_from_healthy : (index : IndexView) (set positions : NumberSet) → IsHealthy index set → MeetsAt index set positions
meets_from_healthy index set positions healthy k constraint asked there = All-at (Holds index set) (constraints_of index) k constraint healthy there

-- a healthy set with p, cut down, is one still
pub cut_installation : (index : IndexView) (p : ℕ) (forced within : NumberSet) → IsEnough index forced within → within p ≡ true → (set : NumberSet) → IsWithin forced set
    → IsInstallation index p set → IsInstallation index p (cut set within)
cut_installation index p forced within enough has_p set has installed = (
  healthy_from_meets index (cut set within) all_of (λ k below. refl) (cut_meets index forced within enough set has all_of (meets_from_healthy index set all_of installed.0)),
  and_from (set p) (within p) installed.1 has_p,
)

-- so where all healthy sets with p have what is forced, the first one lies in the part
pub first_is_within : (index : IndexView) (p : ℕ) (forced within : NumberSet) → IsEnough index forced within → within p ≡ true
    → ((set : NumberSet) → IsInstallation index p set → IsWithin forced set)
    → (set : NumberSet) → IsFirst (IsInstallation index p) set → IsWithin set within
first_is_within index p forced within enough has_p respected set first q is_in =
    let same : set ≡ cut set within = first_within (IsInstallation index p) set within first (cut_installation index p forced within enough has_p set (respected set first.0) first.0) in
    (and_parts (set q) (within q) (sym (ap (λ (s : NumberSet). s q) same) ∙ is_in)).1

-- no numbers
abbrev pub none_of : NumberSet
none_of number = false

-- with no place forced, a closed set is enough
pub closed_enough : (index : IndexView) (p : ℕ) (members : NumberSet) → IsClosed index p members → IsEnough index none_of members
closed_enough index p members closed = record {
  has_forced = λ number is_in. absurd (false≢true is_in);
  essential = λ number right. inr (λ q named. closed.essential number q right named);
  answered = λ member j is_in. inr (λ q answered. closed.answered member j q is_in answered);
}

pub has_nothing : (set : NumberSet) → IsWithin none_of set
has_nothing set number is_in = absurd (false≢true is_in)

-- a set of members meets each constraint that speaks of none
pub unkept_holds : (index : IndexView) (members set : NumberSet) → IsWithin set members → (constraint : Constraint) → is_kept index members constraint ≡ false → Holds index set constraint
unkept_holds index members set within (Essential number) out = absurd (true≢false out)
unkept_holds index members set within (Need p j) out = λ is_in. absurd (both_ways (members p) out (within p is_in))
unkept_holds index members set within (Apart p j) out = λ is_in. absurd (both_ways (members p) out (within p is_in))
unkept_holds index members set within (Only number) out =
    λ q r one other named also. absurd (both_ways (list_any members (places_of index (name_at index number))) out (some_named index members q number (within q one) named))

pub kept_meets : (index : IndexView) (members set positions : NumberSet) → IsWithin set members → MeetsAt index set (cut positions (kept index members)) → MeetsAt index set positions
kept_meets index members set positions within meets k constraint asked there =
    elim (cases_Bool (is_kept index members constraint)) [
      | inl stays ↦ meets k constraint (and_from (positions k) (kept index members k) asked (ap (is_kept_there index members) there ∙ stays)) there
      | inr out ↦ unkept_holds index members set within constraint out
    ]

-- fewer constraints are met where more are
pub fewer_meets : (index : IndexView) (set fewer more : NumberSet) → IsWithin fewer more → MeetsAt index set more → MeetsAt index set fewer
fewer_meets index set fewer more within meets k constraint asked there = meets k constraint (within k asked) there

pub cut_within : (a b : NumberSet) → IsWithin (cut a b) a
cut_within a b number is_in = (and_parts (a number) (b number) is_in).0

module _ (index : IndexView) (p : ℕ) (members : NumberSet) (closed : IsClosed index p members) where
  -- what a set meets, its part in the closure meets
  pub closure_meets : (set positions : NumberSet) → MeetsAt index set positions → MeetsAt index (cut set members) positions
  closure_meets set positions meets = cut_meets index none_of members (closed_enough index p members closed) set (has_nothing set) positions meets

  -- which contains p where the set does
  pub cut_contains : (set : NumberSet) → set p ≡ true → cut set members p ≡ true
  cut_contains set contains = and_from (set p) (members p) contains closed.start

  cut_is_within : (set : NumberSet) → IsWithin (cut set members) members
  cut_is_within set number is_in = (and_parts (set number) (members number) is_in).1

  -- the kept constraints admit p where all of the chosen ones do
  pub kept_admits : (positions : NumberSet) → Admits index p (cut positions (kept index members)) → Admits index p positions
  kept_admits positions admits = (
    cut admits.0 members,
    and_from (admits.0 p) (members p) admits.1 closed.start,
    kept_meets index members (cut admits.0 members) positions (cut_is_within admits.0) (closure_meets admits.0 (cut positions (kept index members)) admits.2),
  )

  pub admits_kept : (positions : NumberSet) → Admits index p positions → Admits index p (cut positions (kept index members))
  admits_kept positions admits = (admits.0, admits.1, fewer_meets index admits.0 (cut positions (kept index members)) positions (cut_within positions (kept index members)) admits.2)

  -- the first healthy set lies in the closure
  pub first_set_within : (set : NumberSet) → IsFirst (IsInstallation index p) set → IsWithin set members
  first_set_within set first = first_is_within index p none_of members (closed_enough index p members closed) closed.start (λ other installed. has_nothing other) set first

  -- the first core has kept constraints alone
  pub first_core_within : (positions : NumberSet) → IsFirst (AdmitsNone index p) positions → IsWithin positions (kept index members)
  first_core_within positions first k is_in =
      let same : positions ≡ cut positions (kept index members) = first_within (AdmitsNone index p) positions (kept index members) first (λ admits. first.0 (kept_admits positions admits)) in
      (and_parts (positions k) (kept index members k) (sym (ap (λ (s : NumberSet). s k) same) ∙ is_in)).1
