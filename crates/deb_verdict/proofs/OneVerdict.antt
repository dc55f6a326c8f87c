-- A package has one verdict, and one thing is told of it.
use Rattle.std.proofs.Common.{◌≡◌, ℕ, List, [], ◌∷◌, map, Some, slice_get, refl, sym, ◌∙◌, ap}
use Rattle.std.proofs.lemmas.Bool.{false≢true}
use Rattle.std.proofs.lemmas.Option.{same_Some}
use Rattle.deb_index.specs.declared.constraint.Constraint.{Constraint}
use Rattle.deb_index.specs.Packages.{IndexView}
use Rattle.deb_index.specs.Constraints.{constraints_of}
use Rattle.number_sets.specs.Sets.{NumberSet, members_of}
use Rattle.number_sets.proofs.SetLemmas.{first_once}
use Rattle.number_sets.proofs.RisingLists.{rising_once}
use Rattle.deb_health.specs.Health.{IsInstallation, AdmitsNone}
use Rattle.deb_health.specs.Verdicts.{AreToldCores, Blocked, Found, Installable, IsFirstInstallation, IsFirstCore, IsTold, ToldView}
use Rattle.deb_health.specs.declared.told.Cores.{Cores}
use Rattle.deb_health.specs.declared.told.Cores.TheVariants as cores_are
use Rattle.deb_health.specs.declared.told.Wanted.{Wanted}
use Rattle.deb_health.proofs.CoreLemmas.{one_list}

-- a package has one first healthy set
pub one_installation : (index : IndexView) (p : ℕ) (a b : List ℕ) → IsFirstInstallation index p a → IsFirstInstallation index p b → a ≡ b
one_installation index p a b first second =
    let same : members_of a ≡ members_of b = first_once (IsInstallation index p) (members_of a) (members_of b) first.1 second.1 in
    rising_once a b first.0 second.0 (λ number. ap (λ (s : NumberSet). s number) same)

all_some : {A : Type 0} (xs ys : List A) → map Some xs ≡ map Some ys → xs ≡ ys
all_some [] [] same = refl
all_some [] (y ∷ ys) same = cc
all_some (x ∷ xs) [] same = cc
all_some (x ∷ xs) (y ∷ ys) same =
    let here : Some x ≡ Some y = cc in
    let there : map Some xs ≡ map Some ys = cc in
    ap (λ z. z ∷ xs) (same_Some x y here) ∙ ap (λ zs. y ∷ zs) (all_some xs ys there)

-- and one first core
pub one_core : (index : IndexView) (p : ℕ) (a b : List Constraint) → IsFirstCore index p a → IsFirstCore index p b → a ≡ b
one_core index p a b first second =
    let same : members_of first.positions ≡ members_of second.positions = first_once (AdmitsNone index p) (members_of first.positions) (members_of second.positions) first.first second.first in
    let listed : first.positions ≡ second.positions = rising_once first.positions second.positions first.rising second.rising (λ number. ap (λ (s : NumberSet). s number) same) in
    all_some a b (sym first.stand_there ∙ (ap (map (slice_get (constraints_of index))) listed ∙ second.stand_there))

-- and one list of as many cores as are wanted
one_list_told : (cores : Cores) (index : IndexView) (p : ℕ) (a b : List (List Constraint)) → AreToldCores cores index p a → AreToldCores cores index p b → a ≡ b
one_list_told cores_are.None index p a b first second = first ∙ sym second
one_list_told cores_are.First index p a b first second = first.1 ∙ (ap (λ core. core ∷ []) (one_core index p first.0 second.0 first.2 second.2) ∙ sym second.1)
one_list_told cores_are.All index p a b first second = one_list index p a b first second

-- so one thing is told of it
pub one_told : (wanted : Wanted) (index : IndexView) (p : ℕ) (a b : ToldView) → IsTold wanted index p a → IsTold wanted index p b → a ≡ b
one_told wanted index p Installable Installable first second = refl
one_told wanted index p Installable (Found b) first second = absurd (false≢true (sym first.0 ∙ second.0))
one_told wanted index p Installable (Blocked b) first second = absurd (second.0 first.1.0 first.1.1)
one_told wanted index p (Found a) Installable first second = absurd (false≢true (sym second.0 ∙ first.0))
one_told wanted index p (Found a) (Found b) first second = ap Found (one_installation index p a b first.1 second.1)
one_told wanted index p (Found a) (Blocked b) first second = absurd (second.0 (members_of a) first.1.1.0)
one_told wanted index p (Blocked a) Installable first second = absurd (first.0 second.1.0 second.1.1)
one_told wanted index p (Blocked a) (Found b) first second = absurd (first.0 (members_of b) second.1.1.0)
one_told wanted index p (Blocked a) (Blocked b) first second = ap Blocked (one_list_told wanted.cores index p a b first.1 second.1)
