-- Sets that are healthy, and marks of their members.
use Rattle.std.proofs.Common.{◌≡◌, ◌≢◌, ℕ, ◌<◌, Bool, true, false, eqb, leb, List, [], length, get_or, replicate, set, All, Some, refl, sym, subst, ◌∙◌, ap, inl, inr, arith}
use Rattle.std.proofs.lemmas.Bool.{cases_Bool, false≢true, and_from, or_right, le-leb, eqb-true, eq-eqb, both_ways}
use Rattle.std.proofs.lemmas.List.{get_or-replicate, get_or-set_other, length-replicate, length-set}
use Rattle.std.proofs.lemmas.List.Folds.{list_any_at}
use Rattle.std.proofs.lemmas.Option.{slice_get_within, get_or_from_slice_get, slice_get-get_or}
use Rattle.deb_index.specs.Packages.{IndexView}
use Rattle.number_sets.specs.Sets.{NumberSet, members_of, MarksOnly}
use Rattle.deb_health.specs.Causes.{without}
use Rattle.deb_health.specs.Health.{IsHealthy, IsInstallable, MeetsAt}
use Rattle.core_extract.specs.Reduction.{left}
use Rattle.deb_health.proofs.HealthLemmas.{healthy_from_meets}

-- a set that meets all constraints from the first one on is healthy
pub healthy_from_all : (index : IndexView) (set : NumberSet) → MeetsAt index set (without (members_of []) (left (members_of []) 0)) → IsHealthy index set
healthy_from_all index set meets =
    healthy_from_meets index set (without (members_of []) (left (members_of []) 0))
    (λ k inside. and_from (left (members_of []) 0 k) true (or_right (members_of [] k) (leb 0 k) (le-leb 0 k (omega arith))) refl) meets

-- each member of a healthy set can be installed
pub members_installable : (index : IndexView) (set : List ℕ) → IsHealthy index (members_of set) → All (IsInstallable index) set
members_installable index set healthy k d inside =
    (members_of set, (healthy, list_any_at (λ member. eqb member (get_or set k d)) set k d inside (eq-eqb (get_or set k d) (get_or set k d) refl)))

-- without a mark no place is marked
pub none_marked : (Property : ℕ → Type 0) (count : ℕ) → MarksOnly Property (replicate count false)
none_marked Property count q there =
    let inside : q < count = omega (arith, slice_get_within (replicate count false) q true there, length-replicate count false) in
    absurd (false≢true (sym (get_or-replicate count q false false inside) ∙ get_or_from_slice_get (replicate count false) q true false there))

-- one mark more
pub marks_set : (Property : ℕ → Type 0) (marks : List Bool) (place : ℕ) → Property place → MarksOnly Property marks → MarksOnly Property (set marks place true)
marks_set Property marks place has so_far q there =
    elim (cases_Bool (eqb q place)) [
      | inl same ↦ subst Property (sym (eqb-true q place same)) has
      | inr other ↦
          let differs : q ≢ place = λ same. both_ways (eqb q place) other (eq-eqb q place same) in
          let inside : q < length marks = omega (arith, slice_get_within (set marks place true) q true there, length-set marks place true) in
          let kept : get_or marks q true ≡ true = sym (get_or-set_other marks place q true true differs) ∙ get_or_from_slice_get (set marks place true) q true true there in
          so_far q (slice_get-get_or marks q true inside ∙ ap Some kept)
    ]
