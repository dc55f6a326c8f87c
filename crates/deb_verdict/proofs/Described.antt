-- What all that is told of the places in play says together.
use Rattle.std.proofs.Common.{◌≡◌, ℕ, ◌<◌, true, List, [], ◌++◌, length, All, ◌↔◌, sym, subst, ◌∙◌, inl, inr}
use Rattle.std.proofs.lemmas.Bool.{or_left}
use Rattle.std.proofs.lemmas.List.Elements.{All-weaker, All-contains}
use Rattle.deb_index.specs.declared.constraint.Constraint.TheVariants.{Need}
use Rattle.deb_index.specs.Packages.{IndexView}
use Rattle.deb_index.specs.Constraints.{Holds, IsOfIndex, HasOneVersion}
use Rattle.number_sets.specs.Sets.{NumberSet, members_of, positions_of}
use Rattle.sat_solve.specs.Clauses.{Clauses}
use Rattle.deb_encode.specs.Play.{Adds, placed}
use Rattle.deb_verdict.specs.declared.gather.UnmetNeed.{UnmetNeed}
use Rattle.deb_verdict.specs.Formulas.{AreUnmet, IsDescription}
use Rattle.deb_health.specs.Health.{IsHealthy}
use Rattle.deb_encode.specs.declared.encoder.Encoder.{Encoder}
use Rattle.deb_encode.specs.declared.play.Play.{Play}
use Rattle.deb_encode.specs.Encoders.{AddsVars, Tells, in_play}
use Rattle.deb_encode.specs.Exclusions.{MeetsEntries, MeetsEssentials}
use Rattle.deb_groundwork.proofs.Healthy.{MeetsNeeds, MeetsPlace, healthy_parts, healthy_from_parts}
use Rattle.deb_verdict.specs.declared.gather.Candidates.{Candidates}
use Rattle.deb_verdict.specs.Closure.{IsGathered}
use Rattle.deb_encode.proofs.Told.{in_play_either, in_play_placed, in_play_within}
use Rattle.deb_encode.proofs.Each.{added_vars, added_groups, added_in_group, added_says}
use Rattle.deb_encode.proofs.EncoderLemmas.{tells_as, tells_both}

-- what is said of the places in play, where these are others by name alone
pub carry : (P : IndexView → List ℕ → List ℕ → Type 0) (index index_too : IndexView) (forced forced_too candidates candidates_too : List ℕ) → index ≡ index_too → forced ≡ forced_too → candidates ≡ candidates_too
    → P index forced candidates → P index_too forced_too candidates_too
carry P index index_too forced forced_too candidates candidates_too same_index same_forced same_candidates said =
    let Of : IndexView → Type 0 = λ one. P one forced candidates in
    let Forced : List ℕ → Type 0 = λ list. P index_too list candidates in
    let Candidates_of : List ℕ → Type 0 = λ list. P index_too forced_too list in
    subst Candidates_of same_candidates (subst Forced same_forced (subst Of same_index said))

pub unmet_in_play : (play : Play) (index : IndexView) (forced : List ℕ) (candidates : Candidates) (unmet : List UnmetNeed) → play.index.now ≡ index → play.forced.now ≡ forced
    → play.candidates.now ≡ candidates.places → unmet ≡ candidates.unmet.items → IsGathered index (members_of forced) candidates → AreUnmet play.index.now play.forced.now play.candidates.now unmet
unmet_in_play play index forced candidates unmet same_index same_forced same_candidates same_unmet gathered =
    carry (λ one list others. AreUnmet one list others unmet) index play.index.now forced play.forced.now candidates.places play.candidates.now (sym same_index) (sym same_forced) (sym same_candidates)
    (subst (AreUnmet index forced candidates.places) (sym same_unmet) (
      gathered.needs,
      λ place j less is_in.
          elim (gathered.told place j less is_in) [
            | inl one ↦ inl one
            | inr all ↦ inr all.1
          ],
    ))

module _ (index : IndexView) (forced candidates : List ℕ) (vars : NumberSet) where
  abbrev Needs : List UnmetNeed → Type 0
  Needs unmet = All (λ need. Holds index (placed forced candidates vars) (Need need.place need.number)) unmet

  module _ (unmet : List UnmetNeed) (are : AreUnmet index forced candidates unmet) where
    -- where the unmet needs of the places in play are met, all their needs are
    needs_met : Needs unmet → (q : ℕ) → members_of (forced ++ candidates) q ≡ true → MeetsNeeds index (placed forced candidates vars) q
    needs_met all q is_in j less =
        elim (are.1 q j less (sym (in_play_either forced candidates q) ∙ is_in)) [
          | inl found ↦ λ has. (found.0, or_left (members_of forced found.0) (positions_of candidates vars found.0) found.1, found.2)
          | inr listed ↦ All-contains (λ need. Holds index (placed forced candidates vars) (Need need.place need.number)) unmet (record { place = q; number = j }) all listed
        ]

    unmet_met : ((p : ℕ) → p < length index.packages → MeetsPlace index (placed forced candidates vars) p) → Needs unmet
    unmet_met each =
        All-weaker (λ need. IsOfIndex index (Need need.place need.number)) (λ need. Holds index (placed forced candidates vars) (Need need.place need.number))
        (λ need is_need. (each need.place is_need.0).needs need.number is_need.1) unmet are.0

    -- the essential names, the unmet needs, and what the places in play keep out: these constraints are all that matter
    healthy_in_play : All (λ q. q < length index.packages) forced → All (λ q. q < length index.packages) candidates
        → ((((MeetsEssentials index (placed forced candidates vars) × Needs unmet) × ((q : ℕ) → members_of (forced ++ candidates) q ≡ true → MeetsEntries index (placed forced candidates vars) q))
        × ((q : ℕ) → members_of (forced ++ candidates) q ≡ true → HasOneVersion index (placed forced candidates vars) q)) ↔ IsHealthy index (placed forced candidates vars))
    healthy_in_play forced_within candidates_within = (
      λ all.
          healthy_from_parts index (placed forced candidates vars) all.0.0.0
          (λ q there.
          let is_in = in_play_placed forced candidates vars q there in
          record { needs = needs_met all.0.0.1 q is_in; conflicts = record { entries = all.0.1 q is_in; once = all.1 q is_in } }),
      λ healthy.
          let parts = healthy_parts index (placed forced candidates vars) healthy in (
            ((parts.0, unmet_met parts.1), λ q is_in. (parts.1 q (in_play_within forced candidates (length index.packages) forced_within candidates_within q is_in)).conflicts.entries),
            λ q is_in. (parts.1 q (in_play_within forced candidates (length index.packages) forced_within candidates_within q is_in)).conflicts.once,
          ),
    )

-- ---- what an encoder adds, one call after the other

abbrev HealthyOf : Play → NumberSet → Type 0
HealthyOf play vars = IsHealthy play.index.now (placed play.forced.now play.candidates.now vars)

pub all_told : (unmet : List UnmetNeed) (made first second third last : Encoder) → AreUnmet made.play.index.now made.play.forced.now made.play.candidates.now unmet
    → Tells (λ p set. MeetsEssentials p.index.now set) made first → Tells (λ p set. All (λ need. Holds p.index.now set (Need need.place need.number)) unmet) first second
    → Tells (λ p set. (q : ℕ) → in_play p q ≡ true → MeetsEntries p.index.now set q) second third → Tells (λ p set. (q : ℕ) → in_play p q ≡ true → HasOneVersion p.index.now set q) third last
    → AddsVars HealthyOf made last
all_told unmet made first second third last are one two three four =
    tells_as _ HealthyOf made last
    (λ vars. healthy_in_play made.play.index.now made.play.forced.now made.play.candidates.now vars unmet are made.play.forced_within made.play.candidates_within)
    (tells_both _ _ made third last (tells_both _ _ made second third (tells_both _ _ made first second one two) three) four)

pub described : (index : IndexView) (forced candidates : List ℕ) (before after : Clauses) → before ≡ record { vars = length candidates; groups = 1; clauses = [] }
    → Adds 0 (λ vars. IsHealthy index (placed forced candidates vars)) before after → IsDescription index forced candidates after
described index forced candidates before after empty adds = record {
  vars = added_vars 0 (length candidates) 1 _ before after empty adds;
  groups = added_groups 0 (length candidates) 1 _ before after empty adds;
  in_group = added_in_group 0 (length candidates) 1 _ before after empty adds;
  describes = added_says 0 (length candidates) 1 _ before after empty adds;
}
