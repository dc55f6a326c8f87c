-- Calls of an encoder, one after another.
use Rattle.std.proofs.Common.{◌≡◌, ℕ, ◌↔◌, refl, sym, subst, ◌∙◌}
use Rattle.number_sets.specs.Sets.{NumberSet}
use Rattle.sat_solve.specs.Clauses.{Clauses}
use Rattle.deb_encode.specs.declared.encoder.Encoder.{Encoder}
use Rattle.deb_encode.specs.declared.play.Play.{Play}
use Rattle.deb_encode.specs.Play.{Adds}
use Rattle.deb_encode.specs.Encoders.{IsSame, AddsVars}
use Rattle.deb_encode.proofs.AddLemmas.{adds_none, adds_both, adds_as}

-- nothing is added, for what holds anyway
pub tells_here : (A : Play → NumberSet → Type 0) (start now : Encoder) → IsSame start now → now.formula.now ≡ start.formula.now → ((vars : NumberSet) → A start.play vars) → AddsVars A start now
tells_here A start now same is always =
    let To : Clauses → Type 0 = λ after. Adds start.group (A start.play) start.formula.now after in
    record { same = same; adds = subst To (sym is) (adds_none start.group (A start.play) start.formula.now always) }

pub tells_none : (A : Play → NumberSet → Type 0) (start : Encoder) → ((vars : NumberSet) → A start.play vars) → AddsVars A start start
tells_none A start = tells_here A start start (record { play = refl; group = refl; formula = refl }) refl

-- the same, said in other words
pub tells_as : (A B : Play → NumberSet → Type 0) (start now : Encoder) → ((vars : NumberSet) → (A start.play vars ↔ B start.play vars)) → AddsVars A start now → AddsVars B start now
tells_as A B start now same told = record { same = told.same; adds = adds_as start.group (A start.play) (B start.play) start.formula.now now.formula.now same told.adds }

-- what two calls add
pub tells_both : (A B : Play → NumberSet → Type 0) (start now next : Encoder) → AddsVars A start now → AddsVars B now next → AddsVars (λ play vars. A play vars × B play vars) start next
tells_both A B start now next first second =
    let InGroup : ℕ → Type 0 = λ group. Adds group (B now.play) now.formula.now next.formula.now in
    let Over : Play → Type 0 = λ play. Adds start.group (B play) now.formula.now next.formula.now in
    record {
      same = record { play = second.same.play ∙ first.same.play; group = second.same.group ∙ first.same.group; formula = second.same.formula ∙ first.same.formula };
      adds =
          adds_both start.group (A start.play) (B start.play) start.formula.now now.formula.now next.formula.now first.adds
          (subst Over first.same.play (subst InGroup first.same.group second.adds));
    }

-- of an encoder that has other buffers
pub tells_from : (A : Play → NumberSet → Type 0) (start now next : Encoder) → IsSame start now → now.formula.now ≡ start.formula.now → AddsVars A now next → AddsVars A start next
tells_from A start now next same is told =
    tells_as (λ play vars. IsSame start now × A play vars) A start next (λ vars. (λ both. both.1, λ a. (same, a)))
    (tells_both (λ play vars. IsSame start now) A start now next (tells_here (λ play vars. IsSame start now) start now same is (λ vars. same)) told)
