-- What a walk tells, step by step.
use Rattle.std.proofs.Common.{◌≡◌, ℕ, zero, suc, ◌+◌, ◌-◌, ◌<◌, ◌≤◌, List, [], ◌∷◌, ◌++◌, length, reverse, append-nil, refl, sym, ap, ◌∙◌, arith}
use Rattle.std.proofs.lemmas.List.{append_assoc}
use Rattle.number_sets.specs.Sets.{NumberSet, members_of}
use Rattle.deb_index.specs.declared.constraint.Constraint.{Constraint}
use Rattle.deb_index.specs.Packages.{IndexView}
use Rattle.deb_report.specs.declared.walk.Step.{Step}
use Rattle.deb_report.specs.Walk.{comers, first_steps, step_limit, steps_behind, told_behind, walk}
use Rattle.deb_report.proofs.WalkLemmas.{next_is}
use Rattle.deb_report.specs.WalkLines.{step_text, walk_lines, walk_text}

-- with no step left nothing is told
pub walk_none : (count : ℕ) (index : IndexView) (core : List Constraint) (coming told : NumberSet) → walk_text count index core coming told [] ≡ []
unfolding walk
walk_none zero index core coming told = refl
walk_none (suc count) index core coming told = refl

walk_one : (count : ℕ) (index : IndexView) (core : List Constraint) (coming told : NumberSet) (step : Step) (steps : List Step)
    → walk_text (suc count) index core coming told (step ∷ steps) ≡ step_text index core coming told step ++ walk_text count index core coming (told_behind told step) (steps_behind index core told step ++ steps)
unfolding walk
walk_one count index core coming told step steps = refl

-- the text goes on with that of the step, and what is left with what follows from it
pub gone : (index : IndexView) (core : List Constraint) (coming told later : NumberSet) (limit counter : ℕ) (out longer total : List ℕ) (stack popped next steps : List Step) (step : Step)
    → counter < limit → stack ≡ popped ++ step ∷ [] → longer ≡ out ++ step_text index core coming told step → later ≡ told_behind told step
    → reverse next ≡ steps ++ reverse popped → steps ≡ steps_behind index core told step
    → out ++ walk_text (limit - counter) index core coming told (reverse stack) ≡ total
    → longer ++ walk_text (limit - (counter + 1)) index core coming later (reverse next) ≡ total
gone index core coming told later limit counter out longer total stack popped next steps step more top text marked put follow before =
    let left : limit - counter ≡ suc (limit - (counter + 1)) = omega arith in
    let rest : List ℕ = walk_text (limit - (counter + 1)) index core coming (told_behind told step) (steps_behind index core told step ++ reverse popped) in
    let one : walk_text (limit - counter) index core coming told (reverse stack) ≡ step_text index core coming told step ++ rest =
    rw (left, next_is stack popped step top) (walk_one (limit - (counter + 1)) index core coming told step (reverse popped)) in
    rw (text, marked, put, follow) (append_assoc out (step_text index core coming told step) rest ∙ ap (λ back. out ++ back) (sym one) ∙ before)

-- the walk ends where no step is left, and where no more are counted
pub ended : (index : IndexView) (core : List Constraint) (coming told : NumberSet) (count : ℕ) (out total : List ℕ) (stack : List Step) → length stack ≡ 0
    → out ++ walk_text count index core coming told (reverse stack) ≡ total → out ≡ total
ended index core coming told count out total [] none before = sym (ap (λ rest. out ++ rest) (walk_none count index core coming told) ∙ append-nil out) ∙ before
ended index core coming told count out total (step ∷ steps) none before = absurd (omega arith)

pub run_out : (index : IndexView) (core : List Constraint) (coming told : NumberSet) (limit counter : ℕ) (out total : List ℕ) (steps : List Step) → limit ≤ counter
    → out ++ walk_text (limit - counter) index core coming told steps ≡ total → out ≡ total
unfolding walk
run_out index core coming told limit counter out total steps over before =
    let none : limit - counter ≡ zero = omega arith in
    sym (append-nil out) ∙ (rw none at before)

-- the steps of a core, as they are gone, are its lines
pub told_whole : (index : IndexView) (place : ℕ) (core held : List Constraint) (coming : NumberSet) (steps : List Step) (start new : List ℕ)
    → held ≡ core → coming ≡ members_of (comers index core place) → steps ≡ first_steps core place
    → new ≡ start ++ walk_text step_limit index held coming (members_of []) steps → new ≡ start ++ walk_lines index place core
unfolding walk_lines
told_whole index place core held coming steps start new same comes first is = rw (is, first, comes, same) refl
