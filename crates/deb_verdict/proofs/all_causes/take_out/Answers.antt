use Rattle.std.proofs.Common.{◌≡◌, ℕ, List, false, Option, get_or, sym, ◌∙◌, ap}
use Rattle.std.specs.Option.{option_map_or}
use Rattle.std.proofs.Math.Bool.{or-false}
use Rattle.deb_index.specs.declared.constraint.Constraint.{Constraint}
use Rattle.deb_index.specs.Constraints.{IsOfIndex, constraints_of}
use Rattle.deb_index.proofs.ConstraintLemmas.{constraints-within}
use Rattle.deb_index.proofs.IndexFacts.{All-at}
use Rattle.number_sets.specs.Sets.{NumberSet, members_of}
use Rattle.number_sets.proofs.ListMembers.{take_whole}
use Rattle.deb_health.specs.Causes.{cause_at, either, is_final, is_final_at}
use Rattle.deb_verdict.proofs.CauseSteps.{cause_passes, cause_takes}
use Rattle.deb_verdict.proofs.all_causes.take_out.Goals as goal
use Rattle.deb_verdict.proofs.all_causes.take_out.Goals.{then-branch+in_ok-insert, else-branch}

pub is_final-requires : goal.is_final-requires
is_final-requires c =
    All-at (IsOfIndex c.args.index.now) (constraints_of c.args.index.now) _ c.constraint_at.result (constraints-within c.args.index.now) c.constraint_at.ensures

pub loop-position-init : goal.loop-position-init
loop-position-init c = λ k. sym (or-false (members_of c.args.out.now k))

pub loop-position-preserved : goal.loop-position-preserved
loop-position-preserved c = λ k.
    let index = c.args.index.now in
    let core = c.args.core.now in
    let i : ℕ = c.loop-position.position-index in
    let before : List ℕ = c.loop-position.out in
    let out : NumberSet = members_of c.args.out.now in
    let is : is_final_at index (get_or core i 0) ≡ c.in_ok-is_final.field-0 =
    ap (λ (found : Option Constraint). option_map_or (is_final index) found false) c.constraint_at.ensures ∙ sym c.in_ok-is_final.ensures in
    elim c.if-branch.branch [
      | then-branch+in_ok-insert w ↦
          rw w.out-is
          (ap (λ list. members_of list k) w.in_ok-insert.ensures
          ∙ cause_takes index out core i c.loop-position-test.true k before (is ∙ w.if-branch.true) (c.loop-position.invariant k))
      | else-branch w ↦ rw w.out-is (cause_passes index out core i c.loop-position-test.true k before (is ∙ w.if-branch.false) (c.loop-position.invariant k))
    ]

pub returns : goal.returns
returns c = λ k.
    c.loop-position.invariant k
    ∙ ap (λ list. either (members_of c.args.out.now) (cause_at c.args.index.now list) k)
    (take_whole c.args.core.now c.loop-position.position-index c.loop-position-test.false)
