use Rattle.std.proofs.Common.{ℕ, Vec, Global, List, get_or, refl, sym, subst}
use Rattle.sat_solve.specs.Rotation.{HasAt, ListsOn}
use Rattle.sat_solve.specs.Clauses.{no_span}
use Rattle.sat_solve.specs.declared.clause.Span.{Span}
use Rattle.sat_solve.proofs.RotationLemmas.{on_further, listed_more, listed_all, listed_span, owner_key, none_owns}
use Rattle.sat_solve.proofs.occurrences.push_span.Goals as goal
use Rattle.sat_solve.proofs.occurrences.push_span.Goals.{in-Some+in_ok-push_number-2, in_default}

pub loop-literal-preserved : goal.loop-literal-preserved
loop-literal-preserved c = record {
  on = on_further c.args.lists.now.items c.loop-literal.lists.items c.push_number.new.lists.items c.loop-literal.invariant.on c.in_ok-push_number.ensures.on;
  here = listed_more c.loop-literal.lists.items c.push_number.new.lists.items _ c.loop-literal.literal-index c.args.number _ c.loop-literal-test.true c.loop-literal.invariant.here c.in_ok-push_number.ensures.on c.in_ok-push_number.ensures.here;
}

pub returns-clause-on : goal.returns-clause-on
returns-clause-on c =
    let first : List (Vec ℕ Global) = c.args.lists.now.items in
    let so_far : ListsOn first c.match-span.lists.items = elim c.match-span.branch [
      | in-Some+in_ok-push_number-2 w ↦ subst (λ (lists : Vec (Vec ℕ Global) Global). ListsOn first lists.items) (sym w.lists-is) (on_further first c.loop-literal.lists.items w.push_number-in-Some.new.lists.items c.loop-literal.invariant.on w.in_ok-push_number-2.ensures.on)
      | in_default w ↦ subst (λ (lists : Vec (Vec ℕ Global) Global). ListsOn first lists.items) (sym w.lists-is) c.loop-literal.invariant.on
    ] in
    on_further first c.match-span.lists.items c.push_number-2.new.lists.items so_far c.in_ok-push_number-3.ensures.on

pub returns-clause-here : goal.returns-clause-here
returns-clause-here c =
    let problem = c.args.problem.now in
    let number : ℕ = c.args.number in
    let span : Span = get_or c.args.problem.now.spans.now c.args.number no_span in
    let last : List (Vec ℕ Global) = c.push_number-2.new.lists.items in
    let further : ListsOn c.match-span.lists.items last = c.in_ok-push_number-3.ensures.on in
    listed_span c.args.problem.now last number span refl
    (λ key named. further key number (elim c.match-span.branch [
      | in-Some+in_ok-push_number-2 w ↦ subst (λ (lists : Vec (Vec ℕ Global) Global). HasAt lists.items key number) (sym w.lists-is) (w.in_ok-push_number-2.ensures.on key number (listed_all c.loop-literal.lists.items _ c.loop-literal.literal-index number c.loop-literal-test.false c.loop-literal.invariant.here key named))
      | in_default w ↦ subst (λ (lists : Vec (Vec ℕ Global) Global). HasAt lists.items key number) (sym w.lists-is) (listed_all c.loop-literal.lists.items _ c.loop-literal.literal-index number c.loop-literal-test.false c.loop-literal.invariant.here key named)
    ]))
    (λ key own. further key number (elim c.match-span.branch [
      | in-Some+in_ok-push_number-2 w ↦
          subst (λ (lists : Vec (Vec ℕ Global) Global). HasAt lists.items key number) (sym w.lists-is)
          (subst (λ k. HasAt w.push_number-in-Some.new.lists.items k number) (owner_key span.owner w.in-Some.owner key w.in-Some.is own) w.in_ok-push_number-2.ensures.here)
      | in_default w ↦ absurd (none_owns span.owner key w.in_default.is own)
    ]))
    c.in_ok-push_number-3.ensures.here
