use Rattle.std.proofs.Common.{◌≡◌, ℕ, true, false, set, Vec, Global, Bool, length, refl, sym, ap, subst, arith, ◌∙◌}
use Rattle.std.proofs.lemmas.List.{length-set}
use Rattle.sat_solve.specs.Rotation.{BreaksAlone, IsListed, MarksNeeded}
use Rattle.sat_solve.proofs.RotationLemmas.{marked_more, marked_or, none_marked}
use Rattle.sat_solve.proofs.rotation.Rotation.walk.Goals as goal

pub returns-then-listed_by-gt-LISTED-clause-needed : goal.returns-then-listed_by-gt-LISTED-clause-needed
returns-then-listed_by-gt-LISTED-clause-needed c = λ group is. absurd (none_marked c.resize.new.self.items
    (λ k below. c.in_ok-resize.ensures.by_index.1 k false refl (omega (arith, c.clear.ensures.items, c.clear.new.self.ok)) (omega (arith, c.in_ok-resize.ensures.len, c.resize.new.self.ok))) group is)

pub loop-init : goal.loop-init
loop-init c =
    let problem = c.args.problem.now in
    let started = c.start.new.self in
    let alone : BreaksAlone problem started.inside.items c.args.group = c.in_ok-start.ensures.alone c.if-not-branch.false in
    let first : c.mark.new.marks.items ≡ set c.resize.new.self.items c.args.group true =
    c.mark.ensures ∙ ap (λ (marks : Vec Bool Global). set marks.items c.args.group true) c.in_ok-start.ensures.marks in
    let none : MarksNeeded problem c.resize.new.self.items = λ group is. absurd (none_marked c.resize.new.self.items
    (λ k below. c.in_ok-resize.ensures.by_index.1 k false refl (omega (arith, c.clear.ensures.items, c.clear.new.self.ok)) (omega (arith, c.in_ok-resize.ensures.len, c.resize.new.self.ok))) group is) in
    let marked : MarksNeeded problem c.mark.new.marks.items =
    marked_more problem started.inside.items c.resize.new.self.items c.mark.new.marks.items c.args.group alone none (marked_or c.resize.new.self.items c.mark.new.marks.items c.args.group first) in
    let sized : length c.mark.new.marks.items ≡ length problem.keep.now =
    omega (arith, ap length first, length-set c.resize.new.self.items c.args.group true, c.in_ok-resize.ensures.len, c.resize.new.self.ok) in
    record {
      listed = λ k below. subst (λ (lists : Vec (Vec ℕ Global) Global). IsListed problem lists.items k) (sym (c.in_ok-push_turns.ensures.set.0 ∙ c.in_ok-start.ensures.lists)) (c.in_ok-list_spans.ensures k below);
      alone =
          subst (λ (group : ℕ). BreaksAlone problem c.push_turns.new.self.inside.items group) (sym (c.in_ok-push_turns.ensures.set.2 ∙ c.in_ok-start.ensures.group))
          (subst (λ (inside : Vec Bool Global). BreaksAlone problem inside.items c.args.group) (sym c.in_ok-push_turns.ensures.set.1) alone);
      needed = subst (λ (marks : Vec Bool Global). MarksNeeded problem marks.items) (sym c.in_ok-push_turns.ensures.marks) marked;
      sized = subst (λ (marks : Vec Bool Global). length marks.items ≡ length problem.keep.now) (sym c.in_ok-push_turns.ensures.marks) sized;
    }

pub loop-preserved : goal.loop-preserved
loop-preserved c =
    let problem = c.args.problem.now in
    record {
      listed = λ k below. subst (λ (lists : Vec (Vec ℕ Global) Global). IsListed problem lists.items k) (sym c.in_ok-take.ensures.lists) (c.loop.invariant.listed k below);
      alone = c.in_ok-take.ensures.after;
      needed = c.in_ok-take.ensures.needed;
      sized = c.in_ok-take.ensures.sized ∙ c.loop.invariant.sized;
    }
