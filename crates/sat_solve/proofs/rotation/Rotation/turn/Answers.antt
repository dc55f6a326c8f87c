use Rattle.std.proofs.Common.{◌≡◌, ℕ, ◌+◌, true, Bool, not, List, set, sym, subst, arith, ◌∙◌}
use Rattle.std.proofs.lemmas.List.{get_or_default}
use Rattle.number_sets.specs.Sets.{members_of}
use Rattle.sat_solve.specs.Rotation.{BreaksAlone, MeetsBut, turned}
use Rattle.sat_solve.proofs.RotationLemmas.{if_none, looked_up, same_turned, turned_meets, turned_breaks}
use Rattle.sat_solve.proofs.rotation.Rotation.turn.Goals as goal

pub returns-clause-after : goal.returns-clause-after
returns-clause-after c =
    let problem = c.args.problem.now in
    let inside = c.args.self.now.inside.items in
    let lists = c.args.self.now.lists.items in
    let here = c.turned-set.result in
    let Meets : List ℕ → Type 0 = λ numbers. (k : ℕ) → members_of numbers k ≡ true → MeetsBut problem (turned inside c.args.var) c.args.group k in
    let met : (numbers : List ℕ) → ((k : ℕ) → members_of numbers k ≡ true → MeetsBut problem (turned here.inside.now here.var) c.args.group k) → Meets numbers =
    λ numbers. same_turned problem here.inside.now inside here.var c.args.var c.args.group (λ k. members_of numbers k ≡ true) c.turned-set.ensures.inside c.turned-set.ensures.var in
    subst (λ (was : Bool). BreaksAlone problem (set inside c.args.var (not was)) c.args.group)
    (get_or_default inside c.args.var true c.index.result.now (omega (arith, c.requires.before.sized, c.if-var-problem-2.false)) ∙ sym c.index.ensures)
    (turned_breaks problem inside c.args.var c.args.self.now.group c.args.group lists c.in-Some.spoken.now c.in-Some-get.broken.now c.requires.before c.if-var-problem.false c.if-var-problem-2.false
    (turned_meets problem inside c.args.var c.args.self.now.group c.args.group lists c.in-Some.spoken.now c.in-Some-get.broken.now c.requires.before.met c.requires.listed
    (looked_up lists c.deref.result.now c.args.var c.in-Some.spoken.now c.deref.ensures.value c.in-Some.ensures.lookup.0 c.in-Some.ensures.lookup.1)
    (looked_up lists c.deref-2.result.now (problem.vars + c.args.self.now.group) c.in-Some-get.broken.now c.deref-2.ensures.value c.in-Some-get.ensures.lookup.0 c.in-Some-get.ensures.lookup.1)
    (subst Meets c.deref-3.ensures.value (met c.deref-3.result.now (if_none c.first_broken.result c.is_some.result _ c.is_some.ensures c.if-is_some.false c.first_broken.ensures)))
    (subst Meets c.deref-else-is_some.ensures.value (met c.deref-else-is_some.result.now (if_none c.first_broken-else-is_some.result c.is_some-else-is_some.result _ c.is_some-else-is_some.ensures c.if-is_some-2.false c.first_broken-else-is_some.ensures)))))
