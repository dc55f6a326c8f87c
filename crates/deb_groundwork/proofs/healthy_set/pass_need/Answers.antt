use Rattle.std.proofs.Common.{◌≡◌, ℕ, inl, inr, refl, subst, arith}
use Rattle.std.proofs.lemmas.Bool.{cases_lt}
use Rattle.deb_index.specs.declared.constraint.Constraint.TheVariants.{Need}
use Rattle.deb_groundwork.specs.Parts.{MeetsAsked}
use Rattle.deb_groundwork.proofs.GroundworkLemmas.{answered_by_row}
use Rattle.deb_groundwork.proofs.WitnessLemmas.{unasked}
use Rattle.deb_groundwork.proofs.healthy_set.pass_need.Goals as goal

pub returns-then-not-has-clause-met : goal.returns-then-not-has-clause-met
returns-then-not-has-clause-met g c = λ j from before less.
    let number = c.args.number in
    let Meets : ℕ → Type 0 = λ i. MeetsAsked c.args.part.now (g.P.Places.members c.args.set.now) (Need c.args.place i) in
    elim (cases_lt number j) [
      | inl passed ↦ λ asked. absurd (c.next_need.ensures.passed j (omega (arith, passed)) before less asked)
      | inr here ↦
          let same : number ≡ j = omega (arith, from, here) in
          subst Meets same (unasked c.args.part.now (g.P.Places.members c.args.set.now) (Need c.args.place number) c.need_position.result c.has.result c.need_position.ensures c.has.ensures c.if-not-has.true)
    ]

pub returns-then-is_answered-clause-met : goal.returns-then-is_answered-clause-met
returns-then-is_answered-clause-met g c = λ j from before less.
    let number = c.args.number in
    let same : number ≡ j = omega (arith, from, before) in
    let Meets : ℕ → Type 0 = λ i. MeetsAsked c.args.part.now (g.P.Places.members c.args.set.now) (Need c.args.place i) in
    subst Meets same λ asked is_in.
    answered_by_row c.args.part.now.index.now (g.P.Places.members c.args.set.now) c.args.place number _ refl (c.is_answered.ensures c.if-is_answered.true)
