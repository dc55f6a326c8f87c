use Rattle.std.proofs.Common.{ℕ, inl, inr, arith}
use Rattle.std.proofs.lemmas.Bool.{cases_lt}
use Rattle.deb_index.specs.declared.constraint.Constraint.TheVariants.{Apart}
use Rattle.deb_groundwork.specs.Parts.{MeetsAsked}
use Rattle.deb_groundwork.proofs.RowLemmas.{more_below}
use Rattle.deb_groundwork.proofs.healthy_set.meets_place.Goals as goal

pub loop-number-preserved : goal.loop-number-preserved
loop-number-preserved g c = λ j before less.
    elim (cases_lt j c.loop-number.number) [
      | inl earlier ↦ c.loop-number.invariant j earlier less
      | inr later ↦ c.in-Some.ensures.met j (omega (arith, later)) before less
    ]

pub loop-entry-preserved : goal.loop-entry-preserved
loop-entry-preserved g c =
    let Meets : ℕ → Type 0 = λ j. MeetsAsked c.args.part.now (g.P.Places.members c.args.set.now) (Apart c.args.place j) in
    more_below Meets Meets c.loop-entry.entry (λ j below meets. meets) c.loop-entry.invariant (c.meets_apart.ensures c.if-not-meets_apart.false)

pub returns : goal.returns
returns g c = λ once. record {
  needs = λ j inside. c.loop-number.invariant j (omega (arith, inside, c.loop-number-test.false, c.need_count-count.ensures)) inside;
  aparts = λ j inside. c.loop-entry.invariant j (omega (arith, c.apart_count-entry-end.ensures));
  once = c.stands_once.ensures once;
}
