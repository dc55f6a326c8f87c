use Rattle.std.proofs.Common.{length, refl, sym, arith}
use Rattle.std.proofs.lemmas.Bool.{leb-true, ltb-false}
use Rattle.std.proofs.lemmas.List.{get_or_default}
use Rattle.deb_verdict.proofs.KnownLemmas.{begins_within}
use Rattle.deb_verdict.proofs.known.goes_on.Goals as goal

pub returns-in-Some : goal.returns-in-Some
returns-in-Some c = λ later.
    begins_within c.args.kept.now c.args.settled.now c.args.from (length c.args.settled.now) c.requires refl
    (λ i less. c.loop-place.invariant i (omega (arith, c.loop-place-test.false)))
    (λ inside. omega (arith, leb-true c.args.from c.in-Some.next.now later, c.in-Some.ensures.lookup.1, get_or_default c.args.kept.now (length c.args.settled.now) c.in-Some.next.now 0 inside))

pub returns-in-None : goal.returns-in-None
returns-in-None c = λ _.
    begins_within c.args.kept.now c.args.settled.now c.args.from (length c.args.settled.now) c.requires refl
    (λ i less. c.loop-place.invariant i (omega (arith, c.loop-place-test.false)))
    (λ inside. omega (arith, ltb-false (length c.args.settled.now) (length c.args.kept.now) (sym c.in-None.ensures.lookup.0)))
