use Rattle.std.proofs.Common.{◌≡◌, subst, inl, inr, arith}
use Rattle.std.proofs.lemmas.Bool.{cases_lt}
use Rattle.sat_solve.specs.Rotation.{IsListed}
use Rattle.sat_solve.proofs.occurrences.list_spans.Goals as goal

pub loop-number-preserved : goal.loop-number-preserved
loop-number-preserved c = λ k below key spoken. elim (cases_lt k c.loop-number.number) [
  | inl less ↦ c.in_ok-push_span.ensures.on key k (c.loop-number.invariant k less key spoken)
  | inr past ↦
      let same : c.loop-number.number ≡ k = omega arith in
      subst (λ n. IsListed c.args.problem.now c.push_span.new.lists.items n) same c.in_ok-push_span.ensures.here key spoken
]
