use Rattle.std.proofs.Common.{◌≡◌, ℕ, List, true, refl, subst, sym, ◌∙◌, ap}
use Rattle.number_sets.specs.Sets.{members_of}
use Rattle.deb_verdict.specs.Closure.{Gathers}
use Rattle.deb_verdict.proofs.GatherLemmas.{gathers_nothing, gathers_next, gathers_list, next_is_in}
use Rattle.deb_verdict.proofs.gather.Candidates.visit_forced.Goals as goal

pub loop-place-init : goal.loop-place-init
loop-place-init c = record {
  gathers = gathers_nothing c.args.ground.now.index.now (members_of c.args.ground.now.forced.now) c.as_slice-place-items.result.now c.args.self.now;
  reaches = λ p other closed visited within. within;
}

pub loop-place-preserved : goal.loop-place-preserved
loop-place-preserved c = record {
  gathers =
      gathers_next c.args.ground.now.index.now (members_of c.args.ground.now.forced.now) c.as_slice-place-items.result.now c.as_slice-place-items.result.now c.loop-place.place-index _
      c.args.self.now c.loop-place.self c.visit.new.self refl (λ k below. refl) c.loop-place.invariant.gathers c.in_ok-visit.ensures.gathers;
  reaches = λ p other closed visited within.
      c.in_ok-visit.ensures.reaches p other closed
      (λ q same. visited q (ap (λ list. members_of list q) (sym c.as_slice-place-items.ensures) ∙ next_is_in c.as_slice-place-items.result.now _ c.loop-place.place-index q c.loop-place-test.true refl same))
      (c.loop-place.invariant.reaches p other closed visited within);
}

pub returns : goal.returns
returns c =
    let For : List ℕ → Type 0 = λ list. Gathers c.args.ground.now.index.now (members_of c.args.ground.now.forced.now) (λ q j. members_of list q ≡ true) c.args.self.now c.loop-place.self in
    record {
      gathers =
          subst For c.as_slice-place-items.ensures
          (gathers_list c.args.ground.now.index.now (members_of c.args.ground.now.forced.now) c.as_slice-place-items.result.now c.loop-place.place-index c.args.self.now c.loop-place.self
          c.loop-place-test.false c.loop-place.invariant.gathers);
      reaches = c.loop-place.invariant.reaches;
    }
