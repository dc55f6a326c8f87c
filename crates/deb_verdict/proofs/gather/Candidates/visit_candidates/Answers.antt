use Rattle.std.proofs.Common.{◌+◌, ◌-◌, ◌<◌, ◌≤◌, ℕ, List, length, get_or, sym, ap, refl, arith}
use Rattle.number_sets.specs.Sets.{members_of}
use Rattle.number_sets.proofs.Placing.{number_within, grows_longer, grows_at}
use Rattle.deb_verdict.proofs.GatherLemmas.{gathers_nothing, gathers_next, gathers_list, next_is_in}
use Rattle.deb_verdict.proofs.gather.Candidates.visit_candidates.Goals as goal

pub loop-visited-init : goal.loop-visited-init
loop-visited-init c = record {
  reached = omega arith;
  gathers = gathers_nothing c.args.ground.now.index.now (members_of c.args.ground.now.forced.now) c.args.self.now.places c.args.self.now;
  reaches = λ p other closed visited within. within;
}

pub loop-visited-smaller : goal.loop-visited-smaller
loop-visited-smaller c =
    let inside : c.loop-visited.visited < length c.loop-visited.self.places = omega (arith, ap length c.as_slice.ensures) in
    let within : c.loop-visited.visited < length c.args.ground.now.index.now.packages =
    number_within (length c.args.ground.now.index.now.packages) c.loop-visited.self.places c.loop-visited.visited (get_or c.loop-visited.self.places c.loop-visited.visited 0) inside refl (c.loop-visited.invariant.gathers.grows.places c.requires) in
    let less : length c.args.ground.now.index.now.packages - (c.loop-visited.visited + 1) < length c.args.ground.now.index.now.packages - c.loop-visited.visited = omega arith in
    less

pub loop-visited-preserved : goal.loop-visited-preserved
loop-visited-preserved c =
    let count : ℕ = length c.args.ground.now.index.now.packages in
    let inside : c.loop-visited.visited < length c.loop-visited.self.places = omega (arith, ap length c.as_slice.ensures) in
    let longer : length c.loop-visited.self.places ≤ length c.visit.new.self.places = grows_longer count c.loop-visited.self.places c.visit.new.self.places c.in_ok-visit.ensures.gathers.grows in
    record {
      reached = omega (arith, inside, longer);
      gathers =
          gathers_next c.args.ground.now.index.now (members_of c.args.ground.now.forced.now) c.loop-visited.self.places c.visit.new.self.places c.loop-visited.visited _ c.args.self.now c.loop-visited.self c.visit.new.self
          (sym (ap (λ (list : List ℕ). get_or list c.loop-visited.visited 0) c.as_slice-in-loop-visited.ensures))
          (λ k below. grows_at count c.loop-visited.self.places c.visit.new.self.places k c.in_ok-visit.ensures.gathers.grows (omega (arith, inside, below)))
          c.loop-visited.invariant.gathers c.in_ok-visit.ensures.gathers;
      reaches = λ p other closed visited within.
          (let so_far = c.loop-visited.invariant.reaches p other closed visited within in
          c.in_ok-visit.ensures.reaches p other closed (λ q same. so_far q (next_is_in c.loop-visited.self.places c.as_slice-in-loop-visited.result.now c.loop-visited.visited q inside c.as_slice-in-loop-visited.ensures same)) so_far);
    }

pub returns : goal.returns
returns c = record {
  gathers =
      gathers_list c.args.ground.now.index.now (members_of c.args.ground.now.forced.now) c.loop-visited.self.places c.loop-visited.visited c.args.self.now c.loop-visited.self
      (omega (arith, ap length c.as_slice.ensures)) c.loop-visited.invariant.gathers;
  reaches = c.loop-visited.invariant.reaches;
}
