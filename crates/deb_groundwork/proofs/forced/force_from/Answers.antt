use Rattle.std.proofs.Common.{◌<◌, ◌+◌, ◌-◌, length, get_or, refl, ap, arith}
use Rattle.number_sets.proofs.Placing.{number_within}
use Rattle.deb_groundwork.proofs.Forcing.{forced_both}
use Rattle.deb_groundwork.proofs.forced.force_from.Goals as goal

pub loop-visited-smaller : goal.loop-visited-smaller
loop-visited-smaller c =
    let inside : c.loop-visited.visited < length c.loop-visited.forced = omega (arith, ap length c.as_slice.ensures) in
    let within : c.loop-visited.visited < length c.args.index.now.packages =
    number_within (length c.args.index.now.packages) c.loop-visited.forced c.loop-visited.visited (get_or c.loop-visited.forced c.loop-visited.visited 0) inside refl (c.loop-visited.invariant.grows.places c.requires) in
    let less : length c.args.index.now.packages - (c.loop-visited.visited + 1) < length c.args.index.now.packages - c.loop-visited.visited = omega arith in
    less

pub loop-visited-preserved : goal.loop-visited-preserved
loop-visited-preserved c =
    forced_both c.args.index.now c.args.forced.now c.loop-visited.forced c.force_needs.new.forced c.loop-visited.invariant c.in_ok-force_needs.ensures
