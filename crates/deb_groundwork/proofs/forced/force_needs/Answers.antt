use Rattle.std.proofs.Common.{◌<◌, length, arith}
use Rattle.deb_index.specs.Packages.{needs_at}
use Rattle.number_sets.proofs.Placing.{grows_keeps}
use Rattle.deb_groundwork.proofs.Forcing.{forced_both, forced_by_need, forced_moved, forced_none}
use Rattle.deb_groundwork.proofs.forced.force_needs.Goals as goal
use Rattle.deb_groundwork.proofs.forced.force_needs.Goals.{in-Some+in_ok-take_only, in_default}

pub returns-then-eq : goal.returns-then-eq
returns-then-eq c = forced_none c.args.index.now c.args.forced.now

pub loop-number-preserved : goal.loop-number-preserved
loop-number-preserved c =
    let inside : c.loop-number.number < length (needs_at c.args.index.now c.args.place) = omega (arith, c.need_count-number-end.ensures) in
    elim c.match-answer_row.branch [
      | in-Some+in_ok-take_only w ↦
          forced_both c.args.index.now c.args.forced.now c.loop-number.forced c.match-answer_row.forced c.loop-number.invariant
          (forced_moved c.args.index.now c.loop-number.forced c.match-answer_row.forced w.take_only.new.forced w.forced-is
          (forced_by_need c.args.index.now c.args.place c.loop-number.number w.in-Some.row.now c.loop-number.forced w.take_only.new.forced c.requires.place inside
          (grows_keeps (length c.args.index.now.packages) c.args.forced.now c.loop-number.forced c.loop-number.invariant.grows c.args.place c.requires.known) w.in-Some.ensures.row w.in_ok-take_only.ensures))
      | in_default w ↦ forced_moved c.args.index.now c.args.forced.now c.match-answer_row.forced c.loop-number.forced w.forced-is c.loop-number.invariant
    ]
