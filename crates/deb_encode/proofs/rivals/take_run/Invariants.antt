use Rattle.std.proofs.Common.{◌<◌, ◌≤◌, ◌-◌, length}
use Rattle.deb_encode.specs.Exclusions.{IsRun}
use Rattle.deb_encode.proofs.rivals.take_run.Given as goal

abbrev pub invariant-loop-end : goal.invariant-loop-end
invariant-loop-end l = record {
  past : l.start < l.end;
  within : l.end ≤ length l.entries;
  run : IsRun l.index l.entries l.start l.end l.owners.items;
}

abbrev pub decreases-loop-end : goal.decreases-loop-end
decreases-loop-end l = length l.entries - l.end
