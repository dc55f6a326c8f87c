use Rattle.std.proofs.Common.{◌≡◌, length}
use Rattle.number_sets.specs.Sets.{MarksOnly}
use Rattle.deb_health.specs.Health.{IsInstallable}
use Rattle.deb_groundwork.proofs.installable.mark_sets.Given as goal

abbrev pub invariant-loop-place : goal.invariant-loop-place
invariant-loop-place l = (length l.marks ≡ length l.groundwork.index.now.packages) × MarksOnly (IsInstallable l.groundwork.index.now) l.marks
