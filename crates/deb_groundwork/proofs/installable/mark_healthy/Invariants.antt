use Rattle.std.proofs.Common.{◌≡◌, length}
use Rattle.number_sets.specs.Sets.{MarksOnly}
use Rattle.deb_health.specs.Health.{IsInstallable}
use Rattle.deb_groundwork.proofs.installable.mark_healthy.Given as goal

abbrev pub invariant-loop-place : goal.invariant-loop-place
invariant-loop-place l = (length l.marks ≡ length l.index.packages) × MarksOnly (IsInstallable l.index) l.marks
