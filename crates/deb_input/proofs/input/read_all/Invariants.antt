use Rattle.std.proofs.Common.{◌≡◌, ◌+◌, ◌-◌, ◌≤◌, length}
use Rattle.std.specs.Io.KnownBytes.{Consumes}
use Rattle.deb_input.proofs.input.read_all.Given as goal

abbrev pub invariant-reads : goal.invariant-reads
invariant-reads g l = Consumes (g.S.Source.remaining l.initial.reader) (g.S.Source.remaining l.reader) l.held
    × (g.S.Source.failed l.reader ≡ g.S.Source.failed l.initial.reader)
    × (length l.held ≤ l.limit + 1)
    × (g.S.Source.may_fail l.reader ≡ g.S.Source.may_fail l.initial.reader)

abbrev pub decreases-reads : goal.decreases-reads
decreases-reads g l = l.limit + 1 - length l.held
