use Rattle.std.proofs.Common.{◌≡◌, ◌-◌, ◌≤◌, ◌++◌, List, length, ℕ}
use Rattle.std.specs.Io.KnownBytes.{Consumes}
use Rattle.deb_input.proofs.held.Held.read_more.Given as goal

abbrev pub invariant-reads : goal.invariant-reads
invariant-reads g l = ((bytes : List ℕ) × Consumes (g.S.Source.remaining l.initial.reader) (g.S.Source.remaining l.reader) bytes × (l.self ≡ l.initial.self ++ bytes))
    × (g.S.Source.failed l.reader ≡ g.S.Source.failed l.initial.reader)
    × (length l.self ≤ l.wanted)
    × (g.S.Source.may_fail l.reader ≡ g.S.Source.may_fail l.initial.reader)

abbrev pub decreases-reads : goal.decreases-reads
decreases-reads g l = l.wanted - length l.self
