use Rattle.std.proofs.Common.{◌≡◌, ◌+◌, [], List, length, ℕ}
use Rattle.std.specs.Io.KnownBytes.{Consumes}
use Rattle.deb_input.proofs.input.skip_rest.Given as goal

abbrev pub invariant-reads : goal.invariant-reads
invariant-reads g l = ((bytes : List ℕ) × Consumes (g.S.Source.remaining l.initial.reader) (g.S.Source.remaining l.reader) bytes × (length bytes + l.left ≡ l.limit + 1))
    × (l.held ≡ [])
    × (g.S.Source.failed l.reader ≡ g.S.Source.failed l.initial.reader)
    × (g.S.Source.may_fail l.reader ≡ g.S.Source.may_fail l.initial.reader)

abbrev pub decreases-reads : goal.decreases-reads
decreases-reads g l = l.left
