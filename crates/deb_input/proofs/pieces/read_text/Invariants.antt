use Rattle.std.proofs.Common.{◌≡◌, ◌+◌, ◌-◌, ◌≤◌, length}
use Rattle.deb_index.specs.Reading.{byte_limit}
use Rattle.run_settings.specs.Settings.{settings_of}
use Rattle.deb_input.specs.Pieces.{ReadsFront}
use Rattle.deb_input.proofs.pieces.read_text.Given as goal

abbrev pub invariant-pieces : goal.invariant-pieces
invariant-pieces g l = ReadsFront (settings_of l.config) (g.S.Source.remaining l.initial.reader) (g.S.Source.remaining l.reader) l.front l.held
    × (l.front.size + length l.held ≤ byte_limit)
    × (g.S.Source.failed l.reader ≡ g.S.Source.failed l.initial.reader)
    × (g.S.Source.may_fail l.reader ≡ g.S.Source.may_fail l.initial.reader)

abbrev pub decreases-pieces : goal.decreases-pieces
decreases-pieces g l = byte_limit - (l.front.size + length l.held)
