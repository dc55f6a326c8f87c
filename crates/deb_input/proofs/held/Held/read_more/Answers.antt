use Rattle.std.proofs.Common.{◌∙◌, arith}
use Rattle.deb_input.proofs.DeviceLemmas.{holds_on}
use Rattle.deb_input.proofs.held.Held.read_more.Goals as goal

pub reads-preserved : goal.reads-preserved
reads-preserved g c =
    let came = c.in_ok-read_part.ensures.came in (
      holds_on (g.S.Source.remaining c.args.reader.now) (g.S.Source.remaining c.reads.reader) (g.S.Source.remaining c.read_part.new.reader) c.args.self.now c.reads.self
          c.read_part.new.self c.reads.invariant.0 c.in_ok-read_part.ensures.bytes,
      c.in_ok-read_part.ensures.mark ∙ c.reads.invariant.1,
      omega (arith, came.0, came.1),
      c.read_part.ensures.steady ∙ c.reads.invariant.3,
    )

pub returns-then-branch-eq0-clause-bytes : goal.returns-then-branch-eq0-clause-bytes
returns-then-branch-eq0-clause-bytes g c =
    holds_on (g.S.Source.remaining c.args.reader.now) (g.S.Source.remaining c.reads.reader) (g.S.Source.remaining c.read_part.new.reader) c.args.self.now c.reads.self
    c.read_part.new.self c.reads.invariant.0 c.in_ok-read_part.ensures.bytes
