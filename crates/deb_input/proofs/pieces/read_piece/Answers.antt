use Rattle.std.proofs.Common.{◌-◌, length, refl}
use Rattle.std.proofs.lemmas.Result.{err_from_is_err_and}
use Rattle.deb_input.proofs.PieceLemmas.{fails-at-read}
use Rattle.deb_input.proofs.pieces.read_piece.Goals as goal

pub returns-in_err-full-clause-refused : goal.returns-in_err-full-clause-refused
returns-in_err-full-clause-refused g c =
    let p = err_from_is_err_and c.from_residual.result c.from_residual.ensures.1 in
    rw (p.1, p.2) (fails-at-read (g.S.Source.remaining c.args.reader.now) (g.S.Source.failed c.args.reader.now) (g.S.Source.failed c.args.reader.now) (g.S.Source.failed c.read_more.new.reader)
    (c.args.limit - length c.args.held.now) c.in_err-full.field-0.0 refl c.in_err-full.ensures.refused)
