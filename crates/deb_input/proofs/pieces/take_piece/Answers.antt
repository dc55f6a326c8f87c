use Rattle.std.proofs.Common.{arith, length, refl, rules}
use Rattle.std.proofs.lemmas.Result.{err_from_is_err_and}
use Rattle.run_settings.specs.Settings.{settings_of}
use Rattle.deb_input.proofs.PieceLemmas.{front-within, refuses-piece, takes-none, takes-piece}
use Rattle.deb_input.proofs.pieces.take_piece.Goals as goal

pub returns-then-is_empty-clause-taken : goal.returns-then-is_empty-clause-taken
returns-then-is_empty-clause-taken g c = takes-none (settings_of c.args.config.now) c.args.front c.args.held.now

pub returns-in_err-next-clause-refused : goal.returns-in_err-next-clause-refused
returns-in_err-next-clause-refused g c =
    let p = err_from_is_err_and c.from_residual.result c.from_residual.ensures.1 in
    rw (p.1, p.2) (refuses-piece (settings_of c.args.config.now) c.args.front c.args.held.now c.cut_behind_blank.result.0.now c.cut_behind_blank.result.1.now c.in_err-next.field-0.0
    c.cut_behind_blank.ensures.whole (c.cut_behind_blank.ensures.closed (search rules)) c.in_err-next.ensures.refused)

pub returns-clause-taken : goal.returns-clause-taken
returns-clause-taken g c =
    takes-piece (settings_of c.args.config.now) c.args.front c.args.held.now c.cut_behind_blank.result.0.now c.cut_behind_blank.result.1.now (length c.cut_behind_blank.result.0.now) c.in_ok-next.next
    c.cut_behind_blank.ensures.whole refl (c.cut_behind_blank.ensures.closed (search rules)) c.in_ok-next.ensures.accepted

pub returns-clause-within : goal.returns-clause-within
returns-clause-within g c = front-within c.args.held.now c.cut_behind_blank.result.0.now c.cut_behind_blank.result.1.now c.cut_behind_blank.ensures.whole

pub take-requires-clause-short : goal.take-requires-clause-short
take-requires-clause-short g c =
    let within = front-within c.args.held.now c.cut_behind_blank.result.0.now c.cut_behind_blank.result.1.now c.cut_behind_blank.ensures.whole in
    omega (arith, c.requires.short, within)
