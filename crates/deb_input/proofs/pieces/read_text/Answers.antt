use Rattle.std.proofs.Common.{◌∙◌, ◌+◌, ◌-◌, ◌≤◌, ℕ, List, [], arith, drop, length, refl, rules, subst, sym}
use Rattle.std.proofs.lemmas.Result.{err_from_is_err_and}
use Rattle.deb_index.specs.Reading.{byte_limit}
use Rattle.run_settings.specs.Settings.{settings_of}
use Rattle.deb_index.specs.Built.{IsFrontOf}
use Rattle.deb_input.specs.Pieces.{RefusesPiece, TakesLast, TakesPiece}
use Rattle.deb_input.proofs.PieceLemmas.{fails-rest, fault-behind, reads-last, reads-none, reads-on, reads-taken}
use Rattle.deb_input.proofs.pieces.read_text.Goals as goal

pub pieces-init : goal.pieces-init
pieces-init g c =
    let is = subst (λ (arch : List ℕ). IsFrontOf arch c.args.config.now.essential [] c.in_ok-front.front) c.as_str.ensures.value c.in_ok-front.ensures in
    let p = reads-none (settings_of c.args.config.now) (g.S.Source.remaining c.args.reader.now) c.in_ok-front.front c.new-held.result c.new-held.ensures is in
    (p.0, omega (arith, p.1), refl, refl)

pub returns-then-branch-clause-text : goal.returns-then-branch-clause-text
returns-then-branch-clause-text g c =
    let bytes = c.in_ok-read_piece.ensures.bytes in
    let reads = reads-on (settings_of c.args.config.now) (g.S.Source.remaining c.args.reader.now) (g.S.Source.remaining c.pieces.reader) (g.S.Source.remaining c.read_piece.new.reader) c.pieces.front
    c.pieces.held bytes.0 c.read_piece.new.held c.pieces.invariant.0 bytes.1 bytes.2 in
    let ends = c.in_ok-read_piece.ensures.end c.if-branch.true in
    let within : c.pieces.front.size + length c.read_piece.new.held ≤ byte_limit = omega (arith, c.size-limit.ensures.value, c.size-limit.ensures.short, c.in_ok-read_piece.ensures.within) in
    reads-last (settings_of c.args.config.now) (g.S.Source.remaining c.args.reader.now) (g.S.Source.remaining c.read_piece.new.reader)
    (g.S.Source.failed c.args.reader.now) (g.S.Source.failed c.read_piece.new.reader) c.pieces.front c.read_piece.new.held c.in_ok-outcome.outcome reads ends (c.in_ok-read_piece.ensures.mark ∙ c.pieces.invariant.2) within
    (subst (λ (bytes : List ℕ). TakesLast (settings_of c.args.config.now) c.pieces.front bytes c.in_ok-outcome.outcome) {x = c.as_slice.result.now} c.as_slice.ensures.value c.in_ok-outcome.ensures.outcome)

pub returns-in_err-read_piece-clause-refused : goal.returns-in_err-read_piece-clause-refused
returns-in_err-read_piece-clause-refused g c =
    let p = err_from_is_err_and c.from_residual-in_err-read_piece.result c.from_residual-in_err-read_piece.ensures.1 in
    rw (p.1, p.2) (fails-rest (settings_of c.args.config.now) (g.S.Source.remaining c.args.reader.now) (g.S.Source.remaining c.pieces.reader) (g.S.Source.failed c.args.reader.now) (g.S.Source.failed c.pieces.reader) (g.S.Source.failed c.read_piece.new.reader) c.pieces.front c.pieces.held
    (byte_limit - c.size-limit.result - length c.pieces.held) c.in_err-read_piece.field-0.0 c.pieces.invariant.0 c.pieces.invariant.2 (omega (arith, c.size-limit.ensures.value)) c.in_err-read_piece.ensures.refused)

pub pieces-smaller : goal.pieces-smaller
pieces-smaller g c =
    let bytes = c.in_ok-read_piece.ensures.bytes in
    let reads = reads-on (settings_of c.args.config.now) (g.S.Source.remaining c.args.reader.now) (g.S.Source.remaining c.pieces.reader) (g.S.Source.remaining c.read_piece.new.reader) c.pieces.front
    c.pieces.held bytes.0 c.read_piece.new.held c.pieces.invariant.0 bytes.1 bytes.2 in
    let takes = subst (λ (bytes : List ℕ). TakesPiece (settings_of c.args.config.now) c.pieces.front bytes c.in-Ok.next (drop c.in-Ok.taken bytes)) {x = c.as_slice-in-pieces.result.now} c.as_slice-in-pieces.ensures.value c.in-Ok.ensures.taken in
    let left = subst (λ (bytes : List ℕ). TakesPiece (settings_of c.args.config.now) c.pieces.front c.read_piece.new.held c.in-Ok.next bytes) {x = drop c.in-Ok.taken c.read_piece.new.held} (sym c.drop_front.ensures) takes in
    let p = reads-taken (settings_of c.args.config.now) (g.S.Source.remaining c.args.reader.now) (g.S.Source.remaining c.read_piece.new.reader) c.pieces.front c.in-Ok.next c.read_piece.new.held
    c.drop_front.new.self reads left in
    omega (arith, p.1, c.size-limit.ensures.value, c.in_ok-read_piece.ensures.within, c.in_ok-read_piece.ensures.more c.if-branch.false)

pub pieces-preserved : goal.pieces-preserved
pieces-preserved g c =
    let bytes = c.in_ok-read_piece.ensures.bytes in
    let reads = reads-on (settings_of c.args.config.now) (g.S.Source.remaining c.args.reader.now) (g.S.Source.remaining c.pieces.reader) (g.S.Source.remaining c.read_piece.new.reader) c.pieces.front
    c.pieces.held bytes.0 c.read_piece.new.held c.pieces.invariant.0 bytes.1 bytes.2 in
    let takes = subst (λ (bytes : List ℕ). TakesPiece (settings_of c.args.config.now) c.pieces.front bytes c.in-Ok.next (drop c.in-Ok.taken bytes)) {x = c.as_slice-in-pieces.result.now} c.as_slice-in-pieces.ensures.value c.in-Ok.ensures.taken in
    let left = subst (λ (bytes : List ℕ). TakesPiece (settings_of c.args.config.now) c.pieces.front c.read_piece.new.held c.in-Ok.next bytes) {x = drop c.in-Ok.taken c.read_piece.new.held} (sym c.drop_front.ensures) takes in
    let p = reads-taken (settings_of c.args.config.now) (g.S.Source.remaining c.args.reader.now) (g.S.Source.remaining c.read_piece.new.reader) c.pieces.front c.in-Ok.next c.read_piece.new.held
    c.drop_front.new.self reads left in
    (p.0, omega (arith, p.1, c.size-limit.ensures.value, c.size-limit.ensures.short, c.in_ok-read_piece.ensures.within), c.in_ok-read_piece.ensures.mark ∙ c.pieces.invariant.2, c.read_piece.ensures.steady ∙ c.pieces.invariant.3)

pub returns-in_err-skip_rest-in-Err-clause-refused : goal.returns-in_err-skip_rest-in-Err-clause-refused
returns-in_err-skip_rest-in-Err-clause-refused g c =
    let bytes = c.in_ok-read_piece.ensures.bytes in
    let reads = reads-on (settings_of c.args.config.now) (g.S.Source.remaining c.args.reader.now) (g.S.Source.remaining c.pieces.reader) (g.S.Source.remaining c.read_piece.new.reader) c.pieces.front
    c.pieces.held bytes.0 c.read_piece.new.held c.pieces.invariant.0 bytes.1 bytes.2 in
    let p = err_from_is_err_and c.from_residual-in_err-skip_rest-in-Err.result c.from_residual-in_err-skip_rest-in-Err.ensures.1 in
    rw (p.1, p.2) (fails-rest (settings_of c.args.config.now) (g.S.Source.remaining c.args.reader.now) (g.S.Source.remaining c.read_piece.new.reader) (g.S.Source.failed c.args.reader.now) (g.S.Source.failed c.read_piece.new.reader) (g.S.Source.failed c.skip_rest.new.reader)
    c.pieces.front c.read_piece.new.held (byte_limit - c.size-limit.result - c.len.result) c.in_err-skip_rest-in-Err.field-0.0 reads (c.in_ok-read_piece.ensures.mark ∙ c.pieces.invariant.2)
    (omega (arith, c.size-limit.ensures.value, c.len.ensures)) c.in_err-skip_rest-in-Err.ensures.refused)

pub returns-in-Err-clause-text : goal.returns-in-Err-clause-text
returns-in-Err-clause-text g c =
    let bytes = c.in_ok-read_piece.ensures.bytes in
    let reads = reads-on (settings_of c.args.config.now) (g.S.Source.remaining c.args.reader.now) (g.S.Source.remaining c.pieces.reader) (g.S.Source.remaining c.read_piece.new.reader) c.pieces.front
    c.pieces.held bytes.0 c.read_piece.new.held c.pieces.invariant.0 bytes.1 bytes.2 in
    let rest = c.in_ok-skip_rest-in-Err.ensures.bytes in
    let refuses = subst (λ (bytes : List ℕ). RefusesPiece (settings_of c.args.config.now) c.pieces.front bytes c.in-Err.fault) {x = c.as_slice-in-pieces.result.now} c.as_slice-in-pieces.ensures.value c.in-Err.ensures.refused in
    fault-behind (settings_of c.args.config.now) (g.S.Source.remaining c.args.reader.now) (g.S.Source.remaining c.read_piece.new.reader) (g.S.Source.remaining c.skip_rest.new.reader) (g.S.Source.failed c.args.reader.now) (g.S.Source.failed c.skip_rest.new.reader)
    c.pieces.front c.read_piece.new.held rest.0 (byte_limit - c.size-limit.result - c.len.result) c.in-Err.fault reads rest.1
    c.in_ok-skip_rest-in-Err.ensures.end (c.in_ok-skip_rest-in-Err.ensures.mark ∙ c.in_ok-read_piece.ensures.mark ∙ c.pieces.invariant.2) rest.2
    (omega (arith, c.size-limit.ensures.value, c.size-limit.ensures.short, c.len.ensures, c.in_ok-read_piece.ensures.within)) (search rules) refuses
