use Rattle.std.proofs.Common.{◌≡◌, ◌*◌, ◌≤◌, ℕ, [], length, refl, ap, ◌∙◌, subst, sym}
use Rattle.std.proofs.lemmas.Grind.{div_ceil_times}
use Rattle.std.proofs.lemmas.List.Sorted.{All-permutation}
use Rattle.std.proofs.lemmas.Result.{IfOk-weaker}
use Rattle.work_draw.specs.Board.{DrawerView}
use Rattle.work_draw.specs.Checks.{AnswersEach, chunk_of}
use Rattle.work_draw.specs.Drawing.{HoldsEachOnce}
use Rattle.work_draw.proofs.Answered.{answers_in_order}
use Rattle.work_draw.proofs.Gathering.{gained_all}
use Rattle.work_draw.proofs.check.check_each.Goals as goal

pub close-complete-requires : goal.close-complete-requires
close-complete-requires g c = c.crew_found-drawn.ensures.same_board ∙ ap (λ (d : DrawerView). d.board) c.in_ok-board.ensures.drawer

pub gather-requires : goal.gather-requires
gather-requires g c =
    let drawn = c.crew_found-drawn.result in
    let empty : c.in_ok-board.drawer.numbers ≡ [] = ap (λ (d : DrawerView). d.numbers) c.in_ok-board.ensures.drawer in
    let once : HoldsEachOnce c.in_ok-board.board.total drawn.drawer.numbers = c.if-prove.ensures.each_once refl in
    let total : c.in_ok-board.board.total ≡ c.div_ceil-total.result = c.in_ok-board.ensures.total in
    gained_all c.div_ceil-total.result c.in_ok-board.drawer.numbers drawn.drawer.numbers drawn.pieces.items empty (c.crew_found-drawn.ensures.gained c.if-drawn.false)
    (subst (λ (n : ℕ). HoldsEachOnce n drawn.drawer.numbers) total once)

pub returns : goal.returns
returns g c =
    let chunks = c.args.chunks.now in
    let asked = chunks.asked.now in
    let pieces = c.crew_found-drawn.result.pieces.items in
    let found = g.F.Finder.finds chunks.finder.now in
    let total = c.div_ceil-total.result in
    let enough : length asked ≤ total * chunks.chunk = subst (λ (n : ℕ). length asked ≤ n * chunks.chunk) (sym c.div_ceil-total.ensures) (div_ceil_times (length asked) chunks.chunk chunks.some).0 in
    IfOk-weaker c.gather.result _ _
    (λ all o.
    subst (AnswersEach found asked) (sym o.3)
    (answers_in_order found (λ p. p.verdicts.items) asked chunks.chunk total o.0 o.2 enough
    (All-permutation (λ p. AnswersEach found (chunk_of asked chunks.chunk p.number) p.verdicts.items) pieces o.0 o.1 (c.crew_found-drawn.ensures.found c.if-drawn.false))))
    c.gather.ensures
