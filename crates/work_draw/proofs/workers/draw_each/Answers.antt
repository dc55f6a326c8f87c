use Rattle.std.proofs.Common.{◌≡◌, [], ◌∷◌, ◌++◌, sym, subst, ◌∙◌, ap, arith}
use Rattle.std.proofs.lemmas.List.{append-nil}
use Rattle.std.proofs.lemmas.List.Elements.{All-push}
use Rattle.work_draw.specs.Board.{DrawerView}
use Rattle.work_draw.specs.declared.pieces.Piece.{Piece}
use Rattle.work_draw.specs.Checks.{Find, numbers_of}
use Rattle.work_draw.proofs.Bounds.{falls_by_push}
use Rattle.work_draw.proofs.GainLemmas.{without_piece, with_piece, same_but_numbers}
use Rattle.work_draw.proofs.workers.draw_each.Goals as goal

pub loop-number-smaller : goal.loop-number-smaller
loop-number-smaller g c =
    falls_by_push c.args.board.now.total c.in-Some.number c.loop-number.drawer.numbers c.draw.new.drawer.numbers (ap (λ (d : DrawerView). d.numbers) c.in-Some.ensures.drawn) c.in-Some.ensures.below
    c.in-Some.ensures.above

pub returns-in_err-verdicts-clause-refused : goal.returns-in_err-verdicts-clause-refused
returns-in_err-verdicts-clause-refused g c =
    without_piece c.args.drawer.now.numbers c.loop-number.drawer.numbers c.draw.new.drawer.numbers c.loop-number.pieces.items c.in-Some.number c.loop-number.invariant.gained
    (ap (λ (d : DrawerView). d.numbers) c.in-Some.ensures.drawn)

pub returns-in_err-push-clause-refused : goal.returns-in_err-push-clause-refused
returns-in_err-push-clause-refused g c =
    without_piece c.args.drawer.now.numbers c.loop-number.drawer.numbers c.draw.new.drawer.numbers c.push.new.self.items c.in-Some.number
    (c.loop-number.invariant.gained ∙ ap (λ items. c.args.drawer.now.numbers ++ numbers_of items) (sym c.in_err-push.ensures.items)) (ap (λ (d : DrawerView). d.numbers) c.in-Some.ensures.drawn)

pub loop-number-preserved : goal.loop-number-preserved
loop-number-preserved g c =
    let piece : Piece _ = record { number = c.in-Some.number; verdicts = c.in_ok-verdicts.verdicts } in
    let found = g.F.Finder.finds c.args.finder.now in
    record {
      same = same_but_numbers c.args.drawer.now c.loop-number.drawer c.draw.new.drawer (c.loop-number.drawer.numbers ++ c.in-Some.number ∷ []) c.loop-number.invariant.same c.in-Some.ensures.drawn;
      gained = with_piece c.args.drawer.now.numbers c.loop-number.drawer.numbers c.draw.new.drawer.numbers c.loop-number.pieces.items piece c.loop-number.invariant.gained (ap (λ (d : DrawerView). d.numbers) c.in-Some.ensures.drawn) ∙ ap (λ items. c.args.drawer.now.numbers ++ numbers_of items) (sym c.in_ok-push.ensures.items);
      found = subst (λ items. Find found items) (sym c.in_ok-push.ensures.items) (All-push (λ p. found p.number p.verdicts) c.loop-number.pieces.items piece c.loop-number.invariant.found c.in_ok-verdicts.ensures);
    }

pub returns-clause-refused : goal.returns-clause-refused
returns-clause-refused g c =
    let same : c.draw.new.drawer.numbers ≡ c.loop-number.drawer.numbers = ap (λ (d : DrawerView). d.numbers) c.in_default.ensures.none in
    ([], omega arith, same ∙ (c.loop-number.invariant.gained ∙ sym (append-nil (c.args.drawer.now.numbers ++ numbers_of c.loop-number.pieces.items))))

pub find-requires : goal.find-requires
find-requires g c = let total = c.requires.ready.1 in let below = c.in-Some.ensures.below in omega arith
