use Rattle.std.proofs.Common.{◌-◌, ◌/◌, ◌∙◌, ℕ, ap, arith, rules, subst, sym}
use Rattle.work_draw.specs.Board.{DrawerView}
use Rattle.work_draw.specs.Checks.{IsLeftBy}
use Rattle.work_draw.proofs.Gathering.{left_by_both, left_by_one, mine_ready, theirs_ready}
use Rattle.work_draw.proofs.workers.+crew_found+fn-crew_found-join+arg2+fn-crew_found-join+arg3.Goals as goal

pub draw_found-requires : goal.draw_found-requires
draw_found-requires g t c = let ready = c.requires.ready in (ready.0, ready.1, omega arith, omega arith)

pub returns-then-workers-eq1 : goal.returns-then-workers-eq1
returns-then-workers-eq1 g t c =
    let found = g.F.Finder.finds c.args.finder.now in
    let drawn = c.draw_found.result in
    subst (λ (workers : ℕ). IsLeftBy found c.args.drawer workers drawn) (sym c.if-workers-eq1.true)
    (left_by_one found c.args.drawer drawn c.draw_found.ensures.same c.draw_found.ensures.gained c.draw_found.ensures.found)

pub overflow_sub-rest : goal.overflow_sub-rest
overflow_sub-rest g t c = omega arith

pub overflow_sub-half : goal.overflow_sub-half
overflow_sub-half g t c = let some = c.requires.ready.2 in omega arith

pub split-mine-requires : goal.split-mine-requires
split-mine-requires g t c = let ready = c.requires.ready in record { board = ready.0; room = omega (arith, ready.2, ready.3) }

pub join-first-requires-after_bounds : goal.join-first-requires-after_bounds
join-first-requires-after_bounds g t c κs within =
    let ready = c.requires.ready in
    let total = g.F.Finder.limit c.args.finder.now in
    let board = c.args.board.now in
    let half = c.args.workers / 2 in
    let rest = c.args.workers - half in
    let theirs = theirs_ready total board c.args.drawer c.args.workers half rest (omega arith) (omega arith) (omega arith) ready c.split-mine.result.1 c.split-mine.ensures.given in
    let mine = mine_ready total board c.args.drawer c.args.workers half rest (omega arith) (omega arith) (omega arith) ready c.split-mine.result.0 c.split-mine.ensures.kept in (
      (omega (arith, c.decreases), ((λ a m. m), ((λ a m. m), ((λ a m. m), ((search rules, search rules, theirs), (search rules, search rules, search rules)))))),
      (omega (arith, c.decreases), ((λ a m. m), ((λ a m. m), ((λ a m. m), ((search rules, search rules, mine), (search rules, search rules, search rules)))))),
    )

pub joined-requires : goal.joined-requires
joined-requires g t c =
    record {
      first = c.join-first.ensures.second.same_board ∙ (ap (λ (d : DrawerView). d.board) c.split-mine.ensures.kept ∙ c.requires.ready.0);
      second = c.join-first.ensures.first.same_board ∙ ap (λ (d : DrawerView). d.board) c.split-mine.ensures.given;
    }

pub returns : goal.returns
returns g t c =
    let found = g.F.Finder.finds c.args.finder.now in
    let half = c.args.workers / 2 in
    let rest = c.args.workers - half in
    let mine = c.split-mine.result.0 in
    let theirs = c.split-mine.result.1 in
    left_by_both found c.args.drawer mine theirs c.args.board.now c.args.workers half rest (omega arith) c.split-mine.ensures.kept
    c.split-mine.ensures.given (omega arith) (omega arith) c.join-first.result.1 c.join-first.result.0 c.joined.result c.join-first.ensures.second c.join-first.ensures.first
    c.joined.ensures.drawer c.joined.ensures.refused c.joined.ensures.pieces

pub join+arg2-returns : goal.join+arg2-returns
join+arg2-returns g t c = c.crew_found.ensures

pub join+arg3-returns : goal.join+arg3-returns
join+arg3-returns g t c = c.crew_found.ensures

pub join+arg2-crew_found-requires-clause-ready : goal.join+arg2-crew_found-requires-clause-ready
join+arg2-crew_found-requires-clause-ready g t c κs within = c.requires.2

pub join+arg3-crew_found-requires-clause-ready : goal.join+arg3-crew_found-requires-clause-ready
join+arg3-crew_found-requires-clause-ready g t c κs within = c.requires.2

pub fn::crew_found::join+arg2+FnOnce::call_once-join+arg2-requires : goal.fn::crew_found::join+arg2+FnOnce::call_once-join+arg2-requires
fn::crew_found::join+arg2+FnOnce::call_once-join+arg2-requires g t c κs within =
    (omega (arith, c.decreases), (search rules, (search rules, (search rules, (search rules, (search rules, (search rules, c.requires.1.1.1.0)))))))

pub fn::crew_found::join+arg3+FnOnce::call_once-join+arg3-requires : goal.fn::crew_found::join+arg3+FnOnce::call_once-join+arg3-requires
fn::crew_found::join+arg3+FnOnce::call_once-join+arg3-requires g t c κs within =
    (omega (arith, c.decreases), (search rules, (search rules, (search rules, (search rules, (search rules, (search rules, c.requires.1.1.1.0)))))))

pub join+arg2-crew_found-requires-sync-R : goal.join+arg2-crew_found-requires-sync-R
join+arg2-crew_found-requires-sync-R g t c κs within = c.requires.0

pub join+arg2-crew_found-requires-sync-F : goal.join+arg2-crew_found-requires-sync-F
join+arg2-crew_found-requires-sync-F g t c κs within = c.requires.1

pub join+arg3-crew_found-requires-sync-R : goal.join+arg3-crew_found-requires-sync-R
join+arg3-crew_found-requires-sync-R g t c κs within = c.requires.0

pub join+arg3-crew_found-requires-sync-F : goal.join+arg3-crew_found-requires-sync-F
join+arg3-crew_found-requires-sync-F g t c κs within = c.requires.1

pub fn::crew_found::join+arg2+FnOnce::call_once-returns : goal.fn::crew_found::join+arg2+FnOnce::call_once-returns
fn::crew_found::join+arg2+FnOnce::call_once-returns g t c = c.join+arg2.ensures

pub fn::crew_found::join+arg3+FnOnce::call_once-returns : goal.fn::crew_found::join+arg3+FnOnce::call_once-returns
fn::crew_found::join+arg3+FnOnce::call_once-returns g t c = c.join+arg3.ensures
