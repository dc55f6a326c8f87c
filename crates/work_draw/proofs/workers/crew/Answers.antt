use Rattle.std.proofs.Common.{◌<◌, All, length, subst, sym}
use Rattle.deb_index.specs.Packages.{IndexView}
use Rattle.work_draw.specs.Checks.{AreFound}
use Rattle.work_draw.proofs.workers.crew.Goals as goal

pub invariant_of-chunks : goal.invariant_of-chunks
invariant_of-chunks g c = record {
  places = subst (λ (index : IndexView). All (λ place. place < length index.packages) c.args.asked.now) (sym c.in_ok-groundwork.ensures) c.requires.places;
  some = c.requires.chunk;
}

pub crew_found-drawn-requires-clause-ready : goal.crew_found-drawn-requires-clause-ready
crew_found-drawn-requires-clause-ready g c κs within = (c.requires.board, c.requires.total, c.requires.workers.0, c.requires.workers.1)

pub returns-clause-drawer : goal.returns-clause-drawer
returns-clause-drawer g c = c.crew_found-drawn.ensures.done c.if-drawn.false

pub returns-clause-gained : goal.returns-clause-gained
returns-clause-gained g c = c.crew_found-drawn.ensures.gained c.if-drawn.false

pub returns-clause-found : goal.returns-clause-found
returns-clause-found g c =
    subst (λ (index : IndexView). AreFound index c.args.asked.now c.args.chunk c.crew_found-drawn.result.pieces.items) c.in_ok-groundwork.ensures
    (c.crew_found-drawn.ensures.found c.if-drawn.false)
