use Rattle.std.proofs.Common.{◌<◌, ◌*◌, ℕ, List, subst}
use Rattle.std.proofs.lemmas.List.Elements.{All-drop, All-take}
use Rattle.work_draw.specs.Checks.{AnswersEach}
use Rattle.work_draw.proofs.Answered.{chunk_cut}
use Rattle.work_draw.proofs.chunks.ChunksFinder.find.Goals as goal

pub find_each-requires : goal.find_each-requires
find_each-requires g c =
    let IsPlace : ℕ → Type 0 = λ place. place < g.F.Finder.limit c.args.self.now.finder.now in
    All-take IsPlace _ _ (All-take IsPlace _ _ (All-drop IsPlace _ _ c.args.self.now.places))

pub returns : goal.returns
returns g c =
    let chunks = c.args.self.now in
    subst (λ (places : List ℕ). AnswersEach (g.F.Finder.finds chunks.finder.now) places c.in_ok-found.found.items)
    (chunk_cut chunks.asked.now (c.args.number * chunks.chunk) chunks.chunk c.min-size.result c.min-size.ensures) c.in_ok-found.ensures
