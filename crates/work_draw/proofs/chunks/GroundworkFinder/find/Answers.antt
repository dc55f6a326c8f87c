use Rattle.work_draw.proofs.Answered.{IfOk-both}
use Rattle.work_draw.proofs.chunks.GroundworkFinder.find.Goals as goal

pub returns : goal.returns
returns c = IfOk-both c.verdict_in.result _ _ c.verdict_in.ensures.verdict c.verdict_in.ensures.within
