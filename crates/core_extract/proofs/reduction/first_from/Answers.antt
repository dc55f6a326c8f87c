use Rattle.std.proofs.Common.{Ok, Err}
use Rattle.core_extract.proofs.NextOf.{begins_there}
use Rattle.core_extract.proofs.reduction.first_from.Goals as goal

pub returns-in-Ok : goal.returns-in-Ok
returns-in-Ok c = begins_there c.args.numbers.now c.args.from c.requires (Ok c.in-Ok.at) c.in-Ok.ensures.position

pub returns-in-Err : goal.returns-in-Err
returns-in-Err c = begins_there c.args.numbers.now c.args.from c.requires (Err c.in-Err.at) c.in-Err.ensures.position
