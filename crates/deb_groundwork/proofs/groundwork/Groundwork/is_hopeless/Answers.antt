use Rattle.std.proofs.Common.{◌∙◌, sym}
use Rattle.deb_groundwork.proofs.groundwork.Groundwork.is_hopeless.Goals as goal

pub returns-then-self : goal.returns-then-self
returns-then-self c = λ _. c.args.self.now.none c.if-self.true c.args.place

pub returns : goal.returns
returns c = λ marked. c.args.self.now.in_none c.args.place (sym c.contains.ensures ∙ marked)
