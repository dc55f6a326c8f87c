use Rattle.std.proofs.Common.{sym, ap, ◌∙◌}
use Rattle.std.specs.List.{list_any}
use Rattle.deb_groundwork.proofs.answering.is_answered.Goals as goal

pub returns-in-Some : goal.returns-in-Some
returns-in-Some g c = λ holds. ap (list_any (g.P.Places.members c.args.set.now)) (sym c.in-Some.ensures.row) ∙ (sym c.has_any.ensures ∙ holds)
