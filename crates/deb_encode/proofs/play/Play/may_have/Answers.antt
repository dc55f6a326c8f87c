use Rattle.std.proofs.Common.{sym, ◌∙◌}
use Rattle.deb_encode.proofs.PlayLemmas.{placed_out}
use Rattle.deb_encode.proofs.play.Play.may_have.Goals as goal

pub returns-else-contains : goal.returns-else-contains
returns-else-contains c none =
    placed_out c.args.self.now.forced.now c.args.self.now.candidates.now c.args.place (sym c.contains.ensures ∙ c.if-contains.false) (sym c.contains-else-contains.ensures ∙ none)
