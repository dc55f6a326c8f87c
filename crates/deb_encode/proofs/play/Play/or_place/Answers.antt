use Rattle.std.proofs.Common.{sym, ◌∙◌}
use Rattle.deb_encode.proofs.PlayLemmas.{widens_in, widens_out, widens_var}
use Rattle.deb_encode.proofs.play.Play.or_place.Goals as goal

pub returns-then-contains : goal.returns-then-contains
returns-then-contains c = widens_in c.args.self.now.forced.now c.args.self.now.candidates.now c.args.place c.args.positive c.args.clause.now.items (sym c.contains.ensures ∙ c.if-contains.true)

pub returns-in_default : goal.returns-in_default
returns-in_default c =
    widens_out c.args.self.now.forced.now c.args.self.now.candidates.now c.args.place c.args.positive c.args.clause.now.items (sym c.contains.ensures ∙ c.if-contains.false) c.in_default.ensures.none

pub returns : goal.returns
returns c =
    widens_var c.args.self.now.forced.now c.args.self.now.candidates.now c.args.place c.args.positive c.args.clause.now.items c.args.self.now.rising c.in-Some.number
    (sym c.contains.ensures ∙ c.if-contains.false) c.in-Some.ensures.some c.push.new.self.items c.in_ok-push.ensures.items
