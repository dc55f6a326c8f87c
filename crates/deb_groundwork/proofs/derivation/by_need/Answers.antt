use Rattle.std.proofs.Common.{◌∙◌, sym}
use Rattle.number_sets.specs.Sets.{members_of}
use Rattle.deb_groundwork.proofs.Derived.{need_gives}
use Rattle.deb_groundwork.proofs.derivation.by_need.Goals as goal

pub returns : goal.returns
returns c =
    need_gives c.args.index.now (members_of c.args.forced.now) c.args.place c.args.number c.need_position.result c.in_ok-row.row.now c.need_position.ensures
    (sym c.contains.ensures ∙ c.if-not-contains.false) c.in_ok-row.ensures.row
