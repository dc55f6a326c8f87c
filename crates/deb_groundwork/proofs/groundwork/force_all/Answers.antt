use Rattle.std.proofs.Common.{length}
use Rattle.deb_groundwork.proofs.GroundworkLemmas.{empty_are_places, forced_in_all}
use Rattle.deb_groundwork.proofs.groundwork.force_all.Goals as goal

pub force_from-requires : goal.force_from-requires
force_from-requires c = c.in_ok-force_essential.ensures.grows.places (empty_are_places (length c.args.index.now.packages) _ c.new-forced.ensures)

pub returns-clause-places : goal.returns-clause-places
returns-clause-places c =
    c.in_ok-force_from.ensures.grows.places (c.in_ok-force_essential.ensures.grows.places (empty_are_places (length c.args.index.now.packages) _ c.new-forced.ensures))

pub returns-clause-in_all : goal.returns-clause-in_all
returns-clause-in_all c =
    forced_in_all c.args.index.now _ c.force_essential.new.forced c.force_from.new.forced c.new-forced.ensures c.in_ok-force_essential.ensures c.in_ok-force_from.ensures
