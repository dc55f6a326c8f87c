use Rattle.deb_groundwork.proofs.GroundworkLemmas.{first_places, first_start, first_forced, first_ground}
use Rattle.deb_groundwork.proofs.groundwork.Groundwork.force.Goals as goal

pub force_from-requires : goal.force_from-requires
force_from-requires c =
    first_places c.args.self.now.index.now c.args.p c.args.self.now.forced c.as_slice.result.now c.clear.new.self c.extend.new.self c.insert.new.self
    c.as_slice.ensures c.clear.ensures c.in_ok-insert.ensures c.requires c.args.self.now.places c.in_ok-extend.ensures.grows

pub returns : goal.returns
returns c =
    let index = c.args.self.now.index.now in
    let row_is = c.as_slice.ensures in
    record {
      start = first_start index c.args.p c.args.self.now.forced c.as_slice.result.now c.clear.new.self c.extend.new.self c.insert.new.self row_is c.clear.ensures c.in_ok-insert.ensures c.force_from.new.forced c.in_ok-force_from.ensures;
      follows =
          first_forced index c.args.p c.args.self.now.forced c.as_slice.result.now c.clear.new.self c.extend.new.self c.insert.new.self row_is c.clear.ensures c.in_ok-insert.ensures c.force_from.new.forced
          c.in_ok-force_from.ensures c.args.self.now.in_all c.in_ok-extend.ensures.only;
      ground =
          first_ground index c.args.p c.args.self.now.forced c.as_slice.result.now c.clear.new.self c.extend.new.self c.insert.new.self row_is c.clear.ensures c.in_ok-insert.ensures c.force_from.new.forced
          c.in_ok-force_from.ensures c.in_ok-extend.ensures.has;
      within =
          (c.in_ok-force_from.ensures.grows.places
          (first_places index c.args.p c.args.self.now.forced c.as_slice.result.now c.clear.new.self c.extend.new.self c.insert.new.self row_is c.clear.ensures c.in_ok-insert.ensures c.requires
          c.args.self.now.places c.in_ok-extend.ensures.grows)).within;
    }
