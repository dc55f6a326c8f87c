use Rattle.std.proofs.Common.{ℕ, List, get_or, arith}
use Rattle.number_sets.specs.Sets.{members_of}
use Rattle.deb_groundwork.specs.BaseSets.{HasHits}
use Rattle.deb_groundwork.proofs.BaseLemmas.{base_of, StandsIn}
use Rattle.deb_groundwork.proofs.RowLemmas.{more_below}
use Rattle.deb_groundwork.proofs.base_set.BaseSet.is_base.Goals as goal

pub loop-place-preserved : goal.loop-place-preserved
loop-place-preserved c =
    let index = c.args.index.now in
    let items : List ℕ = c.as_slice-place-items.result.now in
    let before : List ℕ = c.loop-place.hit in
    let after : List ℕ = c.take_hits.new.hit in
    let Stands : ℕ → Type 0 = λ k. StandsIn index (members_of c.args.self.now.members) (get_or items k 0) in
    let Then : ℕ → Type 0 = λ k. HasHits index (members_of before) (get_or items k 0) in
    let Now : ℕ → Type 0 = λ k. HasHits index (members_of after) (get_or items k 0) in
    record {
      stand = more_below Stands Stands c.loop-place.place-index (λ k below stands. stands) c.loop-place.invariant.stand record {
        is_place = omega arith;
        needs = c.are_answered.ensures c.if-not-are_answered.false;
        aparts = c.stands_apart.ensures c.if-not-stands_apart.false;
        once = c.has_no_earlier.ensures c.if-not-has_no_earlier.false;
      };
      hit =
          more_below Then Now c.loop-place.place-index (λ k below then j q inside hit. c.take_hits.ensures.keeps c.if-not-take_hits.false q (then j q inside hit)) c.loop-place.invariant.hit
          (c.take_hits.ensures.has c.if-not-take_hits.false);
    }

pub returns : goal.returns
returns c = λ _.
    base_of c.args.index.now _ c.as_slice-place-items.result.now c.loop-place.place-index c.as_slice-place-items.ensures c.loop-place-test.false
    c.loop-place.invariant.stand c.loop-place.invariant.hit
