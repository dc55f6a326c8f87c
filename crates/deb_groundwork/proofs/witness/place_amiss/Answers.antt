use Rattle.std.proofs.Common.{◌≡◌, ℕ, List, true, get_or, subst}
use Rattle.number_sets.specs.Sets.{NumberSet, members_of}
use Rattle.deb_health.specs.Causes.{either}
use Rattle.deb_groundwork.specs.BaseSets.{HasRoom}
use Rattle.deb_groundwork.specs.Parts.{MeetsAskedOf}
use Rattle.deb_groundwork.proofs.RowLemmas.{more_below}
use Rattle.deb_groundwork.proofs.WitnessLemmas.{of_members}
use Rattle.deb_groundwork.proofs.witness.place_amiss.Goals as goal

pub loop-place-preserved : goal.loop-place-preserved
loop-place-preserved c =
    let items : List ℕ = c.as_slice-place-items.result.now in
    let set : NumberSet = either (members_of c.args.base.now.members) (members_of c.args.more.now) in
    let Room : ℕ → Type 0 = λ k. HasRoom c.args.part.now.index.now c.args.base.now (get_or items k 0) in
    let Meets : ℕ → Type 0 = λ k. MeetsAskedOf c.args.part.now set (get_or items k 0) in
    record {
      room = more_below Room Room c.loop-place.place-index (λ k below room. room) c.loop-place.invariant.room (c.has_room.ensures c.if-not-has_room.false);
      meets = more_below Meets Meets c.loop-place.place-index (λ k below meets. meets) c.loop-place.invariant.meets (c.meets_place.ensures c.if-not-meets_place.false);
    }

pub returns-clause-room : goal.returns-clause-room
returns-clause-room c =
    let Room : List ℕ → Type 0 = λ list. (q : ℕ) → members_of list q ≡ true → HasRoom c.args.part.now.index.now c.args.base.now q in
    subst Room c.as_slice-place-items.ensures
    (of_members (HasRoom c.args.part.now.index.now c.args.base.now) c.as_slice-place-items.result.now c.loop-place.place-index c.loop-place-test.false c.loop-place.invariant.room)

pub returns-clause-meets : goal.returns-clause-meets
returns-clause-meets c =
    let set : NumberSet = either (members_of c.args.base.now.members) (members_of c.args.more.now) in
    let Meets : List ℕ → Type 0 = λ list. (q : ℕ) → members_of list q ≡ true → MeetsAskedOf c.args.part.now set q in
    subst Meets c.as_slice-place-items.ensures
    (of_members (MeetsAskedOf c.args.part.now set) c.as_slice-place-items.result.now c.loop-place.place-index c.loop-place-test.false c.loop-place.invariant.meets)
