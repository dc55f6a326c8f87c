use Rattle.std.proofs.Common.{◌≡◌, ◌∙◌, ◌<◌, ℕ, List, [], All, get_or, length, sym, subst, ap, arith}
use Rattle.std.proofs.lemmas.Option.{slice_get_within}
use Rattle.deb_index.specs.declared.constraint.Constraint.TheVariants.{Need, Apart}
use Rattle.deb_index.specs.Packages.{essential_names}
use Rattle.deb_index.specs.Constraints.{constraints_of}
use Rattle.deb_index.proofs.ConstraintLemmas.{constraints-few}
use Rattle.number_sets.specs.Sets.{members_of}
use Rattle.deb_verdict.specs.Formulas.{Lists}
use Rattle.deb_verdict.proofs.Listing.{IsAskedIn, essential_at, essential_stands, lists_start, lists_next, lists_essential, lists_needs, lists_aparts, lists_first, lists_place, lists_only, listed_all, listed_below}
use Rattle.number_sets.proofs.ListMembers.{take_whole, below_members}
use Rattle.deb_index.proofs.IndexFacts.{rising_length}
use Rattle.deb_verdict.proofs.kept_positions.list_positions.Goals as goal

pub loop-position-init : goal.loop-position-init
loop-position-init c = rw c.clear.ensures.items (lists_start c.args.index.now (essential_at c.args.index.now) [])

pub overflow_cast-position : goal.overflow_cast-position
overflow_cast-position c =
    let index = c.args.index.now in
    let position = c.loop-position.position in
    let inside : position < length (essential_names index) = omega (arith, c.loop-position-test.true, ap length c.essential_names-position-end.ensures) in
    omega (
      arith,
      slice_get_within (constraints_of index) position (essential_at index position) (essential_stands index position inside),
      constraints-few index c.len-limit.ensures.few c.len-limit.ensures.few_asked,
    )

pub loop-position-preserved : goal.loop-position-preserved
loop-position-preserved c =
    let index = c.args.index.now in
    let position = c.loop-position.position in
    let inside : position < length (essential_names index) = omega (arith, c.loop-position-test.true, ap length c.essential_names-position-end.ensures) in
    lists_next index (essential_at index) position position (essential_stands index position inside) [] c.loop-position.positions.items c.push.new.self.items
    c.loop-position.invariant c.in_ok-push.ensures.items

pub loop-place-init : goal.loop-place-init
loop-place-init c =
    lists_first c.args.index.now c.args.members.now [] c.loop-position.positions.items
    (lists_essential c.args.index.now c.loop-position.position [] c.loop-position.positions.items
    (omega (arith, c.loop-position-test.false, ap length c.essential_names-position-end.ensures)) c.loop-position.invariant)

pub loop-number-init : goal.loop-number-init
loop-number-init c = lists_start c.args.index.now (λ j. Need (get_or c.args.members.now c.loop-place.place-index 0) j) c.loop-place.positions.items

pub loop-number-preserved : goal.loop-number-preserved
loop-number-preserved c =
    lists_next c.args.index.now (λ j. Need (get_or c.args.members.now c.loop-place.place-index 0) j) c.loop-number.number c.need_position.result c.need_position.ensures
    c.loop-place.positions.items c.loop-number.positions.items c.push-in-loop-number.new.self.items c.loop-number.invariant c.in_ok-push-2.ensures.items

pub loop-number-2-init : goal.loop-number-2-init
loop-number-2-init c = lists_start c.args.index.now (λ j. Apart (get_or c.args.members.now c.loop-place.place-index 0) j) c.loop-number.positions.items

pub loop-number-2-preserved : goal.loop-number-2-preserved
loop-number-2-preserved c =
    lists_next c.args.index.now (λ j. Apart (get_or c.args.members.now c.loop-place.place-index 0) j) c.loop-number-2.number c.apart_position.result c.apart_position.ensures
    c.loop-number.positions.items c.loop-number-2.positions.items c.push-in-loop-number-2.new.self.items c.loop-number-2.invariant c.in_ok-push-3.ensures.items

pub loop-place-preserved : goal.loop-place-preserved
loop-place-preserved c =
    let index = c.args.index.now in
    let place : ℕ = get_or c.args.members.now c.loop-place.place-index 0 in
    lists_place index c.args.members.now c.loop-place.place-index c.loop-place-test.true [] c.loop-place.positions.items c.loop-number.positions.items
    c.loop-number-2.positions.items c.push-in-loop-place.new.self.items c.loop-place.invariant
    (lists_needs index place c.loop-number.number c.loop-place.positions.items c.loop-number.positions.items (omega (arith, c.need_count-number-end.ensures)) c.loop-number.invariant)
    (lists_aparts index place c.loop-number-2.number c.loop-number.positions.items c.loop-number-2.positions.items (omega (arith, c.apart_count-number-end.ensures)) c.loop-number-2.invariant)
    (lists_only index place c.name_of.result c.only_position.result
    c.name_of.ensures.within c.name_of.ensures.name c.only_position.ensures c.loop-number-2.positions.items c.push-in-loop-place.new.self.items c.in_ok-push-4.ensures.items)

pub returns : goal.returns
returns c =
    let index = c.args.index.now in
    let members : List ℕ = c.args.members.now in
    let before : List ℕ = c.loop-place.positions.items in
    let positions : List ℕ = c.sort_once.new.numbers.items in
    let Asked : List ℕ → Type 0 = λ places. Lists index (IsAskedIn index places) [] before in
    let whole : Lists index (IsAskedIn index members) [] before = subst Asked (take_whole members c.loop-place.place-index c.loop-place-test.false) c.loop-place.invariant in
    let same : (k : ℕ) → members_of positions k ≡ members_of before k = c.sort_once.ensures.same in
    let in_list : All (λ k. k < length (constraints_of index)) positions =
    below_members positions (length (constraints_of index)) (λ k is_in. listed_below index (IsAskedIn index members) before whole k (sym (same k) ∙ is_in)) in
    record {
      rising = c.sort_once.ensures.rising;
      all = λ k is_one. same k ∙ listed_all index members before whole k is_one;
      in_list = in_list;
      few = omega (
        arith,
        rising_length positions c.sort_once.ensures.rising (length (constraints_of index)) in_list,
        constraints-few index c.len-limit.ensures.few c.len-limit.ensures.few_asked,
      );
    }
