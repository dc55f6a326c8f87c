use Rattle.std.proofs.Common.{◌≡◌, ◌∙◌, ◌<◌, ◌^◌, ◌-◌, length, sym, ap, arith, false}
use Rattle.std.proofs.lemmas.List.{length_push}
use Rattle.number_sets.specs.Sets.{members_of}
use Rattle.number_sets.proofs.SparseSetLemmas.{room_for_one, numbered_push}
use Rattle.number_sets.proofs.sparse_set.SparseSet.insert.Goals as goal

pub invariant_of-self : goal.invariant_of-self
invariant_of-self c = c.make_room.ensures.kept c.self.inside.numbers.items c.self.invariant

pub invariant_of-self-in_err-push : goal.invariant_of-self-in_err-push
invariant_of-self-in_err-push c = rw c.in_err-push.ensures.items (c.make_room.ensures.kept c.self.inside.numbers.items c.self.invariant)

pub overflow_cast-len : goal.overflow_cast-len
overflow_cast-len c =
    let is_new : members_of c.self.inside.numbers.items c.args.number ≡ false =
    ap (λ places. members_of places c.args.number) c.self.view_is ∙ (sym c.contains.ensures ∙ c.if-contains.false) in
    let few : length c.self.inside.numbers.items < 2 ^ 32 =
    room_for_one c.self.inside.numbers.items c.make_room.new.positions.items c.args.number (c.make_room.ensures.kept c.self.inside.numbers.items c.self.invariant) is_new c.in_ok-make_room.ensures.room in
    omega (arith, few, c.len.ensures, c.push.new.self.ok, ap length c.in_ok-push.ensures.items, length_push c.self.inside.numbers.items c.args.number)

pub invariant_of-self-2 : goal.invariant_of-self-2
invariant_of-self-2 c =
    let is_new : members_of c.self.inside.numbers.items c.args.number ≡ false =
    ap (λ places. members_of places c.args.number) c.self.view_is ∙ (sym c.contains.ensures ∙ c.if-contains.false) in
    let number_is : c.len.result - 1 ≡ length c.self.inside.numbers.items =
    omega (arith, c.len.ensures, c.push.new.self.ok, ap length c.in_ok-push.ensures.items, length_push c.self.inside.numbers.items c.args.number) in
    rw (number_is, c.in_ok-push.ensures.items)
    (numbered_push c.self.inside.numbers.items c.make_room.new.positions.items c.args.number (c.make_room.ensures.kept c.self.inside.numbers.items c.self.invariant) is_new c.in_ok-make_room.ensures.room)
