use Rattle.std.proofs.Common.{◌∙◌, ◌≡◌, ◌≤◌, ◌+◌, ◌-◌, ap, length, rules, take}
use Rattle.std.proofs.lemmas.List.{with_items_is}
use borrow.Rule.Slice.PartMut.{put_mid}
use Rattle.deb_input.proofs.DeviceLemmas.{held_count, held_more}
use Rattle.deb_input.proofs.held.Held.read_part.Goals as goal

pub returns-in-Ok-clause-bytes : goal.returns-in-Ok-clause-bytes
returns-in-Ok-clause-bytes g c =
    let size = c.self.inside.filled + c.args.count - c.self.inside.filled in
    let room = c.deref_mut.result.now in
    let part = c.read_some.new.buf in
    let came = c.in-Ok.came in
    let fits : c.self.inside.filled ≤ length room = search rules in
    let whole = put_mid c.self.inside.filled size room part in
    let long : length whole ≡ c.widen.new.bytes.len = search rules in (
      take came part,
      c.in-Ok.ensures.bytes.0,
      ap (take (c.self.inside.filled + came)) (with_items_is c.widen.new.bytes whole long)
          ∙ held_more c.self.inside.bytes.items room part c.args.self.now c.self.inside.filled size came (search rules) c.self.view_is c.self.invariant fits c.in-Ok.ensures.count,
    )

pub returns-in-Ok-clause-came : goal.returns-in-Ok-clause-came
returns-in-Ok-clause-came g c =
    let size = c.self.inside.filled + c.args.count - c.self.inside.filled in
    let room = c.deref_mut.result.now in
    let part = c.read_some.new.buf in
    let came = c.in-Ok.came in
    let fits : c.self.inside.filled ≤ length room = search rules in
    let whole = put_mid c.self.inside.filled size room part in
    let long : length whole ≡ c.widen.new.bytes.len = search rules in
    let is = ap (take (c.self.inside.filled + came)) (with_items_is c.widen.new.bytes whole long)
    ∙ held_more c.self.inside.bytes.items room part c.args.self.now c.self.inside.filled size came (search rules) c.self.view_is c.self.invariant fits c.in-Ok.ensures.count in
    (held_count c.args.self.now _ part came is c.in-Ok.ensures.count, search rules)

pub returns-in-Ok-clause-end : goal.returns-in-Ok-clause-end
returns-in-Ok-clause-end g c = λ none. c.in-Ok.ensures.bytes.1 none (search rules)
