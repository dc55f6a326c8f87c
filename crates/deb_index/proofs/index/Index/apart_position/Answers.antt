use Rattle.std.proofs.Common.{◌+◌, arith}
use Rattle.std.proofs.lemmas.Option.{slice_get_within}
use Rattle.deb_index.specs.Constraints.{constraints_of}
use Rattle.deb_index.specs.declared.constraint.Constraint.TheVariants.{Apart}
use Rattle.deb_index.proofs.PositionLemmas.{apart-place}
use Rattle.deb_index.proofs.index.Index.apart_position.Goals as goal

pub overflow_add-result : goal.overflow_add-result
overflow_add-result c =
    let v = c.args.self.now in
    let k = c.first_position.result + c.need_count.result + c.args.number in
    let at = apart-place v c.args.place c.args.number k c.requires.place c.requires.number (omega (arith, c.first_position.ensures.value, c.need_count.ensures)) in
    omega (arith, slice_get_within (constraints_of v) k (Apart c.args.place c.args.number) at, c.first_position.ensures.few)

pub overflow_add-result-2 : goal.overflow_add-result-2
overflow_add-result-2 c =
    let v = c.args.self.now in
    let k = c.first_position.result + c.need_count.result + c.args.number in
    let at = apart-place v c.args.place c.args.number k c.requires.place c.requires.number (omega (arith, c.first_position.ensures.value, c.need_count.ensures)) in
    omega (arith, slice_get_within (constraints_of v) k (Apart c.args.place c.args.number) at, c.first_position.ensures.few)

pub returns : goal.returns
returns c =
    apart-place c.args.self.now c.args.place c.args.number (c.first_position.result + c.need_count.result + c.args.number) c.requires.place c.requires.number
    (omega (arith, c.first_position.ensures.value, c.need_count.ensures))
