use Rattle.std.proofs.Common.{◌+◌, arith}
use Rattle.std.proofs.lemmas.Option.{slice_get_within}
use Rattle.deb_index.specs.Constraints.{constraints_of}
use Rattle.deb_index.specs.declared.constraint.Constraint.TheVariants.{Need}
use Rattle.deb_index.proofs.PositionLemmas.{need-place}
use Rattle.deb_index.proofs.index.Index.need_position.Goals as goal

pub overflow_add-result : goal.overflow_add-result
overflow_add-result c =
    let v = c.args.self.now in
    let first = c.first_position.result in
    let at = need-place v c.args.place c.args.number (first + c.args.number) c.requires.place c.requires.number (omega (arith, c.first_position.ensures.value)) in
    omega (arith, slice_get_within (constraints_of v) (first + c.args.number) (Need c.args.place c.args.number) at, c.first_position.ensures.few)

pub returns : goal.returns
returns c = need-place c.args.self.now c.args.place c.args.number (c.first_position.result + c.args.number) c.requires.place c.requires.number (omega (arith, c.first_position.ensures.value))
