use Rattle.std.proofs.Common.{rules, ◌≡◌, length, ap, arith}
use Rattle.sat_solve.specs.Clauses.{Clauses}
use Rattle.deb_encode.proofs.Grouped.{encoded_none, encoded_more, encoded_whole}
use Rattle.deb_encode.proofs.groups.encode_each.Goals as goal

pub loop-group-preserved : goal.loop-group-preserved
loop-group-preserved c =
    encoded_more c.args.play.now c.args.constraints.now c.loop-group.group _ c.loop-group.formula c.add_constraint.new.self.formula.now _ (search rules) c.loop-group.invariant
    c.in_ok-add_constraint.ensures.adds

pub add_constraint-requires : goal.add_constraint-requires
add_constraint-requires c = c.requires.of_index c.loop-group.group _ (omega (arith, c.loop-group-test.true, c.groups-group-end.ensures, ap (λ (f : Clauses). f.groups) c.requires.empty))

pub loop-group-init : goal.loop-group-init
loop-group-init c = encoded_none c.args.play.now c.args.constraints.now c.args.formula.now c.requires.empty

pub returns : goal.returns
returns c =
    let whole : c.loop-group.group ≡ length c.args.constraints.now =
    omega (arith, c.loop-group-test.false, c.loop-group.auto.group-end, c.groups-group-end.ensures, ap (λ (f : Clauses). f.groups) c.requires.empty) in
    record {
      vars = c.loop-group.invariant.vars;
      groups = c.loop-group.invariant.groups;
      tells = encoded_whole c.args.play.now c.args.constraints.now c.loop-group.group c.loop-group.formula whole c.loop-group.invariant;
    }
