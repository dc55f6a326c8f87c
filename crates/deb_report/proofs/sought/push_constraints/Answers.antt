use Rattle.std.proofs.Common.{◌∙◌, ◌++◌, Global, List, Vec, ap, arith, sym}
use Rattle.std.proofs.lemmas.List.{take_all}
use Rattle.std.proofs.lemmas.List.Folds.{flat_map-map}
use Rattle.std.specs.List.{flat_map}
use Rattle.deb_index.specs.declared.constraint.Constraint.{Constraint}
use Rattle.deb_report.proofs.SoughtLemmas.{gathered_more}
use Rattle.deb_report.proofs.sought.push_constraints.Goals as goal

abbrev its : Vec Constraint Global → List Constraint
its core = core.items

pub loop-core-preserved : goal.loop-core-preserved
loop-core-preserved c =
    let old = c.loop-core.constraints.items in
    gathered_more its c.args.cores.now c.loop-core.core-index c.core-item.result c.args.constraints.now.items old _ c.loop-core-test.true c.loop-core.invariant
    (c.in_ok-extend_from_slice.ensures.items ∙ ap (λ more. old ++ more) (c.as_slice.ensures.value ∙ ap its c.core-item.is))

pub returns : goal.returns
returns c =
    let cores = c.args.cores.now in
    c.loop-core.invariant
    ∙ ap (λ more. c.args.constraints.now.items ++ more)
    (ap (flat_map its) (take_all c.loop-core.core-index cores (omega (arith, c.loop-core-test.false)))
    ∙ sym (flat_map-map (λ (core : List Constraint). core) its cores))
