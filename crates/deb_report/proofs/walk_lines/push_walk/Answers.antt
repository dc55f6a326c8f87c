use Rattle.std.proofs.lemmas.List.Elements.{All-same, All-weaker}
use Rattle.deb_index.specs.declared.constraint.Constraint.{Constraint}
use Rattle.deb_index.specs.Constraints.{IsOfIndex}
use Rattle.deb_report.specs.Walk.{IsStepOf, first_steps}
use Rattle.deb_report.proofs.WalkLemmas.{first-within}
use Rattle.deb_report.specs.Sought.{FitsWalk}
use Rattle.deb_report.proofs.WalkTextLemmas.{told_whole}
use Rattle.deb_report.proofs.walk_lines.push_walk.Goals as goal

pub comers-requires : goal.comers-requires
comers-requires c =
    let index = c.args.index.now in
    All-weaker (FitsWalk index c.args.similar.now) (IsOfIndex index) (λ (one : Constraint) fits. fits.of_index) c.args.core.now c.requires.core

pub go_from-requires-clause-steps : goal.go_from-requires-clause-steps
go_from-requires-clause-steps c =
    let index = c.args.index.now in
    let core = c.args.core.now in
    let fits = FitsWalk index c.args.similar.now in
    All-same (IsStepOf index fits) c.in_ok-first.first.items (first_steps core c.args.place) c.in_ok-first.ensures
    (first-within index fits core c.args.place c.requires.place (λ (one : Constraint) it. it.of_index) c.requires.core)

pub returns : goal.returns
returns c =
    told_whole c.args.index.now c.args.place c.args.core.now _ _ c.in_ok-first.first.items c.args.out.now.items c.go_from.new.out.items
    c.in_ok-table.ensures c.in_ok-coming.ensures c.in_ok-first.ensures c.in_ok-go_from.ensures
