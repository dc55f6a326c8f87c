use Rattle.std.proofs.Common.{◌≡◌, ◌∙◌, ◌++◌, append-nil, ap, reverse}
use Rattle.std.proofs.lemmas.List.Elements.{All-same}
use Rattle.deb_report.specs.Walk.{IsStepOf}
use Rattle.deb_report.specs.Sought.{FitsWalk}
use Rattle.deb_report.proofs.walk_constraints.Walk.go_from.Goals as goal

pub go_all-requires-clause-steps : goal.go_all-requires-clause-steps
go_all-requires-clause-steps c =
    let index = c.args.self.now.index.now in
    let steps = c.args.steps.items in
    let same : reverse c.put_before.new.stack.items ≡ steps =
    c.in_ok-put_before.ensures ∙ ap (λ old. steps ++ reverse old) c.new-stack.ensures.items ∙ append-nil steps in
    All-same (IsStepOf index (FitsWalk index c.args.self.now.similar.now)) (reverse c.put_before.new.stack.items) steps same c.requires.steps
