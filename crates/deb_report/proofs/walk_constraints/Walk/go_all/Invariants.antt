use Rattle.std.proofs.Common.{◌≡◌, ◌++◌, ◌-◌, All, reverse}
use Rattle.deb_report.specs.Walk.{IsStepOf, places_in, step_limit}
use Rattle.deb_report.specs.Sought.{FitsWalk}
use Rattle.deb_report.specs.WalkLines.{walk_text}
use Rattle.deb_report.proofs.walk_constraints.Walk.go_all.Given as goal

abbrev pub invariant-loop : goal.invariant-loop
invariant-loop l =
    All (IsStepOf l.self.index.now (FitsWalk l.self.index.now l.self.similar.now)) (reverse l.stack.items)
    × (l.out.items ++ walk_text (step_limit - l.counter) l.self.index.now l.self.core.now (places_in l.self.coming.now) (places_in l.told) (reverse l.stack.items)
    ≡ l.initial.out.items ++ walk_text step_limit l.self.index.now l.self.core.now (places_in l.self.coming.now) (places_in l.initial.told) (reverse l.initial.stack.items))
