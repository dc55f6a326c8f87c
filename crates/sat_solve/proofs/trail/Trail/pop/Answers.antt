use Rattle.std.proofs.Common.{◌∷◌, reverse, subst, arith}
use Rattle.sat_solve.specs.Trail.{IsLinked}
use Rattle.sat_solve.proofs.ValueLemmas.{newest_in_range, reversed_last}
use Rattle.sat_solve.proofs.trail.Trail.pop.Goals as goal

pub index_mut-requires : goal.index_mut-requires
index_mut-requires c =
    let trail_is = reversed_last _ _ c.in_ok-step.step c.in_ok-step.ensures.items in
    let linked : IsLinked c.args.self.now.vars c.args.self.now.values.items (c.in_ok-step.step ∷ reverse c.pop.new.self.items) = subst (λ steps. IsLinked c.args.self.now.vars c.args.self.now.values.items steps) trail_is c.requires in
    omega (arith, newest_in_range _ _ _ _ linked, linked.sized)
