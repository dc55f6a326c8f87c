use Rattle.std.proofs.Common.{◌≡◌, ℕ, false, length, get_or, sym, ◌∙◌, ap}
use Rattle.sat_solve.specs.Trail.{set_of, steps_of}
use Rattle.sat_solve.proofs.RotationLemmas.{solved, unsolved, meets_each}
use Rattle.sat_solve.proofs.search.is_solution.Goals as goal

pub returns-then-has-clause-yes : goal.returns-then-has-clause-yes
returns-then-has-clause-yes c = λ met.
    let sized : length c.deref.result.now ≡ c.args.problem.now.vars = ap length c.deref.ensures.value ∙ (c.in_ok-copy_to.ensures.sized ∙ c.requires.solver.vars) in
    let same : (var : ℕ) → get_or c.deref.result.now var false ≡ set_of (steps_of c.args.solver.now.trail) var = λ var. ap (λ inside. get_or inside var false) c.deref.ensures.value ∙ c.in_ok-copy_to.ensures.same var in
    solved c.args.problem.now c.deref.result.now (set_of (steps_of c.args.solver.now.trail)) sized same (sym c.if-has.ensures) (c.meets_all.ensures.met met)

pub returns-then-has-clause-no : goal.returns-then-has-clause-no
returns-then-has-clause-no c = λ fails solution.
    let sized : length c.deref.result.now ≡ c.args.problem.now.vars = ap length c.deref.ensures.value ∙ (c.in_ok-copy_to.ensures.sized ∙ c.requires.solver.vars) in
    let same : (var : ℕ) → get_or c.deref.result.now var false ≡ set_of (steps_of c.args.solver.now.trail) var = λ var. ap (λ inside. get_or inside var false) c.deref.ensures.value ∙ c.in_ok-copy_to.ensures.same var in
    c.meets_all.ensures.unmet fails (meets_each c.args.problem.now c.deref.result.now (set_of (steps_of c.args.solver.now.trail)) sized same solution)

pub returns-else-has-clause-no : goal.returns-else-has-clause-no
returns-else-has-clause-no c = λ _ solution.
    let sized : length c.deref.result.now ≡ c.args.problem.now.vars = ap length c.deref.ensures.value ∙ (c.in_ok-copy_to.ensures.sized ∙ c.requires.solver.vars) in
    let same : (var : ℕ) → get_or c.deref.result.now var false ≡ set_of (steps_of c.args.solver.now.trail) var = λ var. ap (λ inside. get_or inside var false) c.deref.ensures.value ∙ c.in_ok-copy_to.ensures.same var in
    unsolved c.args.problem.now c.deref.result.now (set_of (steps_of c.args.solver.now.trail)) sized same (sym c.if-has.ensures) solution
