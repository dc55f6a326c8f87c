use Rattle.std.proofs.Common.{◌≡◌, [], Vec, Global, All, length, map}
use Rattle.std.specs.Option.{ForSome}
use Rattle.deb_health.specs.declared.told.Cores.TheVariants as cores_are
use Rattle.deb_index.specs.declared.constraint.Constraint.{Constraint}
use Rattle.deb_index.specs.Constraints.{IsOfIndex, constraints_of}
use Rattle.number_sets.specs.Sets.{members_of}
use Rattle.deb_verdict.specs.Formulas.{Tells}
use Rattle.deb_verdict.proofs.CauseSteps.{AreFound, count_left}
use Rattle.deb_verdict.proofs.all_causes.cores_in.Given as goal

abbrev pub invariant-loop-out : goal.invariant-loop-out
invariant-loop-out l =
    record {
      told : ForSome l.formula (Tells l.index l.p);
      begins : l.wanted.cores ≡ cores_are.First → (l.out ≡ []) × (l.cores.items ≡ []);
      found : AreFound l.index l.p (members_of l.out) (map (λ (core : Vec Constraint Global). core.items) l.cores.items);
      within : All (All (IsOfIndex l.index)) (map (λ (core : Vec Constraint Global). core.items) l.cores.items);
    }

abbrev pub decreases-loop-out : goal.decreases-loop-out
decreases-loop-out l = count_left (members_of l.out) (length (constraints_of l.index))
