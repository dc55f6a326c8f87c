use Rattle.std.proofs.Common.{◌≡◌, List, ℕ, map, slice_get, Some, subst}
use Rattle.deb_index.specs.Constraints.{IsOfIndex, constraints_of}
use Rattle.deb_index.proofs.ConstraintLemmas.{constraints-within}
use Rattle.number_sets.proofs.ListMembers.{take_whole}
use Rattle.deb_verdict.proofs.Whole.{named_all, named_more}
use Rattle.deb_verdict.proofs.kept_positions.list_constraints.Goals as goal

pub loop-position-preserved : goal.loop-position-preserved
loop-position-preserved c =
    named_more (constraints_of c.args.index.now) c.args.positions.now c.loop-position.constraints.items c.push.new.self.items c.loop-position.position-index c.constraint_at.result c.loop-position-test.true
    c.constraint_at.ensures c.in_ok-push.ensures.items c.loop-position.invariant

pub returns : goal.returns
returns c =
    let constraints = constraints_of c.args.index.now in
    let At : List ℕ → Type 0 = λ list. map (slice_get constraints) list ≡ map Some c.loop-position.constraints.items in
    let stand : At c.args.positions.now = subst At (take_whole c.args.positions.now c.loop-position.position-index c.loop-position-test.false) c.loop-position.invariant in
    record {
      stand = stand;
      of_index = named_all (IsOfIndex c.args.index.now) constraints c.loop-position.constraints.items c.args.positions.now (constraints-within c.args.index.now) stand;
    }
