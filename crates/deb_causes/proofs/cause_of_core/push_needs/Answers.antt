use Rattle.std.proofs.Common.{◌≡◌, ◌<◌, ◌++◌, ◌∷◌, [], ◌∙◌, ◌||◌, ℕ, List, ap, arith, get_or, length, sym, take, ◌+◌}
use Rattle.std.proofs.lemmas.List.{take_more}
use Rattle.deb_index.specs.declared.constraint.Constraint.{Constraint}
use Rattle.deb_index.specs.declared.constraint.Constraint.TheVariants.{Essential}
use Rattle.deb_health.specs.Causes.{cause_in, is_final}
use Rattle.number_sets.specs.Sets.{members_of}
use Rattle.number_sets.proofs.ListLemmas.{filter_fails, filter_passes}
use Rattle.deb_causes.proofs.CoreLemmas.{need-passed, need-pushed, no-need-from}
use Rattle.deb_causes.proofs.cause_of_core.push_needs.Goals as goal
use Rattle.deb_causes.proofs.cause_of_core.push_needs.Goals.{in-Need+in_ok-is_final+then-branch+in_ok-push, in-Need+in_ok-is_final+else-branch, in_default}

pub loop-constraint-preserved : goal.loop-constraint-preserved
loop-constraint-preserved c =
    let index = c.args.index.now in
    let core = c.args.core.now in
    let i = c.loop-constraint.constraint-index in
    let inside : i < length core = omega arith in
    let x : Constraint = get_or core i (Essential 0) in
    let more : take (i + 1) core ≡ take i core ++ x ∷ [] = take_more core i (Essential 0) inside in
    let cause : List Constraint = cause_in index (take i core) in
    let old : List ℕ = c.loop-constraint.positions.items in
    elim c.match-constraint.branch [
      | in-Need+in_ok-is_final+then-branch+in_ok-push w ↦ λ k.
          let grown : cause_in index (take (i + 1) core) ≡ cause ++ x ∷ [] =
          filter_passes (is_final index) (take i core) (take (i + 1) core) x more (sym w.in_ok-is_final.ensures ∙ w.if-branch.true) in
          rw w.positions-is
          (need-pushed index (members_of c.args.positions.now.items k) old w.push.new.self.items cause (cause_in index (take (i + 1) core)) w.in-Need.place w.in-Need.number w.need_position.result k
          w.in_ok-push.ensures.items (grown ∙ ap (λ y. cause ++ y ∷ []) w.in-Need.is) w.need_position.ensures (c.loop-constraint.invariant k))
      | in-Need+in_ok-is_final+else-branch w ↦ λ k.
          let kept : cause_in index (take (i + 1) core) ≡ cause =
          filter_fails (is_final index) (take i core) (take (i + 1) core) x more (sym w.in_ok-is_final.ensures ∙ w.if-branch.false) in
          rw (w.positions-is, kept) (c.loop-constraint.invariant k)
      | in_default w ↦ λ k.
          rw w.positions-is
          (c.loop-constraint.invariant k
          ∙ ap (λ b. members_of c.args.positions.now.items k || b) (sym (need-passed index (take i core) (take (i + 1) core) x k more (no-need-from x w.in_default.not-Need))))
    ]
