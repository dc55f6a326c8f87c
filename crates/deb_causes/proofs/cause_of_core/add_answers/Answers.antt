use Rattle.std.proofs.Common.{◌<◌, ◌∙◌, ◌||◌, ℕ, List, ap, arith, get_or, length, sym, take}
use Rattle.std.specs.List.{list_any}
use Rattle.std.proofs.lemmas.List.Folds.{list_any_more}
use Rattle.deb_index.specs.declared.constraint.Constraint.{Constraint}
use Rattle.deb_index.specs.declared.constraint.Constraint.TheVariants.{Essential}
use Rattle.number_sets.specs.Sets.{members_of}
use Rattle.number_sets.proofs.ListLemmas.{or_assoc, or_false}
use Rattle.deb_causes.specs.Causes.{is_answer_to}
use Rattle.deb_causes.proofs.CoreLemmas.{answer-added, no-answer, no-need-from}
use Rattle.deb_causes.proofs.cause_of_core.add_answers.Goals as goal
use Rattle.deb_causes.proofs.cause_of_core.add_answers.Goals.{in-Need+in_ok-answers+in_ok-extend, in_default}

pub loop-constraint-preserved : goal.loop-constraint-preserved
loop-constraint-preserved c =
    let index = c.args.index.now in
    let core = c.args.core.now in
    let i = c.loop-constraint.constraint-index in
    let inside : i < length core = omega arith in
    let x : Constraint = get_or core i (Essential 0) in
    let first : List ℕ = c.args.answering.now in
    let old : List ℕ = c.loop-constraint.answering in
    elim c.match-constraint.branch [
      | in-Need+in_ok-answers+in_ok-extend w ↦ λ q.
          rw w.answering-is
          (answer-added index w.in-Need.place w.in-Need.number q old w.extend.new.self w.in_ok-answers.field-0.now w.in_ok-answers.ensures w.in_ok-extend.ensures.grows w.in_ok-extend.ensures.has w.in_ok-extend.ensures.only
          ∙ ap (λ y. members_of old q || is_answer_to index q y) (sym w.in-Need.is)
          ∙ ap (λ b. b || is_answer_to index q x) (c.loop-constraint.invariant q)
          ∙ or_assoc (members_of first q) (list_any (is_answer_to index q) (take i core)) (is_answer_to index q x)
          ∙ ap (λ b. members_of first q || b) (sym (list_any_more (is_answer_to index q) core i (Essential 0) inside)))
      | in_default w ↦ λ q.
          rw w.answering-is
          (c.loop-constraint.invariant q
          ∙ ap (λ b. members_of first q || b)
          (sym (list_any_more (is_answer_to index q) core i (Essential 0) inside ∙ ap (λ b. list_any (is_answer_to index q) (take i core) || b) (no-answer index q x (no-need-from x w.in_default.not-Need))
          ∙ or_false (list_any (is_answer_to index q) (take i core)))))
    ]
