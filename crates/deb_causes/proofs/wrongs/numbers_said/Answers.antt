use Rattle.std.proofs.Common.{◌≡◌, ◌∙◌, ◌<◌, ◌++◌, ◌∷◌, [], ℕ, List, Some, arith, ap, ap₂, get_or, length, map, subst, sym, take, ◌+◌}
use Rattle.std.proofs.lemmas.List.{map-append, take_more}
use Rattle.deb_index.specs.declared.constraint.Constraint.{Constraint}
use Rattle.deb_index.specs.declared.constraint.Constraint.TheVariants.{Essential}
use Rattle.deb_index.specs.Tables.{number_in}
use Rattle.deb_health.specs.Causes.{cause_in, is_final}
use Rattle.number_sets.proofs.ListLemmas.{filter_fails, filter_passes}
use Rattle.deb_causes.specs.Causes.{says}
use Rattle.deb_causes.specs.Numbering.{Grows, texts_of, with_text}
use Rattle.deb_causes.specs.Wrongs.{number_said}
use Rattle.deb_causes.proofs.NumberingLemmas.{grows-more, grows-one, number-kept}
use Rattle.deb_causes.proofs.wrongs.numbers_said.Goals as goal
use Rattle.deb_causes.proofs.wrongs.numbers_said.Goals.{then-branch+in_ok-text+in_ok-number_of+in_ok-push, else-branch}

pub loop-constraint-preserved : goal.loop-constraint-preserved
loop-constraint-preserved c =
    let index = c.args.index.now in
    let core = c.args.core.now in
    let i = c.loop-constraint.constraint-index in
    let inside : i < length core = omega arith in
    let x : Constraint = get_or core i (Essential 0) in
    let cause : List Constraint = cause_in index (take i core) in
    let first : List (List ℕ) = texts_of c.args.said.now in
    let old : List (List ℕ) = texts_of c.loop-constraint.said in
    elim c.if-branch.branch [
      | then-branch+in_ok-text+in_ok-number_of+in_ok-push w ↦
          let new : List (List ℕ) = texts_of w.number_of.new.texts in
          let n : ℕ = w.in_ok-number_of.field-0 in
          let said : w.in_ok-text.text.items ≡ says index x = w.in_ok-text.ensures in
          let step : cause_in index (take (i + 1) core) ≡ cause ++ x ∷ [] =
          filter_passes (is_final index) (take i core) (take (i + 1) core) x (take_more core i (Essential 0) inside) (sym c.in_ok-is_final.ensures ∙ w.if-branch.true) in
          let one : Grows old new (says index x ∷ []) = grows-one old new (says index x) (w.in_ok-number_of.ensures.texts ∙ ap (with_text old) said) in
          let grown : Grows first new (map (says index) (cause ++ x ∷ [])) =
          subst (λ added. Grows first new added) (sym (map-append (says index) cause (x ∷ []))) (grows-more first old new (map (says index) cause) (says index x ∷ []) c.loop-constraint.invariant.grown one) in
          rw (w.said-is, w.numbers-is, step)
          (record {
            grown = grown;
            numbers = λ texts begins.
                ap (map (λ (m : ℕ). Some m)) w.in_ok-push.ensures.items
                ∙ map-append (λ (m : ℕ). Some m) c.loop-constraint.numbers.items (n ∷ [])
                ∙ ap₂ (λ front last. front ++ last ∷ []) (c.loop-constraint.invariant.numbers texts (one.front texts begins)) (sym (number-kept (says index x) new texts n (ap (λ text. number_in text new) (sym said) ∙ w.in_ok-number_of.ensures.number) begins))
                ∙ sym (map-append (number_said index texts) cause (x ∷ []));
          })
      | else-branch w ↦
          let step : cause_in index (take (i + 1) core) ≡ cause =
          filter_fails (is_final index) (take i core) (take (i + 1) core) x (take_more core i (Essential 0) inside) (sym c.in_ok-is_final.ensures ∙ w.if-branch.false) in
          rw (w.said-is, w.numbers-is, step) c.loop-constraint.invariant
    ]
