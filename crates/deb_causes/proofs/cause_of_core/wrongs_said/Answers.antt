use Rattle.std.proofs.Common.{◌≡◌, ◌<◌, ◌++◌, ◌∷◌, [], ◌∙◌, ℕ, List, ap, arith, false, get_or, length, map, sym, take, true, ◌+◌}
use Rattle.std.proofs.lemmas.Bool.{not-false, not-true}
use Rattle.std.proofs.lemmas.List.{take_more}
use Rattle.std.specs.List.{list_any}
use Rattle.std.specs.Str.{bytes_eq}
use Rattle.deb_index.specs.declared.constraint.Constraint.{Constraint}
use Rattle.deb_index.specs.declared.constraint.Constraint.TheVariants.{Essential}
use Rattle.deb_index.specs.Packages.{first_of_each}
use Rattle.deb_index.proofs.FirstLemmas.{any-map}
use Rattle.deb_health.specs.Causes.{cause_in, is_final}
use Rattle.number_sets.proofs.ListLemmas.{filter_fails, filter_passes}
use Rattle.deb_causes.specs.Causes.{says}
use Rattle.deb_causes.specs.Numbering.{texts_of, with_text}
use Rattle.deb_causes.proofs.CoreLemmas.{wrong-known, wrong-new}
use Rattle.deb_causes.proofs.NumberingLemmas.{keys-with}
use Rattle.deb_causes.proofs.cause_of_core.wrongs_said.Goals as goal
use Rattle.deb_causes.proofs.cause_of_core.wrongs_said.Goals.{then-branch+in_ok-says_of+in_ok-is_new+then-is_new+in_ok-push, then-branch+in_ok-says_of+in_ok-is_new+else-is_new, else-branch}

pub loop-constraint-init : goal.loop-constraint-init
unfolding first_of_each
loop-constraint-init c = record { said = ap (map (λ text. text.items)) c.requires.none ∙ sym (ap (map (says c.args.index.now)) c.new-wrongs.ensures.items); wrongs = c.new-wrongs.ensures.items }

pub loop-constraint-preserved : goal.loop-constraint-preserved
loop-constraint-preserved c =
    let index = c.args.index.now in
    let core = c.args.core.now in
    let i = c.loop-constraint.constraint-index in
    let inside : i < length core = omega arith in
    let x : Constraint = get_or core i (Essential 0) in
    let cause : List Constraint = cause_in index (take i core) in
    let wrongs : List Constraint = c.loop-constraint.wrongs.items in
    let keys = c.loop-constraint.said.keys in
    let texts : List (List ℕ) = texts_of c.loop-constraint.said in
    elim c.if-branch.branch [
      | then-branch+in_ok-says_of+in_ok-is_new+then-is_new+in_ok-push w ↦
          let key = w.in_ok-says_of.field-0 in
          let said : key.items ≡ says index x = w.in_ok-says_of.ensures in
          let new : List (List ℕ) = texts_of w.insert.new.self in
          let step : cause_in index (take (i + 1) core) ≡ cause ++ x ∷ [] =
          filter_passes (is_final index) (take i core) (take (i + 1) core) x (take_more core i (Essential 0) inside) (sym c.in_ok-is_final.ensures ∙ w.if-branch.true) in
          let grown : new ≡ with_text texts (says index x) =
          ap (map (λ text. text.items)) w.in_ok-is_new.ensures.keys ∙ keys-with (λ text. text.items) keys key ∙ ap (with_text texts) said in
          let absent : list_any (bytes_eq (says index x)) texts ≡ false =
          ap (λ text. list_any (bytes_eq text) texts) (sym said) ∙ any-map (bytes_eq key.items) (λ text. text.items) keys ∙ not-true _ (sym w.in_ok-is_new.ensures.added ∙ w.if-is_new.true) in
          let both = wrong-new index cause (cause_in index (take (i + 1) core)) wrongs x texts new step c.loop-constraint.invariant.wrongs c.loop-constraint.invariant.said grown absent in
          rw (w.said-is, w.wrongs-is, w.in_ok-push.ensures.items) (record { said = both.0; wrongs = both.1 })
      | then-branch+in_ok-says_of+in_ok-is_new+else-is_new w ↦
          let key = w.in_ok-says_of.field-0 in
          let said : key.items ≡ says index x = w.in_ok-says_of.ensures in
          let new : List (List ℕ) = texts_of w.insert.new.self in
          let step : cause_in index (take (i + 1) core) ≡ cause ++ x ∷ [] =
          filter_passes (is_final index) (take i core) (take (i + 1) core) x (take_more core i (Essential 0) inside) (sym c.in_ok-is_final.ensures ∙ w.if-branch.true) in
          let grown : new ≡ with_text texts (says index x) =
          ap (map (λ text. text.items)) w.in_ok-is_new.ensures.keys ∙ keys-with (λ text. text.items) keys key ∙ ap (with_text texts) said in
          let there : list_any (bytes_eq (says index x)) texts ≡ true =
          ap (λ text. list_any (bytes_eq text) texts) (sym said) ∙ any-map (bytes_eq key.items) (λ text. text.items) keys ∙ not-false _ (sym w.in_ok-is_new.ensures.added ∙ w.if-is_new.false) in
          let both = wrong-known index cause (cause_in index (take (i + 1) core)) wrongs x texts new step c.loop-constraint.invariant.wrongs c.loop-constraint.invariant.said grown there in
          rw (w.said-is, w.wrongs-is) (record { said = both.0; wrongs = both.1 })
      | else-branch w ↦
          let step : cause_in index (take (i + 1) core) ≡ cause =
          filter_fails (is_final index) (take i core) (take (i + 1) core) x (take_more core i (Essential 0) inside) (sym c.in_ok-is_final.ensures ∙ w.if-branch.false) in
          rw (w.said-is, w.wrongs-is, step) c.loop-constraint.invariant
    ]
