use Rattle.std.proofs.Common.{◌<◌, ◌∙◌, ◌||◌, ◌&&◌, ℕ, List, ap, arith, get_or, length, sym, take}
use Rattle.std.specs.List.{list_any}
use Rattle.std.proofs.lemmas.List.Folds.{list_any_more}
use Rattle.deb_index.specs.declared.constraint.Constraint.{Constraint}
use Rattle.deb_index.specs.declared.constraint.Constraint.TheVariants.{Essential}
use Rattle.number_sets.specs.Sets.{members_of}
use Rattle.number_sets.proofs.ListLemmas.{or_false}
use Rattle.deb_causes.specs.Causes.{is_version_of}
use Rattle.deb_causes.proofs.CoreLemmas.{no-only-from, no-version, version-added}
use Rattle.deb_causes.proofs.cause_of_core.push_versions.Goals as goal
use Rattle.deb_causes.proofs.cause_of_core.push_versions.Goals.{in-Only+in_ok-push_among, in_default}

pub loop-constraint-preserved : goal.loop-constraint-preserved
loop-constraint-preserved c =
    let index = c.args.index.now in
    let core = c.args.core.now in
    let i = c.loop-constraint.constraint-index in
    let inside : i < length core = omega arith in
    let x : Constraint = get_or core i (Essential 0) in
    let answering : List ℕ = c.args.answering.now in
    let first : List ℕ = c.args.versions.now.items in
    elim c.match-constraint.branch [
      | in-Only+in_ok-push_among w ↦ λ q.
          let before = list_any (is_version_of index q) (take i core) in
          rw w.versions-is
          (version-added index w.in-Only.name q w.places_named.result.now (members_of first q) (members_of answering q) before c.loop-constraint.versions.items w.push_among.new.versions.items
          w.places_named.ensures (w.in_ok-push_among.ensures q) (c.loop-constraint.invariant q)
          ∙ ap (λ y. members_of first q || (members_of answering q && (before || is_version_of index q y))) (sym w.in-Only.is)
          ∙ ap (λ b. members_of first q || (members_of answering q && b)) (sym (list_any_more (is_version_of index q) core i (Essential 0) inside)))
      | in_default w ↦ λ q.
          rw w.versions-is
          (c.loop-constraint.invariant q
          ∙ ap (λ b. members_of first q || (members_of answering q && b))
          (sym (list_any_more (is_version_of index q) core i (Essential 0) inside ∙ ap (λ b. list_any (is_version_of index q) (take i core) || b) (no-version index q x (no-only-from x w.in_default.not-Only))
          ∙ or_false (list_any (is_version_of index q) (take i core)))))
    ]
