use Rattle.std.proofs.Common.{◌≡◌, ◌<◌, ◌∙◌, ◌||◌, [], Bor, List, ap, arith, false, get_or, length, map, sym, take}
use Rattle.std.specs.List.{list_any}
use Rattle.std.proofs.lemmas.Bool.{and_left}
use Rattle.std.proofs.lemmas.List.{get_or_default, take_all}
use Rattle.deb_index.specs.declared.constraint.Constraint.{Constraint}
use Rattle.number_sets.proofs.ListLemmas.{any_more, or_false}
use Rattle.deb_causes.specs.Causes.{is_answer_to, is_version_in, is_version_of}
use Rattle.deb_causes.proofs.CoreLemmas.{no-versions, version-in, versions-are}
use Rattle.deb_causes.proofs.cause_of_core.versions_in.Goals as goal
use Rattle.deb_causes.proofs.cause_of_core.versions_in.Goals.{then-has_only+in_ok-add_answers+in_ok-push_versions, else-has_only}

pub loop-core-preserved : goal.loop-core-preserved
loop-core-preserved c =
    let index = c.args.index.now in
    let cores = c.args.cores.now in
    let i = c.loop-core.core-index in
    let inside : i < length cores = omega arith in
    let none : Bor (List Constraint) = record { ref_ptr = (0, 0); now = [] } in
    let x : Bor (List Constraint) = get_or cores i none in
    let same : x ≡ get_or cores i x = get_or_default cores i none x inside in
    let front : List (List Constraint) = map (λ (core : Bor (List Constraint)). core.now) (take i cores) in
    elim c.if-has_only.branch [
      | then-has_only+in_ok-add_answers+in_ok-push_versions w ↦ λ q.
          rw w.versions-is
          (version-in index q x.now (list_any (is_version_in index q) front) w.clear.new.self w.add_answers.new.answering c.loop-core.versions.items w.push_versions.new.versions.items
          w.clear.ensures (w.in_ok-add_answers.ensures q) (w.in_ok-push_versions.ensures q) (c.loop-core.invariant q)
          ∙ sym (any_more (is_version_in index q) (λ (core : Bor (List Constraint)). core.now) cores i x inside same))
      | else-has_only w ↦ λ q.
          let fails : is_version_in index q x.now ≡ false =
          and_left (list_any (is_version_of index q) x.now) (list_any (is_answer_to index q) x.now) (no-versions index q x.now (sym c.has_only.ensures ∙ w.if-has_only.false)) in
          rw w.versions-is
          (c.loop-core.invariant q
          ∙ sym (any_more (is_version_in index q) (λ (core : Bor (List Constraint)). core.now) cores i x inside same
          ∙ ap (λ b. list_any (is_version_in index q) front || b) fails
          ∙ or_false (list_any (is_version_in index q) front)))
    ]

pub returns : goal.returns
returns c =
    let whole : take c.loop-core.core-index c.args.cores.now ≡ c.args.cores.now = take_all _ _ (omega arith) in
    versions-are c.args.index.now (map (λ (core : Bor (List Constraint)). core.now) c.args.cores.now) c.sort_once.new.numbers.items c.sort_once.ensures.rising
    (λ q. c.sort_once.ensures.same q ∙ c.loop-core.invariant q ∙ ap (λ cores. list_any (is_version_in c.args.index.now q) (map (λ (core : Bor (List Constraint)). core.now) cores)) whole)
