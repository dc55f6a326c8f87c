use Rattle.std.proofs.Common.{◌≡◌, ◌∙◌, ap, List, ℕ, length, [], refl, sym, inl, inr}
use Rattle.std.proofs.lemmas.Bool.{false≢true}
use Rattle.number_sets.specs.Sets.{members_of, IsWithin, with_number}
use Rattle.number_sets.proofs.Placing.{numbers_first, with_number_only}
use Rattle.deb_verdict.specs.declared.gather.Candidates.{Candidates}
use Rattle.deb_verdict.proofs.GatherLemmas.{gathered}
use Rattle.deb_verdict.proofs.gather.Candidates.gather.Goals as goal

pub visit_candidates-requires : goal.visit_candidates-requires
visit_candidates-requires c =
    let first : c.insert.new.self ≡ with_number [] c.args.p = c.in_ok-insert.ensures ∙ ap (λ (list : List ℕ). with_number list c.args.p) c.clear.ensures in
    c.in_ok-visit_forced.ensures.gathers.grows.places (c.in_ok-bring_essentials.ensures.grows.places (numbers_first (length c.args.ground.now.index.now.packages) c.args.p c.insert.new.self c.requires first))

pub returns-clause-gathered : goal.returns-clause-gathered
returns-clause-gathered c =
    let count : ℕ = length c.args.ground.now.index.now.packages in
    let first : c.insert.new.self ≡ with_number [] c.args.p = c.in_ok-insert.ensures ∙ ap (λ (list : List ℕ). with_number list c.args.p) c.clear.ensures in
    let start : Candidates = record { places = c.insert.new.self; unmet = c.clear-2.new.self; found = c.args.self.now.found } in
    gathered c.args.ground.now.index.now c.args.ground.now.forced.now start c.bring_essentials.new.self c.visit_forced.new.self c.visit_candidates.new.self _
    c.clear-2.ensures.items c.in_ok-bring_essentials.ensures.unmet (c.in_ok-bring_essentials.ensures.grows.places (numbers_first count c.args.p c.insert.new.self c.requires first))
    c.in_ok-bring_essentials.ensures.names c.in_ok-visit_forced.ensures.gathers c.in_ok-visit_candidates.ensures.gathers c.sort.ensures.rising c.sort.ensures.same refl

pub returns-clause-least : goal.returns-clause-least
returns-clause-least c = λ other closed within q is_in.
    let none : IsWithin (members_of []) other = λ r never. absurd (false≢true never) in
    let first : IsWithin (members_of c.insert.new.self) other =
    λ r there.
    let same : c.insert.new.self ≡ with_number [] c.args.p = c.in_ok-insert.ensures ∙ ap (λ (list : List ℕ). with_number list c.args.p) c.clear.ensures in
    elim (with_number_only [] c.args.p r (ap (λ list. members_of list r) (sym same) ∙ there)) [
      | inl never ↦ absurd (false≢true never)
      | inr here ↦ ap other (sym here) ∙ closed.start
    ] in
    c.in_ok-visit_candidates.ensures.reaches c.args.p other closed none
    (c.in_ok-visit_forced.ensures.reaches c.args.p other closed within (c.in_ok-bring_essentials.ensures.reaches c.args.p other closed none first)) q (sym (c.sort.ensures.same q) ∙ is_in)
