use Rattle.std.proofs.Common.{◌≡◌, ℕ, ◌&&◌, List, Bool, not, eqb, get_or, map, sym, ◌∙◌, ap, subst}
use Rattle.number_sets.specs.Sets.{NumberSet, members_of}
use Rattle.sat_solve.specs.Rotation.{IsTrueBut}
use Rattle.deb_health.specs.Health.{AdmitsNone}
use Rattle.deb_groundwork.specs.Parts.{positions_in}
use Rattle.deb_verdict.specs.Formulas.{IsChosen}
use Rattle.deb_verdict.proofs.KnownLemmas.{spared}
use Rattle.deb_verdict.proofs.by_formula.list_needed.Goals as goal

pub returns : goal.returns
returns c = λ u is none.
    let part : NumberSet = positions_in c.args.part.now in
    let described = c.args.described.now in
    let positions : List ℕ = c.args.described.now.positions.items in
    let marks : List Bool = c.in_ok-marks.marks.now in
    let needed : List ℕ = c.take_marked.new.used.items in
    let keep_is : c.deref-3.result.now ≡ map part positions = c.deref-3.ensures.value ∙ (c.in_ok-mark_kept.ensures ∙ ap (map part) c.deref-2.ensures.value) in
    let Of : List ℕ → Type 0 = λ list. IsChosen list marks (members_of needed) in
    let chosen : IsChosen positions marks (members_of needed) = subst Of c.deref-5.ensures.value c.in_ok-take_marked.ensures in
    let at = (chosen u).0 is in
    let found = c.in_ok-marks.ensures.needed at.0 at.2 in
    c.requires.admitted (λ k. part k && not (eqb k (get_or positions at.0 0))) found.0
    (spared described.formula.vars described.formula.clauses described.must at.0 found.0 part positions at.1
    (subst (λ (keep : List Bool). IsTrueBut described.formula.vars described.formula.clauses keep described.must at.0 found.0) keep_is found.1))
    (subst (λ (n : ℕ). AdmitsNone c.args.part.now.index.now c.args.p (λ k. part k && not (eqb k n))) (sym at.3) none)
