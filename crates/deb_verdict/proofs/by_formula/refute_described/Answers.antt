use Rattle.std.proofs.Common.{◌≡◌, ℕ, List, Bool, Option, None, Vec, Global, map, sym, ◌∙◌, ap, subst}
use Rattle.std.specs.Prelude.{IfSome, IfNone}
use Rattle.number_sets.specs.Sets.{NumberSet, members_of, IsFirst}
use Rattle.sat_solve.specs.Clauses.{IsTrueSet, AreWithin}
use Rattle.deb_verdict.specs.Formulas.{IsChosen}
use Rattle.deb_groundwork.specs.Parts.{positions_in}
use Rattle.deb_verdict.proofs.Settled.{kept_has}
use Rattle.deb_verdict.proofs.by_formula.refute_described.Goals as goal

none_there : {T : Type 0} (o : Option T) (Q : Type 0) → o ≡ None → IfNone o Q → Q
none_there o Q is holds = subst (λ found. IfNone found Q) is holds

pub returns-in-Some-clause-admitted : goal.returns-in-Some-clause-admitted
returns-in-Some-clause-admitted c = λ is.
    let part : NumberSet = positions_in c.args.part.now in
    let positions : List ℕ = c.args.described.now.positions.items in
    let keep_is : c.deref-2.result.now ≡ map part positions = c.deref-2.ensures.value ∙ (c.in_ok-mark_kept.ensures ∙ ap (map part) c.deref.ensures.value) in
    let IsOne : List Bool → Type 0 = λ keep. IsTrueSet c.args.described.now.formula.vars c.args.described.now.formula.clauses keep c.args.described.now.must (members_of c.in-Some.set.items) in
    let IsFound : Option (Vec ℕ Global) → Type 0 = λ found. IfSome found (λ members. IsFirst (IsTrueSet c.args.described.now.formula.vars c.args.described.now.formula.clauses c.deref-2.result.now c.args.described.now.must) (members_of members.items)) in
    c.requires.admitted part (members_of c.in-Some.set.items) (subst IsOne keep_is ((subst IsFound c.in-Some.is c.in_ok-found.ensures.first).0))

pub returns-clause-refuted : goal.returns-clause-refuted
returns-clause-refuted c = λ is.
    let part : NumberSet = positions_in c.args.part.now in
    let positions : List ℕ = c.args.described.now.positions.items in
    let marks : List Bool = c.solve_marked.new.marks.items in
    let used : List ℕ = c.take_marked.new.used.items in
    let keep_is : c.deref-2.result.now ≡ map part positions = c.deref-2.ensures.value ∙ (c.in_ok-mark_kept.ensures ∙ ap (map part) c.deref.ensures.value) in
    let none : c.in_ok-found.found ≡ None = c.in_default.is in
    let Of : List ℕ → Type 0 = λ list. IsChosen list c.deref-4.result.now (members_of used) in
    let By : List Bool → Type 0 = λ list. IsChosen positions list (members_of used) in
    let chosen : IsChosen positions marks (members_of used) = subst By c.deref-4.ensures.value (subst Of c.deref-3.ensures.value c.in_ok-take_marked.ensures) in
    let Kept : List Bool → Type 0 = λ keep. AreWithin marks keep in
    let kept : AreWithin marks (map part positions) = subst Kept keep_is (none_there c.in_ok-found.found _ none c.in_ok-found.ensures.kept) in
    record {
      within = λ k is_used.
          (let at = (chosen k).0 is_used in
          sym (ap part at.3) ∙ kept_has part positions at.0 at.1 (kept at.0 at.2));
      fails = c.requires.refuted marks (members_of used) chosen (none_there c.in_ok-found.found _ none c.in_ok-found.ensures.marked);
    }
