use Rattle.std.proofs.Common.{◌≡◌, ◌∙◌, ◌+◌, ℕ, List, [], ◌∷◌, ◌++◌, drop, ap, subst₂, subst, sym}
use Rattle.std.proofs.lemmas.List.{take_rest}
use Rattle.memchr.specs.Find.{OccursAt}
use Rattle.deb_control.specs.Stanzas.{IsClosed, stanzas_of}
use Rattle.deb_control.proofs.CutLemmas.{found-closed, found-cut, stanzas-uncut}
use Rattle.deb_control.proofs.cut.cut_behind_blank.Goals as goal

-- the search from a byte on found two line feeds
found : (text rest needle : List ℕ) (from place : ℕ) → rest ≡ drop from text → needle ≡ 10 ∷ 10 ∷ [] → OccursAt rest needle place → OccursAt (drop from text) (10 ∷ 10 ∷ []) place
found text rest needle from place behind feeds at = subst₂ (λ (hay sought : List ℕ). OccursAt hay sought place) behind feeds at

pub returns-in-Some-clause-stanzas : goal.returns-in-Some-clause-stanzas
returns-in-Some-clause-stanzas c =
    let text = c.args.text.now in
    let from = c.args.from in
    let k = c.in-Some.place in
    let at = found text _ _ from k (take_rest text from) c.as_slice.ensures c.in-Some.ensures.1 in
    found-cut text from k at ∙ ap (λ (front : List ℕ). stanzas_of front ++ stanzas_of (drop (from + k + 2) text)) (sym c.split_at.ensures.front)
    ∙ ap (λ (back : List ℕ). stanzas_of c.split_at.result.0.now ++ stanzas_of back) (sym c.split_at.ensures.back)

pub returns-in-None-clause-stanzas : goal.returns-in-None-clause-stanzas
returns-in-None-clause-stanzas c = stanzas-uncut c.args.text.now

pub returns-in-Some-clause-closed : goal.returns-in-Some-clause-closed
returns-in-Some-clause-closed c = λ some.
    let text = c.args.text.now in
    let from = c.args.from in
    let k = c.in-Some.place in
    let at = found text _ _ from k (take_rest text from) c.as_slice.ensures c.in-Some.ensures.1 in
    subst (λ (front : List ℕ). IsClosed front) (sym c.split_at.ensures.front) (found-closed text from k at)
