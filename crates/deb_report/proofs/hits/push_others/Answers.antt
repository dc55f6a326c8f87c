use Rattle.std.proofs.Common.{◌≡◌, ◌==◌, ◌<◌, ◌++◌, ◌∷◌, [], ◌∙◌, ℕ, Bool, ap, append_assoc, arith, false, filter, get_or, length, not, sym, take, true}
use Rattle.std.proofs.lemmas.Bool.{eq-eqb, ne_eqb}
use Rattle.std.proofs.lemmas.List.{take_all, take_more}
use Rattle.number_sets.proofs.ListLemmas.{filter_fails, filter_passes}
use Rattle.deb_report.proofs.hits.push_others.Goals as goal
use Rattle.deb_report.proofs.hits.push_others.Goals.{then-place-own+in_ok-push, else-place-own}

pub loop-place-preserved : goal.loop-place-preserved
loop-place-preserved c =
    let places = c.args.places.now in
    let start = c.args.hits.now.items in
    let test : ℕ → Bool = λ place. not (place == c.args.own) in
    let i = c.loop-place.place-index in
    let before = take i places in
    let place = get_or places i 0 in
    let inside : i < length places = omega arith in
    let more = take_more places i 0 inside in
    elim c.if-place-own.branch [
      | then-place-own+in_ok-push w ↦
          let passes : test place ≡ true = ap not (ne_eqb place c.args.own w.if-place-own.true) in
          rw w.hits-is (w.in_ok-push.ensures.items ∙ ap (λ front. front ++ place ∷ []) c.loop-place.invariant ∙ append_assoc start _ (place ∷ [])
          ∙ ap (λ back. start ++ back) (sym (filter_passes test before _ place more passes)))
      | else-place-own w ↦
          let fails : test place ≡ false = ap not (eq-eqb place c.args.own w.if-place-own.false) in
          rw w.hits-is (c.loop-place.invariant ∙ ap (λ back. start ++ back) (sym (filter_fails test before _ place more fails)))
    ]

pub returns : goal.returns
returns c =
    c.loop-place.invariant ∙ ap (λ all. c.args.hits.now.items ++ filter (λ place. not (place == c.args.own)) all) (take_all _ _ (omega (arith, c.loop-place-test.false)))
