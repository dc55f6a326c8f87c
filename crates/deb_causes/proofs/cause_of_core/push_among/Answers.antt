use Rattle.std.proofs.Common.{◌≡◌, ◌==◌, ◌&&◌, ◌||◌, ◌<◌, ◌∷◌, [], ◌∙◌, Bool, ap, arith, false, get_or, length, refl, subst, sym, take, true}
use Rattle.std.proofs.lemmas.Bool.{eqb-true, false≢true}
use Rattle.std.proofs.lemmas.List.Folds.{list_any-append}
use Rattle.number_sets.specs.Sets.{members_of}
use Rattle.number_sets.proofs.ListLemmas.{or_false}
use Rattle.number_sets.proofs.MembersLemmas.{members-more}
use Rattle.deb_causes.proofs.cause_of_core.push_among.Goals as goal
use Rattle.deb_causes.proofs.cause_of_core.push_among.Goals.{then-contains+in_ok-push, else-contains}

-- one more of the places, which answers, and one which doesn't
with_answer : (first answers before here : Bool) → (here ≡ true → answers ≡ true) → ((first || (answers && before)) || here) ≡ (first || (answers && (before || here)))
with_answer true answers before here is = refl
with_answer false true before here is = refl
with_answer false false before true is = absurd (false≢true (is refl))
with_answer false false before false is = refl

with_other : (first answers before here : Bool) → (here ≡ true → answers ≡ false) → (first || (answers && before)) ≡ (first || (answers && (before || here)))
with_other true answers before here is = refl
with_other false false before here is = refl
with_other false true before true is = absurd (false≢true (sym (is refl)))
with_other false true before false is = sym (or_false before)

pub loop-place-preserved : goal.loop-place-preserved
loop-place-preserved c =
    let places = c.args.places.now in
    let answering = c.args.answering.now in
    let i = c.loop-place.place-index in
    let place = get_or places i 0 in
    let inside : i < length places = omega arith in
    let old = c.args.versions.now.items in
    let before = take i places in
    elim c.if-contains.branch [
      | then-contains+in_ok-push w ↦
          let has : members_of answering place ≡ true = sym c.contains.ensures ∙ w.if-contains.true in
          rw w.versions-is (λ q.
          ap (λ numbers. members_of numbers q) w.in_ok-push.ensures.items
          ∙ list_any-append (λ member. member == q) c.loop-place.versions.items (place ∷ [])
          ∙ ap (λ last. members_of c.loop-place.versions.items q || last) (or_false (place == q))
          ∙ ap (λ front. front || (place == q)) (c.loop-place.invariant q)
          ∙ with_answer (members_of old q) (members_of answering q) (members_of before q) (place == q) (λ same. subst (λ k. members_of answering k ≡ true) (eqb-true place q same) has)
          ∙ ap (λ back. members_of old q || (members_of answering q && back)) (sym (members-more places i q inside)))
      | else-contains w ↦
          let lacks : members_of answering place ≡ false = sym c.contains.ensures ∙ w.if-contains.false in
          rw w.versions-is (λ q.
          c.loop-place.invariant q
          ∙ with_other (members_of old q) (members_of answering q) (members_of before q) (place == q) (λ same. subst (λ k. members_of answering k ≡ false) (eqb-true place q same) lacks)
          ∙ ap (λ back. members_of old q || (members_of answering q && back)) (sym (members-more places i q inside)))
    ]
