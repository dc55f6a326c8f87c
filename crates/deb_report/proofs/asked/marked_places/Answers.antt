use Rattle.std.proofs.Common.{◌≡◌, ◌<◌, ◌++◌, ◌∙◌, [], ◌∷◌, ap, arith, false, get_or, length, rules, sym, take, true}
use Rattle.std.proofs.lemmas.List.{take_all}
use Rattle.deb_index.proofs.MemberLemmas.{where_from}
use Rattle.number_sets.proofs.PlaceLemmas.{marked_more, places_from, unmarked_more}
use Rattle.deb_report.proofs.asked.marked_places.Goals as goal
use Rattle.deb_report.proofs.asked.marked_places.Goals.{then-mark+in_ok-push, else-mark}

pub loop-place-preserved : goal.loop-place-preserved
loop-place-preserved c =
    let inside : c.loop-place.place < length c.args.marks.now = omega arith in
    elim c.if-mark.branch [
      | then-mark+in_ok-push w ↦
          let set : get_or c.args.marks.now c.loop-place.place false ≡ true = search rules in
          let step : c.if-mark.places.items ≡ c.loop-place.places.items ++ c.loop-place.place ∷ [] = search rules in
          marked_more c.args.marks.now c.loop-place.place _ _ inside c.loop-place.invariant set step
      | else-mark w ↦
          let unset : get_or c.args.marks.now c.loop-place.place false ≡ false = search rules in
          rw w.places-is (unmarked_more c.args.marks.now c.loop-place.place _ inside c.loop-place.invariant unset)
    ]

pub returns : goal.returns
returns c =
    let whole : take c.loop-place.place c.args.marks.now ≡ c.args.marks.now = take_all _ _ (omega arith) in
    c.loop-place.invariant ∙ ap (places_from (λ mark. mark) 0) whole ∙ sym (where_from (λ mark. mark) c.args.marks.now)
