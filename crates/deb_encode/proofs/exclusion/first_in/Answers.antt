use Rattle.std.proofs.Common.{sym, ◌∙◌, ap, inl, inr}
use Rattle.number_sets.specs.Sets.{members_of}
use Rattle.deb_encode.proofs.AddLemmas.{taken_either}
use Rattle.deb_encode.proofs.exclusion.first_in.Goals as goal

pub loop-place-preserved : goal.loop-place-preserved
loop-place-preserved c = λ q is_in.
    elim (taken_either c.args.places.now c.loop-place.place-index c.loop-place-test.true q is_in) [
      | inl before ↦ c.loop-place.invariant q before
      | inr here ↦ ap (members_of c.args.play.now.forced.now) (sym here) ∙ sym (c.if-contains.ensures)
    ]
