use Rattle.std.proofs.Common.{◌≡◌, ℕ, List, true, ◌<◌, length, refl, sym, subst, get_or}
use Rattle.deb_index.specs.declared.constraint.Constraint.TheVariants.{Only}
use Rattle.deb_index.specs.Constraints.{Holds}
use Rattle.number_sets.specs.Sets.{members_of}
use Rattle.deb_index.specs.Packages.{names}
use Rattle.deb_encode.specs.declared.play.Play.{Play}
use Rattle.deb_encode.specs.Play.{placed}
use Rattle.deb_encode.specs.Encoders.{Tells, in_play}
use Rattle.deb_encode.proofs.AddLemmas.{below_moved}
use Rattle.deb_encode.proofs.EncoderLemmas.{tells_as}
use Rattle.deb_encode.proofs.Each.{each_none, each_more, each_whole}
use Rattle.deb_encode.proofs.OneVersion.{names_say}
use Rattle.deb_encode.proofs.encoder.Encoder.add_versions.Goals as goal

pub loop-name-init : goal.loop-name-init
loop-name-init c = each_none _ c.args.self.now

pub add_only-requires : goal.add_only-requires
add_only-requires c =
    let HasIt : Play → Type 0 = λ play. get_or c.as_slice-name-items.result.now c.loop-name.name-index 0 < length (names play.index.now) in
    subst HasIt (sym c.loop-name.invariant.same.play)
    (below_moved c.as_slice-name-items.result.now c.list_names.new.found (length (names c.args.self.now.play.index.now)) (length (names c.args.self.now.play.index.now)) c.as_slice-name-items.ensures refl c.in_ok-list_names.ensures.below c.loop-name.name-index 0 c.loop-name-test.true)

pub loop-name-preserved : goal.loop-name-preserved
loop-name-preserved c =
    each_more _ c.as_slice-name-items.result.now c.loop-name.name-index _ c.args.self.now c.loop-name.self c.add_only.new.self c.loop-name-test.true refl c.loop-name.invariant c.in_ok-add_only.ensures

pub returns : goal.returns
returns c =
    let For : List ℕ → Type 0 = λ list. Tells (λ play set. (q : ℕ) → members_of list q ≡ true → Holds play.index.now set (Only q)) c.args.self.now c.loop-name.self in
    tells_as _ _ c.args.self.now c.loop-name.self (λ vars. names_say c.args.self.now.play.index.now (in_play c.args.self.now.play) c.list_names.new.found (placed c.args.self.now.play.forced.now c.args.self.now.play.candidates.now vars) c.in_ok-list_names.ensures)
    (subst For c.as_slice-name-items.ensures (each_whole _ c.as_slice-name-items.result.now c.loop-name.name-index c.args.self.now c.loop-name.self c.loop-name-test.false c.loop-name.invariant))
