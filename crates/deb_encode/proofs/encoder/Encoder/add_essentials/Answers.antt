use Rattle.std.proofs.Common.{◌≡◌, ℕ, List, true, ◌<◌, length, refl, sym, subst, get_or}
use Rattle.deb_index.specs.declared.constraint.Constraint.TheVariants.{Essential}
use Rattle.deb_index.specs.Constraints.{Holds}
use Rattle.number_sets.specs.Sets.{members_of}
use Rattle.deb_encode.specs.Encoders.{Tells}
use Rattle.deb_encode.proofs.EncoderLemmas.{tells_as}
use Rattle.deb_index.specs.Packages.{names, essential_names}
use Rattle.deb_index.proofs.IndexFacts.{essential_below}
use Rattle.deb_encode.specs.declared.play.Play.{Play}
use Rattle.deb_encode.proofs.AddLemmas.{below_moved}
use Rattle.deb_encode.proofs.Each.{each_none, each_more, each_whole}
use Rattle.deb_encode.proofs.encoder.Encoder.add_essentials.Goals as goal

pub loop-name-init : goal.loop-name-init
loop-name-init c = each_none _ c.args.self.now

pub add_essential-requires : goal.add_essential-requires
add_essential-requires c =
    let HasIt : Play → Type 0 = λ play. get_or c.essential_names-name-items.result.now c.loop-name.name-index 0 < length (names play.index.now) in
    subst HasIt (sym c.loop-name.invariant.same.play)
    (below_moved c.essential_names-name-items.result.now (essential_names c.args.self.now.play.index.now) (length (names c.args.self.now.play.index.now)) (length (names c.args.self.now.play.index.now))
    c.essential_names-name-items.ensures refl (essential_below c.args.self.now.play.index.now) c.loop-name.name-index 0 c.loop-name-test.true)

pub loop-name-preserved : goal.loop-name-preserved
loop-name-preserved c =
    each_more _ c.essential_names-name-items.result.now c.loop-name.name-index _ c.args.self.now c.loop-name.self c.add_essential.new.self c.loop-name-test.true refl c.loop-name.invariant c.in_ok-add_essential.ensures

pub returns : goal.returns
returns c =
    let For : List ℕ → Type 0 = λ list. Tells (λ play set. (q : ℕ) → members_of list q ≡ true → Holds play.index.now set (Essential q)) c.args.self.now c.loop-name.self in
    tells_as _ _ c.args.self.now c.loop-name.self (λ vars. (λ all. all, λ all. all))
    (subst For c.essential_names-name-items.ensures (each_whole _ c.essential_names-name-items.result.now c.loop-name.name-index c.args.self.now c.loop-name.self c.loop-name-test.false c.loop-name.invariant))
