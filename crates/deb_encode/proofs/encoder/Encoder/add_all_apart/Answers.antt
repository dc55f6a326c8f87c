use Rattle.std.proofs.Common.{sym, ◌∙◌, ap}
use Rattle.std.proofs.lemmas.Bool.{or_left, both_ways}
use Rattle.std.proofs.lemmas.Result.{on_ok_weaker}
use Rattle.number_sets.specs.Sets.{members_of, positions_of}
use Rattle.deb_encode.specs.Play.{placed}
use Rattle.deb_encode.proofs.EncoderLemmas.{tells_as, tells_both}
use Rattle.deb_encode.proofs.Excluding.{owner_alone, owner_both, place_alone}
use Rattle.deb_encode.proofs.encoder.Encoder.add_all_apart.Goals as goal

pub returns-then-not-contains : goal.returns-then-not-contains
returns-then-not-contains c =
    tells_as _ _ c.args.self.now c.add_apart_from.new.self
    (λ vars. owner_alone c.args.owners.now c.args.places.now c.in-Some.place (placed c.args.self.now.play.forced.now c.args.self.now.play.candidates.now vars) (or_left (members_of c.args.self.now.play.forced.now c.in-Some.place) (positions_of c.args.self.now.play.candidates.now vars c.in-Some.place) c.in-Some.ensures.is_in) c.in-Some.ensures.among (sym c.contains.ensures.value ∙ c.if-not-contains.true))
    c.in_ok-add_apart_from.ensures

pub returns-in-Some : goal.returns-in-Some
returns-in-Some c =
    on_ok_weaker c.add_apart_from-in-Some.result
    (λ added. tells_as _ _ c.args.self.now c.add_apart_from-in-Some.new.self
    (λ vars. owner_both c.args.owners.now c.args.places.now c.in-Some.place (placed c.args.self.now.play.forced.now c.args.self.now.play.candidates.now vars) (or_left (members_of c.args.self.now.play.forced.now c.in-Some.place) (positions_of c.args.self.now.play.candidates.now vars c.in-Some.place) c.in-Some.ensures.is_in) c.in-Some.ensures.among (sym c.contains.ensures.value ∙ c.if-not-contains.false))
    (tells_both _ _ c.args.self.now c.add_apart_from.new.self c.add_apart_from-in-Some.new.self c.in_ok-add_apart_from.ensures added)) c.add_apart_from-in-Some.ensures

pub returns-in-Some-first_in : goal.returns-in-Some-first_in
returns-in-Some-first_in c =
    on_ok_weaker c.add_apart_from-in-Some-first_in.result
    (tells_as _ _ c.args.self.now c.add_apart_from-in-Some-first_in.new.self
    (λ vars. place_alone c.args.owners.now c.args.places.now c.in-Some-first_in.place (placed c.args.self.now.play.forced.now c.args.self.now.play.candidates.now vars) (or_left (members_of c.args.self.now.play.forced.now c.in-Some-first_in.place) (positions_of c.args.self.now.play.candidates.now vars c.in-Some-first_in.place) c.in-Some-first_in.ensures.is_in) c.in-Some-first_in.ensures.among
    (λ q there same. both_ways (members_of c.args.self.now.play.forced.now q) (c.in_default.ensures.none q there) (ap (members_of c.args.self.now.play.forced.now) same ∙ c.in-Some-first_in.ensures.is_in)))) c.add_apart_from-in-Some-first_in.ensures
