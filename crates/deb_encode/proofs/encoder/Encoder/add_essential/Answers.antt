use Rattle.std.proofs.Common.{length, refl}
use Rattle.std.specs.List.{list_any}
use Rattle.std.proofs.lemmas.Result.{on_ok_weaker}
use Rattle.deb_encode.specs.Play.{placed}
use Rattle.deb_encode.proofs.Told.{essential_by_row}
use Rattle.deb_encode.proofs.Widening.{widened_below, clause_told}
use Rattle.deb_encode.proofs.encoder.Encoder.add_essential.Goals as goal

pub add_unless-requires : goal.add_unless-requires
add_unless-requires c =
    widened_below (length c.args.self.now.play.candidates.now) (λ vars. list_any (placed c.args.self.now.play.forced.now c.args.self.now.play.candidates.now vars) c.places_named-row.result.now)
    c.clear.new.self.items c.or_some.new.clause.items c.in_ok-anyway.anyway c.clear.ensures.items c.in_ok-anyway.ensures

pub returns : goal.returns
returns c =
    on_ok_weaker c.add_unless.result
    (clause_told _ (length c.args.self.now.play.candidates.now) (λ vars. list_any (placed c.args.self.now.play.forced.now c.args.self.now.play.candidates.now vars) c.places_named-row.result.now)
    c.clear.new.self.items c.or_some.new.clause.items c.in_ok-anyway.anyway c.args.self.now _ (record { play = refl; group = refl; formula = refl }) refl c.clear.ensures.items c.in_ok-anyway.ensures c.add_unless.new.self
    (λ vars. essential_by_row c.args.self.now.play.index.now (placed c.args.self.now.play.forced.now c.args.self.now.play.candidates.now vars) c.args.name c.places_named-row.result.now c.places_named-row.ensures))
    c.add_unless.ensures
