use Rattle.std.proofs.Common.{◌∙◌, ap}
use Rattle.std.proofs.lemmas.Result.{on_ok_weaker}
use Rattle.number_sets.specs.Sets.{members_of}
use Rattle.deb_encode.specs.Play.{placed}
use Rattle.deb_encode.proofs.EncoderLemmas.{tells_none, tells_as}
use Rattle.deb_encode.proofs.OneVersion.{only_single, only_by_row, only_in_play}
use Rattle.deb_encode.proofs.Told.{in_play_within}
use Rattle.deb_encode.proofs.encoder.Encoder.add_only.Goals as goal

pub returns-then-row-lt2 : goal.returns-then-row-lt2
returns-then-row-lt2 c = tells_none _ c.args.self.now (λ vars. only_single c.args.self.now.play.index.now c.args.name c.places_named-row.result.now (placed c.args.self.now.play.forced.now c.args.self.now.play.candidates.now vars) c.places_named-row.ensures c.if-row-lt2.true)

pub returns-then-row-count : goal.returns-then-row-count
returns-then-row-count c =
    on_ok_weaker c.add_all_apart.result (tells_as _ _ c.args.self.now c.add_all_apart.new.self (λ vars. only_by_row c.args.self.now.play.index.now c.args.name c.places_named-row.result.now (placed c.args.self.now.play.forced.now c.args.self.now.play.candidates.now vars) c.places_named-row.ensures)) c.add_all_apart.ensures

pub returns : goal.returns
returns c =
    on_ok_weaker c.add_all_apart-2.result
    (tells_as _ _ c.args.self.now c.add_all_apart-2.new.self
    (λ vars. only_in_play c.args.self.now.play.index.now c.args.name c.args.self.now.play.forced.now c.args.self.now.play.candidates.now c.as_slice-found.result.now vars (in_play_within c.args.self.now.play.forced.now c.args.self.now.play.candidates.now _ c.args.self.now.play.forced_within c.args.self.now.play.candidates_within)
    (λ q. ap (λ list. members_of list q) c.as_slice-found.ensures.value ∙ c.in_ok-list_named.ensures q))) c.add_all_apart-2.ensures
