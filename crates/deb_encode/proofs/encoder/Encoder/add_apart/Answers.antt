use Rattle.std.proofs.Common.{◌&&◌, ◌∙◌, ap}
use Rattle.std.proofs.lemmas.Result.{on_ok_weaker}
use Rattle.deb_index.specs.Meets.{meets_at}
use Rattle.number_sets.specs.Sets.{members_of}
use Rattle.deb_encode.specs.Encoders.{all_places}
use Rattle.deb_encode.specs.Play.{placed}
use Rattle.deb_encode.proofs.EncoderLemmas.{tells_as}
use Rattle.deb_encode.proofs.Told.{row_says, meeting_says}
use Rattle.deb_encode.proofs.encoder.Encoder.add_apart.Goals as goal

pub returns-then-row-count : goal.returns-then-row-count
returns-then-row-count c =
    on_ok_weaker c.add_apart_from.result
    (tells_as _ _ c.args.self.now c.add_apart_from.new.self (λ vars. row_says c.args.self.now.play.index.now (placed c.args.self.now.play.forced.now c.args.self.now.play.candidates.now vars) c.args.place c.args.number c.in-Some.row.now c.in-Some.ensures.row)) c.add_apart_from.ensures

pub returns : goal.returns
returns c =
    on_ok_weaker c.add_apart_from-2.result
    (tells_as _ _ c.args.self.now c.add_apart_from-2.new.self
    (λ vars. meeting_says c.args.self.now.play.index.now c.args.self.now.play.forced.now c.args.self.now.play.candidates.now vars c.args.place c.args.number c.deref.result.now
    (λ q. ap (λ list. members_of list q) c.deref.ensures.value ∙ (c.in_ok-list_meeting.ensures q ∙ ap (λ atom. members_of (all_places c.args.self.now.play) q && meets_at c.args.self.now.play.index.now q atom) c.apart.ensures)))) c.add_apart_from-2.ensures
