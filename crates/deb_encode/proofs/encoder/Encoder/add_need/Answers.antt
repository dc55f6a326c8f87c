use Rattle.std.proofs.lemmas.Result.{on_ok_weaker}
use Rattle.deb_encode.specs.Encoders.{set_of}
use Rattle.deb_encode.proofs.EncoderLemmas.{tells_as}
use Rattle.deb_encode.proofs.Told.{need_by_row}
use Rattle.deb_encode.proofs.encoder.Encoder.add_need.Goals as goal

pub returns : goal.returns
returns c =
    on_ok_weaker c.add_if.result
    (tells_as _ _ c.args.self.now c.add_if.new.self
    (λ vars. need_by_row c.args.self.now.play.index.now (set_of c.args.self.now.play vars) c.args.place c.args.number c.in_ok-row.row.now c.in_ok-row.ensures)) c.add_if.ensures
