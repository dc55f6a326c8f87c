use Rattle.std.proofs.Common.{◌≡◌, ◌∙◌, Bool, true, sym}
use Rattle.std.proofs.lemmas.Bool.{false≢true}
use Rattle.run_settings.specs.declared.config.Format.{Format}
use Rattle.run_settings.specs.declared.config.Format.TheVariants.{Json, Text}
use Rattle.deb_report.specs.Document.{is_walked}
use Rattle.deb_report.proofs.cores.CoresPrintVecConstraint.print.Goals as goal

walked-why : (form : Format) (why : Bool) → is_walked form why ≡ true → why ≡ true
walked-why Text why walked = walked
walked-why Json why walked = absurd (false≢true walked)

pub push_walk-requires-clause-core : goal.push_walk-requires-clause-core
push_walk-requires-clause-core c =
    let config = c.args.self.now.writer.now.config.now in
    let why = walked-why config.format config.why (sym c.is_walked.ensures ∙ c.if-is_walked.true) in
    rw c.as_slice-core.ensures.value (λ i one below. (c.requires.1 i one below).1 why)
