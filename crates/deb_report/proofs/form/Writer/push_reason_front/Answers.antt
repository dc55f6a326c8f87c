use Rattle.std.proofs.Common.{refl}
use Rattle.deb_report.specs.Reasons.{reason_parts}
use Rattle.deb_report.proofs.form.Writer.push_reason_front.Goals as goal

pub returns-in_ok-push_front-in-Essential : goal.returns-in_ok-push_front-in-Essential
unfolding reason_parts
returns-in_ok-push_front-in-Essential c = rw (c.in-Essential.is, c.in_ok-push_front-in-Essential.ensures, c.name_text.ensures) refl
