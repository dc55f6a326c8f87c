use Rattle.std.proofs.Common.{◌∙◌, ap, sym}
use Rattle.deb_index.specs.Packages.{need_at}
use Rattle.deb_causes.proofs.MissingLemmas.{is_empty, missing-where}
use Rattle.deb_causes.proofs.wrongs.is_missing.Goals as goal

pub returns : goal.returns
returns c = c.is_empty.ensures ∙ ap is_empty c.in_ok-answers.ensures ∙ sym (missing-where c.args.index.now (need_at c.args.index.now c.args.place c.args.number))
