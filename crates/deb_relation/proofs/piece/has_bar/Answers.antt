use Rattle.std.proofs.Common.{◌∙◌}
use Rattle.deb_relation.specs.Bytes.{bar}
use Rattle.deb_relation.proofs.Bars.{search-tells}
use Rattle.deb_relation.proofs.piece.has_bar.Goals as goal

pub returns : goal.returns
returns c = c.is_some.ensures ∙ search-tells bar c.args.text.now c.memchr.result c.memchr.ensures
