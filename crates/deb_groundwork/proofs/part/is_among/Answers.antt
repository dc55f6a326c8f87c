use Rattle.std.proofs.Common.{◌∙◌}
use Rattle.deb_groundwork.proofs.Searched.{among}
use Rattle.deb_groundwork.proofs.part.is_among.Goals as goal

pub returns : goal.returns
returns c = c.is_ok.ensures.value ∙ among c.args.numbers.now c.args.number c.binary_search.result c.requires c.binary_search.ensures.position
