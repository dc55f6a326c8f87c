use Rattle.std.proofs.Common.{◌∙◌}
use Rattle.deb_index.proofs.NameLemmas.{places-at}
use Rattle.deb_index.proofs.names.Names.places.Goals as goal

pub returns : goal.returns
returns c = λ packages entries n. c.as_slice.ensures ∙ places-at n c.args.number c.index.result.now c.requires c.index.ensures
