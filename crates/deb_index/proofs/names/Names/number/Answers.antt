use Rattle.deb_index.proofs.TableLemmas.{known-within}
use Rattle.deb_index.proofs.names.Names.number.Goals as goal

pub returns-clause-within : goal.returns-clause-within
returns-clause-within c = known-within c.args.name.now c.args.self.now.texts c.number.result c.number.ensures
