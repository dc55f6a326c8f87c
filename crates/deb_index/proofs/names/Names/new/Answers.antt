use Rattle.std.proofs.Common.{ap, map, refl}
use Rattle.deb_index.specs.declared.names.Lists.{Lists}
use Rattle.deb_index.specs.Packages.{first_of_each}
use Rattle.deb_index.proofs.names.Names.new.Goals as goal

pub returns : goal.returns
unfolding first_of_each
returns c = record {
  texts = c.new.ensures;
  places = ap (map (λ (l : Lists). l.places.items)) c.new-2.ensures.items;
  provided = ap (map (λ (l : Lists). l.provided.items)) c.new-2.ensures.items;
  front = refl;
}
