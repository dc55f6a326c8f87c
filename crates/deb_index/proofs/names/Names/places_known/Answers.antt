use Rattle.std.proofs.Common.{ap, sym, ◌∙◌}
use Rattle.deb_index.specs.Names.{name_texts}
use Rattle.deb_index.specs.Packages.{is_named, places_where}
use Rattle.deb_index.proofs.NameLemmas.{places-none-named, text-at}
use Rattle.deb_index.proofs.names.Names.places_known.Goals as goal

pub returns-in-Some : goal.returns-in-Some
returns-in-Some c = λ packages entries name n known.
    c.places.ensures packages entries n ∙ ap (λ k. places_where (is_named k) packages) (text-at name (name_texts c.args.self.now) c.in-Some.number (sym (rw c.in-Some.is at known)))

pub returns-in-None : goal.returns-in-None
returns-in-None c = λ packages entries name n known. places-none-named n name (sym (rw c.in-None.is at known))
