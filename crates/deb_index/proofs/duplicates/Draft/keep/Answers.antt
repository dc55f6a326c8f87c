use Rattle.std.proofs.Common.{◌∙◌, ap, sym}
use Rattle.deb_index.specs.Packages.{package_view}
use Rattle.deb_index.specs.Tables.{number_in}
use Rattle.deb_index.specs.Names.{name_texts}
use Rattle.deb_index.proofs.NameLemmas.{position-known}
use Rattle.deb_index.proofs.duplicates.Draft.keep.Goals as goal

pub contains-requires-clause-known : goal.contains-requires-clause-known
contains-requires-clause-known c =
    let p = package_view c.args.candidate in
    c.number-known.ensures.number ∙ ap (λ k. number_in k (name_texts c.args.self.now.catalog.names)) c.as_slice.ensures.value ∙ sym (position-known c.requires.built.named p.name)

pub push-requires-clause-known : goal.push-requires-clause-known
push-requires-clause-known c =
    let p = package_view c.args.candidate in
    c.number-known.ensures.number ∙ ap (λ k. number_in k (name_texts c.args.self.now.catalog.names)) c.as_slice.ensures.value ∙ sym (position-known c.requires.built.named p.name)
