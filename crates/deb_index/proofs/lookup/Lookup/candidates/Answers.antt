use Rattle.std.proofs.Common.{◌≡◌, ◌∙◌, subst}
use Rattle.deb_index.specs.Packages.{IndexView, places_of}
use Rattle.deb_index.specs.Meets.{provided_at}
use Rattle.deb_index.proofs.ProvidedLemmas.{items-provided}
use Rattle.deb_index.proofs.lookup.Lookup.candidates.Goals as goal

pub returns : goal.returns
returns c =
    let name = c.args.name.now in
    let found = c.candidates in (
      subst (λ (v : IndexView). found.result.named.now ≡ places_of v name) c.self.view_is (found.ensures.named _ _ c.self.invariant.named),
      subst (λ (v : IndexView). found.result.provided.now ≡ provided_at v name) c.self.view_is (found.ensures.provided _ _ c.self.invariant.named ∙ items-provided _ name),
    )
