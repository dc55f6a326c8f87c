use Rattle.std.proofs.Common.{◌≡◌, ◌∙◌, subst}
use Rattle.deb_index.specs.Packages.{IndexView}
use Rattle.deb_index.specs.Meets.{provided_at}
use Rattle.deb_index.proofs.ProvidedLemmas.{items-provided}
use Rattle.deb_index.proofs.index.Index.provides_of.Goals as goal

pub returns : goal.returns
returns c =
    let P : IndexView → Type 0 = λ v. c.candidates.result.provided.now ≡ provided_at v c.args.name.now in
    subst P c.self.view_is (c.candidates.ensures.provided _ _ c.self.invariant.kept.named ∙ items-provided _ c.args.name.now)
