use Rattle.std.proofs.Common.{◌≡◌, subst}
use Rattle.deb_index.specs.Packages.{IndexView, places_of}
use Rattle.deb_index.proofs.index.Index.places_of.Goals as goal

pub returns : goal.returns
returns c =
    let P : IndexView → Type 0 = λ v. c.candidates.result.named.now ≡ places_of v c.args.name.now in
    subst P c.self.view_is (c.candidates.ensures.named _ _ c.self.invariant.kept.named)
