use Rattle.std.proofs.Common.{Some, refl, subst, sym}
use Rattle.std.specs.Prelude.{IfSome}
use Rattle.std.specs.Str.{bytes_eq}
use Rattle.deb_index.specs.declared.versions.Versions.{Versions}
use Rattle.deb_index.specs.Packages.{IndexView}
use Rattle.deb_index.specs.Rows.{AreCandidates, AreOffers}
use Rattle.deb_index.proofs.NumberedLemmas.{updates-names}
use Rattle.deb_index.proofs.OfferLemmas.{offers-moved, put-sorted}
use Rattle.deb_index.proofs.satisfiers.Satisfiers.sort_versions.Goals as goal

pub invariant_of-self-2 : goal.invariant_of-self-2
invariant_of-self-2 c = λ q.
    let look = c.self.inside.lookup.now in
    let name = c.args.name.now in
    let key = c.in_ok-key.key.items in
    let made : AreOffers look name c.new-versions.result.offers.items =
    offers-moved look name _ _ c.new-versions.ensures (c.in_ok-offers.ensures name (subst (λ (v : IndexView). AreCandidates v name c.args.candidates) (sym c.self.view_is) c.requires)) in
    subst (λ o. IfSome o (λ (v : Versions). AreOffers look q v.offers.items))
    (sym (updates-names key c.self.inside.versions c.insert.new.self (Some c.new-versions.result) c.in_ok-insert.ensures.updates q))
    (put-sorted look key q c.new-versions.result _ (bytes_eq key q) refl (subst (λ n. AreOffers look n c.new-versions.result.offers.items) (sym c.in_ok-key.ensures.items) made) (c.self.invariant q))
