use Rattle.std.proofs.Common.{◌≡◌, ◌<◌, ◌∙◌, ap, subst, sym, length, map}
use Rattle.deb_index.specs.Packages.{IndexView, is_named, names, name_at, package_view, places_of, places_where}
use Rattle.deb_index.proofs.NameLemmas.{front-text, front-within}
use Rattle.deb_index.proofs.index.Index.places_named.Goals as goal

pub places-requires : goal.places-requires
places-requires c = front-within c.self.invariant.kept.named c.args.number (subst (λ (v : IndexView). c.args.number < length (names v)) (sym c.self.view_is) c.requires)

pub returns : goal.returns
returns c =
    let within = subst (λ (v : IndexView). c.args.number < length (names v)) (sym c.self.view_is) c.requires in
    subst (λ (v : IndexView). c.places.result.now ≡ places_of v (name_at v c.args.number)) c.self.view_is
    (c.places.ensures _ _ c.self.invariant.kept.named ∙ ap (λ k. places_where (is_named k) (map package_view c.self.inside.catalog.packages.items)) (front-text c.self.invariant.kept.named c.args.number within))
