use Rattle.std.proofs.Common.{◌<◌, ◌≤◌, ◌+◌, ◌∙◌, ◌||◌, Bool, List, ap, arith, length, refl, sym}
use Rattle.std.specs.List.{list_any}
use Rattle.std.proofs.lemmas.List.{take_all}
use Rattle.deb_relation.specs.Relationship.{atom_view}
use Rattle.deb_index.specs.declared.versions.Offer.{Offer}
use Rattle.deb_index.specs.Packages.{is_in}
use Rattle.deb_index.specs.Rows.{usable_as_at}
use Rattle.deb_index.proofs.FoundLemmas.{added-all, added-some, any-taken, or-more, or-none}
use Rattle.deb_index.proofs.OfferLemmas.{usable_of}
use Rattle.deb_index.proofs.ProviderLemmas.{any-more}
use Rattle.deb_index.proofs.lookup.Lookup.add_offers.Goals as goal

pub loop-offer-init : goal.loop-offer-init
loop-offer-init c = λ q. sym (or-none (is_in c.args.found.now.items q))

pub loop-offer-preserved : goal.loop-offer-preserved
loop-offer-preserved c = λ q.
    let usable : Offer → Bool = λ o. usable_as_at c.args.role c.args.self.now o.place (atom_view c.args.atom.now) in
    let within : c.loop-offer.offer-index < length c.args.offers.now = omega arith in
    c.in_ok-add_if.ensures.all c.if-not-branch.false q
    ∙ any-more (λ (o : Offer). o.place) q (is_in c.args.found.now.items q) (is_in c.loop-offer.found.items q) usable c.args.offers.now c.loop-offer.offer-index c.offer-item.result c.offer-item.result _ within c.offer-item.is c.usable_as.ensures (c.loop-offer.invariant q)

pub returns-then-not-branch : goal.returns-then-not-branch
returns-then-not-branch c =
    let usable : Offer → Bool = λ o. usable_as_at c.args.role c.args.self.now o.place (atom_view c.args.atom.now) in
    let within : c.loop-offer.offer-index < length c.args.offers.now = omega arith in
    added-some _ _ _ _ _ _ _ c.in_ok-add_if.ensures c.if-not-branch.true (λ q there.
    or-more (is_in c.args.found.now.items q) _ _ (any-taken (usable_of c.args.role c.args.self.now (atom_view c.args.atom.now) q) (c.loop-offer.offer-index + 1) c.args.offers.now)
    (sym (any-more (λ (o : Offer). o.place) q (is_in c.args.found.now.items q) (is_in c.loop-offer.found.items q) usable c.args.offers.now c.loop-offer.offer-index c.offer-item.result c.offer-item.result _ within c.offer-item.is c.usable_as.ensures (c.loop-offer.invariant q)) ∙ there))

pub returns : goal.returns
returns c = added-all _ _ _ _ (λ q.
    let all : length c.args.offers.now ≤ c.loop-offer.offer-index = omega arith in
    c.loop-offer.invariant q
    ∙ ap (λ (os : List Offer). is_in c.args.found.now.items q || list_any (usable_of c.args.role c.args.self.now (atom_view c.args.atom.now) q) os) (take_all c.loop-offer.offer-index c.args.offers.now all))
