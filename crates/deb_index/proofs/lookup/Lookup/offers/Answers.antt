use Rattle.std.proofs.Common.{◌<◌, ◌≤◌, ◌+◌, ◌∙◌, ◌||◌, List, ℕ, Bool, ap, arith, false, length, refl, sym}
use Rattle.std.specs.List.{list_any}
use Rattle.std.specs.Option.{option_map_or}
use Rattle.std.proofs.lemmas.List.{take_all}
use Rattle.deb_index.specs.Rows.{provided_version_at, version_at}
use Rattle.deb_index.proofs.FoundLemmas.{or-none}
use Rattle.deb_index.proofs.OfferLemmas.{all-offers, has_version, provides_version}
use Rattle.deb_index.proofs.ProviderLemmas.{any-more}
use Rattle.deb_index.proofs.lookup.Lookup.offers.Goals as goal

pub loop-place-preserved : goal.loop-place-preserved
loop-place-preserved c = λ q test.
    let passes : ℕ → Bool = λ p. option_map_or test (version_at c.args.self.now p) false in
    let within : c.loop-place.place-index < length c.args.candidates.named.now = omega arith in
    c.in_ok-push_offer.ensures q test
    ∙ any-more (λ p. p) q false _ passes c.args.candidates.named.now c.loop-place.place-index _ 0 _ within refl (ap (λ v. option_map_or test v false) c.version.ensures) (c.loop-place.invariant q test)

pub loop-entry-init : goal.loop-entry-init
loop-entry-init c = λ q test.
    let all : length c.args.candidates.named.now ≤ c.loop-place.place-index = omega arith in
    c.loop-place.invariant q test ∙ ap (list_any (has_version c.args.self.now test q)) (take_all c.loop-place.place-index c.args.candidates.named.now all) ∙ sym (or-none _)

pub loop-entry-preserved : goal.loop-entry-preserved
loop-entry-preserved c = λ q test.
    let passes : ℕ × ℕ → Bool = λ e. option_map_or test (provided_version_at c.args.self.now e) false in
    let within : c.loop-entry.entry-index < length c.args.candidates.provided.now = omega arith in
    c.in_ok-push_offer-2.ensures q test
    ∙ any-more (λ (e : ℕ × ℕ). e.0) q (list_any (has_version c.args.self.now test q) c.args.candidates.named.now) _ passes c.args.candidates.provided.now c.loop-entry.entry-index _ (0, 0) _ within refl
    (ap (λ v. option_map_or test v false) c.provided_version.ensures) (c.loop-entry.invariant q test)

pub returns : goal.returns
returns c = λ name are q test.
    let all : length c.args.candidates.provided.now ≤ c.loop-entry.entry-index = omega arith in
    c.loop-entry.invariant q test
    ∙ ap (λ es. list_any (has_version c.args.self.now test q) c.args.candidates.named.now || list_any (provides_version c.args.self.now test q) es) (take_all c.loop-entry.entry-index c.args.candidates.provided.now all)
    ∙ all-offers c.args.self.now name test q c.args.candidates.named.now c.args.candidates.provided.now are.0 are.1
