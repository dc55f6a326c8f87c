use Rattle.std.proofs.Common.{◌≡◌, ◌∙◌, ◌<◌, ◌∷◌, [], ◌++◌, All, Global, Vec, ℕ, List, append-nil, ap, ap₂, arith, length, map, refl, subst, sym, take}
use Rattle.std.specs.List.{flat_map}
use Rattle.std.proofs.lemmas.Grind.{flat_map-append}
use Rattle.std.proofs.lemmas.List.{map-append}
use Rattle.std.proofs.lemmas.List.Elements.{All-same}
use Rattle.deb_index.specs.declared.constraint.Constraint.{Constraint}
use Rattle.deb_index.specs.Constraints.{IsOfIndex}
use Rattle.number_sets.proofs.AtomSteps.{map_more}
use Rattle.number_sets.proofs.ListLemmas.{all_item, all_seen, map-twice}
use Rattle.deb_causes.specs.declared.gathered.NumberedPackage.{NumberedPackage}
use Rattle.deb_health.specs.declared.shown.Shown.{Shown}
use Rattle.deb_causes.specs.Causes.{cores_of}
use Rattle.deb_causes.specs.Numbering.{core_view, package_view, unnumbered}
use Rattle.deb_health.specs.Verdicts.{IsAskedOf, shown_view}
use Rattle.deb_causes.specs.Wrongs.{AreNumbered}
use Rattle.deb_causes.proofs.WrongsLemmas.{cores-within, numbered-more, numbered-none}
use Rattle.deb_causes.proofs.gathered.number_packages.Goals as goal

pub number_cores-requires : goal.number_cores-requires
number_cores-requires c =
    let index = c.args.index.now in
    let inside : c.loop-one.one-index < length c.args.broken.now = omega arith in
    let one : Shown = c.one-item.result in
    let asked : IsAskedOf index (shown_view one) = all_item (λ (one : Shown). IsAskedOf index (shown_view one)) c.args.broken.now c.loop-one.one-index one inside c.one-item.is c.requires in
    all_seen (All (IsOfIndex index)) (λ (core : Vec Constraint Global). core.items) c.cores.result.now
    (All-same (All (IsOfIndex index)) (map (λ (core : Vec Constraint Global). core.items) c.cores.result.now) (cores_of (shown_view one)).1 c.cores.ensures (cores-within index (shown_view one) asked))

pub loop-one-init : goal.loop-one-init
loop-one-init c = rw c.new-packages.ensures.items (record { cores = refl; numbers = numbered-none c.args.index.now c.args.wrongs.now })

pub loop-one-preserved : goal.loop-one-preserved
loop-one-preserved c =
    let index = c.args.index.now in
    let inside : c.loop-one.one-index < length c.args.broken.now = omega arith in
    let shown : Shown = c.one-item.result in
    let one : NumberedPackage = record { place = shown.place; cores = c.in_ok-cores.cores } in
    let old : List NumberedPackage = c.loop-one.packages.items in
    let more : map package_view c.push.new.self.items ≡ map package_view old ++ package_view one ∷ [] = ap (map package_view) c.in_ok-push.ensures.items ∙ map-append package_view old (one ∷ []) in
    let named : unnumbered (package_view one) ≡ cores_of (shown_view shown) =
    ap (λ told. (shown.place, told)) (map-twice (λ (core : ℕ × List Constraint). core.1) core_view one.cores.items ∙ c.in_ok-cores.ensures.cores ∙ c.cores.ensures) in
    record {
      cores =
          ap (map unnumbered) more
          ∙ map-append unnumbered (map package_view old) (package_view one ∷ [])
          ∙ ap₂ (λ front last. front ++ last ∷ []) c.loop-one.invariant.cores named
          ∙ ap (λ last. map cores_of (map shown_view (take c.loop-one.one-index c.args.broken.now)) ++ cores_of (shown_view last) ∷ []) c.one-item.is
          ∙ sym (ap (map cores_of) (map_more shown_view c.args.broken.now c.loop-one.one-index shown inside) ∙ map-append cores_of (map shown_view (take c.loop-one.one-index c.args.broken.now)) _);
      numbers =
          subst (λ cores. AreNumbered index c.args.wrongs.now c.number_cores.new.wrongs cores)
          (sym (ap (flat_map (λ (p : ℕ × List (ℕ × List Constraint)). p.1)) more ∙ flat_map-append (λ (p : ℕ × List (ℕ × List Constraint)). p.1) (map package_view old) (package_view one ∷ [])
          ∙ ap (λ last. flat_map (λ (p : ℕ × List (ℕ × List Constraint)). p.1) (map package_view old) ++ last) (append-nil (map core_view one.cores.items))))
          (numbered-more index c.args.wrongs.now c.loop-one.wrongs c.number_cores.new.wrongs (flat_map (λ p. p.1) (map package_view old)) (map core_view one.cores.items) c.loop-one.invariant.numbers c.in_ok-cores.ensures.numbers);
    }
