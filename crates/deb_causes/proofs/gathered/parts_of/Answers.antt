use Rattle.std.proofs.Common.{◌≡◌, ◌∙◌, ◌<◌, ◌∷◌, [], ◌++◌, All, ℕ, ap, arith, length, map, subst, sym, take, ◌+◌}
use Rattle.std.proofs.lemmas.List.{length-map}
use Rattle.deb_index.specs.Constraints.{below}
use Rattle.number_sets.proofs.AtomSteps.{map_more}
use Rattle.number_sets.proofs.ListLemmas.{all_item}
use Rattle.deb_causes.specs.declared.gathered.NumberedCore.{NumberedCore}
use Rattle.deb_causes.specs.declared.gathered.NumberedPackage.{NumberedPackage}
use Rattle.deb_causes.specs.Gathering.{part_of, part_view}
use Rattle.deb_causes.specs.Numbering.{package_view}
use Rattle.deb_causes.proofs.GatheringLemmas.{length-range}
use Rattle.deb_causes.proofs.gathered.parts_of.Goals as goal

pub add_package-requires : goal.add_package-requires
add_package-requires c =
    let inside : c.loop-one.one-index < length c.args.packages.now = omega arith in
    let seen = map package_view (take c.loop-one.one-index c.args.packages.now) in
    let size : length c.loop-one.parts.items ≡ c.args.count = sym (length-map c.loop-one.parts.items part_view) ∙ ap length c.loop-one.invariant ∙ length-range (part_of seen) 0 c.args.count in
    let small : All (λ (core : NumberedCore). core.number < c.args.count) c.one-item.result.cores.items =
    all_item (λ (one : NumberedPackage). All (λ (core : NumberedCore). core.number < c.args.count) one.cores.items) c.args.packages.now c.loop-one.one-index c.one-item.result inside c.one-item.is c.requires in
    subst (λ (most : ℕ). All (λ (core : NumberedCore). core.number < most) c.one-item.result.cores.items) (sym size) small

pub loop-one-preserved : goal.loop-one-preserved
loop-one-preserved c =
    let i = c.loop-one.one-index in
    let inside : i < length c.args.packages.now = omega arith in
    let seen = map package_view (take i c.args.packages.now) in
    let one : NumberedPackage = c.one-item.result in
    let more : map package_view (take (i + 1) c.args.packages.now) ≡ seen ++ package_view one ∷ [] =
    map_more package_view c.args.packages.now i one inside ∙ ap (λ (p : NumberedPackage). seen ++ package_view p ∷ []) (sym c.one-item.is) in
    c.in_ok-add_package.ensures.parts seen c.args.count c.loop-one.invariant
    ∙ ap (λ packages. map (part_of packages) (below c.args.count)) (sym more)
