use Rattle.std.proofs.Common.{◌≡◌, ℕ, ◌<◌, IfOk, List, All, ap, length, map, subst, sym, ◌∙◌}
use Rattle.std.specs.List.{flat_map}
use Rattle.std.proofs.lemmas.List.Elements.{All-same, All-map}
use Rattle.deb_index.specs.Constraints.{IsOfIndex, below}
use Rattle.deb_health.specs.Verdicts.{IsAskedOf, shown_view, ToldView}
use Rattle.deb_causes.specs.declared.gathered.NumberedCore.{NumberedCore}
use Rattle.deb_causes.specs.declared.gathered.NumberedPackage.{NumberedPackage}
use Rattle.deb_causes.specs.Causes.{CauseView, by_first, cause_view, cores_of}
use Rattle.deb_causes.specs.Gathering.{cause_from, part_of, part_view}
use Rattle.deb_causes.specs.Numbering.{package_view}
use Rattle.deb_causes.specs.Wrongs.{causes_of}
use Rattle.deb_causes.proofs.GatheredCauses.{cores-own, numbers-below, numbers-within, parts-causes, parts-some, parts-within, some-cores, told-within}
use Rattle.deb_causes.proofs.causes.first_causes.Goals as goal

pub parts_of-requires : goal.parts_of-requires
parts_of-requires c =
    let all = c.in_ok-packages.packages.items in
    let within = numbers-below all (length (causes_of c.number_packages.new.wrongs))
    (numbers-within c.args.index.now c.args.wrongs.now c.number_packages.new.wrongs (map package_view all) c.in_ok-packages.ensures.numbers c.requires.said c.requires.causes) in
    let counted = subst (λ n. All (λ (one : NumberedPackage). All (λ (core : NumberedCore). core.number < n) one.cores.items) all) (sym c.count.ensures) within in
    All-same (λ (one : NumberedPackage). All (λ (core : NumberedCore). core.number < c.count.result) one.cores.items) c.as_slice.result.now all c.as_slice.ensures.value counted

pub list_causes-requires-clause-some : goal.list_causes-requires-clause-some
list_causes-requires-clause-some c =
    let packages = map package_view c.in_ok-packages.packages.items in
    let views : map part_view c.in_ok-parts.parts.items ≡ map (part_of packages) (below (length (causes_of c.number_packages.new.wrongs))) =
    c.in_ok-parts.ensures ∙ ap (λ ps. map (part_of (map package_view ps)) (below c.count.result)) c.as_slice.ensures.value ∙ ap (λ n. map (part_of packages) (below n)) c.count.ensures in
    rw c.as_slice-2.ensures.value
    (some-cores c.in_ok-parts.parts.items _ views
    (parts-some c.args.index.now c.args.wrongs.now c.number_packages.new.wrongs packages c.in_ok-packages.ensures.numbers c.requires.said c.requires.causes))

pub list_causes-requires-clause-within : goal.list_causes-requires-clause-within
list_causes-requires-clause-within c =
    let packages = map package_view c.in_ok-packages.packages.items in
    let index = c.args.index.now in
    let told : List (ℕ × ToldView) = map shown_view c.args.broken.now in
    let views : map part_view c.in_ok-parts.parts.items ≡ map (part_of packages) (below c.count.result) =
    c.in_ok-parts.ensures ∙ ap (λ ps. map (part_of (map package_view ps)) (below c.count.result)) c.as_slice.ensures.value in
    let within : All (All (IsOfIndex index)) (flat_map (λ one. one.1) (map cores_of told)) =
    told-within index told (All-map (IsAskedOf index) shown_view c.args.broken.now c.requires.asked) in
    rw c.as_slice-2.ensures.value
    (cores-own index c.in_ok-parts.parts.items _ views
    (parts-within index packages c.count.result (subst (λ broken. All (All (IsOfIndex index)) (flat_map (λ one. one.1) broken)) (sym c.in_ok-packages.ensures.cores) within)))

pub returns : goal.returns
returns c =
    let packages = map package_view c.in_ok-packages.packages.items in
    let index = c.args.index.now in
    let views : map part_view c.in_ok-parts.parts.items ≡ map (part_of packages) (below (length (causes_of c.number_packages.new.wrongs))) =
    c.in_ok-parts.ensures ∙ ap (λ ps. map (part_of (map package_view ps)) (below c.count.result)) c.as_slice.ensures.value ∙ ap (λ n. map (part_of packages) (below n)) c.count.ensures in
    let firsts : map (cause_from index) (map part_view c.as_slice-2.result.now) ≡ by_first index (map cores_of (map shown_view c.args.broken.now)) =
    ap (λ parts. map (cause_from index) (map part_view parts)) c.as_slice-2.ensures.value ∙ ap (map (cause_from index)) views
    ∙ parts-causes index c.args.wrongs.now c.number_packages.new.wrongs packages c.in_ok-packages.ensures.numbers c.requires.said c.requires.causes
    ∙ ap (by_first index) c.in_ok-packages.ensures.cores in
    subst (λ (all : List CauseView). IfOk c.list_causes.result (λ causes. map cause_view causes.items ≡ all)) firsts c.list_causes.ensures
