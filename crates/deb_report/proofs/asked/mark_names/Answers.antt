use Rattle.std.proofs.Common.{◌≡◌, ◌+◌, Option, ◌<◌, ◌||◌, ◌∙◌, ap, arith, false, get_or, length, map, rules, sym, take}
use Rattle.std.proofs.lemmas.Option.{slice_get-get_or}
use Rattle.std.specs.Option.{option_map_or}
use Rattle.deb_index.proofs.MemberLemmas.{member-places_where}
use Rattle.deb_index.specs.Packages.{PackageView, is_named, no_package, package_at}
use Rattle.deb_report.specs.Outcome.{is_listed}
use Rattle.number_sets.proofs.ListLemmas.{any_more, or_assoc}
use Rattle.number_sets.proofs.PlaceLemmas.{is_among}
use Rattle.deb_report.proofs.asked.mark_names.Goals as goal

pub loop-name-preserved : goal.loop-name-preserved
loop-name-preserved c = λ k within.
    let test = is_named c.as_slice.result.now in
    let deb = package_at c.args.index.now k in
    let name = c.name-item.result in
    let there : k < length c.args.index.now.packages = omega arith in
    let inside : c.loop-name.name-index < length c.args.names.now = omega arith in
    let before = is_listed (map (λ name. name.items) (take c.loop-name.name-index c.args.names.now)) deb in
    let here : is_among k c.places_of.result.now ≡ is_named name.items deb =
    ap (is_among k) c.places_of.ensures
    ∙ member-places_where test c.args.index.now.packages k
    ∙ ap (λ (found : Option PackageView). option_map_or test found false) (slice_get-get_or c.args.index.now.packages k no_package there)
    ∙ ap (λ text. is_named text deb) c.as_slice.ensures.value in
    let more : is_listed (map (λ name. name.items) (take (c.loop-name.name-index + 1) c.args.names.now)) deb ≡ (before || is_named name.items deb) =
    any_more (λ text. is_named text deb) (λ name. name.items) c.args.names.now c.loop-name.name-index name inside c.name-item.is in
    c.mark_places.ensures k (search rules)
    ∙ ap (λ mark. mark || is_among k c.places_of.result.now) (c.loop-name.invariant k within)
    ∙ ap (λ last. get_or c.args.marks.now k false || before || last) here
    ∙ or_assoc (get_or c.args.marks.now k false) before (is_named name.items deb)
    ∙ ap (λ last. get_or c.args.marks.now k false || last) (sym more)
