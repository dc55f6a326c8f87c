use Rattle.std.proofs.Common.{◌≡◌, ℕ, List, length, map, ◌∙◌}
use Rattle.std.proofs.lemmas.List.Elements.{All-same, All-map}
use Rattle.number_sets.proofs.ListLemmas.{all_seen}
use Rattle.deb_health.specs.Verdicts.{IsAskedOf, shown_view, ToldView}
use Rattle.deb_causes.specs.Causes.{IsCauseOf, by_first, cause_view, causes_list, cores_of}
use Rattle.deb_causes.proofs.GatheredCauses.{causes-within, few-places-of, listed}
use Rattle.deb_causes.proofs.causes.causes_of.Goals as goal

pub returns-clause-causes : goal.returns-clause-causes
returns-clause-causes c =
    let index = c.args.index.now in
    let told : List (ℕ × ToldView) = map shown_view c.args.broken.now in
    let firsts : map cause_view c.in_ok-causes.causes.items ≡ by_first index (map cores_of told) = c.in_ok-causes.ensures in
    c.in_ok-sort_by_count.ensures (length told) (few-places-of index told c.in_ok-causes.causes.items firsts)
    ∙ listed index told (map cause_view c.in_ok-causes.causes.items) firsts

pub returns-clause-within : goal.returns-clause-within
returns-clause-within c =
    let index = c.args.index.now in
    let told : List (ℕ × ToldView) = map shown_view c.args.broken.now in
    all_seen (IsCauseOf index) cause_view c.sort_by_count.new.causes.items
    (All-same (IsCauseOf index) (map cause_view c.sort_by_count.new.causes.items) (causes_list index told) (returns-clause-causes c)
    (causes-within index told (All-map (IsAskedOf index) shown_view c.args.broken.now c.requires)))
