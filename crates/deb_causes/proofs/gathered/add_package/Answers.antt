use Rattle.std.proofs.Common.{◌≡◌, ◌∙◌, ◌<◌, All, ℕ, List, ap, length, map, subst, sym}
use Rattle.std.specs.List.{list_any}
use Rattle.deb_index.specs.Constraints.{below}
use Rattle.number_sets.specs.Sets.{members_of}
use Rattle.number_sets.proofs.ListMembers.{below_members}
use Rattle.deb_causes.specs.declared.gathered.NumberedCore.{NumberedCore}
use Rattle.deb_causes.specs.Gathering.{has_number, is_alone, part_of, with_cores, with_share}
use Rattle.deb_causes.specs.Numbering.{core_view, package_view}
use Rattle.deb_causes.proofs.GatheringLemmas.{number-below, part-more}
use Rattle.deb_causes.proofs.gathered.add_package.Goals as goal

pub add_shares-requires-clause-within : goal.add_shares-requires-clause-within
add_shares-requires-clause-within c =
    let bound : ℕ = length c.args.parts.now.items in
    let cores = c.args.one.now.cores.items in
    let numbers : List ℕ = c.in_ok-numbers.numbers.items in
    let has : (k : ℕ) → members_of numbers k ≡ list_any (has_number k) (map core_view cores) =
    λ k. c.in_ok-numbers.ensures.same k ∙ ap (λ (cs : List NumberedCore). list_any (has_number k) (map core_view cs)) c.as_slice-cores.ensures.value in
    let within : All (λ k. k < bound) numbers = below_members numbers bound (λ k is_in. number-below bound k cores c.requires (sym (has k) ∙ is_in)) in
    subst (λ (ns : List ℕ). All (λ k. k < length c.add_cores.new.parts.items) ns) (sym c.as_slice.ensures.value)
    (subst (λ (most : ℕ). All (λ k. k < most) numbers) (sym c.in_ok-add_cores.ensures.size) within)

pub returns-clause-parts : goal.returns-clause-parts
returns-clause-parts c = λ packages count are.
    let cores = c.args.one.now.cores.items in
    let one = package_view c.args.one.now in
    let slice = c.as_slice-cores.result.now in
    let view : map core_view slice ≡ map core_view cores = ap (map core_view) c.as_slice-cores.ensures.value in
    let has : (k : ℕ) → members_of c.as_slice.result.now k ≡ list_any (has_number k) one.1 =
    λ k. ap (λ (ns : List ℕ). members_of ns k) c.as_slice.ensures.value ∙ c.in_ok-numbers.ensures.same k ∙ ap (list_any (has_number k)) view in
    let alone : c.is_alone.result ≡ is_alone one.1 = c.is_alone.ensures ∙ ap is_alone view in
    c.in_ok-add_shares.ensures.parts count (λ k. with_cores (map core_view slice) k (part_of packages k)) (c.in_ok-add_cores.ensures.parts count (part_of packages) are)
    ∙ (λ i. map (λ k. with_share (c.args.one.now.place, alone i) (members_of c.as_slice.result.now k) (with_cores (view i) k (part_of packages k))) (below count))
    ∙ (λ i. map (λ k. part-more packages one (members_of c.as_slice.result.now k) k (has k) i) (below count))
