use Rattle.std.proofs.Common.{◌≡◌, ◌<◌, ◌≤◌, ◌+◌, ◌++◌, ◌∷◌, ◌∙◌, ℕ, [], ap, length, map, sym, subst, sum_by, arith}
use Rattle.deb_index.specs.declared.links.Links.{Links}
use Rattle.deb_index.specs.Packages.{IndexView, PackageView, aparts, needs, no_package, package_at, package_view}
use Rattle.deb_index.specs.Rows.{MadeRows, answer_row, hit_row}
use Rattle.deb_index.specs.Links.{IsLinked, packages_in}
use Rattle.deb_index.specs.Tables.{asked_count, asked_limit}
use Rattle.deb_index.proofs.LinkLemmas.{entries-room, groups-room, linked-none, linked-push, rows-fit}
use Rattle.deb_index.proofs.PartLemmas.{range-more, range-none, range-sum}
use Rattle.deb_index.proofs.links.add_rows.Goals as goal

-- the package at the next place, behind those of the range so far
module _ (index : IndexView) (from place : ℕ) (p : PackageView) (order : from ≤ place) (less : place < length index.packages) (at : p ≡ package_at index place) where
  next : packages_in index from (place + 1) ≡ packages_in index from place ++ p ∷ []
  next = range-more index.packages from place no_package order less ∙ ap (λ (q : PackageView). packages_in index from place ++ q ∷ []) (sym at)

  module _ (few : sum_by asked_count index.packages ≤ asked_limit) (l : Links) (linked : IsLinked index (packages_in index from place) l) where
    room : sum_by asked_count (packages_in index from place ++ p ∷ []) ≤ asked_limit
    room = omega (arith, ap (sum_by asked_count) next, range-sum index.packages asked_count from (place + 1), few)

    groups-fit : length l.groups + length (needs p) ≤ asked_limit
    groups-fit = omega (arith, groups-room index (packages_in index from place) p l linked, room)

    entries-fit : length l.entries + length (aparts p) ≤ asked_limit
    entries-fit = omega (arith, entries-room index (packages_in index from place) p l linked, room)

pub loop-place-init : goal.loop-place-init
loop-place-init c =
    let index = c.args.lookup.now in
    let none : Links = record { starts = c.in_ok-starts.starts; groups = c.args.groups.now.rows; entries = c.args.entries.now.rows } in
    record {
      group_index = ap (λ (r : MadeRows). r.index) c.requires.groups;
      group_role = ap (λ (r : MadeRows). r.role) c.requires.groups;
      entry_index = ap (λ (r : MadeRows). r.index) c.requires.entries;
      entry_role = ap (λ (r : MadeRows). r.role) c.requires.entries;
      linked =
          subst (λ ps. IsLinked index ps none) (sym (range-none index.packages c.args.from))
          (linked-none index none c.in_ok-starts.ensures.items (ap (λ (r : MadeRows). r.rows) c.requires.groups) (ap (λ (r : MadeRows). r.rows) c.requires.entries));
    }

pub add_groups-requires : goal.add_groups-requires
add_groups-requires c =
    let inv = c.loop-place.invariant in
    record {
      few_asked = c.package-asking.ensures.few_asked;
      few = groups-fit c.args.lookup.now c.args.from c.loop-place.place _ c.loop-place.auto.place (omega arith) c.package-asking.ensures.value c.requires.range.few_asked _ inv.linked;
      alternatives = inv.group_role;
    }

pub add_entries-requires : goal.add_entries-requires
add_entries-requires c =
    let inv = c.loop-place.invariant in
    record {
      few_asked = c.package-asking.ensures.few_asked;
      few = entries-fit c.args.lookup.now c.args.from c.loop-place.place _ c.loop-place.auto.place (omega arith) c.package-asking.ensures.value c.requires.range.few_asked _ inv.linked;
      entries = inv.entry_role;
    }

pub overflow_cast-len : goal.overflow_cast-len
overflow_cast-len c =
    let old = c.loop-place.groups in
    let few = groups-fit c.args.lookup.now c.args.from c.loop-place.place _ c.loop-place.auto.place (omega arith) c.package-asking.ensures.value c.requires.range.few_asked _ c.loop-place.invariant.linked in
    omega (arith, c.len.ensures, rows-fit (answer_row old.index) old.rows c.add_groups.new.self.rows (needs (package_view c.package-asking.result.now)) c.in_ok-add_groups.ensures.rows few)

pub overflow_cast-len-in-loop-place : goal.overflow_cast-len-in-loop-place
overflow_cast-len-in-loop-place c =
    let old = c.loop-place.entries in
    let few = entries-fit c.args.lookup.now c.args.from c.loop-place.place _ c.loop-place.auto.place (omega arith) c.package-asking.ensures.value c.requires.range.few_asked _ c.loop-place.invariant.linked in
    omega (arith, c.len-in-loop-place.ensures, rows-fit (hit_row old.index) old.rows c.add_entries.new.self.rows (aparts (package_view c.package-asking.result.now)) c.in_ok-add_entries.ensures.rows few)

pub loop-place-preserved : goal.loop-place-preserved
loop-place-preserved c =
    let index = c.args.lookup.now in
    let inv = c.loop-place.invariant in
    let p = package_view c.package-asking.result.now in
    let old : Links = record { starts = c.loop-place.starts; groups = c.loop-place.groups.rows; entries = c.loop-place.entries.rows } in
    let new : Links = record { starts = c.push.new.self; groups = c.add_groups.new.self.rows; entries = c.add_entries.new.self.rows } in
    let groups = c.in_ok-add_groups.ensures.rows ∙ ap (λ (i : IndexView). old.groups ++ map (answer_row i) (needs p)) inv.group_index in
    let entries = c.in_ok-add_entries.ensures.rows ∙ ap (λ (i : IndexView). old.entries ++ map (hit_row i) (aparts p)) inv.entry_index in
    record {
      group_index = c.add_groups.ensures.index ∙ inv.group_index;
      group_role = c.add_groups.ensures.role ∙ inv.group_role;
      entry_index = c.add_entries.ensures.index ∙ inv.entry_index;
      entry_role = c.add_entries.ensures.role ∙ inv.entry_role;
      linked =
          subst (λ ps. IsLinked index ps new) (sym (next index c.args.from c.loop-place.place p c.loop-place.auto.place (omega arith) c.package-asking.ensures.value))
          (linked-push index _ p old new inv.linked groups entries _ c.in_ok-push.ensures.items c.len.ensures c.len-in-loop-place.ensures);
    }

pub returns : goal.returns
returns c =
    let index = c.args.lookup.now in
    let made : Links = record { starts = c.loop-place.starts; groups = c.loop-place.groups.rows; entries = c.loop-place.entries.rows } in
    let end : c.loop-place.place ≡ c.args.to = omega arith in
    subst (λ n. IsLinked index (packages_in index c.args.from n) made) end c.loop-place.invariant.linked
