use Rattle.std.proofs.Common.{◌≡◌, ℕ, List, [], ◌∷◌, ◌++◌, Vec, Global, All, Some, slice_get, map, refl, sym, subst, ◌∙◌, ap, arith}
use Rattle.std.specs.List.Sorted.{IsStrictlyIncreasing}
use Rattle.std.proofs.lemmas.List.{map-append}
use Rattle.std.proofs.lemmas.List.Elements.{All-nil, All-push}
use Rattle.deb_index.specs.declared.constraint.Constraint.{Constraint}
use Rattle.deb_index.specs.Constraints.{IsOfIndex, constraints_of}
use Rattle.deb_encode.proofs.AddLemmas.{below_moved}
use Rattle.number_sets.specs.Sets.{all_of, members_of}
use Rattle.deb_health.proofs.CoreLemmas.{first_of_all}
use Rattle.deb_health.specs.Causes.{cause_at, either, IsFirstWithout, without}
use Rattle.deb_health.specs.Health.{Admits}
use Rattle.deb_verdict.proofs.CauseSteps.{all_told, fewer_left, one_found}
use Rattle.deb_verdict.proofs.all_causes.cores_in.Goals as goal

pub take_out-requires : goal.take_out-requires
take_out-requires c =
    below_moved c.deref-in-Some.result.now c.in-Some.positions.items _ _ c.deref-in-Some.ensures.value refl (rw c.in-Some.is at c.in_ok-positions.ensures.within)

pub list_constraints-requires : goal.list_constraints-requires
list_constraints-requires c =
    below_moved c.deref.result.now c.in-Some.positions.items _ _ c.deref.ensures.value refl (rw c.in-Some.is at c.in_ok-positions.ensures.within)

pub returns-in-First-clause-told : goal.returns-in-First-clause-told
returns-in-First-clause-told c =
    let index = c.args.groundwork.now.index.now in
    let core : Vec Constraint Global = c.list_constraints.new.constraints in
    let positions : List ℕ = c.in-Some.positions.items in
    let First : List ℕ → Type 0 = λ list. IsFirstWithout index c.args.p (members_of list) positions in
    let Stand : List ℕ → Type 0 = λ list. map (slice_get (constraints_of index)) list ≡ map (λ (x : Constraint). Some x) core.items in
    let begins = c.loop-out.invariant.begins c.in-First.is in
    let first : First [] = subst First begins.0 (rw c.in-Some.is at c.in_ok-positions.ensures.first) in
    rw c.in-First.is (
      c.requires.hopeless,
      (
        core.items,
        ap (map (λ (one : Vec Constraint Global). one.items)) (c.in_ok-push.ensures.items ∙ ap (λ list. list ++ core ∷ []) begins.1),
        record {
          positions = positions;
          rising = first.rising;
          first = first_of_all index c.args.p (members_of []) positions (λ k. refl) first.first;
          stand_there = subst Stand c.deref.ensures.value c.in_ok-list_constraints.ensures.stand;
        },
      ),
    )

pub returns-in-First-clause-within : goal.returns-in-First-clause-within
returns-in-First-clause-within c =
    let lists : Vec Constraint Global → List Constraint = λ one. one.items in
    rw (c.in_ok-push.ensures.items, map-append lists c.loop-out.cores.items (c.list_constraints.new.constraints ∷ []))
    (All-push (All (IsOfIndex c.args.groundwork.now.index.now)) (map lists c.loop-out.cores.items) c.list_constraints.new.constraints.items c.loop-out.invariant.within c.in_ok-list_constraints.ensures.of_index)

pub loop-out-preserved : goal.loop-out-preserved
loop-out-preserved c =
    let index = c.args.groundwork.now.index.now in
    let p = c.args.p in
    let out : List ℕ = c.loop-out.out in
    let after : List ℕ = c.take_out.new.out in
    let positions : List ℕ = c.in-Some.positions.items in
    let core : Vec Constraint Global = c.list_constraints.new.constraints in
    let cores : List (Vec Constraint Global) = c.loop-out.cores.items in
    let First : List ℕ → Type 0 = λ list. IsFirstWithout index p (members_of list) positions in
    let Stand : List ℕ → Type 0 = λ list. map (slice_get (constraints_of index)) list ≡ map (λ (x : Constraint). Some x) core.items in
    let Taken : List ℕ → Type 0 = λ list. (k : ℕ) → members_of after k ≡ either (members_of out) (cause_at index list) k in
    let lists : Vec Constraint Global → List Constraint = λ one. one.items in
    let first : First out = rw c.in-Some.is at c.in_ok-positions.ensures.first in
    let stand : Stand positions = subst Stand c.deref.ensures.value c.in_ok-list_constraints.ensures.stand in
    let taken : Taken positions = subst Taken c.deref-in-Some.ensures.value c.in_ok-take_out.ensures in
    record {
      told = c.first_positions.ensures.formula;
      begins = λ is. absurd (c.in_default-cores.not-First is);
      found =
          rw (c.in_ok-push.ensures.items, map-append lists cores (core ∷ []))
          (one_found index p (members_of out) (members_of after) positions first taken core.items (map lists cores) stand c.loop-out.invariant.found);
      within =
          rw (c.in_ok-push.ensures.items, map-append lists cores (core ∷ []))
          (All-push (All (IsOfIndex index)) (map lists cores) core.items c.loop-out.invariant.within c.in_ok-list_constraints.ensures.of_index);
    }

pub loop-out-smaller : goal.loop-out-smaller
loop-out-smaller c =
    let index = c.args.groundwork.now.index.now in
    let p = c.args.p in
    let out : List ℕ = c.loop-out.out in
    let after : List ℕ = c.take_out.new.out in
    let positions : List ℕ = c.in-Some.positions.items in
    let Taken : List ℕ → Type 0 = λ list. (k : ℕ) → members_of after k ≡ either (members_of out) (cause_at index list) k in
    fewer_left index p (members_of out) (members_of after) positions
    (rw c.in-Some.is at c.in_ok-positions.ensures.first)
    (subst Taken c.deref-in-Some.ensures.value c.in_ok-take_out.ensures)
    (rw c.in-Some.is at c.in_ok-positions.ensures.within)

pub returns-clause-told : goal.returns-clause-told
returns-clause-told c =
    let index = c.args.groundwork.now.index.now in
    let p = c.args.p in (
      c.requires.hopeless,
      all_told index p c.args.wanted.cores c.loop-out.out (map (λ (core : Vec Constraint Global). core.items) c.loop-out.cores.items) c.in_default.not-None (λ is. (c.loop-out.invariant.begins is).0)
          c.requires.hopeless c.loop-out.invariant.found (rw c.in_default-2.is at c.in_ok-positions.ensures.none),
    )

pub loop-out-init : goal.loop-out-init
loop-out-init c =
    rw (c.clear.ensures, c.new-cores.ensures.items)
    (record {
      told = c.requires.formula;
      begins = λ is. (refl, refl);
      found = record { positions = []; further = λ later are. are; stand_there = refl };
      within = All-nil (All (IsOfIndex c.args.groundwork.now.index.now));
    })
