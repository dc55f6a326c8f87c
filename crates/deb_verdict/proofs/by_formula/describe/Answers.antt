use Rattle.std.proofs.Common.{◌≡◌, ◌∙◌, ℕ, ◌<◌, List, [], All, Some, length, map, slice_get, sym, ap, subst, refl, arith}
use Rattle.std.specs.List.Sorted.{IsStrictlyIncreasing}
use Rattle.std.proofs.lemmas.List.Elements.{All-nil}
use Rattle.std.proofs.lemmas.Option.{slice_get_within}
use Rattle.deb_index.specs.declared.constraint.Constraint.{Constraint}
use Rattle.deb_index.specs.Packages.{IndexView}
use Rattle.deb_index.specs.Constraints.{IsOfIndex, constraints_of}
use Rattle.number_sets.specs.Sets.{members_of, IsWithin}
use Rattle.sat_solve.specs.Clauses.{Clauses}
use Rattle.deb_encode.proofs.AddLemmas.{below_moved}
use Rattle.deb_verdict.specs.Closure.{kept}
use Rattle.deb_verdict.proofs.GatherLemmas.{closed_alone}
use Rattle.deb_encode.specs.Play.{TellsPlaces}
use Rattle.deb_verdict.proofs.Described.{carry}
use Rattle.deb_verdict.proofs.Settled.{IsOfClosure, told_refuted, told_admitted}
use Rattle.deb_verdict.proofs.Encoded.{sizes}
use Rattle.deb_verdict.proofs.by_formula.describe.Goals as goal

pub new-play-requires-clause-rising : goal.new-play-requires-clause-rising
new-play-requires-clause-rising c = c.in_ok-gather.ensures.gathered.rising

pub new-play-requires-clause-candidates_within : goal.new-play-requires-clause-candidates_within
new-play-requires-clause-candidates_within c = c.in_ok-gather.ensures.gathered.within

pub new-play-requires-clause-forced_within : goal.new-play-requires-clause-forced_within
new-play-requires-clause-forced_within c = below_moved c.clear.new.self.members [] _ _ c.clear.ensures.members refl (All-nil (λ q. q < length c.args.index.now.packages))

pub count_of-requires-clause-rising : goal.count_of-requires-clause-rising
count_of-requires-clause-rising c = subst IsStrictlyIncreasing (sym c.as_slice-members.ensures) c.in_ok-gather.ensures.gathered.rising

pub list_positions-requires : goal.list_positions-requires
list_positions-requires c = record {
  members = below_moved c.as_slice-members.result.now c.gather.new.self.places _ _ c.as_slice-members.ensures refl
      c.in_ok-gather.ensures.gathered.within;
}

pub list_constraints-requires : goal.list_constraints-requires
list_constraints-requires c = below_moved c.deref.result.now c.list_positions.new.positions.items _ _ c.deref.ensures.value refl c.in_ok-list_positions.ensures.in_list

pub count_of-requires-clause-within : goal.count_of-requires-clause-within
count_of-requires-clause-within c =
    below_moved c.as_slice-members.result.now c.gather.new.self.places _ _ c.as_slice-members.ensures refl
    c.in_ok-gather.ensures.gathered.within

pub encode_each-requires-clause-empty : goal.encode_each-requires-clause-empty
encode_each-requires-clause-empty c =
    let positions : List ℕ = c.list_positions.new.positions.items in
    let constraints : List Constraint = c.deref-2.result.now in
    let Stand : List ℕ → Type 0 = λ list. map (slice_get (constraints_of c.args.index.now)) list ≡ map (λ (x : Constraint). Some x) constraints in
    let stand : Stand positions = subst Stand c.deref.ensures.value (c.in_ok-list_constraints.ensures.stand ∙ ap (map (λ (x : Constraint). Some x)) (sym c.deref-2.ensures.value)) in
    let Of : ℕ → ℕ → Clauses = λ vars groups. record { vars = vars; groups = groups; clauses = [] } in
    let vars_is : c.count_of.result ≡ length c.new-play.result.candidates.now = c.count_of.ensures ∙ (ap length c.as_slice-members.ensures ∙ sym (ap length c.new-play.ensures.candidates)) in
    let groups_is : c.len.result ≡ length constraints = omega (arith, c.len.ensures, sizes c.args.index.now c.gather.new.self.places positions constraints stand, c.list_positions.new.positions.ok) in
    c.in_ok-formula.ensures ∙ (ap (λ (n : ℕ). Of n c.len.result) vars_is ∙ ap (λ (n : ℕ). Of (length c.new-play.result.candidates.now) n) groups_is)

pub encode_each-requires-clause-of_index : goal.encode_each-requires-clause-of_index
encode_each-requires-clause-of_index c =
    let AreOf : IndexView → Type 0 = λ index. All (IsOfIndex index) c.deref-2.result.now in
    let Of : List Constraint → Type 0 = λ list. All (IsOfIndex c.args.index.now) list in
    subst AreOf (sym c.new-play.ensures.index) (subst Of (sym c.deref-2.ensures.value) c.in_ok-list_constraints.ensures.of_index)

pub overflow_cast-result : goal.overflow_cast-result
overflow_cast-result c =
    let there : slice_get c.gather.new.self.places c.unwrap-must.result ≡ Some c.args.p = rw c.unwrap-must.ensures at c.position_of.ensures.some in
    omega (
      arith,
      slice_get_within c.gather.new.self.places c.unwrap-must.result c.args.p there,
      ap length c.as_slice-members.ensures,
      c.count_of.ensures,
      c.count_of.type_inv,
    )

pub invariant_of-result : goal.invariant_of-result
invariant_of-result c =
    let positions : List ℕ = c.list_positions.new.positions.items in
    let constraints : List Constraint = c.deref-2.result.now in
    let Stand : List ℕ → Type 0 = λ list. map (slice_get (constraints_of c.args.index.now)) list ≡ map (λ (x : Constraint). Some x) constraints in
    let stand : Stand positions = subst Stand c.deref.ensures.value (c.in_ok-list_constraints.ensures.stand ∙ ap (map (λ (x : Constraint). Some x)) (sym c.deref-2.ensures.value)) in
    let there : slice_get c.gather.new.self.places c.unwrap-must.result ≡ Some c.args.p = rw c.unwrap-must.ensures at c.position_of.ensures.some in
    record {
      groups = c.in_ok-encode_each.ensures.groups ∙ sym (sizes c.args.index.now c.gather.new.self.places positions constraints stand);
      variable = omega (arith, slice_get_within c.gather.new.self.places c.unwrap-must.result c.args.p there, c.in_ok-encode_each.ensures.vars, ap length c.new-play.ensures.candidates);
    }

pub returns : goal.returns
returns c =
    let index = c.args.index.now in
    let members : List ℕ = c.gather.new.self.places in
    let positions : List ℕ = c.list_positions.new.positions.items in
    let constraints : List Constraint = c.deref-2.result.now in
    let formula = c.encode_each.new.formula in
    let Within : List ℕ → Type 0 = λ list. IsWithin (kept index (members_of list)) (members_of positions) in
    let Stand : List ℕ → Type 0 = λ list. map (slice_get (constraints_of index)) list ≡ map (λ (x : Constraint). Some x) constraints in
    let there : slice_get members c.unwrap-must.result ≡ Some c.args.p = rw c.unwrap-must.ensures at c.position_of.ensures.some in
    let of_closure : IsOfClosure index c.args.p members positions constraints formula = record {
      closed = closed_alone index c.args.p c.clear.new.self.members c.gather.new.self c.clear.ensures.members c.in_ok-gather.ensures.gathered c.in_ok-gather.ensures.start;
      all = subst Within c.as_slice-members.ensures c.in_ok-list_positions.ensures.all;
      vars = c.in_ok-encode_each.ensures.vars ∙ ap length c.new-play.ensures.candidates;
      stand = subst Stand c.deref.ensures.value (c.in_ok-list_constraints.ensures.stand ∙ ap (map (λ (x : Constraint). Some x)) (sym c.deref-2.ensures.value));
      tells =
          carry (λ one forced candidates. TellsPlaces one forced candidates constraints formula.clauses) c.new-play.result.index.now index c.new-play.result.forced.now [] c.new-play.result.candidates.now members
          c.new-play.ensures.index (c.new-play.ensures.forced ∙ c.clear.ensures.members) c.new-play.ensures.candidates c.in_ok-encode_each.ensures.tells;
    } in
    record {
      refuted = told_refuted index c.args.p members positions constraints formula of_closure c.unwrap-must.result there;
      admitted = told_admitted index c.args.p members positions constraints formula of_closure c.unwrap-must.result there;
    }

pub invariant_of-ground-clause-within : goal.invariant_of-ground-clause-within
invariant_of-ground-clause-within c =
    below_moved c.clear.new.self.members [] _ _ c.clear.ensures.members refl (All-nil (λ q. q < length c.args.index.now.packages))
