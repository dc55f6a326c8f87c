use Rattle.std.proofs.Common.{◌≡◌, ℕ, Bool, List, Some, length, slice_get, ◌∙◌, ap, subst, sym, refl, arith}
use Rattle.std.proofs.lemmas.Option.{slice_get_within}
use Rattle.number_sets.specs.Sets.{members_of, MarksOnly}
use Rattle.deb_encode.specs.Play.{placed}
use Rattle.deb_encode.proofs.AddLemmas.{below_moved}
use Rattle.deb_verdict.proofs.Inserted.{placed_below}
use Rattle.deb_verdict.proofs.FirstSet.{first_answer, no_answer, vars_below}
use Rattle.deb_verdict.proofs.GatherLemmas.{enough, marks_more}
use Rattle.deb_groundwork.specs.Groundwork.{HasAnswers}
use Rattle.deb_verdict.proofs.first_set.first_set.Goals as goal

pub count_of-count-requires-clause-within : goal.count_of-count-requires-clause-within
count_of-count-requires-clause-within c = below_moved c.as_slice.result.now c.gather.new.self.places _ _ c.as_slice.ensures refl c.in_ok-gather.ensures.gathered.within

pub invariant_of-ground-clause-marks : goal.invariant_of-ground-clause-marks
invariant_of-ground-clause-marks c =
    let index = c.args.groundwork.now.index.now in
    let Of : List Bool → Type 0 = λ marks. MarksOnly (HasAnswers index (members_of c.force.new.forced)) marks in
    subst Of (sym c.deref.ensures.value) (marks_more index (members_of c.args.groundwork.now.forced) (members_of c.force.new.forced) c.args.groundwork.now.met.items c.in_ok-force.ensures.ground c.args.groundwork.now.marks_met)

pub overflow_cast-must : goal.overflow_cast-must
overflow_cast-must c =
    let there : slice_get c.gather.new.self.places c.unwrap-must.result ≡ Some c.args.p = rw c.unwrap-must.ensures at c.position_of.ensures.some in
    omega (
      arith,
      slice_get_within c.gather.new.self.places c.unwrap-must.result c.args.p there,
      ap length c.as_slice.ensures,
      c.count_of-count.ensures,
      c.count_of-count.type_inv,
    )

pub solve_in-requires-clause-must : goal.solve_in-requires-clause-must
solve_in-requires-clause-must c =
    let there : slice_get c.gather.new.self.places c.unwrap-must.result ≡ Some c.args.p = rw c.unwrap-must.ensures at c.position_of.ensures.some in
    omega (arith, slice_get_within c.gather.new.self.places c.unwrap-must.result c.args.p there, c.in_ok-describe.ensures.vars)

pub list_set-requires : goal.list_set-requires
list_set-requires c =
    below_moved c.deref-in-Some.result.now c.in-Some.vars.items _ _ c.deref-in-Some.ensures.value (ap length c.as_slice-in-Some-2.ensures)
    (vars_below c.gather.new.self.places c.describe.new.formula.clauses c.unwrap-must.result c.describe.new.formula.vars c.in_ok-describe.ensures.vars c.in-Some.vars.items
    (rw c.in-Some.is at c.in_ok-found.ensures.first))

pub returns-in_ok-places-in-Some : goal.returns-in_ok-places-in-Some
returns-in_ok-places-in-Some c =
    let forced : List ℕ = c.force.new.forced in
    let candidates : List ℕ = c.gather.new.self.places in
    let vars : List ℕ = c.in-Some.vars.items in
    let places : List ℕ = c.in_ok-places-in-Some.places.items in
    let there : slice_get candidates c.unwrap-must.result ≡ Some c.args.p = rw c.unwrap-must.ensures at c.position_of.ensures.some in
    let listed : (q : ℕ) → members_of places q ≡ placed forced candidates (members_of vars) q =
    λ q. c.in_ok-places-in-Some.ensures.placed q
    ∙ (ap (λ list. placed list c.as_slice-in-Some-2.result.now (members_of c.deref-in-Some.result.now) q) c.as_slice-in-Some.ensures
    ∙ (ap (λ list. placed forced list (members_of c.deref-in-Some.result.now) q) c.as_slice-in-Some-2.ensures
    ∙ ap (λ list. placed forced candidates (members_of list) q) c.deref-in-Some.ensures.value)) in
    record {
      first =
          first_answer c.args.groundwork.now.index.now c.args.p forced candidates c.describe.new.formula.clauses c.unwrap-must.result c.in_ok-force.ensures.follows
          (enough c.args.groundwork.now.index.now (members_of forced) c.gather.new.self c.in_ok-gather.ensures.gathered) c.in_ok-gather.ensures.gathered.rising there c.in_ok-describe.ensures.in_group
          c.in_ok-describe.ensures.describes c.describe.new.formula.vars c.in_ok-describe.ensures.vars vars places (rw c.in-Some.is at c.in_ok-found.ensures.first) c.in_ok-places-in-Some.ensures.rising listed;
      within = placed_below forced candidates vars places _ listed c.in_ok-force.ensures.within c.in_ok-gather.ensures.gathered.within;
      none = tt;
    }

pub returns-in-None-clause-none : goal.returns-in-None-clause-none
returns-in-None-clause-none c =
    let there : slice_get c.gather.new.self.places c.unwrap-must.result ≡ Some c.args.p = rw c.unwrap-must.ensures at c.position_of.ensures.some in
    no_answer c.args.groundwork.now.index.now c.args.p c.force.new.forced c.gather.new.self.places c.describe.new.formula.clauses c.unwrap-must.result c.in_ok-force.ensures.follows
    (enough c.args.groundwork.now.index.now (members_of c.force.new.forced) c.gather.new.self c.in_ok-gather.ensures.gathered) c.in_ok-gather.ensures.gathered.rising there c.in_ok-describe.ensures.in_group
    c.in_ok-describe.ensures.describes c.describe.new.formula.vars c.in_ok-describe.ensures.vars (rw c.in-None.is at c.in_ok-found.ensures.none)
