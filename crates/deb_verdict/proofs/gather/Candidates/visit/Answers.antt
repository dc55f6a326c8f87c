use Rattle.std.proofs.Common.{◌≡◌, ◌<◌, ◌≤◌, ◌∙◌, ℕ, length, arith, refl, sym, ap, inl, inr}
use Rattle.std.proofs.lemmas.Bool.{eq-eqb}
use Rattle.deb_groundwork.proofs.Forcing.{member_answers}
use Rattle.deb_groundwork.proofs.RowLemmas.{row_within}
use Rattle.deb_index.specs.Packages.{needs_at}
use Rattle.number_sets.specs.Sets.{NumberSet, members_of}
use Rattle.deb_verdict.proofs.GatherLemmas.{gathers_none, gathers_more, gathers_place, gathers_met_place, gathers_met, gathers_unmet}
use Rattle.deb_verdict.proofs.gather.Candidates.visit.Goals as goal
use Rattle.deb_verdict.proofs.gather.Candidates.visit.Goals.{then-not-has_any+in_ok-extend+in_ok-push, else-not-has_any}

pub loop-number-init : goal.loop-number-init
loop-number-init c = record {
  gathers = gathers_none c.args.ground.now.index.now (members_of c.args.ground.now.forced.now) (λ q j. (c.args.place ≡ q) × (j < 0)) c.args.self.now c.args.self.now refl refl (λ q j less asked. absurd (omega (arith, asked.1)));
  reaches = λ p other closed visited within. within;
}

pub loop-number-preserved : goal.loop-number-preserved
loop-number-preserved c =
    let index = c.args.ground.now.index.now in
    let forced : NumberSet = members_of c.args.ground.now.forced.now in
    let number : ℕ = c.loop-number.number in
    let below : number < length (needs_at index c.args.place) = omega (arith, c.loop-number-test.true, c.need_count-number-end.ensures) in
    let so_far = c.loop-number.invariant in
    elim c.if-not-has_any.branch [
      | then-not-has_any+in_ok-extend+in_ok-push w ↦
          rw w.self-is
          (record {
            gathers =
                gathers_more index forced c.args.place number c.args.self.now c.loop-number.self _ so_far.gathers
                (gathers_unmet index forced c.args.place number c.in_ok-row.row.now c.in_ok-row.ensures c.loop-number.self _ c.requires below
                (w.in_ok-extend.ensures.grows (length index.packages) (row_within index c.args.place number c.in_ok-row.row.now c.in_ok-row.ensures))
                w.in_ok-extend.ensures.has w.in_ok-push.ensures.items);
            reaches = λ p other closed visited within q is_in.
                elim (w.in_ok-extend.ensures.only q is_in) [
                  | inl old ↦ so_far.reaches p other closed visited within q old
                  | inr row ↦
                      closed.answered c.args.place number q (visited c.args.place (eq-eqb c.args.place c.args.place refl))
                      (sym (ap (λ list. members_of list q) c.in_ok-row.ensures ∙ member_answers index c.args.place number q) ∙ row)
                ];
          })
      | else-not-has_any w ↦
          rw w.self-is
          (record {
            gathers =
                gathers_more index forced c.args.place number c.args.self.now c.loop-number.self _ so_far.gathers
                (gathers_met index forced c.args.place number c.in_ok-row.row.now c.in_ok-row.ensures c.loop-number.self _ refl refl (sym c.has_any.ensures ∙ w.if-not-has_any.false));
            reaches = so_far.reaches;
          })
    ]

pub returns : goal.returns
returns c =
    let past : length (needs_at c.args.ground.now.index.now c.args.place) ≤ c.loop-number.number = omega (arith, c.need_count-number-end.ensures) in
    record {
      gathers = gathers_place c.args.ground.now.index.now (members_of c.args.ground.now.forced.now) c.args.place c.loop-number.number c.args.self.now c.loop-number.self past c.loop-number.invariant.gathers;
      reaches = c.loop-number.invariant.reaches;
    }

pub returns-then-is_met : goal.returns-then-is_met
returns-then-is_met c = record {
  gathers = gathers_met_place c.args.ground.now.index.now (members_of c.args.ground.now.forced.now) c.args.place c.args.self.now (c.is_met.ensures c.if-is_met.true);
  reaches = λ p other closed visited within. within;
}
