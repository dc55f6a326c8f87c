use Rattle.std.proofs.Common.{◌≡◌, ℕ, true, false, length, sym, subst, ◌∙◌, ap, arith}
use Rattle.std.proofs.lemmas.Bool.{both_ways, not-true, not-false}
use Rattle.deb_encode.specs.declared.play.Play.{Play}
use Rattle.deb_index.specs.Packages.{aparts_at}
use Rattle.deb_encode.specs.Exclusions.{is_narrow}
use Rattle.deb_encode.proofs.EncoderLemmas.{tells_none, tells_as}
use Rattle.deb_encode.proofs.Each.{below_none, below_next}
use Rattle.deb_encode.proofs.WideEntries.{wide_none, wide_next, wide_one}
use Rattle.deb_encode.proofs.encoder.Encoder.add_entries.Goals as goal
use Rattle.deb_encode.proofs.encoder.Encoder.add_entries.Goals.{then-is_wide+in_ok-push, else-is_wide+in_ok-add_apart}

pub loop-number-init : goal.loop-number-init
loop-number-init c = record { adds = below_none _ c.args.self.now; wide = wide_none c.args.self.now.play.index.now _ c.args.entries.now.items (λ q j asked is_wide. absurd (omega (arith, asked.1))) }

pub loop-number-preserved : goal.loop-number-preserved
loop-number-preserved c =
    let index = c.args.self.now.play.index.now in
    let place = c.args.place in
    let number = c.loop-number.number in
    let same = ap (λ (play : Play). is_narrow play.index.now place number) c.loop-number.invariant.adds.same.play in
    elim c.if-is_wide.branch [
      | then-is_wide+in_ok-push w ↦
          let wide : is_narrow index place number ≡ false = not-true (is_narrow index place number) (sym c.is_wide.ensures ∙ w.if-is_wide.true) in
          rw w.self-is
          (rw w.entries-is
          (record {
            adds = below_next _ number c.args.self.now c.loop-number.self c.loop-number.self c.loop-number.invariant.adds (tells_none _ c.loop-number.self (λ vars narrow. absurd (both_ways _ (same ∙ wide) narrow)));
            wide =
                wide_next index place number c.args.entries.now.items c.loop-number.entries.items w.push.new.self.items c.loop-number.invariant.wide
                (wide_one index place number c.loop-number.entries.items w.push.new.self.items c.requires.place (omega (arith, c.loop-number-test.true, c.apart_count-number-end.ensures)) wide w.in_ok-push.ensures.items);
          }))
      | else-is_wide+in_ok-add_apart w ↦
          let narrow : is_narrow index place number ≡ true = not-false (is_narrow index place number) (sym c.is_wide.ensures ∙ w.if-is_wide.false) in
          let Narrow : ℕ → ℕ → Type 0 = λ q j. is_narrow index q j ≡ true in
          rw w.self-is
          (rw w.entries-is
          (record {
            adds = below_next _ number c.args.self.now c.loop-number.self w.add_apart.new.self c.loop-number.invariant.adds
                (tells_as _ _ c.loop-number.self w.add_apart.new.self (λ vars. (λ holds also. holds, λ holds. holds (same ∙ narrow))) w.in_ok-add_apart.ensures);
            wide =
                wide_next index place number c.args.entries.now.items c.loop-number.entries.items c.loop-number.entries.items c.loop-number.invariant.wide
                (wide_none index _ c.loop-number.entries.items (λ q j asked is_wide. absurd (both_ways (is_narrow index q j) is_wide (subst (Narrow q) asked.1 (subst (λ p. Narrow p number) asked.0 narrow)))));
          }))
    ]

pub returns : goal.returns
returns c = record {
  adds =
      tells_as _ _ c.args.self.now c.loop-number.self
      (λ vars. (
        λ all j less narrow. all j (omega (arith, less, c.loop-number-test.false, c.apart_count-number-end.ensures)) narrow,
        λ all j less narrow. all j (omega (arith, less, c.loop-number.auto.number-end, c.apart_count-number-end.ensures)) narrow,
      ))
      c.loop-number.invariant.adds;
  wide = record {
    wide = c.loop-number.invariant.wide.wide;
    kept = c.loop-number.invariant.wide.kept;
    all = λ q j same less is_wide.
        c.loop-number.invariant.wide.all q j
        (same, omega (arith, less, c.loop-number-test.false, c.apart_count-number-end.ensures, ap (λ p. length (aparts_at c.args.self.now.play.index.now p)) same)) less is_wide;
  };
}
