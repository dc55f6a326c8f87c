use Rattle.std.proofs.Common.{List, ℕ, ◌&&◌, sym, subst, ◌∙◌, ap, arith}
use Rattle.deb_index.specs.Meets.{meets_at}
use Rattle.number_sets.specs.Sets.{members_of}
use Rattle.deb_encode.specs.Encoders.{in_play}
use Rattle.deb_encode.specs.Exclusions.{IsRun}
use Rattle.deb_encode.proofs.EncoderLemmas.{tells_as, tells_both}
use Rattle.deb_encode.proofs.Each.{below_none}
use Rattle.deb_encode.proofs.WideEntries.{run_says, all_runs}
use Rattle.deb_encode.proofs.encoder.Encoder.add_runs.Goals as goal

pub loop-start-init : goal.loop-start-init
loop-start-init c = record { within = omega arith; adds = below_none _ c.args.self.now }

pub loop-start-preserved : goal.loop-start-preserved
loop-start-preserved c =
    let Run : List ℕ → Type 0 = λ list. IsRun c.args.self.now.play.index.now c.args.entries.now c.loop-start.start c.in_ok-end.end list in
    record {
      within = c.in_ok-end.ensures.within;
      adds =
          tells_as _ _ c.args.self.now c.add_all_apart.new.self
          (λ vars. run_says c.args.self.now.play.index.now c.args.self.now.play.forced.now c.args.self.now.play.candidates.now vars c.args.entries.now c.loop-start.start c.in_ok-end.end c.deref.result.now c.deref-in-loop-start.result.now
          (subst Run (sym c.deref.ensures.value) c.in_ok-end.ensures.run)
          (λ q. ap (λ list. members_of list q) c.deref-in-loop-start.ensures.value
          ∙ (c.in_ok-list_meeting.ensures q ∙ ap (λ atom. in_play c.args.self.now.play q && meets_at c.args.self.now.play.index.now q atom) c.apart.ensures))
          (omega (arith, c.in_ok-end.ensures.past)))
          (tells_both _ _ c.args.self.now c.loop-start.self c.add_all_apart.new.self c.loop-start.invariant.adds c.in_ok-add_all_apart.ensures);
    }

pub returns : goal.returns
returns c = tells_as _ _ c.args.self.now c.loop-start.self (λ vars. all_runs c.args.self.now.play.index.now c.args.self.now.play.forced.now c.args.self.now.play.candidates.now vars c.args.entries.now c.loop-start.start (omega (arith, c.loop-start.invariant.within, c.loop-start-test.false))) c.loop-start.invariant.adds
