use Rattle.std.proofs.Common.{◌≡◌, ℕ, true, List, ◌++◌, Vec, Global, sym, subst, ap, ◌∙◌}
use Rattle.number_sets.specs.Sets.{NumberSet, members_of}
use Rattle.core_extract.specs.Reduction.{left}
use Rattle.deb_health.specs.Causes.{without}
use Rattle.deb_verdict.specs.Formulas.{AreNeeded}
use Rattle.deb_verdict.proofs.KnownLemmas.{fewer_needed, left_within, both_needed, none_needed}
use Rattle.deb_verdict.proofs.known.Known.take.Goals as goal
use Rattle.deb_verdict.proofs.known.Known.take.Goals.{then-from-self+then-goes_on, else-from-self}

pub returns : goal.returns
returns c = λ index p out known needed_more.
    let old = c.args.self.now in
    let kept : List ℕ = c.args.kept.now in
    let some : List ℕ = c.if-from-self.needed.items in
    let part : NumberSet = without out (left (members_of kept) c.args.from) in
    let Are : List ℕ → Type 0 = λ list. AreNeeded index p part list in
    let first : AreNeeded index p part some = elim c.if-from-self.branch [
      | then-from-self+then-goes_on w ↦
          subst (λ (one : Vec ℕ Global). Are one.items) (sym (w.needed-is ∙ w.swap.ensures.x_after))
          (fewer_needed index p out (left (members_of old.settled.items) old.from) (left (members_of kept) c.args.from) old.needed.items
          (left_within kept old.settled.items old.from c.args.from w.if-from-self.true
          (subst (λ settled. (k : ℕ) → members_of kept k ≡ true → left (members_of settled) old.from k ≡ true) w.deref.ensures.value (w.goes_on.ensures w.if-goes_on.true)))
          known.needed)
      | else-from-self w ↦ subst Are (sym (ap (λ (one : Vec ℕ Global). one.items) w.needed-is ∙ c.new-needed.ensures.items)) (none_needed index p part)
    ] in
    let settled_is : c.extend_from_slice-2.new.self.items ≡ kept = c.in_ok-extend_from_slice-2.ensures.items ∙ ap (λ front. front ++ kept) c.clear-2.ensures.items in
    record {
      rising = c.sort_once.ensures.rising;
      needed =
          subst (λ settled. AreNeeded index p (without out (left (members_of settled) c.args.from)) c.sort_once.new.numbers.items) (sym settled_is)
          (both_needed index p part some c.args.more.now c.sort_once.new.numbers.items first needed_more
          (λ k. c.sort_once.ensures.same k ∙ ap (λ list. members_of list k) c.in_ok-extend_from_slice.ensures.items));
    }
