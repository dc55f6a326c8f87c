use Rattle.std.proofs.Common.{rules, ◌≡◌, ℕ, ◌+◌, false, List, refl, sym, subst, arith}
use Rattle.number_sets.specs.Sets.{NumberSet, members_of}
use Rattle.core_extract.specs.Reduction.{left}
use Rattle.core_extract.proofs.Cores.{IsReduced, reduced_pushed, rising_after}
use Rattle.core_extract.proofs.reduction.first_failing.Goals as goal

pub loop-first-preserved-in_ok-push-2 : goal.loop-first-preserved-in_ok-push-2
loop-first-preserved-in_ok-push-2 g c =
    let so_far = c.loop-first.invariant in
    let numbers : List ℕ = c.loop-first.kept.items in
    let next : ℕ = c.in-Some.first in
    let last : ℕ = c.last_of_stride-last.result in
    let alone : next ≡ last = c.if-first-last.true in
    let is_false : c.in_ok-refute-2.field-0 ≡ false = search rules in
    let FailsFrom : List ℕ → Type 0 = λ list. g.Q.Question.is_failing c.loop-first.question (left (members_of list) (last + 1)) in
    let FailsAfter : ℕ → Type 0 = λ number. g.Q.Question.is_failing c.loop-first.question (left (members_of numbers) (number + 1)) in (
      reduced_pushed (g.Q.Question.is_failing c.refute.new.self) (g.met.Q.Question.upward c.refute.new.self) (g.Q.Question.used c.loop-first.question) (g.Q.Question.used c.refute-in-Some.new.self)
          numbers c.push-then-first-last.new.self.items c.loop-first.at next c.in-Some.ensures.some.0 c.in-Some.ensures.some.3 so_far.0
          (λ still. c.in_ok-refute-2.ensures.admitted is_false (subst FailsFrom (sym c.deref-in-Some-2.ensures.value) (subst FailsAfter alone ((so_far.2 (left (members_of numbers) (next + 1))).0 still))))
          (c.in_ok-refute-2.ensures.still is_false) c.in_ok-push-2.ensures.items,
      rising_after numbers c.push-then-first-last.new.self.items c.loop-first.at next c.in-Some.ensures.some.0 so_far.1 so_far.0.settled c.in_ok-push-2.ensures.items,
      λ (set : NumberSet). (λ fails. (c.in_ok-refute-2.ensures.same set).0 ((so_far.2 set).0 fails), λ fails. (so_far.2 set).1 ((c.in_ok-refute-2.ensures.same set).1 fails)),
      g.met.Q.Question.keeps_further c.refute.new.self c.loop-first.question c.refute-in-Some.new.self so_far.3 c.in_ok-refute-2.ensures.kept,
      omega arith,
    )

pub loop-first-preserved : goal.loop-first-preserved
loop-first-preserved g c =
    let so_far = c.loop-first.invariant in
    let is_false : c.in_ok-refute-2.field-0 ≡ false = search rules in
    let Used : NumberSet → Type 0 = λ set. IsReduced (g.Q.Question.is_failing c.refute.new.self) set (members_of c.loop-first.kept.items) c.loop-first.at in (
      subst Used (sym (c.in_ok-refute-2.ensures.still is_false)) so_far.0,
      so_far.1,
      λ (set : NumberSet). (λ fails. (c.in_ok-refute-2.ensures.same set).0 ((so_far.2 set).0 fails), λ fails. (so_far.2 set).1 ((c.in_ok-refute-2.ensures.same set).1 fails)),
      g.met.Q.Question.keeps_further c.refute.new.self c.loop-first.question c.refute-in-Some.new.self so_far.3 c.in_ok-refute-2.ensures.kept,
      omega arith,
    )

pub loop-first-preserved-then-is_needed : goal.loop-first-preserved-then-is_needed
loop-first-preserved-then-is_needed g c =
    let so_far = c.loop-first.invariant in
    let numbers : List ℕ = c.loop-first.kept.items in
    let next : ℕ = c.in-Some.first in
    let FailsFrom : List ℕ → Type 0 = λ list. g.Q.Question.is_failing c.loop-first.question (left (members_of list) (next + 1)) in (
      reduced_pushed (g.Q.Question.is_failing c.refute.new.self) (g.met.Q.Question.upward c.refute.new.self) (g.Q.Question.used c.loop-first.question) (g.Q.Question.used c.loop-first.question)
          numbers c.push.new.self.items c.loop-first.at next c.in-Some.ensures.some.0 c.in-Some.ensures.some.3 so_far.0
          (λ still. c.is_needed.ensures c.if-is_needed.true (subst FailsFrom (sym c.deref.ensures.value) ((so_far.2 (left (members_of numbers) (next + 1))).0 still)))
          refl c.in_ok-push.ensures.items,
      rising_after numbers c.push.new.self.items c.loop-first.at next c.in-Some.ensures.some.0 so_far.1 so_far.0.settled c.in_ok-push.ensures.items,
      so_far.2,
      so_far.3,
      omega (arith, so_far.4, c.in-Some.ensures.some.0),
    )
