use Rattle.std.proofs.Common.{◌≡◌, ◌++◌, None, arith, length, reverse, rules}
use Rattle.deb_report.specs.Walk.{places_in, step_limit}
use Rattle.deb_report.proofs.WalkLemmas.{left-within, next-within}
use Rattle.deb_report.specs.Sought.{FitsWalk}
use Rattle.deb_report.specs.WalkLines.{walk_text}
use Rattle.deb_report.proofs.WalkTextLemmas.{ended, gone, run_out}
use Rattle.deb_report.proofs.walk_constraints.Walk.go_all.Goals as goal

pub go-requires : goal.go-requires
go-requires c = next-within c.args.self.now.index.now (FitsWalk c.args.self.now.index.now c.args.self.now.similar.now) c.loop.stack.items c.pop.new.self.items c.in-Some.step c.in-Some.ensures.items c.loop.invariant.0

pub loop-preserved : goal.loop-preserved
loop-preserved c =
    let index = c.args.self.now.index.now in
    let core = c.args.self.now.core.now in
    let coming = places_in c.args.self.now.coming.now in
    let stack = c.loop.stack.items in
    let popped = c.pop.new.self.items in
    let next = c.put_before.new.stack.items in
    let steps = c.in_ok-behind.behind.items in (
      left-within index (FitsWalk index c.args.self.now.similar.now) core (places_in c.loop.told) stack popped next steps c.in-Some.step c.in-Some.ensures.items c.in_ok-put_before.ensures c.in_ok-behind.ensures.steps c.requires.core c.loop.invariant.0,
      gone index core coming (places_in c.loop.told) (places_in c.go.new.told) step_limit c.loop.counter c.loop.out.items c.go.new.out.items (c.args.out.now.items ++ walk_text step_limit index core coming (places_in c.args.told.now) (reverse c.args.stack.now.items))
          stack popped next steps c.in-Some.step c.loop-test.true c.in-Some.ensures.items c.in_ok-behind.ensures.text c.in_ok-behind.ensures.told c.in_ok-put_before.ensures c.in_ok-behind.ensures.steps
          c.loop.invariant.1,
    )

pub returns-in_default : goal.returns-in_default
returns-in_default c =
    let none : c.pop.result ≡ None = search rules in
    let cases = rw none at c.pop.ensures.cases in
    let empty : length c.loop.stack.items ≡ 0 = omega (arith, cases.0, c.loop.stack.ok) in
    ended c.args.self.now.index.now c.args.self.now.core.now (places_in c.args.self.now.coming.now) (places_in c.loop.told) _ c.loop.out.items _ c.loop.stack.items empty c.loop.invariant.1

pub returns : goal.returns
returns c =
    run_out c.args.self.now.index.now c.args.self.now.core.now (places_in c.args.self.now.coming.now) (places_in c.loop.told) step_limit c.loop.counter c.loop.out.items _ (reverse c.loop.stack.items)
    (omega (arith, c.loop-test.false)) c.loop.invariant.1
