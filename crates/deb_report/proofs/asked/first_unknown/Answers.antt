use Rattle.std.proofs.Common.{◌≡◌, ◌<◌, arith, false, length, rules, true}
use Rattle.deb_report.specs.Outcome.{is_unknown}
use Rattle.number_sets.proofs.ListLemmas.{find_here, find_past}
use Rattle.deb_report.proofs.asked.first_unknown.Goals as goal

pub returns-then-is_unknown : goal.returns-then-is_unknown
returns-then-is_unknown c =
    let inside : c.loop-name.name-index < length c.args.names.now = omega arith in
    let unknown : is_unknown c.args.index.now c.name-item.result.items ≡ true = search rules in
    find_here (is_unknown c.args.index.now) (λ name. name.items) c.args.names.now c.loop-name.name-index c.name-item.result inside c.name-item.is c.loop-name.invariant unknown

pub loop-name-preserved : goal.loop-name-preserved
loop-name-preserved c =
    let inside : c.loop-name.name-index < length c.args.names.now = omega arith in
    let known : is_unknown c.args.index.now c.name-item.result.items ≡ false = search rules in
    find_past (is_unknown c.args.index.now) (λ name. name.items) c.args.names.now c.loop-name.name-index c.name-item.result inside c.name-item.is c.loop-name.invariant known
