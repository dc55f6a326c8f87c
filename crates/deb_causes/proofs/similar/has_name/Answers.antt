use Rattle.std.proofs.Common.{rules, ◌≡◌, ◌<◌, arith, length, sym, true}
use Rattle.std.specs.Str.{bytes_eq}
use Rattle.number_sets.proofs.ListLemmas.{any_here}
use Rattle.deb_causes.proofs.similar.has_name.Goals as goal

pub returns-then-eq : goal.returns-then-eq
returns-then-eq c =
    let inside : c.loop-one.one-index < length c.args.names.now = omega arith in
    let passes : bytes_eq c.args.name.now c.one-item.result.items ≡ true = search rules in
    sym (any_here (bytes_eq c.args.name.now) (λ one. one.items) c.args.names.now c.loop-one.one-index c.one-item.result inside c.one-item.is passes)
