use Rattle.std.proofs.Common.{◌≡◌, ◌<◌, ◌∙◌, length, ap, arith}
use Rattle.deb_index.specs.Packages.{name_at}
use Rattle.number_sets.specs.Sets.{members_of}
use Rattle.deb_groundwork.proofs.Derived.{only_gives}
use Rattle.deb_groundwork.proofs.derivation.by_only.Goals as goal

pub returns : goal.returns
returns c =
    let two = c.are_two.ensures c.if-not-are_two.false in
    let first : c.args.first < length c.args.index.now.packages = omega (arith, c.len.ensures.value) in
    let second : c.args.second < length c.args.index.now.packages = omega (arith, c.len-else-first-len.ensures.value) in
    let one : c.name_of-name.result ≡ c.name_of.result = omega arith in
    only_gives c.args.index.now (members_of c.args.forced.now) c.args.first c.args.second c.name_of-name.result c.only_position.result c.only_position.ensures first second
    two.0 two.1 two.2 c.name_of-name.ensures.name (ap (name_at c.args.index.now) one ∙ c.name_of.ensures.name)
