use Rattle.std.proofs.Common.{rules, subst, sym}
use Rattle.std.proofs.lemmas.List.{nil_from_length}
use Rattle.std.specs.List.{flat_map}
use Rattle.deb_causes.specs.Near.{names_of, AreSought}
use Rattle.deb_causes.proofs.SimilarLemmas.{none-listed, none-sought}
use Rattle.deb_causes.proofs.similar.Similar.find.Goals as goal

pub returns-then-is_empty-clause-found : goal.returns-then-is_empty-clause-found
returns-then-is_empty-clause-found c =
    let lists = c.in_ok-lists.lists in
    none-sought (flat_map (names_of c.args.index.now.arch) c.args.index.now.packages) lists (nil_from_length lists.entries (c.if-is_empty.ensures.0 (search rules)))

pub returns-then-is_empty-clause-sought : goal.returns-then-is_empty-clause-sought
returns-then-is_empty-clause-sought c = c.in_ok-lists.ensures.sought

pub add_all-requires : goal.add_all-requires
add_all-requires c = none-listed c.in_ok-lists.lists c.in_ok-lists.ensures.none

pub returns-clause-found : goal.returns-clause-found
returns-clause-found c = c.in_ok-add_all.ensures.found

pub returns-clause-sought : goal.returns-clause-sought
returns-clause-sought c = subst (λ stems. AreSought c.args.index.now stems c.args.constraints.now) (sym c.in_ok-add_all.ensures.stems) c.in_ok-lists.ensures.sought
