use Rattle.std.proofs.Common.{◌∙◌, List, ℕ, sym}
use Rattle.std.proofs.lemmas.Bool.{or_right}
use Rattle.number_sets.specs.Sets.{members_of}
use Rattle.deb_groundwork.proofs.BaseLemmas.{held_on_base, on_base}
use Rattle.deb_groundwork.proofs.witness.is_witness.Goals as goal

pub returns-then-contains : goal.returns-then-contains
returns-then-contains c = λ holds.
    let part = c.args.part.now in
    let base = c.args.base.now in
    let more : List ℕ = c.args.more.now in (
      on_base part base c.requires.base more,
      or_right (members_of base.members c.args.p) (members_of more c.args.p) (sym c.contains.ensures ∙ c.if-contains.true),
      held_on_base part base c.requires.base more c.requires.room (c.meets_essentials.ensures holds) c.requires.meets,
    )
