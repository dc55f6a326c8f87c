use Rattle.std.proofs.Common.{rules, tests}
use Rattle.std.proofs.lemmas.Iterator.Consumers.{map_from_collect}
use Rattle.std.proofs.lemmas.Iterator.Splits.{YieldsList-from_slice_split}
use Rattle.deb_input.specs.Names.{lines_in}
use Rattle.deb_input.proofs.names.lines_of.Goals as goal

pub returns : goal.returns
unfolding lines_in
returns c =
    rw (← c.without_feed-lines.ensures)
    (map_from_collect _ c.collect.ensures.ran (YieldsList-from_slice_split _ _ c.without_feed-lines.result.now c.split.ensures.rest c.split.ensures.done c.split.ensures.closure (λ x r q k. search (rules, tests))))
