use Rattle.std.proofs.Common.{ap}
use Rattle.deb_report.specs.Content.{ContentView}
use Rattle.deb_report.proofs.layout.text_of.Goals as goal

pub similar_to_walks-requires : goal.similar_to_walks-requires
similar_to_walks-requires c = rw c.as_slice.ensures.value c.in_ok-content.ensures.within.blocks

pub text-requires-clause-walked : goal.text-requires-clause-walked
text-requires-clause-walked c = rw c.as_slice.ensures.value at c.in_ok-similar.ensures

pub text-requires-clause-content : goal.text-requires-clause-content
text-requires-clause-content c = c.in_ok-content.ensures.within

pub returns-clause-counts : goal.returns-clause-counts
returns-clause-counts c = ap (λ (view : ContentView). view.counts) c.in_ok-content.ensures.content
