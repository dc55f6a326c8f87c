use Rattle.std.proofs.Common.{◌∙◌, All, subst, sym}
use Rattle.deb_index.specs.Constraints.{IsOfIndex}
use Rattle.deb_causes.specs.Near.{stems_in, AreSought}
use Rattle.deb_report.proofs.SoughtLemmas.{blocks-walked, constraints-within}
use Rattle.deb_report.proofs.sought.similar_to_walks.Goals as goal

pub find-requires : goal.find-requires
find-requires c =
    let index = c.args.index.now in
    subst (All (IsOfIndex index)) (sym (c.as_slice.ensures.value ∙ c.in_ok-constraints.ensures)) (constraints-within index c.args.blocks.now c.requires)

pub returns-then-config-2 : goal.returns-then-config-2
returns-then-config-2 c =
    let index = c.args.index.now in
    let similar = c.in_ok-similar.similar in
    let sought = subst (AreSought index (stems_in similar)) (c.as_slice.ensures.value ∙ c.in_ok-constraints.ensures) c.in_ok-similar.ensures.sought in
    λ k d below _ _. blocks-walked index similar c.args.blocks.now c.requires c.in_ok-similar.ensures.found sought k d below
