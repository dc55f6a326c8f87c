use Rattle.std.proofs.Common.{◌∙◌, All, subst, sym}
use Rattle.deb_index.specs.Constraints.{IsOfIndex}
use Rattle.deb_causes.specs.Near.{stems_in, AreSought}
use Rattle.deb_report.proofs.WalkLemmas.{flat_all}
use Rattle.deb_causes.specs.declared.gathered.Cause.{Cause}
use Rattle.deb_causes.specs.Causes.{IsCauseOf, cause_view}
use Rattle.deb_report.proofs.SoughtLemmas.{sought-each}
use Rattle.deb_report.proofs.sought.similar_to_causes.Goals as goal

pub find-requires : goal.find-requires
find-requires c =
    let index = c.args.index.now in
    subst (All (IsOfIndex index)) (sym (c.as_slice.ensures.value ∙ c.in_ok-constraints.ensures))
    (flat_all (λ (cause : Cause). IsCauseOf index (cause_view cause)) (IsOfIndex index) (λ (cause : Cause). cause.constraints.items) c.args.causes.now (λ cause is. is.constraints) c.requires)

pub returns : goal.returns
returns c =
    let index = c.args.index.now in
    let similar = c.in_ok-similar.similar in
    let sought = subst (AreSought index (stems_in similar)) (c.as_slice.ensures.value ∙ c.in_ok-constraints.ensures) c.in_ok-similar.ensures.sought in
    λ k d below. record {
      of_index = c.requires k d below;
      found = c.in_ok-similar.ensures.found;
      sought = sought-each index (stems_in similar) (λ (cause : Cause). cause.constraints.items) c.args.causes.now sought k d below;
    }
