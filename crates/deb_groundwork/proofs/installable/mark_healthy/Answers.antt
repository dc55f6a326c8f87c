use Rattle.std.proofs.Common.{◌∙◌, ℕ, List, true, get_or, subst, sym}
use Rattle.std.proofs.lemmas.List.{length-set}
use Rattle.number_sets.specs.Sets.{members_of}
use Rattle.deb_health.specs.Health.{IsHealthy, IsInstallable}
use Rattle.deb_groundwork.proofs.InstallableLemmas.{marks_set, members_installable}
use Rattle.deb_groundwork.proofs.installable.mark_healthy.Goals as goal

pub loop-place-preserved : goal.loop-place-preserved
loop-place-preserved c =
    let index = c.args.index.now in
    let set = c.as_slice-place-items.result.now in
    let place = get_or set c.loop-place.place-index 0 in
    let healthy = subst (λ (list : List ℕ). IsHealthy index (members_of list)) (sym c.as_slice-place-items.ensures) (c.is_healthy.ensures c.if-is_healthy.true) in (
      length-set c.loop-place.marks place true ∙ c.loop-place.invariant.0,
      marks_set (IsInstallable index) c.loop-place.marks place
          (members_installable index set healthy c.loop-place.place-index 0 c.loop-place-test.true) c.loop-place.invariant.1,
    )
