use Rattle.std.proofs.Common.{◌≡◌, ◌<◌, ◌∙◌, Bor, List, ap, arith, length, map, slice_get, sym, take}
use Rattle.std.specs.List.{flat_map}
use Rattle.std.proofs.lemmas.List.{take_all}
use Rattle.std.proofs.lemmas.List.Elements.{All-same}
use Rattle.std.proofs.lemmas.Result.{IfOk-weaker}
use Rattle.deb_index.specs.declared.constraint.Constraint.{Constraint}
use Rattle.deb_index.specs.Constraints.{constraints_of}
use Rattle.deb_health.specs.Causes.{cause_in}
use Rattle.deb_causes.specs.Causes.{needs_in}
use Rattle.deb_causes.proofs.CoreLemmas.{needs-are, needs-within}
use Rattle.deb_causes.proofs.cause_of_core.needs_in.Goals as goal

pub constraints_at-requires : goal.constraints_at-requires
constraints_at-requires c =
    let index = c.args.index.now in
    let cores = map (λ (core : Bor (List Constraint)). core.now) (take c.loop-core.core-index c.args.cores.now) in
    All-same (λ k. k < length (constraints_of index)) c.as_slice.result.now c.sort_once.new.numbers.items c.as_slice.ensures.value
    (needs-within index (flat_map (cause_in index) cores) c.sort_once.new.numbers.items c.sort_once.ensures.rising (λ k. c.sort_once.ensures.same k ∙ c.loop-core.invariant k))

pub returns : goal.returns
returns c =
    let index = c.args.index.now in
    let cores : List (List Constraint) = map (λ (core : Bor (List Constraint)). core.now) (take c.loop-core.core-index c.args.cores.now) in
    let whole : take c.loop-core.core-index c.args.cores.now ≡ c.args.cores.now = take_all _ _ (omega arith) in
    IfOk-weaker c.constraints_at.result _ _
    (λ needs stand.
    needs-are index cores c.sort_once.new.numbers.items needs.items c.sort_once.ensures.rising (λ k. c.sort_once.ensures.same k ∙ c.loop-core.invariant k)
    (sym (ap (map (slice_get (constraints_of index))) c.as_slice.ensures.value) ∙ stand)
    ∙ ap (λ all. needs_in index (map (λ (core : Bor (List Constraint)). core.now) all)) whole)
    c.constraints_at.ensures
