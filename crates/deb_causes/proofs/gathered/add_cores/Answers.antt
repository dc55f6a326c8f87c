use Rattle.std.proofs.Common.{◌≡◌, ◌∙◌, ◌<◌, ◌∷◌, [], ◌++◌, Bor, List, ap, arith, get_or, length, map, refl, take, ◌+◌}
use Rattle.std.proofs.lemmas.List.{length-set, map-append}
use Rattle.deb_index.specs.declared.constraint.Constraint.{Constraint}
use Rattle.number_sets.proofs.AtomSteps.{map_more}
use Rattle.deb_causes.specs.declared.gathered.NumberedCore.{NumberedCore}
use Rattle.deb_causes.specs.declared.gathered.Part.{Part}
use Rattle.deb_causes.specs.Gathering.{part_view, with_cores}
use Rattle.deb_causes.specs.Numbering.{core_view}
use Rattle.deb_causes.proofs.GatheringLemmas.{put-at, with-none, with-other, with-own}
use Rattle.deb_causes.proofs.gathered.add_cores.Goals as goal

abbrev none : NumberedCore
none = record { number = 0; core = record { ref_ptr = (0, 0); now = [] } }

pub index_mut-requires : goal.index_mut-requires
index_mut-requires c =
    let inside : c.loop-one.one-index < length c.args.cores.now = omega arith in
    let small : (get_or c.args.cores.now c.loop-one.one-index none).number < length c.args.parts.now.items = c.requires c.loop-one.one-index none inside in
    omega (arith, small, c.loop-one.invariant.size)

pub loop-one-init : goal.loop-one-init
loop-one-init c = record { size = refl; parts = λ count f are. are ∙ with-none f count }

pub loop-one-preserved : goal.loop-one-preserved
loop-one-preserved c =
    let i = c.loop-one.one-index in
    let inside : i < length c.args.cores.now = omega arith in
    let x : NumberedCore = get_or c.args.cores.now i none in
    let parts : List Part = c.loop-one.parts.items in
    let small : x.number < length c.args.parts.now.items = c.requires i none inside in
    let within : x.number < length parts = omega (arith, small, c.loop-one.invariant.size) in
    let old : Part = c.index_mut.result.now in
    let new : Part = record old { cores = c.push.new.self } in
    let before = map core_view (take i c.args.cores.now) in
    let more : map core_view (take (i + 1) c.args.cores.now) ≡ before ++ core_view x ∷ [] = map_more core_view c.args.cores.now i none inside in
    record {
      size = length-set parts x.number new ∙ c.loop-one.invariant.size;
      parts = λ count f are.
          put-at part_view parts (λ k. with_cores before k (f k)) (λ k. with_cores (map core_view (take (i + 1) c.args.cores.now)) k (f k)) x.number count old new
          (c.loop-one.invariant.parts count f are) within c.index_mut.ensures.value
          (λ was. with-own before (map core_view (take (i + 1) c.args.cores.now)) (core_view x) (part_view old) (part_view new) (f x.number) more
          (ap (map (λ (core : Bor (List Constraint)). core.now)) c.in_ok-push.ensures.items ∙ map-append (λ (core : Bor (List Constraint)). core.now) old.cores.items _) refl was)
          (λ k other. with-other before (map core_view (take (i + 1) c.args.cores.now)) (core_view x) k (f k) more other);
    }
