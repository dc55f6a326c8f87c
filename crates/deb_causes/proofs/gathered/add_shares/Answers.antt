use Rattle.std.proofs.Common.{◌∙◌, ◌<◌, ℕ, Bool, List, arith, get_or, length, refl, take, ◌+◌}
use Rattle.std.proofs.lemmas.List.{length-set}
use Rattle.number_sets.specs.Sets.{members_of}
use Rattle.deb_causes.specs.declared.gathered.Part.{Part}
use Rattle.deb_causes.specs.Gathering.{part_view, with_share}
use Rattle.deb_causes.proofs.GatheringLemmas.{put-at, share-none, share-other, share-own}
use Rattle.deb_causes.proofs.gathered.add_shares.Goals as goal

pub loop-number-init : goal.loop-number-init
loop-number-init c = record { size = refl; parts = λ count f are. are ∙ share-none (c.args.place, c.args.alone) f count }

pub loop-number-preserved : goal.loop-number-preserved
loop-number-preserved c =
    let i = c.loop-number.number-index in
    let numbers = c.args.numbers.now in
    let inside : i < length numbers = omega arith in
    let n : ℕ = get_or numbers i 0 in
    let share : ℕ × Bool = (c.args.place, c.args.alone) in
    let parts : List Part = c.loop-number.parts.items in
    let small : n < length c.args.parts.now.items = c.requires.within i 0 inside in
    let within : n < length parts = omega (arith, small, c.loop-number.invariant.size) in
    let old : Part = c.index_mut.result.now in
    let new : Part = record old { shares = c.push.new.self } in
    record {
      size = length-set parts n new ∙ c.loop-number.invariant.size;
      parts = λ count f are.
          put-at part_view parts (λ k. with_share share (members_of (take i numbers) k) (f k)) (λ k. with_share share (members_of (take (i + 1) numbers) k) (f k)) n count old new
          (c.loop-number.invariant.parts count f are) within c.index_mut.ensures.value
          (λ was. share-own numbers i share (part_view old) (part_view new) (f n) c.requires.rising inside refl
          c.in_ok-push.ensures.items was)
          (λ k other. share-other numbers i k share (f k) inside other);
    }
