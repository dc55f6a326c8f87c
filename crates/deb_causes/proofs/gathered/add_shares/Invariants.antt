use Rattle.std.proofs.Common.{◌≡◌, ℕ, length, map, take}
use Rattle.deb_index.specs.Constraints.{below}
use Rattle.number_sets.specs.Sets.{members_of}
use Rattle.deb_causes.specs.Gathering.{PartView, part_view, with_share}
use Rattle.deb_causes.proofs.gathered.add_shares.Given as goal

abbrev pub invariant-loop-number : goal.invariant-loop-number
invariant-loop-number l =
    record {
      size : length l.parts.items ≡ length l.initial.parts.items;
      parts : (count : ℕ) (f : ℕ → PartView) → map part_view l.initial.parts.items ≡ map f (below count)
          → map part_view l.parts.items ≡ map (λ k. with_share (l.place, l.alone) (members_of (take l.number-index l.numbers) k) (f k)) (below count);
    }
