use Rattle.std.proofs.Common.{◌≡◌, ℕ, length, map, take}
use Rattle.deb_index.specs.Constraints.{below}
use Rattle.deb_causes.specs.Gathering.{PartView, part_view, with_cores}
use Rattle.deb_causes.specs.Numbering.{core_view}
use Rattle.deb_causes.proofs.gathered.add_cores.Given as goal

abbrev pub invariant-loop-one : goal.invariant-loop-one
invariant-loop-one l =
    record {
      size : length l.parts.items ≡ length l.initial.parts.items;
      parts : (count : ℕ) (f : ℕ → PartView) → map part_view l.initial.parts.items ≡ map f (below count)
          → map part_view l.parts.items ≡ map (λ k. with_cores (map core_view (take l.one-index l.cores)) k (f k)) (below count);
    }
