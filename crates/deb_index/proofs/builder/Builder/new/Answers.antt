use Rattle.std.proofs.Common.{refl, arith}
use Rattle.deb_index.specs.Packages.{first_of_each}
use Rattle.deb_index.specs.Reading.{collected}
use Rattle.deb_index.proofs.builder.Builder.new.Goals as goal

pub invariant_of-result : goal.invariant_of-result
invariant_of-result c =
    let none = c.new-3.ensures.items in
    record {
      counts = rw none (record { counted = refl; front = omega arith; few = omega arith; small = tt; few_asked = omega arith });
      numbered = rw (c.new.ensures.items, none) refl;
      named = rw none c.new-2.ensures;
      known = rw (none, c.new-later.ensures.empty) (λ p. refl);
    }

pub returns : goal.returns
unfolding collected first_of_each
returns c = rw (c.in_ok-from_slice.ensures.items, c.new-3.ensures.items) refl
