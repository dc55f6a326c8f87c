use Rattle.std.proofs.Common.{◌≡◌, ℕ, take}
use Rattle.deb_index.specs.Packages.{is_in, names}
use Rattle.deb_index.proofs.EssentialLemmas.{has_mark}
use Rattle.deb_index.proofs.builder.Builder.essential_names.Given as goal

abbrev pub invariant-loop-place : goal.invariant-loop-place
invariant-loop-place l = (q : ℕ) → is_in l.found.items q ≡ has_mark l.self.with_essential (names l.self) (take l.place l.self.packages) q
