use Rattle.std.proofs.Common.{◌≡◌, ◌∙◌, sym, false, Option, Some, None}
use Rattle.std.specs.Prelude.{ℕ, List, slice_get, IfSome, IfNone, is_some}
use Rattle.number_sets.specs.Sets.{members_of}
use Rattle.number_sets.proofs.SparseSetLemmas.{found_there}
use Rattle.number_sets.proofs.sparse_set.SparseSet.contains.Goals as goal

told : (places : List ℕ) (q : ℕ) (found : Option ℕ) → IfSome found (λ number. slice_get places number ≡ Some q) → IfNone found (members_of places q ≡ false) → is_some found ≡ members_of places q
told places q (Some number) some none = sym (found_there places q number some)
told places q None some none = sym none

pub returns : goal.returns
returns c = c.is_some.ensures ∙ told c.args.self.now c.args.number c.position_of.result c.position_of.ensures.some c.position_of.ensures.none
