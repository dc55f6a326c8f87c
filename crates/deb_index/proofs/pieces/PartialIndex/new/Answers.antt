use Rattle.std.proofs.Common.{◌∙◌, List, ℕ, [], ap, refl}
use Rattle.deb_index.specs.Reading.{collected}
use Rattle.deb_index.proofs.PieceLemmas.{fresh-within, front-none}
use Rattle.deb_index.proofs.pieces.PartialIndex.new.Goals as goal

pub invariant_of-result : goal.invariant_of-result
invariant_of-result c = fresh-within _ c.args.essential c.in_ok-builder.builder c.in_ok-builder.ensures

pub returns : goal.returns
returns c = front-none c.args.arch.now c.args.essential _ (c.in_ok-builder.ensures ∙ ap (λ (a : List ℕ). collected a c.args.essential []) c.as_bytes.ensures.value) refl
