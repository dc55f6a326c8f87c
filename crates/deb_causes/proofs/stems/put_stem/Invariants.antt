use Rattle.std.proofs.Common.{◌≡◌, ◌++◌, ◌∷◌, [], map}
use Rattle.std.specs.List.{flat_map}
use Rattle.deb_causes.specs.Near.{stem_of_word}
use Rattle.deb_causes.proofs.stems.put_stem.Given as goal

abbrev pub invariant-loop-word : goal.invariant-loop-word
invariant-loop-word l = l.out.items ≡ flat_map (λ word. stem_of_word word ++ 45 ∷ []) (map (λ word. word.now) l.yielded)
