use Rattle.std.proofs.Common.{◌≡◌, ◌++◌, filter, not, take}
use Rattle.deb_causes.specs.Near.{is_numeric}
use Rattle.deb_causes.proofs.stems.push_word.Given as goal

abbrev pub invariant-loop-byte : goal.invariant-loop-byte
invariant-loop-byte l = l.out.items ≡ l.initial.out.items ++ filter (λ byte. not (is_numeric byte)) (take l.byte-index l.word)
