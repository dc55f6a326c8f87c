use Rattle.std.proofs.Common.{◌≡◌, ◌++◌, take}
use Rattle.deb_causes.proofs.wrongs.push_bytes.Given as goal

abbrev pub invariant-loop-byte : goal.invariant-loop-byte
invariant-loop-byte l = l.text.items ≡ l.initial.text.items ++ take l.byte-index l.bytes
