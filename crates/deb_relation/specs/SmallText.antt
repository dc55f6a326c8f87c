-- Texts that lie in the value where they are short.
use Rattle.std.specs.Prelude.{◌≤◌, ℕ, List, take}
use Rattle.deb_relation.specs.declared.small_text.Bytes.{Bytes}
use Rattle.deb_relation.specs.declared.small_text.Bytes.TheVariants.{Short, Long}

-- how many bytes a short text has at most
abbrev pub short_len : ℕ
short_len = 30

-- the bytes of a text
abbrev pub bytes_in : Bytes → List ℕ
bytes_in (Short len bytes) = take len bytes
bytes_in (Long bytes) = bytes.items

-- a short text has no more bytes than fit
abbrev pub IsHeld : Bytes → Type 0
IsHeld (Short len bytes) = len ≤ short_len
IsHeld (Long bytes) = Unit {0}
