-- The names that stand in a file, one a line.
use Rattle.std.specs.Prelude.{◌≡◌, ℕ, ◌+◌, ◌-◌, ◌==◌, Bool, true, false, List, [], ◌∷◌, IfSome, if◌then◌else◌, length, take}
use Rattle.std.specs.List.{ends_with, list_all, prefix_len, slice_split}
use Rattle.deb_relation.specs.Relationship.{is_name}
use Rattle.deb_input.specs.declared.fault.RunFault.{RunFault}
use Rattle.deb_input.specs.declared.fault.RunFault.TheVariants.{NamesRead, NamesTooLong, BadNameLine, Memory}
use Rattle.deb_input.specs.Inputs.{Input, IsRead, IsTooLong}

-- a text without a line feed at its end
abbrev pub without_feed : List ℕ → List ℕ
without_feed bytes = if ends_with (λ a b. a == b) bytes (10 ∷ []) then take (length bytes - 1) bytes else bytes

-- the lines of a text: what stands between line feeds. Behind a last one there is no further line, and no bytes are one line
unfoldable pub lines_in : List ℕ → List (List ℕ)
lines_in bytes = slice_split (λ b. b == 10) (without_feed bytes)

-- each line is the name of a package
abbrev pub are_names : List ℕ → Bool
are_names bytes = list_all is_name (lines_in bytes)

-- the first line that is none, counted from 1
abbrev pub bad_line : List ℕ → ℕ
bad_line bytes = prefix_len is_name (lines_in bytes) + 1

-- these are the names that were read
abbrev pub ReadsNames : Input → List (List ℕ) → Type 0
ReadsNames source names = IsRead source × IfSome source.text (λ bytes. (are_names bytes ≡ true) × (names ≡ lines_in bytes))

-- why bytes that were read are no names
abbrev pub RefusesNames : List ℕ → RunFault → Type 0
RefusesNames bytes (BadNameLine line) = (are_names bytes ≡ false) × (line ≡ bad_line bytes)
RefusesNames bytes Memory = Unit {0}
RefusesNames bytes _ = ⊥

-- why no names are read of a file that is opened: a read failed, or it is too long; or it was read, and a line is no name; or memory was wanted
abbrev pub FailsToName : Input → RunFault → Type 0
FailsToName source NamesRead = source.failed ≡ true
FailsToName source NamesTooLong = IsTooLong source
FailsToName source (BadNameLine line) = IsRead source × IfSome source.text (λ bytes. RefusesNames bytes (BadNameLine line))
FailsToName source Memory = source.failed ≡ false
FailsToName source _ = ⊥
