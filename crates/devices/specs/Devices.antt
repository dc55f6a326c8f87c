-- What a device's mark says, what is read and written, and what an opened file holds.
use Rattle.std.specs.Prelude.{◌≡◌, ◌≢◌, ℕ, ◌==◌, ◌&&◌, not, Bool, true, List, ◌++◌, length, Option, Some, None, IfSome}

-- a write took no byte of a text that has some
abbrev pub is_stuck : ℕ → List ℕ → Bool
is_stuck taken bytes = taken == 0 && not (length bytes == 0)

-- a part of the text was appended, perhaps none of it
abbrev pub AppendsPart : Option (List ℕ) → Option (List ℕ) → List ℕ → Type 0
AppendsPart None new bytes = Unit {0}
AppendsPart (Some held) None bytes = ⊥
AppendsPart (Some held) (Some now_held) bytes = (part : List ℕ) × (rest : List ℕ) × (bytes ≡ part ++ rest) × (now_held ≡ held ++ part)

-- what is known of what stands under a name: where that is told, its bytes, or nothing that can be opened; and whether a read of it may fail
pub record Stands : Type 0 where
  pub held : Option (Option (List ℕ))
  pub may_fail : Bool

-- nothing is known
abbrev pub unknown : Stands
unknown = record { held = None; may_fail = true }

-- an opened file holds these bytes, where it is told what stands under its name
abbrev pub IsHeld : Stands → Option (List ℕ) → Type 0
IsHeld stands text = IfSome stands.held (λ held. (held ≢ None) × (text ≡ held))

-- nothing can be opened, where it is told what stands under the name
abbrev pub IsUnopened : Stands → Type 0
IsUnopened stands = IfSome stands.held (λ held. held ≡ None)
