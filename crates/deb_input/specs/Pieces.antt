-- What is read of a text piece by piece, and why it is no index.
use Rattle.std.specs.Prelude.{◌≡◌, ◌≢◌, ℕ, ◌+◌, ◌<◌, ◌≤◌, Bool, false, true, List, ◌++◌, Option, Result, Ok, Err, length}
use Rattle.std.specs.Io.KnownBytes.{Consumes, IsAtEnd}
use Rattle.deb_index.specs.declared.error.IndexError.{IndexError}
use Rattle.deb_index.specs.declared.error.IndexError.TheVariants as index_error
use Rattle.deb_index.specs.Packages.{IndexView}
use Rattle.deb_index.specs.Reading.{byte_limit, index_of, index_of_both}
use Rattle.run_settings.specs.Settings.{Settings}
use Rattle.deb_control.specs.Stanzas.{IsClosed}
use Rattle.deb_index.specs.Built.{FrontView, IsFrontOf}
use Rattle.deb_input.specs.declared.fault.RunFault.{RunFault}
use Rattle.deb_input.specs.Inputs.{FailsToAccept}

-- the index so far is that of this text, over whose end no stanza goes on
pub record IsClosedFront (settings : Settings) (text : List ℕ) (front : FrontView) : Type 0 where
  pub closed : IsClosed text
  pub is_front : IsFrontOf settings.arch settings.essential text front

-- all that was left in a reader was read, as these bytes; no read failed, and they are within the limit
pub record ReadsAll (old new : Option (List ℕ)) (before failed : Bool) (bytes : List ℕ) : Type 0 where
  pub consumes : Consumes old new bytes
  pub ends : IsAtEnd new
  pub unfailed : failed ≡ before
  pub within : length bytes ≤ byte_limit

-- what was read stands behind what was held
abbrev pub HoldsMore : List ℕ → List ℕ → Option (List ℕ) → Option (List ℕ) → Type 0
HoldsMore held next old new = (bytes : List ℕ) × Consumes old new bytes × (next ≡ held ++ bytes)

-- whether so many bytes more are held; where they are fewer, no more were left
abbrev pub TellsFull : ℕ → List ℕ → List ℕ → Option (List ℕ) → Bool → Type 0
TellsFull count held next new full = (full ≡ true → length next ≡ length held + count) × (full ≡ false → (length next < length held + count) × IsAtEnd new)

-- some of it was read: a text that the index so far is of, and behind it what is held
pub record ReadsFront (settings : Settings) (old new : Option (List ℕ)) (front : FrontView) (held : List ℕ) : Type 0 where
  pub text : List ℕ
  pub consumes : Consumes old new (text ++ held)
  pub is_front : IsClosedFront settings text front

-- a piece of what is held was taken into the index, and this is left behind it
abbrev pub TakesPiece : Settings → FrontView → List ℕ → FrontView → List ℕ → Type 0
TakesPiece settings front held next left = (text : List ℕ) → IsClosedFront settings text front → (piece : List ℕ) × (held ≡ piece ++ left)
    × IsClosedFront settings (text ++ piece) next

-- what is held has a fault, whatever stands behind it
abbrev pub RefusesPiece : Settings → FrontView → List ℕ → IndexError → Type 0
RefusesPiece settings front held fault = fault ≢ index_error.Memory → (text more : List ℕ) → IsClosedFront settings text front
    → index_of (text ++ held ++ more) settings.arch settings.essential ≡ Err fault

-- what a text comes to that was read to its end: the index so far, or the first fault of its stanzas
abbrev pub ComesTo : Settings → List ℕ → Result FrontView IndexError → Type 0
ComesTo settings text (Ok front) = IsFrontOf settings.arch settings.essential text front
ComesTo settings text (Err fault) = (fault ≢ index_error.Memory) × (index_of text settings.arch settings.essential ≡ Err fault)

-- what a text comes to that ends with what is held
abbrev pub TakesLast : Settings → FrontView → List ℕ → Result FrontView IndexError → Type 0
TakesLast settings front held outcome = (text : List ℕ) → IsClosedFront settings text front → ComesTo settings (text ++ held) outcome

-- all that was left in a reader was read, and comes to this
abbrev pub ReadsText : Settings → Option (List ℕ) → Option (List ℕ) → Bool → Bool → Result FrontView IndexError → Type 0
ReadsText settings old new before failed outcome = (bytes : List ℕ) × ReadsAll old new before failed bytes × ComesTo settings bytes outcome

-- the text that came to this and what stands behind it make this index
abbrev pub MakesIndex : Settings → Result FrontView IndexError → List ℕ → IndexView → Type 0
MakesIndex settings outcome more index = (text : List ℕ) → ComesTo settings text outcome → index_of_both text more settings.arch settings.essential ≡ Ok index

-- why they make none
abbrev pub FailsToFinish : Settings → Result FrontView IndexError → List ℕ → RunFault → Type 0
FailsToFinish settings outcome more fault = (text : List ℕ) → ComesTo settings text outcome → FailsToAccept settings text more fault
