-- What is known of an input, why it gives no index, and what a strict run takes for a fault.
use Rattle.std.specs.Prelude.{◌≡◌, ◌≢◌, ℕ, ◌+◌, ◌<◌, ◌≤◌, Bool, false, true, List, Option, Err, IfSome, length, ◌==◌, Some, None, if◌then◌else◌}
use Rattle.std.specs.Io.KnownBytes.{Consumes}
use Rattle.deb_index.specs.Reading.{byte_limit, index_of_both}
use Rattle.deb_index.specs.declared.error.BothError.TheVariants.{Back, Fore}
use Rattle.deb_index.specs.declared.error.IndexError.TheVariants as index_error
use Rattle.run_settings.specs.Settings.{Settings}
use Rattle.deb_input.specs.declared.fault.RunFault.{RunFault}
use Rattle.deb_input.specs.declared.fault.RunFault.TheVariants.{Read, TooLong, Index, Background, Memory}
use Rattle.deb_index.specs.Packages.{IndexView}
use Rattle.deb_input.specs.declared.strict.Slip.{Slip}
use Rattle.deb_input.specs.declared.strict.Slip.TheVariants.{NoStanza, OtherArchitectures, NothingAsked}

-- what is known of a reader: the bytes that were left in it at the call, where it tells them, and whether a read of it has failed
pub record Input : Type 0 where
  pub text : Option (List ℕ)
  pub failed : Bool

abbrev pub input : Option (List ℕ) → Bool → Input
input text failed = record { text = text; failed = failed }

-- all of it was read: no read failed, and where its bytes are told, they are within the limit
abbrev pub IsRead : Input → Type 0
IsRead source = (source.failed ≡ false) × IfSome source.text (λ bytes. length bytes ≤ byte_limit)

-- it was read, as these bytes
abbrev pub IsReadAs : Input → List ℕ → Type 0
IsReadAs source bytes = (source.failed ≡ false) × IfSome source.text (λ told. told ≡ bytes) × (length bytes ≤ byte_limit)

-- no read failed, and where its bytes are told, they are more than the limit
abbrev pub IsTooLong : Input → Type 0
IsTooLong source = (source.failed ≡ false) × IfSome source.text (λ bytes. byte_limit < length bytes)

-- ---- why there is no index

-- why reading ends without a text, by the reader's marks before and after: a read failed;
-- or none did, and there were more bytes than the limit, or memory was wanted
abbrev pub FailsToRead : Option (List ℕ) → Bool → Bool → ℕ → RunFault → Type 0
FailsToRead text before failed limit Read = failed ≡ true
FailsToRead text before failed limit TooLong = (failed ≡ before) × IfSome text (λ bytes. limit < length bytes)
FailsToRead text before failed limit Memory = failed ≡ before
FailsToRead text before failed limit _ = ⊥

-- why a read ends before its time: it failed; or none did, and memory was wanted
abbrev pub FailsAtRead : Bool → Bool → RunFault → Type 0
FailsAtRead before failed Read = failed ≡ true
FailsAtRead before failed Memory = failed ≡ before
FailsAtRead before failed _ = ⊥

-- where there were too many bytes, exactly one more than the limit was read
abbrev pub ReadsOneOver : ℕ → Option (List ℕ) → Option (List ℕ) → RunFault → Type 0
ReadsOneOver limit old new TooLong = (bytes : List ℕ) × (length bytes ≡ limit + 1) × Consumes old new bytes
ReadsOneOver limit old new _ = Unit {0}

-- why texts that were read are no index: the first has a fault, or it has none, and the one behind it has one; or memory was wanted
abbrev pub FailsToAccept : Settings → List ℕ → List ℕ → RunFault → Type 0
FailsToAccept settings bytes more (Index fault) = (fault ≢ index_error.Memory) × (index_of_both bytes more settings.arch settings.essential ≡ Err (Fore fault))
FailsToAccept settings bytes more (Background fault) = (fault ≢ index_error.Memory)
    × (index_of_both bytes more settings.arch settings.essential ≡ Err (Back fault))
FailsToAccept settings bytes more Memory = Unit {0}
FailsToAccept settings bytes more _ = ⊥

-- the index itself was not read
abbrev pub is_unread : RunFault → Bool
is_unread Read = true
is_unread TooLong = true
is_unread _ = false

-- of all stanzas, of those that were skipped as of other architectures, and of the packages that are asked: the first of these that holds
unfoldable pub slip_in : ℕ → ℕ → ℕ → Option Slip
slip_in stanzas skipped asked =
    if stanzas == 0 then Some NoStanza
    else if skipped == stanzas then Some OtherArchitectures
    else if asked == 0 then Some NothingAsked else None

-- the fault of a run that asks these places of an index, where it is strict
unfoldable pub slip_of : Settings → IndexView → List ℕ → Option Slip
slip_of settings index asked = if settings.strict then slip_in index.stanzas index.skipped (length asked) else None
