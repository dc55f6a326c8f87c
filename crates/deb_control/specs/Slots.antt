-- Slots of names, by which most names are told apart before they are compared.
use Rattle.std.specs.Prelude.{◌≡◌, ℕ, false, ◌+◌, ◌*◌, ◌%◌, ◌≤◌, List, [], ◌∷◌, length, drop, map, slice_index_or}
use Rattle.std.specs.Str.{str_to_ascii_lowercase}
use Rattle.deb_control.specs.declared.field.Field.{Field}
use Rattle.deb_control.specs.Fields.{Entry, has_name, has_repeat}
use Rattle.deb_control.specs.Stanzas.{entry_of}

-- how many slots there are
abbrev pub slot_count : ℕ
slot_count = 64

-- the slot of a name in small letters
abbrev pub slot_in_lower : List ℕ → ℕ
slot_in_lower [] = 0
slot_in_lower (first ∷ others) = (first + 21 * (length others % slot_count)) % slot_count

-- the slot of a name, whatever the case of its letters
abbrev pub name_slot : List ℕ → ℕ
name_slot name = slot_in_lower (str_to_ascii_lowercase name)

-- the fields, the first of which stands at place i, come at or behind the places that their slots have
abbrev pub AreFirsts : List ℕ → ℕ → List Entry → Type 0
AreFirsts firsts i [] = Unit {0}
AreFirsts firsts i (field ∷ fields) = (slice_index_or firsts (name_slot field.name) 0 ≤ i) × AreFirsts firsts (i + 1) fields

-- where the field at a place has the name of one behind it, such a one is among these
abbrev pub KeepsNamesakes : List Field → ℕ → List Entry → Type 0
KeepsNamesakes fields place found =
    (field : Field) → field ≡ slice_index_or fields place field → has_name field.name.now found ≡ has_name field.name.now (map entry_of (drop (place + 1) fields))

-- no two of the fields have one name, and they are found from the places that their slots have
pub record Tells (firsts : List ℕ) (fields : List Entry) : Type 0 where
  pub once : has_repeat fields ≡ false
  pub found : AreFirsts firsts 0 fields
