-- How a report is written in each of its forms: in lines, or in JSON (RFC 8259).
use Rattle.std.specs.Prelude.{ℕ, Bool, false, ◌==◌, ◌||◌, ◌/◌, ◌%◌, nat_lt, List, [], ◌∷◌, ◌++◌, codes, decimal, if◌then◌else◌, length, map}
use Rattle.std.specs.Char.{digit_char}
use Rattle.std.specs.List.{flat_map, join_by}
use Rattle.deb_relation.specs.Relationship.{AtomText, printed, group_text, atom_view}
use Rattle.run_settings.specs.declared.config.Format.{Format}
use Rattle.run_settings.specs.declared.config.Format.TheVariants.{Json, Text}
use Rattle.deb_report.specs.declared.form.Lead.{Lead}
use Rattle.deb_report.specs.declared.form.Lead.TheVariants.{Block, Tall, Within}
use Rattle.deb_report.specs.declared.parts.Part.{Part}
use Rattle.deb_report.specs.declared.parts.Part.TheVariants.{Field, Kind, Name, Package, Provides, Relation}

-- ---- strings of JSON

-- a byte that can't stand in a string as it is
abbrev pub needs_escape : ℕ → Bool
needs_escape byte = byte == 34 || byte == 92 || nat_lt byte 32

-- a byte as it stands in a string: a quote and a backslash behind a backslash, a control byte by its number
unfoldable pub escaped_byte : ℕ → List ℕ
escaped_byte byte =
    if byte == 34 || byte == 92 then 92 ∷ byte ∷ []
    else if nat_lt byte 32 then codes "\\u00" ++ digit_char (byte / 16) ∷ digit_char (byte % 16) ∷ []
    else byte ∷ []

-- a string
unfoldable pub quoted : List ℕ → List ℕ
quoted text = codes "\"" ++ flat_map escaped_byte text ++ codes "\""

-- a member of an object, whose value is a string
unfoldable pub member : List ℕ → List ℕ → List ℕ
member title text = codes "\"" ++ title ++ codes "\":" ++ quoted text

-- ---- members of a report and of its blocks

-- the text of the form
abbrev pub one_of : Format → List ℕ → List ℕ → List ℕ
one_of Text line json = line
one_of Json line json = json

-- what stands before a member, by its place: one of the report, one that has blocks; the first of a block, another
unfoldable pub lead_of : Format → Lead → List ℕ
lead_of Text Block = codes " -\n  "
lead_of Text Within = codes "  "
lead_of Text lead = []
lead_of Json Block = codes "\n{"
lead_of Json lead = codes ","

-- its title
unfoldable pub title_in : Format → Lead → List ℕ → List ℕ
title_in Text lead title = lead_of Text lead ++ title ++ codes ":"
title_in Json lead title = lead_of Json lead ++ codes "\"" ++ title ++ codes "\":"

-- a number under its title
unfoldable pub number_in : Format → Lead → List ℕ → ℕ → List ℕ
number_in Text lead title number = title_in Text lead title ++ codes " " ++ decimal number ++ codes "\n"
number_in Json lead title number = title_in Json lead title ++ decimal number

-- a text under its title
unfoldable pub string_in : Format → Lead → List ℕ → List ℕ → List ℕ
string_in Text lead title text = title_in Text lead title ++ codes " " ++ text ++ codes "\n"
string_in Json lead title text = title_in Json lead title ++ quoted text

-- what ends an array: that of blocks ends on a line of its own
unfoldable pub end_of : Lead → List ℕ
end_of Tall = codes "\n]"
end_of lead = codes "]"

-- the texts of elements
unfoldable pub elements_in : {A : Type 0} → Format → Lead → (A → List ℕ) → List A → List ℕ
elements_in Text lead text elements = codes "\n" ++ flat_map text elements
elements_in Json lead text elements = codes "[" ++ join_by text (codes ",") elements ++ end_of lead

-- under a title
unfoldable pub list_in : {A : Type 0} → Format → Lead → List ℕ → (A → List ℕ) → List A → List ℕ
list_in form lead title text elements = title_in form lead title ++ elements_in form lead text elements

-- lines leave a title out under which nothing stands
abbrev pub leaves_out : Format → ℕ → Bool
leaves_out Text count = count == 0
leaves_out Json count = false

unfoldable pub some_in : {A : Type 0} → Format → List ℕ → (A → List ℕ) → List A → List ℕ
some_in form title text elements = if leaves_out form (length elements) then [] else list_in form Within title text elements

-- texts of elements that are several lines: the title stands before each of them, and in JSON before the array
unfoldable pub each_in : {A : Type 0} → Format → List ℕ → (A → List ℕ) → List A → List ℕ
each_in Text title text elements = flat_map (λ element. title_in Text Within title ++ text element) elements
each_in Json title text elements = list_in Json Within title text elements

-- what ends a block
abbrev pub block_end : Format → List ℕ
block_end form = one_of form [] (codes "}")

-- ---- items of a list

-- what an item is told by
pub data PartView : Type 0 where
  OfKind : (kind : List ℕ) → PartView
  OfName : (name : List ℕ) → PartView
  OfPackage : (name version : List ℕ) → PartView
  OfField : (field : List ℕ) → PartView
  OfRelation : (relation : List AtomText) → PartView
  OfProvides : (entries : List AtomText) → PartView

-- in a line
unfoldable pub part_line : PartView → List ℕ
part_line (OfKind kind) = kind ++ codes ": "
part_line (OfName name) = name
part_line (OfPackage name version) = name ++ codes " " ++ version
part_line (OfField field) = codes " " ++ field ++ codes ": "
part_line (OfRelation relation) = group_text relation
part_line (OfProvides entries) = codes " (provides " ++ join_by printed (codes ", ") entries ++ codes ")"

-- as members of an object
unfoldable pub part_json : PartView → List ℕ
part_json (OfKind kind) = member (codes "kind") kind
part_json (OfName name) = member (codes "name") name
part_json (OfPackage name version) = member (codes "package") name ++ codes "," ++ member (codes "version") version
part_json (OfField field) = member (codes "field") field
part_json (OfRelation relation) = member (codes "relation") (group_text relation)
part_json (OfProvides entries) = codes "\"provides\":[" ++ join_by (λ entry. quoted (printed entry)) (codes ",") entries ++ codes "]"

-- an item up to its end
unfoldable pub item_front : Format → Lead → List PartView → List ℕ
item_front Text lead parts = lead_of Text lead ++ codes " - " ++ flat_map part_line parts
item_front Json lead parts = codes "{" ++ join_by part_json (codes ",") parts

abbrev pub item_end : Format → List ℕ
item_end form = one_of form (codes "\n") (codes "}")

abbrev pub item_in : Format → Lead → List PartView → List ℕ
item_in form lead parts = item_front form lead parts ++ item_end form

-- a name alone
unfoldable pub name_in : Format → List ℕ → List ℕ
name_in Text name = codes "   - " ++ name ++ codes "\n"
name_in Json name = quoted name

abbrev pub part_view : Part → PartView
part_view (Kind kind) = OfKind kind.now
part_view (Name name) = OfName name.now
part_view (Package name version) = OfPackage name.now version.now
part_view (Field field) = OfField field.now
part_view (Relation relation) = OfRelation (map atom_view relation.now)
part_view (Provides entries) = OfProvides (map (λ entry. atom_view entry.now) entries.now.items)
