-- The form of relationships (Policy 7.1). An atom is written
--     ws name [":" qualifier] ws ["(" ws op ws version ws ")" ws]
use Rattle.std.specs.Prelude.{◌≡◌, ℕ, ◌==◌, Bool, true, false, not, ◌&&◌, ◌||◌, List, [], ◌∷◌, ◌++◌, Option, Some, None, IfSome, codes, ◌⊎◌}
use Rattle.std.specs.Char.{is_ascii_alphanumeric}
use Rattle.std.specs.List.{AllZip, filter, list_all, list_any, slice_split}
use Rattle.deb_relation.specs.declared.bound.Op.{Op}
use Rattle.deb_relation.specs.declared.bound.Op.TheVariants.{Lt, Le, Eq, Ge, Gt}
use Rattle.deb_relation.specs.Bytes.{bar, close_parenthesis, colon, comma, full_stop, hyphen, line_feed, open_parenthesis, plus, space, tab, underscore, begins}
use Rattle.deb_relation.specs.VersionText.{fault_of}

-- An atom without where it lies in memory: a package's name, a qualifier of its architecture, and an operator with a version's text.
pub record AtomText : Type 0 where
  pub name : List ℕ
  pub qualifier : Option (List ℕ)
  pub bound : Option (Op × List ℕ)

-- white space is made of spaces, tabs and LFs
abbrev pub is_white : ℕ → Bool
is_white b = b == space || b == tab || b == line_feed

abbrev pub IsWhite : List ℕ → Type 0
IsWhite text = list_all is_white text ≡ true

-- the bytes of a name: letters, digits, `+`, `-`, `.` and `_`
abbrev pub is_name_byte : ℕ → Bool
is_name_byte b = is_ascii_alphanumeric b || b == plus || b == hyphen || b == full_stop || b == underscore

-- a package's name begins with a letter or a digit
abbrev pub is_name : List ℕ → Bool
is_name text = begins is_ascii_alphanumeric text && list_all is_name_byte text

-- the bytes of a qualifier: letters, digits and `-`
abbrev pub is_qualifier_byte : ℕ → Bool
is_qualifier_byte b = is_ascii_alphanumeric b || b == hyphen

-- a qualifier has at least one byte
abbrev pub is_qualifier : List ℕ → Bool
is_qualifier text = begins is_qualifier_byte text && list_all is_qualifier_byte text

-- how an operator is written; the old `<` and `>` stand for `<=` and `>=`
abbrev pub IsSign : Op → List ℕ → Type 0
IsSign Lt sign = sign ≡ codes "<<"
IsSign Le sign = (sign ≡ codes "<=") ⊎ (sign ≡ codes "<")
IsSign Eq sign = sign ≡ codes "="
IsSign Ge sign = (sign ≡ codes ">=") ⊎ (sign ≡ codes ">")
IsSign Gt sign = sign ≡ codes ">>"

-- a qualifier is written with a colon before it
abbrev pub qualifier_text : Option (List ℕ) → List ℕ
qualifier_text None = []
qualifier_text (Some qualifier) = colon ∷ qualifier

-- A bound is an operator and a version in parentheses. White space may stand before and after each of the two, and after the parentheses.
pub record IsBoundText (text : List ℕ) (op : Op) (version : List ℕ) : Type 0 where
  pub before_sign : List ℕ
  pub sign : List ℕ
  pub after_sign : List ℕ
  pub after_version : List ℕ
  pub after : List ℕ
  pub whole : text ≡ (open_parenthesis ∷ before_sign) ++ sign ++ after_sign ++ version ++ after_version ++ (close_parenthesis ∷ after)
  pub is_sign : IsSign op sign
  pub is_version : fault_of version ≡ None
  pub white : IsWhite before_sign × IsWhite after_sign × IsWhite after_version × IsWhite after

-- an atom without a bound has no text for it
abbrev pub IsBound : List ℕ → Option (Op × List ℕ) → Type 0
IsBound text None = text ≡ []
IsBound text (Some bound) = IsBoundText text bound.0 bound.1

-- A piece of a relationship is an atom if it is put together from white space, the name, the qualifier with its colon, white space and the bound.
pub record IsAtom (piece : List ℕ) (atom : AtomText) : Type 0 where
  pub before_name : List ℕ
  pub before_bound : List ℕ
  pub bound_text : List ℕ
  pub whole : piece ≡ before_name ++ atom.name ++ qualifier_text atom.qualifier ++ before_bound ++ bound_text
  pub white : IsWhite before_name × IsWhite before_bound
  pub is_name : is_name atom.name ≡ true
  pub is_qualifier : IfSome atom.qualifier (λ q. is_qualifier q ≡ true)
  pub is_bound : IsBound bound_text atom.bound

-- ---- values

-- the elements of a value stand between its commas
abbrev pub elements_of : List ℕ → List (List ℕ)
elements_of text = slice_split (λ b. b == comma) text

-- the pieces of an element stand between its bars
abbrev pub pieces_of : List ℕ → List (List ℕ)
pieces_of element = slice_split (λ b. b == bar) element

-- white space alone, or nothing
abbrev pub is_blank : List ℕ → Bool
is_blank text = list_all is_white text

-- the elements that count
abbrev pub filled : List (List ℕ) → List (List ℕ)
filled elements = filter (λ element. not (is_blank element)) elements

abbrev pub filled_elements : List ℕ → List (List ℕ)
filled_elements text = filled (elements_of text)

-- an element is a group if each piece is an atom
abbrev pub IsGroup : List ℕ → List AtomText → Type 0
IsGroup element group = AllZip IsAtom (pieces_of element) group

-- a value has groups if each element that counts is one
abbrev pub AreGroups : List ℕ → List (List AtomText) → Type 0
AreGroups text groups = AllZip IsGroup (filled_elements text) groups

-- an element of a list is an atom and has no bar
abbrev pub IsSingle : List ℕ → AtomText → Type 0
IsSingle element atom = (list_any (λ b. b == bar) element ≡ false) × IsAtom element atom

-- a value is a list of atoms if each element that counts is one
abbrev pub AreAtoms : List ℕ → List AtomText → Type 0
AreAtoms text atoms = AllZip IsSingle (filled_elements text) atoms
