-- The lines of faults.
use Rattle.std.specs.Prelude.{ℕ, Bool, List, [], ◌∷◌, ◌++◌, codes, decimal, if◌then◌else◌}
use Rattle.deb_index.specs.declared.error.IndexError.{IndexError}
use Rattle.deb_index.specs.declared.error.IndexError.TheVariants.{BadLine, RepeatedField, MissingField, BadName, BadVersion, BadRelation, TooManyStanzas}
use Rattle.deb_index.specs.declared.error.IndexError.TheVariants as index
use Rattle.deb_index.specs.Reading.{field_name}
use Rattle.deb_input.specs.declared.fault.RunFault.{RunFault}
use Rattle.deb_input.specs.declared.fault.RunFault.TheVariants.{Read, TooLong, BackgroundRead, BackgroundTooLong}
use Rattle.deb_input.specs.declared.fault.RunFault.TheVariants.{EarlierRead, EarlierTooLong, NamesRead, NamesTooLong}
use Rattle.deb_input.specs.declared.fault.RunFault.TheVariants.{BadNameLine, Index, Background, Earlier, UnknownAsked, Slipped, Memory, Write}
use Rattle.deb_input.specs.declared.strict.Slip.{Slip}
use Rattle.deb_input.specs.declared.strict.Slip.TheVariants.{NoStanza, OtherArchitectures, NothingAsked}

-- a fault of a stanza, with its number
unfoldable pub stanza_text : ℕ → List ℕ → List ℕ
stanza_text stanza what = codes "stanza " ++ decimal stanza ++ codes ": " ++ what

-- what is said of a fault of a text
unfoldable pub index_fault_text : IndexError → List ℕ
index_fault_text (BadLine stanza) = stanza_text stanza (codes "bad line")
index_fault_text (RepeatedField stanza) = stanza_text stanza (codes "repeated field")
index_fault_text (MissingField stanza) = stanza_text stanza (codes "missing field")
index_fault_text (BadName stanza) = stanza_text stanza (codes "bad name")
index_fault_text (BadVersion stanza) = stanza_text stanza (codes "bad version")
index_fault_text (BadRelation stanza field) = stanza_text stanza (codes "bad relation in " ++ field_name field)
index_fault_text (TooManyStanzas stanza) = stanza_text stanza (codes "too many stanzas")
index_fault_text index.Memory = codes "out of memory"

-- what is said of a fault of a strict run
unfoldable pub slip_text : Slip → List ℕ
slip_text NoStanza = codes "the index is empty"
slip_text OtherArchitectures = codes "no stanza is of this architecture or of all"
slip_text NothingAsked = codes "nothing is asked"

-- what is said of a fault
unfoldable pub fault_text : RunFault → List ℕ
fault_text Read = codes "cannot read the index"
fault_text TooLong = codes "the index is too long"
fault_text BackgroundRead = codes "cannot read the background"
fault_text BackgroundTooLong = codes "the background is too long"
fault_text EarlierRead = codes "cannot read the earlier index"
fault_text EarlierTooLong = codes "the earlier index is too long"
fault_text NamesRead = codes "cannot read the names"
fault_text NamesTooLong = codes "the names are too many"
fault_text (BadNameLine line) = codes "names: line " ++ decimal line ++ codes ": bad name"
fault_text (Index fault) = index_fault_text fault
fault_text (Background fault) = codes "background: " ++ index_fault_text fault
fault_text (Earlier fault) = codes "earlier index: " ++ index_fault_text fault
fault_text (UnknownAsked name) = codes "unknown package " ++ name.items
fault_text (Slipped slip) = slip_text slip
fault_text Memory = codes "out of memory"
fault_text Write = codes "cannot write the report"

-- the line on standard error: the program's name, what is said, and LF
unfoldable pub fault_line : RunFault → List ℕ
fault_line fault = codes "debcheck: " ++ fault_text fault ++ (10 ∷ [])

-- the line that is told of a fault: its own, or that of want of memory
abbrev pub told_line : Bool → RunFault → List ℕ
told_line own fault = fault_line (if own then fault else Memory)
