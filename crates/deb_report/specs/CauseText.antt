-- The blocks of causes.
use Rattle.std.specs.Prelude.{ℕ, Bool, false, true, List, [], ◌∷◌, ◌++◌, Option, None, Some, length, codes, decimal, if◌then◌else◌}
use Rattle.deb_index.specs.declared.constraint.Constraint.{Constraint}
use Rattle.deb_index.specs.declared.constraint.Constraint.TheVariants.{Need}
use Rattle.deb_index.specs.Packages.{IndexView, need_at, package_at}
use Rattle.deb_report.specs.Forms.{PartView, OfKind, OfRelation, block_end, elements_in, item_in, list_in, number_in, some_in, title_in}
use Rattle.deb_report.specs.Answers.{hits_of}
use Rattle.deb_report.specs.Reasons.{asked_parts, group_field, near_to_in, place_in, reason_parts}
use Rattle.deb_report.specs.declared.form.Lead.TheVariants.{Block, Tall, Within}
use Rattle.deb_causes.specs.Causes.{CauseView}
use Rattle.run_settings.specs.declared.config.Format.{Format}
use Rattle.run_settings.specs.declared.config.Format.TheVariants.{Json, Text}

-- what is wrong, of a need its alternatives alone, which are missing; or who needs it
unfoldable pub told_parts : Bool → IndexView → Constraint → List PartView
told_parts needed index (Need place number) = let deb = package_at index place in let group = need_at index place number in
    if needed then asked_parts deb (group_field deb number) group else OfKind (codes "missing") ∷ OfRelation group ∷ []
told_parts needed index constraint = reason_parts index constraint

abbrev pub told_in : Bool → Format → IndexView → Constraint → List ℕ
told_in needed form index constraint = item_in form Within (told_parts needed index constraint)

-- the block of a cause
unfoldable pub cause_in : Format → IndexView → CauseView → List ℕ
cause_in form index cause = number_in form Block (codes "packages") (length cause.places)
    ++ number_in form Within (codes "frees") cause.frees
    ++ list_in form Within (codes "reasons") (told_in false form index) cause.constraints
    ++ some_in form (codes "needed-by") (told_in true form index) cause.needs
    ++ some_in form (codes "hits") (place_in form index) (hits_of index cause.constraints)
    ++ some_in form (codes "versions") (place_in form index) cause.versions
    ++ near_to_in form index cause.constraints
    ++ list_in form Within (codes "broken") (place_in form index) cause.places
    ++ block_end form

-- lines tell how many there are
unfoldable pub count_in : Format → ℕ → List ℕ
count_in Text count = codes " " ++ decimal count
count_in Json count = []

-- the causes, where they are told
abbrev pub causes_in : Format → IndexView → Option (List CauseView) → List ℕ
causes_in form index None = []
causes_in form index (Some causes) = title_in form Tall (codes "causes") ++ count_in form (length causes) ++ elements_in form Tall (cause_in form index) causes
