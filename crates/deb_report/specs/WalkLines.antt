-- A core as it is walked from the package, in lines; and where a walk goes on from a constraint, as members of its item.
use Rattle.std.specs.Prelude.{ℕ, ◌==◌, Bool, true, false, not, ◌||◌, List, [], ◌∷◌, ◌++◌, codes, if◌then◌else◌, length, map}
use Prim.Native.Nat.{zero, suc}
use Rattle.std.specs.List.{flat_map, join_by}
use Rattle.number_sets.specs.Sets.{NumberSet, members_of}
use Rattle.deb_relation.specs.Relationship.{AtomText, told_if, printed}
use Rattle.deb_index.specs.declared.constraint.Constraint.{Constraint}
use Rattle.deb_index.specs.declared.constraint.Constraint.TheVariants.{Essential, Need, Apart, Only}
use Rattle.deb_index.specs.Packages.{IndexView, PackageView, apart_at, name_at, need_at, package_at, places_of}
use Rattle.deb_causes.specs.Near.{NearMissView, near_misses, similar_names, is_missing}
use Rattle.deb_report.specs.declared.walk.Step.{Step}
use Rattle.deb_report.specs.declared.walk.Step.TheVariants.{Begin, Meet, Tell}
use Rattle.deb_report.specs.Answers.{met_by, answer_at, hits_of}
use Rattle.deb_report.specs.Walk.{are_told, brought, comers, first_steps, hits_in, own_steps, step_limit, versions_coming, walk}
use Rattle.deb_report.specs.Forms.{part_line, list_in, name_in}
use Rattle.deb_report.specs.Reasons.{asked_parts, entry_field, group_field, near_parts, package_part, near_in, near_to_in, place_in}
use Rattle.deb_report.specs.declared.form.Lead.TheVariants.{Within}
use Rattle.run_settings.specs.declared.config.Format.{Format}

-- ---- what a step tells

-- two blanks for each depth
unfoldable pub blanks : ℕ → List ℕ
blanks zero = []
blanks (suc depth) = blanks depth ++ codes "  "

-- what stands before a line
unfoldable pub lead : ℕ → List ℕ
lead depth = blanks depth ++ codes "   - "

-- what was told already
unfoldable pub above_text : Bool → List ℕ
above_text told = if told then codes " (above)" else []

-- a package that may be told already
unfoldable pub seen_text : IndexView → NumberSet → ℕ → List ℕ
seen_text index told place = part_line (package_part (package_at index place)) ++ above_text (told place)

-- a near miss
unfoldable pub near_text : NearMissView → List ℕ
near_text miss = flat_map part_line (near_parts miss)

-- what a package asks for
abbrev pub asked_text : PackageView → List ℕ → List AtomText → List ℕ
asked_text deb field relation = flat_map part_line (asked_parts deb field relation)

-- a need that nothing meets, with what comes near to it, and the names that are similar to its own
unfoldable pub missing_text : List NearMissView → List (List ℕ) → List ℕ
missing_text misses names = codes " missing" ++ told_if (codes "; present: ") near_text misses ++ told_if (codes "; similar: ") (λ name. name) names

-- how a need ends
abbrev pub need_ending : IndexView → NumberSet → Constraint → List AtomText → List ℕ
need_ending index told constraint group = if is_missing index group
    then missing_text (near_misses index (constraint ∷ [])) (similar_names index (constraint ∷ []))
    else above_text (are_told told (brought index constraint))

-- what the core says
unfoldable pub constraint_text : IndexView → NumberSet → NumberSet → Constraint → List ℕ
constraint_text index coming told (Essential name) = codes "essential: " ++ name_at index name ++ above_text (are_told told (brought index (Essential name)))
constraint_text index coming told (Need place number) = let deb = package_at index place in let group = need_at index place number in
    asked_text deb (group_field deb number) group ++ need_ending index told (Need place number) group
constraint_text index coming told (Apart place number) = let deb = package_at index place in let entry = apart_at index place number in
    asked_text deb (entry_field deb number) (entry ∷ []) ++ told_if (codes " hits ") (seen_text index told) (hits_in index coming place entry)
constraint_text index coming told (Only name) = codes "versions: " ++ join_by (seen_text index told) (codes ", ") (versions_coming index coming name)

-- the line of a package, with the entry of Provides by which it is met
unfoldable pub package_line : IndexView → ℕ → ℕ → List AtomText → Bool → List ℕ
package_line index depth place entries told = lead depth ++ near_text (record { deb = package_at index place; provides = entries }) ++ above_text told ++ codes "\n"

-- a package has a line of its own where the core says nothing of it, or where it is met by Provides
unfoldable pub package_text : IndexView → List Constraint → ℕ → ℕ → List AtomText → List ℕ
package_text index core depth place entries =
    if length (own_steps core depth place) == 0 || not (length entries == 0) then package_line index depth place entries false else []

-- what a step tells
unfoldable pub step_text : IndexView → List Constraint → NumberSet → NumberSet → Step → List ℕ
step_text index core coming told (Begin place) = if told place then [] else package_text index core 0 place []
step_text index core coming told (Meet depth place constraint) =
    if told place then package_line index depth place (met_by index constraint place) true
    else package_text index core depth place (met_by index constraint place)
step_text index core coming told (Tell depth constraint) = lead depth ++ constraint_text index coming told constraint ++ codes "\n"

-- ---- the walk

-- what the steps of a walk tell, as they are gone
abbrev pub walk_text : ℕ → IndexView → List Constraint → NumberSet → NumberSet → List Step → List ℕ
walk_text count index core coming told steps = flat_map (λ gone. step_text index core coming gone.0 gone.1) (walk count index core told steps)

-- the lines of a core as it is walked from the package at a place
unfoldable pub walk_lines : IndexView → ℕ → List Constraint → List ℕ
walk_lines index place core =
    walk_text step_limit index core (members_of (comers index core place)) (members_of []) (first_steps core place)

-- the packages that answer a constraint, with the entry that they answer it by
unfoldable pub answers_to : IndexView → Constraint → List NearMissView
answers_to index constraint = map (answer_at index constraint) (brought index constraint)

-- to the packages that answer a need, or to its alternatives and what is near to them, where nothing answers it; to the packages that an entry hits; to the
-- versions of a name
unfoldable pub links_in : Format → IndexView → Constraint → List ℕ
links_in form index (Essential name) = []
links_in form index (Need place number) = let group = need_at index place number in
    if is_missing index group then list_in form Within (codes "alternatives") (λ atom. name_in form (printed atom)) group
    ++ near_to_in form index (Need place number ∷ [])
    else list_in form Within (codes "met-by") (near_in form) (answers_to index (Need place number))
links_in form index (Apart place number) = list_in form Within (codes "hits") (place_in form index) (hits_of index (Apart place number ∷ []))
links_in form index (Only name) = list_in form Within (codes "versions") (place_in form index) (places_of index (name_at index name))
