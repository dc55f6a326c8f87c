-- Lists of images in a form.
use Rattle.std.proofs.Common.{◌≡◌, ℕ, List, [], ◌++◌, ap, ap₂, codes, if◌then◌else◌, map}
use Rattle.std.proofs.lemmas.List.{length-map}
use Rattle.deb_relation.proofs.JoinLemmas.{joined_map, lines_map}
use Rattle.run_settings.specs.declared.config.Format.{Format}
use Rattle.run_settings.specs.declared.config.Format.TheVariants.{Json, Text}
use Rattle.deb_report.specs.declared.form.Lead.{Lead}
use Rattle.deb_report.specs.declared.form.Lead.TheVariants.{Within}
use Rattle.deb_report.specs.Forms.{each_in, elements_in, end_of, leaves_out, list_in, some_in, title_in}

pub elements_map : {A B : Type 0} (form : Format) (lead : Lead) (text : B → List ℕ) (f : A → B) (xs : List A)
    → elements_in form lead text (map f xs) ≡ elements_in form lead (λ x. text (f x)) xs
unfolding elements_in
elements_map Text lead text f xs = ap (λ lines. codes "\n" ++ lines) (lines_map text f xs)
elements_map Json lead text f xs = ap (λ joined. codes "[" ++ joined ++ end_of lead) (joined_map text f (codes ",") xs)

-- under a title
pub list_map : {A B : Type 0} (form : Format) (lead : Lead) (title : List ℕ) (text : B → List ℕ) (f : A → B) (xs : List A)
    → list_in form lead title text (map f xs) ≡ list_in form lead title (λ x. text (f x)) xs
unfolding list_in
list_map form lead title text f xs = ap (λ elements. title_in form lead title ++ elements) (elements_map form lead text f xs)

-- which lines leave out where there are none
pub some_map : {A B : Type 0} (form : Format) (title : List ℕ) (text : B → List ℕ) (f : A → B) (xs : List A)
    → some_in form title text (map f xs) ≡ some_in form title (λ x. text (f x)) xs
unfolding some_in
some_map form title text f xs =
    ap₂ (λ (count : ℕ) (told : List ℕ). if leaves_out form count then [] else told) (length-map xs f) (list_map form Within title text f xs)

-- each under the title
pub each_map : {A B : Type 0} (form : Format) (title : List ℕ) (text : B → List ℕ) (f : A → B) (xs : List A)
    → each_in form title text (map f xs) ≡ each_in form title (λ x. text (f x)) xs
unfolding each_in
each_map Text title text f xs = lines_map (λ element. title_in Text Within title ++ text element) f xs
each_map Json title text f xs = list_map Json Within title text f xs
