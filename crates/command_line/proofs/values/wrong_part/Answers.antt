use Rattle.std.proofs.Common.{◌≡◌, ◌∙◌, ◌&&◌, if◌then◌else◌, Bool, List, Option, None, Some, [], ◌∷◌, ap, false, is_none, lit<, not, option_map, refl, rules, tests, true}
use Rattle.std.specs.List.{find, list_all}
use Rattle.std.proofs.lemmas.Iterator.Search.{find_from_yields_List}
use Rattle.std.proofs.lemmas.Iterator.Splits.{YieldsList-from_str_split}
use Rattle.deb_relation.specs.Relationship.{is_name}
use Rattle.command_line.specs.Line.{names_in}
use Rattle.command_line.proofs.values.wrong_part.Goals as goal

none-cons : {X : Type 0} (good : Bool) (x : X) (found : Option X) (more : Bool) → is_none found ≡ more → is_none (if not good then Some x else found) ≡ (good && more)
none-cons true x found more are = are
none-cons false x found more are = refl

none-found : {X : Type 0} (test : X → Bool) (xs : List X) → is_none (find (λ x. not (test x)) xs) ≡ list_all test xs
none-found test [] = refl
none-found test (x ∷ xs) = none-cons (test x) x (find (λ y. not (test y)) xs) (list_all test xs) (none-found test xs)

none-mapped : {X Y : Type 0} (f : X → Y) (r : Option X) → is_none r ≡ is_none (option_map f r)
none-mapped f None = refl
none-mapped f (Some x) = refl

pub returns : goal.returns
returns c =
    let found : option_map (λ part. part.now) c.find.result ≡ find (λ name. not (is_name name)) (names_in c.args.text.now) =
    find_from_yields_List (λ name. not (is_name name)) _ _ c.find.result c.find.ensures.ran
    (YieldsList-from_str_split 44 c.args.text.now (lit< tt) c.split.ensures.text c.split.ensures.has_more c.split.ensures.pattern) (λ x b q k. search (rules, tests)) in
    none-mapped (λ part. part.now) c.find.result ∙ ap is_none found ∙ none-found is_name (names_in c.args.text.now)
