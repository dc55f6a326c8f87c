-- Stems that are sought for lists of constraints are sought for each of them.
use Rattle.std.proofs.Common.{◌≡◌, ℕ, ◌+◌, ◌<◌, true, All, List, [], ◌∷◌, ◌++◌, ap, append_assoc, get_or, length, sym, take, ◌∙◌}
use Rattle.std.specs.List.{flat_map}
use Rattle.std.proofs.lemmas.List.{flat_map_more, take_more}
use Rattle.std.proofs.lemmas.List.Elements.{All-cons, All-nil}
use Rattle.deb_relation.specs.Relationship.{AtomText}
use Rattle.deb_index.specs.declared.constraint.Constraint.{Constraint}
use Rattle.deb_index.specs.Constraints.{IsOfIndex}
use Rattle.deb_index.specs.Packages.{IndexView}
use Rattle.deb_health.specs.declared.shown.Shown.{Shown}
use Rattle.deb_health.specs.Verdicts.{IsAskedOf, shown_view, ToldView, Installable, Found, Blocked, cores_in}
use Rattle.deb_causes.specs.declared.similar.Similar.{Similar}
use Rattle.deb_causes.specs.Near.{alternatives, stem, IsSimilarOf, stems_in, AreSought, has_text}
use Rattle.deb_causes.proofs.FirstOnes.{all-each}
use Rattle.deb_causes.proofs.SimilarLemmas.{all-grow}
use Rattle.deb_report.proofs.WalkLemmas.{flat_all}
use Rattle.deb_report.specs.Sought.{FitsWalk, constraints_in}

-- those of one element more
pub gathered_more : {A B : Type 0} (f : A → List B) (xs : List A) (i : ℕ) (d : A) (start old new : List B) → i < length xs
    → old ≡ start ++ flat_map f (take i xs) → new ≡ old ++ f (get_or xs i d) → new ≡ start ++ flat_map f (take (i + 1) xs)
gathered_more f xs i d start old new inside before grown =
    let one = get_or xs i d in
    grown ∙ ap (λ front. front ++ f one) before ∙ append_assoc start (flat_map f (take i xs)) (f one)
    ∙ ap (λ more. start ++ more) (flat_map_more f [] (take i xs) one ∙ ap (flat_map f) (sym (take_more xs i d inside)))

-- the constraints of the cores that are told
abbrev pub told : Shown → List Constraint
told one = constraints_in (shown_view one)

module _ (index : IndexView) (stems : List (List ℕ)) where
  abbrev IsSought : AtomText → Type 0
  IsSought atom = has_text stems (stem atom.name) ≡ true

  abbrev HasSought : Constraint → Type 0
  HasSought one = All IsSought (alternatives index one)

  each-alone : (constraints : List Constraint) → AreSought index stems constraints → All HasSought constraints
  each-alone constraints sought = all-each IsSought (alternatives index) constraints sought

  all-together : (constraints : List Constraint) → All HasSought constraints → AreSought index stems constraints
  all-together constraints each = flat_all HasSought IsSought (alternatives index) constraints (λ one these. these) each

  pub sought-each : {A : Type 0} (f : A → List Constraint) (xs : List A) → AreSought index stems (flat_map f xs) → All (λ x. AreSought index stems (f x)) xs
  sought-each f xs sought =
      all-grow (λ x. All HasSought (f x)) (λ x. AreSought index stems (f x)) (λ x each. all-together (f x) each) xs (all-each HasSought f xs (each-alone (flat_map f xs) sought))

  pub sought-alone : (core : List Constraint) → AreSought index stems core → All (λ one. AreSought index stems (one ∷ [])) core
  sought-alone core sought =
      all-grow HasSought (λ one. AreSought index stems (one ∷ [])) (λ one it. all-together (one ∷ []) (All-cons HasSought one [] it (All-nil HasSought))) core
      (each-alone core sought)

module _ (index : IndexView) where
  -- cores that are asked for are of the index
  pub cores-within : (asked : ℕ × ToldView) → IsAskedOf index asked → All (All (IsOfIndex index)) (cores_in asked.1)
  cores-within (place, Installable) within = All-nil (All (IsOfIndex index))
  cores-within (place, Found places) within = All-nil (All (IsOfIndex index))
  cores-within (place, Blocked cores) within = within.1

  pub constraints-within : (blocks : List Shown) → All (λ one. IsAskedOf index (shown_view one)) blocks → All (IsOfIndex index) (flat_map told blocks)
  constraints-within blocks asked =
      flat_all (λ (one : Shown). IsAskedOf index (shown_view one)) (IsOfIndex index) told blocks
      (λ one within. flat_all (All (IsOfIndex index)) (IsOfIndex index) (λ core. core) (cores_in (shown_view one).1) (λ core these. these)
      (cores-within (shown_view one) within)) asked

  -- the constraints of the cores are walked
  pub blocks-walked : (similar : Similar) (blocks : List Shown) → All (λ one. IsAskedOf index (shown_view one)) blocks → IsSimilarOf index similar
      → AreSought index (stems_in similar) (flat_map told blocks) → All (λ one. All (All (FitsWalk index similar)) (cores_in (shown_view one).1)) blocks
  blocks-walked similar blocks asked found sought = λ k d below.
      let stems = stems_in similar in
      let cores = cores_in (shown_view (get_or blocks k d)).1 in
      let within = cores-within (shown_view (get_or blocks k d)) (asked k d below) in
      let each = sought-each index stems (λ core. core) cores (sought-each index stems told blocks sought k d below) in
      λ j core inside.
      let alone = sought-alone index stems (get_or cores j core) (each j core inside) in
      λ i one there. record { of_index = within j core inside i one there; found = found; sought = alone i one there }
