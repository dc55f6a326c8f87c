-- Lemmas on the walk through a core.
use Rattle.std.proofs.Common.{◌≡◌, ◌==◌, ℕ, ◌+◌, ◌<◌, ◌||◌, Bool, List, [], ◌∷◌, ◌++◌, All, filter, length, get_or, take, map, reverse, append-nil, refl, sym, ap, ap₂, nat_eq, ◌∙◌, inl, inr, not}
use Rattle.std.proofs.lemmas.Bool.{cases_Bool}
use Rattle.std.proofs.lemmas.Grind.{flat_map-append}
use Rattle.std.proofs.lemmas.List.{append_assoc, reverse-append, take_more}
use Rattle.std.proofs.lemmas.List.Elements.{All-append, All-cons, All-head, All-nil, All-tail}
use Rattle.std.proofs.lemmas.List.Folds.{list_any-append}
use Rattle.std.specs.Cmp.{nat_eq_equiv}
use Rattle.std.specs.List.{flat_map, list_any}
use Rattle.std.specs.Set.{is_member}
use Rattle.number_sets.specs.Sets.{NumberSet, members_of}
use Rattle.deb_relation.specs.Relationship.{AtomText}
use Rattle.deb_index.specs.declared.constraint.Constraint.{Constraint}
use Rattle.deb_index.specs.declared.constraint.Constraint.TheVariants.{Essential, Need, Apart, Only}
use Rattle.deb_index.specs.Constraints.{IsOfIndex}
use Rattle.deb_index.specs.Meets.{meets, meets_need, satisfiers}
use Rattle.deb_index.specs.Packages.{IndexView, is_named, name_at, need_at, places_of}
use Rattle.deb_index.proofs.MemberLemmas.{below-places_where}
use Rattle.deb_report.specs.declared.walk.Step.{Step}
use Rattle.deb_report.specs.declared.walk.Step.TheVariants.{Begin, Meet, Tell}
use Rattle.deb_report.specs.Walk.{IsStepOf, are_told, begin_step, brought, comers, depth_of, first_steps, hits_in, is_hit, is_own, met_steps, named_step, own_steps, steps_behind, versions_coming}

-- what is brought is of the index
pub brought-within : (index : IndexView) (constraint : Constraint) → All (λ place. place < length index.packages) (brought index constraint)
unfolding brought
brought-within index (Essential name) = below-places_where (is_named (name_at index name)) index.packages
brought-within index (Need place number) = below-places_where (λ q. list_any (meets_need index.arch q) (need_at index place number)) index.packages
brought-within index (Apart place number) = All-nil (λ place. place < length index.packages)
brought-within index (Only name) = All-nil (λ place. place < length index.packages)

-- what one constraint more brings
comers_more : (index : IndexView) (core : List Constraint) (i place : ℕ) (d c : Constraint) (q : ℕ) → i < length core → c ≡ get_or core i d
    → members_of (comers index (take (i + 1) core) place) q ≡ (members_of (comers index (take i core) place) q || members_of (brought index c) q)
comers_more index core i place d c q inside is =
    let more : take (i + 1) core ≡ take i core ++ c ∷ [] = take_more core i d inside ∙ ap (λ (last : Constraint). take i core ++ last ∷ []) (sym is) in
    let all : flat_map (brought index) (take (i + 1) core) ≡ flat_map (brought index) (take i core) ++ brought index c =
    ap (flat_map (brought index)) more ∙ flat_map-append (brought index) (take i core) (c ∷ []) ∙ ap (λ last. flat_map (brought index) (take i core) ++ last) (append-nil (brought index c)) in
    ap (λ places. members_of (place ∷ places) q) all ∙ list_any-append (λ member. member == q) (place ∷ flat_map (brought index) (take i core)) (brought index c)

-- the members of a list, asked the other way round
turned : (xs : List ℕ) (q : ℕ) → is_member nat_eq xs q ≡ members_of xs q
turned [] q = refl
turned (x ∷ xs) q = ap₂ (λ a b. a || b) (nat_eq_equiv.symm q x) (turned xs q)

-- whether a package comes, where the row of what is brought is known by an equation
pub coming_row : (index : IndexView) (core : List Constraint) (i place : ℕ) (d c : Constraint) (old new : Bool) (row : List ℕ) (q : ℕ) → i < length core → c ≡ get_or core i d
    → row ≡ brought index c → old ≡ members_of (comers index (take i core) place) q → new ≡ (old || is_member nat_eq row q)
    → new ≡ members_of (comers index (take (i + 1) core) place) q
coming_row index core i place d c old new row q inside is row_is before grown =
    grown ∙ ap (λ b. b || is_member nat_eq row q) before
    ∙ ap (λ b. members_of (comers index (take i core) place) q || b) (turned row q ∙ ap (λ ps. members_of ps q) row_is)
    ∙ sym (comers_more index core i place d c q inside is)

-- what holds of each element holds of those that are kept
pub filter_all : {A : Type 0} (P : A → Type 0) (test : A → Bool) (xs : List A) → All P xs → All P (filter test xs)
filter_all P test [] all = All-nil P
filter_all P test (x ∷ xs) all =
    let later : All P (filter test xs) = filter_all P test xs (All-tail P x xs all) in
    elim (cases_Bool (test x)) [
      | inl passes ↦ rw passes (All-cons P x (filter test xs) (All-head P x xs all) later)
      | inr fails ↦ rw fails later
    ]

-- of what an entry hits, but for the package that has it, what comes
pub hits-coming : (coming : NumberSet) (place : ℕ) (xs : List ℕ) → filter coming (filter (λ hit. not (hit == place)) xs) ≡ filter (is_hit coming place) xs
hits-coming coming place [] = refl
hits-coming coming place (x ∷ xs) =
    let later : filter coming (filter (λ hit. not (hit == place)) xs) ≡ filter (is_hit coming place) xs = hits-coming coming place xs in
    elim (cases_Bool (x == place)) [
      | inl own ↦ elim (cases_Bool (coming x)) [
        | inl comes ↦ rw (own, comes) later
        | inr stays ↦ rw (own, stays) later
      ]
      | inr other ↦ elim (cases_Bool (coming x)) [
        | inl comes ↦ rw (other, comes) (ap (λ rest. x ∷ rest) later)
        | inr stays ↦ rw (other, stays) later
      ]
    ]

-- the packages that are hit, and the versions, are of the index
pub hits-within : (index : IndexView) (coming : NumberSet) (place : ℕ) (atom : AtomText) → All (λ hit. hit < length index.packages) (hits_in index coming place atom)
hits-within index coming place atom =
    filter_all (λ hit. hit < length index.packages) (is_hit coming place) (satisfiers index atom) (below-places_where (λ q. meets index.arch q atom) index.packages)

pub versions-within : (index : IndexView) (coming : NumberSet) (name : ℕ) → All (λ version. version < length index.packages) (versions_coming index coming name)
versions-within index coming name =
    filter_all (λ version. version < length index.packages) coming (places_of index (name_at index name)) (below-places_where (is_named (name_at index name)) index.packages)

-- the next step is the last of the stack
pub next_is : {A : Type 0} (old new : List A) (x : A) → old ≡ new ++ x ∷ [] → reverse old ≡ x ∷ reverse new
next_is old new x is = ap reverse is ∙ reverse-append new (x ∷ [])

-- a step goes from one list to the stack
pub moved : {A : Type 0} (left next stack higher : List A) (x : A) → left ≡ next ++ x ∷ [] → higher ≡ stack ++ x ∷ [] → next ++ reverse higher ≡ left ++ reverse stack
moved left next stack higher x taken put =
    ap (λ back. next ++ back) (next_is higher stack x put)
    ∙ sym (ap (λ front. front ++ reverse stack) taken ∙ append_assoc next (x ∷ []) (reverse stack))

-- ---- steps of the index

-- what holds of all that each element gives
pub flat_all : {A B : Type 0} (P : A → Type 0) (Q : B → Type 0) (f : A → List B) (xs : List A) → ((x : A) → P x → All Q (f x)) → All P xs → All Q (flat_map f xs)
flat_all P Q f [] gives all = All-nil Q
flat_all P Q f (x ∷ xs) gives all = All-append Q (f x) (flat_map f xs) (gives x (All-head P x xs all)) (flat_all P Q f xs gives (All-tail P x xs all))

map_all : {A B : Type 0} (P : A → Type 0) (Q : B → Type 0) (f : A → B) (xs : List A) → ((x : A) → P x → Q (f x)) → All P xs → All Q (map f xs)
map_all P Q f [] gives all = All-nil Q
map_all P Q f (x ∷ xs) gives all = All-cons Q (f x) (map f xs) (gives x (All-head P x xs all)) (map_all P Q f xs gives (All-tail P x xs all))

module _ (index : IndexView) (P : Constraint → Type 0) where
  abbrev Fits : Step → Type 0
  Fits = IsStepOf index P

  own-within : (core : List Constraint) (depth place : ℕ) → All P core → All Fits (own_steps core depth place)
  unfolding own_steps
  own-within core depth place all = map_all P Fits (λ c. Tell depth c) (filter (is_own place) core) (λ c fits. fits) (filter_all P (is_own place) core all)

  met-within : (told : NumberSet) (depth : ℕ) (c : Constraint) → P c → All Fits (met_steps index told depth c)
  unfolding met_steps
  met-within told depth c fits = elim (cases_Bool (are_told told (brought index c))) [
    | inl passes ↦ rw passes (All-nil Fits)
    | inr fails ↦ rw fails (map_all (λ place. place < length index.packages) Fits (λ place. Meet (depth_of depth (brought index c)) place c) (brought index c)
        (λ place inside. (inside, fits)) (brought-within index c))
  ]

  -- what follows from a step of the index is of the index
  pub behind-within : (core : List Constraint) (told : NumberSet) (step : Step) → All P core → Fits step → All Fits (steps_behind index core told step)
  unfolding steps_behind
  behind-within core told (Begin place) all fits = elim (cases_Bool (told place)) [
    | inl passes ↦ rw passes (All-nil Fits)
    | inr fails ↦ rw fails (own-within core 0 place all)
  ]
  behind-within core told (Meet depth place c) all fits = elim (cases_Bool (told place)) [
    | inl passes ↦ rw passes (All-nil Fits)
    | inr fails ↦ rw fails (own-within core depth place all)
  ]
  behind-within core told (Tell depth c) all fits = met-within told depth c fits

  -- the next step, and those behind it
  pub next-within : (stack popped : List Step) (step : Step) → stack ≡ popped ++ step ∷ [] → All Fits (reverse stack) → Fits step
  next-within stack popped step top all =
      All-head Fits step (reverse popped) (rw (next_is stack popped step top) at all)

  pub left-within : (core : List Constraint) (told : NumberSet) (stack popped next steps : List Step) (step : Step) → stack ≡ popped ++ step ∷ [] → reverse next ≡ steps ++ reverse popped
      → steps ≡ steps_behind index core told step → All P core → All Fits (reverse stack) → All Fits (reverse next)
  left-within core told stack popped next steps step top put follow all these =
      let those : All Fits (step ∷ reverse popped) = rw (next_is stack popped step top) at these in
      rw (put, follow) (All-append Fits (steps_behind index core told step) (reverse popped)
      (behind-within core told step all (All-head Fits step (reverse popped) those)) (All-tail Fits step (reverse popped) those))

  -- the first steps are of the index
  pub first-within : (core : List Constraint) (place : ℕ) → place < length index.packages → ((c : Constraint) → P c → IsOfIndex index c) → All P core → All Fits (first_steps core place)
  unfolding first_steps
  first-within core place inside of all =
      All-cons Fits (Begin place) _ inside (All-append Fits (flat_map named_step core) (flat_map begin_step core) (flat_all P Fits named_step core named all)
      (flat_all P Fits begin_step core (λ c fits. begin c (of c fits)) all))
    where
      named : (c : Constraint) → P c → All Fits (named_step c)
      named (Essential name) fits = All-cons Fits (Tell 0 (Essential name)) [] fits (All-nil Fits)
      named (Need p j) fits = All-nil Fits
      named (Apart p j) fits = All-nil Fits
      named (Only name) fits = All-cons Fits (Tell 0 (Only name)) [] fits (All-nil Fits)

      begin : (c : Constraint) → IsOfIndex index c → All Fits (begin_step c)
      begin (Essential name) within = All-nil Fits
      begin (Need p j) within = All-cons Fits (Begin p) [] within.0 (All-nil Fits)
      begin (Apart p j) within = All-cons Fits (Begin p) [] within.0 (All-nil Fits)
      begin (Only name) within = All-nil Fits
