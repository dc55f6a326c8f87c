-- What meets an atom is among the candidates of its name: what is asked of packages and of entries one by one is what is asked of all.
use Rattle.std.proofs.Common.{◌≡◌, ℕ, suc, zero, ◌+◌, ◌<◌, Bool, true, false, ◌&&◌, ◌||◌, eqb, List, [], ◌∷◌, ◌++◌, map, take, get_or, length, Option, Some, None, slice_get, refl, sym, ◌∙◌, ap, arith}
use Rattle.std.specs.List.{list_any, enumerate_from, flat_map}
use Rattle.std.specs.Option.{option_map_or}
use Rattle.std.proofs.lemmas.Bool.{eq-eqb, ne_eqb}
use Rattle.std.proofs.lemmas.List.Folds.{list_any-append, list_any_more}
use Rattle.deb_relation.specs.Relationship.{AtomText, is_usable}
use Rattle.deb_index.specs.declared.meets.Role.{Role}
use Rattle.deb_index.specs.declared.meets.Role.TheVariants.{Alternative, Entry}
use Rattle.deb_index.specs.Packages.{IndexView, PackageView, is_in, is_named, places_of, places_where}
use Rattle.deb_index.specs.Meets.{allows, entry_meets, is_providing, meets, meets_bound, meets_need, provided_at, provided_version}
use Rattle.deb_index.specs.Rows.{meets_as, meets_as_at, provides_as, provides_as_at, usable_as}
use Rattle.deb_index.proofs.FoundLemmas.{or-none}
use Rattle.deb_index.proofs.MemberLemmas.{from_fail, from_pass, member-places_where, places_from}

-- ---- the entries of a package, asked by their numbers

module _ {A : Type 0} (t g : A → Bool) where
  pub numbers-any : (h : ℕ → Bool) (n : ℕ) (xs : List A) → ((i : ℕ) → h (n + i) ≡ option_map_or g (slice_get xs i) false) → list_any h (places_from t n xs) ≡ list_any (λ x. t x && g x) xs
  numbers-any h n [] same = refl
  numbers-any h n (x ∷ xs) same =
      let first : n ≡ n + 0 = omega arith in
      let here : h n ≡ g x = ap h first ∙ same zero in
      let rest : list_any h (places_from t (n + 1) xs) ≡ list_any (λ y. t y && g y) xs =
      numbers-any h (n + 1) xs (λ i. let next : n + 1 + i ≡ n + suc i = omega arith in ap h next ∙ same (suc i)) in
      grind (arith, here, rest, from_pass t n x xs, from_fail t n x xs)

  -- what is asked of all alike is asked once
  and-any : (u : Bool) (xs : List A) → list_any (λ x. t x && (u && g x)) xs ≡ (u && list_any (λ x. t x && g x) xs)
  and-any true xs = refl
  and-any false [] = refl
  and-any false (x ∷ xs) = grind (arith, and-any false xs)

-- ---- entries of all packages, asked whether they are of the package at a place

abbrev at_place : ℕ → List ℕ → List (ℕ × ℕ)
at_place n js = map (λ (j : ℕ). (n, j)) js

module _ (f : ℕ → ℕ → Bool) (m : ℕ) where
  abbrev asks : ℕ × ℕ → Bool
  asks e = eqb e.0 m && f e.0 e.1

  at-here : (n : ℕ) (js : List ℕ) → n ≡ m → list_any asks (at_place n js) ≡ list_any (f n) js
  at-here n [] e = refl
  at-here n (j ∷ js) e = (λ k. (eq-eqb n m e k && f n j) || at-here n js e k)

  at-other : (n : ℕ) (js : List ℕ) → (n ≡ m → ⊥) → list_any asks (at_place n js) ≡ false
  at-other n [] ne = refl
  at-other n (j ∷ js) ne = (λ k. (ne_eqb n m ne k && f n j) || at-other n js ne k)

  module _ {A : Type 0} (js : A → List ℕ) where
    abbrev entries : ℕ → List A → List (ℕ × ℕ)
    entries n xs = flat_map (λ (e : ℕ × A). at_place e.0 (js e.1)) (enumerate_from n xs)

    none-later : (n : ℕ) (xs : List A) → m < n → list_any asks (entries n xs) ≡ false
    none-later n [] less = refl
    none-later n (x ∷ xs) less =
        list_any-append asks (at_place n (js x)) (entries (n + 1) xs) ∙ (λ k. at-other n (js x) (λ same. omega (arith, same, less)) k || none-later (n + 1) xs (omega (arith, less)) k)

    pub entry-any : (n q : ℕ) (xs : List A) → n + q ≡ m → list_any asks (entries n xs) ≡ option_map_or (λ x. list_any (f m) (js x)) (slice_get xs q) false
    entry-any n q [] at = refl
    entry-any n zero (x ∷ xs) at =
        let same : n ≡ m = omega (arith, at) in
        list_any-append asks (at_place n (js x)) (entries (n + 1) xs)
        ∙ (λ k. (at-here n (js x) same ∙ ap (λ i. list_any (f i) (js x)) same) k || none-later (n + 1) xs (omega (arith, at)) k) ∙ or-none (list_any (f m) (js x))
    entry-any n (suc q) (x ∷ xs) at =
        list_any-append asks (at_place n (js x)) (entries (n + 1) xs) ∙ (λ k. at-other n (js x) (λ same. omega (arith, same, at)) k || entry-any (n + 1) q xs (omega (arith, at)) k)

-- ---- of the candidates of a name

pub or-assoc : (a b c : Bool) → ((a || b) || c) ≡ (a || (b || c))
or-assoc a b c = grind arith

-- whoever meets the atom has the name or meets it by an entry: n has the name, u may be taken, b has the version, a has an entry, w has the mark
entry-either : (n u b a : Bool) → ((n && (u && ((n && b) || a))) || (u && a)) ≡ (u && ((n && b) || a))
entry-either n u b a = grind arith

need-either : (n u b a w : Bool) → ((n && ((u && ((n && b) || a)) && w)) || ((u && w) && a)) ≡ ((u && ((n && b) || a)) && w)
need-either n u b a w = grind arith

meets-either : (role : Role) (arch : List ℕ) (p : PackageView) (atom : AtomText)
    → ((is_named atom.name p && meets_as role arch p atom) || (usable_as role arch p atom && list_any (entry_meets arch atom) p.provides)) ≡ meets_as role arch p atom
unfolding meets meets_need
meets-either Alternative arch p atom = need-either (is_named atom.name p) (is_usable arch atom.qualifier) (meets_bound (Some p.version) atom.bound) (list_any (entry_meets arch atom) p.provides) (allows p atom)
meets-either Entry arch p atom = entry-either (is_named atom.name p) (is_usable arch atom.qualifier) (meets_bound (Some p.version) atom.bound) (list_any (entry_meets arch atom) p.provides)

module _ (role : Role) (index : IndexView) (atom : AtomText) where
  abbrev pub is_entry_of : ℕ → ℕ × ℕ → Bool
  is_entry_of q e = eqb e.0 q && provides_as_at role index e atom

  abbrev numbers : PackageView → List ℕ
  numbers p = places_where (is_providing index.arch atom.name) p.provides

  provided-any : (q : ℕ) → list_any (is_entry_of q) (provided_at index atom.name) ≡ option_map_or (λ p. list_any (λ j. provides_as role index.arch p j atom) (numbers p)) (slice_get index.packages q) false
  unfolding provided_at
  provided-any q = entry-any (λ place j. provides_as_at role index (place, j) atom) q numbers 0 q index.packages (omega arith) ∙ at (slice_get index.packages q)
    where
      at : (o : Option PackageView) → option_map_or (λ p. list_any (λ j. option_map_or (λ r. provides_as role index.arch r j atom) o false) (numbers p)) o false
          ≡ option_map_or (λ p. list_any (λ j. provides_as role index.arch p j atom) (numbers p)) o false
      at None = refl
      at (Some p) = refl

  package-any : (p : PackageView) → list_any (λ j. provides_as role index.arch p j atom) (numbers p) ≡ (usable_as role index.arch p atom && list_any (entry_meets index.arch atom) p.provides)
  unfolding places_where
  package-any p =
      let u = usable_as role index.arch p atom in
      let bound : AtomText → Bool = λ entry. meets_bound (provided_version entry) atom.bound in
      numbers-any (is_providing index.arch atom.name) (λ entry. u && bound entry) (λ j. provides_as role index.arch p j atom) 0 p.provides
      (λ i. let same : 0 + i ≡ i = omega arith in ap (λ j. provides_as role index.arch p j atom) same)
      ∙ and-any (is_providing index.arch atom.name) bound u p.provides

  candidates-any : (q : ℕ) → ((is_in (places_of index atom.name) q && meets_as_at role index q atom) || list_any (is_entry_of q) (provided_at index atom.name)) ≡ meets_as_at role index q atom
  candidates-any q = (λ k. (member-places_where (is_named atom.name) index.packages q k && meets_as_at role index q atom) || provided-any q k) ∙ at (slice_get index.packages q)
    where
      at : (o : Option PackageView) → ((option_map_or (is_named atom.name) o false && option_map_or (λ p. meets_as role index.arch p atom) o false)
          || option_map_or (λ p. list_any (λ j. provides_as role index.arch p j atom) (numbers p)) o false) ≡ option_map_or (λ p. meets_as role index.arch p atom) o false
      at None = refl
      at (Some p) = ap (λ b. (is_named atom.name p && meets_as role index.arch p atom) || b) (package-any p) ∙ meets-either role index.arch p atom

  -- all candidates were asked, and so all that meet the atom are found
  pub all-asked : (before middle : ℕ → Bool) (named : List ℕ) (provided : List (ℕ × ℕ)) (q : ℕ) → named ≡ places_of index atom.name → provided ≡ provided_at index atom.name
      → middle q ≡ (before q || (is_in named q && meets_as_at role index q atom)) → (middle q || list_any (is_entry_of q) provided) ≡ (before q || meets_as_at role index q atom)
  all-asked before middle named provided q n p first =
      ap (λ b. b || list_any (is_entry_of q) provided) first ∙ or-assoc (before q) (is_in named q && meets_as_at role index q atom) (list_any (is_entry_of q) provided)
      ∙ ap (λ b. before q || b) ((λ k. (is_in (n k) q && meets_as_at role index q atom) || list_any (is_entry_of q) (p k)) ∙ candidates-any q)

pub or-weaker : (before in_list meets : Bool) → (before || (in_list && meets)) ≡ true → (before || meets) ≡ true
or-weaker before in_list meets there = grind (arith, there)

-- ---- entries are asked one after the other

-- one is put down behind the others if it passes
pub entry-put : (found : List ℕ) (p q : ℕ) (t : Bool) → t ≡ true → is_in (found ++ p ∷ []) q ≡ (is_in found q || (eqb p q && t))
entry-put found p q t passes = grind (arith, passes, list_any-append (λ place. eqb place q) found (p ∷ []))

pub entry-left : (found : List ℕ) (p q : ℕ) (t : Bool) → t ≡ false → is_in found q ≡ (is_in found q || (eqb p q && t))
entry-left found p q t fails = grind (arith, fails)

-- of elements that each have a place: those that pass, and the next
pub any-more : {E : Type 0} (place : E → ℕ) (q : ℕ) (before found : Bool) (test : E → Bool) (es : List E) (i : ℕ) (e d : E) (wanted : Bool) → i < length es → e ≡ get_or es i d → wanted ≡ test e
    → found ≡ (before || list_any (λ x. eqb (place x) q && test x) (take i es)) → (found || (eqb (place e) q && wanted)) ≡ (before || list_any (λ x. eqb (place x) q && test x) (take (i + 1) es))
any-more {E} place q before found test es i e d wanted within at is old =
    let t : E → Bool = λ x. eqb (place x) q && test x in
    (λ k. old k || (eqb (place e) q && is k)) ∙ or-assoc before (list_any t (take i es)) (t e)
    ∙ ap (λ b. before || b) (ap (λ b. list_any t (take i es) || b) (ap t at) ∙ sym (list_any_more t es i d within))
