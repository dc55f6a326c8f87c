-- The names of an index, and what is found under each.
use Rattle.std.proofs.Common.{◌≡◌, ◌<◌, ◌≤◌, ◌+◌, ℕ, Bool, false, not, ◌||◌, List, [], ◌∷◌, ◌++◌, map, filter, length, get_or, drop, Option, Some, None, refl, sym, ap, ◌∙◌, subst, arith}
use Rattle.std.specs.Prelude.{position, slice_get}
use Rattle.std.specs.List.{enumerate_from, list_any}
use Rattle.std.specs.Option.{is_some}
use Rattle.std.specs.Str.{bytes_eq}
use Rattle.std.proofs.lemmas.Bool.{or_parts}
use Rattle.std.proofs.lemmas.List.{append-nil, get_or-map, get_or_append_left, length-append, length-map, map-append, map-id}
use Rattle.std.proofs.lemmas.List.Elements.{filter-append}
use Rattle.std.proofs.lemmas.List.Folds.{list_any-append}
use Rattle.std.proofs.lemmas.Option.{get_or_from_slice_get, slice_get_within, slice_get-get_or}
use Rattle.deb_index.specs.declared.names.Lists.{Lists}
use Rattle.deb_index.specs.declared.names.Names.{Names}
use Rattle.deb_index.specs.Packages.{PackageView, first_of_each, is_named, no_package, places_where}
use Rattle.deb_index.specs.Tables.{items_of, number_in}
use Rattle.deb_index.specs.Names.{AreNumbers, IsNaming, all_names, name_texts, package_names}
use Rattle.deb_index.proofs.EnumerateLemmas.{first-length}
use Rattle.deb_index.proofs.FirstLemmas.{any-map, name-itself}
use Rattle.deb_index.proofs.PositionLemmas.{in-front}
use Rattle.deb_index.proofs.TableLemmas.{any-first, get-there, no-items, none-any, number-within, position-is, some-any}

-- ---- numbers of names

-- a name's number is its position among the names
pub number-position : (name : List ℕ) (ks : List (List ℕ)) → number_in name ks ≡ position (bytes_eq name) ks
number-position name ks = sym (position-is name (λ k. k) ks ∙ ap (number_in name) (map-id ks))

-- and leads to it
pub text-at : (name : List ℕ) (ks : List (List ℕ)) (i : ℕ) → number_in name ks ≡ Some i → get_or ks i [] ≡ name
text-at name ks i e = ap (λ l. get_or l i []) (sym (map-id ks)) ∙ get-there name (λ k. k) ks i [] e

module _ (name : List ℕ) where
  -- among more names, one of the first has the number that it has among them
  pub number-front : (xs ys : List (List ℕ)) (i : ℕ) → number_in name (xs ++ ys) ≡ Some i → i < length xs → number_in name xs ≡ Some i
  number-front [] ys i e less = absurd (omega arith)
  number-front (k ∷ ks) ys i e less = grind (arith, e, less, number-front ks ys)

  pub number-behind : (xs ys : List (List ℕ)) (i : ℕ) → number_in name (xs ++ ys) ≡ Some i → length xs ≤ i → number_in name xs ≡ None
  number-behind [] ys i e past = refl
  number-behind (k ∷ ks) ys i e past = grind (arith, e, past, number-behind ks ys)

  pub number-none : (xs ys : List (List ℕ)) → number_in name (xs ++ ys) ≡ None → number_in name xs ≡ None
  number-none [] ys e = refl
  number-none (k ∷ ks) ys e = grind (arith, e, number-none ks ys)

  -- a name that comes last has the last number
  pub number-last : (xs : List (List ℕ)) → number_in name xs ≡ None → number_in name (xs ++ name ∷ []) ≡ Some (length xs)
  number-last [] e = rw (name-itself name) refl
  number-last (k ∷ ks) e = grind (arith, e, number-last ks)

-- ---- the first of each, and what comes behind them

first-append : {A : Type 0} (same : A → A → Bool) (xs ys : List A) → (rest : List A) × (first_of_each same (xs ++ ys) ≡ first_of_each same xs ++ rest)
unfolding first_of_each
first-append same [] ys = (first_of_each same ys, refl)
first-append same (x ∷ xs) ys =
    let r = first-append same xs ys in
    (filter (λ y. not (same x y)) r.0, ap (λ l. x ∷ filter (λ y. not (same x y)) l) r.1 ∙ ap (λ l. x ∷ l) (filter-append (λ y. not (same x y)) (first_of_each same xs) r.0))

-- ---- lists by name

lists-at : {V T : Type 0} (f : V → T) (g : List ℕ → T) (vs : List V) (ks : List (List ℕ)) → map f vs ≡ map g ks → (i : ℕ) (v : V) (d : T) → i < length ks → v ≡ get_or vs i v → f v ≡ g (get_or ks i [])
lists-at {V} {T} f g vs ks seen i v d within at =
    let long : i < length vs = omega (arith, within, ap length seen, length-map vs f, length-map ks g) in
    ap f at ∙ sym (get_or-map f vs i v d long) ∙ ap (λ (l : List T). get_or l i d) seen ∙ get_or-map g ks i [] d within

-- nothing stands where nothing passes
no-places : {A : Type 0} (test : A → Bool) (n : ℕ) (xs : List A) → list_any test xs ≡ false → map (λ (e : ℕ × A). e.0) (filter (λ (e : ℕ × A). test e.1) (enumerate_from n xs)) ≡ []
no-places test n [] none = refl
no-places test n (x ∷ xs) none = grind (arith, none, no-places test (n + 1) xs)

abbrev pub places_seen : Lists → List ℕ
places_seen l = l.places.items

abbrev pub entries_seen : Lists → List (ℕ × ℕ)
entries_seen l = l.provided.items

module _ (packages : List PackageView) where
  any-named : (name : List ℕ) → list_any (is_named name) packages ≡ list_any (bytes_eq name) (map (λ (p : PackageView). p.name) packages)
  any-named name = sym (any-map (bytes_eq name) (λ (p : PackageView). p.name) packages)

  -- a name is there where a package has it
  pub named-there : (name : List ℕ) → list_any (bytes_eq name) (package_names packages) ≡ list_any (is_named name) packages
  named-there name = any-first name (map (λ (p : PackageView). p.name) packages) ∙ sym (any-named name)

  pub no-named : (name : List ℕ) → list_any (is_named name) packages ≡ false → places_where (is_named name) packages ≡ []
  unfolding places_where
  no-named name none = no-places (is_named name) 0 packages none

  pub names-few : length (package_names packages) ≤ length packages
  names-few = omega (arith, first-length bytes_eq (map (λ (p : PackageView). p.name) packages), length-map packages (λ (p : PackageView). p.name))

  pub all-none : all_names packages [] ≡ package_names packages
  all-none = ap (first_of_each bytes_eq) (append-nil (map (λ (p : PackageView). p.name) packages))

  pub names-more : (p : PackageView) → package_names (packages ++ p ∷ []) ≡ first_of_each bytes_eq (map (λ (q : PackageView). q.name) packages ++ p.name ∷ [])
  names-more p = ap (first_of_each bytes_eq) (map-append (λ (q : PackageView). q.name) packages (p ∷ []))

-- ---- what is found under a name

module _ {packages : List PackageView} {entries : List (List ℕ × (ℕ × ℕ))} {names : Names} (n : IsNaming packages entries names) where
  abbrev all : List (List ℕ)
  all = all_names packages entries

  pub lists-count : length names.lists.items ≡ length (name_texts names)
  lists-count = omega (arith, ap length n.places, ap length n.texts, length-map names.lists.items places_seen, length-map all (λ name. places_where (is_named name) packages))

  pub places-at : (i : ℕ) (l : Lists) → i < length (name_texts names) → l ≡ get_or names.lists.items i l → l.places.items ≡ places_where (is_named (get_or (name_texts names) i [])) packages
  places-at i l within at =
      lists-at places_seen (λ name. places_where (is_named name) packages) names.lists.items all n.places i l [] (subst (λ ks. i < length ks) n.texts within) at
      ∙ ap (λ ks. places_where (is_named (get_or ks i [])) packages) (sym n.texts)

  module _ (name : List ℕ) (i : ℕ) (e : number_in name (name_texts names) ≡ Some i) (l : Lists) (at : l ≡ get_or names.lists.items i l) where
    pub places-found : l.places.items ≡ places_where (is_named name) packages
    places-found = places-at i l (number-within name (name_texts names) i e) at ∙ ap (λ k. places_where (is_named k) packages) (text-at name (name_texts names) i e)

    pub entries-found : l.provided.items ≡ items_of name entries
    entries-found =
        lists-at entries_seen (λ name. items_of name entries) names.lists.items all n.provided i l [] (subst (λ ks. i < length ks) n.texts (number-within name (name_texts names) i e)) at
        ∙ ap (λ ks. items_of (get_or ks i []) entries) (sym n.texts) ∙ ap (λ k. items_of k entries) (text-at name (name_texts names) i e)

  module _ (name : List ℕ) (e : number_in name (name_texts names) ≡ None) where
    nowhere : (list_any (bytes_eq name) (map (λ (p : PackageView). p.name) packages) || list_any (bytes_eq name) (map (λ (x : List ℕ × (ℕ × ℕ)). x.0) entries)) ≡ false
    nowhere =
        sym (list_any-append (bytes_eq name) (map (λ (p : PackageView). p.name) packages) (map (λ (x : List ℕ × (ℕ × ℕ)). x.0) entries))
        ∙ sym (any-first name (map (λ (p : PackageView). p.name) packages ++ map (λ (x : List ℕ × (ℕ × ℕ)). x.0) entries))
        ∙ subst (λ ks. list_any (bytes_eq name) ks ≡ false) n.texts (none-any name (name_texts names) e)

    pub places-none-named : [] ≡ places_where (is_named name) packages
    places-none-named = sym (no-named packages name (any-named packages name ∙ (or_parts _ _ nowhere).0))

    pub entries-none : [] ≡ items_of name entries
    entries-none = sym (no-items name entries ((or_parts _ _ nowhere).1))

  -- ---- the names of packages come first

  abbrev behind : List (List ℕ)
  behind = (first-append bytes_eq (map (λ (p : PackageView). p.name) packages) (map (λ (x : List ℕ × (ℕ × ℕ)). x.0) entries)).0

  split : name_texts names ≡ package_names packages ++ behind
  split = n.texts ∙ (first-append bytes_eq (map (λ (p : PackageView). p.name) packages) (map (λ (x : List ℕ × (ℕ × ℕ)). x.0) entries)).1

  pub front-within : (i : ℕ) → i < length (package_names packages) → i < length (name_texts names)
  front-within i less = omega (arith, ap length split, length-append (package_names packages) behind, less)

  pub front-text : (i : ℕ) → i < length (package_names packages) → get_or (name_texts names) i [] ≡ get_or (package_names packages) i []
  front-text i less = ap (λ ks. get_or ks i []) split ∙ get_or_append_left (package_names packages) behind [] i less

  module _ (name : List ℕ) where
    pub front-some : (i : ℕ) → number_in name (name_texts names) ≡ Some i → i < names.front → position (bytes_eq name) (package_names packages) ≡ Some i
    front-some i e less = sym (number-position name (package_names packages))
        ∙ number-front name (package_names packages) behind i (ap (number_in name) (sym split) ∙ e) (subst (λ m. i < m) n.front less)

    pub front-past : (i : ℕ) → number_in name (name_texts names) ≡ Some i → names.front ≤ i → position (bytes_eq name) (package_names packages) ≡ None
    front-past i e past = sym (number-position name (package_names packages))
        ∙ number-behind name (package_names packages) behind i (ap (number_in name) (sym split) ∙ e) (subst (λ m. m ≤ i) n.front past)

    pub front-none : number_in name (name_texts names) ≡ None → position (bytes_eq name) (package_names packages) ≡ None
    front-none e = sym (number-position name (package_names packages)) ∙ number-none name (package_names packages) behind (ap (number_in name) (sym split) ∙ e)

-- while no entry is there, the names are those of packages
pub only-packages : {packages : List PackageView} {names : Names} → IsNaming packages [] names → name_texts names ≡ package_names packages
only-packages {packages} n = n.texts ∙ all-none packages

-- and their numbers are their positions
pub position-known : {packages : List PackageView} {names : Names} → IsNaming packages [] names → (name : List ℕ) → position (bytes_eq name) (package_names packages) ≡ number_in name (name_texts names)
position-known {packages} n name = sym (number-position name (package_names packages)) ∙ ap (number_in name) (sym (only-packages n))

pub number-few : (packages : List PackageView) (p : PackageView) {names : Names} → IsNaming (packages ++ p ∷ []) [] names → (i : ℕ) → number_in p.name (name_texts names) ≡ Some i → i ≤ length packages
number-few packages p {names} n i e = omega (arith, number-within p.name (name_texts names) i e, ap length (only-packages n), names-few (packages ++ p ∷ []), length-append packages (p ∷ []))

-- a name that has a number is that of a package
pub named-some : (packages : List PackageView) (name : List ℕ) (known : Option ℕ) → known ≡ position (bytes_eq name) (package_names packages) → is_some known ≡ list_any (is_named name) packages
named-some packages name None e = sym (sym (named-there packages name) ∙ none-any name (package_names packages) (number-position name (package_names packages) ∙ sym e))
named-some packages name (Some i) e = sym (sym (named-there packages name) ∙ some-any name (package_names packages) i (number-position name (package_names packages) ∙ sym e))

-- ---- the numbers of the packages' names

numbers-stay : (ks more : List (List ℕ)) (numbers : List ℕ) (ps : List PackageView) → map (λ n. slice_get ks n) numbers ≡ map (λ (p : PackageView). Some p.name) ps
    → map (λ n. slice_get (ks ++ more) n) numbers ≡ map (λ (p : PackageView). Some p.name) ps
numbers-stay ks more [] [] e = refl
numbers-stay ks more [] (p ∷ ps) e = absurd (let k = ap length e in omega arith)
numbers-stay ks more (n ∷ ns) [] e = absurd (let k = ap length e in omega arith)
numbers-stay ks more (n ∷ ns) (p ∷ ps) e =
    let here : slice_get ks n ≡ Some p.name = ap (λ (l : List (Option (List ℕ))). get_or l 0 None) e in
    let later : map (λ m. slice_get ks m) ns ≡ map (λ (q : PackageView). Some q.name) ps = ap (λ (l : List (Option (List ℕ))). drop 1 l) e in
    (λ i. in-front ks more n p.name here i ∷ numbers-stay ks more ns ps later i)

-- one package more has the number of its name
pub numbers-push : (packages : List PackageView) (numbers : List ℕ) (p : PackageView) (n : ℕ) → AreNumbers packages numbers → number_in p.name (package_names (packages ++ p ∷ [])) ≡ Some n → AreNumbers (packages ++ p ∷ []) (numbers ++ n ∷ [])
numbers-push packages numbers p n are e =
    let more = first-append bytes_eq (map (λ (q : PackageView). q.name) packages) (p.name ∷ []) in
    let grown : package_names (packages ++ p ∷ []) ≡ package_names packages ++ more.0 = names-more packages p ∙ more.1 in
    let names = package_names (packages ++ p ∷ []) in
    let stay : map (λ m. slice_get names m) numbers ≡ map (λ (q : PackageView). Some q.name) packages = ap (λ (ks : List (List ℕ)). map (λ m. slice_get ks m) numbers) grown ∙ numbers-stay (package_names packages) more.0 numbers packages are in
    let last : slice_get names n ≡ Some p.name = slice_get-get_or names n [] (number-within p.name names n e) ∙ ap Some (text-at p.name names n e) in
    map-append (λ m. slice_get names m) numbers (n ∷ []) ∙ (λ i. stay i ++ last i ∷ []) ∙ sym (map-append (λ (q : PackageView). Some q.name) packages (p ∷ []))

pub numbers-long : (packages : List PackageView) (numbers : List ℕ) → AreNumbers packages numbers → length numbers ≡ length packages
numbers-long packages numbers are = sym (length-map numbers (λ n. slice_get (package_names packages) n)) ∙ ap length are ∙ length-map packages (λ (p : PackageView). Some p.name)

-- a package's number leads to its name
pub number-names : (packages : List PackageView) (numbers : List ℕ) (i n : ℕ) → AreNumbers packages numbers → i < length packages → n ≡ get_or numbers i n → slice_get (package_names packages) n ≡ Some (get_or packages i no_package).name
number-names packages numbers i n are less at =
    let names = package_names packages in
    let within : i < length numbers = subst (λ m. i < m) (sym (numbers-long packages numbers are)) less in
    ap (λ m. slice_get names m) at ∙ sym (get_or-map (λ m. slice_get names m) numbers i n None within) ∙ ap (λ (l : List (Option (List ℕ))). get_or l i None) are ∙ get_or-map (λ (p : PackageView). Some p.name) packages i no_package None less

pub number-leads : (packages : List PackageView) (numbers : List ℕ) (i n : ℕ) → AreNumbers packages numbers → i < length packages → n ≡ get_or numbers i n
    → (n < length (package_names packages)) × (get_or (package_names packages) n [] ≡ (get_or packages i no_package).name)
number-leads packages numbers i n are less at =
    let leads = number-names packages numbers i n are less at in
    (slice_get_within (package_names packages) n (get_or packages i no_package).name leads, get_or_from_slice_get (package_names packages) n (get_or packages i no_package).name [] leads)
