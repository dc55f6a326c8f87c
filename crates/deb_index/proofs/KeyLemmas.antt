-- How a package is known: by the first one of its name, or by a key that is kept of a later one.
use Rattle.std.proofs.Common.{◌≡◌, ◌<◌, ◌≤◌, ◌+◌, ◌-◌, ℕ, Bool, true, false, cond, ◌&&◌, ◌||◌, List, [], ◌∷◌, ◌++◌, map, filter, length, get_or, drop, Some, None, refl, sym, ap, ◌∙◌, arith}
use Prim.Native.Nat.{suc}
use Rattle.std.specs.Prelude.{find}
use Rattle.std.specs.List.{enumerate_from, list_any}
use Rattle.std.specs.Option.{option_map_or}
use Rattle.std.specs.Str.{bytes_eq}
use Rattle.std.proofs.lemmas.Bool.{or_parts}
use Rattle.std.proofs.lemmas.List.{append-nil, get_or-map, length-map}
use Rattle.std.proofs.lemmas.List.Folds.{list_any-append}
use Rattle.deb_index.specs.declared.duplicates.PackageKey.{PackageKey}
use Rattle.deb_index.specs.declared.package.Package.{Package}
use Rattle.deb_index.specs.Packages.{PackageView, is_named, package_view, places_where}
use Rattle.deb_index.specs.Reading.{same_package}
use Rattle.deb_index.specs.Built.{HasKeysOf, IsKnown, key_view, package_key, same_key}
use Rattle.deb_index.proofs.FirstLemmas.{names-turned, same-name}
use Rattle.deb_index.proofs.FoundLemmas.{or-none}

pub or-turned : (a b : Bool) → (a || b) ≡ (b || a)
or-turned a b = grind arith

module _ {A : Type 0} (test : A → Bool) where
  pub any-push : (xs : List A) (x : A) → list_any test (xs ++ x ∷ []) ≡ (list_any test xs || test x)
  any-push xs x = list_any-append test xs (x ∷ []) ∙ ap (λ r. list_any test xs || r) (or-none (test x))

  find-none : (xs : List A) → list_any test xs ≡ false → find test xs ≡ None
  find-none [] h = refl
  find-none (x ∷ xs) h = grind (arith, h, find-none xs)

  find-push : (xs : List A) (x : A) → find test (xs ++ x ∷ []) ≡ cond (list_any test xs) (find test xs) (cond (test x) (Some x) None)
  find-push [] x = refl
  find-push (y ∷ ys) x = grind (arith, find-push ys x)

  -- the first place where the test holds
  first-from : (n : ℕ) (xs : List A) (place : ℕ) (rest : List ℕ) → map (λ (e : ℕ × A). e.0) (filter (λ (e : ℕ × A). test e.1) (enumerate_from n xs)) ≡ place ∷ rest
      → (n ≤ place) × (place < n + length xs) × ((d : A) → find test xs ≡ Some (get_or xs (place - n) d))
  first-from n [] place rest e = absurd (let k = ap length e in omega arith)
  first-from n (x ∷ xs) place rest e = by (test x) refl (first-from (n + 1) xs place rest)
    where
      by : (t : Bool) → test x ≡ t
          → (map (λ (e : ℕ × A). e.0) (filter (λ (e : ℕ × A). test e.1) (enumerate_from (n + 1) xs)) ≡ place ∷ rest
          → (n + 1 ≤ place) × (place < n + 1 + length xs) × ((d : A) → find test xs ≡ Some (get_or xs (place - (n + 1)) d)))
          → (n ≤ place) × (place < n + length (x ∷ xs)) × ((d : A) → find test (x ∷ xs) ≡ Some (get_or (x ∷ xs) (place - n) d))
      by true t ih =
          let same : n ≡ place = ap (λ l. get_or l 0 0) (rw t at e) in
          let zero : place - n ≡ 0 = omega arith in
          (omega arith, omega arith, λ d. rw (t, zero) refl)
      by false t ih =
          let r = ih (rw t at e) in
          let low = r.0 in
          let high = r.1 in
          let next : place - n ≡ suc (place - (n + 1)) = omega arith in
          (omega arith, omega arith, λ d. rw (t, next) (r.2 d))

  none-from : (n : ℕ) (xs : List A) → map (λ (e : ℕ × A). e.0) (filter (λ (e : ℕ × A). test e.1) (enumerate_from n xs)) ≡ [] → list_any test xs ≡ false
  none-from n [] e = refl
  none-from n (x ∷ xs) e = grind (arith, e, none-from (n + 1) xs)

-- the first place of a name has the first package of the name
pub first-named : (name : List ℕ) (packages : List PackageView) (place : ℕ) (rest : List ℕ) → places_where (is_named name) packages ≡ place ∷ rest
    → (place < length packages) × ((d : PackageView) → find (is_named name) packages ≡ Some (get_or packages place d))
unfolding places_where
first-named name packages place rest e =
    let r = first-from (is_named name) 0 packages place rest e in
    let high = r.1 in
    let same : place - 0 ≡ place = omega arith in
    (omega arith, λ d. r.2 d ∙ ap (λ n. Some (get_or packages n d)) same)

none-same : (p : PackageView) (packages : List PackageView) → list_any (is_named p.name) packages ≡ false → list_any (λ q. same_package q p) packages ≡ false
none-same p [] h = refl
none-same p (q ∷ qs) h = grind (arith, h, names-turned q.name p.name, none-same p qs)

-- no package is known by a name without places
pub known-none : (p : PackageView) (packages : List PackageView) (places : List ℕ) → places ≡ places_where (is_named p.name) packages → length places < 1 → list_any (λ q. same_package q p) packages ≡ false
unfolding places_where
known-none p packages [] e few = none-same p packages (none-from (is_named p.name) 0 packages (sym e))
known-none p packages (place ∷ rest) e few = absurd (omega arith)

first-cons : (places : List ℕ) → 1 ≤ length places → places ≡ get_or places 0 0 ∷ drop 1 places
first-cons [] some = absurd (omega arith)
first-cons (place ∷ rest) some = refl

-- the first place of a name is that of a package
pub first-within : (name : List ℕ) (packages : List PackageView) (places : List ℕ) → places ≡ places_where (is_named name) packages → 1 ≤ length places → get_or places 0 0 < length packages
first-within name packages places e some = (first-named name packages (get_or places 0 0) (drop 1 places) (sym e ∙ first-cons places some)).0

-- one with places is known by the version of the package at the first, or by its key
pub known-first : (p : PackageView) (packages : List Package) (later : List (List ℕ × List ℕ)) (places : List ℕ) (q : Package) → IsKnown (map package_view packages) later
    → places ≡ places_where (is_named p.name) (map package_view packages) → 1 ≤ length places → q ≡ get_or packages (get_or places 0 0) q
    → list_any (λ r. same_package r p) (map package_view packages) ≡ (bytes_eq (package_view q).version p.version || list_any (same_key (package_key p)) later)
known-first p packages later places q known e some at =
    let first = first-named p.name (map package_view packages) (get_or places 0 0) (drop 1 places) (sym e ∙ first-cons places some) in
    let long = length-map packages package_view in
    let low = first.0 in
    let within : get_or places 0 0 < length packages = omega arith in
    let there : get_or (map package_view packages) (get_or places 0 0) (package_view q) ≡ package_view q = get_or-map package_view packages (get_or places 0 0) q (package_view q) within ∙ ap package_view (sym at) in
    known p ∙ ap (λ o. option_map_or (λ (r : PackageView). bytes_eq r.version p.version) o false || list_any (same_key (package_key p)) later) (first.1 (package_view q) ∙ ap (λ (r : PackageView). Some r) there)

-- the key of a package that isn't known is not there
pub key-apart : (p : PackageView) (packages : List PackageView) (later : List (List ℕ × List ℕ)) → IsKnown packages later → list_any (λ q. same_package q p) packages ≡ false → list_any (same_key (package_key p)) later ≡ false
key-apart p packages later known apart = (or_parts _ _ (sym (known p) ∙ apart)).1

-- one package more, whose key is kept where its name was there
found-push : (p : PackageView) (packages : List PackageView) (q : PackageView) → option_map_or (λ (r : PackageView). bytes_eq r.version p.version) (find (is_named p.name) (packages ++ q ∷ [])) false
    ≡ cond (list_any (is_named p.name) packages) (option_map_or (λ (r : PackageView). bytes_eq r.version p.version) (find (is_named p.name) packages) false) (bytes_eq p.name q.name && bytes_eq q.version p.version)
found-push p packages q = grind (arith, find-push (is_named p.name) packages q)

keys-push : (b : Bool) (p q : PackageView) (later : List (List ℕ × List ℕ)) → list_any (same_key (package_key p)) (later ++ cond b (package_key q ∷ []) [])
    ≡ cond b (list_any (same_key (package_key p)) later || (bytes_eq p.name q.name && bytes_eq q.version p.version)) (list_any (same_key (package_key p)) later)
keys-push b p q later = grind (arith, append-nil later, any-push (same_key (package_key p)) later (package_key q), names-turned q.version p.version)

pub known-push : (packages : List PackageView) (later : List (List ℕ × List ℕ)) (q : PackageView) → IsKnown packages later → IsKnown (packages ++ q ∷ []) (later ++ cond (list_any (is_named q.name) packages) (package_key q ∷ []) [])
known-push packages later q known p = grind (
  arith,
  any-push (λ r. same_package r p) packages q,
  known p,
  found-push p packages q,
  find-none (is_named p.name) packages,
  keys-push (list_any (is_named q.name) packages) p q later,
  names-turned q.name p.name,
  same-name p.name q.name,
)

-- by other keys that tell the same
pub known-same : (packages : List PackageView) (kept : List PackageKey) (later : List (List ℕ × List ℕ)) → HasKeysOf kept later → IsKnown packages later → IsKnown packages (map key_view kept)
known-same packages kept later same known p =
    known p ∙ ap (λ b. option_map_or (λ (q : PackageView). bytes_eq q.version p.version) (find (is_named p.name) packages) false || b) (sym (same (package_key p)))
