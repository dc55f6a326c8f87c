-- Where names are provided: what entries of Provides put down.
use Rattle.std.proofs.Common.{◌≡◌, ◌<◌, ◌≤◌, ◌+◌, ℕ, true, false, cond, List, [], ◌∷◌, ◌++◌, map, filter, length, take, get_or, refl, sym, ap, ◌∙◌, append_assoc, subst, arith}
use Rattle.std.specs.List.{enumerate_from, flat_map}
use Rattle.std.proofs.lemmas.List.{append-nil, get_or-map, map-append, length-map, length-take-le, take_more}
use Rattle.std.proofs.lemmas.Grind.{flat_map-append}
use Rattle.deb_relation.specs.declared.atom.Atom.{Atom}
use Rattle.deb_relation.specs.Relationship.{atom_view, AtomText, is_usable}
use Rattle.deb_index.specs.declared.package.Package.{Package}
use Rattle.deb_index.specs.Packages.{PackageView, IndexView, no_package, package_view, places_where}
use Rattle.deb_index.specs.Meets.{is_providing, provided_at}
use Rattle.deb_index.specs.Tables.{items_of}
use Rattle.deb_index.specs.Names.{numbered_entries, provided_entries, provided_places}
use Rattle.deb_index.proofs.EnumerateLemmas.{enumerate-push}

items-append : {T : Type 0} (name : List ℕ) (xs ys : List (List ℕ × T)) → items_of name (xs ++ ys) ≡ items_of name xs ++ items_of name ys
unfolding items_of
items-append name [] ys = refl
items-append name (x ∷ xs) ys = grind (arith, items-append name xs ys)

module _ (arch name : List ℕ) (place : ℕ) where
  items-numbered : (es : List (ℕ × AtomText)) → items_of name (numbered_entries arch place es) ≡ map (λ (j : ℕ). (place, j)) (map (λ (e : ℕ × AtomText). e.0) (filter (λ (e : ℕ × AtomText). is_providing arch name e.1) es))
  unfolding items_of
  items-numbered [] = refl
  items-numbered (e ∷ es) = grind (arith, items-numbered es)

  items-entries : (entries : List AtomText) → items_of name (provided_entries arch place entries) ≡ map (λ (j : ℕ). (place, j)) (places_where (is_providing arch name) entries)
  unfolding places_where
  items-entries entries = items-numbered (enumerate_from 0 entries)

items-of-all : (arch name : List ℕ) (es : List (ℕ × PackageView)) → items_of name (flat_map (λ (e : ℕ × PackageView). provided_entries arch e.0 e.1.provides) es)
    ≡ flat_map (λ (e : ℕ × PackageView). map (λ (j : ℕ). (e.0, j)) (places_where (is_providing arch name) e.1.provides)) es
unfolding items_of
items-of-all arch name [] = refl
items-of-all arch name (e ∷ es) = items-append name (provided_entries arch e.0 e.1.provides) (flat_map (λ (e : ℕ × PackageView). provided_entries arch e.0 e.1.provides) es)
    ∙ (λ i. items-entries arch name e.0 e.1.provides i ++ items-of-all arch name es i)

-- what the table has under a name is where the index provides it
pub items-provided : (index : IndexView) (name : List ℕ) → items_of name (provided_places index.arch index.packages) ≡ provided_at index name
unfolding provided_at
items-provided index name = items-of-all index.arch name (enumerate_from 0 index.packages)

-- one package more puts its entries down last
pub provided-push : (arch : List ℕ) (packages : List PackageView) (p : PackageView)
    → provided_places arch (packages ++ p ∷ []) ≡ provided_places arch packages ++ provided_entries arch (length packages) p.provides
provided-push arch packages p =
    let next : 0 + length packages ≡ length packages = omega arith in
    ap (flat_map entries) (enumerate-push 0 packages p) ∙ flat_map-append entries (enumerate_from 0 packages) ((0 + length packages, p) ∷ [])
    ∙ ap (λ r. provided_places arch packages ++ r) (append-nil (entries (0 + length packages, p)))
    ∙ ap (λ (m : ℕ). provided_places arch packages ++ provided_entries arch m p.provides) next
  where
    entries : ℕ × PackageView → List (List ℕ × (ℕ × ℕ))
    entries e = provided_entries arch e.0 e.1.provides

-- one entry more of a package goes last, where it is for the architecture
push-from : (arch : List ℕ) (place n : ℕ) (es : List AtomText) (e : AtomText) → numbered_entries arch place (enumerate_from n (es ++ e ∷ []))
    ≡ numbered_entries arch place (enumerate_from n es) ++ cond (is_usable arch e.qualifier) ((e.name, (place, n + length es)) ∷ []) []
push-from arch place n [] e = grind arith
push-from arch place n (f ∷ es) e = grind (arith, push-from arch place (n + 1) es e)

entries-push : (arch : List ℕ) (place : ℕ) (es : List AtomText) (e : AtomText)
    → provided_entries arch place (es ++ e ∷ []) ≡ provided_entries arch place es ++ cond (is_usable arch e.qualifier) ((e.name, (place, length es)) ∷ []) []
entries-push arch place es e = grind (arith, push-from arch place 0 es e)

-- a step of the walk over the packages
pub provided-step : (arch : List ℕ) (packages : List Package) (i : ℕ) (p : Package) → i < length packages → p ≡ get_or packages i p
    → provided_places arch (take (i + 1) (map package_view packages)) ≡ provided_places arch (take i (map package_view packages)) ++ provided_entries arch i (map atom_view p.provides.items)
provided-step arch packages i p within at =
    let views = map package_view packages in
    let less : i < length views = subst (λ n. i < n) (sym (length-map packages package_view)) within in
    let le : i ≤ length views = omega (arith, less) in
    let here : get_or views i no_package ≡ package_view p = get_or-map package_view packages i p no_package within ∙ ap package_view (sym at) in
    ap (provided_places arch) (take_more views i no_package less ∙ ap (λ q. take i views ++ q ∷ []) here) ∙ provided-push arch (take i views) (package_view p)
    ∙ ap (λ m. provided_places arch (take i views) ++ provided_entries arch m (package_view p).provides) (length-take-le i views le)

-- a step of the walk over a package's entries
module _ (arch : List ℕ) (place : ℕ) (atoms : List Atom) (i : ℕ) (a : Atom) (within : i < length atoms) (at : a ≡ get_or atoms i a) where
  step : provided_entries arch place (map atom_view (take (i + 1) atoms)) ≡ provided_entries arch place (map atom_view (take i atoms)) ++ cond (is_usable arch (atom_view a).qualifier) (((atom_view a).name, (place, i)) ∷ []) []
  step = ap (λ l. provided_entries arch place (map atom_view l)) (take_more atoms i a within ∙ ap (λ x. take i atoms ++ x ∷ []) (sym at))
      ∙ ap (provided_entries arch place) (map-append atom_view (take i atoms) (a ∷ []))
      ∙ entries-push arch place (map atom_view (take i atoms)) (atom_view a)
      ∙ ap (λ (m : ℕ). provided_entries arch place (map atom_view (take i atoms)) ++ cond (is_usable arch (atom_view a).qualifier) (((atom_view a).name, (place, m)) ∷ []) [])
      counted
    where
      counted : length (map atom_view (take i atoms)) ≡ i
      counted = let shorter : i ≤ length atoms = omega arith in length-map (take i atoms) atom_view ∙ length-take-le i atoms shorter

  pub entry-taken : is_usable arch (atom_view a).qualifier ≡ true → (pairs : List (List ℕ × (ℕ × ℕ)))
      → (pairs ++ provided_entries arch place (map atom_view (take i atoms))) ++ ((atom_view a).name, (place, i)) ∷ [] ≡ pairs ++ provided_entries arch place (map atom_view (take (i + 1) atoms))
  entry-taken h pairs = append_assoc pairs (provided_entries arch place (map atom_view (take i atoms))) (((atom_view a).name, (place, i)) ∷ []) ∙ ap (λ r. pairs ++ r) (sym (step ∙ rw h refl))

  pub entry-left : is_usable arch (atom_view a).qualifier ≡ false → (pairs : List (List ℕ × (ℕ × ℕ)))
      → pairs ++ provided_entries arch place (map atom_view (take i atoms)) ≡ pairs ++ provided_entries arch place (map atom_view (take (i + 1) atoms))
  entry-left h pairs = ap (λ r. pairs ++ r) (sym (step ∙ rw h (append-nil (provided_entries arch place (map atom_view (take i atoms))))))
