-- Which names are essential, by the numbers of the packages that are marked.
use Rattle.std.proofs.Common.{◌≡◌, ◌<◌, ◌+◌, ℕ, suc, zero, Bool, true, false, ◌&&◌, ◌||◌, eqb, List, [], ◌∷◌, ◌++◌, map, length, get_or, slice_get, Option, Some, None, refl, sym, ap, ◌∙◌, take, arith}
use Rattle.std.specs.List.{list_any}
use Rattle.std.specs.Option.{option_map, option_map_or}
use Rattle.std.specs.Str.{bytes_eq}
use Rattle.std.proofs.lemmas.Bool.{eq-eqb, eqb-true, false≢true, false_from_ne_true}
use Rattle.std.proofs.lemmas.List.{get_or-map, length-map, take_more}
use Rattle.std.proofs.lemmas.Option.{none-some, same_Some}
use Rattle.number_sets.proofs.ListMembers.{same_test}
use Rattle.deb_index.specs.declared.package.Package.{Package}
use Rattle.deb_index.specs.Packages.{PackageView, is_in, is_named, no_package, package_view}
use Rattle.deb_index.specs.Tables.{number_in}
use Rattle.deb_index.proofs.FirstLemmas.{name-itself, same-name}
use Rattle.deb_index.proofs.FoundLemmas.{or-none}
use Rattle.deb_index.proofs.KeyLemmas.{any-push}
use Rattle.deb_index.proofs.TableLemmas.{IsApart, some-any}

-- a name's number is its place, where no name stands twice
number-of : (ks : List (List ℕ)) (n : ℕ) (name : List ℕ) → IsApart ks → slice_get ks n ≡ Some name → number_in name ks ≡ Some n
number-of [] n name apart at = absurd (none-some name at)
number-of (k ∷ ks) zero name apart at = rw (ap (bytes_eq name) (same_Some k name at) ∙ name-itself name) refl
number-of (k ∷ ks) (suc n) name apart at =
    let later : number_in name ks ≡ Some n = number-of ks n name apart.1 at in
    let differs : bytes_eq name k ≡ false = false_from_ne_true (bytes_eq name k) (λ same. false≢true (sym apart.0 ∙ ap (λ m. list_any (bytes_eq m) ks) (sym (same-name name k same)) ∙ some-any name ks n later)) in
    rw differs (ap (option_map (λ i. suc i)) later)

same-number : (ks : List (List ℕ)) (n q : ℕ) (a b : List ℕ) → IsApart ks → slice_get ks n ≡ Some a → slice_get ks q ≡ Some b → bytes_eq b a ≡ eqb n q
same-number ks n q a b apart at too = same_test (bytes_eq b a) (eqb n q)
    (λ same. eq-eqb n q (same_Some n q (sym (number-of ks n a apart at) ∙ ap (λ m. number_in m ks) (sym (same-name b a same)) ∙ number-of ks q b apart too)))
    (λ same. ap (bytes_eq b) (same_Some a b (sym at ∙ ap (slice_get ks) (eqb-true n q same) ∙ too)) ∙ name-itself b)

-- a number is that of a name which some package has and is marked, where marks count
abbrev pub has_mark : Bool → List (List ℕ) → List PackageView → ℕ → Bool
has_mark counts ks packages q = option_map_or (λ name. counts && list_any (λ (p : PackageView). is_named name p && p.essential) packages) (slice_get ks q) false

pub none-marked : (counts : Bool) (o : Option (List ℕ)) → false ≡ option_map_or (λ (name : List ℕ). counts && false) o false
none-marked counts None = refl
none-marked counts (Some name) = grind arith

mark-push : (counts : Bool) (packages : List PackageView) (p : PackageView) (o : Option (List ℕ)) → option_map_or (λ name. counts && list_any (λ (r : PackageView). is_named name r && r.essential) (packages ++ p ∷ [])) o false
    ≡ (option_map_or (λ name. counts && list_any (λ (r : PackageView). is_named name r && r.essential) packages) o false || option_map_or (λ name. is_named name p && (counts && p.essential)) o false)
mark-push counts packages p None = refl
mark-push counts packages p (Some name) = grind (arith, any-push (λ (r : PackageView). is_named name r && r.essential) packages p)

marked-at : (ks : List (List ℕ)) (n q : ℕ) (a : List ℕ) → IsApart ks → slice_get ks n ≡ Some a → (o : Option (List ℕ)) → slice_get ks q ≡ o → option_map_or (λ name. bytes_eq name a && true) o false ≡ eqb n q
marked-at ks n q a apart at None too = sym (false_from_ne_true (eqb n q) (λ same. none-some a (sym too ∙ ap (slice_get ks) (sym (eqb-true n q same)) ∙ at)))
marked-at ks n q a apart at (Some name) too = grind (arith, same-number ks n q a name apart at too)

unmarked-at : (a : List ℕ) (o : Option (List ℕ)) → option_map_or (λ name. bytes_eq name a && false) o false ≡ false
unmarked-at a None = refl
unmarked-at a (Some name) = grind arith

-- a package more
module _ (counts : Bool) (ks : List (List ℕ)) (packages : List Package) (i : ℕ) (x : Package) (within : i < length packages) (at : x ≡ get_or packages i x) (q : ℕ) where
  abbrev before : Bool
  before = has_mark counts ks (take i (map package_view packages)) q

  pub seen-as : get_or (map package_view packages) i no_package ≡ package_view x
  seen-as = get_or-map package_view packages i x no_package within ∙ ap package_view (sym at)

  mark-more : (m : Bool) → (counts && x.essential) ≡ m → has_mark counts ks (take (i + 1) (map package_view packages)) q ≡ (before || option_map_or (λ name. is_named name (package_view x) && m) (slice_get ks q) false)
  mark-more m is =
      ap (λ ps. has_mark counts ks ps q) (take_more (map package_view packages) i no_package (omega (arith, within, length-map packages package_view)) ∙ ap (λ p. take i (map package_view packages) ++ p ∷ []) seen-as)
      ∙ mark-push counts (take i (map package_view packages)) (package_view x) (slice_get ks q) ∙ ap (λ b. before || option_map_or (λ name. is_named name (package_view x) && b) (slice_get ks q) false) is

  pub mark-added : (n : ℕ) (found : List ℕ) → IsApart ks → slice_get ks n ≡ Some (package_view x).name → (counts && x.essential) ≡ true → is_in found q ≡ before → is_in (found ++ n ∷ []) q ≡ has_mark counts ks (take (i + 1) (map package_view packages)) q
  mark-added n found apart leads is so_far =
      any-push (λ place. eqb place q) found n ∙ (λ k. so_far k || sym (marked-at ks n q (package_view x).name apart leads (slice_get ks q) refl) k) ∙ sym (mark-more true is)

  pub mark-past : (found : List ℕ) → (counts && x.essential) ≡ false → is_in found q ≡ before → is_in found q ≡ has_mark counts ks (take (i + 1) (map package_view packages)) q
  mark-past found is so_far = so_far ∙ sym (mark-more false is ∙ ap (λ b. before || b) (unmarked-at (package_view x).name (slice_get ks q)) ∙ or-none before)
