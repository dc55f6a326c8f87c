-- What a stanza adds to an index while it is read.
use Rattle.std.proofs.Common.{◌≡◌, ◌≤◌, ◌<◌, ◌+◌, ℕ, false, cond, ◌||◌, List, [], ◌∷◌, ◌++◌, map, Some, refl, sym, ap, ◌∙◌, subst, subst₂, arith}
use Rattle.std.specs.List.{list_any, AllByRecursion}
use Rattle.std.specs.List.Sorted.{IsPermutation}
use Rattle.std.proofs.lemmas.List.{length-append}
use Rattle.std.proofs.lemmas.List.Sorted.{list_any-IsPermutation}
use Rattle.std.proofs.lemmas.List.Sums.{sum_by_push}
use Rattle.deb_index.specs.declared.duplicates.PackageKey.{PackageKey}
use Rattle.deb_index.specs.declared.duplicates.Draft.{Draft}
use Rattle.deb_index.specs.Packages.{IndexView, PackageView, is_named}
use Rattle.deb_index.specs.Reading.{same_package, stanza_limit, with_reading}
use Rattle.deb_index.specs.Tables.{HasRoom, IsSmall, asked_count, asked_limit, number_in}
use Rattle.deb_index.specs.Names.{AreNumbers, IsNaming, name_texts}
use Rattle.deb_index.specs.Built.{HasKeysOf, IsBuilt, IsCounted, IsKnown, draft_view, key_view, package_key, same_key}
use Rattle.deb_index.proofs.FirstLemmas.{any-map}
use Rattle.deb_index.proofs.KeyLemmas.{any-push, known-push, known-same, or-turned}
use Rattle.deb_index.proofs.NameLemmas.{numbers-push, only-packages}

pub all-push : {A : Type 0} (P : A → Type 0) (xs : List A) (x : A) → AllByRecursion P xs → P x → AllByRecursion P (xs ++ x ∷ [])
all-push P [] x a p = (p, tt)
all-push P (y ∷ ys) x a p = (a.0, all-push P ys x a.1 p)

-- a key more is all that a set has more
pub keys-grow : (key : PackageKey) (old new : List PackageKey) (k : List ℕ × List ℕ) → key_view key ≡ k → IsPermutation (key ∷ old) new → HasKeysOf new (map key_view old ++ k ∷ [])
keys-grow key old new k same grown l =
    any-map (same_key l) key_view new ∙ sym (list_any-IsPermutation (λ n. same_key l (key_view n)) (key ∷ old) new grown)
    ∙ (λ i. same_key l (same i) || sym (any-map (same_key l) key_view old) i) ∙ or-turned (same_key l k) (list_any (same_key l) (map key_view old)) ∙ sym (any-push (same_key l) (map key_view old) k)

-- a package that is new goes last
pub adds-package : (index : IndexView) (p : PackageView) → list_any (λ q. same_package q p) index.packages ≡ false
    → record index { packages = index.packages ++ p ∷ []; stanzas = index.stanzas + 1 } ≡ with_reading index (Some p)
adds-package index p there = sym (rw there refl)

-- one package more
module _ (old : Draft) (b : IsBuilt old) (p : PackageView) where
  pub built-push : (new : Draft) (n : ℕ) → draft_view new ≡ record (draft_view old) { packages = (draft_view old).packages ++ p ∷ []; stanzas = old.catalog.stanzas + 1 }
      → old.catalog.stanzas < stanza_limit → HasRoom (draft_view old) (Some p) → IsNaming ((draft_view old).packages ++ p ∷ []) [] new.catalog.names
      → new.catalog.numbers.items ≡ old.catalog.numbers.items ++ n ∷ [] → number_in p.name (name_texts new.catalog.names) ≡ Some n
      → HasKeysOf new.later.keys (map key_view old.later.keys ++ cond (list_any (is_named p.name) (draft_view old).packages) (package_key p ∷ []) []) → IsBuilt new
  built-push new n same few room named numbers number kept =
      let packages = (draft_view old).packages in
      let longer = ap (λ (v : IndexView). v.packages) same in
      let long = length-append packages (p ∷ []) in
      record {
        counts = subst IsCounted (sym same) (record {
          counted = omega (arith, b.counts.counted, long);
          front = omega (arith, b.counts.front, long);
          few = omega (arith, few);
          small = all-push IsSmall packages p b.counts.small room.0;
          few_asked = subst (λ m. m ≤ asked_limit) (sym (sum_by_push asked_count packages p)) room.1;
        });
        numbered = subst₂ AreNumbers (sym longer) (sym numbers) (numbers-push packages old.catalog.numbers.items p n b.numbered (ap (number_in p.name) (sym (only-packages named)) ∙ number));
        named = subst (λ ps. IsNaming ps [] new.catalog.names) (sym longer) named;
        known = subst (λ ps. IsKnown ps (map key_view new.later.keys)) (sym longer) (known-same (packages ++ p ∷ []) _ _ kept (known-push packages (map key_view old.later.keys) p b.known));
      }
