-- Readings taken into an index one after the other make the index of them all.
use Rattle.std.proofs.Common.{◌≡◌, ◌≤◌, ℕ, Bool, true, List, [], ◌∷◌, ◌++◌, length, Option, Some, None, Result, Ok, Err, refl, sym, ap, ◌∙◌, arith, append_assoc, length-append}
use Rattle.std.specs.List.{fold}
use Rattle.std.specs.Str.{bytes_eq}
use Rattle.std.proofs.lemmas.List.{append-nil}
use Rattle.std.proofs.lemmas.List.Elements.{filter_map-append}
use Rattle.deb_index.specs.declared.error.IndexError.{IndexError}
use Rattle.deb_index.specs.Packages.{IndexView, PackageView, first_of_each}
use Rattle.deb_index.specs.Reading.{collected, continued, kept, readings, same_package, with_reading}
use Rattle.deb_control.specs.Stanzas.{stanzas_of}
use Rattle.std.proofs.lemmas.Bool.{and_parts}
use Rattle.deb_index.proofs.EnumerateLemmas.{first-length}
use Rattle.deb_index.proofs.FirstLemmas.{first-push, same-name}

-- ---- one package twice

pub same-package-same : (p q r : PackageView) → same_package p q ≡ true → same_package q r ≡ true → same_package p r ≡ true
same-package-same p q r e f =
    let names = and_parts (bytes_eq p.name q.name) (bytes_eq p.version q.version) e in
    let name = same-name p.name q.name names.0 in
    let version = same-name p.version q.version names.1 in
    rw (name, version) f

-- ---- lengths

kept-le : (read : List (Option PackageView)) → length (kept read) ≤ length read
kept-le [] = omega arith
kept-le (None ∷ read) = omega (arith, kept-le read)
kept-le (Some p ∷ read) = omega (arith, kept-le read)

-- ---- what an index was continued with

pub taken-from : (mid index : IndexView) (read : Result (List (Option PackageView)) IndexError) → continued mid read ≡ Ok index → (rest : List (Option PackageView)) × (read ≡ Ok rest) × (fold with_reading mid rest ≡ index)
taken-from mid index (Ok rest) e = (rest, refl, cc)
taken-from mid index (Err f) e = absurd cc

pub failed-from : (mid : IndexView) (read : Result (List (Option PackageView)) IndexError) (f : IndexError) → continued mid read ≡ Err f → read ≡ Err f
failed-from mid (Ok rest) f e = absurd cc
failed-from mid (Err g) f e = cc

-- ---- one more reading

module _ (arch : List ℕ) (with_essential : Bool) where
  collected-more : (read : List (Option PackageView)) (r : Option PackageView) → with_reading (collected arch with_essential read) r ≡ collected arch with_essential (read ++ r ∷ [])
  unfolding collected
  collected-more read None = grind (arith, kept-le read, filter_map-append (λ (o : Option PackageView). o) read (None ∷ []), append-nil (kept read), length-append read (None ∷ []))
  collected-more read (Some p) = grind (
    arith,
    filter_map-append (λ (o : Option PackageView). o) read (Some p ∷ []),
    length-append read (Some p ∷ []),
    length-append (kept read) (p ∷ []),
    first-push same_package same-package-same (kept read) p,
    first-length same_package (kept read),
    length-append (first_of_each same_package (kept read)) (p ∷ []),
  )

  pub collected-on : (read rest : List (Option PackageView)) → fold with_reading (collected arch with_essential read) rest ≡ collected arch with_essential (read ++ rest)
  collected-on read [] = ap (collected arch with_essential) (sym (append-nil read))
  collected-on read (r ∷ rest) = ap (λ (i : IndexView). fold with_reading i rest) (collected-more read r) ∙ collected-on (read ++ r ∷ []) rest ∙ ap (collected arch with_essential) (append_assoc read (r ∷ []) rest)

  pub collected-stanzas : (read : List (Option PackageView)) → (collected arch with_essential read).stanzas ≡ length read
  unfolding collected
  collected-stanzas read = refl

  pub taken-of : (read : Result (List (Option PackageView)) IndexError) (index : IndexView) → continued (collected arch with_essential []) read ≡ Ok index
      → (rest : List (Option PackageView)) × (read ≡ Ok rest) × (index ≡ collected arch with_essential rest)
  taken-of read index e = let all = taken-from (collected arch with_essential []) index read e in (all.0, all.1, sym all.2 ∙ collected-on [] all.0)

  from-none : (text : List ℕ) (old : IndexView) → old ≡ collected arch with_essential []
      → continued old (readings arch old.stanzas 0 (stanzas_of text)) ≡ continued (collected arch with_essential []) (readings arch 0 0 (stanzas_of text))
  from-none text old is =
      let none : old.stanzas ≡ 0 = ap (λ (i : IndexView). i.stanzas) is ∙ collected-stanzas [] in
      ap (λ (i : IndexView). continued i (readings arch old.stanzas 0 (stanzas_of text))) is ∙ ap (λ n. continued (collected arch with_essential []) (readings arch n 0 (stanzas_of text))) none

  -- the index of no stanza, continued with all stanzas of a text, is the index of them
  pub text-read : (text : List ℕ) (old index : IndexView) → old ≡ collected arch with_essential [] → continued old (readings arch old.stanzas 0 (stanzas_of text)) ≡ Ok index
      → (read : List (Option PackageView)) × (readings arch 0 0 (stanzas_of text) ≡ Ok read) × (index ≡ collected arch with_essential read)
  text-read text old index is e = taken-of (readings arch 0 0 (stanzas_of text)) index (sym (from-none text old is) ∙ e)

  pub text-unread : (text : List ℕ) (old : IndexView) (f : IndexError) → old ≡ collected arch with_essential [] → continued old (readings arch old.stanzas 0 (stanzas_of text)) ≡ Err f → readings arch 0 0 (stanzas_of text) ≡ Err f
  text-unread text old f is e = failed-from (collected arch with_essential []) (readings arch 0 0 (stanzas_of text)) f (sym (from-none text old is) ∙ e)

  pub own-arch : (old : IndexView) → old ≡ collected arch with_essential [] → old.arch ≡ arch
  unfolding collected
  own-arch old is = ap (λ (i : IndexView). i.arch) is
