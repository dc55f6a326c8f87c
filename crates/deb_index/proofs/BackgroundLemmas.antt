-- What a background adds to the index of a text.
use Rattle.std.proofs.Common.{◌≡◌, ◌+◌, ℕ, Bool, true, false, cond, not, List, [], ◌∷◌, ◌++◌, length, filter, take, Option, Some, None, Result, Ok, Err, refl, sym, subst, ap, ◌∙◌, append_assoc, arith}
use Rattle.std.specs.List.{All, AllPairs, fold, list_any}
use Rattle.std.proofs.Math.Seq.{take-append_seam}
use Rattle.std.proofs.lemmas.List.{append-nil}
use Rattle.std.proofs.lemmas.List.Elements.{filter_passes}
use Rattle.std.proofs.lemmas.List.Kept.{AllPairs-cons, AllPairs-filter}
use Rattle.deb_control.specs.Lines.{lines, content_lines}
use Rattle.deb_control.specs.Stanzas.{runs, stanzas_of}
use Rattle.deb_index.specs.declared.error.BothError.TheVariants.{Fore, Back}
use Rattle.deb_index.specs.declared.error.IndexError.{IndexError}
use Rattle.deb_index.specs.Packages.{IndexView, PackageView, first_of_each}
use Rattle.deb_index.specs.Reading.{◌>>=◌, collected, in_fore, index_of, index_of_both, kept, readings, same_package, with_foreground, with_reading}
use Rattle.deb_index.proofs.BothLemmas.{front, of_both, then_all, then_back}
use Rattle.deb_index.proofs.CollectLemmas.{collected-on}
use Rattle.deb_index.proofs.SizeLemmas.{same}
use Rattle.std.proofs.lemmas.Bool.{not-true}

-- ---- an empty one

no-stanzas : (arch : List ℕ) (before : ℕ) → readings arch before 0 (stanzas_of []) ≡ Ok []
unfolding readings stanzas_of runs content_lines lines
no-stanzas arch before = refl

pub both-empty : (text arch : List ℕ) (with_essential : Bool) → index_of_both text [] arch with_essential ≡ in_fore (index_of text arch with_essential)
unfolding index_of_both index_of
both-empty text arch with_essential = of (readings arch 0 0 (stanzas_of text))
  where
    of : (read : Result (List (Option PackageView)) IndexError) → then_back text [] arch with_essential read ≡ in_fore (read >>= λ all. Ok (with_foreground (collected arch with_essential all)))
    of (Ok fore) = ap (then_all text [] arch with_essential fore) (no-stanzas arch (length fore)) ∙ ap (λ read. Ok (front (length (collected arch with_essential fore).packages) (collected arch with_essential read))) (append-nil fore)
    of (Err e) = refl

-- so what is read with an empty one is the text's own index, or its fault
pub alone-index : (read : Result IndexView IndexError) (index : IndexView) → in_fore read ≡ Ok index → read ≡ Ok index
alone-index (Ok own) index e = cc
alone-index (Err f) index e = absurd cc

pub alone-fore : (read : Result IndexView IndexError) (f : IndexError) → in_fore read ≡ Err (Fore f) → read ≡ Err f
alone-fore (Ok own) f e = absurd cc
alone-fore (Err g) f e = cc

pub alone-back : (read : Result IndexView IndexError) (f : IndexError) → in_fore read ≡ Err (Back f) → read ≡ Err f
alone-back (Ok own) f e = absurd cc
alone-back (Err g) f e = absurd cc

-- ---- the foreground

packages-more : (index : IndexView) (read : Option PackageView) → (more : List PackageView) × ((with_reading index read).packages ≡ index.packages ++ more)
packages-more index None = ([], sym (append-nil index.packages))
packages-more index (Some p) = of (list_any (λ q. same_package q p) index.packages)
  where
    of : (twice : Bool) → (more : List PackageView) × ((cond twice (record index { stanzas = index.stanzas + 1; duplicates = index.duplicates + 1 }) (record index { packages = index.packages ++ p ∷ []; stanzas = index.stanzas + 1 })).packages ≡ index.packages ++ more)
    of true = ([], sym (append-nil index.packages))
    of false = (p ∷ [], refl)

-- stanzas behind others add packages behind theirs
packages-on : (index : IndexView) (rest : List (Option PackageView)) → (more : List PackageView) × ((fold with_reading index rest).packages ≡ index.packages ++ more)
packages-on index [] = ([], sym (append-nil index.packages))
packages-on index (read ∷ rest) =
    let one = packages-more index read in
    let others = packages-on (with_reading index read) rest in
    (one.0 ++ others.0, others.1 ∙ ap (λ ps. ps ++ others.0) one.1 ∙ append_assoc index.packages one.0 others.0)

back-of : (text background arch : List ℕ) (with_essential : Bool) (fore : List (Option PackageView)) (both : IndexView) (read : Result (List (Option PackageView)) IndexError) → then_all text background arch with_essential fore read ≡ Ok both
    → (back : List (Option PackageView)) × (of_both text background arch with_essential fore back ≡ both)
back-of text background arch with_essential fore both (Ok back) e = (back, cc)
back-of text background arch with_essential fore both (Err f) e = absurd cc

-- the readings of both
fore-of : (text background arch : List ℕ) (with_essential : Bool) (both : IndexView) (read : Result (List (Option PackageView)) IndexError) → then_back text background arch with_essential read ≡ Ok both
    → (fore : List (Option PackageView)) × (read ≡ Ok fore) × (then_all text background arch with_essential fore (readings arch (length fore) 0 (stanzas_of background)) ≡ Ok both)
fore-of text background arch with_essential both (Ok fore) e = (fore, refl, e)
fore-of text background arch with_essential both (Err f) e = absurd cc

parts : (text background arch : List ℕ) (with_essential : Bool) (both : IndexView) → index_of_both text background arch with_essential ≡ Ok both
    → (fore : List (Option PackageView)) × (back : List (Option PackageView)) × (readings arch 0 0 (stanzas_of text) ≡ Ok fore) × (of_both text background arch with_essential fore back ≡ both)
unfolding index_of_both
parts text background arch with_essential both e =
    let fore = fore-of text background arch with_essential both (readings arch 0 0 (stanzas_of text)) e in
    let back = back-of text background arch with_essential fore.0 both _ fore.2 in
    (fore.0, back.0, fore.1, back.1)

-- the index of a text has the packages of its readings
text-packages : (text arch : List ℕ) (with_essential : Bool) (fore : IndexView) (read : List (Option PackageView)) → index_of text arch with_essential ≡ Ok fore → readings arch 0 0 (stanzas_of text) ≡ Ok read
    → fore.packages ≡ (collected arch with_essential read).packages
unfolding index_of
text-packages text arch with_essential fore read e reads =
    let whole : with_foreground (collected arch with_essential read) ≡ fore = same _ fore (sym (ap (λ r. r >>= λ all. Ok (with_foreground (collected arch with_essential all))) reads) ∙ e) in
    sym (ap (λ (i : IndexView). i.packages) whole)

pub both-count : (text background arch : List ℕ) (with_essential : Bool) (fore both : IndexView) → index_of text arch with_essential ≡ Ok fore → index_of_both text background arch with_essential ≡ Ok both → both.foreground ≡ length fore.packages
both-count text background arch with_essential fore both e f =
    let p = parts text background arch with_essential both f in
    sym (ap (λ (i : IndexView). i.foreground) p.3) ∙ ap (λ (ps : List PackageView). length ps) (sym (text-packages text arch with_essential fore p.0 e p.2))

pub both-front : (text background arch : List ℕ) (with_essential : Bool) (fore both : IndexView) → index_of text arch with_essential ≡ Ok fore → index_of_both text background arch with_essential ≡ Ok both → take both.foreground both.packages ≡ fore.packages
both-front text background arch with_essential fore both e f =
    let p = parts text background arch with_essential both f in
    let first = collected arch with_essential p.0 in
    let more = packages-on first p.1 in
    let behind : both.packages ≡ first.packages ++ more.0 = sym (ap (λ (i : IndexView). i.packages) p.3) ∙ ap (λ (i : IndexView). i.packages) (sym (collected-on arch with_essential p.0 p.1)) ∙ more.1 in
    let count : both.foreground ≡ length first.packages = sym (ap (λ (i : IndexView). i.foreground) p.3) in
    ap (λ n. take n both.packages) count ∙ ap (take (length first.packages)) behind ∙ take-append_seam first.packages more.0 ∙ sym (text-packages text arch with_essential fore p.0 e p.2)

-- ---- no package stands twice

first-apart : {A : Type 0} (is_same : A → A → Bool) (xs : List A) → AllPairs (λ x y. is_same x y ≡ false) (first_of_each is_same xs)
unfolding first_of_each
first-apart is_same [] = λ i j d below within. absurd (omega (arith, within))
first-apart {A = A} is_same (x ∷ xs) =
    let R : A → A → Type 0 = λ y z. is_same y z ≡ false in
    let test : A → Bool = λ y. not (is_same x y) in
    let others = first_of_each is_same xs in
    let apart : All (R x) (filter test others) = λ i d within. not-true _ (filter_passes test others i d within) in
    AllPairs-cons R x (filter test others) apart (AllPairs-filter R test others (first-apart is_same xs))

collected-apart : (arch : List ℕ) (with_essential : Bool) (read : List (Option PackageView)) → AllPairs (λ p q. same_package p q ≡ false) (collected arch with_essential read).packages
unfolding collected
collected-apart arch with_essential read = first-apart same_package (kept read)

pub both-apart : (text background arch : List ℕ) (with_essential : Bool) (both : IndexView) → index_of_both text background arch with_essential ≡ Ok both → AllPairs (λ p q. same_package p q ≡ false) both.packages
both-apart text background arch with_essential both e =
    let p = parts text background arch with_essential both e in
    subst (λ (i : IndexView). AllPairs (λ p q. same_package p q ≡ false) i.packages) p.3 (collected-apart arch with_essential (p.0 ++ p.1))
