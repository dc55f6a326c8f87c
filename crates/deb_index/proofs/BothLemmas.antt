-- A text and a background behind it.
use Rattle.std.proofs.Common.{◌≡◌, ℕ, Bool, List, [], ◌∷◌, ◌++◌, length, Option, Some, None, Result, Ok, Err, refl, sym, ap, ◌∙◌, arith}
use Rattle.std.specs.List.{fold}
use Rattle.deb_control.specs.Stanzas.{stanzas_of}
use Rattle.deb_index.specs.declared.error.BothError.{BothError}
use Rattle.deb_index.specs.declared.error.BothError.TheVariants.{Fore, Back}
use Rattle.deb_index.specs.declared.error.IndexError.{IndexError}
use Rattle.deb_index.specs.Packages.{IndexView, PackageView}
use Rattle.deb_index.specs.Reading.{◌>>=◌, collected, continued, in_back, in_fore, index_of_both, readings, with_foreground, with_reading}
use Rattle.deb_index.proofs.CollectLemmas.{collected-on, collected-stanzas, failed-from, taken-from, text-read, text-unread}

-- ---- stanzas behind the foreground leave it as it is

abbrev pub front : ℕ → IndexView → IndexView
front n index = record index { foreground = n }

front-more : (n : ℕ) (index : IndexView) (read : Option PackageView) → with_reading (front n index) read ≡ front n (with_reading index read)
front-more n index None = refl
front-more n index (Some p) = grind arith

front-on : (n : ℕ) (index : IndexView) (rest : List (Option PackageView)) → fold with_reading (front n index) rest ≡ front n (fold with_reading index rest)
front-on n index [] = refl
front-on n index (read ∷ rest) = ap (λ (i : IndexView). fold with_reading i rest) (front-more n index read) ∙ front-on n (with_reading index read) rest

-- ---- the index of both

module _ (text background arch : List ℕ) (with_essential : Bool) where
  abbrev pub own : List (Option PackageView) → IndexView
  own read = collected arch with_essential read

  abbrev pub of_both : List (Option PackageView) → List (Option PackageView) → IndexView
  of_both fore back = front (length (own fore).packages) (own (fore ++ back))

  abbrev behind : ℕ → Result (List (Option PackageView)) IndexError
  behind before = readings arch before 0 (stanzas_of background)

  abbrev pub then_back : Result (List (Option PackageView)) IndexError → Result IndexView BothError
  then_back read = in_fore read >>= λ fore. in_back (behind (length fore)) >>= λ back. Ok (of_both fore back)

  abbrev pub then_all : List (Option PackageView) → Result (List (Option PackageView)) IndexError → Result IndexView BothError
  then_all fore read = in_back read >>= λ back. Ok (of_both fore back)

  pub both-fore : (old : IndexView) (e : IndexError) → old ≡ own [] → continued old (readings arch old.stanzas 0 (stanzas_of text)) ≡ Err e → index_of_both text background arch with_essential ≡ Err (Fore e)
  unfolding index_of_both
  both-fore old e is first = ap then_back (text-unread arch with_essential text old e is first)

  module _ (old new mid : IndexView) (is : old ≡ own []) (first : continued old (readings arch old.stanzas 0 (stanzas_of text)) ≡ Ok new) (mid_is : mid ≡ with_foreground new) where
    counted : (fore : List (Option PackageView)) → new ≡ own fore → mid.stanzas ≡ length fore
    counted fore new_is = ap (λ (i : IndexView). i.stanzas) mid_is ∙ ap (λ (i : IndexView). i.stanzas) new_is ∙ collected-stanzas arch with_essential fore

    pub both-back : (e : IndexError) → continued mid (readings arch mid.stanzas 0 (stanzas_of background)) ≡ Err e → index_of_both text background arch with_essential ≡ Err (Back e)
    unfolding index_of_both
    both-back e second =
        let fore = text-read arch with_essential text old new is first in
        let fault = failed-from mid (behind mid.stanzas) e second in
        ap then_back fore.1 ∙ ap (λ n. then_all fore.0 (behind n)) (sym (counted fore.0 fore.2)) ∙ ap (then_all fore.0) fault

    pub both-ok : (index : IndexView) → continued mid (readings arch mid.stanzas 0 (stanzas_of background)) ≡ Ok index → index_of_both text background arch with_essential ≡ Ok index
    unfolding index_of_both
    both-ok index second =
        let fore = text-read arch with_essential text old new is first in
        let back = taken-from mid index (behind mid.stanzas) second in
        let n = length (own fore.0).packages in
        let starts : mid ≡ front n (own fore.0) = mid_is ∙ ap with_foreground fore.2 in
        let whole : index ≡ of_both fore.0 back.0 = sym back.2 ∙ ap (λ (i : IndexView). fold with_reading i back.0) starts ∙ front-on n (own fore.0) back.0 ∙ ap (front n) (collected-on arch with_essential fore.0 back.0) in
        ap then_back fore.1 ∙ ap (λ n. then_all fore.0 (behind n)) (sym (counted fore.0 fore.2)) ∙ ap (then_all fore.0) back.1 ∙ ap (λ (i : IndexView). Ok i) (sym whole)
