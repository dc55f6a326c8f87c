-- Lemmas on the index of a text and of a background behind it.
use Rattle.std.proofs.Common.{◌≡◌, ℕ, Bool, List, Option, Result, Ok, Err}
use Rattle.deb_index.specs.declared.error.BothError.TheVariants.{Fore}
use Rattle.deb_index.specs.declared.error.IndexError.{IndexError}
use Rattle.deb_index.specs.Packages.{IndexView, PackageView}
use Rattle.deb_index.specs.Reading.{◌>>=◌, in_back, in_fore, index_of, index_of_both}

abbrev Readings : Type 0
Readings = Result (List (Option PackageView)) IndexError

-- what is made of a text's stanzas and of those behind them, in one index or alone
module _ (back : List (Option PackageView) → Readings) (both : List (Option PackageView) → List (Option PackageView) → IndexView) (alone : List (Option PackageView) → IndexView) where
  behind-fault : (fore : List (Option PackageView)) (read : Readings) (fault : IndexError) → (in_back read >>= λ more. Ok (both fore more)) ≡ Err (Fore fault) → ⊥
  behind-fault fore (Ok more) fault h = absurd cc
  behind-fault fore (Err e) fault h = absurd cc

  fore-fault : (read : Readings) (fault : IndexError) → (in_fore read >>= λ fore. in_back (back fore) >>= λ more. Ok (both fore more)) ≡ Err (Fore fault) → (read >>= λ fore. Ok (alone fore)) ≡ Err fault
  fore-fault (Ok fore) fault h = absurd (behind-fault fore (back fore) fault h)
  fore-fault (Err e) fault h = cc

  fore-accepted : (read : Readings) (index : IndexView) (fault : IndexError) → (in_fore read >>= λ fore. in_back (back fore) >>= λ more. Ok (both fore more)) ≡ Ok index → (read >>= λ fore. Ok (alone fore)) ≡ Err fault → ⊥
  fore-accepted (Ok fore) index fault h refused = absurd cc
  fore-accepted (Err e) index fault h refused = absurd cc

  fore-refused : (read : Readings) (fault : IndexError) → (read >>= λ fore. Ok (alone fore)) ≡ Err fault → (in_fore read >>= λ fore. in_back (back fore) >>= λ more. Ok (both fore more)) ≡ Err (Fore fault)
  fore-refused (Ok fore) fault h = absurd cc
  fore-refused (Err e) fault h = cc

-- the fault of the first text is one of its own
pub both-fore : (text background arch : List ℕ) (essential : Bool) (fault : IndexError) → index_of_both text background arch essential ≡ Err (Fore fault) → index_of text arch essential ≡ Err fault
unfolding index_of_both index_of
both-fore text background arch essential fault h = fore-fault _ _ _ _ fault h

-- where both are accepted, so is the first
pub fore-of-both : (text background arch : List ℕ) (essential : Bool) (index : IndexView) → index_of_both text background arch essential ≡ Ok index → (fault : IndexError) → index_of text arch essential ≡ Err fault → ⊥
unfolding index_of_both index_of
fore-of-both text background arch essential index h fault refused = fore-accepted _ _ _ _ index fault h refused

-- a text with a fault has it whatever stands behind it
pub fore-fails : (text background arch : List ℕ) (essential : Bool) (fault : IndexError) → index_of text arch essential ≡ Err fault → index_of_both text background arch essential ≡ Err (Fore fault)
unfolding index_of_both index_of
fore-fails text background arch essential fault h = fore-refused _ _ _ _ fault h
