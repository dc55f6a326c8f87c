-- What constraints say, by numbers, and cores with the numbers of their causes.
use Rattle.std.specs.Prelude.{◌≡◌, ℕ, true, Bool, List, Option, Some, All, map}
use Rattle.std.specs.List.{list_any, flat_map}
use Rattle.std.specs.Str.{bytes_eq}
use Rattle.deb_index.specs.declared.constraint.Constraint.{Constraint}
use Rattle.deb_index.specs.Packages.{IndexView, places_where}
use Rattle.deb_index.specs.Tables.{number_in}
use Rattle.deb_health.specs.Causes.{cause_in}
use Rattle.deb_causes.specs.Causes.{says}
use Rattle.deb_causes.specs.declared.wrongs.Wrongs.{Wrongs}
use Rattle.deb_causes.specs.Numbering.{Grows, IsFront, StandOnce, texts_of}

-- the number of what a constraint says
abbrev pub number_said : IndexView → List (List ℕ) → Constraint → Option ℕ
number_said index texts one = number_in (says index one) texts

-- what it says is among the texts
abbrev pub IsKnown : IndexView → List (List ℕ) → Constraint → Type 0
IsKnown index texts one = list_any (bytes_eq (says index one)) texts ≡ true

-- one of the constraints says the text
abbrev pub is_text_of : IndexView → List Constraint → List ℕ → Bool
is_text_of index cause text = list_any (λ one. bytes_eq text (says index one)) cause

-- the numbers, rising, of what a cause says
abbrev pub key_of : IndexView → List (List ℕ) → List Constraint → List ℕ
key_of index texts cause = places_where (is_text_of index cause) texts

-- the cause of a core has the number among these keys, and what it says is known
pub record IsNumbered (index : IndexView) (texts keys : List (List ℕ)) (core : ℕ × List Constraint) : Type 0 where
  pub known : All (IsKnown index texts) (cause_in index core.1)
  pub number : number_in (key_of index texts (cause_in index core.1)) keys ≡ Some core.0

abbrev pub said_of : Wrongs → List (List ℕ)
said_of wrongs = texts_of wrongs.said

abbrev pub causes_of : Wrongs → List (List ℕ)
causes_of wrongs = texts_of wrongs.causes

-- these cores were numbered, one after the other: what is so for all texts and keys that begin with those that stand there in the end
pub record AreNumbered (index : IndexView) (old new : Wrongs) (cores : List (ℕ × List Constraint)) : Type 0 where
  pub said : Grows (said_of old) (said_of new) (flat_map (λ core. map (says index) (cause_in index core.1)) cores)
  pub causes : (texts : List (List ℕ)) → StandOnce texts → IsFront (said_of new) texts
      → Grows (causes_of old) (causes_of new) (map (λ core. key_of index texts (cause_in index core.1)) cores)
  pub each : (texts keys : List (List ℕ)) → StandOnce texts → IsFront (said_of new) texts → IsFront (causes_of new) keys
      → All (IsNumbered index texts keys) cores
