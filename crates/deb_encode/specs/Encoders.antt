-- What a call of an encoder adds to its formula.
use Rattle.std.specs.Prelude.{◌≡◌, ℕ, true, not, Bool, List, ◌++◌, if◌then◌else◌, length}
use Rattle.std.specs.List.{list_any}
use Rattle.sat_solve.specs.declared.clause.Lit.{Lit}
use Rattle.number_sets.specs.Sets.{NumberSet, members_of}
use Rattle.deb_encode.specs.declared.encoder.Encoder.{Encoder}
use Rattle.deb_encode.specs.declared.play.Play.{Play}
use Rattle.deb_encode.specs.Play.{Adds, placed}
use Rattle.deb_encode.specs.Exclusions.{Widens}

-- the places in play
abbrev pub all_places : Play → List ℕ
all_places play = play.forced.now ++ play.candidates.now

abbrev pub in_play : Play → NumberSet
in_play play = members_of (all_places play)

-- the set of places that a set of variables stands for
abbrev pub set_of : Play → NumberSet → NumberSet
set_of play vars = placed play.forced.now play.candidates.now vars

-- an encoder still adds to the same group of the same formula, over the same places
pub record IsSame (before after : Encoder) : Type 0 where
  pub play : after.play ≡ before.play
  pub group : after.group ≡ before.group
  pub formula : after.formula.ghost_name ≡ before.formula.ghost_name

-- clauses came to an encoder's formula, which hold in just the sets of variables with a property
pub record AddsVars (Means : Play → NumberSet → Type 0) (before after : Encoder) : Type 0 where
  pub same : IsSame before after
  pub adds : Adds before.group (Means before.play) before.formula.now after.formula.now

-- clauses came to an encoder's formula, which hold in just the sets of variables whose places have a property
abbrev pub Tells : (Play → NumberSet → Type 0) → Encoder → Encoder → Type 0
Tells Means before after = AddsVars (λ play vars. Means play (set_of play vars)) before after

-- the place is not in the set together with another one of a list
abbrev pub KeepsOut : ℕ → List ℕ → NumberSet → Type 0
KeepsOut place list set = (q : ℕ) → members_of list q ≡ true → set place ≡ true → set q ≡ true → q ≡ place

-- a place is in the set that the variables stand for, or is out
abbrev pub stands : Play → NumberSet → Bool → NumberSet
stands play vars positive q = if positive then set_of play vars q else not (set_of play vars q)

-- a clause was made to hold where a place is in, too, or where it is out
abbrev pub WidensByPlace : Play → ℕ → Bool → List Lit → List Lit → Bool → Type 0
WidensByPlace play place positive before after anyway = Widens (λ vars. stands play vars positive place) (length play.candidates.now) before after anyway

-- a clause was made to hold where one of these places is in, too, or where one is out
abbrev pub WidensBySome : Play → List ℕ → Bool → List Lit → List Lit → Bool → Type 0
WidensBySome play places positive before after anyway =
    Widens (λ vars. list_any (λ q. stands play vars positive q) places) (length play.candidates.now) before after anyway
