-- The cores that are walked, and what is looked for to tell them: the similar names of an index that walks and causes tell.
use Rattle.std.specs.Prelude.{[], ◌∷◌, ◌≡◌, ℕ, true, All, List}
use Rattle.deb_index.specs.declared.constraint.Constraint.{Constraint}
use Rattle.deb_index.specs.Constraints.{IsOfIndex}
use Rattle.deb_index.specs.Packages.{IndexView}
use Rattle.deb_causes.specs.declared.similar.Similar.{Similar}
use Rattle.deb_causes.specs.Near.{IsSimilarOf, stems_in, AreSought}
use Rattle.std.specs.List.{flat_map}
use Rattle.deb_health.specs.Verdicts.{ToldView, cores_in, IsAskedOf, shown_view}
use Rattle.deb_health.specs.declared.shown.Shown.{Shown}
use Rattle.run_settings.specs.declared.config.Config.{Config}
use Rattle.deb_causes.specs.declared.gathered.Cause.{Cause}
use Rattle.deb_causes.specs.Causes.{IsCauseOf, cause_view}

-- a constraint of the index, whose stems were looked for in it
pub record FitsWalk (index : IndexView) (similar : Similar) (constraint : Constraint) : Type 0 where
  pub of_index : IsOfIndex index constraint
  pub found : IsSimilarOf index similar
  pub sought : AreSought index (stems_in similar) (constraint ∷ [])

-- the constraints of the cores that are told of an asked place
abbrev pub constraints_in : ℕ × ToldView → List Constraint
constraints_in one = flat_map (λ core. core) (cores_in one.1)

-- a constraint of the index; where cores are walked, what is similar was looked for
abbrev pub IsTold : IndexView → Config → Similar → Constraint → Type 0
IsTold index config similar constraint = IsOfIndex index constraint × (config.why ≡ true → FitsWalk index similar constraint)

-- what is similar was looked for, where its cores are walked
abbrev pub IsWalked : IndexView → Config → Similar → Shown → Type 0
IsWalked index config similar shown =
    config.explain ≡ true → config.why ≡ true → All (All (FitsWalk index similar)) (cores_in (shown_view shown).1)

-- a block of the index, and what is told of it
pub record FitsBlock (index : IndexView) (config : Config) (similar : Similar) (shown : Shown) : Type 0 where
  pub asked : IsAskedOf index (shown_view shown)
  pub walked : IsWalked index config similar shown

-- a cause of the index, whose stems were looked for in it
pub record FitsCause (index : IndexView) (similar : Similar) (cause : Cause) : Type 0 where
  pub of_index : IsCauseOf index (cause_view cause)
  pub found : IsSimilarOf index similar
  pub sought : AreSought index (stems_in similar) cause.constraints.items
