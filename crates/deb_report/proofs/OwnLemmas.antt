-- What the core says of a package, constraint by constraint.
use Rattle.std.proofs.Common.{◌≡◌, ℕ, ◌+◌, ◌<◌, cond, List, [], ◌∷◌, ◌++◌, filter, get_or, length, take, sym, ap, ◌∙◌}
use Rattle.std.proofs.lemmas.List.{take_more}
use Rattle.std.proofs.lemmas.List.Elements.{filter-append}
use Rattle.deb_index.specs.declared.constraint.Constraint.{Constraint}
use Rattle.deb_report.specs.Walk.{is_own}

-- what the core says, with one constraint more
pub says-more : (core : List Constraint) (i q : ℕ) (d c : Constraint) (old new : List Constraint) → i < length core → c ≡ get_or core i d → new ≡ old ++ cond (is_own q c) (c ∷ []) []
    → old ≡ filter (is_own q) (take i core) → new ≡ filter (is_own q) (take (i + 1) core)
says-more core i q d c old new inside is more before =
    more ∙ ap (λ list. list ++ cond (is_own q c) (c ∷ []) []) before
    ∙ sym (ap (filter (is_own q)) (take_more core i d inside ∙ ap (λ (last : Constraint). take i core ++ last ∷ []) (sym is)) ∙ filter-append (is_own q) (take i core) (c ∷ []))
