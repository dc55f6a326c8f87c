-- Options that are added to a command in turn.
use Rattle.std.proofs.Common.{◌≡◌, ◌∙◌, ◌+◌, ◌<◌, ℕ, List, ap, ap₂, get_or, length, map, sym, take}
use Rattle.std.proofs.lemmas.List.{map_more}
use Rattle.clap.specs.Words.{App, Rule, with_rule}
use Rattle.command_line.specs.Line.{app_with}

-- behind those that were there, the next of a list is added
pub adds-next : {X : Type 0} (rule : X → Rule) (xs : List X) (i : ℕ) (d : X) (before after : App) (next : Rule) → i < length xs
    → before ≡ app_with (map rule (take i xs)) → next ≡ rule (get_or xs i d) → after ≡ with_rule before next
    → after ≡ app_with (map rule (take (i + 1) xs))
adds-next rule xs i d before after next within are is adds =
    adds ∙ ap₂ with_rule are is ∙ ap app_with (sym (map_more rule xs i d within))
