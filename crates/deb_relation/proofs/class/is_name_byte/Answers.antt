use Rattle.std.proofs.Common.{◌≡◌, ◌∙◌, ◌||◌, Bool, true, false, sym, refl}
use Rattle.std.specs.Char.{is_ascii_lowercase}
use Rattle.deb_relation.proofs.class.is_name_byte.Goals as goal

or-true : (b : Bool) → true ≡ (b || true)
or-true true = refl
or-true false = refl

pub returns-then-is_ascii_lowercase : goal.returns-then-is_ascii_lowercase
returns-then-is_ascii_lowercase c =
    let small : is_ascii_lowercase c.args.byte ≡ true = sym c.is_ascii_lowercase.ensures.value ∙ c.if-is_ascii_lowercase.true in
    rw (small, ← or-true _) refl
