-- Lemmas on the lines of faults.
use Rattle.std.proofs.Common.{◌≡◌, ℕ, OnOk, Result, Ok, Err, is_ok, List, ◌++◌, codes, decimal, ap, ◌∙◌, append_assoc, if◌then◌else◌}
use Rattle.deb_input.specs.Faults.{stanza_text}

-- the line of a stanza's fault goes on
pub stanza_text-more : (out : List ℕ) (stanza : ℕ) (what more : List ℕ) → (out ++ stanza_text stanza what) ++ more ≡ out ++ stanza_text stanza (what ++ more)
unfolding stanza_text
stanza_text-more out stanza what more =
    let start : List ℕ = codes "stanza " ++ decimal stanza ++ codes ": " in
    append_assoc out (start ++ what) more ∙ ap (λ rest. out ++ rest) (append_assoc start what more)

-- what a last call puts behind a text, where it succeeds
pub last_pushed : {T E : Type 0} (r : Result T E) (new old more : List ℕ) → new ≡ (if is_ok r then old ++ more else old) → OnOk r (new ≡ old ++ more)
last_pushed (Ok x) new old more is = is
last_pushed (Err e) new old more is = tt
