-- Lemmas on bytes that are written.
use Rattle.std.proofs.Common.{◌≡◌, ℕ, ◌-◌, ◌≤◌, List, ◌++◌, length, ap, sym, ◌∙◌, append_assoc, arith, take, drop}
use Rattle.std.proofs.lemmas.List.{take_all, take-append-drop, length-drop}
use Rattle.std.specs.Prelude.{Option, Some, None}
use Rattle.std.specs.Io.KnownBytes.{Appends}

pub appends_more : (a b c : Option (List ℕ)) (front part : List ℕ) → Appends a b front → Appends b c part → Appends a c (front ++ part)
appends_more None b c front part h k = tt
appends_more (Some xs) None c front part h k = absurd h
appends_more (Some xs) (Some ys) None front part h k = absurd k
appends_more (Some xs) (Some ys) (Some zs) front part h k = k ∙ ap (λ held. held ++ part) h ∙ append_assoc xs front part

-- a text is its front and what comes after
pub in_parts : (n : ℕ) (xs : List ℕ) → xs ≡ take n xs ++ take (length xs - n) (drop n xs)
in_parts n xs =
    let fits : length (drop n xs) ≤ length xs - n = rw length-drop (omega arith) in
    let rest : take (length xs - n) (drop n xs) ≡ drop n xs = take_all (length xs - n) (drop n xs) fits in
    sym (ap (λ end. take n xs ++ end) rest ∙ take-append-drop n xs)
