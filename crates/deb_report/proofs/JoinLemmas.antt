-- Texts behind one another.
use Rattle.std.proofs.Common.{◌≡◌, ◌∙◌, ℕ, List, [], ◌∷◌, ◌++◌, append_assoc, ap, ap₂, fold, refl}

pub in-order : (out first : List ℕ) (others : List (List ℕ)) → fold (λ text one. text ++ one) (out ++ first) others ≡ out ++ fold (λ text one. text ++ one) first others
in-order out first [] = refl
in-order out first (o ∷ os) = ap (λ start. fold (λ text one. text ++ one) start os) (append_assoc out first o) ∙ in-order out (first ++ o) os

-- what was added, told otherwise, behind what stood before it
pub added : {now was start one told : List ℕ} → now ≡ was ++ one → was ≡ start → one ≡ told → now ≡ start ++ told
added is before same = is ∙ ap₂ (λ front back. front ++ back) before same
