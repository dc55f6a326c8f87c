-- A value without a bar has groups of one atom each.
use Rattle.std.proofs.Common.{◌≡◌, ◌==◌, ℕ, List, [], ◌∷◌, Bool, true, false, Result, Ok, Err, map, refl, ap, ◌∙◌, inl, inr}
use Rattle.std.specs.Prelude.{◌||◌}
use Rattle.std.proofs.lemmas.Bool.{cases_Bool}
use Rattle.deb_relation.specs.Bytes.{bar, comma, has_byte}
use Rattle.deb_relation.specs.declared.atom.RelationError.{RelationError}
use Rattle.deb_relation.specs.declared.atom.RelationError.TheVariants.{Name, Bound, Alternative, Trailing, Memory}
use Rattle.deb_relation.specs.Relationship.{AtomText, Fails, ◌>>=◌, atoms_of, each, elements_of, filled, group_in, groups_of, is_blank, single_of}
use Rattle.deb_relation.proofs.Bars.{any_has, one-part, parts-have}

-- each atom as a group
abbrev pub alone : Result (List AtomText) RelationError → Result (List (List AtomText)) RelationError
alone read = read >>= λ atoms. Ok (map (λ a. a ∷ []) atoms)

neither : (a b : Bool) → (a || b) ≡ false → (a ≡ false) × (b ≡ false)
neither true b h = cc
neither false b h = (refl, h)

one-atom : (part : List ℕ) → has_byte bar part ≡ false → group_in part ≡ (single_of part >>= λ a. Ok (a ∷ []))
unfolding each
one-atom part h = rw (one-part bar part h, h) refl

joined : (first : Result AtomText RelationError) (rest : Result (List AtomText) RelationError)
    → ((first >>= λ a. Ok (a ∷ [])) >>= λ x. alone rest >>= λ xs. Ok (x ∷ xs)) ≡ alone (first >>= λ x. rest >>= λ xs. Ok (x ∷ xs))
joined (Ok a) (Ok atoms) = refl
joined (Ok a) (Err e) = refl
joined (Err e) rest = refl

each-alone : (parts : List (List ℕ)) → any_has bar parts ≡ false → each group_in parts ≡ alone (each single_of parts)
unfolding each
each-alone [] h = refl
each-alone (part ∷ parts) h =
    let none = neither (has_byte bar part) (any_has bar parts) h in
    rw (one-atom part none.0, each-alone parts none.1) (joined (single_of part) (each single_of parts))

filled-none : (parts : List (List ℕ)) → any_has bar parts ≡ false → any_has bar (filled parts) ≡ false
filled-none [] h = refl
filled-none (part ∷ parts) h =
    let none = neither (has_byte bar part) (any_has bar parts) h in
    elim (cases_Bool (is_blank part)) [
      | inl e ↦ rw e (filled-none parts none.1)
      | inr e ↦ rw (e, none.0) (filled-none parts none.1)
    ]

elements-none : (text : List ℕ) → has_byte bar text ≡ false → any_has bar (elements_of text) ≡ false
elements-none text h = elim (cases_Bool (any_has bar (elements_of text))) [
  | inl e ↦ cc (h, parts-have bar (λ (b : ℕ). b == comma) text e)
  | inr e ↦ e
]

groups-alone : (text : List ℕ) → has_byte bar text ≡ false → groups_of text ≡ alone (atoms_of text)
groups-alone text h = each-alone (filled (elements_of text)) (filled-none (elements_of text) (elements-none text h))

pub alone-ok : (text : List ℕ) (atoms : List AtomText) → has_byte bar text ≡ false → atoms_of text ≡ Ok atoms → groups_of text ≡ Ok (map (λ a. a ∷ []) atoms)
alone-ok text atoms h e = groups-alone text h ∙ ap alone e

pub alone-fails : (e : RelationError) (text : List ℕ) → has_byte bar text ≡ false → Fails e (atoms_of text) → Fails e (groups_of text)
alone-fails Name text h e = groups-alone text h ∙ ap alone e
alone-fails Bound text h e = groups-alone text h ∙ ap alone e
alone-fails Alternative text h e = groups-alone text h ∙ ap alone e
alone-fails Trailing text h e = groups-alone text h ∙ ap alone e
alone-fails Memory text h e = tt
