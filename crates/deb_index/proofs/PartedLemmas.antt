-- The parts of a text.
use Rattle.std.proofs.Common.{◌≡◌, ◌≤◌, ℕ, List, [], ◌∷◌, ◌++◌, length, sym, ap, ◌∙◌, arith, length-append}
use Rattle.std.specs.List.{AllByRecursion}
use Rattle.std.proofs.lemmas.Grind.{flat_map-append}
use Rattle.deb_control.specs.Stanzas.{stanzas_of}
use Rattle.deb_index.specs.declared.parts.Part.{Part}
use Rattle.deb_index.specs.Built.{ArePartsOf, IsForeseen, part_stanzas}

all-both : {A : Type 0} (P : A → Type 0) (xs ys : List A) → AllByRecursion P xs → AllByRecursion P ys → AllByRecursion P (xs ++ ys)
all-both P [] ys h k = k
all-both P (x ∷ xs) ys h k = (h.0, all-both P xs ys h.1 k)

-- parts that are no longer than a text are no longer than a longer one
pub short-parts : (bound limit : ℕ) (parts : List Part) → bound ≤ limit → AllByRecursion (λ part. length part.text.now ≤ bound) parts → AllByRecursion (λ part. length part.text.now ≤ limit) parts
short-parts bound limit [] le h = tt
short-parts bound limit (part ∷ parts) le h = (omega (arith, le, h.0), short-parts bound limit parts le h.1)

-- a text that is cut in two, each in parts
pub two-parted : (arch text front back : List ℕ) (ps qs : List Part) → text ≡ front ++ back → stanzas_of text ≡ stanzas_of front ++ stanzas_of back → ArePartsOf arch front ps → ArePartsOf arch back qs → ArePartsOf arch text (ps ++ qs)
two-parted arch text front back ps qs whole cut p q =
    let long = ap (λ (bytes : List ℕ). length bytes) whole ∙ length-append front back in
    record {
      stanzas = flat_map-append part_stanzas ps qs ∙ (λ i. p.stanzas i ++ q.stanzas i) ∙ sym cut;
      short = all-both (λ (part : Part). length part.text.now ≤ length text) ps qs (short-parts (length front) (length text) ps (omega (arith, long)) p.short) (short-parts (length back) (length text) qs (omega (arith, long)) q.short);
      foreseen = all-both (IsForeseen arch) ps qs p.foreseen q.foreseen;
    }
