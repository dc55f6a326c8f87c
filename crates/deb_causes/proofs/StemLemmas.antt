-- The stems of names, word by word.
use Rattle.std.proofs.Common.{◌≡◌, ◌==◌, ℕ, ◌-◌, ◌<◌, List, [], ◌∷◌, ◌++◌, append_assoc, append-nil, length, take, ap, sym, ◌∙◌, arith}
use Rattle.std.specs.List.{flat_map, join_by, slice_split}
use Rattle.std.proofs.Math.Seq.{take-append_seam}
use Rattle.std.proofs.lemmas.List.{length-append}
use Rattle.std.proofs.lemmas.List.Splits.{length-slice_split}
use Rattle.deb_causes.specs.Near.{stem, stem_of_word}

-- texts with a separator behind each are those that are joined, and one separator
joined : (text : List ℕ → List ℕ) (separator : ℕ) (words : List (List ℕ)) → 0 < length words
    → flat_map (λ word. text word ++ separator ∷ []) words ≡ join_by text (separator ∷ []) words ++ separator ∷ []
joined text separator [] some = absurd (omega arith)
joined text separator (word ∷ []) some = append-nil (text word ++ separator ∷ []) ∙ ap (λ front. front ++ separator ∷ []) (sym (append-nil (text word)))
joined text separator (word ∷ next ∷ words) some =
    ap (λ rest. (text word ++ separator ∷ []) ++ rest) (joined text separator (next ∷ words) (omega arith)) ∙ simp append_assoc

-- the words of a name, less what stands behind the last
pub stem-made : (name out : List ℕ) (n : ℕ) → out ≡ flat_map (λ word. stem_of_word word ++ 45 ∷ []) (slice_split (λ byte. byte == 45) name) → n ≡ length out → take (n - 1) out ≡ stem name
unfolding stem
stem-made name out n is size =
    let words = slice_split (λ (byte : ℕ). byte == 45) name in
    let whole : out ≡ stem name ++ 45 ∷ [] = is ∙ joined stem_of_word 45 words (omega (arith, length-slice_split (λ (byte : ℕ). byte == 45) name)) in
    let shorter : n - 1 ≡ length (stem name) = omega (arith, size, ap length whole, length-append (stem name) (45 ∷ [])) in
    ap (λ k. take k out) shorter ∙ ap (take (length (stem name))) whole ∙ take-append_seam (stem name) (45 ∷ [])
