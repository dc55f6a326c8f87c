-- What a draw adds to what a drawer gained, with its piece and without.
use Rattle.std.proofs.Common.{◌≡◌, ℕ, List, [], ◌∷◌, ◌++◌, sym, ◌∙◌, ap, arith}
use Rattle.std.proofs.lemmas.List.{append_assoc, map-append}
use Rattle.work_draw.specs.Board.{DrawerView}
use Rattle.work_draw.specs.declared.pieces.Piece.{Piece}
use Rattle.work_draw.specs.Checks.{numbers_of, Gains, GainsButLast}

pub without_piece : {T : Type 0} (before after later : List ℕ) (pieces : List (Piece T)) (n : ℕ) → Gains before pieces after → later ≡ after ++ n ∷ [] → GainsButLast before pieces later
without_piece before after later pieces n gained drawn = (n ∷ [], omega arith, drawn ∙ ap (λ xs. xs ++ n ∷ []) gained)

pub with_piece : {T : Type 0} (before after later : List ℕ) (pieces : List (Piece T)) (piece : Piece T) → Gains before pieces after → later ≡ after ++ piece.number ∷ [] → Gains before (pieces ++ piece ∷ []) later
with_piece before after later pieces piece gained drawn =
    drawn
    ∙ (ap (λ xs. xs ++ piece.number ∷ []) gained
    ∙ (append_assoc before (numbers_of pieces) (piece.number ∷ []) ∙ ap (λ xs. before ++ xs) (sym (map-append (λ p. p.number) pieces (piece ∷ [])))))

-- a drawer that was this one but for its numbers, is so after a draw
pub same_but_numbers : (first before later : DrawerView) (numbers : List ℕ) → before ≡ record first { numbers = before.numbers } → later ≡ record before { numbers = numbers } → later ≡ record first { numbers = later.numbers }
same_but_numbers first before later numbers same drawn =
    drawn
    ∙ (ap (λ (d : DrawerView). record d { numbers = numbers }) same
    ∙ ap (λ (xs : List ℕ). record first { numbers = xs }) (sym (ap (λ (d : DrawerView). d.numbers) drawn)))
