-- A value has at most one group or atom more than it has bytes.
use Rattle.std.proofs.Common.{not, ◌≡◌, ◌≤◌, ◌+◌, ◌==◌, ℕ, List, [], ◌∷◌, length, map, Result, Ok, Err, arith}
use Rattle.std.specs.Prelude.{IfOk}
use Rattle.std.proofs.lemmas.List.{length-map}
use Rattle.std.proofs.lemmas.List.Splits.{length-slice_split}
use Rattle.std.proofs.lemmas.List.Sums.{count_by-le-length, length-filter}
use Rattle.deb_relation.specs.Bytes.{comma}
use Rattle.deb_relation.specs.declared.atom.RelationError.{RelationError}
use Rattle.deb_relation.specs.Relationship.{AtomText, Gives, ◌>>=◌, each, elements_of, filled_elements, group_in, groups_of, is_blank}
use Rattle.deb_relation.proofs.Gather.{bind-ok}

module _ {A : Type 0} (read : List ℕ → Result A RelationError) where
  each-length : (parts : List (List ℕ)) (items : List A) → each read parts ≡ Ok items → length items ≡ length parts
  unfolding each
  each-length [] items e = let same : [] ≡ items = cc in rw (← same) (omega arith)
  each-length (part ∷ parts) items e =
      let first = bind-ok (read part) (λ x. each read parts >>= λ xs. Ok (x ∷ xs)) items e in
      let others = bind-ok (each read parts) (λ xs. Ok (first.0 ∷ xs)) items first.2 in
      let same : first.0 ∷ others.0 ≡ items = cc (others.2) in
      let rest = each-length parts others.0 others.1 in
      rw (← same) (omega arith)

  pub few-of : (items : List A) (text : List ℕ) → each read (filled_elements text) ≡ Ok items → length items ≤ length text + 1
  few-of items text e =
      let parts = length-slice_split (λ (b : ℕ). b == comma) text in
      let commas = count_by-le-length (λ (b : ℕ). b == comma) text in
      let kept = length-filter (λ (element : List ℕ). not (is_blank element)) (elements_of text) in
      let fewer = count_by-le-length (λ (element : List ℕ). not (is_blank element)) (elements_of text) in
      let count = each-length (filled_elements text) items e in
      omega arith

  -- of what is read, where a view of it is what the definition gives
  pub few-read : {X : Type 0} (view : X → A) (items : List X) (text : List ℕ) → each read (filled_elements text) ≡ Ok (map view items) → length items ≤ length text + 1
  few-read view items text e = omega (arith, few-of (map view items) text e, length-map items view)

-- of groups that were read
pub few-groups : (result : Result (List (List AtomText)) RelationError) (text : List ℕ) → Gives (λ g. g) result (groups_of text) → IfOk result (λ g. length g ≤ length text + 1)
few-groups (Ok groups) text h = few-of group_in groups text h
few-groups (Err e) text h = tt
