-- A value reads exactly where each of its elements that count has the form of one.
use Rattle.std.proofs.Common.{◌≡◌, ◌==◌, ℕ, List, [], ◌∷◌, Result, Ok, refl, ◌↔◌, inl, inr}
use Rattle.std.proofs.lemmas.Bool.{cases_Bool}
use Rattle.std.specs.List.{AllZip, list_any}
use Rattle.deb_relation.specs.declared.atom.RelationError.{RelationError}
use Rattle.deb_relation.specs.Bytes.{bar}
use Rattle.deb_relation.specs.Form.{AreAtoms, AreGroups, AtomText, IsAtom, IsGroup, IsSingle, filled_elements, pieces_of}
use Rattle.deb_relation.specs.Relationship.{◌>>=◌, atom_of, atoms_of, each, group_in, groups_of, single_of}
use Rattle.deb_relation.proofs.FormReads.{atom-again}
use Rattle.deb_relation.proofs.Gather.{bind-ok}
use Rattle.deb_relation.proofs.ReadsForm.{atom-takes}

each-takes : {A : Type 0} (read : List ℕ → Result A RelationError) (R : List ℕ → A → Type 0) → ((part : List ℕ) (a : A) → read part ≡ Ok a → R part a)
    → (parts : List (List ℕ)) (items : List A) → each read parts ≡ Ok items → AllZip R parts items
unfolding each
each-takes read R takes [] [] h = tt
each-takes read R takes [] (a ∷ items) h = cc
each-takes read R takes (part ∷ parts) [] h =
    let first = bind-ok (read part) (λ x. each read parts >>= λ xs. Ok (x ∷ xs)) [] h in
    let others = bind-ok (each read parts) (λ xs. Ok (first.0 ∷ xs)) [] first.2 in
    cc (others.2)
each-takes read R takes (part ∷ parts) (a ∷ items) h =
    let first = bind-ok (read part) (λ x. each read parts >>= λ xs. Ok (x ∷ xs)) (a ∷ items) h in
    let others = bind-ok (each read parts) (λ xs. Ok (first.0 ∷ xs)) (a ∷ items) first.2 in
    let head : first.0 ≡ a = cc (others.2) in
    let tail : others.0 ≡ items = cc (others.2) in
    (takes part a (rw head at first.1), each-takes read R takes parts items (rw tail at others.1))

each-again : {A : Type 0} (read : List ℕ → Result A RelationError) (R : List ℕ → A → Type 0) → ((part : List ℕ) (a : A) → R part a → read part ≡ Ok a)
    → (parts : List (List ℕ)) (items : List A) → AllZip R parts items → each read parts ≡ Ok items
unfolding each
each-again read R again [] [] h = refl
each-again read R again [] (a ∷ items) h = absurd h
each-again read R again (part ∷ parts) [] h = absurd h
each-again read R again (part ∷ parts) (a ∷ items) h = rw (again part a h.0, each-again read R again parts items h.1) refl

group-takes : (element : List ℕ) (group : List AtomText) → group_in element ≡ Ok group → IsGroup element group
group-takes element group h = each-takes atom_of IsAtom atom-takes (pieces_of element) group h

group-again : (element : List ℕ) (group : List AtomText) → IsGroup element group → group_in element ≡ Ok group
group-again element group h = each-again atom_of IsAtom atom-again (pieces_of element) group h

single-takes : (element : List ℕ) (atom : AtomText) → single_of element ≡ Ok atom → IsSingle element atom
single-takes element atom h = elim (cases_Bool (list_any (λ b. b == bar) element)) [
  | inl e ↦ cc (rw e at h)
  | inr e ↦ (e, atom-takes element atom (rw e at h))
]

single-again : (element : List ℕ) (atom : AtomText) → IsSingle element atom → single_of element ≡ Ok atom
single-again element atom h = rw h.0 (atom-again element atom h.1)

pub groups-form : (text : List ℕ) (groups : List (List AtomText)) → (groups_of text ≡ Ok groups) ↔ AreGroups text groups
groups-form text groups = (
  λ h. each-takes group_in IsGroup group-takes (filled_elements text) groups h,
  λ h. each-again group_in IsGroup group-again (filled_elements text) groups h,
)

pub atoms-form : (text : List ℕ) (atoms : List AtomText) → (atoms_of text ≡ Ok atoms) ↔ AreAtoms text atoms
atoms-form text atoms = (
  λ h. each-takes single_of IsSingle single-takes (filled_elements text) atoms h,
  λ h. each-again single_of IsSingle single-again (filled_elements text) atoms h,
)
