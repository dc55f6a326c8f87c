-- An atom that was read, printed, reads again.
use Rattle.std.proofs.Common.{not, ◌≡◌, ◌==◌, ℕ, List, [], ◌∷◌, ◌++◌, Bool, true, false, Option, Some, None, Result, Ok, Err, IfSome, if◌then◌else◌, refl, inl, append_assoc}
use Rattle.std.specs.Prelude.{codes}
use Rattle.std.proofs.lemmas.Bool.{and_parts}
use Rattle.std.proofs.lemmas.List.{append-nil}
use Rattle.std.proofs.lemmas.List.Elements.{All-cons, All-nil}
use Rattle.std.specs.Char.{is_ascii_alphanumeric}
use Rattle.std.specs.List.{All, list_all, list_any}
use Rattle.deb_relation.specs.declared.atom.RelationError.{RelationError}
use Rattle.deb_relation.specs.declared.atom.RelationError.TheVariants.{Alternative}
use Rattle.deb_relation.specs.declared.bound.Op.{Op}
use Rattle.deb_relation.specs.declared.bound.Op.TheVariants.{Lt, Le, Eq, Ge, Gt}
use Rattle.deb_relation.specs.Bytes.{bar, comma, space, begins}
use Rattle.deb_relation.specs.Form.{AtomText, IsAtom, IsBound, IsSign, is_name, is_name_byte, is_qualifier, is_qualifier_byte, is_white, qualifier_text}
use Rattle.deb_relation.specs.Relationship.{ReadsAgain, ◌>>=◌, atom_of, atoms_of, bound_text, each, filled_elements, group_in, groups_of, is_blank, op_text, pieces_of, printed, single_of}
use Rattle.deb_relation.specs.VersionText.{fault_of, is_upstream_byte}
use Rattle.deb_relation.proofs.ByteKinds.{alphanumeric-not_white, inner-not_bar, inner-not_comma, is_inner_byte, name-is_inner, qualifier-is_inner, upstream-is_inner}
use Rattle.deb_relation.proofs.FormReads.{atom-again}
use Rattle.deb_relation.proofs.Gather.{bind-ok}
use Rattle.deb_relation.proofs.ReadsForm.{atom-takes}
use Rattle.deb_relation.proofs.RunJoins.{begins-append, begins-other, list_all-begins, list_all-join, list_all-wider, list_any-none, split-one}
use Rattle.deb_relation.proofs.VersionBytes.{version-bytes}

-- ---- the printed form has the form of an atom

-- the operators as they are printed
sign-printed : (op : Op) → IsSign op (op_text op)
sign-printed Lt = refl
sign-printed Le = inl refl
sign-printed Eq = refl
sign-printed Ge = inl refl
sign-printed Gt = refl

-- what is known of the parts of an atom that was read
abbrev AreParts : AtomText → Type 0
AreParts atom = (is_name atom.name ≡ true) × IfSome atom.qualifier (λ q. is_qualifier q ≡ true) × IfSome atom.bound (λ b. fault_of b.1 ≡ None)

version-read : (text : List ℕ) (bound : Option (Op × List ℕ)) → IsBound text bound → IfSome bound (λ b. fault_of b.1 ≡ None)
version-read text None t = tt
version-read text (Some b) t = t.is_version

parts-read : (piece : List ℕ) (atom : AtomText) → atom_of piece ≡ Ok atom → AreParts atom
parts-read piece atom e =
    let t = atom-takes piece atom e in
    (t.is_name, t.is_qualifier, version-read t.bound_text atom.bound t.is_bound)

form-printed : (atom : AtomText) → AreParts atom → IsAtom (printed atom) atom
unfolding printed
form-printed atom known = by atom.bound refl known.2
  where
    by : (bound : Option (Op × List ℕ)) → atom.bound ≡ bound → IfSome bound (λ b. fault_of b.1 ≡ None) → IsAtom (printed atom) atom
    by None e fine = record {
      before_name = [];
      before_bound = [];
      bound_text = [];
      whole = rw e (simp append-nil);
      white = (refl, refl);
      is_name = known.0;
      is_qualifier = known.1;
      is_bound = rw e refl;
    }
    by (Some b) e fine = record {
      before_name = [];
      before_bound = space ∷ [];
      bound_text = codes "(" ++ op_text b.0 ++ codes " " ++ b.1 ++ codes ")";
      whole = rw e (simp append_assoc);
      white = (refl, refl);
      is_name = known.0;
      is_qualifier = known.1;
      is_bound = rw e (record {
        before_sign = [];
        sign = op_text b.0;
        after_sign = space ∷ [];
        after_version = [];
        after = [];
        whole = rw (append-nil (op_text b.0 ++ (space ∷ []) ++ b.1)) refl;
        is_sign = sign-printed b.0;
        is_version = fine;
        white = (refl, refl, refl, refl);
      });
    }

-- ---- it has no comma and no bar, and isn't white space

op-inner : (op : Op) → list_all is_inner_byte (op_text op) ≡ true
op-inner Lt = refl
op-inner Le = refl
op-inner Eq = refl
op-inner Ge = refl
op-inner Gt = refl

qualifier-inner : (qualifier : Option (List ℕ)) → IfSome qualifier (λ q. is_qualifier q ≡ true) → list_all is_inner_byte (qualifier_text qualifier) ≡ true
qualifier-inner None h = refl
qualifier-inner (Some q) h =
    let parts = and_parts (begins is_qualifier_byte q) (list_all is_qualifier_byte q) h in
    list_all-wider is_qualifier_byte is_inner_byte q qualifier-is_inner parts.1

bound-inner : (bound : Option (Op × List ℕ)) → IfSome bound (λ b. fault_of b.1 ≡ None) → list_all is_inner_byte (bound_text bound) ≡ true
bound-inner None h = refl
bound-inner (Some b) h =
    let version = list_all-wider is_upstream_byte is_inner_byte b.1 upstream-is_inner (version-bytes b.1 h).0 in
    let op = list_all-join is_inner_byte (codes " (") (op_text b.0) refl (op-inner b.0) in
    let middle = list_all-join is_inner_byte (codes " (" ++ op_text b.0) (codes " ") op refl in
    let front = list_all-join is_inner_byte (codes " (" ++ op_text b.0 ++ codes " ") b.1 middle version in
    list_all-join is_inner_byte (codes " (" ++ op_text b.0 ++ codes " " ++ b.1) (codes ")") front refl

printed-inner : (atom : AtomText) → AreParts atom → list_all is_inner_byte (printed atom) ≡ true
unfolding printed
printed-inner atom known =
    let parts = and_parts (begins is_ascii_alphanumeric atom.name) (list_all is_name_byte atom.name) known.0 in
    let name = list_all-wider is_name_byte is_inner_byte atom.name name-is_inner parts.1 in
    let front = list_all-join is_inner_byte atom.name (qualifier_text atom.qualifier) name (qualifier-inner atom.qualifier known.1) in
    list_all-join is_inner_byte (atom.name ++ qualifier_text atom.qualifier) (bound_text atom.bound) front (bound-inner atom.bound known.2)

printed-filled : (atom : AtomText) → AreParts atom → is_blank (printed atom) ≡ false
unfolding printed
printed-filled atom known =
    let parts = and_parts (begins is_ascii_alphanumeric atom.name) (list_all is_name_byte atom.name) known.0 in
    let front : List ℕ = atom.name ++ qualifier_text atom.qualifier in
    let named = begins-append is_ascii_alphanumeric atom.name (qualifier_text atom.qualifier) parts.0 in
    let first = begins-append is_ascii_alphanumeric front (bound_text atom.bound) named in
    list_all-begins is_white is_ascii_alphanumeric (front ++ bound_text atom.bound) first
    (begins-other is_ascii_alphanumeric is_white front (bound_text atom.bound) named alphanumeric-not_white)

-- ---- so it reads again, alone

reads-again : (atom : AtomText) → AreParts atom → ReadsAgain atom
unfolding each
reads-again atom known =
    let inner = printed-inner atom known in
    let elements = split-one (λ b. b == comma) (printed atom) (list_all-wider is_inner_byte (λ b. not (b == comma)) (printed atom) inner-not_comma inner) in
    let no_bar = list_all-wider is_inner_byte (λ b. not (b == bar)) (printed atom) inner-not_bar inner in
    let pieces = split-one (λ b. b == bar) (printed atom) no_bar in
    let single = list_any-none (λ b. b == bar) (printed atom) no_bar in
    let filled = printed-filled atom known in
    let read = atom-again (printed atom) atom (form-printed atom known) in
    (rw (elements, filled, pieces, read) refl, rw (elements, filled, single, read) refl)

-- ---- and that holds of each atom of a value

each-all : {A : Type 0} (read : List ℕ → Result A RelationError) (P : A → Type 0) → ((part : List ℕ) (a : A) → read part ≡ Ok a → P a)
    → (parts : List (List ℕ)) (items : List A) → each read parts ≡ Ok items → All P items
unfolding each
each-all read P holds [] items e = let same : [] ≡ items = cc in rw (← same) (All-nil P)
each-all read P holds (part ∷ parts) items e =
    let first = bind-ok (read part) (λ a. each read parts >>= λ xs. Ok (a ∷ xs)) items e in
    let others = bind-ok (each read parts) (λ xs. Ok (first.0 ∷ xs)) items first.2 in
    let same : first.0 ∷ others.0 ≡ items = cc (others.2) in
    rw (← same) (All-cons P first.0 others.0 (holds part first.0 first.1) (each-all read P holds parts others.0 others.1))

atom-prints : (piece : List ℕ) (atom : AtomText) → atom_of piece ≡ Ok atom → ReadsAgain atom
atom-prints piece atom e = reads-again atom (parts-read piece atom e)

single-prints : (element : List ℕ) (atom : AtomText) → single_of element ≡ Ok atom → ReadsAgain atom
single-prints element atom e = atom-prints element atom (by (list_any (λ b. b == bar) element) e)
  where
    by : (bars : Bool) → (if bars then Err Alternative else atom_of element) ≡ Ok atom → atom_of element ≡ Ok atom
    by true h = cc
    by false h = h

pub groups-printed : (text : List ℕ) (groups : List (List AtomText)) → groups_of text ≡ Ok groups → All (λ g. All ReadsAgain g) groups
groups-printed text groups e = each-all group_in (λ g. All ReadsAgain g) (λ element. each-all atom_of ReadsAgain atom-prints (pieces_of element)) (filled_elements text) groups e

pub atoms-printed : (text : List ℕ) (atoms : List AtomText) → atoms_of text ≡ Ok atoms → All ReadsAgain atoms
atoms-printed text atoms e = each-all single_of ReadsAgain single-prints (filled_elements text) atoms e
