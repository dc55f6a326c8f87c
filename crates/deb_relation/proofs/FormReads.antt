-- A piece that has the form of an atom reads as that atom.
use Rattle.std.proofs.Common.{◌≡◌, ◌==◌, ℕ, List, [], ◌∷◌, ◌++◌, Bool, true, false, Option, Some, None, Ok, IfSome, refl, ◌∙◌, inl, inr, append_assoc}
use Rattle.std.proofs.lemmas.Bool.{and_parts}
use Rattle.std.specs.Char.{is_ascii_alphanumeric}
use Rattle.std.specs.List.{list_all}
use Rattle.deb_relation.specs.declared.bound.Op.{Op}
use Rattle.deb_relation.specs.declared.bound.Op.TheVariants.{Lt, Le, Eq, Ge, Gt}
use Rattle.deb_relation.specs.Bytes.{close_parenthesis, colon, open_parenthesis, begins}
use Rattle.deb_relation.specs.Form.{AtomText, IsAtom, IsBound, IsBoundText, IsSign, is_name, is_name_byte, is_qualifier, is_qualifier_byte, is_white, qualifier_text}
use Rattle.deb_relation.specs.Relationship.{atom_of, bound_at, inside_at, is_version_byte, name_at, op_at, qualifier_at, version_at}
use Rattle.deb_relation.specs.VersionText.{fault_of, is_upstream_byte}
use Rattle.deb_relation.proofs.ByteKinds.{alphanumeric-not_white, is_sign_byte, not_sign-parts, upstream-is_version, upstream-not_sign, upstream-not_white, white-not_colon, white-not_name, white-not_qualifier, white-not_sign, white-not_version}
use Rattle.deb_relation.proofs.RunJoins.{after_run-append, begins-after, begins-append, begins-other, list_all-begins, list_all-behind, list_all-wider, run-append}
use Rattle.deb_relation.proofs.VersionBytes.{version-bytes}

name-again : (name rest : List ℕ) → is_name name ≡ true → begins is_name_byte rest ≡ false → name_at (name ++ rest) ≡ Ok (name, rest)
name-again name rest h stop =
    let parts = and_parts (begins is_ascii_alphanumeric name) (list_all is_name_byte name) h in
    rw (begins-append is_ascii_alphanumeric name rest parts.0, run-append is_name_byte name rest parts.1 stop, after_run-append is_name_byte name rest parts.1 stop) refl

qualifier-again : (qualifier : Option (List ℕ)) (rest : List ℕ) → IfSome qualifier (λ q. is_qualifier q ≡ true)
    → begins is_qualifier_byte rest ≡ false → begins (λ b. b == colon) rest ≡ false → qualifier_at (qualifier_text qualifier ++ rest) ≡ Ok (qualifier, rest)
qualifier-again None [] h stop other = refl
qualifier-again None (b ∷ bs) h stop other = rw other refl
qualifier-again (Some q) rest h stop other =
    let parts = and_parts (begins is_qualifier_byte q) (list_all is_qualifier_byte q) h in
    rw (begins-append is_qualifier_byte q rest parts.0, run-append is_qualifier_byte q rest parts.1 stop, after_run-append is_qualifier_byte q rest parts.1 stop) refl

sign-again : (op : Op) (sign rest : List ℕ) → IsSign op sign → begins is_sign_byte rest ≡ false → op_at (sign ++ rest) ≡ Ok (op, rest)
sign-again Lt sign rest e stop = rw e refl
sign-again Le sign rest (inl e) stop = rw e refl
sign-again Le sign [] (inr e) stop = rw e refl
sign-again Le sign (c ∷ cs) (inr e) stop = let parts = not_sign-parts c stop in rw (e, parts.0, parts.1) refl
sign-again Eq sign rest e stop = rw e refl
sign-again Ge sign rest (inl e) stop = rw e refl
sign-again Ge sign [] (inr e) stop = rw e refl
sign-again Ge sign (c ∷ cs) (inr e) stop = let parts = not_sign-parts c stop in rw (e, parts.2, parts.1) refl
sign-again Gt sign rest e stop = rw e refl

sign-not_white : (op : Op) (sign rest : List ℕ) → IsSign op sign → begins is_white (sign ++ rest) ≡ false
sign-not_white Lt sign rest e = rw e refl
sign-not_white Le sign rest (inl e) = rw e refl
sign-not_white Le sign rest (inr e) = rw e refl
sign-not_white Eq sign rest e = rw e refl
sign-not_white Ge sign rest (inl e) = rw e refl
sign-not_white Ge sign rest (inr e) = rw e refl
sign-not_white Gt sign rest e = rw e refl

version-again : (version rest : List ℕ) → fault_of version ≡ None → begins is_version_byte rest ≡ false → version_at (version ++ rest) ≡ Ok (version, rest)
version-again version rest fine stop =
    let all = list_all-wider is_upstream_byte is_version_byte version upstream-is_version (version-bytes version fine).0 in
    rw (run-append is_version_byte version rest all stop, after_run-append is_version_byte version rest all stop, fine) refl

-- a bound's text, grouped to the right
bound-nested : (text : List ℕ) (op : Op) (version : List ℕ) (t : IsBoundText text op version)
    → text ≡ open_parenthesis ∷ (t.before_sign ++ (t.sign ++ (t.after_sign ++ (version ++ (t.after_version ++ (close_parenthesis ∷ t.after))))))
bound-nested text op version t = t.whole ∙ simp append_assoc

-- what stands between the parentheses, and after them
inside-again : (text : List ℕ) (op : Op) (version : List ℕ) (t : IsBoundText text op version)
    → inside_at (t.before_sign ++ (t.sign ++ (t.after_sign ++ (version ++ (t.after_version ++ (close_parenthesis ∷ t.after)))))) ≡ Ok ((op, version), t.after)
unfolding inside_at
inside-again text op version t =
    let closing : List ℕ = close_parenthesis ∷ t.after in
    let bytes = version-bytes version t.is_version in
    let e1 = after_run-append is_white t.before_sign (t.sign ++ (t.after_sign ++ (version ++ (t.after_version ++ closing)))) t.white.0
    (sign-not_white op t.sign (t.after_sign ++ (version ++ (t.after_version ++ closing))) t.is_sign) in
    let not_sign = begins-after is_white is_sign_byte t.after_sign (version ++ (t.after_version ++ closing)) t.white.1 white-not_sign
    (begins-other is_upstream_byte is_sign_byte version (t.after_version ++ closing) bytes.1 upstream-not_sign) in
    let e2 = sign-again op t.sign (t.after_sign ++ (version ++ (t.after_version ++ closing))) t.is_sign not_sign in
    let e3 = after_run-append is_white t.after_sign (version ++ (t.after_version ++ closing)) t.white.1
    (begins-other is_upstream_byte is_white version (t.after_version ++ closing) bytes.1 upstream-not_white) in
    let e4 = version-again version (t.after_version ++ closing) t.is_version (begins-after is_white is_version_byte t.after_version closing t.white.2 white-not_version refl) in
    let e5 = after_run-append is_white t.after_version closing t.white.2 refl in
    rw (e1, e2, e3, e4, e5) refl

bound-again : (text : List ℕ) (bound : Option (Op × List ℕ)) → IsBound text bound → bound_at text ≡ Ok bound
unfolding bound_at
bound-again text None e = rw e refl
bound-again text (Some b) t = rw (bound-nested text b.0 b.1 t, inside-again text b.0 b.1 t, t.white.3) refl

-- what begins a bound is its parenthesis
bound-begins : (p : ℕ → Bool) (text : List ℕ) (bound : Option (Op × List ℕ)) → p open_parenthesis ≡ false → IsBound text bound → begins p text ≡ false
bound-begins p text None other e = rw e refl
bound-begins p text (Some b) other t = rw (bound-nested text b.0 b.1 t) other

-- what stands after a name is no byte of it
qualifier-begins : (qualifier : Option (List ℕ)) (rest : List ℕ) → begins is_name_byte rest ≡ false → begins is_name_byte (qualifier_text qualifier ++ rest) ≡ false
qualifier-begins None rest h = h
qualifier-begins (Some q) rest h = refl

pub atom-again : (piece : List ℕ) (atom : AtomText) → IsAtom piece atom → atom_of piece ≡ Ok atom
unfolding atom_of
atom-again piece atom t =
    let q = atom.qualifier in
    let nested : t.before_name ++ atom.name ++ qualifier_text q ++ t.before_bound ++ t.bound_text
    ≡ t.before_name ++ (atom.name ++ (qualifier_text q ++ (t.before_bound ++ t.bound_text))) = simp append_assoc in
    let tail : List ℕ = t.before_bound ++ t.bound_text in
    let begins_name = (and_parts (begins is_ascii_alphanumeric atom.name) (list_all is_name_byte atom.name) t.is_name).0 in
    let e1 = after_run-append is_white t.before_name (atom.name ++ (qualifier_text q ++ tail)) t.white.0
    (begins-other is_ascii_alphanumeric is_white atom.name (qualifier_text q ++ tail) begins_name alphanumeric-not_white) in
    let named = begins-append is_ascii_alphanumeric atom.name (qualifier_text q ++ tail) begins_name in
    let not_white = begins-other is_ascii_alphanumeric is_white atom.name (qualifier_text q ++ tail) begins_name alphanumeric-not_white in
    let filled = list_all-behind is_white t.before_name (atom.name ++ (qualifier_text q ++ tail))
    (list_all-begins is_white is_ascii_alphanumeric (atom.name ++ (qualifier_text q ++ tail)) named not_white) in
    let stops : (p : ℕ → Bool) → ((b : ℕ) → is_white b ≡ true → p b ≡ false) → p open_parenthesis ≡ false → begins p tail ≡ false =
    λ p white other. begins-after is_white p t.before_bound t.bound_text t.white.1 white (bound-begins p t.bound_text atom.bound other t.is_bound) in
    let e2 = name-again atom.name (qualifier_text q ++ tail) t.is_name (qualifier-begins q tail (stops is_name_byte white-not_name refl)) in
    let e3 = qualifier-again q tail t.is_qualifier (stops is_qualifier_byte white-not_qualifier refl) (stops (λ b. b == colon) white-not_colon refl) in
    let e4 = after_run-append is_white t.before_bound t.bound_text t.white.1 (bound-begins is_white t.bound_text atom.bound refl t.is_bound) in
    let e5 = bound-again t.bound_text atom.bound t.is_bound in
    rw (t.whole, nested, filled, e1, e2, e3, e4, e5) refl
