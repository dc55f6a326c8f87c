-- A piece that reads as an atom has that atom's form.
use Rattle.std.proofs.Common.{◌≡◌, ◌==◌, ℕ, List, [], ◌∷◌, ◌++◌, true, Option, Some, None, Result, Ok, Err, IfSome, refl, sym, ap, ◌∙◌, inl, inr, append_assoc, arith}
use Rattle.std.specs.Prelude.{if◌then◌else◌}
use Rattle.std.proofs.lemmas.Bool.{and_from, cases_Bool}
use Rattle.std.proofs.lemmas.Bool.Decides.{nat_tests}
use Rattle.std.specs.Char.{is_ascii_alphanumeric}
use Rattle.std.specs.List.{list_all}
use Rattle.deb_relation.specs.declared.atom.RelationError.{RelationError}
use Rattle.deb_relation.specs.declared.atom.RelationError.TheVariants.{Trailing}
use Rattle.deb_relation.specs.declared.bound.Op.{Op}
use Rattle.deb_relation.specs.declared.bound.Op.TheVariants.{Lt, Le, Eq, Ge, Gt}
use Rattle.deb_relation.specs.declared.version.VersionError.{VersionError}
use Rattle.deb_relation.specs.Bytes.{close_parenthesis, colon, equals, greater, less, open_parenthesis, after_run, begins, run}
use Rattle.deb_relation.specs.Form.{AtomText, IsAtom, IsBound, IsSign, IsWhite, is_name, is_name_byte, is_qualifier, is_qualifier_byte, is_white, qualifier_text}
use Rattle.deb_relation.specs.Relationship.{◌>>=◌, atom_of, bound_at, close_at, double_or, inside_at, is_blank, is_version_byte, name_at, op_at, qualifier_at, skip, version_at}
use Rattle.deb_relation.specs.VersionText.{fault_of}
use Rattle.deb_relation.proofs.Gather.{bind-ok}
use Rattle.deb_relation.proofs.ByteKinds.{alphanumeric-is_name}
use Rattle.deb_relation.proofs.RunJoins.{run-begins, run-joined, run-passes}

is-byte : (b n : ℕ) → (b == n) ≡ true → b ≡ n
is-byte b n h = grind (arith, nat_tests)

name-takes : (text : List ℕ) (x : List ℕ × List ℕ) → name_at text ≡ Ok x → (is_name x.0 ≡ true) × (text ≡ x.0 ++ x.1)
name-takes text x h = elim (cases_Bool (begins is_ascii_alphanumeric text)) [
  | inl e ↦
      let same : (run is_name_byte text, after_run is_name_byte text) ≡ x = cc (rw e at h) in
      let front = run-begins is_name_byte is_ascii_alphanumeric text e alphanumeric-is_name in
      rw (← same) (and_from (begins is_ascii_alphanumeric (run is_name_byte text)) (list_all is_name_byte (run is_name_byte text)) front (run-passes is_name_byte text), sym (run-joined is_name_byte text))
  | inr e ↦ cc (rw e at h)
]

qualifier-takes : (text : List ℕ) (x : Option (List ℕ) × List ℕ) → qualifier_at text ≡ Ok x
    → IfSome x.0 (λ q. is_qualifier q ≡ true) × (text ≡ qualifier_text x.0 ++ x.1)
qualifier-takes [] x h =
    let none : Option (List ℕ) × List ℕ = (None, []) in
    let same : none ≡ x = cc in
    rw (← same) (tt, refl)
qualifier-takes (b ∷ bs) x h = elim (cases_Bool (b == colon)) [
  | inl e ↦ elim (cases_Bool (begins is_qualifier_byte bs)) [
    | inl f ↦
        let some : Option (List ℕ) × List ℕ = (Some (run is_qualifier_byte bs), after_run is_qualifier_byte bs) in
        let same : some ≡ x = cc (rw (e, f) at h) in
        let front = run-begins is_qualifier_byte is_qualifier_byte bs f (λ b h. h) in
        rw (← same, is-byte b colon e) (
          and_from (begins is_qualifier_byte (run is_qualifier_byte bs)) (list_all is_qualifier_byte (run is_qualifier_byte bs)) front (run-passes is_qualifier_byte bs),
          ap (λ (t : List ℕ). colon ∷ t) (sym (run-joined is_qualifier_byte bs)),
        )
    | inr f ↦ cc (rw (e, f) at h)
  ]
  | inr e ↦
      let none : Option (List ℕ) × List ℕ = (None, b ∷ bs) in
      let same : none ≡ x = cc (rw e at h) in
      rw (← same) (tt, refl)
]

-- an operator, and what comes after it
abbrev Takes : List ℕ → Op × List ℕ → Type 0
Takes text x = (sign : List ℕ) × IsSign x.0 sign × (text ≡ sign ++ x.1)

double-takes : (double single : Op) (b : ℕ) (bs : List ℕ) → IsSign double (b ∷ b ∷ []) → IsSign single (b ∷ equals ∷ []) → IsSign single (b ∷ [])
    → Takes (b ∷ bs) (double_or double single b bs)
double-takes double single b [] two long short = (b ∷ [], short, refl)
double-takes double single b (c ∷ cs) two long short = elim (cases_Bool (c == b)) [
  | inl e ↦ rw (e, is-byte c b e) (b ∷ b ∷ [], two, refl)
  | inr e ↦ elim (cases_Bool (c == equals)) [
    | inl f ↦ rw (e, f, is-byte c equals f) (b ∷ equals ∷ [], long, refl)
    | inr f ↦ rw (e, f) (b ∷ [], short, refl)
  ]
]

op-takes : (text : List ℕ) (x : Op × List ℕ) → op_at text ≡ Ok x → Takes text x
op-takes [] x h = cc
op-takes (b ∷ bs) x h = elim (cases_Bool (b == less)) [
  | inl e ↦
      let same : double_or Lt Le b bs ≡ x = cc (rw e at h) in
      rw (← same, is-byte b less e) (double-takes Lt Le less bs refl (inl refl) (inr refl))
  | inr e ↦ elim (cases_Bool (b == greater)) [
    | inl f ↦
        let same : double_or Gt Ge b bs ≡ x = cc (rw (e, f) at h) in
        rw (← same, is-byte b greater f) (double-takes Gt Ge greater bs refl (inl refl) (inr refl))
    | inr f ↦ elim (cases_Bool (b == equals)) [
      | inl g ↦
          let single : Op × List ℕ = (Eq, bs) in
          let same : single ≡ x = cc (rw (e, f, g) at h) in
          rw (← same, is-byte b equals g) (equals ∷ [], refl, refl)
      | inr g ↦ cc (rw (e, f, g) at h)
    ]
  ]
]

version-takes : (text : List ℕ) (x : List ℕ × List ℕ) → version_at text ≡ Ok x → (fault_of x.0 ≡ None) × (text ≡ x.0 ++ x.1)
version-takes text x h = by (fault_of (run is_version_byte text)) refl
  where
    by : (o : Option VersionError) → fault_of (run is_version_byte text) ≡ o → (fault_of x.0 ≡ None) × (text ≡ x.0 ++ x.1)
    by None e =
        let same : (run is_version_byte text, after_run is_version_byte text) ≡ x = cc (rw e at h) in
        rw (← same) (e, sym (run-joined is_version_byte text))
    by (Some fault) e = cc (rw e at h)

close-takes : (text rest : List ℕ) → close_at text ≡ Ok rest → text ≡ close_parenthesis ∷ rest
close-takes [] rest h = cc
close-takes (b ∷ bs) rest h = elim (cases_Bool (b == close_parenthesis)) [
  | inl e ↦ let same : bs ≡ rest = cc (rw e at h) in rw (is-byte b close_parenthesis e, same) refl
  | inr e ↦ cc (rw e at h)
]

-- white space, and what comes after it
skip-takes : (text : List ℕ) → text ≡ run is_white text ++ skip text
skip-takes text = sym (run-joined is_white text)

-- what stands between the parentheses of a bound, and after them
record Inside (text : List ℕ) (op : Op) (version rest : List ℕ) : Type 0 where
  before_sign : List ℕ
  sign : List ℕ
  after_sign : List ℕ
  after_version : List ℕ
  whole : text ≡ before_sign ++ (sign ++ (after_sign ++ (version ++ (after_version ++ (close_parenthesis ∷ rest)))))
  is_sign : IsSign op sign
  is_version : fault_of version ≡ None
  white : IsWhite before_sign × IsWhite after_sign × IsWhite after_version

abbrev after_version_of : Op → List ℕ × List ℕ → Result ((Op × List ℕ) × List ℕ) RelationError
after_version_of op version = close_at (skip version.1) >>= λ rest. Ok ((op, version.0), rest)

abbrev after_op_of : Op × List ℕ → Result ((Op × List ℕ) × List ℕ) RelationError
after_op_of op = version_at (skip op.1) >>= λ version. after_version_of op.0 version

inside-takes : (text : List ℕ) (y : (Op × List ℕ) × List ℕ) → inside_at text ≡ Ok y → Inside text y.0.0 y.0.1 y.1
unfolding inside_at
inside-takes text y h =
    let at_op = bind-ok (op_at (skip text)) after_op_of y h in
    let op = at_op.0 in
    let at_version = bind-ok (version_at (skip op.1)) (after_version_of op.0) y at_op.2 in
    let version = at_version.0 in
    let at_close = bind-ok (close_at (skip version.1)) (λ (rest : List ℕ). Ok ((op.0, version.0), rest)) y at_version.2 in
    let rest = at_close.0 in
    let same : ((op.0, version.0), rest) ≡ y = cc (at_close.2) in
    let sign = op-takes (skip text) op at_op.1 in
    let fine = version-takes (skip op.1) version at_version.1 in
    let closing = close-takes (skip version.1) rest at_close.1 in
    let end : version.1 ≡ run is_white version.1 ++ (close_parenthesis ∷ rest) = skip-takes version.1 ∙ ap (λ (t : List ℕ). run is_white version.1 ++ t) closing in
    let middle : op.1 ≡ run is_white op.1 ++ (version.0 ++ version.1) = skip-takes op.1 ∙ ap (λ (t : List ℕ). run is_white op.1 ++ t) fine.1 in
    let front : text ≡ run is_white text ++ (sign.0 ++ op.1) = skip-takes text ∙ ap (λ (t : List ℕ). run is_white text ++ t) sign.2 in
    let whole : text ≡ run is_white text ++ (sign.0 ++ (run is_white op.1 ++ (version.0 ++ (run is_white version.1 ++ (close_parenthesis ∷ rest))))) =
    front ∙ ap (λ (t : List ℕ). run is_white text ++ (sign.0 ++ t)) (middle ∙ ap (λ (t : List ℕ). run is_white op.1 ++ (version.0 ++ t)) end) in
    rw (← same) (record {
      before_sign = run is_white text;
      sign = sign.0;
      after_sign = run is_white op.1;
      after_version = run is_white version.1;
      whole = whole;
      is_sign = sign.1;
      is_version = fine.0;
      white = (run-passes is_white text, run-passes is_white op.1, run-passes is_white version.1);
    })

bound-takes : (text : List ℕ) (bound : Option (Op × List ℕ)) → bound_at text ≡ Ok bound → IsBound text bound
unfolding bound_at
bound-takes [] bound h =
    let none : Option (Op × List ℕ) = None in
    let same : none ≡ bound = cc in
    rw (← same) refl
bound-takes (b ∷ bs) bound h = elim (cases_Bool (b == open_parenthesis)) [
  | inl e ↦ within e (bind-ok (inside_at bs) (λ (x : (Op × List ℕ) × List ℕ). if is_blank x.1 then Ok (Some x.0) else Err Trailing) bound (rw e at h))
  | inr e ↦ cc (rw e at h)
]
  where
    within : (b == open_parenthesis) ≡ true
        → (x : (Op × List ℕ) × List ℕ) × (inside_at bs ≡ Ok x) × ((if is_blank x.1 then Ok (Some x.0) else Err Trailing) ≡ Ok bound) → IsBound (b ∷ bs) bound
    within e w = elim (cases_Bool (is_blank w.0.1)) [
      | inl f ↦
          let same : Some w.0.0 ≡ bound = cc (rw f at w.2) in
          let t = inside-takes bs w.0 w.1 in
          rw (← same) (record {
            before_sign = t.before_sign;
            sign = t.sign;
            after_sign = t.after_sign;
            after_version = t.after_version;
            after = w.0.1;
            whole = rw (is-byte b open_parenthesis e) (ap (λ (u : List ℕ). open_parenthesis ∷ u) t.whole ∙ simp append_assoc);
            is_sign = t.is_sign;
            is_version = t.is_version;
            white = (t.white.0, t.white.1, t.white.2, f);
          })
      | inr f ↦ cc (rw f at w.2)
    ]

abbrev after_qualifier_of : List ℕ → Option (List ℕ) × List ℕ → Result AtomText RelationError
after_qualifier_of name qualifier = bound_at (skip qualifier.1) >>= λ bound. Ok (record { name = name; qualifier = qualifier.0; bound = bound })

abbrev after_name_of : List ℕ × List ℕ → Result AtomText RelationError
after_name_of name = qualifier_at name.1 >>= λ qualifier. after_qualifier_of name.0 qualifier

pub atom-takes : (piece : List ℕ) (atom : AtomText) → atom_of piece ≡ Ok atom → IsAtom piece atom
unfolding atom_of
atom-takes piece atom h = elim (cases_Bool (is_blank piece)) [
  | inl e ↦ cc (rw e at h)
  | inr e ↦ named (bind-ok (name_at (skip piece)) after_name_of atom (rw e at h))
]
  where
    named : (x : List ℕ × List ℕ) × (name_at (skip piece) ≡ Ok x) × (after_name_of x ≡ Ok atom) → IsAtom piece atom
    named at_name =
        let name = at_name.0 in
        let at_qualifier = bind-ok (qualifier_at name.1) (after_qualifier_of name.0) atom at_name.2 in
        let qualifier = at_qualifier.0 in
        let at_bound = bind-ok (bound_at (skip qualifier.1)) (λ (bound : Option (Op × List ℕ)). Ok (record { name = name.0; qualifier = qualifier.0; bound = bound })) atom at_qualifier.2 in
        let whole_atom : AtomText = record { name = name.0; qualifier = qualifier.0; bound = at_bound.0 } in
        let same : whole_atom ≡ atom = cc (at_bound.2) in
        let n = name-takes (skip piece) name at_name.1 in
        let q = qualifier-takes name.1 qualifier at_qualifier.1 in
        let b = bound-takes (skip qualifier.1) at_bound.0 at_bound.1 in
        let nested : piece ≡ run is_white piece ++ (name.0 ++ (qualifier_text qualifier.0 ++ (run is_white qualifier.1 ++ skip qualifier.1))) =
        skip-takes piece ∙ ap (λ (t : List ℕ). run is_white piece ++ t) (n.1 ∙ ap (λ (t : List ℕ). name.0 ++ t)
        (q.1 ∙ ap (λ (t : List ℕ). qualifier_text qualifier.0 ++ t) (skip-takes qualifier.1))) in
        rw (← same) (record {
          before_name = run is_white piece;
          before_bound = run is_white qualifier.1;
          bound_text = skip qualifier.1;
          whole = nested ∙ simp append_assoc;
          white = (run-passes is_white piece, run-passes is_white qualifier.1);
          is_name = n.0;
          is_qualifier = q.0;
          is_bound = b;
        })
