-- Where spans are listed, and what a set meets where one variable is turned.
use Rattle.std.proofs.Common.{◌≡◌, ◌≢◌, ℕ, ◌+◌, ◌<◌, ◌≤◌, ◌⊎◌, Bool, true, false, ◌||◌, ◌&&◌, not, cond, eqb, ltb, is_some, IfNone, Vec, Global, Option, Some, None, List, [], ◌∷◌, ◌++◌, map, All, length, get_or, set, take, slice_get, slice_range, refl, sym, ◌∙◌, ap, subst, inl, inr, arith}
use mathlib.Core.Path.{fun_ext}
use Rattle.std.specs.List.{list_all}
use Rattle.std.specs.Option.{option_map_or}
use Rattle.std.proofs.lemmas.Bool.{false≢true, cases_Bool, cases_eq, cases_lt, ltb-true, or_left, or_right, or_cases, eq-eqb, eqb-true, ne_eqb}
use Rattle.std.proofs.lemmas.List.{get_or-set_same, get_or-set_other, get_or_past, length-set, take_all}
use Rattle.std.proofs.lemmas.List.Folds.{list_any_more}
use Rattle.std.proofs.lemmas.List.Elements.{All-nil, All-cons, All-from_get_or}
use Rattle.std.proofs.lemmas.Option.{slice_get-get_or, slice_get_read, slice_get_within, get_or_from_slice_get}
use Rattle.number_sets.specs.Sets.{NumberSet, members_of}
use Rattle.number_sets.proofs.MembersLemmas.{pushed_has, pushed_keeps}
use Rattle.sat_solve.specs.Clauses.{clause_holds, clauses_by, clauses_at, clauses_of, MeetsSpan, no_span}
use Rattle.sat_solve.specs.Reasons.{IsSolution, variables_of}
use Rattle.sat_solve.specs.Rotation.{turned, AreNeeded, MeetsBut, BreaksAlone, IsTrueBut, speaks, HasAt, ListsOn, IsListed}
use Rattle.sat_solve.specs.declared.clause.Lit.{Lit}
use Rattle.sat_solve.specs.declared.clause.Span.{Span}
use Rattle.sat_solve.specs.declared.clause.Problem.{Problem}
use Rattle.sat_solve.proofs.FlatLemmas.{all_flat}
use Rattle.sat_solve.proofs.ExclusionLemmas.{excluded_out, excluded_clear, clear_excluded}
use Rattle.sat_solve.proofs.ReasonLemmas.{clause_same}
use Rattle.sat_solve.proofs.SpanLemmas.{groups_by, span_met}
use Rattle.sat_solve.proofs.MarkLemmas.{there_if_read}

-- whether a span has this owner
abbrev pub owns : Option ℕ → ℕ → Bool
owns held var = option_map_or (λ owner. eqb owner var) held false

-- a span that is pushed to one list
module _ (lists : List (Vec ℕ Global)) (at number : ℕ) (before after : Vec ℕ Global) (read : slice_get lists at ≡ Some before) (pushed : after.items ≡ before.items ++ number ∷ []) where
  there : (list : Vec ℕ Global) → slice_get (set lists at after) at ≡ Some list → after ≡ list
  there list found =
      sym (get_or-set_same lists at after after (slice_get_within lists at before read)) ∙ get_or_from_slice_get (set lists at after) at list after found

  pub pushed_here : HasAt (set lists at after) at number
  pushed_here list found =
      subst (λ (one : Vec ℕ Global). members_of one.items number ≡ true) (there list found)
      (subst (λ items. members_of items number ≡ true) (sym pushed) (pushed_has before.items number))

  pub pushed_on : ListsOn lists (set lists at after)
  pushed_on key k has list found = elim (cases_eq key at) [
    | inl same ↦
        subst (λ (one : Vec ℕ Global). members_of one.items k ≡ true) (there list (ap (slice_get (set lists at after)) (sym same) ∙ found))
        (subst (λ items. members_of items k ≡ true) (sym pushed) (pushed_keeps before.items number k (has before (ap (slice_get lists) same ∙ read))))
    | inr apart ↦
        let within : key < length lists = omega (arith, slice_get_within (set lists at after) key list found, length-set lists at after) in
        let is : get_or lists key after ≡ list = sym (get_or-set_other lists at key after after apart) ∙ get_or_from_slice_get (set lists at after) key list after found in
        has list (slice_get-get_or lists key after within ∙ ap Some is)
  ]

pub none_here : (lists : List (Vec ℕ Global)) (key k : ℕ) → length lists ≤ key → HasAt lists key k
none_here lists key k past list found = absurd (omega (arith, slice_get_within lists key list found))

-- a span depends on the variables of its part and on its owner alone
clear_same : (a b : NumberSet) (owner : ℕ) (part : List Lit) → ((var : ℕ) → variables_of part var ≡ true → a var ≡ b var)
    → list_all (λ literal. eqb literal.var owner || not (a literal.var)) part ≡ list_all (λ literal. eqb literal.var owner || not (b literal.var)) part
clear_same a b owner [] same = refl
clear_same a b owner (literal ∷ rest) same =
    let here : a literal.var ≡ b literal.var = same literal.var (or_left (eqb literal.var literal.var) (variables_of rest literal.var) (eq-eqb literal.var literal.var refl)) in
    let behind = clear_same a b owner rest (λ var named. same var (or_right (eqb literal.var var) (variables_of rest var) named)) in
    ap (λ v. (eqb literal.var owner || not v) && list_all (λ literal. eqb literal.var owner || not (a literal.var)) rest) here
    ∙ ap (λ v. (eqb literal.var owner || not (b literal.var)) && v) behind

meets_by : (a b : NumberSet) (group : ℕ) (owner : Option ℕ) (part : List Lit) → ((var : ℕ) → variables_of part var ≡ true → a var ≡ b var) → ((var : ℕ) → owns owner var ≡ true → a var ≡ b var)
    → All (λ clause. clause_holds a clause.literals ≡ true) (clauses_by group owner part) → All (λ clause. clause_holds b clause.literals ≡ true) (clauses_by group owner part)
meets_by a b group None part same own all =
    All-cons (λ clause. clause_holds b clause.literals ≡ true) (record { group = group; literals = part }) []
    (sym (clause_same a b part same) ∙ all 0 (record { group = group; literals = part }) (omega arith))
    (All-nil (λ clause. clause_holds b clause.literals ≡ true))
meets_by a b group (Some owner) part same own all = elim (cases_Bool (a owner)) [
  | inl is ↦ excluded_clear b group owner part (sym (clear_same a b owner part same) ∙ clear_excluded a group owner part is all)
  | inr out ↦ excluded_out b group owner (map (λ literal. literal.var) part) (sym (own owner (eq-eqb owner owner refl)) ∙ out)
]

-- two sets that agree on what a span speaks of
pub span_same : (problem : Problem) (a b : NumberSet) (span : Span) → ((var : ℕ) → speaks problem span var ≡ true → a var ≡ b var) → MeetsSpan a problem.literals.now span → MeetsSpan b problem.literals.now span
span_same problem a b span same =
    let part : List Lit = slice_range problem.literals.now span.start span.end in
    meets_by a b span.group span.owner part
    (λ var named. same var (or_left (variables_of part var) (owns span.owner var || eqb (problem.vars + span.group) var) named))
    (λ var own. same var (or_right (variables_of part var) (owns span.owner var || eqb (problem.vars + span.group) var) (or_left (owns span.owner var) (eqb (problem.vars + span.group) var) own)))

turned_other : (inside : List Bool) (turn var : ℕ) → var ≢ turn → get_or inside var false ≡ turned inside turn var
turned_other inside turn var apart = sym (ap (λ b. cond b (not (get_or inside var true)) (get_or inside var false)) (ne_eqb var turn apart))

-- a turned variable breaks no group but this one, if it does so neither where it is spoken of, nor in the group that was broken
module _ (problem : Problem) (inside : List Bool) (turn group to : ℕ) (lists : List (Vec ℕ Global)) (spoken broken : Vec ℕ Global) where
  pub turned_meets : ((k : ℕ) → MeetsBut problem (λ var. get_or inside var false) group k) → ((k : ℕ) → k < length problem.spans.now → IsListed problem lists k)
      → slice_get lists turn ≡ Some spoken → slice_get lists (problem.vars + group) ≡ Some broken
      → ((k : ℕ) → members_of spoken.items k ≡ true → MeetsBut problem (turned inside turn) to k)
      → ((k : ℕ) → members_of broken.items k ≡ true → MeetsBut problem (turned inside turn) to k)
      → (k : ℕ) → MeetsBut problem (turned inside turn) to k
  turned_meets before listed read_spoken read_broken at_spoken at_broken k below kept other =
      let span : Span = get_or problem.spans.now k no_span in
      let part : List Lit = slice_range problem.literals.now span.start span.end in
      elim (cases_Bool (speaks problem span turn)) [
        | inl named ↦ at_spoken k (listed k below turn named spoken read_spoken) below kept other
        | inr unnamed ↦ elim (cases_eq span.group group) [
          | inl same ↦
              let of_group : eqb (problem.vars + span.group) (problem.vars + group) ≡ true = eq-eqb (problem.vars + span.group) (problem.vars + group) (ap (λ g. problem.vars + g) same) in
              at_broken k (listed k below (problem.vars + group)
              (or_right (variables_of part (problem.vars + group)) (owns span.owner (problem.vars + group) || eqb (problem.vars + span.group) (problem.vars + group))
              (or_right (owns span.owner (problem.vars + group)) (eqb (problem.vars + span.group) (problem.vars + group)) of_group)) broken read_broken) below kept other
          | inr apart ↦
              span_same problem (λ var. get_or inside var false) (turned inside turn) span
              (λ var named. turned_other inside turn var (λ same. false≢true (sym unnamed ∙ subst (λ v. speaks problem span v ≡ true) same named)))
              (before k below kept apart)
        ]
      ]

  -- so the set that has it turned breaks this one alone
  pub turned_breaks : BreaksAlone problem inside group → turn ≢ problem.must → turn < problem.vars → ((k : ℕ) → MeetsBut problem (turned inside turn) to k)
      → BreaksAlone problem (set inside turn (not (get_or inside turn true))) to
  turned_breaks alone free below met =
      let after : List Bool = set inside turn (not (get_or inside turn true)) in
      let same : (var : ℕ) → turned inside turn var ≡ get_or after var false = λ var. elim (cases_eq var turn) [
        | inl is ↦
            subst (λ v. turned inside turn v ≡ get_or after v false) (sym is)
            (ap (λ b. cond b (not (get_or inside turn true)) (get_or inside turn false)) (eq-eqb turn turn refl)
            ∙ sym (get_or-set_same inside turn (not (get_or inside turn true)) false (omega (arith, alone.sized))))
        | inr apart ↦ sym (turned_other inside turn var apart) ∙ sym (get_or-set_other inside turn var (not (get_or inside turn true)) false apart)
      ] in
      record {
        sized = length-set inside turn (not (get_or inside turn true)) ∙ alone.sized;
        has_must = get_or-set_other inside turn problem.must (not (get_or inside turn true)) false (λ is. free (sym is)) ∙ alone.has_must;
        met = λ k below kept other. span_same problem (turned inside turn) (λ var. get_or after var false) (get_or problem.spans.now k no_span) (λ var named. same var) (met k below kept other);
      }

-- a set with nothing turned
pub unturned : (inside : List Bool) (var : ℕ) → turned inside (length inside) var ≡ get_or inside var false
unturned inside var = elim (cases_eq var (length inside)) [
  | inl is ↦
      subst (λ v. turned inside (length inside) v ≡ get_or inside v false) (sym is)
      (ap (λ b. cond b (not (get_or inside (length inside) true)) (get_or inside (length inside) false)) (eq-eqb (length inside) (length inside) refl)
      ∙ (ap not (get_or_past inside (length inside) true (omega arith)) ∙ sym (get_or_past inside (length inside) false (omega arith))))
  | inr apart ↦ sym (turned_other inside (length inside) var apart)
]

-- a set that breaks a group alone meets all clauses but those of it
pub breaks_but : (problem : Problem) (inside : List Bool) (group : ℕ) → BreaksAlone problem inside group
    → IsTrueBut problem.vars (clauses_of problem.literals.now problem.spans.now) problem.keep.now problem.must group (λ var. get_or inside var false)
breaks_but problem inside group alone = record {
  within = λ var is. elim (cases_lt var (length inside)) [
    | inl below ↦ omega (arith, alone.sized)
    | inr past ↦ absurd (false≢true (sym (get_or_past inside var false past) ∙ is))
  ];
  has_must = alone.has_must;
  meets =
      all_flat (λ clause. slice_get problem.keep.now clause.group ≡ Some true → clause.group ≢ group → clause_holds (λ var. get_or inside var false) clause.literals ≡ true) (clauses_at problem.literals.now) problem.spans.now
      (All-from_get_or (λ span. All (λ clause. slice_get problem.keep.now clause.group ≡ Some true → clause.group ≢ group → clause_holds (λ var. get_or inside var false) clause.literals ≡ true) (clauses_at problem.literals.now span)) problem.spans.now no_span
      (λ i below k e within found other.
      let span : Span = get_or problem.spans.now i no_span in
      let same = groups_by span.group span.owner (slice_range problem.literals.now span.start span.end) k e within in
      alone.met i below (get_or_from_slice_get problem.keep.now _ true false (sym (ap (slice_get problem.keep.now) same) ∙ found)) (λ is. other (same ∙ is)) k e within));
}

-- what was listed stays listed by two pushes
pub on_further : (first next last : List (Vec ℕ Global)) → ListsOn first next → ListsOn next last → ListsOn first last
on_further first next last some more key k has = more key k (some key k has)

-- a span is listed at one literal more
pub listed_more : (before after : List (Vec ℕ Global)) (literals : List Lit) (i number : ℕ) (d : Lit) → i < length literals → ((key : ℕ) → variables_of (take i literals) key ≡ true → HasAt before key number)
    → ListsOn before after → HasAt after (get_or literals i d).var number → (key : ℕ) → variables_of (take (i + 1) literals) key ≡ true → HasAt after key number
listed_more before after literals i number d below so_far on here key named =
    elim (or_cases (variables_of (take i literals) key) (eqb (get_or literals i d).var key) (sym (list_any_more (λ literal. eqb literal.var key) literals i d below) ∙ named)) [
      | inl old ↦ on key number (so_far key old)
      | inr new_one ↦ subst (λ k. HasAt after k number) (eqb-true (get_or literals i d).var key new_one) here
    ]

pub listed_all : (after : List (Vec ℕ Global)) (literals : List Lit) (i number : ℕ) → length literals ≤ i → ((key : ℕ) → variables_of (take i literals) key ≡ true → HasAt after key number) → (key : ℕ) → variables_of literals key ≡ true → HasAt after key number
listed_all after literals i number past so_far key named = so_far key (ap (λ part. variables_of part key) (take_all i literals past) ∙ named)

-- a span is listed at all that it speaks of
pub listed_span : (problem : Problem) (lists : List (Vec ℕ Global)) (k : ℕ) (span : Span) → span ≡ get_or problem.spans.now k no_span
    → ((key : ℕ) → variables_of (slice_range problem.literals.now span.start span.end) key ≡ true → HasAt lists key k) → ((key : ℕ) → owns span.owner key ≡ true → HasAt lists key k) → HasAt lists (problem.vars + span.group) k
    → IsListed problem lists k
listed_span problem lists k span is at_literals at_owner at_group key spoken =
    let here : speaks problem span key ≡ true = ap (λ one. speaks problem one key) is ∙ spoken in
    let part : List Lit = slice_range problem.literals.now span.start span.end in
    elim (or_cases (variables_of part key) (owns span.owner key || eqb (problem.vars + span.group) key) here) [
      | inl named ↦ at_literals key named
      | inr other ↦ elim (or_cases (owns span.owner key) (eqb (problem.vars + span.group) key) other) [
        | inl own ↦ at_owner key own
        | inr group ↦ subst (λ n. HasAt lists n k) (eqb-true (problem.vars + span.group) key group) at_group
      ]
    ]

pub owner_key : (held : Option ℕ) (owner key : ℕ) → held ≡ Some owner → owns held key ≡ true → owner ≡ key
owner_key held owner key is own = eqb-true owner key (subst (λ one. owns one key ≡ true) is own)

pub none_owns : (held : Option ℕ) (key : ℕ) → held ≡ None → owns held key ≡ true → ⊥
none_owns held key is own = false≢true (subst (λ one. owns one key ≡ true) is own)

-- what was looked up and isn't there
pub if_none : {T : Type 0} (found : Option T) (some : Bool) (P : Type 0) → some ≡ is_some found → some ≡ false → IfNone found P → P
if_none (Some x) some P is none holds = absurd (false≢true (sym none ∙ is))
if_none None some P is none holds = holds

-- a list that was looked up stands there
pub looked_up : (lists slice : List (Vec ℕ Global)) (key : ℕ) (list : Vec ℕ Global) → slice ≡ lists → true ≡ ltb key (length slice) → list ≡ get_or slice key list → slice_get lists key ≡ Some list
looked_up lists slice key list same within found =
    subst (λ (one : List (Vec ℕ Global)). slice_get one key ≡ Some list) same
    (slice_get_read slice (length slice) key list refl (ltb-true key (length slice) (sym within)) found)

-- a set with nothing turned that meets all spans but those of a group
pub untouched : (problem : Problem) (inside : List Bool) (group : ℕ) → length inside ≡ problem.vars → turned inside problem.vars problem.must ≡ true → ((k : ℕ) → MeetsBut problem (turned inside problem.vars) group k)
    → BreaksAlone problem inside group
untouched problem inside group sized has met =
    let same : (var : ℕ) → turned inside problem.vars var ≡ get_or inside var false = λ var. subst (λ n. turned inside n var ≡ get_or inside var false) sized (unturned inside var) in
    record {
      sized = sized;
      has_must = sym (same problem.must) ∙ has;
      met = λ k below kept other. span_same problem (turned inside problem.vars) (λ var. get_or inside var false) (get_or problem.spans.now k no_span) (λ var named. same var) (met k below kept other);
    }

-- one group more is marked
pub marked_more : (problem : Problem) (inside : List Bool) (old new : List Bool) (group : ℕ) → BreaksAlone problem inside group
    → AreNeeded problem.vars (clauses_of problem.literals.now problem.spans.now) problem.keep.now problem.must old
    → ((other : ℕ) → slice_get new other ≡ Some true → (slice_get old other ≡ Some true) ⊎ (other ≡ group))
    → AreNeeded problem.vars (clauses_of problem.literals.now problem.spans.now) problem.keep.now problem.must new
marked_more problem inside old new group alone needed marked other is = elim (marked other is) [
  | inl before ↦ needed other before
  | inr same ↦
      subst (λ g. (set : NumberSet) × IsTrueBut problem.vars (clauses_of problem.literals.now problem.spans.now) problem.keep.now problem.must g set) (sym same)
      ((λ var. get_or inside var false), breaks_but problem inside group alone)
]

-- what is marked then was, or is the one that was marked now
pub marked_or : (old new : List Bool) (group : ℕ) → new ≡ set old group true → (other : ℕ) → slice_get new other ≡ Some true → (slice_get old other ≡ Some true) ⊎ (other ≡ group)
marked_or old new group same other found = elim (cases_eq other group) [
  | inl is ↦ inr is
  | inr apart ↦ inl (there_if_read old other (sym (get_or-set_other old group other true false apart) ∙ get_or_from_slice_get (set old group true) other true false (sym (ap (λ marks. slice_get marks other) same) ∙ found)))
]

-- none of these is marked
pub none_marked : (marks : List Bool) → ((k : ℕ) → k < length marks → get_or marks k false ≡ false) → (group : ℕ) → slice_get marks group ≡ Some true → ⊥
none_marked marks none group is = false≢true (sym (none group (slice_get_within marks group true is)) ∙ get_or_from_slice_get marks group true false is)

-- what is met where this one is turned
pub same_turned : (problem : Problem) (a b : List Bool) (v w group : ℕ) (P : ℕ → Type 0) → a ≡ b → v ≡ w → ((k : ℕ) → P k → MeetsBut problem (turned a v) group k) → (k : ℕ) → P k → MeetsBut problem (turned b w) group k
same_turned problem a b v w group P same at met =
    subst (λ (inside : List Bool). (k : ℕ) → P k → MeetsBut problem (turned inside w) group k) same
    (subst (λ (var : ℕ). (k : ℕ) → P k → MeetsBut problem (turned a var) group k) at met)

-- a group that is kept is one
no_group : (keep : List Bool) (group : ℕ) → slice_get keep group ≡ Some true → group ≡ length keep → ⊥
no_group keep group found past = omega (arith, slice_get_within keep group true found)

-- where it was put down of each variable whether it is in a set
module _ (problem : Problem) (inside : List Bool) (members : NumberSet) (sized : length inside ≡ problem.vars) (same : (var : ℕ) → get_or inside var false ≡ members var) where
  put_down : turned inside problem.vars ≡ members
  put_down = fun_ext (λ var. subst (λ n. turned inside n var ≡ get_or inside var false) sized (unturned inside var) ∙ same var)

  -- the set that meets all spans, but for a group that is none, is one that the problem asks for
  pub solved : turned inside problem.vars problem.must ≡ true → ((k : ℕ) → MeetsBut problem (turned inside problem.vars) (length problem.keep.now) k) → IsSolution problem members
  solved has met =
      let whole = breaks_but problem inside (length problem.keep.now) (untouched problem inside (length problem.keep.now) sized has met) in
      subst (IsSolution problem) (fun_ext same) (record {
        within = whole.within;
        has_must = whole.has_must;
        meets = λ i clause below found. whole.meets i clause below found (no_group problem.keep.now _ found);
      })

  pub unsolved : turned inside problem.vars problem.must ≡ false → IsSolution problem members → ⊥
  unsolved out solution = false≢true (sym out ∙ (ap (λ (set : NumberSet). set problem.must) put_down ∙ solution.has_must))

  pub meets_each : IsSolution problem members → (k : ℕ) → MeetsBut problem (turned inside problem.vars) (length problem.keep.now) k
  meets_each solution k below kept other =
      subst (λ set. MeetsSpan set problem.literals.now (get_or problem.spans.now k no_span)) (sym put_down)
      (span_met problem.vars (length problem.keep.now) problem.literals.now problem.spans.now problem.clauses k no_span below problem.keep.now members refl kept solution.meets)
