-- Conflict analysis: the walk back over the trail from a conflict to the clause that it teaches.
use Rattle.std.proofs.Common.{◌≡◌, ◌≢◌, ℕ, zero, suc, ◌+◌, ◌-◌, ◌<◌, ◌≤◌, Bool, true, false, ◌||◌, eqb, Option, Some, None, List, [], ◌∷◌, ◌++◌, reverse, length, get_or, set, take, drop, refl, sym, ◌∙◌, ap, subst, inl, inr, arith, length-take, get_or-set_same, get_or-set_other}
use Rattle.std.proofs.Math.Bool.{or-false}
use Rattle.std.proofs.lemmas.Bool.{false≢true, cases_lt, cases_eq, ne_eqb, or_cases, or_from}
use Rattle.std.proofs.lemmas.Bool.Decides.{eqb_tells}
use Rattle.std.proofs.lemmas.List.{take_more, take_all, take-take, take-append-drop, drop_more, reverse-append, get_or_default, get_or-take, length-set, get_or_past}
use Rattle.std.specs.List.{list_any}
use Rattle.std.proofs.lemmas.List.Folds.{list_any_more}
use Rattle.number_sets.specs.Sets.{NumberSet}
use Rattle.sat_solve.specs.Clauses.{clause_holds, literal_holds}
use Rattle.sat_solve.specs.Trail.{value_in, is_decided, AllFresh, IsSound, IsLinked, Agrees, ComesDownTo}
use Rattle.sat_solve.specs.Reasons.{FailsOn, AreReasoned, SeesAll, is_seen}
use Rattle.sat_solve.specs.Jumps.{denied, IsAt, AreDenied, IsCut, IsJump, IsTaken}
use Rattle.sat_solve.specs.declared.clause.Lit.{Lit}
use Rattle.sat_solve.specs.declared.trail.Step.{Step}
use Rattle.sat_solve.specs.declared.trail.Reason.{Reason}
use Rattle.sat_solve.specs.declared.trail.Reason.TheVariants.{Decision}
use Rattle.sat_solve.proofs.TrailLemmas.{value_in_newest, value_in_older, value_in_kept}
use Rattle.sat_solve.proofs.ValueLemmas.{set_in_range}
use Rattle.sat_solve.proofs.WalkLemmas.{Leaves, denied_by, walk_forced, walk_taken, walk_unmarked}

abbrev no_step : Step
no_step = record { var = 0; value = false; reason = Decision }

abbrev some_at : List Step → ℕ → Step
some_at trail i = get_or trail i no_step

ahead : (trail : List Step) (i : ℕ) (step : Step) → IsAt trail i step → reverse (take (i + 1) trail) ≡ step ∷ reverse (take i trail)
ahead trail i step at = ap reverse (take_more trail i step at.0) ∙ (reverse-append (take i trail) (get_or trail i step ∷ []) ∙ ap (λ s. s ∷ reverse (take i trail)) at.1)

-- a walk over a trail, whose newest step stands last, has come down to this place
-- the trail is sound for the sets with P, its steps rest on what backs their reasons, and the walk leaves the clause to the sets with M
pub record WalkedTo (P M : NumberSet → Type 0) (backs : Reason → NumberSet → Type 0) (named : Reason → NumberSet) (trail : List Step) (left : ℕ) (marks : List Bool) (clause : List Lit) : Type 0 where
  pub inside : left ≤ length trail
  pub sound : IsSound P (reverse (take left trail))
  pub reasoned : AreReasoned backs named (reverse (take left trail))
  pub leaves : Leaves M (reverse (take left trail)) (is_seen marks) clause

module _ (P M : NumberSet → Type 0) (backs : Reason → NumberSet → Type 0) (named : Reason → NumberSet) (trail : List Step) where
  pub walk_begins : (F : NumberSet → Type 0) (marks : List Bool) (conflict : NumberSet) → ((set : NumberSet) → M set → F set) → IsSound P (reverse trail) → AreReasoned backs named (reverse trail) → FailsOn F (reverse trail) conflict → ((var : ℕ) → conflict var ≡ true → is_seen marks var ≡ true) → WalkedTo P M backs named trail (length trail) marks []
  walk_begins F marks conflict fewer sound reasoned fails marked =
      let all : trail ≡ take (length trail) trail = sym (take_all (length trail) trail (omega arith)) in
      record {
        inside = omega arith;
        sound = subst (λ part. IsSound P (reverse part)) all sound;
        reasoned = subst (λ part. AreReasoned backs named (reverse part)) all reasoned;
        leaves = subst (λ part. Leaves M (reverse part) (is_seen marks) []) all (λ set holds agrees. absurd (fails set (fewer set holds) (λ var value mark there. agrees var value (marked var mark) there)));
      }

  pub walk_ends : (marks : List Bool) (clause : List Lit) → WalkedTo P M backs named trail 0 marks clause → (set : NumberSet) → M set → clause_holds set clause ≡ true
  walk_ends marks clause walked set holds = walked.leaves set holds (λ var value mark there. cc)

  module _ (i : ℕ) (step : Step) (below : i < length trail) (at : get_or trail i step ≡ step) where
    module _ (left : ℕ) (marks : List Bool) (clause : List Lit) (next : left ≡ i + 1) (walked : WalkedTo P M backs named trail left marks clause) where
      there : WalkedTo P M backs named trail (i + 1) marks clause
      there = subst (λ n. WalkedTo P M backs named trail n marks clause) next walked

      sound_at : IsSound P (step ∷ reverse (take i trail))
      sound_at = subst (IsSound P) (ahead trail i step (below, at)) there.sound

      reasoned_at : AreReasoned backs named (step ∷ reverse (take i trail))
      reasoned_at = subst (AreReasoned backs named) (ahead trail i step (below, at)) there.reasoned

      leaves_at : Leaves M (step ∷ reverse (take i trail)) (is_seen marks) clause
      leaves_at = subst (λ steps. Leaves M steps (is_seen marks) clause) (ahead trail i step (below, at)) there.leaves

      pub walked_by : is_seen marks step.var ≡ false → WalkedTo P M backs named trail i marks clause
      walked_by unmarked = record {
        inside = omega arith;
        sound = sound_at.1;
        reasoned = reasoned_at.1;
        leaves = walk_unmarked M step (reverse (take i trail)) (is_seen marks) clause unmarked leaves_at;
      }

      walked_taken : WalkedTo P M backs named trail i marks (clause ++ denied step ∷ [])
      walked_taken = record {
        inside = omega arith;
        sound = sound_at.1;
        reasoned = reasoned_at.1;
        leaves = walk_taken M step (reverse (take i trail)) (is_seen marks) clause leaves_at;
      }

      pub walked_forced : (N : NumberSet → Type 0) (more : List Bool) → ((set : NumberSet) → N set → M set) → ((set : NumberSet) → N set → backs step.reason set) → is_decided step ≡ false → ((var : ℕ) → is_seen marks var ≡ true → is_seen more var ≡ true) → ((var : ℕ) → named step.reason var ≡ true → is_seen more var ≡ true) → WalkedTo P N backs named trail i more clause
      walked_forced N more fewer backed forced kept names = record {
        inside = omega arith;
        sound = sound_at.1;
        reasoned = reasoned_at.1;
        leaves = walk_forced M step (reverse (take i trail)) N (backs step.reason) (is_seen marks) (is_seen more) (named step.reason) clause fewer backed (reasoned_at.0 forced) kept names leaves_at;
      }

  -- steps that are not seen are passed over
  walked_past : (marks : List Bool) (clause : List Lit) (start more : ℕ) → ((other : ℕ) (step : Step) → start ≤ other → other < start + more → IsAt trail other step → is_seen marks step.var ≡ false) → WalkedTo P M backs named trail (start + more) marks clause → WalkedTo P M backs named trail start marks clause
  walked_past marks clause start zero alone walked = let same : start + 0 ≡ start = omega arith in subst (λ n. WalkedTo P M backs named trail n marks clause) same walked
  walked_past marks clause start (suc more) alone walked =
      let next : start + suc more ≡ start + more + 1 = omega arith in
      let below : start + more < length trail = omega (arith, walked.inside) in
      let at : IsAt trail (start + more) (some_at trail (start + more)) = (below, get_or_default trail (start + more) (some_at trail (start + more)) no_step below) in
      walked_past marks clause start more (λ other step from to is. alone other step from (omega arith) is)
      (walked_by (start + more) (some_at trail (start + more)) below at.1 (start + suc more) marks clause next walked (alone (start + more) (some_at trail (start + more)) (omega arith) (omega arith) at))

  -- the literal of a seen step is taken, and the walk goes on where that says
  pub walked_on : (i : ℕ) (step : Step) → i < length trail → get_or trail i step ≡ step → (left : ℕ) (marks : List Bool) (clause : List Lit) → left ≡ i + 1 → WalkedTo P M backs named trail left marks clause → (target start cut : ℕ) → IsTaken trail marks clause target i (Some (start, cut)) → WalkedTo P M backs named trail start marks (clause ++ denied step ∷ [])
  walked_on i step below at left marks [] next walked target start cut taken =
      let more : i ≡ start + (i - start) = omega (arith, taken.0.before) in
      walked_past marks (denied step ∷ []) start (i - start) (λ other passed from to is. taken.0.alone other passed from (omega (arith, taken.0.before)) is)
      (subst (λ n. WalkedTo P M backs named trail n marks (denied step ∷ [])) more (walked_taken i step below at left marks [] next walked))
  walked_on i step below at left marks (first ∷ rest) next walked target start cut taken =
      subst (λ n. WalkedTo P M backs named trail n marks ((first ∷ rest) ++ denied step ∷ [])) (sym taken.0) (walked_taken i step below at left marks (first ∷ rest) next walked)

-- steps are walked past, and the literal of one of them is taken
denied_more : (rest : List Lit) (steps : List Step) (step : Step) → AreDenied rest steps → AreDenied rest (steps ++ step ∷ [])
denied_more [] steps step fail = tt
denied_more (literal ∷ rest) [] step fail = absurd fail
denied_more (literal ∷ rest) (first ∷ older) step (inl here) = inl (here.0, denied_more rest older step here.1)
denied_more (literal ∷ rest) (first ∷ older) step (inr later) = inr (denied_more (literal ∷ rest) older step later)

denied_push : (rest : List Lit) (steps : List Step) (step : Step) → AreDenied rest steps → AreDenied (rest ++ denied step ∷ []) (steps ++ step ∷ [])
denied_push [] [] step fail = inl (refl, tt)
denied_push [] (first ∷ older) step fail = inr (denied_push [] older step tt)
denied_push (literal ∷ rest) [] step fail = absurd fail
denied_push (literal ∷ rest) (first ∷ older) step (inl here) = inl (here.0, denied_push rest older step here.1)
denied_push (literal ∷ rest) (first ∷ older) step (inr later) = inr (denied_push (literal ∷ rest) older step later)

-- literals that are denied fail
pub denied_fail : (rest : List Lit) (steps : List Step) (set : NumberSet) → AllFresh steps → AreDenied rest steps → Agrees steps set → clause_holds set rest ≡ false
denied_fail [] steps set fresh fail agrees = refl
denied_fail (literal ∷ rest) [] set fresh fail agrees = absurd fail
denied_fail (literal ∷ rest) (step ∷ older) set fresh (inl here) agrees =
    let is : set step.var ≡ step.value = agrees step.var step.value (value_in_newest step older step.var refl) in
    let fails : literal_holds set literal ≡ false = ap (literal_holds set) here.0 ∙ denied_by (set step.var) step.value is in
    or_from (literal_holds set literal) (clause_holds set rest) fails (denied_fail rest older set fresh.1 here.1 (λ var value found. agrees var value (value_in_kept step older var value fresh.0 found)))
denied_fail (literal ∷ rest) (step ∷ older) set fresh (inr later) agrees =
    denied_fail (literal ∷ rest) older set fresh.1 later (λ var value found. agrees var value (value_in_kept step older var value fresh.0 found))

-- so a clause comes down to its first literal where that is free
pub comes_down : (vars : ℕ) (steps : List Step) (first : Lit) (rest : List Lit) → AllFresh steps → first.var < vars → value_in steps first.var ≡ None → AreDenied rest steps → ComesDownTo vars steps (first ∷ rest) (Some first)
comes_down vars steps first rest fresh ranged free fail = (
  ranged,
  free,
  λ set agrees. ap (λ b. literal_holds set first || b) (denied_fail rest steps set fresh fail agrees) ∙ or-false (literal_holds set first),
)

-- what is fresh is so without the newest steps
fresh_back : (newer older : List Step) → AllFresh (newer ++ older) → AllFresh older
fresh_back [] older fresh = fresh
fresh_back (step ∷ newer) older fresh = fresh_back newer older fresh.1

free_back : (newer older : List Step) (var : ℕ) → AllFresh (newer ++ older) → value_in (newer ++ older) var ≡ None → value_in older var ≡ None
free_back [] older var fresh free = free
free_back (step ∷ newer) older var fresh free =
    let other : step.var ≢ var = λ (same : step.var ≡ var). let clash : Some step.value ≡ None = sym (value_in_newest step (newer ++ older) var same) ∙ free in cc in
    free_back newer older var fresh.1 (sym (value_in_older step (newer ++ older) var other) ∙ free)

value_back : (newer older : List Step) (var : ℕ) (value : Bool) → AllFresh (newer ++ older) → value_in older var ≡ Some value → value_in (newer ++ older) var ≡ Some value
value_back [] older var value fresh found = found
value_back (step ∷ newer) older var value fresh found = value_in_kept step (newer ++ older) var value fresh.0 (value_back newer older var value fresh.1 found)

-- a trail is what is newer than a place, and the rest
parted : (trail : List Step) (count : ℕ) → reverse (drop count trail) ++ reverse (take count trail) ≡ reverse trail
parted trail count = sym (reverse-append (take count trail) (drop count trail)) ∙ ap reverse (take-append-drop count trail)

module _ (trail : List Step) (fresh : AllFresh (reverse trail)) where
  fresh_to : (count : ℕ) → AllFresh (reverse (take count trail))
  fresh_to count = fresh_back (reverse (drop count trail)) (reverse (take count trail)) (subst AllFresh (sym (parted trail count)) fresh)

  parted_to : (place count : ℕ) → place ≤ count → reverse (drop place (take count trail)) ++ reverse (take place trail) ≡ reverse (take count trail)
  parted_to place count less = ap (λ part. reverse (drop place (take count trail)) ++ reverse part) (sym (take-take place count trail less)) ∙ parted (take count trail) place

  -- what is free is so with fewer steps, and what stands on a trail is free before it
  free_sooner : (place count var : ℕ) → place ≤ count → value_in (reverse (take count trail)) var ≡ None → value_in (reverse (take place trail)) var ≡ None
  free_sooner place count var less free =
      free_back (reverse (drop place (take count trail))) (reverse (take place trail)) var (subst AllFresh (sym (parted_to place count less)) (fresh_to count)) (ap (λ steps. value_in steps var) (parted_to place count less) ∙ free)

  free_before : (i place : ℕ) (step : Step) → IsAt trail i step → place ≤ i → value_in (reverse (take place trail)) step.var ≡ None
  free_before i place step at less =
      let now : AllFresh (step ∷ reverse (take i trail)) = subst AllFresh (ahead trail i step at) (fresh_to (i + 1)) in
      free_sooner place i step.var less now.0

  -- what stands on a trail has its value, and so it is in range
  pub step_in_range : (vars : ℕ) (values : List (Option Bool)) (i : ℕ) (step : Step) → IsLinked vars values (reverse trail) → IsAt trail i step → step.var < vars
  step_in_range vars values i step linked at =
      let here : value_in (reverse (take (i + 1) trail)) step.var ≡ Some step.value = ap (λ steps. value_in steps step.var) (ahead trail i step at) ∙ value_in_newest step (reverse (take i trail)) step.var refl in
      let found : value_in (reverse trail) step.var ≡ Some step.value =
      ap (λ steps. value_in steps step.var) (sym (parted trail (i + 1)))
      ∙ value_back (reverse (drop (i + 1) trail)) (reverse (take (i + 1) trail)) step.var step.value (subst AllFresh (sym (parted trail (i + 1))) fresh) here in
      set_in_range vars values (reverse trail) step.var step.value linked found

  module _ (i : ℕ) (step : Step) (at : IsAt trail i step) where
    behind : (place : ℕ) → i < place → place < length trail → reverse (drop i (take place trail)) ≡ reverse (drop (i + 1) (take place trail)) ++ step ∷ []
    behind place before inside =
        let within : i < length (take place trail) = omega (arith, length-take place trail) in
        let read : get_or (take place trail) i step ≡ step = get_or-take place trail i step before ∙ at.1 in
        ap reverse (drop_more (take place trail) i step within)
        ∙ (reverse-append (get_or (take place trail) i step ∷ []) (drop (i + 1) (take place trail)) ∙ ap (λ s. reverse (drop (i + 1) (take place trail)) ++ s ∷ []) read)

    -- the literal is taken
    pub jump_taken : (marks : List Bool) (clause : List Lit) (target start cut : ℕ) → IsTaken trail marks clause target i (Some (start, cut)) → IsJump trail (i + 1) target clause → IsJump trail start cut (clause ++ denied step ∷ [])
    jump_taken marks [] target start cut taken jump =
        let here : IsCut trail start start (denied step) [] =
        record {
          decision = taken.0.decision;
          at = taken.0.at;
          decided = taken.0.decided;
          before = omega arith;
          free = free_before i start step at taken.0.before;
          fail = tt;
        } in
        subst (λ n. IsCut trail start n (denied step) []) (sym taken.1) here
    jump_taken marks (first ∷ rest) target start cut taken jump =
        let before : i < target = omega (arith, jump.before) in
        let here : IsCut trail i target first (rest ++ denied step ∷ []) =
        record {
          decision = jump.decision;
          at = jump.at;
          decided = jump.decided;
          before = omega arith;
          free = jump.free;
          fail = subst (AreDenied (rest ++ denied step ∷ [])) (sym (behind target before jump.at.0)) (denied_push rest (reverse (drop (i + 1) (take target trail))) step jump.fail);
        } in
        subst (λ n. IsCut trail n cut first (rest ++ denied step ∷ [])) (sym taken.0) (subst (λ n. IsCut trail i n first (rest ++ denied step ∷ [])) (sym taken.1) here)

    -- none is taken
    pub jump_past : (clause : List Lit) (place : ℕ) → IsJump trail (i + 1) place clause → IsJump trail i place clause
    jump_past [] place cut = tt
    jump_past (first ∷ rest) place cut =
        let before : i < place = omega (arith, cut.before) in
        record {
          decision = cut.decision;
          at = cut.at;
          decided = cut.decided;
          before = omega arith;
          free = cut.free;
          fail = subst (AreDenied rest) (sym (behind place before cut.at.0)) (denied_more rest (reverse (drop (i + 1) (take place trail))) step cut.fail);
        }

    -- a clause of one literal wants none of the decisions
    pub jump_here : (clause : List Lit) (place : ℕ) → length clause ≡ 1 → is_decided step ≡ true → IsJump trail (i + 1) place clause → IsJump trail i i clause
    jump_here [] place one decided cut = absurd (omega arith)
    jump_here (first ∷ []) place one decided cut = record {
      decision = step;
      at = at;
      decided = decided;
      before = omega arith;
      free = free_sooner i place first.var (omega (arith, cut.before)) cut.free;
      fail = tt;
    }
    jump_here (first ∷ second ∷ rest) place one decided cut = absurd (omega arith)

-- what is said of a clause of no literals is said of this one, if it has none
pub taken_first : (trail : List Step) (marks : List Bool) (clause : List Lit) (target place : ℕ) (on : Option (ℕ × ℕ)) → length clause ≡ 0 → IsTaken trail marks [] target place on → IsTaken trail marks clause target place on
taken_first trail marks [] target place on none taken = taken
taken_first trail marks (first ∷ rest) target place on none taken = absurd (omega arith)

-- one variable more is seen
seen_here : (marks : List Bool) (var : ℕ) → is_seen (set marks var true) var ≡ true
seen_here marks var = elim (cases_lt var (length marks)) [
  | inl inside ↦ get_or-set_same marks var true true inside
  | inr past ↦ get_or_past (set marks var true) var true (omega (arith, length-set marks var true))
]

seen_still : (marks : List Bool) (var other : ℕ) → is_seen marks other ≡ true → is_seen (set marks var true) other ≡ true
seen_still marks var other is = elim (cases_eq other var) [
  | inl same ↦ subst (λ v. is_seen (set marks var true) v ≡ true) (sym same) (seen_here marks var)
  | inr apart ↦ get_or-set_other marks var other true true apart ∙ is
]

module _ {X : Type 0} (var_of : X → ℕ) (items : List X) (first : List Bool) where
  pub seen_more : (marks : List Bool) (i : ℕ) (d : X) → i < length items → SeesAll (λ var. list_any (λ item. eqb (var_of item) var) (take i items)) first marks → SeesAll (λ var. list_any (λ item. eqb (var_of item) var) (take (i + 1) items)) first (set marks (var_of (get_or items i d)) true)
  seen_more marks i d below so_far = record {
    kept = λ var is. seen_still marks (var_of (get_or items i d)) var (so_far.kept var is);
    seen = λ var named.
        let split : (list_any (λ item. eqb (var_of item) var) (take i items) || eqb (var_of (get_or items i d)) var) ≡ true = sym (list_any_more (λ item. eqb (var_of item) var) items i d below) ∙ named in
        elim (or_cases (list_any (λ item. eqb (var_of item) var) (take i items)) (eqb (var_of (get_or items i d)) var) split) [
          | inl before ↦ seen_still marks (var_of (get_or items i d)) var (so_far.seen var before)
          | inr here ↦ elim (eqb_tells (var_of (get_or items i d)) var) [
            | inl same ↦ subst (λ v. is_seen (set marks (var_of (get_or items i d)) true) v ≡ true) same.1 (seen_here marks (var_of (get_or items i d)))
            | inr other ↦ absurd (false≢true (sym (ne_eqb (var_of (get_or items i d)) var other.1) ∙ here))
          ]
        ];
  }

  pub seen_all : (marks : List Bool) (i : ℕ) → length items ≤ i → SeesAll (λ var. list_any (λ item. eqb (var_of item) var) (take i items)) first marks → SeesAll (λ var. list_any (λ item. eqb (var_of item) var) items) first marks
  seen_all marks i past so_far = subst (λ part. SeesAll (λ var. list_any (λ item. eqb (var_of item) var) part) first marks) (take_all i items past) so_far
