-- A version has only the bytes of its parts, and at least one.
use Rattle.std.proofs.Common.{◌≡◌, ◌≢◌, ◌+◌, ◌<◌, ◌==◌, ℕ, List, [], ◌∷◌, length, take, drop, get_or, Bool, true, false, Option, Some, None, refl, arith, inl, inr, suc, zero, add-one}
use Rattle.std.specs.Prelude.{if◌then◌else◌, not, unwrap_or, ◌&&◌}
use Rattle.std.proofs.lemmas.Bool.{and_from, and_parts, cases_Bool}
use Rattle.std.proofs.lemmas.Bool.Decides.{nat_tests}
use Rattle.std.proofs.lemmas.List.{length-drop, length-take}
use Rattle.std.proofs.lemmas.List.Quantifiers.{position-Some}
use Rattle.std.specs.Char.{is_ascii_digit}
use Rattle.std.specs.List.{list_all}
use Rattle.std.specs.Option.{option_map_or}
use Rattle.deb_relation.specs.declared.version.VersionError.{VersionError}
use Rattle.deb_relation.specs.declared.version.VersionError.TheVariants.{Epoch, Upstream, Revision, Character}
use Rattle.deb_relation.specs.Bytes.{colon, hyphen, begins}
use Rattle.deb_relation.specs.VersionText.{colon_in, fault_of, hyphen_in, is_epoch, is_revision_byte, is_upstream_byte, last_position, later_or, rest_fault, revision_in, upstream_in}
use Rattle.deb_relation.proofs.ByteKinds.{colon-is_upstream, digit-is_upstream, hyphen-is_upstream, revision-is_upstream}
use Rattle.deb_relation.proofs.RunJoins.{list_all-wider, not-true}

-- a list whose items before, at and after a place pass
list_all-around : (p : ℕ → Bool) (xs : List ℕ) (i : ℕ) → i < length xs
    → list_all p (take i xs) ≡ true → p (get_or xs i 0) ≡ true → list_all p (drop (i + 1) xs) ≡ true → list_all p xs ≡ true
list_all-around p [] i within front here rest = refl
list_all-around p (x ∷ xs) zero within front here rest = and_from (p x) (list_all p xs) here rest
list_all-around p (x ∷ xs) (suc i) within front here rest =
    let parts = and_parts (p x) (list_all p (take i xs)) front in
    let inside : i < length xs = omega arith in
    let next : suc i + 1 ≡ suc (i + 1) = omega arith in
    and_from (p x) (list_all p xs) parts.0 (list_all-around p xs i inside parts.1 here (rw next at rest))

-- the last place that passes is within, and passes
last-found : (p : ℕ → Bool) (xs : List ℕ) (i : ℕ) → last_position p xs ≡ Some i → (i < length xs) × (p (get_or xs i 0) ≡ true)
unfolding last_position
last-found p [] i e = cc
last-found p (x ∷ xs) i e = step (last_position p xs) (last-found p xs) e
  where
    step : (later : Option ℕ) → ((j : ℕ) → later ≡ Some j → (j < length xs) × (p (get_or xs j 0) ≡ true))
        → later_or (if p x then Some 0 else None) later ≡ Some i → (i < length (x ∷ xs)) × (p (get_or (x ∷ xs) i 0) ≡ true)
    step (Some j) known h =
        let same : j + 1 ≡ i = cc in
        let found = known j refl in
        rw (← same, add-one) (omega arith, found.1)
    step None known h = elim (cases_Bool (p x)) [
      | inl passes ↦
          let first : Some 0 ≡ Some i = rw passes at h in
          let same : 0 ≡ i = cc in
          rw (← same) (omega arith, passes)
      | inr other ↦ cc (rw other at h)
    ]

-- a revision that is there has bytes unless a hyphen ends the text
pub revision-filled : (rest : List ℕ) → length (upstream_in rest) + 1 ≢ length rest → option_map_or (λ r. length r == 0) (revision_in rest) false ≡ false
unfolding hyphen_in
revision-filled rest other = by (hyphen_in rest) refl
  where
    by : (o : Option ℕ) → hyphen_in rest ≡ o → option_map_or (λ r. length r == 0) (revision_in rest) false ≡ false
    by None e = rw e refl
    by (Some i) e =
        let front : length (take i rest) + 1 ≢ length rest = rw e at other in
        let within = (last-found (λ (b : ℕ). b == hyphen) rest i e).0 in
        let some : 0 < length (drop (i + 1) rest) = omega (arith, front, within, length-take i rest, length-drop (i + 1) rest) in
        let test : (length (drop (i + 1) rest) == 0) ≡ false = grind (arith, nat_tests) in
        rw (e, test) refl

pub rest-decided : (rest : List ℕ) (bytes : Bool) → (length (upstream_in rest) == 0) ≡ false → length (upstream_in rest) + 1 ≢ length rest
    → (list_all is_upstream_byte (upstream_in rest) && list_all is_revision_byte (unwrap_or (revision_in rest) [])) ≡ bytes → rest_fault rest ≡ (if bytes then None else Some Character)
unfolding rest_fault
rest-decided rest bytes some other are = rw (some, revision-filled rest other, are) refl

-- a list that isn't empty begins with an item that passes, if all do
begins-all : (p : ℕ → Bool) (xs : List ℕ) → (length xs == 0) ≡ false → list_all p xs ≡ true → begins p xs ≡ true
begins-all p [] some h = cc
begins-all p (x ∷ xs) some h = (and_parts (p x) (list_all p xs) h).0

-- what stands in front of a list that isn't empty isn't
longer-filled : (xs : List ℕ) (i : ℕ) → (length (take i xs) == 0) ≡ false → (length xs == 0) ≡ false
longer-filled [] zero h = h
longer-filled [] (suc i) h = h
longer-filled (x ∷ xs) i h = grind (arith, nat_tests)

-- of the reasons to refuse what comes after the epoch, none applies
none-applies : (upstream revision bytes : Bool)
    → (if upstream then Some Upstream else if revision then Some Revision else if bytes then None else Some Character) ≡ None
    → (upstream ≡ false) × (bytes ≡ true)
none-applies true revision bytes h = cc
none-applies false true bytes h = cc
none-applies false false true h = (refl, refl)
none-applies false false false h = cc

-- the bytes of a version's parts, and at least one
abbrev pub HasBytes : List ℕ → Type 0
HasBytes text = (list_all is_upstream_byte text ≡ true) × (begins is_upstream_byte text ≡ true)

-- what comes after the epoch of a version
rest-bytes : (rest : List ℕ) → rest_fault rest ≡ None → HasBytes rest
unfolding rest_fault hyphen_in
rest-bytes rest fine = by (hyphen_in rest) refl
  where
    by : (o : Option ℕ) → hyphen_in rest ≡ o → HasBytes rest
    by None e =
        let two = none-applies (length rest == 0) false (list_all is_upstream_byte rest && true) (rw e at fine) in
        let all = (and_parts (list_all is_upstream_byte rest) true two.1).0 in
        (all, begins-all is_upstream_byte rest two.0 all)
    by (Some i) e =
        let two = none-applies (length (take i rest) == 0) (length (drop (i + 1) rest) == 0)
        (list_all is_upstream_byte (take i rest) && list_all is_revision_byte (drop (i + 1) rest)) (rw e at fine) in
        let found = last-found (λ (b : ℕ). b == hyphen) rest i e in
        let parts = and_parts (list_all is_upstream_byte (take i rest)) (list_all is_revision_byte (drop (i + 1) rest)) two.1 in
        let behind = list_all-wider is_revision_byte is_upstream_byte (drop (i + 1) rest) revision-is_upstream parts.1 in
        let all = list_all-around is_upstream_byte rest i found.0 parts.0 (hyphen-is_upstream (get_or rest i 0) found.1) behind in
        (all, begins-all is_upstream_byte rest (longer-filled rest i two.0) all)

-- the epoch's refusal, or what comes after it
epoch-applies : (epoch : Bool) (rest : Option VersionError) → (if epoch then Some Epoch else rest) ≡ None → (epoch ≡ false) × (rest ≡ None)
epoch-applies true rest h = cc
epoch-applies false rest h = (refl, h)

not-false : (b : Bool) → not b ≡ false → b ≡ true
not-false true h = refl
not-false false h = cc

pub version-bytes : (text : List ℕ) → fault_of text ≡ None → HasBytes text
unfolding fault_of colon_in
version-bytes text fine = by (colon_in text) refl
  where
    by : (o : Option ℕ) → colon_in text ≡ o → HasBytes text
    by None e = rest-bytes text (epoch-applies false (rest_fault text) (rw e at fine)).1
    by (Some i) e =
        let two = epoch-applies (not (is_epoch (take i text))) (rest_fault (drop (i + 1) text)) (rw e at fine) in
        let digits = (and_parts (not (length (take i text) == 0)) (list_all is_ascii_digit (take i text)) (not-false (is_epoch (take i text)) two.0)).1 in
        let found = position-Some (λ (b : ℕ). b == colon) text i 0 e in
        let behind = rest-bytes (drop (i + 1) text) two.1 in
        let front = list_all-wider is_ascii_digit is_upstream_byte (take i text) digit-is_upstream digits in
        let all = list_all-around is_upstream_byte text i found.0 front (colon-is_upstream (get_or text i 0) found.1) behind.0 in
        (all, begins-all is_upstream_byte text (longer-filled text i (not-true (length (take i text) == 0) (and_parts (not (length (take i text) == 0)) (list_all is_ascii_digit (take i text)) (not-false (is_epoch (take i text)) two.0)).0)) all)
