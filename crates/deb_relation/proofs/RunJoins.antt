-- Runs at the front of a text, by concatenation.
use Rattle.std.proofs.Common.{not, ◌≡◌, ℕ, List, [], ◌∷◌, ◌++◌, Bool, true, false, refl, ap, inl, inr}
use Rattle.std.proofs.lemmas.Bool.{and_from, and_parts, cases_Bool}
use Rattle.std.specs.List.{list_all, list_any, slice_split}
use Rattle.deb_relation.specs.Bytes.{after_run, begins, run}

pub not-true : (b : Bool) → not b ≡ true → b ≡ false
not-true true h = cc
not-true false h = refl

-- a text is its run and what comes after it
pub run-joined : (p : ℕ → Bool) (text : List ℕ) → run p text ++ after_run p text ≡ text
unfolding run after_run
run-joined p [] = refl
run-joined p (b ∷ bs) = elim (cases_Bool (p b)) [
  | inl e ↦ rw e (ap (λ (t : List ℕ). b ∷ t) (run-joined p bs))
  | inr e ↦ rw e refl
]

pub run-passes : (p : ℕ → Bool) (text : List ℕ) → list_all p (run p text) ≡ true
unfolding run
run-passes p [] = refl
run-passes p (b ∷ bs) = elim (cases_Bool (p b)) [
  | inl e ↦ rw e (rw e (run-passes p bs))
  | inr e ↦ rw e refl
]

-- a run begins with the byte that the text begins with
pub run-begins : (p q : ℕ → Bool) (text : List ℕ) → begins q text ≡ true → ((b : ℕ) → q b ≡ true → p b ≡ true) → begins q (run p text) ≡ true
unfolding run
run-begins p q [] h more = cc
run-begins p q (b ∷ bs) h more = rw (more b h) h

-- where bytes that pass stand before one that doesn't, they are the run
pub run-append : (p : ℕ → Bool) (front rest : List ℕ) → list_all p front ≡ true → begins p rest ≡ false → run p (front ++ rest) ≡ front
unfolding run
run-append p [] [] h stop = refl
run-append p [] (b ∷ bs) h stop = rw stop refl
run-append p (b ∷ bs) rest h stop =
    let parts = and_parts (p b) (list_all p bs) h in
    rw (parts.0, run-append p bs rest parts.1 stop) refl

pub after_run-append : (p : ℕ → Bool) (front rest : List ℕ) → list_all p front ≡ true → begins p rest ≡ false → after_run p (front ++ rest) ≡ rest
unfolding after_run
after_run-append p [] [] h stop = refl
after_run-append p [] (b ∷ bs) h stop = rw stop refl
after_run-append p (b ∷ bs) rest h stop =
    let parts = and_parts (p b) (list_all p bs) h in
    rw (parts.0, after_run-append p bs rest parts.1 stop) refl

-- what passes one test passes a wider one
pub list_all-wider : (p q : ℕ → Bool) (text : List ℕ) → ((b : ℕ) → p b ≡ true → q b ≡ true) → list_all p text ≡ true → list_all q text ≡ true
list_all-wider p q [] wider h = refl
list_all-wider p q (b ∷ bs) wider h =
    let parts = and_parts (p b) (list_all p bs) h in
    and_from (q b) (list_all q bs) (wider b parts.0) (list_all-wider p q bs wider parts.1)

-- what begins a text begins it with more behind it
pub begins-append : (p : ℕ → Bool) (front rest : List ℕ) → begins p front ≡ true → begins p (front ++ rest) ≡ true
begins-append p [] rest h = cc
begins-append p (b ∷ bs) rest h = h

-- a text whose first byte passes one test doesn't begin with a byte of another that excludes it
pub begins-other : (p q : ℕ → Bool) (front rest : List ℕ) → begins p front ≡ true → ((b : ℕ) → p b ≡ true → q b ≡ false) → begins q (front ++ rest) ≡ false
begins-other p q [] rest h other = cc
begins-other p q (b ∷ bs) rest h other = other b h

-- the same where the bytes in front all pass, and may be none
pub begins-after : (p q : ℕ → Bool) (front rest : List ℕ) → list_all p front ≡ true → ((b : ℕ) → p b ≡ true → q b ≡ false) → begins q rest ≡ false → begins q (front ++ rest) ≡ false
begins-after p q [] rest h other stop = stop
begins-after p q (b ∷ bs) rest h other stop = other b (and_parts (p b) (list_all p bs) h).0

-- a text that doesn't begin with a byte that passes doesn't pass, unless it is empty
pub list_all-begins : (p q : ℕ → Bool) (text : List ℕ) → begins q text ≡ true → begins p text ≡ false → list_all p text ≡ false
list_all-begins p q [] filled stop = cc
list_all-begins p q (b ∷ bs) filled stop = rw stop refl

-- nor with more in front
pub list_all-behind : (p : ℕ → Bool) (front rest : List ℕ) → list_all p rest ≡ false → list_all p (front ++ rest) ≡ false
list_all-behind p [] rest h = h
list_all-behind p (b ∷ bs) rest h = elim (cases_Bool (p b)) [
  | inl e ↦ rw e (list_all-behind p bs rest h)
  | inr e ↦ rw e refl
]

-- two texts that pass
pub list_all-join : (p : ℕ → Bool) (front rest : List ℕ) → list_all p front ≡ true → list_all p rest ≡ true → list_all p (front ++ rest) ≡ true
list_all-join p [] rest h t = t
list_all-join p (b ∷ bs) rest h t =
    let parts = and_parts (p b) (list_all p bs) h in
    and_from (p b) (list_all p (bs ++ rest)) parts.0 (list_all-join p bs rest parts.1 t)

-- a text without the separator is one part
pub split-one : (p : ℕ → Bool) (text : List ℕ) → list_all (λ b. not (p b)) text ≡ true → slice_split p text ≡ text ∷ []
split-one p [] h = refl
split-one p (b ∷ bs) h =
    let parts = and_parts (not (p b)) (list_all (λ c. not (p c)) bs) h in
    rw (not-true (p b) parts.0, split-one p bs parts.1) refl

-- and nowhere in it the separator stands
pub list_any-none : (p : ℕ → Bool) (text : List ℕ) → list_all (λ b. not (p b)) text ≡ true → list_any p text ≡ false
list_any-none p [] h = refl
list_any-none p (b ∷ bs) h =
    let parts = and_parts (not (p b)) (list_all (λ c. not (p c)) bs) h in
    rw (not-true (p b) parts.0) (list_any-none p bs parts.1)
