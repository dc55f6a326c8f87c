-- The next stanza of a reader, and what it reads as.
use Rattle.std.proofs.Common.{◌≡◌, ◌≢◌, ◌<◌, ◌≤◌, ◌+◌, ℕ, Bool, true, false, cond, ltb, List, ◌∷◌, Option, Result, Ok, Err, refl, sym, ap, ◌∙◌}
use Rattle.std.proofs.lemmas.Bool.{lt-ltb, le-ltb}
use Rattle.deb_control.specs.declared.error.ControlError.{ControlError}
use Rattle.deb_control.specs.declared.error.ControlError.TheVariants as control
use Rattle.deb_control.specs.Fields.{Entry}
use Rattle.deb_control.specs.Stanzas.{Takes, Refuses, Unread, read_stanza}
use Rattle.deb_index.specs.declared.error.IndexError.{IndexError}
use Rattle.deb_index.specs.declared.error.IndexError.TheVariants.{BadLine, RepeatedField, MissingField, BadName, BadVersion, BadRelation, TooManyStanzas, Memory}
use Rattle.deb_index.specs.Packages.{PackageView}
use Rattle.deb_index.specs.Reading.{◌>>=◌, Fails, Steps, from_control, reading_of, readings, stanza_fault, stanza_limit, stanza_reading}

-- a fault that isn't want of memory is the reading's
fails-is : {A : Type 0} (e : IndexError) (read : Result A IndexError) → e ≢ Memory → Fails e read → read ≡ Err e
fails-is (BadLine n) read other h = h
fails-is (RepeatedField n) read other h = h
fails-is (MissingField n) read other h = h
fails-is (BadName n) read other h = h
fails-is (BadVersion n) read other h = h
fails-is (BadRelation n field) read other h = h
fails-is (TooManyStanzas n) read other h = h
fails-is Memory read other h = absurd (other refl)

-- what a stanza reads as, or that it is one too many
abbrev limited : ℕ → ℕ → Result (Option PackageView) IndexError → Result (Option PackageView) IndexError
limited before n read = cond (ltb stanza_limit (before + n)) (Err (TooManyStanzas n)) read

abbrev refusal : IndexError → Result (Option PackageView) IndexError
refusal e = Err e

either : (b : Bool) (x y : IndexError) → cond b (refusal x) (refusal y) ≡ refusal (cond b x y)
either true x y = refl
either false x y = refl

module _ (arch : List ℕ) (before : ℕ) where
  -- a fault of the first stanza is that of the text
  first-fails : (left : Unread) (stanza : List (List ℕ)) (more : List (List (List ℕ))) (n : ℕ) (e : IndexError) → left.stanzas ≡ stanza ∷ more → n ≡ left.count + 1 → stanza_reading arch before n stanza ≡ Err e
      → readings arch before left.count left.stanzas ≡ Err e
  unfolding readings
  first-fails left stanza more n e first counts fault = ap (readings arch before left.count) first
      ∙ ap (λ r. r >>= λ read. readings arch before (left.count + 1) more >>= λ others. Ok (read ∷ others)) (ap (λ m. stanza_reading arch before m stanza) (sym counts) ∙ fault)

  control-fault : (n : ℕ) (stanza : List (List ℕ)) (e : ControlError) → e ≢ control.Memory → read_stanza n stanza ≡ Err e → stanza_reading arch before n stanza ≡ Err (stanza_fault before n e)
  unfolding stanza_reading
  control-fault n stanza control.Memory other h = absurd (other refl)
  control-fault n stanza (control.BadLine m) other h = rw h (either (ltb stanza_limit (before + n)) (TooManyStanzas n) (BadLine m))
  control-fault n stanza (control.RepeatedField m) other h = rw h (either (ltb stanza_limit (before + n)) (TooManyStanzas n) (RepeatedField m))

  pub refused : (left : Unread) (e : ControlError) (n : ℕ) → (e ≢ control.Memory → Refuses left e) → n ≡ left.count + 1 → stanza_fault before n e ≢ Memory → readings arch before left.count left.stanzas ≡ Err (stanza_fault before n e)
  refused left e n refuses counts other =
      let no_memory : e ≢ control.Memory = λ m. other (ap (stanza_fault before n) m) in
      let r = refuses no_memory in
      first-fails left r.stanza r.more n (stanza_fault before n e) r.first counts (control-fault n r.stanza e no_memory (ap (λ m. read_stanza m r.stanza) counts ∙ r.reads))

  -- a stanza that has no fault of its lines and fields
  module _ (left new : Unread) (fields : List Entry) (t : Takes left fields new) (n : ℕ) (same : new.count ≡ n) where
    reads : stanza_reading arch before n t.stanza ≡ limited before n (reading_of arch n fields)
    unfolding stanza_reading
    reads = ap (λ x. limited before n (from_control x >>= λ f. reading_of arch n f)) (ap (λ m. read_stanza m t.stanza) (sym same) ∙ t.reads)

    counted : n ≡ left.count + 1
    counted = sym same ∙ t.counts

    pub too-many : stanza_limit < before + n → readings arch before left.count left.stanzas ≡ Err (TooManyStanzas n)
    too-many many = first-fails left t.stanza new.stanzas n (TooManyStanzas n) t.first counted (reads ∙ ap (λ b. cond b (Err (TooManyStanzas n)) (reading_of arch n fields)) (lt-ltb stanza_limit (before + n) many))

    few-read : before + n ≤ stanza_limit → stanza_reading arch before n t.stanza ≡ reading_of arch n fields
    few-read few = reads ∙ ap (λ b. cond b (Err (TooManyStanzas n)) (reading_of arch n fields)) (le-ltb stanza_limit (before + n) few)

    pub steps : before + n ≤ stanza_limit → (read : Option PackageView) → reading_of arch n fields ≡ Ok read → Steps arch before left read new
    steps few read h = record { stanza = t.stanza; first = t.first; counts = t.counts; reads = ap (λ m. stanza_reading arch before m t.stanza) same ∙ few-read few ∙ h }

    pub unread : before + n ≤ stanza_limit → (e : IndexError) → Fails e (reading_of arch n fields) → e ≢ Memory → readings arch before left.count left.stanzas ≡ Err e
    unread few e h other = first-fails left t.stanza new.stanzas n e t.first counted (few-read few ∙ fails-is e _ other h)
