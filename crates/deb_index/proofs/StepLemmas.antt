-- The readings of a text, one stanza after the other: what was read, continued with what is left, gives the text's index or its first fault.
use Rattle.std.proofs.Common.{◌≡◌, ◌<◌, ◌+◌, ℕ, List, [], ◌∷◌, ◌++◌, length, Option, Result, Ok, Err, refl, sym, ap, ◌∙◌, arith, append_assoc}
use Rattle.std.proofs.lemmas.List.{append-nil}
use Rattle.deb_control.specs.Stanzas.{Unread}
use Rattle.deb_index.specs.declared.error.IndexError.{IndexError}
use Rattle.deb_index.specs.Packages.{IndexView, PackageView}
use Rattle.deb_index.specs.Reading.{◌>>=◌, Steps, continued, readings, stanza_reading, with_reading}

-- an index so far, continued with what is left, gives the whole
pub record Continues (arch : List ℕ) (before : ℕ) (whole : Result IndexView IndexError) (index : IndexView) (left : Unread) : Type 0 where
  pub gives : continued index (readings arch before left.count left.stanzas) ≡ whole

pub readings-first : (arch : List ℕ) (before : ℕ) (n m : ℕ) (stanza : List (List ℕ)) (more : List (List (List ℕ))) (read : Option PackageView) → m ≡ n + 1 → stanza_reading arch before m stanza ≡ Ok read
    → readings arch before n (stanza ∷ more) ≡ (readings arch before m more >>= λ others. Ok (read ∷ others))
unfolding readings
readings-first arch before n m stanza more read counts reads = ap (λ k. stanza_reading arch before k stanza >>= λ first. readings arch before k more >>= λ others. Ok (first ∷ others)) (sym counts)
    ∙ ap (λ r. r >>= λ first. readings arch before m more >>= λ others. Ok (first ∷ others)) reads

-- the stanza that a step reads comes first
pub steps-read : (arch : List ℕ) (before : ℕ) (left new : Unread) (read : Option PackageView) → Steps arch before left read new
    → readings arch before left.count left.stanzas ≡ (readings arch before new.count new.stanzas >>= λ others. Ok (read ∷ others))
steps-read arch before left new read step = ap (readings arch before left.count) step.first ∙ readings-first arch before left.count new.count step.stanza new.stanzas read step.counts step.reads

-- readings that were found before, and those of what is left
abbrev pub with_front : List (Option PackageView) → Result (List (Option PackageView)) IndexError → Result (List (Option PackageView)) IndexError
with_front front read = read >>= λ others. Ok (front ++ others)

pub front-none : (read : Result (List (Option PackageView)) IndexError) → read ≡ with_front [] read
front-none (Ok others) = refl
front-none (Err e) = refl

front-push : (front : List (Option PackageView)) (one : Option PackageView) (read : Result (List (Option PackageView)) IndexError) → with_front front (read >>= λ others. Ok (one ∷ others)) ≡ with_front (front ++ one ∷ []) read
front-push front one (Ok others) = ap (λ (rs : List (Option PackageView)). Ok rs) (sym (append_assoc front (one ∷ []) others))
front-push front one (Err e) = refl

pub front-more : (arch : List ℕ) (before : ℕ) (left new : Unread) (read : Option PackageView) → Steps arch before left read new
    → (front : List (Option PackageView)) → with_front front (readings arch before left.count left.stanzas) ≡ with_front (front ++ read ∷ []) (readings arch before new.count new.stanzas)
front-more arch before left new read step front = ap (with_front front) (steps-read arch before left new read step) ∙ front-push front read (readings arch before new.count new.stanzas)

pub front-end : (arch : List ℕ) (before : ℕ) (left : Unread) → left.stanzas ≡ [] → (front : List (Option PackageView)) → with_front front (readings arch before left.count left.stanzas) ≡ Ok front
unfolding readings
front-end arch before left none front = ap (λ ss. with_front front (readings arch before left.count ss)) none ∙ ap (λ (rs : List (Option PackageView)). Ok rs) (append-nil front)

continued-first : (index : IndexView) (read : Option PackageView) (rest : Result (List (Option PackageView)) IndexError) → continued index (rest >>= λ others. Ok (read ∷ others)) ≡ continued (with_reading index read) rest
continued-first index read (Ok others) = refl
continued-first index read (Err e) = refl

module _ (arch : List ℕ) (before : ℕ) (whole : Result IndexView IndexError) (index : IndexView) (left : Unread) (so_far : Continues arch before whole index left) where
  -- one more
  pub continues-more : (new : Unread) (read : Option PackageView) → Steps arch before left read new → Continues arch before whole (with_reading index read) new
  continues-more new read step = record {
    gives = sym (continued-first index read (readings arch before new.count new.stanzas))
        ∙ ap (continued index) (sym (steps-read arch before left new read step))
        ∙ so_far.gives;
  }

  pub continues-end : left.stanzas ≡ [] → whole ≡ Ok index
  unfolding readings
  continues-end none = sym so_far.gives ∙ ap (λ ss. continued index (readings arch before left.count ss)) none

  pub continues-fault : (e : IndexError) → readings arch before left.count left.stanzas ≡ Err e → whole ≡ Err e
  continues-fault e fault = sym so_far.gives ∙ ap (continued index) fault

-- fewer stanzas are left
pub steps-fewer : (arch : List ℕ) (before : ℕ) (left new : Unread) (read : Option PackageView) → Steps arch before left read new → length new.stanzas < length left.stanzas
steps-fewer arch before left new read step = omega (arith, ap (λ (ss : List (List (List ℕ))). length ss) step.first)
