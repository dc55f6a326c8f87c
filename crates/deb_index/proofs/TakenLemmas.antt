-- An index that has taken in the stanzas of a text, one after the other, and those behind them; and a text part by part.
use Rattle.std.proofs.Common.{◌≡◌, ◌≤◌, ◌+◌, ◌*◌, ℕ, List, [], ◌∷◌, ◌++◌, length, Option, Result, Ok, Err, refl, sym, ap, subst, ◌∙◌, arith}
use Rattle.std.specs.List.{flat_map, fold, sum_by}
use Rattle.std.proofs.lemmas.List.Sums.{fold-append, sum_by-append}
use Rattle.deb_control.specs.Stanzas.{Unread, size_of}
use Rattle.deb_index.specs.declared.error.IndexError.{IndexError}
use Rattle.deb_index.specs.declared.parts.Part.{Part}
use Rattle.deb_index.specs.Packages.{IndexView, PackageView}
use Rattle.deb_index.specs.Built.{HasRoomFor, HaveRoom, part_stanzas}
use Rattle.deb_index.specs.Reading.{◌>>=◌, Steps, continued, readings, stanza_limit, stanza_reading, with_reading}
use Rattle.deb_index.specs.Tables.{asked_count}
use Rattle.deb_index.proofs.RoomLemmas.{IsRoomy, arch-kept, counts-more, read-few, read-room, stays-roomy, step-asks}
use Rattle.deb_index.proofs.SizeLemmas.{done, same, stanza-few}
use Rattle.deb_index.proofs.StepLemmas.{front-none}

-- ---- the first of some stanzas that are read

-- where stanzas are read, the first one is, and so are those behind it
record Begins (arch : List ℕ) (before n : ℕ) (stanza : List (List ℕ)) (more : List (List (List ℕ))) (read : List (Option PackageView)) : Type 0 where
  first : Option PackageView
  others : List (Option PackageView)
  is : first ∷ others ≡ read
  reads : stanza_reading arch before (n + 1) stanza ≡ Ok first
  left : readings arch before (n + 1) more ≡ Ok others

begins : (arch : List ℕ) (before n : ℕ) (stanza : List (List ℕ)) (more : List (List (List ℕ))) (read : List (Option PackageView)) → readings arch before n (stanza ∷ more) ≡ Ok read → Begins arch before n stanza more read
unfolding readings
begins arch before n stanza more read e =
    let first = done (stanza_reading arch before (n + 1) stanza) (λ r. readings arch before (n + 1) more >>= λ others. Ok (r ∷ others)) read e in
    let others = done (readings arch before (n + 1) more) (λ rs. Ok (first.0 ∷ rs)) read first.2 in
    record { first = first.0; others = others.0; is = same (first.0 ∷ others.0) read others.2; reads = first.1; left = others.1 }

reads-none : (arch : List ℕ) (before n : ℕ) (read : List (Option PackageView)) → readings arch before n [] ≡ Ok read → [] ≡ read
unfolding readings
reads-none arch before n read e = same [] read e

step-of : (arch : List ℕ) (before n : ℕ) (stanza : List (List ℕ)) (more : List (List (List ℕ))) (read : List (Option PackageView)) (b : Begins arch before n stanza more read)
    → Steps arch before (record { stanzas = stanza ∷ more; count = n }) b.first (record { stanzas = more; count = n + 1 })
step-of arch before n stanza more read b = record { stanza = stanza; first = refl; counts = refl; reads = b.reads }

-- ---- what an index has become

pub record Taken (index : IndexView) (stanzas : List (List (List ℕ))) (new : IndexView) : Type 0 where
  pub arch : new.arch ≡ index.arch
  pub counts : new.stanzas ≡ index.stanzas + length stanzas
  pub few : index.stanzas ≤ stanza_limit → new.stanzas ≤ stanza_limit
  pub asks : sum_by asked_count new.packages + 3 * index.stanzas ≤ sum_by asked_count index.packages + sum_by size_of stanzas + 3 * new.stanzas

module _ (arch : List ℕ) (before : ℕ) where
  pub taken-read : (n : ℕ) (stanzas : List (List (List ℕ))) (read : List (Option PackageView)) (index : IndexView) → readings arch before n stanzas ≡ Ok read → index.stanzas ≡ before + n
      → Taken index stanzas (fold with_reading index read)
  taken-read n [] read index e counts =
      subst (λ rs. Taken index [] (fold with_reading index rs)) (reads-none arch before n read e) (record { arch = refl; counts = omega arith; few = λ h. h; asks = omega arith })
  taken-read n (stanza ∷ more) read index e counts =
      let b = begins arch before n stanza more read e in
      let step = step-of arch before n stanza more read b in
      let mid = with_reading index b.first in
      let one = counts-more index b.first in
      let rest = taken-read (n + 1) more b.others mid b.left (omega (arith, one, counts)) in
      let asks = step-asks arch before index (record { stanzas = stanza ∷ more; count = n }) (record { stanzas = more; count = n + 1 }) b.first step in
      let few = stanza-few arch before (n + 1) stanza b.first b.reads in
      subst (λ rs. Taken index (stanza ∷ more) (fold with_reading index rs)) b.is (record {
        arch = rest.arch ∙ arch-kept index b.first;
        counts = omega (arith, rest.counts, one);
        few = λ h. rest.few (omega (arith, one, counts, few));
        asks = omega (arith, rest.asks, one, asks);
      })

  pub have-room : (n : ℕ) (stanzas : List (List (List ℕ))) (read : List (Option PackageView)) (index : IndexView) → readings arch before n stanzas ≡ Ok read → index.stanzas ≡ before + n → HasRoomFor index stanzas → HaveRoom index read
  have-room n [] read index e counts room = subst (HaveRoom index) (reads-none arch before n read e) tt
  have-room n (stanza ∷ more) read index e counts room =
      let b = begins arch before n stanza more read e in
      let step = step-of arch before n stanza more read b in
      let left : Unread = record { stanzas = stanza ∷ more; count = n } in
      let new : Unread = record { stanzas = more; count = n + 1 } in
      let roomy : IsRoomy before index left = record { counts = counts; room = room } in
      let stays = stays-roomy arch before index left new b.first roomy step in
      subst (HaveRoom index) b.is
      (read-few arch before index left new b.first roomy step, read-room arch before index left new b.first roomy step, have-room (n + 1) more b.others (with_reading index b.first) b.left stays.counts stays.room)

  pub length-read : (n : ℕ) (stanzas : List (List (List ℕ))) (read : List (Option PackageView)) → readings arch before n stanzas ≡ Ok read → length read ≡ length stanzas
  length-read n [] read e = ap length (sym (reads-none arch before n read e))
  length-read n (stanza ∷ more) read e =
      let b = begins arch before n stanza more read e in
      omega (arith, ap length b.is, length-read (n + 1) more b.others b.left)

  taken-from : (n : ℕ) (stanzas : List (List (List ℕ))) (index new : IndexView) (read : Result (List (Option PackageView)) IndexError) → readings arch before n stanzas ≡ read → continued index read ≡ Ok new → index.stanzas ≡ before + n → Taken index stanzas new
  taken-from n stanzas index new (Ok read) e h counts =
      let is : fold with_reading index read ≡ new = cc in
      subst (Taken index stanzas) is (taken-read n stanzas read index e counts)
  taken-from n stanzas index new (Err f) e h counts = absurd cc

  pub taken : (n : ℕ) (stanzas : List (List (List ℕ))) (index new : IndexView) → continued index (readings arch before n stanzas) ≡ Ok new → index.stanzas ≡ before + n → Taken index stanzas new
  taken n stanzas index new h counts = taken-from n stanzas index new (readings arch before n stanzas) refl h counts

-- ---- stanzas, and others behind them

turned : (x : Result (Option PackageView) IndexError) (y z : Result (List (Option PackageView)) IndexError)
    → (x >>= λ first. (y >>= λ a. z >>= λ b. Ok (a ++ b)) >>= λ others. Ok (first ∷ others)) ≡ ((x >>= λ first. y >>= λ others. Ok (first ∷ others)) >>= λ a. z >>= λ b. Ok (a ++ b))
turned (Err e) y z = refl
turned (Ok first) (Err e) z = refl
turned (Ok first) (Ok a) (Err e) = refl
turned (Ok first) (Ok a) (Ok b) = refl

pub readings-append : (arch : List ℕ) (before n : ℕ) (stanzas others : List (List (List ℕ)))
    → readings arch before n (stanzas ++ others) ≡ (readings arch before n stanzas >>= λ a. readings arch before (n + length stanzas) others >>= λ b. Ok (a ++ b))
unfolding readings
readings-append arch before n [] others =
    let none : n ≡ n + 0 = omega arith in
    ap (λ m. readings arch before m others) none ∙ front-none (readings arch before (n + 0) others)
readings-append arch before n (stanza ∷ stanzas) others =
    let more : (n + 1) + length stanzas ≡ n + length (stanza ∷ stanzas) = omega arith in
    ap (λ r. stanza_reading arch before (n + 1) stanza >>= λ first. r >>= λ rest. Ok (first ∷ rest)) (readings-append arch before (n + 1) stanzas others)
    ∙ turned (stanza_reading arch before (n + 1) stanza) (readings arch before (n + 1) stanzas) (readings arch before ((n + 1) + length stanzas) others)
    ∙ ap (λ m. (stanza_reading arch before (n + 1) stanza >>= λ first. readings arch before (n + 1) stanzas >>= λ rest. Ok (first ∷ rest)) >>= λ a. readings arch before m others >>= λ b. Ok (a ++ b)) more

behind-ok : (index mid : IndexView) (y z : Result (List (Option PackageView)) IndexError) → continued index y ≡ Ok mid → continued index (y >>= λ a. z >>= λ b. Ok (a ++ b)) ≡ continued mid z
behind-ok index mid (Err e) z h = absurd cc
behind-ok index mid (Ok a) (Err e) h = refl
behind-ok index mid (Ok a) (Ok b) h =
    let is : fold with_reading index a ≡ mid = cc in
    ap (λ (i : IndexView). Ok i) (fold-append with_reading index a b ∙ ap (λ (i : IndexView). fold with_reading i b) is)

behind-err : (index : IndexView) (e : IndexError) (y z : Result (List (Option PackageView)) IndexError) → continued index y ≡ Err e → continued index (y >>= λ a. z >>= λ b. Ok (a ++ b)) ≡ Err e
behind-err index e (Err f) z h = cc
behind-err index e (Ok a) z h = absurd cc

module _ (arch : List ℕ) (before n : ℕ) (index : IndexView) (stanzas others : List (List (List ℕ))) where
  -- those behind are read with their numbers
  pub continued-on : (mid : IndexView) (m : ℕ) → continued index (readings arch before n stanzas) ≡ Ok mid → n + length stanzas ≡ m → continued index (readings arch before n (stanzas ++ others)) ≡ continued mid (readings arch before m others)
  continued-on mid m h counts =
      ap (continued index) (readings-append arch before n stanzas others) ∙ behind-ok index mid (readings arch before n stanzas) (readings arch before (n + length stanzas) others) h
      ∙ ap (λ k. continued mid (readings arch before k others)) counts

  -- a fault goes before all behind it
  pub stopped : (e : IndexError) → continued index (readings arch before n stanzas) ≡ Err e → continued index (readings arch before n (stanzas ++ others)) ≡ Err e
  stopped e h = ap (continued index) (readings-append arch before n stanzas others) ∙ behind-err index e (readings arch before n stanzas) (readings arch before (n + length stanzas) others) h

-- ---- one part more

module _ (arch : List ℕ) (before n : ℕ) (whole : Result IndexView IndexError) (index : IndexView) (items rest : List Part) (part : Part) (first : items ≡ part ∷ rest)
    (so_far : continued index (readings arch before n (flat_map part_stanzas items)) ≡ whole) where
  parts-first : continued index (readings arch before n (part_stanzas part ++ flat_map part_stanzas rest)) ≡ whole
  parts-first = ap (λ (ps : List Part). continued index (readings arch before n (flat_map part_stanzas ps))) (sym first) ∙ so_far

  pub parts-more : (new : IndexView) (m : ℕ) → continued index (readings arch before n (part_stanzas part)) ≡ Ok new → n + length (part_stanzas part) ≡ m → continued new (readings arch before m (flat_map part_stanzas rest)) ≡ whole
  parts-more new m h counts = sym (continued-on arch before n index (part_stanzas part) (flat_map part_stanzas rest) new m h counts) ∙ parts-first

  pub parts-fault : (e : IndexError) → continued index (readings arch before n (part_stanzas part)) ≡ Err e → whole ≡ Err e
  parts-fault e h = sym parts-first ∙ stopped arch before n index (part_stanzas part) (flat_map part_stanzas rest) e h

pub parts-end : (arch : List ℕ) (before n : ℕ) (whole : Result IndexView IndexError) (index : IndexView) (items : List Part) → items ≡ [] → continued index (readings arch before n (flat_map part_stanzas items)) ≡ whole → whole ≡ Ok index
unfolding readings
parts-end arch before n whole index items none so_far = sym so_far ∙ ap (λ (ps : List Part). continued index (readings arch before n (flat_map part_stanzas ps))) none

module _ (index : IndexView) (items rest : List Part) (part : Part) (first : items ≡ part ∷ rest) (room : HasRoomFor index (flat_map part_stanzas items)) where
  sizes : sum_by size_of (flat_map part_stanzas items) ≡ sum_by size_of (part_stanzas part) + sum_by size_of (flat_map part_stanzas rest)
  sizes = ap (λ (ps : List Part). sum_by size_of (flat_map part_stanzas ps)) first ∙ sum_by-append size_of (part_stanzas part) (flat_map part_stanzas rest)

  pub part-room : HasRoomFor index (part_stanzas part)
  part-room = omega (arith, room, sizes)

  pub rest-room : (new : IndexView) → Taken index (part_stanzas part) new → HasRoomFor new (flat_map part_stanzas rest)
  rest-room new t = omega (arith, room, sizes, t.asks, t.counts)
