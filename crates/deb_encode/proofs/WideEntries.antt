-- Entries that very many packages may meet: gathered, and told run by run.
use Rattle.std.proofs.Common.{◌≡◌, ◌⊎◌, ℕ, ◌+◌, ◌<◌, ◌≤◌, Bool, true, false, ◌&&◌, List, [], ◌∷◌, ◌++◌, take, All, Contains, length, get_or, ◌↔◌, sym, subst, ◌∙◌, ap, inl, inr, arith}
use Rattle.std.proofs.lemmas.Bool.{cases_Bool, cases_lt, and_parts, and_from}
use Rattle.std.proofs.lemmas.List.{get_or_default}
use Rattle.std.proofs.lemmas.List.Elements.{All-push, All-contains, Contains-append_left, Contains-push}
use Rattle.deb_index.specs.Packages.{IndexView, aparts_at, apart_at}
use Rattle.deb_index.specs.Meets.{meets_at}
use Rattle.number_sets.specs.Sets.{NumberSet, members_of}
use Rattle.deb_encode.specs.declared.gathered.Entry.{Entry}
use Rattle.deb_encode.specs.Play.{placed}
use Rattle.deb_encode.specs.Exclusions.{IsWide, EntryHolds, AddsWide, entry_at, IsRun, is_narrow, MeetsEntries, MeetsNarrow}
use Rattle.deb_index.specs.Constraints.{IsAlone, AreApart}
use Rattle.deb_encode.proofs.AddLemmas.{taken_either, in_push}
use Rattle.number_sets.proofs.MembersLemmas.{pushed_has, pushed_keeps}
use Rattle.deb_encode.proofs.Told.{in_play_placed}

abbrev entry_of : ℕ → ℕ → Entry
entry_of place number = record { place = place; number = number }

-- ---- wide entries, one after the other

module _ (index : IndexView) where
  -- nothing need come where all that is asked for stands alone
  pub wide_none : (IsAsked : ℕ → ℕ → Type 0) (entries : List Entry) → ((q j : ℕ) → IsAsked q j → is_narrow index q j ≡ false → IsAlone index q) → AddsWide index IsAsked entries entries
  wide_none IsAsked entries none = record { wide = λ all. all; kept = λ entry there. there; all = λ q j asked less is_wide. inl (none q j asked is_wide) }

  pub wide_one : (place number : ℕ) (before after : List Entry) → place < length index.packages → number < length (aparts_at index place) → is_narrow index place number ≡ false
      → after ≡ before ++ record { place = place; number = number } ∷ [] → AddsWide index (λ q j. (place ≡ q) × (number ≡ j)) before after
  wide_one place number before after inside numbered wide after_is =
      let entry : Entry = entry_of place number in
      let Has : ℕ → ℕ → Type 0 = λ q j. Contains (before ++ entry ∷ []) (entry_of q j) in
      subst (AddsWide index (λ q j. (place ≡ q) × (number ≡ j)) before) (sym after_is) (record {
        wide = λ all. All-push (IsWide index) before entry all (record { of_place = inside; numbered = numbered; wide = wide });
        kept = λ one there. Contains-append_left before (entry ∷ []) one there;
        all = λ q j asked less is_wide. inr (subst (Has q) asked.1 (subst (λ p. Has p number) asked.0 (Contains-push before entry)));
      })

  -- what is asked for in two steps
  wide_both : (First Second IsAsked : ℕ → ℕ → Type 0) (before between after : List Entry) → ((q j : ℕ) → IsAsked q j → First q j ⊎ Second q j)
      → AddsWide index First before between → AddsWide index Second between after → AddsWide index IsAsked before after
  wide_both First Second IsAsked before between after split first second = record {
    wide = λ all. second.wide (first.wide all);
    kept = λ entry there. second.kept entry (first.kept entry there);
    all = λ q j asked less is_wide.
        elim (split q j asked) [
          | inl old ↦ elim (first.all q j old less is_wide) [
            | inl alone ↦ inl alone
            | inr there ↦ inr (second.kept (entry_of q j) there)
          ]
          | inr new ↦ second.all q j new less is_wide
        ];
  }

  -- entry after entry of a place
  pub wide_next : (place number : ℕ) (before between after : List Entry) → AddsWide index (λ q j. (place ≡ q) × (j < number)) before between
      → AddsWide index (λ q j. (place ≡ q) × (number ≡ j)) between after → AddsWide index (λ q j. (place ≡ q) × (j < number + 1)) before after
  wide_next place number before between after =
      wide_both _ _ (λ q j. (place ≡ q) × (j < number + 1)) before between after
      (λ q j asked. elim (cases_lt j number) [
        | inl old ↦ inl (asked.0, old)
        | inr past ↦ inr (asked.0, omega (arith, asked.1))
      ])

  -- place after place
  pub wide_place : (places : List ℕ) (i x : ℕ) → i < length places → x ≡ get_or places i 0 → (before between after : List Entry)
      → AddsWide index (λ q j. members_of (take i places) q ≡ true) before between → AddsWide index (λ q j. x ≡ q) between after → AddsWide index (λ q j. members_of (take (i + 1) places) q ≡ true) before after
  wide_place places i x inside here before between after =
      wide_both _ _ (λ q j. members_of (take (i + 1) places) q ≡ true) before between after
      (λ q j asked. elim (taken_either places i inside q asked) [
        | inl old ↦ inl old
        | inr last ↦ inr (here ∙ last)
      ])

-- ---- a run of entries of one atom

module _ (index : IndexView) (entries : List Entry) (start : ℕ) where
  pub run_more : (end : ℕ) (before after : List ℕ) → start ≤ end → apart_at index (entry_at entries end).place (entry_at entries end).number ≡ apart_at index (entry_at entries start).place (entry_at entries start).number
      → after ≡ before ++ (entry_at entries end).place ∷ [] → IsRun index entries start end before → IsRun index entries start (end + 1) after
  run_more end before after past same after_is run =
      let place : ℕ = (entry_at entries end).place in
      let Runs : List ℕ → Type 0 = λ list. IsRun index entries start (end + 1) list in
      let last : (k : ℕ) → end ≤ k → k < end + 1 → end ≡ k = λ k from below. omega (arith, from, below) in
      let AtomOf : ℕ → Type 0 = λ n. apart_at index (entry_at entries n).place (entry_at entries n).number ≡ apart_at index (entry_at entries start).place (entry_at entries start).number in
      let Owned : ℕ → Type 0 = λ n. members_of (before ++ place ∷ []) (entry_at entries n).place ≡ true in
      subst Runs (sym after_is) (record {
        one_atom = λ k from below.
            elim (cases_lt k end) [
              | inl old ↦ run.one_atom k from old
              | inr new ↦ subst AtomOf (last k new below) same
            ];
        owned = λ k from below.
            elim (cases_lt k end) [
              | inl old ↦ pushed_keeps before place (entry_at entries k).place (run.owned k from old)
              | inr new ↦ subst Owned (last k new below) (pushed_has before place)
            ];
        only = λ q there.
            elim (in_push before place q there) [
              | inl old ↦ let at = run.only q old in (at.0, at.1, omega (arith, at.2), at.3)
              | inr new ↦ (end, omega (arith, past), omega arith, new)
            ];
      })

-- ---- runs, one after the other

module _ (index : IndexView) (forced candidates : List ℕ) (vars : NumberSet) (entries : List Entry) where
  -- the entry with a number
  abbrev pub HoldsAt : ℕ → Type 0
  HoldsAt k = EntryHolds index (placed forced candidates vars) (entry_at entries k)

  module _ (start end : ℕ) (owners met : List ℕ) (run : IsRun index entries start end owners)
      (are_met : (q : ℕ) → members_of met q ≡ (members_of (forced ++ candidates) q && meets_at index q (apart_at index (entry_at entries start).place (entry_at entries start).number))) where
    abbrev meets_first : ℕ → Bool
    meets_first q = meets_at index q (apart_at index (entry_at entries start).place (entry_at entries start).number)

    pub run_says : start ≤ end → ((((k : ℕ) → k < start → HoldsAt k) × AreApart owners met (placed forced candidates vars)) ↔ ((k : ℕ) → k < end → HoldsAt k))
    run_says forward = (
      λ both k below.
          elim (cases_lt k start) [
            | inl old ↦ both.0 k old
            | inr from ↦ λ p_in r r_in hit.
                sym (both.1 (entry_at entries k).place r (run.owned k from below)
                (are_met r ∙ and_from (members_of (forced ++ candidates) r) (meets_first r) (in_play_placed forced candidates vars r r_in) (ap (meets_at index r) (sym (run.one_atom k from below)) ∙ hit)) p_in r_in)
          ],
      λ all. (
        λ k less. all k (omega (arith, less, forward)),
        λ q r q_there r_there q_in r_in.
            let k = run.only q q_there in
            let parts = and_parts (members_of (forced ++ candidates) r) (meets_first r) (sym (are_met r) ∙ r_there) in
            sym (all k.0 k.2 (ap (placed forced candidates vars) k.3 ∙ q_in) r r_in (ap (meets_at index r) (run.one_atom k.0 k.1 k.2) ∙ parts.1) ∙ k.3),
      ),
    )

  -- all entries of the list were told
  pub all_runs : (start : ℕ) → start ≡ length entries → (((k : ℕ) → k < start → HoldsAt k) ↔ All (EntryHolds index (placed forced candidates vars)) entries)
  all_runs start past = (
    λ all k d inside.
        (let HoldsOf : Entry → Type 0 = λ entry. EntryHolds index (placed forced candidates vars) entry in
        subst HoldsOf (get_or_default entries k (entry_of 0 0) d inside) (all k (omega (arith, inside, past)))),
    λ each k less. each k (entry_of 0 0) (omega (arith, less, past)),
  )

-- ---- all entries of the places in play

pub all_wide : (index : IndexView) (IsAsked : ℕ → ℕ → Type 0) (start entries : List Entry) → start ≡ [] → AddsWide index IsAsked start entries → All (IsWide index) entries
all_wide index IsAsked start entries empty lists = lists.wide (λ k d inside. absurd (omega (arith, inside, ap length empty)))

pub entries_say : (index : IndexView) (forced candidates : List ℕ) (vars : NumberSet) (start entries : List Entry) → start ≡ [] → AddsWide index (λ q j. members_of (forced ++ candidates) q ≡ true) start entries
    → ((((q : ℕ) → members_of (forced ++ candidates) q ≡ true → MeetsNarrow index (placed forced candidates vars) q) × All (EntryHolds index (placed forced candidates vars)) entries)
    ↔ ((q : ℕ) → members_of (forced ++ candidates) q ≡ true → MeetsEntries index (placed forced candidates vars) q))
entries_say index forced candidates vars start entries empty lists = (
  λ both q in_play j less.
      elim (cases_Bool (is_narrow index q j)) [
        | inl narrow ↦ both.0 q in_play j less narrow
        | inr is_wide ↦ elim (lists.all q j in_play less is_wide) [
          | inl alone ↦ λ has r r_in hit. alone.hits_none j less r hit
          | inr there ↦ All-contains (EntryHolds index (placed forced candidates vars)) entries (entry_of q j) both.1 there
        ]
      ],
  λ all. (
    λ q in_play j less narrow. all q in_play j less,
    λ k d inside p_in.
        let entry = all_wide index (λ q j. members_of (forced ++ candidates) q ≡ true) start entries empty lists k d inside in
        all (get_or entries k d).place (in_play_placed forced candidates vars (get_or entries k d).place p_in) (get_or entries k d).number entry.numbered p_in,
  ),
)
