-- What an index looks up by place: how it grows by a package, and what stands at a place.
use Rattle.std.proofs.Common.{◌≡◌, ◌<◌, ◌≤◌, ◌+◌, ℕ, List, [], ◌∷◌, ◌++◌, map, length, take, drop, get_or, sum_by, Option, None, Result, Ok, Err, IfOk, OnOk, refl, sym, ap, ◌∙◌, append_assoc, arith}
use Rattle.std.specs.List.{flat_map}
use Rattle.std.proofs.lemmas.List.{drop-map, get_or-map, length-append, length-map, map-append, take_more}
use Rattle.std.proofs.lemmas.Grind.{flat_map-append}
use Rattle.std.proofs.lemmas.List.Concat.{length-flat_map}
use Rattle.std.proofs.lemmas.List.Sums.{sum_by-append}
use Rattle.deb_index.specs.declared.links.Links.{Links}
use Rattle.deb_index.specs.declared.links.Start.{Start}
use Rattle.deb_index.specs.Packages.{IndexView, PackageView, aparts, aparts_at, apart_at, need_at, needs, needs_at, no_atom, no_package}
use Rattle.deb_index.specs.Tables.{asked_count, asked_limit}
use Rattle.deb_index.specs.Rows.{answer_row, hit_row}
use Rattle.deb_index.specs.Links.{AreJoined, CanFollow, IsLinked, behind, entries_before, groups_before, starts_from}
use Rattle.deb_index.proofs.PartLemmas.{flat-at, flat-push, flat-within, start-at, starts-joined, starts-length, starts-none, starts-push, sum-less, sum-more, sum-take}

pub on-ok : {A E : Type 0} {P Q : Type 0} (r : Result A E) → (P → Q) → OnOk r P → OnOk r Q
on-ok (Ok x) f h = f h
on-ok (Err e) f h = tt

pub if-ok : {A E : Type 0} {P Q : A → Type 0} (r : Result A E) → ((x : A) → P x → Q x) → IfOk r P → IfOk r Q
if-ok (Ok x) f h = f x h
if-ok (Err e) f h = tt

-- one row more, of the next element
pub rows-more : {A B : Type 0} (f : A → B) (front : List B) (xs : List A) (n : ℕ) (d : A) → n < length xs → (front ++ map f (take n xs)) ++ f (get_or xs n d) ∷ [] ≡ front ++ map f (take (n + 1) xs)
rows-more f front xs n d less =
    append_assoc front (map f (take n xs)) (f (get_or xs n d) ∷ [])
    ∙ ap (λ l. front ++ l) (sym (ap (map f) (take_more xs n d less) ∙ map-append f (take n xs) (get_or xs n d ∷ [])))

pub rows-fit : {A B : Type 0} (f : A → B) (old new : List B) (xs : List A) {limit : ℕ} → new ≡ old ++ map f xs → length old + length xs ≤ limit → length new ≤ limit
rows-fit f old new xs are fit = omega (arith, fit, ap length are, length-append old (map f xs), length-map xs f)

-- ---- the rows of one kind, each package's behind those of the one before

abbrev Row : Type 0
Row = Option (List ℕ)

module _ (count : PackageView → ℕ) (rows_of : PackageView → List Row) (counts : (p : PackageView) → length (rows_of p) ≡ count p) where
  sums : (packages : List PackageView) → sum_by (λ p. length (rows_of p)) packages ≡ sum_by count packages
  sums packages = λ i. sum_by (λ p. counts p i) packages

  rows-length : (packages : List PackageView) → length (flat_map rows_of packages) ≡ sum_by count packages
  rows-length packages = length-flat_map rows_of packages ∙ sums packages

  -- a package more
  module _ (packages : List PackageView) (p : PackageView) (old new : List Row) (are : old ≡ flat_map rows_of packages) (more : new ≡ old ++ rows_of p) where
    rows-push : new ≡ flat_map rows_of (packages ++ p ∷ [])
    rows-push = more ∙ ap (λ l. l ++ rows_of p) are ∙ sym (flat-push rows_of packages p)

    starts-more : (ns : List ℕ) (n : ℕ) → ns ≡ starts_from count 0 packages → n ≡ length new → ns ++ n ∷ [] ≡ starts_from count 0 (packages ++ p ∷ [])
    starts-more ns n begun e = (λ i. begun i ++ (e ∙ ap length rows-push ∙ rows-length (packages ++ p ∷ [])) i ∷ []) ∙ sym (starts-push count packages p)

    rows-few : (total : PackageView → ℕ) → ((q : PackageView) → count q ≤ total q) → length new ≤ sum_by total (packages ++ p ∷ [])
    rows-few total less = omega (arith, ap length rows-push, rows-length (packages ++ p ∷ []), sum-less count total less (packages ++ p ∷ []))

  -- what stands at a place
  module _ (packages : List PackageView) (rows : List Row) (are : rows ≡ flat_map rows_of packages) (i : ℕ) (less : i < length packages) where
    row-within : (j n : ℕ) → j < count (get_or packages i no_package) → n ≡ sum_by count (take i packages) + j → n < length rows
    row-within j n h e = omega (arith, e, ap length are, sums (take i packages), flat-within rows_of packages i j no_package less (omega (arith, h, counts (get_or packages i no_package))))

    row-at : (j n : ℕ) → j < count (get_or packages i no_package) → n ≡ sum_by count (take i packages) + j → get_or rows n None ≡ get_or (rows_of (get_or packages i no_package)) j None
    row-at j n h e =
        let at : n ≡ sum_by (λ p. length (rows_of p)) (take i packages) + j = omega (arith, e, sums (take i packages)) in
        ap (λ m. get_or rows m None) at ∙ ap (λ rs. get_or rs (sum_by (λ p. length (rows_of p)) (take i packages) + j) None) are
        ∙ flat-at rows_of packages i j no_package None less (omega (arith, h, counts (get_or packages i no_package)))

-- ---- both kinds

abbrev need_count : PackageView → ℕ
need_count p = length (needs p)

abbrev apart_count : PackageView → ℕ
apart_count p = length (aparts p)

abbrev group_of : Start → ℕ
group_of s = s.group

abbrev entry_of : Start → ℕ
entry_of s = s.entry

pub linked-none : (index : IndexView) (l : Links) → l.starts.items ≡ record { group = 0; entry = 0 } ∷ [] → l.groups ≡ [] → l.entries ≡ [] → IsLinked index [] l
linked-none index l s g e = record { group_starts = ap (map group_of) s ∙ sym (starts-none need_count); entry_starts = ap (map entry_of) s ∙ sym (starts-none apart_count); groups = g; entries = e }

module _ (index : IndexView) where
  abbrev group_rows : PackageView → List Row
  group_rows p = map (answer_row index) (needs p)

  abbrev entry_rows : PackageView → List Row
  entry_rows p = map (hit_row index) (aparts p)

  groups-count : (p : PackageView) → length (group_rows p) ≡ need_count p
  groups-count p = length-map (needs p) (answer_row index)

  entries-count : (p : PackageView) → length (entry_rows p) ≡ apart_count p
  entries-count p = length-map (aparts p) (hit_row index)

  module _ (packages : List PackageView) (p : PackageView) (old new : Links) (o : IsLinked index packages old)
      (g : new.groups ≡ old.groups ++ group_rows p) (e : new.entries ≡ old.entries ++ entry_rows p) where
    pub linked-push : (s : Start) → new.starts.items ≡ old.starts.items ++ s ∷ []
        → s.group ≡ length new.groups → s.entry ≡ length new.entries → IsLinked index (packages ++ p ∷ []) new
    linked-push s ss sg se = record {
      group_starts = ap (map group_of) ss ∙ map-append group_of old.starts.items (s ∷ []) ∙ starts-more need_count group_rows groups-count packages p old.groups new.groups o.groups g _ s.group o.group_starts sg;
      entry_starts = ap (map entry_of) ss ∙ map-append entry_of old.starts.items (s ∷ []) ∙ starts-more apart_count entry_rows entries-count packages p old.entries new.entries o.entries e _ s.entry o.entry_starts se;
      groups = rows-push need_count group_rows groups-count packages p old.groups new.groups o.groups g;
      entries = rows-push apart_count entry_rows entries-count packages p old.entries new.entries o.entries e;
    }

  -- there are no more rows than packages ask for, also with those of one more
  module _ (packages : List PackageView) (p : PackageView) (l : Links) (k : IsLinked index packages l) where
    pub groups-room : length l.groups + need_count p ≤ sum_by asked_count (packages ++ p ∷ [])
    groups-room =
        let few = rows-few need_count group_rows groups-count packages p l.groups (l.groups ++ group_rows p) k.groups refl asked_count (λ q. omega arith) in
        omega (arith, few, length-append l.groups (group_rows p), groups-count p)

    pub entries-room : length l.entries + apart_count p ≤ sum_by asked_count (packages ++ p ∷ [])
    entries-room =
        let few = rows-few apart_count entry_rows entries-count packages p l.entries (l.entries ++ entry_rows p) k.entries refl asked_count (λ q. omega arith) in
        omega (arith, few, length-append l.entries (entry_rows p), entries-count p)

-- where a package's rows begin
module _ (part : Start → ℕ) (count : PackageView → ℕ) where
  module _ (packages : List PackageView) (starts : List Start) (are : map part starts ≡ starts_from count 0 packages) where
    parts-long : length starts ≡ length packages + 1
    parts-long = sym (length-map starts part) ∙ ap length are ∙ starts-length count packages

    part-at : (i : ℕ) (d : Start) → i < length starts → part (get_or starts i d) ≡ sum_by count (take i packages)
    part-at i d inside = sym (get_or-map part starts i d 0 inside) ∙ ap (λ ns. get_or ns i 0) are ∙ start-at count i packages (omega (arith, parts-long))

  -- the same where they stand behind those of other packages
  module _ (front back : List PackageView) (fs bs both : List Start) (a : ℕ) (to : Start → Start) (moves : (s : Start) → part (to s) ≡ a + part s) (stand : a ≡ sum_by count front)
      (f : map part fs ≡ starts_from count 0 front) (b : map part bs ≡ starts_from count 0 back) (joined : both ≡ fs ++ map to (drop 1 bs)) where
    moved : (ss : List Start) → map part (map to ss) ≡ map (λ m. a + m) (map part ss)
    moved [] = refl
    moved (s ∷ ss) = λ i. moves s i ∷ moved ss i

    parts-joined : map part both ≡ starts_from count 0 (front ++ back)
    parts-joined =
        ap (map part) joined ∙ map-append part fs (map to (drop 1 bs))
        ∙ (λ i. f i ++ (moved (drop 1 bs) ∙ ap (map (λ m. a + m)) (sym (drop-map part 1 bs) ∙ ap (drop 1) b)) i)
        ∙ sym (starts-joined count a front back stand)

-- the rows of some packages stand behind those of others
module _ (index : IndexView) (front back : List PackageView) (f b : Links) (fk : IsLinked index front f) (bk : IsLinked index back b) where
  few-groups : length f.groups + length b.groups ≤ sum_by asked_count (front ++ back)
  few-groups = omega (
    arith,
    ap length fk.groups,
    rows-length need_count (group_rows index) (groups-count index) front,
    ap length bk.groups,
    rows-length need_count (group_rows index) (groups-count index) back,
    sum-less need_count asked_count (λ p. omega arith) front,
    sum-less need_count asked_count (λ p. omega arith) back,
    sum_by-append asked_count front back,
  )

  few-entries : length f.entries + length b.entries ≤ sum_by asked_count (front ++ back)
  few-entries = omega (
    arith,
    ap length fk.entries,
    rows-length apart_count (entry_rows index) (entries-count index) front,
    ap length bk.entries,
    rows-length apart_count (entry_rows index) (entries-count index) back,
    sum-less apart_count asked_count (λ p. omega arith) front,
    sum-less apart_count asked_count (λ p. omega arith) back,
    sum_by-append asked_count front back,
  )

  pub can-follow : sum_by asked_count (front ++ back) ≤ asked_limit → CanFollow f b
  can-follow few = record {
    some = omega (arith, parts-long group_of need_count back b.starts.items bk.group_starts);
    begun = λ i d inside. (
      omega (
        arith,
        part-at group_of need_count back b.starts.items bk.group_starts i d inside,
        sum-take need_count i back,
        ap length bk.groups,
        rows-length need_count (group_rows index) (groups-count index) back,
      ),
      omega (
        arith,
        part-at entry_of apart_count back b.starts.items bk.entry_starts i d inside,
        sum-take apart_count i back,
        ap length bk.entries,
        rows-length apart_count (entry_rows index) (entries-count index) back,
      ),
    );
    groups = omega (arith, few, few-groups);
    entries = omega (arith, few, few-entries);
  }

  pub linked-both : (both : Links) → AreJoined f b both → IsLinked index (front ++ back) both
  linked-both both j = record {
    group_starts = parts-joined group_of need_count front back f.starts.items b.starts.items both.starts.items (length f.groups) (behind f) (λ s. refl)
        (ap length fk.groups ∙ rows-length need_count (group_rows index) (groups-count index) front) fk.group_starts bk.group_starts j.starts;
    entry_starts = parts-joined entry_of apart_count front back f.starts.items b.starts.items both.starts.items (length f.entries) (behind f) (λ s. refl)
        (ap length fk.entries ∙ rows-length apart_count (entry_rows index) (entries-count index) front) fk.entry_starts bk.entry_starts j.starts;
    groups = j.groups ∙ (λ i. fk.groups i ++ bk.groups i) ∙ sym (flat_map-append (group_rows index) front back);
    entries = j.entries ∙ (λ i. fk.entries i ++ bk.entries i) ∙ sym (flat_map-append (entry_rows index) front back);
  }

module _ (index : IndexView) (l : Links) (k : IsLinked index index.packages l) where
  pub starts-long : length l.starts.items ≡ length index.packages + 1
  starts-long = parts-long group_of need_count index.packages l.starts.items k.group_starts

  module _ (i : ℕ) (s : Start) (less : i ≤ length index.packages) (at : s ≡ get_or l.starts.items i s) where
    pub group-start : s.group ≡ groups_before index i
    group-start = ap group_of at ∙ part-at group_of need_count index.packages l.starts.items k.group_starts i s (omega (arith, starts-long))

    pub entry-start : s.entry ≡ entries_before index i
    entry-start = ap entry_of at ∙ part-at entry_of apart_count index.packages l.starts.items k.entry_starts i s (omega (arith, starts-long))

  -- the rows of the package at a place
  module _ (i : ℕ) (less : i < length index.packages) (first j : ℕ) where
    pub group-within : first ≡ groups_before index i → j < length (needs_at index i) → first + j < length l.groups
    group-within at h = row-within need_count (group_rows index) (groups-count index) index.packages l.groups k.groups i less j _ h (ap (λ m. m + j) at)

    pub group-at : first ≡ groups_before index i → j < length (needs_at index i) → get_or l.groups (first + j) None ≡ answer_row index (need_at index i j)
    group-at at h = row-at need_count (group_rows index) (groups-count index) index.packages l.groups k.groups i less j _ h (ap (λ m. m + j) at) ∙ get_or-map (answer_row index) (needs_at index i) j [] None h

    pub entry-within : first ≡ entries_before index i → j < length (aparts_at index i) → first + j < length l.entries
    entry-within at h = row-within apart_count (entry_rows index) (entries-count index) index.packages l.entries k.entries i less j _ h (ap (λ m. m + j) at)

    pub entry-at : first ≡ entries_before index i → j < length (aparts_at index i) → get_or l.entries (first + j) None ≡ hit_row index (apart_at index i j)
    entry-at at h = row-at apart_count (entry_rows index) (entries-count index) index.packages l.entries k.entries i less j _ h (ap (λ m. m + j) at) ∙ get_or-map (hit_row index) (aparts_at index i) j no_atom None h

-- how many groups, and how many entries, a package has
module _ (index : IndexView) (i : ℕ) (less : i < length index.packages) where
  pub groups-next : groups_before index (i + 1) ≡ groups_before index i + length (needs_at index i)
  groups-next = sum-more need_count index.packages i no_package less

  pub entries-next : entries_before index (i + 1) ≡ entries_before index i + length (aparts_at index i)
  entries-next = sum-more apart_count index.packages i no_package less
