-- How the names of an index grow by a package, or by an entry that provides a name.
use Rattle.std.proofs.Common.{◌≡◌, ℕ, List, [], ◌∷◌, ◌++◌, map, length, get_or, set, cond, false, Some, None, refl, sym, ap, ◌∙◌, append_assoc, arith}
use Rattle.std.specs.List.{list_any}
use Rattle.std.specs.Str.{bytes_eq}
use Rattle.std.proofs.lemmas.List.{append-nil, length-append, map-append, map-set}
use Rattle.deb_index.specs.declared.names.Lists.{Lists}
use Rattle.deb_index.specs.declared.names.Names.{Names}
use Rattle.deb_index.specs.Packages.{PackageView, first_of_each, is_named, places_where}
use Rattle.deb_index.specs.Tables.{items_of, number_in}
use Rattle.deb_index.specs.Names.{IsNaming, all_names, name_texts, package_names}
use Rattle.deb_index.proofs.EnumerateLemmas.{places-push}
use Rattle.deb_index.proofs.FirstLemmas.{first-push, name-itself, other-name}
use Rattle.deb_index.proofs.NameLemmas.{all-none, entries-found, entries-none, entries_seen, lists-count, names-more, only-packages, places-found, places-none-named, places_seen}
use Rattle.deb_index.proofs.TableLemmas.{IsApart, any-turned, first-apart, items-other, items-same, map-others, names-chain, none-any, set-there, some-any}

-- ---- the first of each, and one more behind them

module _ (xs : List (List ℕ)) (name : List ℕ) where
  first-one : first_of_each bytes_eq (xs ++ name ∷ []) ≡ cond (list_any (bytes_eq name) (first_of_each bytes_eq xs)) (first_of_each bytes_eq xs) (first_of_each bytes_eq xs ++ name ∷ [])
  first-one = first-push bytes_eq names-chain xs name ∙ ap (λ b. cond b (first_of_each bytes_eq xs) (first_of_each bytes_eq xs ++ name ∷ [])) (any-turned name (first_of_each bytes_eq xs))

  first-there : (i : ℕ) → number_in name (first_of_each bytes_eq xs) ≡ Some i → first_of_each bytes_eq (xs ++ name ∷ []) ≡ first_of_each bytes_eq xs
  first-there i e = first-one ∙ ap (λ b. cond b (first_of_each bytes_eq xs) (first_of_each bytes_eq xs ++ name ∷ [])) (some-any name (first_of_each bytes_eq xs) i e)

  first-new : number_in name (first_of_each bytes_eq xs) ≡ None → first_of_each bytes_eq (xs ++ name ∷ []) ≡ first_of_each bytes_eq xs ++ name ∷ []
  first-new e = first-one ∙ ap (λ b. cond b (first_of_each bytes_eq xs) (first_of_each bytes_eq xs ++ name ∷ [])) (none-any name (first_of_each bytes_eq xs) e)

-- ---- lists by name

module _ {V T : Type 0} (name : List ℕ) (f : V → T) (g h : List ℕ → T) (other : (k : List ℕ) → bytes_eq name k ≡ false → h k ≡ g k) (vs : List V) (ks : List (List ℕ)) (seen : map f vs ≡ map g ks) where
  lists-set : (i : ℕ) (v : V) → IsApart ks → number_in name ks ≡ Some i → f v ≡ h name → map f (set vs i v) ≡ map h ks
  lists-set i v apart e is = map-set f vs i v ∙ (λ j. set (seen j) i (is j)) ∙ sym (set-there name g h other ks i apart e)

  lists-push : (v : V) → list_any (bytes_eq name) ks ≡ false → f v ≡ h name → map f (vs ++ v ∷ []) ≡ map h (ks ++ name ∷ [])
  lists-push v none is = map-append f vs (v ∷ []) ∙ (λ j. (seen ∙ sym (map-others name g h other ks none)) j ++ is j ∷ []) ∙ sym (map-append h ks (name ∷ []))

-- ---- the places of a name

module _ (packages : List PackageView) (p : PackageView) where
  places-other : (k : List ℕ) → bytes_eq p.name k ≡ false → places_where (is_named k) (packages ++ p ∷ []) ≡ places_where (is_named k) packages
  places-other k e = places-push (is_named k) packages p ∙ ap (λ b. places_where (is_named k) packages ++ cond b (length packages ∷ []) []) (other-name p.name k e) ∙ append-nil (places_where (is_named k) packages)

  places-own : places_where (is_named p.name) (packages ++ p ∷ []) ≡ places_where (is_named p.name) packages ++ length packages ∷ []
  places-own = places-push (is_named p.name) packages p ∙ ap (λ b. places_where (is_named p.name) packages ++ cond b (length packages ∷ []) []) (name-itself p.name)

-- ---- growth

-- other packages or entries are found under one name, and the same under all others
module _ {packages : List PackageView} {entries : List (List ℕ × (ℕ × ℕ))} {names : Names} (n : IsNaming packages entries names) (new : Names) (name : List ℕ) (l : Lists)
    (ps : List PackageView) (es : List (List ℕ × (ℕ × ℕ)))
    (other_places : (k : List ℕ) → bytes_eq name k ≡ false → places_where (is_named k) ps ≡ places_where (is_named k) packages) (other_entries : (k : List ℕ) → bytes_eq name k ≡ false → items_of k es ≡ items_of k entries)
    (placed : l.places.items ≡ places_where (is_named name) ps) (provided : l.provided.items ≡ items_of name es) (front : new.front ≡ length (package_names ps)) where
  -- the name is there
  grown-there : (i : ℕ) → number_in name (name_texts names) ≡ Some i → all_names ps es ≡ all_names packages entries → name_texts new ≡ name_texts names → new.lists.items ≡ set names.lists.items i l → IsNaming ps es new
  grown-there i e same texts lists =
      let number : number_in name (all_names packages entries) ≡ Some i = ap (number_in name) (sym n.texts) ∙ e in
      record {
        texts = texts ∙ n.texts ∙ sym same;
        places =
            ap (map places_seen) lists
            ∙ lists-set name places_seen (λ k. places_where (is_named k) packages) (λ k. places_where (is_named k) ps) other_places names.lists.items (all_names packages entries) n.places i l (first-apart _) number placed
            ∙ ap (map (λ k. places_where (is_named k) ps)) (sym same);
        provided =
            ap (map entries_seen) lists
            ∙ lists-set name entries_seen (λ k. items_of k entries) (λ k. items_of k es) other_entries names.lists.items (all_names packages entries) n.provided i l (first-apart _) number provided
            ∙ ap (map (λ k. items_of k es)) (sym same);
        front = front;
      }

  -- the name is new, and comes last
  grown-new : number_in name (name_texts names) ≡ None → all_names ps es ≡ all_names packages entries ++ name ∷ [] → name_texts new ≡ name_texts names ++ name ∷ [] → new.lists.items ≡ names.lists.items ++ l ∷ [] → IsNaming ps es new
  grown-new e longer texts lists =
      let absent : list_any (bytes_eq name) (all_names packages entries) ≡ false = none-any name (all_names packages entries) (ap (number_in name) (sym n.texts) ∙ e) in
      record {
        texts = texts ∙ ap (λ ks. ks ++ name ∷ []) n.texts ∙ sym longer;
        places =
            ap (map places_seen) lists
            ∙ lists-push name places_seen (λ k. places_where (is_named k) packages) (λ k. places_where (is_named k) ps) other_places names.lists.items (all_names packages entries) n.places l absent placed
            ∙ ap (map (λ k. places_where (is_named k) ps)) (sym longer);
        provided =
            ap (map entries_seen) lists
            ∙ lists-push name entries_seen (λ k. items_of k entries) (λ k. items_of k es) other_entries names.lists.items (all_names packages entries) n.provided l absent provided
            ∙ ap (map (λ k. items_of k es)) (sym longer);
        front = front;
      }

-- a package more
module _ {packages : List PackageView} {names : Names} (n : IsNaming packages [] names) (new : Names) (p : PackageView) (l : Lists) where
  pub add-there : (i : ℕ) (old : Lists) → number_in p.name (name_texts names) ≡ Some i → old ≡ get_or names.lists.items i old → l.places.items ≡ old.places.items ++ length packages ∷ [] → l.provided.items ≡ old.provided.items
      → name_texts new ≡ name_texts names → new.lists.items ≡ set names.lists.items i l → new.front ≡ names.front → IsNaming (packages ++ p ∷ []) [] new
  add-there i old e at placed kept texts lists front =
      let same : package_names (packages ++ p ∷ []) ≡ package_names packages =
      names-more packages p ∙ first-there (map (λ (q : PackageView). q.name) packages) p.name i (ap (number_in p.name) (sym (only-packages n)) ∙ e) in
      grown-there n new p.name l (packages ++ p ∷ []) [] (places-other packages p) (λ k h. refl) (placed ∙ ap (λ ps. ps ++ length packages ∷ []) (places-found n p.name i e old at) ∙ sym (places-own packages p))
      (kept ∙ entries-found n p.name i e old at) (front ∙ n.front ∙ ap length (sym same)) i e (all-none (packages ++ p ∷ []) ∙ same ∙ sym (all-none packages)) texts lists

  pub add-new : number_in p.name (name_texts names) ≡ None → l.places.items ≡ length packages ∷ [] → l.provided.items ≡ []
      → name_texts new ≡ name_texts names ++ p.name ∷ [] → new.lists.items ≡ names.lists.items ++ l ∷ [] → new.front ≡ length new.lists.items → IsNaming (packages ++ p ∷ []) [] new
  unfolding items_of
  add-new e placed none texts lists front =
      let longer : package_names (packages ++ p ∷ []) ≡ package_names packages ++ p.name ∷ [] =
      names-more packages p ∙ first-new (map (λ (q : PackageView). q.name) packages) p.name (ap (number_in p.name) (sym (only-packages n)) ∙ e) in
      let last : new.front ≡ length (package_names (packages ++ p ∷ [])) =
      omega (arith, front, ap length lists, length-append names.lists.items (l ∷ []), lists-count n, ap length (only-packages n), ap length longer, length-append (package_names packages) (p.name ∷ [])) in
      grown-new n new p.name l (packages ++ p ∷ []) [] (places-other packages p) (λ k h. refl) (placed ∙ ap (λ ps. ps ++ length packages ∷ []) (places-none-named n p.name e) ∙ sym (places-own packages p))
      none last e (all-none (packages ++ p ∷ []) ∙ longer ∙ ap (λ ks. ks ++ p.name ∷ []) (sym (all-none packages))) texts lists

-- an entry more
module _ {packages : List PackageView} {entries : List (List ℕ × (ℕ × ℕ))} {names : Names} (n : IsNaming packages entries names) (new : Names) (name : List ℕ) (entry : ℕ × ℕ) (l : Lists) where
  abbrev known : List (List ℕ)
  known = map (λ (p : PackageView). p.name) packages ++ map (λ (x : List ℕ × (ℕ × ℕ)). x.0) entries

  known-more : all_names packages (entries ++ (name, entry) ∷ []) ≡ first_of_each bytes_eq (known ++ name ∷ [])
  known-more = ap (λ ks. first_of_each bytes_eq (map (λ (p : PackageView). p.name) packages ++ ks)) (map-append (λ (x : List ℕ × (ℕ × ℕ)). x.0) entries ((name, entry) ∷ []))
      ∙ ap (first_of_each bytes_eq) (sym (append_assoc (map (λ (p : PackageView). p.name) packages) (map (λ (x : List ℕ × (ℕ × ℕ)). x.0) entries) (name ∷ [])))

  pub entry-there : (i : ℕ) (old : Lists) → number_in name (name_texts names) ≡ Some i → old ≡ get_or names.lists.items i old → l.places.items ≡ old.places.items → l.provided.items ≡ old.provided.items ++ entry ∷ []
      → name_texts new ≡ name_texts names → new.lists.items ≡ set names.lists.items i l → new.front ≡ names.front → IsNaming packages (entries ++ (name, entry) ∷ []) new
  entry-there i old e at kept provided texts lists front =
      grown-there n new name l packages (entries ++ (name, entry) ∷ []) (λ k h. refl) (items-other name entry entries) (kept ∙ places-found n name i e old at)
      (provided ∙ ap (λ es. es ++ entry ∷ []) (entries-found n name i e old at) ∙ sym (items-same name entry entries)) (front ∙ n.front) i e
      (known-more ∙ first-there known name i (ap (number_in name) (sym n.texts) ∙ e)) texts lists

  pub entry-new : number_in name (name_texts names) ≡ None → l.places.items ≡ [] → l.provided.items ≡ entry ∷ []
      → name_texts new ≡ name_texts names ++ name ∷ [] → new.lists.items ≡ names.lists.items ++ l ∷ [] → new.front ≡ names.front → IsNaming packages (entries ++ (name, entry) ∷ []) new
  entry-new e none provided texts lists front =
      grown-new n new name l packages (entries ++ (name, entry) ∷ []) (λ k h. refl) (items-other name entry entries) (none ∙ places-none-named n name e)
      (provided ∙ ap (λ es. es ++ entry ∷ []) (entries-none n name e) ∙ sym (items-same name entry entries)) (front ∙ n.front) e
      (known-more ∙ first-new known name (ap (number_in name) (sym n.texts) ∙ e)) texts lists
