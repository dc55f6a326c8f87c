-- The versions of a name in their order: those within a bound lie between two points.
use Rattle.std.proofs.Common.{◌≡◌, ℕ, zero, suc, ◌-◌, ◌<◌, ◌≤◌, Bool, true, false, ◌&&◌, not, leb, ltb, List, [], ◌∷◌, length, filter, take, drop, get_or, refl, sym, ap, ◌∙◌, subst, arith}
use Rattle.std.specs.List.{AllWithin}
use Rattle.std.specs.List.Sorted.{IsNonDecreasingBy, IsPartitionedBy, IsSortedByKey}
use Rattle.std.specs.Ordering.{is_eq, is_ge, is_gt, is_le, is_lt, ordering_index}
use Rattle.std.specs.declared.cmp.Ordering.{Ordering}
use Rattle.std.specs.declared.cmp.Ordering.TheVariants.{Less, Equal, Greater}
use Rattle.std.proofs.lemmas.Bool.{leb-false, leb-true, true≢false}
use Rattle.std.proofs.lemmas.List.Sorted.{IsPartitionedBy-ltb, searchable_from_sorted}
use Rattle.deb_relation.specs.VersionOrder.{bound_holds, version_cmp}
use Rattle.deb_relation.specs.declared.bound.Op.TheVariants.{Lt, Le, Eq, Ge, Gt}
use Rattle.deb_relation.proofs.OrderLaws.{version_total}
use Rattle.deb_index.specs.Rows.{IsPoint}
use Rattle.deb_index.specs.declared.versions.Offer.{Offer}

and-none : (b : Bool) → (b && false) ≡ false
and-none b = grind arith

-- what passes a test, where that is what lies between two points
module _ {A : Type 0} (p : A → Bool) where
  none-pass : (xs : List A) → AllWithin (λ x. p x ≡ false) xs 0 (length xs) → filter p xs ≡ []
  none-pass [] fail = refl
  none-pass (x ∷ xs) fail = rw (fail 0 x (omega arith) (omega arith)) (none-pass xs (λ k d low less. fail (suc k) d (omega arith) (omega arith)))

  between : (xs : List A) (from end : ℕ) → from ≤ end → end ≤ length xs → AllWithin (λ x. p x ≡ false) xs 0 from → AllWithin (λ x. p x ≡ true) xs from end
      → AllWithin (λ x. p x ≡ false) xs end (length xs) → take (end - from) (drop from xs) ≡ filter p xs
  between xs zero zero le few before within behind = sym (none-pass xs behind)
  between [] zero (suc end) le few before within behind = absurd (omega (arith, few))
  between (x ∷ xs) zero (suc end) le few before within behind =
      let next : suc end - 0 ≡ suc (end - 0) = omega arith in
      ap (λ n. take n (x ∷ xs)) next ∙ rw (within 0 x (omega arith) (omega arith)) (ap (λ ys. x ∷ ys) (between xs 0 end (omega arith) (omega (arith, few)) (λ k d low less. absurd (omega (arith, less)))
      (λ k d low less. within (suc k) d (omega arith) (omega (arith, less))) (λ k d low less. behind (suc k) d (omega (arith, low)) (omega (arith, less)))))
  between xs (suc from) zero le few before within behind = absurd (omega (arith, le))
  between [] (suc from) (suc end) le few before within behind = absurd (omega (arith, few))
  between (x ∷ xs) (suc from) (suc end) le few before within behind =
      let next : suc end - suc from ≡ end - from = omega arith in
      ap (λ n. take n (drop from xs)) next ∙ rw (before 0 x (omega arith) (omega arith)) (between xs from end (omega (arith, le)) (omega (arith, few)) (λ k d low less. before (suc k) d (omega arith) (omega (arith, less)))
      (λ k d low less. within (suc k) d (omega (arith, low)) (omega (arith, less))) (λ k d low less. behind (suc k) d (omega (arith, low)) (omega (arith, less))))

  front : (xs : List A) (end : ℕ) → end ≤ length xs → IsPoint p xs end → take end xs ≡ filter p xs
  front xs end few point =
      let all : end ≡ end - 0 = omega arith in
      ap (λ n. take n xs) all ∙ between xs 0 end (omega arith) few (λ k d low less. absurd (omega (arith, less))) point.0 point.1

  back : (xs : List A) (from : ℕ) → from ≤ length xs → AllWithin (λ x. p x ≡ false) xs 0 from → AllWithin (λ x. p x ≡ true) xs from (length xs)
      → take (length xs - from) (drop from xs) ≡ filter p xs
  back xs from few before within = between xs from (length xs) few (omega arith) before within (λ k d low less. absurd (omega (arith, low, less)))

-- ---- how a version stands to another

lt-index : (o : Ordering) → ltb (ordering_index o) 1 ≡ is_lt o
lt-index Less = refl
lt-index Equal = refl
lt-index Greater = refl

le-index : (o : Ordering) → ltb (ordering_index o) 2 ≡ is_le o
le-index Less = refl
le-index Equal = refl
le-index Greater = refl

lt-le : (o : Ordering) → is_lt o ≡ true → is_le o ≡ true
lt-le Less e = refl
lt-le Equal e = refl
lt-le Greater e = e

ge-lt : (o : Ordering) → is_ge o ≡ not (is_lt o)
ge-lt Less = refl
ge-lt Equal = refl
ge-lt Greater = refl

gt-le : (o : Ordering) → is_gt o ≡ not (is_le o)
gt-le Less = refl
gt-le Equal = refl
gt-le Greater = refl

eq-both : (o : Ordering) → is_eq o ≡ (not (is_lt o) && is_le o)
eq-both Less = refl
eq-both Equal = refl
eq-both Greater = refl

module _ (offers : List Offer) (than : List ℕ) where
  abbrev pub ordering : Offer → Ordering
  ordering o = version_cmp o.version.now than

  module _ (sorted : IsSortedByKey (λ (o : Offer). o.version.now) version_cmp offers) where
    rises : IsNonDecreasingBy (λ o. ordering_index (ordering o)) offers
    rises = searchable_from_sorted version_total (λ (o : Offer). o.version.now) offers than sorted

    pub parted-lt : IsPartitionedBy (λ o. is_lt (ordering o)) offers
    parted-lt = subst (λ (p : Offer → Bool). IsPartitionedBy p offers) (λ i o. lt-index (ordering o) i) (IsPartitionedBy-ltb (λ o. ordering_index (ordering o)) offers 1 rises)

    pub parted-le : IsPartitionedBy (λ o. is_le (ordering o)) offers
    parted-le = subst (λ (p : Offer → Bool). IsPartitionedBy p offers) (λ i o. le-index (ordering o) i) (IsPartitionedBy-ltb (λ o. ordering_index (ordering o)) offers 2 rises)

  module _ (below : ℕ) (few : below ≤ length offers) (lower : IsPoint (λ o. is_lt (ordering o)) offers below) where
    pub within-lt : take below offers ≡ filter (λ o. bound_holds o.version.now Lt than) offers
    within-lt = front (λ o. is_lt (ordering o)) offers below few lower

    pub within-ge : take (length offers - below) (drop below offers) ≡ filter (λ o. bound_holds o.version.now Ge than) offers
    within-ge = back (λ o. is_ge (ordering o)) offers below few (λ k d low less. ge-lt _ ∙ ap not (lower.0 k d low less)) (λ k d low less. ge-lt _ ∙ ap not (lower.1 k d low less))

  module _ (up_to : ℕ) (few : up_to ≤ length offers) (upper : IsPoint (λ o. is_le (ordering o)) offers up_to) where
    pub within-le : take up_to offers ≡ filter (λ o. bound_holds o.version.now Le than) offers
    within-le = front (λ o. is_le (ordering o)) offers up_to few upper

    pub within-gt : take (length offers - up_to) (drop up_to offers) ≡ filter (λ o. bound_holds o.version.now Gt than) offers
    within-gt = back (λ o. is_gt (ordering o)) offers up_to few (λ k d low less. gt-le _ ∙ ap not (upper.0 k d low less)) (λ k d low less. gt-le _ ∙ ap not (upper.1 k d low less))

  module _ (below up_to : ℕ) (few : below ≤ length offers) (few_too : up_to ≤ length offers)
      (lower : IsPoint (λ o. is_lt (ordering o)) offers below) (upper : IsPoint (λ o. is_le (ordering o)) offers up_to) where
    pub in-turn : below ≤ up_to
    in-turn = by offers refl (leb below up_to) refl
      where
        by : (list : List Offer) → list ≡ offers → (t : Bool) → leb below up_to ≡ t → below ≤ up_to
        by list is true t = leb-true below up_to t
        by [] is false t = let less = leb-false below up_to t in absurd (omega (arith, few, ap length is, less))
        by (o ∷ more) is false t =
            let less = leb-false below up_to t in
            absurd (true≢false (sym (lt-le (ordering (get_or offers up_to o)) (lower.0 up_to o (omega arith) less)) ∙ upper.1 up_to o (omega arith) (omega (arith, less, few))))

    pub within-eq : take (up_to - below) (drop below offers) ≡ filter (λ o. bound_holds o.version.now Eq than) offers
    within-eq = between (λ o. is_eq (ordering o)) offers below up_to in-turn few_too
        (λ k d low less. eq-both _ ∙ ap (λ b. not b && is_le (ordering (get_or offers k d))) (lower.0 k d low less))
        (λ k d low less. eq-both _ ∙ (λ i. not (lower.1 k d low (omega (arith, less, few_too)) i) && upper.0 k d (omega arith) less i))
        (λ k d low less. eq-both _ ∙ ap (λ b. not (is_lt (ordering (get_or offers k d))) && b) (upper.1 k d low less) ∙ and-none (not (is_lt (ordering (get_or offers k d)))))
