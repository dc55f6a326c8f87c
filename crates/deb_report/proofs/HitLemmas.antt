-- The places that entries hit.
use Rattle.std.proofs.Common.{◌≡◌, ◌==◌, ℕ, ◌<◌, ◌≤◌, Bool, false, not, ◌&&◌, ◌||◌, List, [], ◌∷◌, ◌++◌, All, length, filter, refl, ap, ap₂, ◌∙◌, arith}
use Rattle.std.specs.List.{list_any, range_with_len}
use Rattle.std.specs.List.Sorted.{IsStrictlyIncreasing}
use Rattle.std.proofs.lemmas.List.Elements.{All-filter}
use Rattle.std.proofs.lemmas.List.Folds.{list_any-append}
use Rattle.std.proofs.lemmas.List.FromFn.{get_or-range_with_len, length-range_with_len}
use Rattle.std.proofs.lemmas.Option.{slice_get_past}
use Rattle.deb_index.specs.declared.constraint.Constraint.{Constraint}
use Rattle.deb_index.specs.declared.constraint.Constraint.TheVariants.{Essential, Need, Apart, Only}
use Rattle.deb_index.specs.Constraints.{below}
use Rattle.deb_index.specs.Meets.{meets, satisfiers}
use Rattle.deb_index.specs.Packages.{IndexView, PackageView, apart_at, is_in}
use Rattle.deb_index.proofs.BelowLemmas.{in-filter, rising-below}
use Rattle.deb_index.proofs.MemberLemmas.{member-places_where}
use Rattle.deb_report.specs.Answers.{hits_of, is_hit_by}

-- what an entry hits
pub hit-added : (index : IndexView) (place number q : ℕ) (old new : List ℕ) → new ≡ old ++ filter (λ hit. not (hit == place)) (satisfiers index (apart_at index place number))
    → is_in new q ≡ (is_in old q || is_hit_by index q (Apart place number))
hit-added index place number q old new is =
    let test : PackageView → Bool = λ deb. meets index.arch deb (apart_at index place number) in
    ap (λ hits. is_in hits q) is
    ∙ list_any-append (λ hit. hit == q) old (filter (λ hit. not (hit == place)) (satisfiers index (apart_at index place number)))
    ∙ ap (λ some. is_in old q || some) (in-filter (λ hit. not (hit == place)) (satisfiers index (apart_at index place number)) q
    ∙ ap (λ met. met && not (q == place)) (member-places_where test index.packages q))

-- nothing hits past the last place
no-hit : (index : IndexView) (q : ℕ) (constraint : Constraint) → length index.packages ≤ q → is_hit_by index q constraint ≡ false
no-hit index q (Essential name) past = refl
no-hit index q (Need place number) past = refl
no-hit index q (Apart place number) past = rw (slice_get_past index.packages q past) refl
no-hit index q (Only name) past = refl

no-hits : (index : IndexView) (q : ℕ) (constraints : List Constraint) → length index.packages ≤ q → list_any (is_hit_by index q) constraints ≡ false
no-hits index q [] past = refl
no-hits index q (c ∷ cs) past = ap₂ (λ a b. a || b) (no-hit index q c past) (no-hits index q cs past)

-- the places that were found, in order
pub hits-are : (index : IndexView) (constraints : List Constraint) (hits : List ℕ) → IsStrictlyIncreasing hits → ((q : ℕ) → is_in hits q ≡ list_any (is_hit_by index q) constraints)
    → hits ≡ hits_of index constraints
unfolding hits_of
hits-are index constraints hits rising same =
    rising-below (λ place. list_any (is_hit_by index place) constraints) (length index.packages) hits rising same (λ q past. no-hits index q constraints past)

-- ---- they are places of the index

range-within : (n : ℕ) → All (λ place. place < n) (range_with_len 0 n)
range-within n k d inside =
    let size : length (range_with_len 0 n) ≡ n = length-range_with_len 0 n in
    omega (arith, get_or-range_with_len 0 n k d (omega arith))

pub hits-within : (index : IndexView) (constraints : List Constraint) → All (λ place. place < length index.packages) (hits_of index constraints)
unfolding hits_of
hits-within index constraints =
    All-filter (λ place. list_any (is_hit_by index place) constraints) (λ place. place < length index.packages) (below (length index.packages)) (range-within (length index.packages))
