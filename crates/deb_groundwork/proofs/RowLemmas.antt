-- What loops over rows of places and over essential names come to.
use Rattle.std.proofs.Common.{◌≡◌, ℕ, ◌+◌, ◌<◌, List, length, get_or, All, sym, subst, ◌∙◌, ap, inl, inr, arith}
use Rattle.std.proofs.lemmas.Bool.{cases_lt}
use Rattle.deb_index.specs.Packages.{IndexView, essential_names, need_at, names, is_essential}
use Rattle.deb_index.specs.Meets.{group_satisfiers}
use Rattle.number_sets.specs.Sets.{members_of}
use Rattle.number_sets.proofs.ListMembers.{below_members}
use Rattle.deb_index.proofs.IndexFacts.{answers_is_place}
use Rattle.deb_groundwork.proofs.Forcing.{member_answers}
use Rattle.deb_index.proofs.MemberLemmas.{below-places_where}

-- what holds below a number holds below the next one, too
pub more_below : (Then Now : ℕ → Type 0) (i : ℕ) → ((k : ℕ) → k < i → Then k → Now k) → ((k : ℕ) → k < i → Then k) → Now i → (k : ℕ) → k < i + 1 → Now k
more_below Then Now i still so_far here k below =
    elim (cases_lt k i) [
      | inl earlier ↦ still k earlier (so_far k earlier)
      | inr last ↦ let same : i ≡ k = omega arith in subst Now same here
    ]

-- the row of a need has places only
pub row_within : (index : IndexView) (place j : ℕ) (row : List ℕ) → row ≡ group_satisfiers index (need_at index place j) → All (λ q. q < length index.packages) row
row_within index place j row row_is =
    below_members row (length index.packages)
    (λ q is_in. answers_is_place index place j q (sym (ap (λ list. members_of list q) row_is ∙ member_answers index place j q) ∙ is_in))

-- the numbers of the essential names are those of names
pub essential_below : (index : IndexView) (list : List ℕ) → list ≡ essential_names index → (i : ℕ) → i < length list → get_or list i 0 < length (names index)
essential_below index list is_that i inside =
    let Below : List ℕ → Type 0 = λ xs. All (λ n. n < length (names index)) xs in
    let all : All (λ n. n < length (names index)) list = subst Below (sym is_that) (below-places_where (is_essential index) (names index)) in
    all i 0 inside
