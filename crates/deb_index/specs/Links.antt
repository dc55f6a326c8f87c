-- What is looked up by place: the rows of a package's groups and entries.
use Rattle.std.specs.Prelude.{◌≡◌, ◌<◌, ◌≤◌, ◌+◌, ◌^◌, ℕ, List, [], ◌∷◌, ◌++◌, map, length, sum_by, take, drop}
use Rattle.std.specs.List.{All, flat_map}
use Rattle.deb_index.specs.declared.links.Links.{Links}
use Rattle.deb_index.specs.declared.links.Start.{Start}
use Rattle.deb_index.specs.Packages.{PackageView, IndexView, aparts, essential_names, needs}
use Rattle.deb_index.specs.Rows.{answer_row, hit_row}
use Rattle.deb_index.specs.Tables.{asked_count, asked_limit}

-- where the part of each element begins if all parts stand behind each other, and at last where they end
unfoldable pub starts_from : {A : Type 0} → (A → ℕ) → ℕ → List A → List ℕ
starts_from count n [] = n ∷ []
starts_from count n (x ∷ xs) = n ∷ starts_from count (n + count x) xs

-- where the constraints of the package at a place begin in the list of all, and behind the last place those of the names
abbrev pub first_position : IndexView → ℕ → ℕ
first_position index place = length (essential_names index) + sum_by asked_count (take place index.packages)

-- how many groups, and how many entries, the packages before a place have
abbrev pub groups_before : IndexView → ℕ → ℕ
groups_before index place = sum_by (λ p. length (needs p)) (take place index.packages)

abbrev pub entries_before : IndexView → ℕ → ℕ
entries_before index place = sum_by (λ p. length (aparts p)) (take place index.packages)

-- the rows of some packages, and where those of each begin
pub record IsLinked (index : IndexView) (packages : List PackageView) (l : Links) : Type 0 where
  pub group_starts : map (λ s. s.group) l.starts.items ≡ starts_from (λ p. length (needs p)) 0 packages
  pub entry_starts : map (λ s. s.entry) l.starts.items ≡ starts_from (λ p. length (aparts p)) 0 packages
  pub groups : l.groups ≡ flat_map (λ p. map (answer_row index) (needs p)) packages
  pub entries : l.entries ≡ flat_map (λ p. map (hit_row index) (aparts p)) packages

-- ---- by ranges of places

-- a place is the first of a range, and another the first behind it; the packages do not ask for too much
pub record IsRange (index : IndexView) (from to : ℕ) : Type 0 where
  pub order : from ≤ to
  pub within : to ≤ length index.packages
  pub few_asked : sum_by asked_count index.packages ≤ asked_limit

-- the packages in a range
abbrev pub packages_in : IndexView → ℕ → ℕ → List PackageView
packages_in index from to = drop from (take to index.packages)

-- where the rows of a package begin, once rows that end there stand before them
abbrev pub start_behind : Start → Start → Start
start_behind end s = record { group = end.group + s.group; entry = end.entry + s.entry }

-- the same, once these rows stand before them
abbrev pub behind : Links → Start → Start
behind front = start_behind (record { group = length front.groups; entry = length front.entries })

-- rows, and others behind them
pub record AreJoined (front back both : Links) : Type 0 where
  pub starts : both.starts.items ≡ front.starts.items ++ map (behind front) (drop 1 back.starts.items)
  pub groups : both.groups ≡ front.groups ++ back.groups
  pub entries : both.entries ≡ front.entries ++ back.entries

-- rows may stand behind others: 32 bits have room for the number of each
pub record CanFollow (front back : Links) : Type 0 where
  pub some : 0 < length back.starts.items
  pub begun : All (λ s. (s.group ≤ length back.groups) × (s.entry ≤ length back.entries)) back.starts.items
  pub groups : length front.groups + length back.groups < 2 ^ 32
  pub entries : length front.entries + length back.entries < 2 ^ 32
