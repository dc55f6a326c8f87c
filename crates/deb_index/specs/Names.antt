-- The names that packages have or provide, each with where it is found.
use Rattle.std.specs.Prelude.{◌≡◌, ℕ, List, ◌++◌, map, filter, length, slice_get, Some}
use Rattle.std.specs.List.{enumerate_from, flat_map}
use Rattle.std.specs.Str.{bytes_eq}
use Rattle.deb_relation.specs.Relationship.{AtomText, is_usable}
use Rattle.deb_index.specs.declared.names.Lists.{Lists}
use Rattle.deb_index.specs.declared.names.Names.{Names}
use Rattle.deb_index.specs.Packages.{PackageView, first_of_each, is_named, places_where}
use Rattle.deb_index.specs.Tables.{items_of}

-- what entries of the package at a place provide for an architecture: names, each with the place and the entry
abbrev pub numbered_entries : List ℕ → ℕ → List (ℕ × AtomText) → List (List ℕ × (ℕ × ℕ))
numbered_entries arch place entries = map (λ entry. (entry.1.name, (place, entry.0))) (filter (λ entry. is_usable arch entry.1.qualifier) entries)

abbrev pub provided_entries : List ℕ → ℕ → List AtomText → List (List ℕ × (ℕ × ℕ))
provided_entries arch place entries = numbered_entries arch place (enumerate_from 0 entries)

abbrev pub provided_places : List ℕ → List PackageView → List (List ℕ × (ℕ × ℕ))
provided_places arch packages = flat_map (λ e. provided_entries arch e.0 e.1.provides) (enumerate_from 0 packages)

-- the names of packages, and behind them those that are only provided
abbrev pub package_names : List PackageView → List (List ℕ)
package_names packages = first_of_each bytes_eq (map (λ p. p.name) packages)

abbrev pub all_names : List PackageView → List (List ℕ × (ℕ × ℕ)) → List (List ℕ)
all_names packages entries = first_of_each bytes_eq (map (λ p. p.name) packages ++ map (λ e. e.0) entries)

abbrev pub name_texts : Names → List (List ℕ)
name_texts names = names.texts

-- the names of some packages and entries, with the places of the packages that have each and the entries that provide it
pub record IsNaming (packages : List PackageView) (entries : List (List ℕ × (ℕ × ℕ))) (names : Names) : Type 0 where
  pub texts : name_texts names ≡ all_names packages entries
  pub places : map (λ (l : Lists). l.places.items) names.lists.items ≡ map (λ name. places_where (is_named name) packages) (all_names packages entries)
  pub provided : map (λ (l : Lists). l.provided.items) names.lists.items ≡ map (λ name. items_of name entries) (all_names packages entries)
  pub front : names.front ≡ length (package_names packages)

-- the number of each package's name: it leads to the name
abbrev pub AreNumbers : List PackageView → List ℕ → Type 0
AreNumbers packages numbers = map (λ n. slice_get (package_names packages) n) numbers ≡ map (λ p. Some p.name) packages
