use Rattle.std.proofs.Common.{◌≡◌, ◌+◌, ◌<◌, ◌≤◌, ◌∙◌, ◌||◌, ℕ, ap, arith, false, get_or, length, map, replicate, rules, sym}
use Rattle.std.proofs.lemmas.List.{get_or-replicate, get_or-take, length-take-le}
use Rattle.std.proofs.lemmas.List.Elements.{All-same}
use Rattle.deb_index.specs.Packages.{no_package, package_at, places_where}
use Rattle.deb_report.specs.Outcome.{foreground_packages, is_listed}
use Rattle.number_sets.proofs.ListLemmas.{front_of}
use Rattle.deb_index.proofs.MemberLemmas.{where_from}
use Rattle.number_sets.proofs.PlaceLemmas.{places-few, places-marked, places-within, places_from}
use Rattle.deb_report.proofs.asked.listed_places.Goals as goal

-- what is marked, and nothing else, is collected
pub returns-clause-value : goal.returns-clause-value
returns-clause-value c =
    let index = c.args.index.now in
    let test = is_listed (map (λ name. name.items) c.args.names.now) in
    let marks = c.as_slice.result.now in
    let asked = foreground_packages index in
    let found : c.in_ok-marked_places.field-0.items ≡ places_where (λ mark. mark) marks = search rules in
    let count : length asked ≡ index.foreground = length-take-le index.foreground index.packages c.foreground.ensures.front in
    let same : length marks ≡ index.foreground = search rules in
    let fresh : c.as_mut_slice.result.now ≡ replicate c.foreground.result false = c.as_mut_slice.ensures.value ∙ c.in_ok-marks.ensures.items_if_clones_equal (λ mark is. is) in
    let none : (k : ℕ) → k < index.foreground → get_or c.as_mut_slice.result.now k false ≡ false =
    λ k inside. ap (λ xs. get_or xs k false) fresh ∙ get_or-replicate c.foreground.result k false false (rw c.foreground.ensures.value inside) in
    let size : length c.mark_names.new.marks ≡ c.in_ok-marks.marks.len = search rules in
    let after : marks ≡ c.mark_names.new.marks = c.as_slice.ensures.value ∙ front_of c.mark_names.new.marks _ c.in_ok-marks.marks.len size in
    let tell : (k : ℕ) → k < length asked → get_or marks k false ≡ test (get_or asked k no_package) =
    λ k inside.
    let inside_front : k < index.foreground = omega arith in
    ap (λ xs. get_or xs k false) after ∙ c.mark_names.ensures k (search rules) ∙ ap (λ mark. mark || test (package_at index k)) (none k inside_front)
    ∙ ap test (sym (get_or-take index.foreground index.packages k no_package inside_front)) in
    found ∙ where_from (λ mark. mark) marks ∙ places-marked test 0 marks asked no_package (same ∙ sym count) tell ∙ sym (where_from test asked)

pub returns-clause-few : goal.returns-clause-few
returns-clause-few c =
    let marks = c.as_slice.result.now in
    let found : c.in_ok-marked_places.field-0.items ≡ places_where (λ mark. mark) marks = search rules in
    let same : length marks ≡ c.args.index.now.foreground = search rules in
    let few = places-few (λ mark. mark) 0 marks in
    rw (found, where_from (λ mark. mark) marks) (omega arith)

pub returns-clause-within : goal.returns-clause-within
returns-clause-within c =
    let marks = c.as_slice.result.now in
    let found : c.in_ok-marked_places.field-0.items ≡ places_where (λ mark. mark) marks = search rules in
    let same : length marks ≡ c.args.index.now.foreground = search rules in
    let within = c.foreground.ensures.front in
    let fits : 0 + length marks ≤ length c.args.index.now.packages = omega arith in
    All-same (λ place. place < length c.args.index.now.packages) c.in_ok-marked_places.field-0.items (places_from (λ mark. mark) 0 marks)
    (found ∙ where_from (λ mark. mark) marks) (places-within (λ mark. mark) 0 (length c.args.index.now.packages) marks fits)
