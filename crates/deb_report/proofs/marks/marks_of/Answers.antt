use Rattle.std.proofs.Common.{◌≡◌, ◌+◌, ◌<◌, ◌||◌, ◌∙◌, List, None, Some, ℕ, ap, arith, length, map, rules, sym, take}
use Rattle.std.specs.Prelude.{position}
use Rattle.std.specs.Str.{bytes_eq}
use Rattle.deb_index.specs.Packages.{names}
use Rattle.deb_report.specs.Since.{BrokenView, broken_view, was_broken}
use Rattle.number_sets.proofs.ListLemmas.{any_more}
use Rattle.deb_report.proofs.MarkLemmas.{mark-none, mark-set, number-named}
use Rattle.deb_report.proofs.marks.marks_of.Goals as goal
use Rattle.deb_report.proofs.marks.marks_of.Goals.{in-Some, in_default}

pub loop-deb-preserved : goal.loop-deb-preserved
loop-deb-preserved c =
    let index = c.args.index.now in
    let deb = c.deb-item.result in
    let name = deb.name.items in
    let test = was_broken (map broken_view (take c.loop-deb.deb-index c.args.before.now)) in
    let more = was_broken (map broken_view (take (c.loop-deb.deb-index + 1) c.args.before.now)) in
    let inside : c.loop-deb.deb-index < length c.args.before.now = omega arith in
    let adds : (other : List ℕ) → more other ≡ (test other || bytes_eq name other) =
    λ other. any_more (λ (one : BrokenView). bytes_eq one.name other) broken_view c.args.before.now c.loop-deb.deb-index deb inside c.deb-item.is in
    let number : c.name_number.result ≡ position (bytes_eq name) (names index) = c.name_number.ensures ∙ ap (λ (text : List ℕ). position (bytes_eq text) (names index)) c.as_slice.ensures.value in
    elim c.match-name_number.branch [
      | in-Some w ↦
          let found : position (bytes_eq name) (names index) ≡ Some w.in-Some.number = sym number ∙ w.in-Some.is in
          let named = number-named index name w.in-Some.number found in
          rw w.marks-is (mark-set index test more name c.loop-deb.marks.items w.in-Some.number c.loop-deb.invariant adds named.0 named.1)
      | in_default w ↦
          let none : c.name_number.result ≡ None = search rules in
          rw w.marks-is (mark-none index test more name c.loop-deb.marks.items c.loop-deb.invariant adds (sym number ∙ none))
    ]
