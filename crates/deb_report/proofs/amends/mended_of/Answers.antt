use Rattle.std.proofs.Common.{◌≡◌, ◌<◌, ◌∙◌, All, Bor, ℕ, List, ap, arith, false, length, map, subst, sym, true}
use Rattle.deb_health.specs.Verdicts.{ToldView, shown_view}
use Rattle.deb_report.specs.declared.broken.BrokenPackage.{BrokenPackage}
use Rattle.deb_report.specs.Since.{AreMarks, broken_view, has_named, is_mended}
use Rattle.number_sets.proofs.AtomSteps.{kept, left_out}
use Rattle.deb_report.proofs.MarkLemmas.{mended-tells}
use Rattle.deb_report.proofs.ShownLemmas.{places-within}
use Rattle.deb_report.proofs.amends.mended_of.Goals as goal
use Rattle.deb_report.proofs.amends.mended_of.Goals.{then-is_mended+in_ok-push, else-is_mended}

pub marks_at-requires-2 : goal.marks_at-requires-2
marks_at-requires-2 c =
    let index = c.args.index.now in
    subst (All (λ place. place < length index.packages)) (sym (c.as_slice.ensures.value ∙ c.in_ok-places.ensures)) (places-within index c.args.broken.now c.requires.broken)

pub is_mended-requires-clause-asked : goal.is_mended-requires-clause-asked
is_mended-requires-clause-asked c = rw c.as_slice-asked_names.ensures.value c.in_ok-asked_marks.ensures.0

pub is_mended-requires-clause-broken : goal.is_mended-requires-clause-broken
is_mended-requires-clause-broken c = rw c.as_slice-broken_names.ensures.value c.in_ok-broken_marks.ensures.0

pub loop-deb-preserved : goal.loop-deb-preserved
loop-deb-preserved c =
    let index = c.args.index.now in
    let asked = c.args.asked.now in
    let places : List ℕ = map (λ (one : ℕ × ToldView). one.0) (map shown_view c.args.broken.now) in
    let test = is_mended index asked (map shown_view c.args.broken.now) in
    let deb = c.deb-item.result in
    let inside : c.loop-deb.deb-index < length c.args.before.now = omega arith in
    let of_asked : AreMarks index (has_named index asked) c.as_slice-asked_names.result.now = rw c.as_slice-asked_names.ensures.value c.in_ok-asked_marks.ensures in
    let of_broken : AreMarks index (has_named index places) c.as_slice-broken_names.result.now =
    rw (c.as_slice-broken_names.ensures.value, ← c.in_ok-places.ensures, ← c.as_slice.ensures.value) c.in_ok-broken_marks.ensures in
    let tells : c.is_mended.result ≡ test (broken_view deb) =
    c.is_mended.ensures
    ∙ mended-tells index asked places c.as_slice-asked_names.result.now c.as_slice-broken_names.result.now deb.name.items of_asked of_broken c.requires.asked (places-within index c.args.broken.now c.requires.broken) in
    elim c.if-is_mended.branch [
      | then-is_mended+in_ok-push w ↦
          let passes : test (broken_view deb) ≡ true = sym tells ∙ w.if-is_mended.true in
          rw w.mended-is (kept test (λ (one : Bor BrokenPackage). broken_view one.now) broken_view _ c.loop-deb.mended.items _ c.args.before.now c.loop-deb.deb-index deb w.in_ok-push.ensures.items c.loop-deb.invariant inside (ap broken_view c.deb-item.is) passes)
      | else-is_mended w ↦
          let fails : test (broken_view deb) ≡ false = sym tells ∙ w.if-is_mended.false in
          rw w.mended-is (left_out test (λ (one : Bor BrokenPackage). broken_view one.now) broken_view c.loop-deb.mended.items c.args.before.now c.loop-deb.deb-index deb c.loop-deb.invariant inside (ap (λ one. test (broken_view one)) (sym c.deb-item.is) ∙ fails))
    ]
