use Rattle.std.proofs.Common.{◌≡◌, ◌<◌, ◌∙◌, All, Bool, Global, IfOk, List, Vec, false, length, map-id, subst, sym, true}
use Rattle.std.proofs.lemmas.Result.{IfOk-weaker}
use Rattle.std.specs.Prelude.{slice_index_or}
use Rattle.deb_index.specs.Packages.{IndexView}
use Rattle.deb_health.specs.declared.told.Told.{Told}
use Rattle.deb_report.specs.Content.{before_view}
use Rattle.work_draw.specs.Checks.{AnswersEach}
use Rattle.work_draw.proofs.Answered.{AnswersEach-map}
use Rattle.debcheck.specs.Run.{IsFoundAt, IsToldAt}
use Rattle.debcheck.proofs.TellLemmas.{found-told}
use Rattle.debcheck.proofs.verdicts.tell_each.Goals as goal

pub marks_for-requires : goal.marks_for-requires
marks_for-requires g c =
    subst (λ (index : IndexView). All (λ place. place < length index.packages) c.args.asked.now) (sym c.in_ok-groundwork.ensures) c.requires.places

pub invariant_of-teller : goal.invariant_of-teller
invariant_of-teller g c = record { before_is = λ x is. c.requires.before x is ∙ sym c.in_ok-groundwork.ensures }

pub returns : goal.returns
returns g c =
    let on = c.in_ok-groundwork.groundwork.index.now in
    let before = before_view c.args.before in
    let marks = c.as_slice.result.now in
    let wanted = c.args.wanted in
    let asked = c.args.asked.now in
    let result = c.check_each-told.result in
    let installable = rw c.in-Ok.is at c.marks_for.ensures in
    let told : IfOk result (λ told. AnswersEach (IsToldAt wanted on before) asked told.items) =
    IfOk-weaker result _ _
    (λ (told : Vec Told Global) each.
    subst (AnswersEach (IsToldAt wanted on before) asked) (map-id told.items)
    (AnswersEach-map (IsFoundAt marks wanted on before) (IsToldAt wanted on before) (λ one. one)
    (λ place one. found-told wanted on before marks place one (λ shown. c.as_slice.ensures.value ∙ installable.none shown)
    (λ place has. installable.marked place (subst (λ (list : List Bool). slice_index_or list place false ≡ true) c.as_slice.ensures.value has)))
    asked told.items each))
    c.check_each-told.ensures
    in
    rw c.in_ok-groundwork.ensures at told
