use Rattle.std.proofs.Common.{◌≡◌, ◌<◌, ◌-◌, ◌∙◌, ap, refl, sym, length, slice_get, arith}
use Rattle.std.proofs.lemmas.Bool.{ltb-true}
use Rattle.std.proofs.lemmas.Option.{slice_get_read}
use Rattle.deb_index.specs.Packages.{aparts_at, essential_names, needs_at, names}
use Rattle.deb_index.specs.Links.{first_position}
use Rattle.deb_index.proofs.PositionLemmas.{apart-place, constraints-long, essential_position, first-next, need-place, only-place}
use Rattle.deb_index.proofs.index.Index.constraint_at.Goals as goal

pub returns-in-Some : goal.returns-in-Some
returns-in-Some c =
    let v = c.args.self.now in
    let essential = c.deref.ensures.value ∙ c.self.invariant.kept.essentials ∙ ap essential_names c.self.view_is in
    let found = c.in-Some.ensures.lookup in
    let at = slice_get_read c.deref.result.now (length c.deref.result.now) c.args.position c.in-Some.name.now refl (ltb-true c.args.position (length c.deref.result.now) (sym found.0)) found.1 in
    essential_position v c.args.position c.in-Some.name.now (ap (λ ns. slice_get ns c.args.position) (sym essential) ∙ at)

pub returns-then-position-asked : goal.returns-then-position-asked
returns-then-position-asked c =
    let v = c.args.self.now in
    let last : c.first_position-asked.result ≡ first_position v (length v.packages) = c.first_position-asked.ensures.value ∙ ap (first_position v) c.len.ensures.value in
    let few : c.args.position - c.first_position-asked.result < length (names v) = omega (arith, last, constraints-long v, c.requires, c.if-position-asked.true) in
    only-place v (c.args.position - c.first_position-asked.result) c.args.position few (omega (arith, last, c.if-position-asked.true))

pub returns-then-number-groups : goal.returns-then-number-groups
returns-then-number-groups c =
    let v = c.args.self.now in
    let place = c.asking_place-place.result in
    let number = c.args.position - c.first_position.result in
    let few : number < length (needs_at v place) = omega (arith, c.if-number-groups.true, c.need_count-groups.ensures) in
    need-place v place number c.args.position c.asking_place-place.ensures.within few (omega (arith, c.first_position.ensures.value, c.asking_place-place.ensures.begun))

pub returns-else-number-groups : goal.returns-else-number-groups
returns-else-number-groups c =
    let v = c.args.self.now in
    let place = c.asking_place-place.result in
    let groups = c.need_count-groups.result in
    let number = c.args.position - c.first_position.result - groups in
    let within = c.asking_place-place.ensures.within in
    let begun = c.asking_place-place.ensures.begun in
    let few : number < length (aparts_at v place) = omega (arith, c.first_position.ensures.value, c.if-number-groups.false, c.need_count-groups.ensures, first-next v place within, c.asking_place-place.ensures.ends, begun) in
    apart-place v place number c.args.position within few (omega (arith, c.first_position.ensures.value, c.need_count-groups.ensures, c.if-number-groups.false, begun))
