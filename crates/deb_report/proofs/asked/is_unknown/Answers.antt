use Rattle.std.proofs.Common.{◌≡◌, None, Some, rules, slice_get}
use Rattle.deb_report.proofs.AskedLemmas.{known-first, unknown-none}
use Rattle.deb_report.proofs.asked.is_unknown.Goals as goal

pub returns-in-Some : goal.returns-in-Some
returns-in-Some c =
    let first : slice_get c.places_of.result.now 0 ≡ Some c.in-Some.place.now = search rules in
    rw c.foreground.ensures.value (known-first c.args.index.now c.args.name.now c.places_of.result.now c.in-Some.place.now c.places_of.ensures first)

pub returns-in-None : goal.returns-in-None
returns-in-None c =
    let none : slice_get c.places_of.result.now 0 ≡ None = search rules in
    unknown-none c.args.index.now c.args.name.now c.places_of.result.now c.places_of.ensures none
