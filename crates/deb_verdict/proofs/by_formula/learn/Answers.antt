use Rattle.std.proofs.Common.{ℕ, List, sym, subst}
use Rattle.number_sets.specs.Sets.{members_of}
use Rattle.core_extract.specs.Reduction.{left}
use Rattle.deb_health.specs.Causes.{without}
use Rattle.deb_groundwork.specs.Parts.{taken_out}
use Rattle.deb_verdict.specs.Formulas.{AreNeeded}
use Rattle.deb_verdict.proofs.by_formula.learn.Goals as goal

pub returns : goal.returns
returns c =
    let part = c.args.part.now in
    let Are : List ℕ → Type 0 = λ list. AreNeeded part.index.now c.args.p (without (taken_out part) (left (members_of part.kept.now) part.rest)) list in
    c.take.ensures part.index.now c.args.p (taken_out part) c.requires.known (subst Are (sym c.deref.ensures.value) c.in_ok-list_needed.ensures)
