use Rattle.std.proofs.Common.{◌≡◌, ℕ, true, List, sym, subst, ◌∙◌, arith}
use Rattle.number_sets.specs.Sets.{members_of}
use Rattle.core_extract.specs.Reduction.{left}
use Rattle.deb_verdict.proofs.KnownLemmas.{known_admits}
use Rattle.deb_verdict.proofs.known.Known.has.Goals as goal

pub returns : goal.returns
returns c = λ on index p out known.
    let old = c.args.self.now in
    let kept : List ℕ = c.args.kept.now in
    known_admits index p out kept old.settled.items old.needed.items old.from c.args.position (omega (arith, c.if-position-self.false))
    (sym c.is_among.ensures ∙ c.if-is_among.false)
    (subst (λ needed. members_of needed c.args.position ≡ true) c.deref.ensures.value (sym c.is_among-else-is_among.ensures ∙ c.if-not-is_among.false))
    (subst (λ settled. (k : ℕ) → members_of kept k ≡ true → left (members_of settled) old.from k ≡ true) c.deref-2.ensures.value (c.goes_on.ensures on))
    known.needed
