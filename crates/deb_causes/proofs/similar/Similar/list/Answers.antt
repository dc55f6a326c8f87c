use Rattle.std.proofs.Common.{◌∙◌, ap, map, subst, sym}
use Rattle.std.proofs.lemmas.Bool.{false≢true}
use Rattle.std.specs.Option.{is_some}
use Rattle.deb_causes.proofs.SimilarLemmas.{IsListed, has-key}
use Rattle.deb_causes.proofs.similar.Similar.list.Goals as goal

pub returns-in-Some : goal.returns-in-Some
returns-in-Some c = λ seen is.
    let stem = c.args.stem.now in
    ap (map (λ one. one.items)) c.as_slice.ensures.value
    ∙ subst (IsListed seen stem) (sym c.in-Some.ensures.value) (is stem)

pub returns-in-None : goal.returns-in-None
returns-in-None c = λ seen is.
    let lists = c.args.self.now.lists in
    absurd (false≢true (ap is_some c.in-None.ensures.value ∙ sym (has-key lists c.args.stem.now) ∙ c.requires))
