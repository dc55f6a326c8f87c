use Rattle.std.proofs.Common.{◌≡◌, ◌<◌, ◌∙◌, subst, sym, length}
use Rattle.deb_index.specs.Packages.{IndexView, names, name_at}
use Rattle.deb_index.proofs.NameLemmas.{front-text, front-within}
use Rattle.deb_index.proofs.index.Index.name_text.Goals as goal

pub text-requires : goal.text-requires
text-requires c = front-within c.self.invariant.kept.named c.args.number (subst (λ (v : IndexView). c.args.number < length (names v)) (sym c.self.view_is) c.requires)

pub returns : goal.returns
returns c =
    let within = subst (λ (v : IndexView). c.args.number < length (names v)) (sym c.self.view_is) c.requires in
    subst (λ (v : IndexView). c.text.result.now ≡ name_at v c.args.number) c.self.view_is (c.text.ensures ∙ front-text c.self.invariant.kept.named c.args.number within)
