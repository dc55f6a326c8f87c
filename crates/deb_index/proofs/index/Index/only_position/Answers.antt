use Rattle.std.proofs.Common.{◌≡◌, ◌+◌, ◌∙◌, ap, length, arith}
use Rattle.deb_index.specs.Links.{first_position}
use Rattle.deb_index.proofs.PositionLemmas.{constraints-long, only-place}
use Rattle.deb_index.proofs.index.Index.only_position.Goals as goal

pub overflow_add-result : goal.overflow_add-result
overflow_add-result c =
    let v = c.args.self.now in
    let last : c.first_position.result ≡ first_position v (length v.packages) = c.first_position.ensures.value ∙ ap (first_position v) c.len.ensures.value in
    omega (arith, last, constraints-long v, c.requires, c.first_position.ensures.few)

pub returns : goal.returns
returns c =
    let v = c.args.self.now in
    let last : c.first_position.result ≡ first_position v (length v.packages) = c.first_position.ensures.value ∙ ap (first_position v) c.len.ensures.value in
    only-place v c.args.name (c.first_position.result + c.args.name) c.requires (ap (λ k. k + c.args.name) last)
