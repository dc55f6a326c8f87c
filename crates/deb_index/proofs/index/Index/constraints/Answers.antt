use Rattle.std.proofs.Common.{◌≡◌, ◌<◌, ◌≤◌, ◌++◌, ◌∷◌, [], ◌∙◌, All, ap, sym, subst, length, arith}
use Rattle.std.specs.Prelude.{◌^◌}
use Rattle.std.proofs.lemmas.List.{take_all}
use Rattle.deb_index.specs.Links.{first_position}
use Rattle.deb_index.specs.Constraints.{IsOfIndex, constraints_of}
use Rattle.deb_index.proofs.ConstraintLemmas.{constraints-few, constraints-within}
use Rattle.deb_index.proofs.PositionLemmas.{constraints-long, next-taken}
use Rattle.deb_index.proofs.index.Index.constraints.Goals as goal

pub overflow_add-count : goal.overflow_add-count
overflow_add-count c =
    let v = c.args.self.now in
    let last : c.first_position.result ≡ first_position v (length v.packages) = c.first_position.ensures.value ∙ ap (first_position v) c.len.ensures.value in
    omega (arith, last, constraints-long v, c.name_count.ensures, c.first_position.ensures.few)

pub loop-position-init : goal.loop-position-init
loop-position-init c = c.new-found.ensures.items

pub constraint_at-requires : goal.constraint_at-requires
constraint_at-requires c =
    let v = c.args.self.now in
    let last : c.first_position.result ≡ first_position v (length v.packages) = c.first_position.ensures.value ∙ ap (first_position v) c.len.ensures.value in
    omega (arith, last, constraints-long v, c.name_count.ensures)

pub loop-position-preserved : goal.loop-position-preserved
loop-position-preserved c =
    c.in_ok-push.ensures.items ∙ ap (λ l. l ++ c.constraint_at.result ∷ []) c.loop-position.invariant
    ∙ sym (next-taken (constraints_of c.args.self.now) c.loop-position.position c.constraint_at.result c.constraint_at.ensures)

pub returns : goal.returns
returns c =
    let v = c.args.self.now in
    let last : c.first_position.result ≡ first_position v (length v.packages) = c.first_position.ensures.value ∙ ap (first_position v) c.len.ensures.value in
    let whole : length (constraints_of v) ≤ c.loop-position.position = omega (arith, last, constraints-long v, c.name_count.ensures) in
    let value = c.loop-position.invariant ∙ take_all c.loop-position.position (constraints_of v) whole in
    record {
      value = value;
      within = subst (All (IsOfIndex v)) (sym value) (constraints-within v);
      few = subst (λ l. length l < 2 ^ 32) (sym value) (constraints-few v c.len.ensures.few c.len.ensures.few_asked);
    }
