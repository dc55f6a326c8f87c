use Rattle.std.proofs.Common.{◌≡◌, ◌+◌, ◌++◌, ◌∷◌, [], ◌∙◌, ◌<◌, ap, sym, subst, length, take, append_assoc, arith}
use Rattle.std.proofs.lemmas.List.{flat_map_more, take_all, take_more}
use Rattle.std.proofs.lemmas.List.Elements.{All-get_or, All-rest}
use Rattle.std.specs.List.{flat_map}
use Rattle.deb_relation.proofs.print.push_joined.Goals as goal

pub print-requires-in-loop-other : goal.print-requires-in-loop-other
print-requires-in-loop-other g c =
    let fits = g.P.Print.fits c.args.printer.now in
    let parts : c.args.elements.now ≡ c.in-Some.first.now ∷ c.in-Some.others.now = (rw c.in-Some.is at c.split_first.ensures.cases).0 in
    let inside : c.loop-other.other-index < length c.in-Some.others.now = omega arith in
    subst fits (sym c.other-item.is) (All-get_or fits c.in-Some.others.now c.loop-other.other-index c.other-item.result inside (All-rest fits c.in-Some.first.now c.in-Some.others.now c.args.elements.now parts c.requires))

pub loop-other-preserved : goal.loop-other-preserved
loop-other-preserved g c =
    let text = g.P.Print.text c.args.printer.now in
    let separator = c.args.separator.now in
    let others = c.in-Some.others.now in
    let i = c.loop-other.other-index in
    let other = c.other-item.result in
    let more : take i others ++ other ∷ [] ≡ take (i + 1) others = ap (λ last. take i others ++ last ∷ []) c.other-item.is ∙ sym (take_more others i other c.loop-other-test.true) in
    rw (c.in_ok-print-2.ensures, c.in_ok-extend_from_slice.ensures.items, c.as_bytes.ensures.value)
    (append_assoc c.loop-other.out.items separator (text other)
    ∙ ap (λ front. front ++ (separator ++ text other)) c.loop-other.invariant
    ∙ flat_map_more (λ one. separator ++ text one) c.print.new.out.items (take i others) other
    ∙ ap (λ gone. c.print.new.out.items ++ flat_map (λ one. separator ++ text one) gone) more)

pub returns : goal.returns
returns g c =
    let text = g.P.Print.text c.args.printer.now in
    let whole : take c.loop-other.other-index c.in-Some.others.now ≡ c.in-Some.others.now = take_all _ _ (omega arith) in
    let parts : c.args.elements.now ≡ c.in-Some.first.now ∷ c.in-Some.others.now = (rw c.in-Some.is at c.split_first.ensures.cases).0 in
    rw (c.loop-other.invariant, whole, c.in_ok-print.ensures, parts)
    (append_assoc c.args.out.now.items (text c.in-Some.first.now) (flat_map (λ other. c.args.separator.now ++ text other) c.in-Some.others.now))
