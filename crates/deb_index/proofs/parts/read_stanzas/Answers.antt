use Rattle.std.proofs.Common.{◌∷◌, ◌∙◌, [], List, Option, sym, ap, map, arith}
use Rattle.std.proofs.lemmas.List.{map-append}
use Rattle.deb_index.specs.Packages.{PackageView}
use Rattle.deb_index.specs.Reading.{reading_view, readings}
use Rattle.deb_index.proofs.SizeLemmas.{stanza-few}
use Rattle.deb_index.proofs.StepLemmas.{front-end, front-more, front-none, steps-fewer, with_front}
use Rattle.deb_index.proofs.parts.read_stanzas.Goals as goal

pub loop-found-init : goal.loop-found-init
loop-found-init c = rw (c.new-reader.ensures.value, c.new-found.ensures.items) (record { so_far = front-none _; few = omega arith })

pub next_reading-requires : goal.next_reading-requires
next_reading-requires c = omega (arith, c.loop-found.invariant.few)

pub loop-found-preserved : goal.loop-found-preserved
loop-found-preserved c =
    let new = c.next_reading.new.reader in
    let front = map reading_view c.loop-found.found.items in
    let step = rw c.in-Some.is at c.in_ok-reading.ensures.takes in
    let pushed = ap (map reading_view) c.in_ok-push.ensures.items ∙ map-append reading_view c.loop-found.found.items (c.in-Some.reading ∷ []) in
    record {
      so_far = c.loop-found.invariant.so_far ∙ front-more c.args.arch.now 0 c.loop-found.reader new (reading_view c.in-Some.reading) step front
          ∙ ap (λ (rs : List (Option PackageView)). with_front rs (readings c.args.arch.now 0 new.count new.stanzas)) (sym pushed);
      few = omega (arith, stanza-few c.args.arch.now 0 new.count step.stanza (reading_view c.in-Some.reading) step.reads);
    }

pub loop-found-smaller : goal.loop-found-smaller
loop-found-smaller c = steps-fewer c.args.arch.now 0 c.loop-found.reader c.next_reading.new.reader (reading_view c.in-Some.reading) (rw c.in-Some.is at c.in_ok-reading.ensures.takes)

pub returns : goal.returns
returns c = c.loop-found.invariant.so_far ∙ front-end c.args.arch.now 0 c.loop-found.reader (rw c.in_default.is at c.in_ok-reading.ensures.ends) (map reading_view c.loop-found.found.items)
