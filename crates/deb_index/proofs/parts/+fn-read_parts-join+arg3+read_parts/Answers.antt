use Rattle.std.proofs.Common.{List, sym, subst}
use Rattle.deb_index.specs.declared.parts.Part.{Part}
use Rattle.deb_index.specs.Built.{ArePartsOf}
use Rattle.deb_index.proofs.PartedLemmas.{two-parted}
use Rattle.deb_index.proofs.parts.+fn-read_parts-join+arg3+read_parts.Goals as goal

pub returns : goal.returns
returns g t c =
    let arch = c.args.arch.now in
    let front = c.first_part.result.0.now in
    let back = c.first_part.result.1.now in
    let first : ArePartsOf arch front c.in_ok-parts.parts.items = rw c.in_ok-parts.was at c.join-first.ensures.first in
    let second : ArePartsOf arch back c.in_ok-more.more.items = rw c.in_ok-more.was at c.join-first.ensures.second in
    subst (λ (parts : List Part). ArePartsOf arch c.args.text.now parts) (sym c.in_ok-append.ensures.items)
    (two-parted arch c.args.text.now front back c.in_ok-parts.parts.items c.in_ok-more.more.items c.first_part.ensures.whole c.first_part.ensures.stanzas first second)
