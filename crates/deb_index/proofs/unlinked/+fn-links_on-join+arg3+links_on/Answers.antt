use Rattle.std.proofs.Common.{ap, sym, subst, sum_by, arith}
use Rattle.deb_index.specs.Links.{IsLinked, packages_in}
use Rattle.deb_index.specs.Tables.{asked_count}
use Rattle.deb_index.proofs.LinkLemmas.{can-follow, if-ok, linked-both}
use Rattle.deb_index.proofs.PartLemmas.{range-sum, range-two}
use Rattle.deb_index.proofs.unlinked.+fn-links_on-join+arg3+links_on.Goals as goal

pub followed_by-requires : goal.followed_by-requires
followed_by-requires g t c =
    let index = c.args.unlinked.now in
    let middle = c.first_end-middle.result in
    let first : IsLinked index (packages_in index c.args.from middle) c.in_ok-links.links = rw c.in_ok-links.was at c.join-first.ensures.first in
    let second : IsLinked index (packages_in index middle c.args.to) c.in_ok-more.more = rw c.in_ok-more.was at c.join-first.ensures.second in
    let two = range-two index.packages c.args.from middle c.args.to c.first_end-middle.ensures.0 c.first_end-middle.ensures.1 c.requires.within in
    can-follow index _ _ c.in_ok-links.links c.in_ok-more.more first second (omega (arith, ap (sum_by asked_count) two, range-sum index.packages asked_count c.args.from c.args.to))

pub returns : goal.returns
returns g t c =
    let index = c.args.unlinked.now in
    let middle = c.first_end-middle.result in
    let first : IsLinked index (packages_in index c.args.from middle) c.in_ok-links.links = rw c.in_ok-links.was at c.join-first.ensures.first in
    let second : IsLinked index (packages_in index middle c.args.to) c.in_ok-more.more = rw c.in_ok-more.was at c.join-first.ensures.second in
    let two = range-two index.packages c.args.from middle c.args.to c.first_end-middle.ensures.0 c.first_end-middle.ensures.1 c.requires.within in
    if-ok c.followed_by.result (λ both joined. subst (λ ps. IsLinked index ps both) (sym two) (linked-both index _ _ c.in_ok-links.links c.in_ok-more.more first second both joined)) c.followed_by.ensures
