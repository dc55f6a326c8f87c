use Rattle.std.proofs.Common.{◌≡◌, ◌&&◌, ◌∙◌, ap, arith, eqb, length, subst, sym}
use Rattle.std.specs.Prelude.{nat_le}
use Rattle.deb_index.specs.Rows.{Adds}
use Rattle.deb_index.specs.Packages.{is_in}
use Rattle.deb_index.proofs.FoundLemmas.{added-all, added-counted}
use Rattle.deb_index.proofs.ProviderLemmas.{entry-left, entry-put}
use Rattle.deb_index.proofs.lookup.add_if.Goals as goal

pub returns-then-not-is_wanted : goal.returns-then-not-is_wanted
returns-then-not-is_wanted c = added-all _ _ _ _ (λ q. entry-left c.args.found.now.items c.args.place q c.args.is_wanted c.if-not-is_wanted.true)

pub returns-then-len-most : goal.returns-then-len-most
returns-then-len-most c = added-all _ _ _ _ (λ q.
    ap (λ l. is_in l q) c.in_ok-push.ensures.items ∙ entry-put c.args.found.now.items c.args.place q c.args.is_wanted c.if-not-is_wanted.false)

pub returns : goal.returns
returns c =
    let counted : c.len-2.result ≡ length c.sort_once.new.numbers.items = omega (arith, c.len-2.ensures) in
    subst (λ n. Adds c.args.most (λ q. eqb c.args.place q && c.args.is_wanted) c.args.found.now.items c.sort_once.new.numbers.items (nat_le n c.args.most)) (sym counted) (added-counted _ _ _ _ (λ q.
    c.sort_once.ensures.same q ∙ ap (λ l. is_in l q) c.in_ok-push.ensures.items ∙ entry-put c.args.found.now.items c.args.place q c.args.is_wanted c.if-not-is_wanted.false)
    c.sort_once.ensures.rising)
