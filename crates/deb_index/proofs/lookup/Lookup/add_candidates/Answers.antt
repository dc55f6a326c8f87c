use Rattle.deb_relation.specs.Relationship.{atom_view}
use Rattle.deb_index.specs.Packages.{is_in}
use Rattle.deb_index.specs.Rows.{meets_as_at}
use Rattle.deb_index.proofs.FoundLemmas.{added-same, added-some}
use Rattle.deb_index.proofs.ProviderLemmas.{all-asked, or-weaker}
use Rattle.deb_index.proofs.LinkLemmas.{if-ok}
use Rattle.deb_index.proofs.lookup.Lookup.add_candidates.Goals as goal

pub returns-then-not-branch : goal.returns-then-not-branch
returns-then-not-branch c = added-some _ _ _ _ _ _ _ c.in_ok-add_named.ensures c.if-not-branch.true (λ q there.
    or-weaker (is_in c.args.found.now.items q) _ (meets_as_at c.args.role c.args.self.now q (atom_view c.args.atom.now)) there)

pub returns : goal.returns
returns c = if-ok c.add_providers.result (λ _ added. added-same _ _ _ _ _ _ _ added (λ q.
    all-asked c.args.role c.args.self.now (atom_view c.args.atom.now) (is_in c.args.found.now.items) (is_in c.add_named.new.found.items)
    _ _ q c.requires.0 c.requires.1 (c.in_ok-add_named.ensures.all c.if-not-branch.false q))) c.add_providers.ensures
