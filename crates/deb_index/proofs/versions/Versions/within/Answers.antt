use Rattle.deb_index.proofs.VersionLemmas.{in-turn, within-eq, within-ge, within-gt, within-le, within-lt}
use Rattle.deb_index.proofs.versions.Versions.within.Goals as goal

pub slice_bounds-result-count : goal.slice_bounds-result-count
slice_bounds-result-count c =
    in-turn c.args.self.now.offers.items c.args.than.now _ _ c.below-in-Eq.ensures.few c.up_to-in-Eq.ensures.few c.below-in-Eq.ensures.point c.up_to-in-Eq.ensures.point

pub slice_bounds-result-start : goal.slice_bounds-result-start
slice_bounds-result-start c =
    in-turn c.args.self.now.offers.items c.args.than.now _ _ c.below-in-Eq.ensures.few c.up_to-in-Eq.ensures.few c.below-in-Eq.ensures.point c.up_to-in-Eq.ensures.point

pub returns-in-Lt : goal.returns-in-Lt
returns-in-Lt c = rw (c.deref.ensures.value, c.in-Lt.is) (within-lt c.args.self.now.offers.items c.args.than.now _ c.below.ensures.few c.below.ensures.point)

pub returns-in-Le : goal.returns-in-Le
returns-in-Le c = rw (c.deref-in-Le.ensures.value, c.in-Le.is) (within-le c.args.self.now.offers.items c.args.than.now _ c.up_to.ensures.few c.up_to.ensures.point)

pub returns-in-Eq : goal.returns-in-Eq
returns-in-Eq c =
    rw (c.deref-in-Eq.ensures.value, c.in-Eq.is)
    (within-eq c.args.self.now.offers.items c.args.than.now _ _ c.below-in-Eq.ensures.few c.up_to-in-Eq.ensures.few c.below-in-Eq.ensures.point c.up_to-in-Eq.ensures.point)

pub returns-in-Ge : goal.returns-in-Ge
returns-in-Ge c = rw (c.deref-in-Ge.ensures.value, c.in-Ge.is) (within-ge c.args.self.now.offers.items c.args.than.now _ c.below-in-Ge.ensures.few c.below-in-Ge.ensures.point)

pub returns-in-Gt : goal.returns-in-Gt
returns-in-Gt c = rw (c.deref-in-Gt.ensures.value, c.in-Gt.is) (within-gt c.args.self.now.offers.items c.args.than.now _ c.up_to-in-Gt.ensures.few c.up_to-in-Gt.ensures.point)
