use Rattle.std.proofs.Common.{◌∙◌, sym}
use Rattle.deb_groundwork.proofs.base_set.BaseSet.has_room.Goals as goal

pub returns : goal.returns
returns c = λ free. record {
  unhit = sym c.contains.ensures ∙ c.if-contains.false;
  unnamed = c.has_free_name.ensures free;
}
