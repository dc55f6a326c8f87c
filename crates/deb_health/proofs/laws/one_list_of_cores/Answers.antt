use Rattle.deb_health.proofs.CoreLemmas.{first_is_first, installable_has_none, one_list}
use Rattle.deb_health.proofs.laws.one_list_of_cores.Goals as goal

pub returns : goal.returns
returns c = record {
  one = one_list;
  first = first_is_first;
  none = λ index p cores installable are. installable_has_none index p installable cores are;
}
