use Rattle.deb_health.specs.Causes.{nothing}
use Rattle.deb_health.proofs.CauseLemmas.{some_final}
use Rattle.deb_health.proofs.CoreLemmas.{each_cause}
use Rattle.deb_health.proofs.laws.causes_have_reasons.Goals as goal

pub returns : goal.returns
returns c = record {
  part = some_final;
  cores = λ index p cores are. each_cause index p nothing are.positions cores are.each_first are.stand_there;
}
