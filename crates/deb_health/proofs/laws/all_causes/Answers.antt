use Rattle.deb_health.specs.Causes.{nothing}
use Rattle.deb_health.proofs.CoreLemmas.{causes_apart, mended, one_whole, unmended}
use Rattle.deb_health.proofs.laws.all_causes.Goals as goal

pub returns : goal.returns
returns c = record {
  mended = λ index p. mended index p nothing;
  unmended = λ index p. unmended index p nothing;
  each = one_whole;
  apart = λ index p. causes_apart index p nothing;
}
