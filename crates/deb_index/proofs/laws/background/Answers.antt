use Rattle.deb_index.proofs.BackgroundLemmas.{both-apart, both-count, both-empty, both-front}
use Rattle.deb_index.proofs.laws.background.Goals as goal

pub returns : goal.returns
returns c = record {
  empty = both-empty;
  count = both-count;
  front = both-front;
  distinct = both-apart;
}
