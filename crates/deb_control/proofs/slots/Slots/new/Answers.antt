use Rattle.deb_control.proofs.SlotLemmas.{zeros_first}
use Rattle.deb_control.proofs.slots.Slots.new.Goals as goal

pub returns : goal.returns
returns c fields = zeros_first 64 0 fields
