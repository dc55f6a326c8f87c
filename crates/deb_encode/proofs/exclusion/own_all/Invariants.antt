use Rattle.std.proofs.Common.{◌≡◌, map, take}
use Rattle.deb_encode.proofs.Excluding.{owner_of}
use Rattle.deb_encode.proofs.exclusion.own_all.Given as goal

abbrev pub invariant-loop-var : goal.invariant-loop-var
invariant-loop-var l = l.owners.items ≡ map (owner_of l.group) (take l.var-index l.list)
