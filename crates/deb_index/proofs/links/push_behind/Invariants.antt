use Rattle.std.proofs.Common.{◌≡◌, ◌++◌, map, take}
use Rattle.deb_index.specs.Links.{start_behind}
use Rattle.deb_index.proofs.links.push_behind.Given as goal

abbrev pub invariant-loop-start : goal.invariant-loop-start
invariant-loop-start l = l.starts.items ≡ l.initial.starts.items ++ map (start_behind l.end) (take l.start-index l.more)
