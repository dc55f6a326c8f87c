use Rattle.std.proofs.Common.{◌≡◌, map, take, true}
use Rattle.std.specs.List.{list_all}
use Rattle.deb_relation.specs.Relationship.{is_name}
use Rattle.deb_input.proofs.names.names_of.Given as goal

abbrev pub invariant-loop-line : goal.invariant-loop-line
invariant-loop-line l = let before = map (λ line. line.now) (take l.line-index l.line-items) in
    (map (λ name. name.items) l.names.items ≡ before) × (list_all is_name before ≡ true)
