use Rattle.std.proofs.Common.{◌≡◌, ◌+◌, length, map}
use Rattle.std.specs.Option.{option_copied, option_map_or}
use Rattle.deb_relation.specs.Bytes.{comma, parts_of}
use Rattle.deb_relation.specs.Relationship.{atom_view, each, filled, group_in, groups_of, with_front}
use Rattle.deb_relation.specs.Groups.{AreEnds, lists_from}
use Rattle.deb_relation.proofs.groups.read_several.Given as goal

abbrev pub invariant-elements : goal.invariant-elements
invariant-elements l =
    (with_front (lists_from 0 (map atom_view l.atoms.items) l.ends.items) (each group_in (filled (parts_of comma (option_copied l.rest)))) ≡ groups_of l.fn.text)
    × AreEnds 0 (length (map atom_view l.atoms.items)) l.ends.items

abbrev pub decreases-elements : goal.decreases-elements
decreases-elements l = option_map_or (λ t. length t + 1) (option_copied l.rest) 0
