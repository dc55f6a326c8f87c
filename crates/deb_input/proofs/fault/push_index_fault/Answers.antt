use Rattle.std.proofs.Common.{codes}
use Rattle.deb_index.specs.Reading.{field_name}
use Rattle.deb_input.specs.Faults.{index_fault_text}
use Rattle.deb_input.proofs.FaultLemmas.{stanza_text-more}
use Rattle.deb_input.proofs.fault.push_index_fault.Goals as goal

pub returns-in_ok-extend_from_slice-in-BadRelation : goal.returns-in_ok-extend_from_slice-in-BadRelation
unfolding index_fault_text
returns-in_ok-extend_from_slice-in-BadRelation c =
    rw (c.in-BadRelation.is, c.in_ok-extend_from_slice-in-BadRelation.ensures.items, c.in_ok-push_stanza-in-BadRelation.ensures, c.as_bytes.ensures.value, c.name.ensures)
    (stanza_text-more c.args.out.now.items c.in-BadRelation.stanza (codes "bad relation in ") (field_name c.in-BadRelation.field))
