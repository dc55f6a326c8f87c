use Rattle.std.proofs.Common.{append_assoc, codes}
use Rattle.deb_input.specs.Faults.{fault_text, index_fault_text}
use Rattle.deb_input.proofs.FaultLemmas.{last_pushed}
use Rattle.deb_input.proofs.fault.push_fault.Goals as goal

pub returns-in_ok-extend_from_slice-in-Background : goal.returns-in_ok-extend_from_slice-in-Background
unfolding fault_text
returns-in_ok-extend_from_slice-in-Background c =
    rw (c.in-Background.is, ← append_assoc c.args.out.now.items (codes "background: ") (index_fault_text c.in-Background.fault), ← c.in_ok-extend_from_slice-in-Background.ensures.items)
    c.push_index_fault-in-Background.ensures

pub returns-in_ok-extend_from_slice-in-Earlier : goal.returns-in_ok-extend_from_slice-in-Earlier
unfolding fault_text
returns-in_ok-extend_from_slice-in-Earlier c =
    rw (c.in-Earlier.is, ← append_assoc c.args.out.now.items (codes "earlier index: ") (index_fault_text c.in-Earlier.fault), ← c.in_ok-extend_from_slice-in-Earlier.ensures.items)
    c.push_index_fault-in-Earlier.ensures

pub returns-in_ok-extend_from_slice-in-UnknownAsked : goal.returns-in_ok-extend_from_slice-in-UnknownAsked
unfolding fault_text
returns-in_ok-extend_from_slice-in-UnknownAsked c =
    rw (c.in-UnknownAsked.is, ← append_assoc c.args.out.now.items (codes "unknown package ") c.in-UnknownAsked.name.items, ← c.in_ok-extend_from_slice-in-UnknownAsked.ensures.items, ← c.as_slice.ensures.value)
    (last_pushed c.extend_from_slice-in-UnknownAsked-2.result c.extend_from_slice-in-UnknownAsked-2.new.self.items c.extend_from_slice-in-UnknownAsked.new.self.items c.as_slice.result.now
    c.extend_from_slice-in-UnknownAsked-2.ensures.items)
