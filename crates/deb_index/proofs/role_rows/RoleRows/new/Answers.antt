use Rattle.deb_index.proofs.role_rows.RoleRows.new.Goals as goal

pub invariant_of-result : goal.invariant_of-result
invariant_of-result c = c.in_ok-memo.ensures c.new-2.result c.args.role _
