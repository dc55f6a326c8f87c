use Rattle.deb_report.proofs.form.Writer.push_end.Goals as goal

pub push_causes-requires : goal.push_causes-requires
push_causes-requires c = rw c.as_slice.ensures.value (rw c.in-Some.is at c.requires.causes)
