use Rattle.std.proofs.Common.{◌≡◌, ℕ, take}
use Rattle.std.specs.List.{list_any}
use Rattle.deb_index.specs.Packages.{is_in}
use Rattle.deb_report.specs.Answers.{is_hit_by}
use Rattle.deb_report.proofs.hits.hits_of.Given as goal

abbrev pub invariant-loop-constraint : goal.invariant-loop-constraint
invariant-loop-constraint l = (q : ℕ) → is_in l.hits.items q ≡ list_any (is_hit_by l.index q) (take l.constraint-index l.constraints)
