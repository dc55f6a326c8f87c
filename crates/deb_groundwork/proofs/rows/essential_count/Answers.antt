use Rattle.std.proofs.Common.{length, ap, arith}
use Rattle.deb_index.specs.Packages.{names, is_essential}
use Rattle.deb_index.proofs.ConstraintLemmas.{where-short}
use Rattle.deb_groundwork.proofs.rows.essential_count.Goals as goal

pub overflow_cast-result : goal.overflow_cast-result
overflow_cast-result c = omega (arith, ap length c.essential_names.ensures, where-short (is_essential c.args.index.now) (names c.args.index.now), c.name_count-names.ensures)
