use Rattle.std.proofs.Common.{◌≡◌, ◌<◌, ◌∙◌, false, length, sym, ap, arith}
use Rattle.std.specs.Prelude.{nat_le, not}
use Rattle.std.specs.Option.{is_some}
use Rattle.std.proofs.lemmas.Bool.{leb-false, lt-leb}
use Rattle.deb_index.specs.Packages.{apart_at}
use Rattle.deb_index.specs.Meets.{satisfiers}
use Rattle.deb_index.specs.Rows.{row_limit}
use Rattle.deb_encode.specs.Exclusions.{narrow_limit}
use Rattle.deb_encode.proofs.rivals.is_wide.Goals as goal

pub returns-in-None : goal.returns-in-None
returns-in-None c =
    let hits = length (satisfiers c.args.index.now (apart_at c.args.index.now c.args.place c.args.number)) in
    let many : nat_le hits row_limit ≡ false = sym c.hit_row.ensures.short ∙ ap is_some c.in-None.is in
    let past : row_limit < hits = leb-false hits row_limit many in
    ap not (sym (lt-leb hits narrow_limit (omega (arith, past))))
