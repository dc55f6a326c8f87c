use Rattle.std.proofs.Common.{◌<◌, List, ℕ, length, slice_get, get_or, sym, ap, ◌∙◌, arith}
use Rattle.std.proofs.lemmas.Option.{slice_get-get_or}
use Rattle.deb_groundwork.proofs.RowLemmas.{essential_below}
use Rattle.deb_groundwork.proofs.rows.essential_row.Goals as goal

pub places_named-requires : goal.places_named-requires
places_named-requires c = essential_below c.args.index.now c.essential_names.result.now c.essential_names.ensures c.args.position (omega (arith, ap length c.essential_names.ensures, c.requires))

pub returns : goal.returns
returns c =
    let list : List ℕ = c.essential_names.result.now in
    let inside : c.args.position < length list = omega (arith, ap length c.essential_names.ensures, c.requires) in
    record {
      name = get_or list c.args.position 0;
      at = ap (λ (names : List ℕ). slice_get names c.args.position) (sym c.essential_names.ensures) ∙ slice_get-get_or list c.args.position 0 inside;
      is = c.places_named.ensures;
    }
