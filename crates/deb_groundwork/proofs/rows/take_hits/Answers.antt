use Rattle.std.proofs.Common.{◌≡◌, ℕ, List, true}
use Rattle.deb_index.specs.Constraints.{hits}
use Rattle.number_sets.specs.Sets.{members_of}
use Rattle.deb_groundwork.proofs.BaseLemmas.{hit_in_row, hits_keep}
use Rattle.deb_groundwork.proofs.RowLemmas.{more_below}
use Rattle.deb_groundwork.proofs.rows.take_hits.Goals as goal

pub loop-number-preserved : goal.loop-number-preserved
loop-number-preserved c =
    let index = c.args.index.now in
    let before : List ℕ = c.loop-number.hit in
    let after : List ℕ = c.extend.new.self in
    let Then : ℕ → Type 0 = λ j. (q : ℕ) → hits index c.args.place j q ≡ true → members_of before q ≡ true in
    let Now : ℕ → Type 0 = λ j. (q : ℕ) → hits index c.args.place j q ≡ true → members_of after q ≡ true in
    let keeps : (q : ℕ) → members_of before q ≡ true → members_of after q ≡ true =
    hits_keep index c.args.place c.loop-number.number c.in-Some.row.now before after c.in-Some.ensures.row c.in-Ok.ensures.grows in
    record {
      keeps = λ q is_in. keeps q (c.loop-number.invariant.keeps q is_in);
      has =
          more_below Then Now c.loop-number.number (λ j below then q hit. keeps q (then q hit)) c.loop-number.invariant.has
          (λ q hit. c.in-Ok.ensures.has q (hit_in_row index c.args.place c.loop-number.number c.in-Some.row.now q c.in-Some.ensures.row hit));
    }
