use Rattle.std.proofs.Common.{◌∙◌, ◌<◌, ℕ, List, length, get_or, arith, refl, sym, ap, inl, inr}
use Rattle.std.proofs.lemmas.List.Elements.{All-same}
use Rattle.number_sets.specs.Sets.{members_of}
use Rattle.number_sets.proofs.Placing.{grows_none, grows_both}
use Rattle.deb_index.specs.Packages.{places_of, name_at}
use Rattle.deb_index.proofs.IndexFacts.{named_below, member_named}
use Rattle.deb_groundwork.proofs.RowLemmas.{essential_below}
use Rattle.deb_verdict.proofs.GatherLemmas.{names_more, names_all, essential_right}
use Rattle.deb_verdict.proofs.gather.Candidates.bring_essentials.Goals as goal
use Rattle.deb_verdict.proofs.gather.Candidates.bring_essentials.Goals.{then-not-has_any+in_ok-extend, else-not-has_any}

pub loop-name-init : goal.loop-name-init
loop-name-init c = record {
  grows = grows_none (length c.args.index.now.packages) c.args.self.now.places;
  names = λ k below. absurd (omega (arith, below));
  reaches = λ p other closed visited within. within;
  unmet = refl;
}

pub places_named-row-requires : goal.places_named-row-requires
places_named-row-requires c =
    essential_below c.args.index.now c.essential_names-name-items.result.now c.essential_names-name-items.ensures c.loop-name.name-index c.loop-name-test.true

pub loop-name-preserved : goal.loop-name-preserved
loop-name-preserved c =
    let index = c.args.index.now in
    let count : ℕ = length index.packages in
    let name : ℕ = get_or c.essential_names-name-items.result.now c.loop-name.name-index 0 in
    let row : List ℕ = c.places_named-row.result.now in
    let so_far = c.loop-name.invariant in
    elim c.if-not-has_any.branch [
      | then-not-has_any+in_ok-extend w ↦
          let grows = w.in_ok-extend.ensures.grows count
          (All-same (λ place. place < count) row (places_of index (name_at index name)) c.places_named-row.ensures (named_below index (name_at index name))) in
          rw w.self-is
          (record {
            grows = grows_both count c.args.self.now.places c.loop-name.self.places w.extend.new.self so_far.grows grows;
            names =
                names_more index (members_of c.args.forced.now) c.essential_names-name-items.result.now c.loop-name.name-index row c.loop-name.self.places w.extend.new.self
                c.places_named-row.ensures grows (inr w.in_ok-extend.ensures.has) so_far.names;
            reaches = λ p other closed visited within q is_in.
                elim (w.in_ok-extend.ensures.only q is_in) [
                  | inl old ↦ so_far.reaches p other closed visited within q old
                  | inr there ↦
                      closed.essential name q (essential_right index c.essential_names-name-items.result.now c.essential_names-name-items.ensures c.loop-name.name-index c.loop-name-test.true)
                      (sym (ap (λ list. members_of list q) c.places_named-row.ensures ∙ member_named index name q) ∙ there)
                ];
            unmet = so_far.unmet;
          })
      | else-not-has_any w ↦
          rw w.self-is
          (record {
            grows = so_far.grows;
            names =
                names_more index (members_of c.args.forced.now) c.essential_names-name-items.result.now c.loop-name.name-index row c.loop-name.self.places c.loop-name.self.places
                c.places_named-row.ensures (grows_none count c.loop-name.self.places) (inl (sym c.has_any.ensures ∙ w.if-not-has_any.false)) so_far.names;
            reaches = so_far.reaches;
            unmet = so_far.unmet;
          })
    ]

pub returns-clause-names : goal.returns-clause-names
returns-clause-names c =
    names_all c.args.index.now (members_of c.args.forced.now) c.essential_names-name-items.result.now c.loop-name.name-index (members_of c.loop-name.self.places)
    c.loop-name-test.false c.essential_names-name-items.ensures c.loop-name.invariant.names
