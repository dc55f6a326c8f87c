use Rattle.std.proofs.Common.{◌≡◌, ◌∙◌, Bool, List, Some, ap, subst, sym, ℕ}
use Rattle.std.specs.Prelude.{IfOk}
use Rattle.std.specs.List.{list_any}
use Rattle.std.specs.Option.{option_map}
use Rattle.deb_relation.specs.Relationship.{atom_view}
use Rattle.deb_index.specs.Packages.{IndexView}
use Rattle.deb_index.specs.Rows.{Adds, AreOffers, meets_as_at}
use Rattle.deb_index.proofs.OfferLemmas.{found-there, offers-meet, usable_of}
use Rattle.deb_index.proofs.satisfiers.Satisfiers.add_found.Goals as goal
use Rattle.deb_index.proofs.satisfiers.Satisfiers.add_found.Goals.{in-Some-get, in-None}

pub returns-clause-added : goal.returns-clause-added
returns-clause-added c =
    let look = c.self.inside.lookup.now in
    let role = c.args.role in
    let atom = atom_view c.args.atom.now in
    let name = c.as_slice-name.result.now in
    let before = c.args.found.now.items in
    elim c.match-get.branch [
      | in-Some-get w ↦
          let list = w.in-Some-get.versions.now.offers.items in
          let op = w.deref.result.now.0 in
          let than = w.deref-in-Some-get.result.now.1 in
          let sorted : AreOffers look name list =
          subst (λ (v : IndexView). AreOffers v name list) (c.self-2.view_is ∙ c.sort_versions.ensures ∙ sym c.self.view_is)
          (found-there (λ r. r.now) _ c.get.result w.in-Some-get.versions _ c.get.ensures.value w.in-Some-get.is (c.self-2.invariant name)) in
          let are : AreOffers look atom.name list = subst (λ n. AreOffers look n list) c.as_slice-name.ensures.value sorted in
          let bound : atom.bound ≡ Some (op, than) = ap (option_map (λ b. b.value)) c.in-Some.is ∙ (λ i. Some ((sym w.deref.ensures i).0, (sym w.deref-in-Some-get.ensures i).1)) in
          let same : (q : ℕ) → list_any (usable_of role look atom q) w.within-within.result.now ≡ meets_as_at role c.args.self.now q atom = λ q.
          ap (list_any (usable_of role look atom q)) w.within-within.ensures ∙ offers-meet role look atom op than bound list are q
          ∙ ap (λ (v : IndexView). meets_as_at role v q atom) c.self.view_is in
          rw (w.result-is, w.found-is) (subst (λ (set : ℕ → Bool). IfOk w.add_offers.result (Adds c.args.most set before w.add_offers.new.found.items)) (λ i q. same q i) w.add_offers.ensures)
      | in-None w ↦
          rw (w.result-is, w.found-is)
          (subst (λ (v : IndexView). IfOk w.add_candidates-in-None.result (Adds c.args.most (λ q. meets_as_at role v q atom) before w.add_candidates-in-None.new.found.items)) c.self.view_is w.add_candidates-in-None.ensures)
    ]
