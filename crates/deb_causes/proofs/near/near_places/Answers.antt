use Rattle.std.proofs.Common.{◌++◌, Bor, ◌≡◌, ◌<◌, ◌∙◌, ap, arith, length, map, take}
use Rattle.std.proofs.lemmas.List.{take_all}
use Rattle.std.proofs.lemmas.List.Elements.{All-same}
use Rattle.std.specs.List.{flat_map}
use Rattle.deb_relation.specs.declared.atom.Atom.{Atom}
use Rattle.deb_relation.specs.Relationship.{atom_view}
use Rattle.deb_causes.specs.Near.{near_places}
use Rattle.deb_index.specs.Meets.{provided_at}
use Rattle.deb_index.specs.Packages.{places_of}
use Rattle.number_sets.proofs.AtomSteps.{gathered}
use Rattle.deb_causes.proofs.NearLemmas.{near-places, places_by, within-places}
use Rattle.deb_causes.proofs.near.near_places.Goals as goal

pub loop-atom-preserved : goal.loop-atom-preserved
loop-atom-preserved c =
    gathered (places_by c.args.index.now) (λ (atom : Bor Atom). atom_view atom.now) c.push_near.new.places.items c.loop-atom.places.items (atom_view c.atom-item.result.now)
    c.args.atoms.now c.loop-atom.atom-index c.atom-item.result (c.in_ok-push_near.ensures ∙ ap (λ name. c.loop-atom.places.items ++ (places_of c.args.index.now name ++ map (λ pair. pair.0) (provided_at c.args.index.now name))) c.as_slice.ensures.value) c.loop-atom.invariant c.loop-atom-test.true (ap (λ (atom : Bor Atom). atom_view atom.now) c.atom-item.is)

pub returns-clause-value : goal.returns-clause-value
returns-clause-value c =
    let whole : take c.loop-atom.atom-index c.args.atoms.now ≡ c.args.atoms.now = take_all _ _ (omega arith) in
    near-places c.args.index.now (map (λ atom. atom_view atom.now) c.args.atoms.now) c.loop-atom.places.items c.sort_once.new.numbers.items
    (c.loop-atom.invariant ∙ ap (λ atoms. flat_map (places_by c.args.index.now) (map (λ atom. atom_view atom.now) atoms)) whole)
    c.sort_once.ensures.rising c.sort_once.ensures.same

pub returns-clause-within : goal.returns-clause-within
returns-clause-within c =
    let atoms = map (λ atom. atom_view atom.now) c.args.atoms.now in
    let whole : take c.loop-atom.atom-index c.args.atoms.now ≡ c.args.atoms.now = take_all _ _ (omega arith) in
    All-same (λ place. place < length c.args.index.now.packages) c.sort_once.new.numbers.items (near_places c.args.index.now atoms)
    (near-places c.args.index.now atoms c.loop-atom.places.items c.sort_once.new.numbers.items
    (c.loop-atom.invariant ∙ ap (λ xs. flat_map (places_by c.args.index.now) (map (λ atom. atom_view atom.now) xs)) whole)
    c.sort_once.ensures.rising c.sort_once.ensures.same)
    (within-places c.args.index.now atoms)
