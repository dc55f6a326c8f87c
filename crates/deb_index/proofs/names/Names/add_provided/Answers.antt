use Rattle.std.proofs.Common.{◌<◌, ◌++◌, ◌∙◌, ap, sym, subst, map, take, length, arith}
use Rattle.deb_relation.specs.Relationship.{atom_view}
use Rattle.deb_index.specs.Packages.{package_view}
use Rattle.deb_index.specs.Names.{IsNaming, provided_entries, provided_places}
use Rattle.deb_index.proofs.ProvidedLemmas.{provided-step}
use Rattle.deb_index.proofs.SmallLemmas.{small-entries}
use Rattle.deb_index.proofs.names.Names.add_provided.Goals as goal

pub add_entries-requires : goal.add_entries-requires
add_entries-requires c =
    let packages = c.args.packages.now in
    let within : c.loop-place.place < length packages = omega arith in
    subst (λ atoms. length atoms < 4294967296) (sym c.deref.ensures.value) (small-entries packages c.loop-place.place c.index-packages-place.result within c.index-packages-place.is c.requires.small)

pub loop-place-preserved : goal.loop-place-preserved
loop-place-preserved c = λ n.
    let arch = c.args.arch.now in
    let packages = c.args.packages.now in
    let i = c.loop-place.place in
    let within : i < length packages = omega arith in
    let so_far = provided_places arch (take i (map package_view packages)) in
    subst (λ es. IsNaming (map package_view packages) es c.add_entries.new.self)
    (ap (λ atoms. so_far ++ provided_entries arch i (map atom_view atoms)) c.deref.ensures.value ∙ sym (provided-step arch packages i c.index-packages-place.result within c.index-packages-place.is))
    (c.in_ok-add_entries.ensures (map package_view packages) so_far (c.loop-place.invariant n))
