use Rattle.std.proofs.Common.{◌≡◌, ◌+◌, ◌<◌, ◌++◌, ◌∙◌, ap, arith, length, subst, sym, take}
use Rattle.std.proofs.lemmas.List.{map-id, take_all}
use Rattle.std.specs.List.{flat_map}
use Rattle.deb_index.specs.Packages.{PackageView, no_package, package_view}
use Rattle.deb_causes.specs.Near.{names_of, IsFoundIn}
use Rattle.deb_causes.proofs.SimilarLemmas.{names-more}
use Rattle.deb_causes.proofs.similar.Similar.add_all.Goals as goal

pub loop-place-preserved : goal.loop-place-preserved
loop-place-preserved c =
    let index = c.args.index.now in
    let place = c.loop-place.place in
    let names = names_of index.arch in
    let seen = flat_map names (take place index.packages) in
    let inside : place < length index.packages = omega (arith, c.len-place-end.ensures.value) in
    let step : flat_map names (take (place + 1) index.packages) ≡ seen ++ names (package_view c.package.result.now) =
    ap (flat_map names) (sym (map-id (take (place + 1) index.packages)))
    ∙ names-more names (λ (deb : PackageView). deb) index.packages place no_package (package_view c.package.result.now) inside c.package.ensures
    ∙ ap (λ packages. flat_map names packages ++ names (package_view c.package.result.now)) (map-id (take place index.packages)) in (
      subst (λ texts. IsFoundIn texts c.add_package.new.self) (ap (λ arch. seen ++ names_of arch (package_view c.package.result.now)) c.arch.ensures ∙ sym step)
          (c.in_ok-add_package.ensures.found seen c.loop-place.invariant.0),
      c.in_ok-add_package.ensures.stems ∙ c.loop-place.invariant.1,
    )

pub returns-clause-found : goal.returns-clause-found
returns-clause-found c =
    let index = c.args.index.now in
    let whole : take c.loop-place.place index.packages ≡ index.packages = take_all _ _ (omega (arith, c.len-place-end.ensures.value)) in
    subst (λ packages. IsFoundIn (flat_map (names_of index.arch) packages) c.loop-place.self) whole c.loop-place.invariant.0
