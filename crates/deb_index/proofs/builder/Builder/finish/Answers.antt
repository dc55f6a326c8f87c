use Rattle.std.proofs.Common.{List, ℕ, [], ◌∙◌, ap, subst, sym, map}
use Rattle.deb_index.specs.declared.package.Package.{Package}
use Rattle.deb_index.specs.Packages.{essential_names, package_view}
use Rattle.deb_index.specs.Names.{IsNaming, provided_places}
use Rattle.deb_index.proofs.builder.Builder.finish.Goals as goal

pub invariant_of-result : goal.invariant_of-result
invariant_of-result c =
    let i = c.self.inside.draft.catalog in
    let before = subst (λ (ps : List Package). IsNaming (map package_view ps) [] i.names) (sym c.deref-2.ensures.value) c.self.invariant.named in
    record {
      counts = c.self.invariant.counts;
      numbered = c.self.invariant.numbered;
      named =
          subst (λ (w : List ℕ × List Package). IsNaming (map package_view w.1) (provided_places w.0 (map package_view w.1)) c.add_provided.new.self)
          (λ j. (c.deref.ensures.value j, c.deref-2.ensures.value j)) (c.in_ok-add_provided.ensures before);
      essentials = c.in_ok-essential.ensures ∙ ap essential_names (sym c.self.view_is);
    }

pub returns : goal.returns
returns c = c.self.view_is
