use Rattle.std.proofs.Common.{◌≡◌, ◌∙◌, ap, arith, length, map}
use Rattle.std.proofs.lemmas.List.{length-map}
use Rattle.deb_index.specs.Built.{draft_view}
use Rattle.deb_index.specs.Packages.{package_view}
use Rattle.deb_index.specs.Reading.{with_foreground}
use Rattle.deb_index.proofs.builder.Builder.end_foreground.Goals as goal

pub invariant_of-self : goal.invariant_of-self
invariant_of-self c =
    let old = c.self.invariant in
    let counts = old.counts in
    record {
      counts = record {
        counted = counts.counted;
        front = omega (arith, c.len.ensures, length-map c.self.inside.draft.catalog.packages.items package_view);
        few = counts.few;
        small = counts.small;
        few_asked = counts.few_asked;
      };
      numbered = old.numbered;
      named = old.named;
      known = old.known;
    }

pub returns : goal.returns
returns c =
    let draft = c.self.inside.draft in
    let packages = draft.catalog.packages in
    let all : c.len.result ≡ length (map package_view packages.items) = omega (arith, c.len.ensures, packages.ok, length-map packages.items package_view) in
    ap (λ n. record (draft_view draft) { foreground = n }) all ∙ ap with_foreground c.self.view_is
