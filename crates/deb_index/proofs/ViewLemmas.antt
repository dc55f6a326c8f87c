-- An index of which only the architecture and the packages are asked answers as the whole one.
use Rattle.std.proofs.Common.{List}
use Rattle.deb_index.specs.declared.links.Links.{Links}
use Rattle.deb_index.specs.Packages.{IndexView, PackageView}
use Rattle.deb_index.specs.Meets.{provided_at}
use Rattle.deb_index.specs.Links.{IsLinked}
use Rattle.deb_index.specs.Built.{looked_up}

module _ (index : IndexView) where
  pub linked-whole : (packages : List PackageView) (l : Links) → IsLinked (looked_up index.arch index.packages) packages l → IsLinked index packages l
  unfolding provided_at
  linked-whole packages l k = record { group_starts = k.group_starts; entry_starts = k.entry_starts; groups = k.groups; entries = k.entries }
