use Rattle.deb_index.specs.Packages.{is_named, name_at}
use Rattle.deb_index.proofs.MemberLemmas.{below-places_where}
use Rattle.deb_report.proofs.form.Writer.push_links.Goals as goal

pub push_list-requires-in-Only : goal.push_list-requires-in-Only
push_list-requires-in-Only c =
    let index = c.args.self.now.index.now in
    rw c.places_named-places.ensures (below-places_where (is_named (name_at index c.in-Only.name)) index.packages)
