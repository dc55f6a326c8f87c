use Rattle.std.proofs.Common.{append_assoc}
use Rattle.deb_report.specs.Walk.{places_in}
use Rattle.deb_report.specs.WalkLines.{constraint_text}
use Rattle.deb_report.proofs.WalkLemmas.{hits-within, versions-within}
use Rattle.deb_report.proofs.walk_constraints.Walk.push_constraint.Goals as goal

pub push_some-requires : goal.push_some-requires
push_some-requires c =
    rw (c.as_slice.ensures.value, c.in_ok-hits-in-Apart.ensures) (hits-within c.args.self.now.index.now (places_in c.args.self.now.coming.now) c.in-Apart.place _)

pub push_joined-requires : goal.push_joined-requires
push_joined-requires c =
    rw (c.as_slice-in-Only.ensures.value, c.in_ok-versions-in-Only.ensures, c.places_named.ensures)
    (versions-within c.args.self.now.index.now (places_in c.args.self.now.coming.now) c.in-Only.name)

pub returns-in_ok-push_told-in-Essential : goal.returns-in_ok-push_told-in-Essential
unfolding constraint_text
returns-in_ok-push_told-in-Essential c =
    rw (c.in_ok-push_told-in-Essential.ensures, c.in_ok-push_texts-in-Essential.ensures, c.name_text.ensures, c.in-Essential.is) (simp append_assoc)
