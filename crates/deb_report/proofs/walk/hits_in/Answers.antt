use Rattle.std.proofs.Common.{◌∙◌}
use Rattle.std.proofs.lemmas.Result.{IfOk-weaker}
use Rattle.deb_report.specs.Walk.{places_in}
use Rattle.deb_report.proofs.WalkLemmas.{hits-coming}
use Rattle.deb_report.proofs.walk.hits_in.Goals as goal

pub returns : goal.returns
returns c =
    IfOk-weaker c.those_coming.result _ _
    (λ those is. is ∙ rw (c.as_slice.ensures.value, c.in_ok-push_hit.ensures, c.new-hits.ensures.items) (hits-coming (places_in c.args.coming.now) c.args.place _))
    c.those_coming.ensures
