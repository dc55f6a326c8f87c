use Rattle.std.proofs.Common.{rules, ◌≡◌, ◌<◌, length, get_or, Some, ◌∙◌, ap}
use Rattle.std.proofs.lemmas.Option.{slice_get-get_or}
use Rattle.deb_verdict.proofs.gather.Ground.is_met.Goals as goal

pub returns-in-Some : goal.returns-in-Some
returns-in-Some c = λ marked.
    let met = c.args.self.now.met.now in
    let inside : c.args.place < length met = search rules in
    let here : get_or met c.args.place c.in-Some.met.now ≡ c.in-Some.met.now = search rules in
    c.args.self.now.marks c.args.place (slice_get-get_or met c.args.place c.in-Some.met.now inside ∙ ap Some (here ∙ marked))
