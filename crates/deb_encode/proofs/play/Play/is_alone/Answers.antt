use Rattle.std.proofs.Common.{rules, ◌≡◌, ◌<◌, length, get_or, Some, ◌∙◌, ap}
use Rattle.std.proofs.lemmas.Bool.{false≢true}
use Rattle.std.proofs.lemmas.Option.{slice_get-get_or}
use Rattle.deb_encode.proofs.play.Play.is_alone.Goals as goal

pub returns-in-Some : goal.returns-in-Some
returns-in-Some c = λ marked.
    let alone = c.args.self.now.alone.now in
    let inside : c.args.place < length alone = search rules in
    let here : get_or alone c.args.place c.in-Some.alone.now ≡ c.in-Some.alone.now = search rules in
    c.args.self.now.marks_alone c.args.place (slice_get-get_or alone c.args.place c.in-Some.alone.now inside ∙ ap Some (here ∙ marked))

pub returns-in-None : goal.returns-in-None
returns-in-None c = λ never. absurd (false≢true never)
