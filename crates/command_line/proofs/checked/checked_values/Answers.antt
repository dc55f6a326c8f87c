use Rattle.std.proofs.lemmas.Bool.{and_from}
use Rattle.command_line.proofs.checked.checked_values.Goals as goal

pub returns : goal.returns
returns c =
    let arch = c.in_ok-architecture.ensures in
    let workers = c.in_ok-workers.ensures in
    let chunk = c.in_ok-chunk.ensures in
    let show = c.in_ok-show.ensures in
    let asked = c.in_ok-asked.ensures in
    let bg = c.in_ok-file.ensures in
    let since = c.in_ok-earlier.ensures in
    let format = c.in_ok-report_format.ensures in
    let good = and_from _ _ (and_from _ _ (and_from _ _ (and_from _ _ (and_from _ _ (and_from _ _ (and_from _ _ arch.0 workers.0) chunk.0) show.0) asked.0) bg.0) since.0) format.0 in
    (good, record { arch = arch.1; workers = workers.1; chunk = chunk.1; show = show.1; asked = asked.1; bg = bg.1; since = since.1; format = format.1 })
