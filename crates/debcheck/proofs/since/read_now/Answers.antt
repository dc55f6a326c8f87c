use Rattle.std.proofs.lemmas.Result.{IfErr-weaker, IfOk-weaker}
use Rattle.run_settings.specs.Settings.{settings_of}
use Rattle.deb_input.specs.Inputs.{input}
use Rattle.debcheck.proofs.PhaseLemmas.{accept-fails, accepted-as, read_whole}
use Rattle.debcheck.proofs.since.read_now.Goals as goal

pub returns-clause-index : goal.returns-clause-index
returns-clause-index g c =
    let text = input (g.S.Source.remaining c.args.reader.now) (g.S.Source.failed c.read_text.new.reader) in
    let reads = c.in_ok-outcome.ensures.text in
    IfOk-weaker c.finish-index.result _ _
    (λ index makes background second.
    accepted-as (settings_of c.args.job.now.config.now) text background reads.0 c.args.more.now index (read_whole reads.1 c.requires.reader) second (makes reads.0 reads.2))
    c.finish-index.ensures.index

pub returns-clause-refused : goal.returns-clause-refused
returns-clause-refused g c =
    let text = input (g.S.Source.remaining c.args.reader.now) (g.S.Source.failed c.read_text.new.reader) in
    let reads = c.in_ok-outcome.ensures.text in
    IfErr-weaker c.finish-index.result _ _
    (λ fault fails background second.
    accept-fails (settings_of c.args.job.now.config.now) text background reads.0 c.args.more.now fault (read_whole reads.1 c.requires.reader) second (fails reads.0 reads.2))
    c.finish-index.ensures.refused
