use Rattle.std.proofs.Common.{◌≡◌, ◌+◌, sym, ◌∙◌, arith}
use Rattle.std.proofs.lemmas.Bool.{false≢true}
use Rattle.deb_index.specs.Links.{first_position}
use Rattle.deb_groundwork.proofs.WitnessLemmas.{need_stands}
use Rattle.deb_groundwork.proofs.part.Part.next_need.Goals as goal

pub returns-clause-passed : goal.returns-clause-passed
returns-clause-passed c = λ j from below less asked.
    let index = c.args.self.now.index.now in
    let position = c.need_position-position.result in
    let here : position ≡ first_position index c.args.place + c.args.number =
    need_stands index c.args.place c.args.number position c.requires (omega (arith, c.need_count.ensures, c.if-number-need_count.false)) c.need_position-position.ensures in
    let there : asked.0 ≡ first_position index c.args.place + j = need_stands index c.args.place j asked.0 c.requires less asked.2 in
    false≢true (sym (c.next_position.ensures.passed asked.0 (omega (arith, here, there, from)) (omega (arith, here, there, from, below, c.saturating_add.ensures))) ∙ asked.1)
