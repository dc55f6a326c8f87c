use Rattle.std.proofs.Common.{◌∙◌, ap, map}
use Rattle.std.proofs.lemmas.List.{take_all}
use Rattle.clap.specs.Words.{app_of}
use Rattle.command_line.specs.Line.{app_with, option_rule}
use Rattle.command_line.proofs.OptionLemmas.{adds-next}
use Rattle.command_line.proofs.options.command.Goals as goal

pub loop-option-preserved : goal.loop-option-preserved
loop-option-preserved c =
    adds-next option_rule _ c.loop-option.option-index _ (app_of c.loop-option.command) _ _ c.loop-option-test.true
    c.loop-option.invariant c.argument.ensures.rule (c.in_ok-command.ensures.shape c.argument.ensures.local)

pub loop-option-init : goal.loop-option-init
loop-option-init c = c.bare-command.ensures

pub returns : goal.returns
returns c = c.loop-option.invariant ∙ ap (λ options. app_with (map option_rule options)) (take_all _ _ c.loop-option-test.false)
