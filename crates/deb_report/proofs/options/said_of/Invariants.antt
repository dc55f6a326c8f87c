use Rattle.std.proofs.Common.{◌≡◌, map, take}
use Rattle.std.specs.List.{flat_map}
use Rattle.run_settings.specs.Settings.{word_if}
use Rattle.deb_report.proofs.options.said_of.Given as goal

abbrev pub invariant-loop-is_said : goal.invariant-loop-is_said
invariant-loop-is_said l = map (λ one. one.now) l.said.items ≡ flat_map (λ one. word_if one.0 one.1.now) (take l.is_said-index l.words)
