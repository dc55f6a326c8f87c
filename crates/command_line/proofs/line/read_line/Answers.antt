use Rattle.std.proofs.Common.{map, string_bytes}
use Rattle.std.proofs.lemmas.Result.{IfOk-weaker}
use Rattle.command_line.proofs.LineFacts.{arch-good, chunk-within, only-good, workers-within}
use Rattle.command_line.proofs.line.read_line.Goals as goal

pub returns-clause-architecture : goal.returns-clause-architecture
returns-clause-architecture c = IfOk-weaker c.read_words.result _ _ (arch-good (map string_bytes c.as_slice.result.now)) c.read_words.ensures.accepted

pub returns-clause-workers : goal.returns-clause-workers
returns-clause-workers c = IfOk-weaker c.read_words.result _ _ (workers-within (map string_bytes c.as_slice.result.now)) c.read_words.ensures.accepted

pub returns-clause-chunk : goal.returns-clause-chunk
returns-clause-chunk c = IfOk-weaker c.read_words.result _ _ (chunk-within (map string_bytes c.as_slice.result.now)) c.read_words.ensures.accepted

pub returns-clause-only : goal.returns-clause-only
returns-clause-only c = IfOk-weaker c.read_words.result _ _ (only-good (map string_bytes c.as_slice.result.now)) c.read_words.ensures.accepted
