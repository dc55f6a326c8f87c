use Rattle.std.proofs.Common.{lit<}
use Rattle.std.proofs.lemmas.Str.Pattern.{strip_prefix_char}
use Rattle.clap.proofs.LexerLemmas.{strip_byte-from}
use Rattle.command_line.proofs.values.file_in.Goals as goal

pub returns : goal.returns
returns c = strip_byte-from 64 c.args.text.now c.strip_prefix.result (strip_prefix_char 64 c.args.text.now c.strip_prefix.result c.strip_prefix.ensures.cases (lit< tt))
