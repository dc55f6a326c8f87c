use Rattle.std.proofs.Common.{◌≡◌, ◌<◌, ◌∙◌, [], length, map, refl, string_bytes, subst, sym}
use Rattle.std.proofs.lemmas.Bool.{eqb-true}
use Rattle.std.proofs.lemmas.List.{length-map}
use Rattle.clap.specs.Words.{HasKind, app_of, found_of, kind_of, rows_of}
use Rattle.command_line.specs.Line.{line_app, line_faults}
use Rattle.command_line.proofs.LineFacts.{accepts, accepts-none, faults-are, is_free, nonempty, refuses-memory, refuses-values, refuses-words, rows-are}
use Rattle.command_line.proofs.line.read_words.Goals as goal

pub returns-in-Ok-clause-accepted : goal.returns-in-Ok-clause-accepted
returns-in-Ok-clause-accepted c =
    let words = map string_bytes c.args.words.now in
    let app = app_of c.in_ok-command.field-0 in
    let app_is : app ≡ line_app = c.in_ok-command.ensures in
    let some : 0 < length words = rw (length-map c.args.words.now string_bytes) (nonempty (length c.args.words.now) c.is_empty.result c.is_empty.ensures c.if-is_empty.false) in
    let none : line_faults words ≡ [] = sym (faults-are app words words app_is refl) ∙ c.in-Ok.ensures.kinds (is_free app app_is) in
    accepts words (rows_of (found_of c.in-Ok.matches)) c.config_of.result some none (rows-are app words words c.in-Ok.matches app_is refl c.in-Ok.ensures.matches)
    c.config_of.ensures.good c.config_of.ensures.request

pub returns-in-Ok-clause-refused : goal.returns-in-Ok-clause-refused
returns-in-Ok-clause-refused c =
    let words = map string_bytes c.args.words.now in
    let app = app_of c.in_ok-command.field-0 in
    let app_is : app ≡ line_app = c.in_ok-command.ensures in
    let some : 0 < length words = rw (length-map c.args.words.now string_bytes) (nonempty (length c.args.words.now) c.is_empty.result c.is_empty.ensures c.if-is_empty.false) in
    let none : line_faults words ≡ [] = sym (faults-are app words words app_is refl) ∙ c.in-Ok.ensures.kinds (is_free app app_is) in
    refuses-values words (rows_of (found_of c.in-Ok.matches)) c.config_of.result some none (rows-are app words words c.in-Ok.matches app_is refl c.in-Ok.ensures.matches)
    c.config_of.ensures.refused

pub returns-in_ok-fault_from-in-Err-clause-refused : goal.returns-in_ok-fault_from-in-Err-clause-refused
returns-in_ok-fault_from-in-Err-clause-refused c =
    let words = map string_bytes c.args.words.now in
    let app = app_of c.in_ok-command.field-0 in
    let app_is : app ≡ line_app = c.in_ok-command.ensures in
    let some : 0 < length words = rw (length-map c.args.words.now string_bytes) (nonempty (length c.args.words.now) c.is_empty.result c.is_empty.ensures c.if-is_empty.false) in
    let why : HasKind (line_faults words) c.in-Err.error = subst (λ kinds. HasKind kinds c.in-Err.error) (faults-are app words words app_is refl) (c.in-Err.ensures.kinds (is_free app app_is)) in
    refuses-words words (kind_of c.in-Err.error) c.in_ok-fault_from-in-Err.field-0 some why c.in_ok-fault_from-in-Err.ensures

pub returns-then-is_empty-clause-accepted : goal.returns-then-is_empty-clause-accepted
returns-then-is_empty-clause-accepted c =
    let words = map string_bytes c.args.words.now in
    let usual = c.in_ok-usual.ensures in
    let none : length words ≡ 0 = rw (length-map c.args.words.now string_bytes) (eqb-true (length c.args.words.now) 0 (sym c.is_empty.ensures ∙ c.if-is_empty.true)) in
    accepts-none words c.in_ok-usual.field-0 none usual.settings usual.names usual.background usual.since usual.workers usual.chunk usual.quiet

pub returns-in_err-usual-clause-refused : goal.returns-in_err-usual-clause-refused
returns-in_err-usual-clause-refused c = refuses-memory (map string_bytes c.args.words.now) c.from_residual.result c.from_residual.ensures.1

pub returns-in_err-command-clause-refused : goal.returns-in_err-command-clause-refused
returns-in_err-command-clause-refused c = refuses-memory (map string_bytes c.args.words.now) c.from_residual-in_err-command.result c.from_residual-in_err-command.ensures.1

pub returns-in_err-fault_from-in-Err-clause-refused : goal.returns-in_err-fault_from-in-Err-clause-refused
returns-in_err-fault_from-in-Err-clause-refused c =
    refuses-memory (map string_bytes c.args.words.now) c.from_residual-in_err-fault_from-in-Err.result c.from_residual-in_err-fault_from-in-Err.ensures.1
