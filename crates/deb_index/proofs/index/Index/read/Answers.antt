use Rattle.std.proofs.Common.{◌∙◌, sym}
use Rattle.deb_index.specs.Reading.{index_of}
use Rattle.deb_index.proofs.BackgroundLemmas.{alone-back, alone-fore, alone-index, both-empty}
use Rattle.deb_index.proofs.index.Index.read.Goals as goal

pub returns-in-Ok-clause-accepted : goal.returns-in-Ok-clause-accepted
returns-in-Ok-clause-accepted c =
    alone-index (index_of c.args.text.now c.args.arch.now c.args.essential) c.in-Ok.index
    (sym (both-empty c.args.text.now c.args.arch.now c.args.essential) ∙ c.in-Ok.ensures.accepted)

pub returns-in-Err-Fore-clause-refused : goal.returns-in-Err-Fore-clause-refused
returns-in-Err-Fore-clause-refused c = λ other.
    let refused = rw c.in-Err-Fore.field-0-is at c.in-Err-Fore.ensures.refused in
    alone-fore (index_of c.args.text.now c.args.arch.now c.args.essential) c.in-Err-Fore.fault
    (sym (both-empty c.args.text.now c.args.arch.now c.args.essential) ∙ refused (λ m. absurd cc))

pub returns-in-Err-Back-clause-refused : goal.returns-in-Err-Back-clause-refused
returns-in-Err-Back-clause-refused c = λ other.
    let refused = rw c.in-Err-Back.field-0-is at c.in-Err-Back.ensures.refused in
    alone-back (index_of c.args.text.now c.args.arch.now c.args.essential) c.in-Err-Back.fault
    (sym (both-empty c.args.text.now c.args.arch.now c.args.essential) ∙ refused (λ m. absurd cc))
