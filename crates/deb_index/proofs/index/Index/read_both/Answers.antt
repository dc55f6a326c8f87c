use Rattle.std.proofs.Common.{◌≡◌, ◌≢◌, ◌∙◌, ◌≤◌, ◌+◌, ◌*◌, Ok, Err, ap, subst, sym, ℕ, List, [], sum_by, arith}
use Rattle.deb_control.specs.Stanzas.{stanzas_of}
use Rattle.deb_index.specs.declared.error.IndexError.TheVariants.{Memory}
use Rattle.deb_index.specs.Packages.{IndexView}
use Rattle.deb_index.specs.Reading.{byte_limit, collected, continued, read_behind, readings}
use Rattle.deb_index.specs.Tables.{asked_count}
use Rattle.deb_index.proofs.BothLemmas.{both-back, both-fore, both-ok}
use Rattle.deb_index.proofs.CollectLemmas.{collected-stanzas, own-arch}
use Rattle.deb_index.proofs.PieceLemmas.{behind-all}
use Rattle.deb_index.proofs.RoomLemmas.{fore-room, fresh-room}
use Rattle.deb_index.proofs.TakenLemmas.{taken}
use Rattle.deb_index.proofs.index.Index.read_both.Goals as goal

pub add_behind-requires-clause-parts : goal.add_behind-requires-clause-parts
add_behind-requires-clause-parts c = (c.args.text.now, c.in_ok-parted.ensures c.in_ok-empty.empty.arch, c.requires.fore)

pub add_behind-requires-clause-room : goal.add_behind-requires-clause-room
add_behind-requires-clause-room c = fresh-room _ c.args.essential c.in_ok-empty.empty c.in_ok-empty.ensures

pub returns-in-Err-clause-refused : goal.returns-in-Err-clause-refused
returns-in-Err-clause-refused c = λ other.
    let old = c.in_ok-empty.empty in
    let e = c.in-Err.error in
    let is : old ≡ collected c.args.arch.now c.args.essential [] = c.in_ok-empty.ensures ∙ ap (λ (a : List ℕ). collected a c.args.essential []) c.as_bytes.ensures.value in
    let none = sym (ap (λ (i : IndexView). i.stanzas) is ∙ collected-stanzas c.args.arch.now c.args.essential []) in
    let no_memory : e ≢ Memory = λ m. other (c.in_fore.ensures.memory m) in
    let read = sym (behind-all old 0 c.args.text.now none) ∙ subst (λ (stanzas : List (List (List ℕ))). read_behind old 0 stanzas ≡ Err e) (c.in_ok-parted.ensures []).stanzas (c.in-Err.ensures.refused no_memory) in
    let first = subst (λ (a : List ℕ). continued old (readings a old.stanzas 0 (stanzas_of c.args.text.now)) ≡ Err e) (own-arch c.args.arch.now c.args.essential old is) read in
    both-fore c.args.text.now c.args.background.now c.args.arch.now c.args.essential old e is first ∙ ap Err (sym (c.in_fore.ensures.value no_memory))

pub add_behind-requires-2-clause-parts : goal.add_behind-requires-2-clause-parts
add_behind-requires-2-clause-parts c = (c.args.background.now, c.in_ok-parted-2.ensures c.end_foreground-fore.result.arch, c.requires.back)

pub add_behind-requires-2-clause-room : goal.add_behind-requires-2-clause-room
add_behind-requires-2-clause-room c =
    let old = c.in_ok-empty.empty in
    let is : old ≡ collected c.args.arch.now c.args.essential [] = c.in_ok-empty.ensures ∙ ap (λ (a : List ℕ). collected a c.args.essential []) c.as_bytes.ensures.value in
    let none = sym (ap (λ (i : IndexView). i.stanzas) is ∙ collected-stanzas c.args.arch.now c.args.essential []) in
    let read = sym (behind-all old 0 c.args.text.now none) ∙ subst (λ (stanzas : List (List (List ℕ))). read_behind old 0 stanzas ≡ Ok c.in-Ok.fore) (c.in_ok-parted.ensures []).stanzas c.in-Ok.ensures.accepted in
    let t = taken old.arch old.stanzas 0 (stanzas_of c.args.text.now) old c.in-Ok.fore read (omega arith) in
    subst (λ (v : IndexView). sum_by asked_count v.packages ≤ byte_limit + 1 + 4 * v.stanzas) (sym c.end_foreground-fore.ensures)
    (fore-room c.as_bytes.result.now c.args.essential c.args.text.now old c.in-Ok.fore c.requires.fore c.in_ok-empty.ensures t.asks)

pub returns-in-Err-add_behind-clause-refused : goal.returns-in-Err-add_behind-clause-refused
returns-in-Err-add_behind-clause-refused c = λ other.
    let old = c.in_ok-empty.empty in
    let mid = c.end_foreground-fore.result in
    let is : old ≡ collected c.args.arch.now c.args.essential [] = c.in_ok-empty.ensures ∙ ap (λ (a : List ℕ). collected a c.args.essential []) c.as_bytes.ensures.value in
    let no_memory : c.in-Err-add_behind.error ≢ Memory = λ m. other (c.in_back.ensures.memory m) in
    let none = sym (ap (λ (i : IndexView). i.stanzas) is ∙ collected-stanzas c.args.arch.now c.args.essential []) in
    let read = sym (behind-all old 0 c.args.text.now none) ∙ subst (λ (stanzas : List (List (List ℕ))). read_behind old 0 stanzas ≡ Ok c.in-Ok.fore) (c.in_ok-parted.ensures []).stanzas c.in-Ok.ensures.accepted in
    let t = taken old.arch old.stanzas 0 (stanzas_of c.args.text.now) old c.in-Ok.fore read (omega arith) in
    let first = subst (λ (a : List ℕ). continued old (readings a old.stanzas 0 (stanzas_of c.args.text.now)) ≡ Ok c.in-Ok.fore) (own-arch c.args.arch.now c.args.essential old is) read in
    let second = subst (λ (a : List ℕ). continued mid (readings a mid.stanzas 0 (stanzas_of c.args.background.now)) ≡ Err c.in-Err-add_behind.error) (ap (λ (i : IndexView). i.arch) c.end_foreground-fore.ensures ∙ t.arch ∙ own-arch c.args.arch.now c.args.essential old is)
    (sym (behind-all mid c.stanzas-before.result c.args.background.now c.stanzas-before.ensures)
    ∙ subst (λ (stanzas : List (List (List ℕ))). read_behind mid c.stanzas-before.result stanzas ≡ Err c.in-Err-add_behind.error) (c.in_ok-parted-2.ensures []).stanzas (c.in-Err-add_behind.ensures.refused no_memory)) in
    both-back c.args.text.now c.args.background.now c.args.arch.now c.args.essential old c.in-Ok.fore mid is first c.end_foreground-fore.ensures c.in-Err-add_behind.error second ∙ ap Err (sym (c.in_back.ensures.value no_memory))

pub returns-clause-accepted : goal.returns-clause-accepted
returns-clause-accepted c =
    let old = c.in_ok-empty.empty in
    let mid = c.end_foreground-fore.result in
    let is : old ≡ collected c.args.arch.now c.args.essential [] = c.in_ok-empty.ensures ∙ ap (λ (a : List ℕ). collected a c.args.essential []) c.as_bytes.ensures.value in
    let none = sym (ap (λ (i : IndexView). i.stanzas) is ∙ collected-stanzas c.args.arch.now c.args.essential []) in
    let read = sym (behind-all old 0 c.args.text.now none) ∙ subst (λ (stanzas : List (List (List ℕ))). read_behind old 0 stanzas ≡ Ok c.in-Ok.fore) (c.in_ok-parted.ensures []).stanzas c.in-Ok.ensures.accepted in
    let t = taken old.arch old.stanzas 0 (stanzas_of c.args.text.now) old c.in-Ok.fore read (omega arith) in
    let first = subst (λ (a : List ℕ). continued old (readings a old.stanzas 0 (stanzas_of c.args.text.now)) ≡ Ok c.in-Ok.fore) (own-arch c.args.arch.now c.args.essential old is) read in
    let second = subst (λ (a : List ℕ). continued mid (readings a mid.stanzas 0 (stanzas_of c.args.background.now)) ≡ Ok c.in-Ok-add_behind.both) (ap (λ (i : IndexView). i.arch) c.end_foreground-fore.ensures ∙ t.arch ∙ own-arch c.args.arch.now c.args.essential old is)
    (sym (behind-all mid c.stanzas-before.result c.args.background.now c.stanzas-before.ensures)
    ∙ subst (λ (stanzas : List (List (List ℕ))). read_behind mid c.stanzas-before.result stanzas ≡ Ok c.in-Ok-add_behind.both) (c.in_ok-parted-2.ensures []).stanzas (c.in-Ok-add_behind.ensures.accepted)) in
    both-ok c.args.text.now c.args.background.now c.args.arch.now c.args.essential old c.in-Ok.fore mid is first c.end_foreground-fore.ensures c.in-Ok-add_behind.both second ∙ ap (λ (i : IndexView). Ok i) (sym (c.in_ok-index.ensures ∙ c.in_ok-unlinked.ensures))
