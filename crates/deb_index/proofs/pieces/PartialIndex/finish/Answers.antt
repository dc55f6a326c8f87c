use Rattle.std.proofs.Common.{◌≡◌, ◌≢◌, ◌∙◌, ◌+◌, ◌*◌, ◌≤◌, ℕ, List, Ok, Err, ap, sym, subst, sum_by, arith}
use Rattle.std.proofs.lemmas.Result.{err_from_is_err_and}
use Rattle.deb_control.specs.Stanzas.{stanzas_of}
use Rattle.deb_index.specs.declared.error.IndexError.TheVariants.{Memory}
use Rattle.deb_index.specs.Packages.{IndexView}
use Rattle.deb_index.specs.Built.{ArePartsOf, FailsBehind, Finishes, FrontView, front_of}
use Rattle.deb_index.specs.Reading.{byte_limit, continued, read_behind, readings, stanza_limit}
use Rattle.deb_index.specs.Tables.{asked_count}
use Rattle.deb_index.proofs.PieceLemmas.{behind-all, front-back, front-index}
use Rattle.deb_index.proofs.pieces.PartialIndex.finish.Goals as goal

pub add_behind-requires-clause-parts : goal.add_behind-requires-clause-parts
add_behind-requires-clause-parts g c =
    let parts = c.in_ok-parted.parted.items in
    (c.args.background.now, subst (λ (a : List ℕ). ArePartsOf a c.args.background.now parts) c.arch.ensures c.in_ok-parted.ensures, c.requires)

pub add_behind-requires-clause-few : goal.add_behind-requires-clause-few
add_behind-requires-clause-few g c = subst (λ (v : IndexView). v.stanzas ≤ stanza_limit) (sym c.end_foreground-fore.ensures) c.self.invariant.few

pub add_behind-requires-clause-room : goal.add_behind-requires-clause-room
add_behind-requires-clause-room g c =
    subst (λ (v : IndexView). sum_by asked_count v.packages ≤ byte_limit + 1 + 4 * v.stanzas) (sym c.end_foreground-fore.ensures)
    (omega (arith, c.self.invariant.room, c.self.invariant.short))

pub returns-in-Err-clause-refused : goal.returns-in-Err-clause-refused
returns-in-Err-clause-refused g c =
    let old = front_of c.self.inside.builder c.self.inside.size in
    let mid = c.end_foreground-fore.result in
    let e = c.in-Err.error in
    let fault : e ≢ Memory → continued mid (readings mid.arch mid.stanzas 0 (stanzas_of c.args.background.now)) ≡ Err e =
    λ other. sym (behind-all mid c.stanzas-before.result c.args.background.now c.stanzas-before.ensures)
    ∙ subst (λ (stanzas : List (List (List ℕ))). read_behind mid c.stanzas-before.result stanzas ≡ Err e) c.in_ok-parted.ensures.stanzas (c.in-Err.ensures.refused other) in
    let fails : FailsBehind old c.args.background.now c.in_back.result = λ other arch essential text is.
    let no_memory : e ≢ Memory = λ m. other (c.in_back.ensures.memory m) in
    front-back arch essential text old is mid c.end_foreground-fore.ensures c.args.background.now e (fault no_memory) ∙ ap Err (sym (c.in_back.ensures.value no_memory)) in
    subst (λ (f : FrontView). FailsBehind f c.args.background.now c.in_back.result) c.self.view_is fails

pub returns-clause-accepted : goal.returns-clause-accepted
returns-clause-accepted g c =
    let old = front_of c.self.inside.builder c.self.inside.size in
    let mid = c.end_foreground-fore.result in
    let whole = c.in-Ok.both in
    let read = sym (behind-all mid c.stanzas-before.result c.args.background.now c.stanzas-before.ensures)
    ∙ subst (λ (stanzas : List (List (List ℕ))). read_behind mid c.stanzas-before.result stanzas ≡ Ok whole) c.in_ok-parted.ensures.stanzas c.in-Ok.ensures.accepted in
    let finishes : Finishes old c.args.background.now c.in_ok-index.index = λ arch essential text is.
    front-index arch essential text old is mid c.end_foreground-fore.ensures c.args.background.now whole read ∙ ap (λ (i : IndexView). Ok i) (sym (c.in_ok-index.ensures ∙ c.in_ok-unlinked.ensures)) in
    subst (λ (f : FrontView). Finishes f c.args.background.now c.in_ok-index.index) c.self.view_is finishes

pub returns-in_err-unlinked-clause-refused : goal.returns-in_err-unlinked-clause-refused
returns-in_err-unlinked-clause-refused g c =
    let p = err_from_is_err_and c.from_residual-in_err-unlinked.result c.from_residual-in_err-unlinked.ensures.1 in
    rw p.1 (λ other. absurd (other p.2))
