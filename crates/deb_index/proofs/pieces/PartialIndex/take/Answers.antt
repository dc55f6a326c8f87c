use Rattle.std.proofs.Common.{◌≡◌, ◌≢◌, ◌+◌, ◌-◌, ℕ, List, Ok, Err, ap, subst, length, refl, arith}
use Rattle.std.proofs.lemmas.Result.{err_from_is_err_and}
use Rattle.deb_control.specs.Stanzas.{stanzas_of}
use Rattle.deb_index.specs.declared.error.IndexError.TheVariants.{Memory}
use Rattle.deb_index.specs.Built.{ArePartsOf, Accepts, FrontView, Refuses, front_of}
use Rattle.deb_index.specs.Reading.{read_behind}
use Rattle.deb_index.proofs.PieceLemmas.{front-fault, front-more, stays-within}
use Rattle.deb_index.proofs.TakenLemmas.{Taken, taken}
use Rattle.deb_index.proofs.pieces.PartialIndex.take.Goals as goal

pub add_behind-requires-clause-parts : goal.add_behind-requires-clause-parts
add_behind-requires-clause-parts g c =
    let parts = c.in_ok-parted.parted.items in
    (c.args.piece.now, subst (λ (a : List ℕ). ArePartsOf a c.args.piece.now parts) c.arch.ensures c.in_ok-parted.ensures, omega (arith, ap (λ (f : FrontView). f.size) c.self.view_is, c.requires.short))

pub add_behind-requires-clause-room : goal.add_behind-requires-clause-room
add_behind-requires-clause-room g c = omega (arith, c.self.invariant.room, c.self.invariant.short)

pub returns-in_err-builder-clause-refused : goal.returns-in_err-builder-clause-refused
returns-in_err-builder-clause-refused g c =
    let v = c.self.inside.builder in
    let piece = c.args.piece.now in
    let e = c.in_err-builder.field-0.0 in
    let p = err_from_is_err_and c.from_residual-in_err-builder.result c.from_residual-in_err-builder.ensures.1 in
    let fault : e ≢ Memory → read_behind v 0 (stanzas_of piece) ≡ Err e =
    λ other. subst (λ (stanzas : List (List (List ℕ))). read_behind v 0 stanzas ≡ Err e) c.in_ok-parted.ensures.stanzas (c.in_err-builder.ensures.refused other) in
    let refuses : Refuses (front_of v c.self.inside.size) piece e =
    λ other arch essential text more closed is ends. front-fault arch essential text (front_of v c.self.inside.size) is piece more e closed ends (fault other) in
    rw (p.1, p.2) (subst (λ (f : FrontView). Refuses f piece e) c.self.view_is refuses)

pub invariant_of-result : goal.invariant_of-result
invariant_of-result g c =
    let v = c.self.inside.builder in
    let size = c.self.inside.size in
    let new = c.in_ok-builder.builder in
    let piece = c.args.piece.now in
    let read = subst (λ (stanzas : List (List (List ℕ))). read_behind v 0 stanzas ≡ Ok new) c.in_ok-parted.ensures.stanzas c.in_ok-builder.ensures.accepted in
    let t : Taken v (stanzas_of piece) new = taken v.arch 0 (v.stanzas - 0) (stanzas_of piece) v new read (omega arith) in
    stays-within (front_of v size) (front_of new (size + length piece)) piece c.self.invariant t refl (omega (arith, ap (λ (f : FrontView). f.size) c.self.view_is, c.requires.short))

pub returns-clause-accepted : goal.returns-clause-accepted
returns-clause-accepted g c =
    let v = c.self.inside.builder in
    let size = c.self.inside.size in
    let new = c.in_ok-builder.builder in
    let piece = c.args.piece.now in
    let read = subst (λ (stanzas : List (List (List ℕ))). read_behind v 0 stanzas ≡ Ok new) c.in_ok-parted.ensures.stanzas c.in_ok-builder.ensures.accepted in
    let next = front_of new (size + length piece) in
    let accepts : Accepts (front_of v size) piece next =
    λ arch essential text closed is. front-more arch essential text (front_of v size) is piece next closed read refl in
    subst (λ (f : FrontView). Accepts f piece next) c.self.view_is accepts
