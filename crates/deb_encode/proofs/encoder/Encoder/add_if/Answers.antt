use Rattle.std.proofs.Common.{◌||◌, Bool, length, not, refl}
use Rattle.std.specs.List.{list_any}
use Rattle.std.proofs.lemmas.Bool.{or_left}
use Rattle.std.proofs.lemmas.Result.{on_ok_weaker}
use Rattle.number_sets.specs.Sets.{NumberSet}
use Rattle.deb_encode.specs.Encoders.{set_of, stands}
use Rattle.deb_encode.proofs.Widening.{widens_next, widened_below, clause_settled, clause_told}
use Rattle.deb_encode.proofs.encoder.Encoder.add_if.Goals as goal

pub returns-then-branch : goal.returns-then-branch
returns-then-branch c =
    let is_out : NumberSet → Bool = λ vars. not (set_of c.args.self.now.play vars c.args.place) in
    clause_settled _ (length c.args.self.now.play.candidates.now) is_out c.clear.new.self.items c.or_place.new.clause.items c.in_ok-or_place.field-0 c.args.self.now _
    (record { play = refl; group = refl; formula = refl }) refl c.clear.ensures.items c.in_ok-or_place.ensures c.if-branch.true (λ vars out. or_left (is_out vars) _ out)

pub add_unless-requires : goal.add_unless-requires
add_unless-requires c =
    let count = length c.args.self.now.play.candidates.now in
    let is_out : NumberSet → Bool = λ vars. not (set_of c.args.self.now.play vars c.args.place) in
    let some : NumberSet → Bool = λ vars. list_any (λ q. stands c.args.self.now.play vars c.args.positive q) c.args.others.now in
    widened_below count (λ vars. is_out vars || some vars) c.clear.new.self.items c.or_some.new.clause.items c.in_ok-anyway.anyway c.clear.ensures.items
    (widens_next count is_out some c.clear.new.self.items c.or_place.new.clause.items c.or_some.new.clause.items c.in_ok-or_place.field-0 c.in_ok-anyway.anyway c.if-branch.false c.in_ok-or_place.ensures c.in_ok-anyway.ensures)

pub returns : goal.returns
returns c =
    let count = length c.args.self.now.play.candidates.now in
    let is_out : NumberSet → Bool = λ vars. not (set_of c.args.self.now.play vars c.args.place) in
    let some : NumberSet → Bool = λ vars. list_any (λ q. stands c.args.self.now.play vars c.args.positive q) c.args.others.now in
    on_ok_weaker c.add_unless.result
    (clause_told _ count (λ vars. is_out vars || some vars) c.clear.new.self.items c.or_some.new.clause.items c.in_ok-anyway.anyway c.args.self.now _ (record { play = refl; group = refl; formula = refl }) refl c.clear.ensures.items
    (widens_next count is_out some c.clear.new.self.items c.or_place.new.clause.items c.or_some.new.clause.items c.in_ok-or_place.field-0 c.in_ok-anyway.anyway c.if-branch.false c.in_ok-or_place.ensures c.in_ok-anyway.ensures)
    c.add_unless.new.self (λ vars. (λ holds. holds, λ holds. holds)))
    c.add_unless.ensures
