use Rattle.std.proofs.Common.{◌≡◌, map, length, refl, ◌∙◌, ap}
use Rattle.std.proofs.lemmas.Result.{on_ok_weaker}
use Rattle.deb_encode.proofs.EncoderLemmas.{tells_as}
use Rattle.deb_encode.proofs.Excluding.{owner_of, owners_in_group, owners_below, apart_adds, apart_placed, HasApart}
use Rattle.deb_encode.proofs.encoder.Encoder.exclude_others.Goals as goal

pub exclude-requires-clause-groups : goal.exclude-requires-clause-groups
exclude-requires-clause-groups c =
    owners_in_group c.args.self.now.group c.deref.result.now c.deref-2.result.now (c.deref-2.ensures.value ∙ c.in_ok-own_all.ensures) c.args.self.now.formula.now.groups c.args.self.now.in_range

pub exclude-requires-clause-owners : goal.exclude-requires-clause-owners
exclude-requires-clause-owners c =
    owners_below c.args.self.now.group c.list_variables.new.list.items c.deref-2.result.now (c.deref-2.ensures.value ∙ (c.in_ok-own_all.ensures ∙ ap (map (owner_of c.args.self.now.group)) c.deref.ensures.value))
    (length c.args.self.now.play.candidates.now) c.args.self.now.formula.now.vars c.args.self.now.vars c.in_ok-list_variables.ensures.below

pub returns : goal.returns
returns c =
    let owners_are : c.deref-2.result.now ≡ map (owner_of c.args.self.now.group) c.list_variables.new.list.items = c.deref-2.ensures.value ∙ (c.in_ok-own_all.ensures ∙ ap (map (owner_of c.args.self.now.group)) c.deref.ensures.value) in
    on_ok_weaker c.exclude.result
    (λ added. tells_as (λ play vars. HasApart c.list_variables.new.list.items c.list_variables-2.new.list.items vars) _ c.args.self.now _
    (λ vars. apart_placed c.args.self.now.play.forced.now c.args.self.now.play.candidates.now c.args.owners.now c.args.places.now c.list_variables.new.list.items c.list_variables-2.new.list.items c.args.self.now.play.rising
    c.requires.no_owner_in c.requires.none_in c.in_ok-list_variables.ensures c.in_ok-list_variables-2.ensures vars)
    (record {
      same = record { play = refl; group = refl; formula = refl };
      adds = apart_adds c.args.self.now.group c.list_variables.new.list.items c.deref-2.result.now owners_are c.list_variables-2.new.list.items c.deref-3.result.now c.args.self.now.formula.now c.exclude.new.self c.deref-3.ensures.value added;
    })) c.exclude.ensures.ok
