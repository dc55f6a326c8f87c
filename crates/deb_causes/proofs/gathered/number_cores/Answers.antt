use Rattle.std.proofs.Common.{◌∙◌, ◌∷◌, [], Global, List, Vec, ap, map, refl, subst, sym}
use Rattle.std.proofs.lemmas.List.{map-append}
use Rattle.deb_index.specs.declared.constraint.Constraint.{Constraint}
use Rattle.number_sets.proofs.AtomSteps.{pushed}
use Rattle.deb_causes.specs.declared.gathered.NumberedCore.{NumberedCore}
use Rattle.deb_causes.specs.Numbering.{core_view}
use Rattle.deb_causes.specs.Wrongs.{AreNumbered}
use Rattle.deb_causes.proofs.WrongsLemmas.{numbered-more, numbered-none}
use Rattle.deb_causes.proofs.gathered.number_cores.Goals as goal

pub loop-one-init : goal.loop-one-init
loop-one-init c = rw c.new-numbered.ensures.items (record { cores = refl; numbers = numbered-none c.args.index.now c.args.wrongs.now })

pub loop-one-preserved : goal.loop-one-preserved
loop-one-preserved c =
    let index = c.args.index.now in
    let one : NumberedCore = record { number = c.in_ok-number.number; core = c.as_slice-core.result } in
    let old : List NumberedCore = c.loop-one.numbered.items in
    record {
      cores =
          pushed (λ (one : NumberedCore). one.core.now) (λ (core : Vec Constraint Global). core.items) c.push.new.self.items old one [] c.args.cores.now c.loop-one.one-index c.one-item.result
          c.in_ok-push.ensures.items c.loop-one.invariant.cores c.loop-one-test.true (c.as_slice-core.ensures.value ∙ ap (λ core. core.items) c.one-item.is);
      numbers =
          subst (λ cores. AreNumbered index c.args.wrongs.now c.number.new.self cores) (sym (ap (map core_view) c.in_ok-push.ensures.items ∙ map-append core_view old (one ∷ [])))
          (numbered-more index c.args.wrongs.now c.loop-one.wrongs c.number.new.self (map core_view old) (core_view one ∷ []) c.loop-one.invariant.numbers c.in_ok-number.ensures);
    }
