use Rattle.std.proofs.Common.{◌≡◌, All, Global, Vec, refl, rules, true}
use Rattle.deb_index.specs.declared.constraint.Constraint.{Constraint}
use Rattle.number_sets.proofs.ListLemmas.{all_seen}
use Rattle.deb_report.specs.Document.{explanation_in}
use Rattle.deb_report.specs.Sought.{IsTold}
use Rattle.deb_report.proofs.form.Writer.push_explanation.Goals as goal

pub push_cores-requires-clause-cores : goal.push_cores-requires-clause-cores
push_cores-requires-clause-cores c =
    let told = IsTold c.args.self.now.index.now c.args.self.now.config.now c.args.self.now.similar.now in
    let explains : c.args.self.now.config.now.explain ≡ true = search rules in
    let within = rw c.in-Broken.is at c.requires.asked.1 in
    let walked = rw c.in-Broken.is at (c.requires.walked explains) in
    rw c.as_slice.ensures.value
    (all_seen (All told) (λ (core : Vec Constraint Global). core.items) _
    (λ k core below i one inside. (within k core below i one inside, λ why. walked why k core below i one inside)))

pub returns-in_ok-push_list-in-Set : goal.returns-in_ok-push_list-in-Set
unfolding explanation_in
returns-in_ok-push_list-in-Set c =
    let explains : c.args.self.now.config.now.explain ≡ true = search rules in
    rw (c.in_ok-push_list-in-Set.ensures, c.as_slice-places.ensures.value, c.in-Set.is, explains) refl
