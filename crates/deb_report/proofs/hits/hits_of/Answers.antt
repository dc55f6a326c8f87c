use Rattle.std.proofs.Common.{◌≡◌, ◌<◌, ◌||◌, ◌∙◌, ap, arith, get_or, length, sym, take}
use Rattle.std.proofs.lemmas.List.{take_all}
use Rattle.std.proofs.lemmas.List.Elements.{All-same}
use Rattle.std.proofs.lemmas.List.Folds.{list_any_more}
use Rattle.std.specs.List.{list_any}
use Rattle.deb_index.specs.declared.constraint.Constraint.TheVariants.{Essential}
use Rattle.deb_report.specs.Answers.{hits_of, is_hit_by}
use Rattle.deb_report.proofs.HitLemmas.{hits-are, hits-within}
use Rattle.deb_report.proofs.hits.hits_of.Goals as goal

pub loop-constraint-preserved : goal.loop-constraint-preserved
loop-constraint-preserved c = λ q.
    let hit = is_hit_by c.args.index.now q in
    c.in_ok-push_hits.ensures q ∙ ap (λ b. b || hit (get_or c.args.constraints.now c.loop-constraint.constraint-index (Essential 0))) (c.loop-constraint.invariant q)
    ∙ sym (list_any_more hit c.args.constraints.now c.loop-constraint.constraint-index (Essential 0) c.loop-constraint-test.true)

pub returns-clause-value : goal.returns-clause-value
returns-clause-value c =
    let whole : take c.loop-constraint.constraint-index c.args.constraints.now ≡ c.args.constraints.now = take_all _ _ (omega arith) in
    hits-are c.args.index.now c.args.constraints.now c.sort_once.new.numbers.items c.sort_once.ensures.rising
    (λ q. c.sort_once.ensures.same q ∙ c.loop-constraint.invariant q ∙ ap (list_any (is_hit_by c.args.index.now q)) whole)

pub returns-clause-within : goal.returns-clause-within
returns-clause-within c =
    All-same (λ place. place < length c.args.index.now.packages) c.sort_once.new.numbers.items (hits_of c.args.index.now c.args.constraints.now)
    (returns-clause-value c) (hits-within c.args.index.now c.args.constraints.now)
