use Rattle.std.proofs.Common.{◌≡◌, List, ◌<◌, All, ◌++◌, map, flat_map, length, ◌∙◌, ap, sym, subst, arith, rules}
use Rattle.sat_solve.specs.Clauses.{Clause, Clauses, exclusions, clauses_of, out_of, span_of}
use Rattle.sat_solve.proofs.SpanLemmas.{clauses_of_kept, clauses_of_owners, list_are, owners_are}
use Rattle.sat_solve.proofs.formula.Formula.exclude.Goals as goal

pub invariant_of-self-in_err-push_owners : goal.invariant_of-self-in_err-push_owners
invariant_of-self-in_err-push_owners c =
    rw (c.in_ok-push_list.ensures.ok, c.in_err-push_owners.ensures.err)
    (list_are c.self.inside.vars c.self.inside.groups c.self.inside.literals.items c.args.list.now c.self.inside.spans.items c.self.invariant (subst (λ formula. All (λ var. var < formula.vars) c.args.list.now) (sym c.self.view_is) c.requires.list))

pub returns-in_err-push_owners-clause-err : goal.returns-in_err-push_owners-clause-err
returns-in_err-push_owners-clause-err c =
    let same : clauses_of c.push_list.new.literals.items c.push_owners.new.spans.items ≡ clauses_of c.self.inside.literals.items c.self.inside.spans.items =
    ap (λ literals. clauses_of literals c.push_owners.new.spans.items) c.in_ok-push_list.ensures.ok
    ∙ (ap (λ spans. clauses_of (c.self.inside.literals.items ++ map out_of c.args.list.now) spans) c.in_err-push_owners.ensures.err
    ∙ clauses_of_kept _ _ c.self.inside.literals.items (map out_of c.args.list.now) c.self.inside.spans.items c.self.invariant) in
    let make : List Clause → Clauses = λ clauses. record { vars = c.self.inside.vars; groups = c.self.inside.groups; clauses = clauses } in
    let view : make (clauses_of c.push_list.new.literals.items c.push_owners.new.spans.items) ≡ c.args.self.now = ap make same ∙ c.self.view_is in
    search (rules, view)

pub invariant_of-self-2 : goal.invariant_of-self-2
invariant_of-self-2 c =
    let literals_are : c.push_list.new.literals.items ≡ c.self.inside.literals.items ++ map out_of c.args.list.now = c.in_ok-push_list.ensures.ok in
    let start_is : c.len-start.result ≡ length c.self.inside.literals.items = omega (arith, c.len-start.ensures, c.self.inside.literals.ok) in
    let end_is : c.len-end.result ≡ length (c.self.inside.literals.items ++ map out_of c.args.list.now) = omega (arith, c.len-end.ensures, c.push_list.new.literals.ok, ap length literals_are) in
    let spans_are : c.push_owners.new.spans.items ≡ c.self.inside.spans.items ++ map (span_of (length c.self.inside.literals.items) (length (c.self.inside.literals.items ++ map out_of c.args.list.now))) c.args.owners.now =
    c.in_ok-push_owners.ensures.ok
    ∙ (ap (λ start. c.self.inside.spans.items ++ map (span_of start c.len-end.result) c.args.owners.now) start_is
    ∙ ap (λ end. c.self.inside.spans.items ++ map (span_of (length c.self.inside.literals.items) end) c.args.owners.now) end_is) in
    rw (literals_are, spans_are)
    (owners_are c.self.inside.vars c.self.inside.groups c.self.inside.literals.items c.args.list.now c.self.inside.spans.items c.self.invariant
    (subst (λ formula. All (λ var. var < formula.vars) c.args.list.now) (sym c.self.view_is) c.requires.list)
    c.args.owners.now
    (subst (λ formula. All (λ owner. owner.group < formula.groups) c.args.owners.now) (sym c.self.view_is) c.requires.groups)
    (subst (λ formula. All (λ owner. owner.var < formula.vars) c.args.owners.now) (sym c.self.view_is) c.requires.owners))

pub returns-clause-ok : goal.returns-clause-ok
returns-clause-ok c =
    let literals_are : c.push_list.new.literals.items ≡ c.self.inside.literals.items ++ map out_of c.args.list.now = c.in_ok-push_list.ensures.ok in
    let start_is : c.len-start.result ≡ length c.self.inside.literals.items = omega (arith, c.len-start.ensures, c.self.inside.literals.ok) in
    let end_is : c.len-end.result ≡ length (c.self.inside.literals.items ++ map out_of c.args.list.now) = omega (arith, c.len-end.ensures, c.push_list.new.literals.ok, ap length literals_are) in
    let spans_are : c.push_owners.new.spans.items ≡ c.self.inside.spans.items ++ map (span_of (length c.self.inside.literals.items) (length (c.self.inside.literals.items ++ map out_of c.args.list.now))) c.args.owners.now =
    c.in_ok-push_owners.ensures.ok
    ∙ (ap (λ start. c.self.inside.spans.items ++ map (span_of start c.len-end.result) c.args.owners.now) start_is
    ∙ ap (λ end. c.self.inside.spans.items ++ map (span_of (length c.self.inside.literals.items) end) c.args.owners.now) end_is) in
    let same : clauses_of c.push_list.new.literals.items c.push_owners.new.spans.items ≡ clauses_of c.self.inside.literals.items c.self.inside.spans.items ++ flat_map (λ owner. exclusions owner.group owner.var c.args.list.now) c.args.owners.now =
    ap (λ literals. clauses_of literals c.push_owners.new.spans.items) literals_are
    ∙ (ap (λ spans. clauses_of (c.self.inside.literals.items ++ map out_of c.args.list.now) spans) spans_are
    ∙ clauses_of_owners _ _ c.self.inside.literals.items c.args.list.now c.self.inside.spans.items c.args.owners.now c.self.invariant) in
    let make : List Clause → Clauses = λ clauses. record { vars = c.self.inside.vars; groups = c.self.inside.groups; clauses = clauses } in
    let more : Clauses → Clauses = λ formula. record { vars = formula.vars; groups = formula.groups; clauses = formula.clauses ++ flat_map (λ owner. exclusions owner.group owner.var c.args.list.now) c.args.owners.now } in
    ap make same ∙ ap more c.self.view_is
