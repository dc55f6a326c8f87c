use Rattle.std.proofs.Common.{◌≡◌, ℕ, List, ◌++◌, ◌∷◌, [], None, length, ◌∙◌, ap, arith, rules}
use Rattle.sat_solve.specs.Clauses.{Clause, Clauses, clauses_of}
use Rattle.sat_solve.specs.declared.clause.Span.{Span}
use Rattle.sat_solve.proofs.SpanLemmas.{clauses_of_kept, clauses_of_more}
use Rattle.sat_solve.proofs.formula.Formula.add.Goals as goal

pub returns-in_err-push-clause-err : goal.returns-in_err-push-clause-err
returns-in_err-push-clause-err c =
    let same : clauses_of c.extend_from_slice.new.self.items c.push.new.self.items ≡ clauses_of c.self.inside.literals.items c.self.inside.spans.items =
    ap (λ literals. clauses_of literals c.push.new.self.items) c.in_ok-extend_from_slice.ensures.items
    ∙ (ap (λ spans. clauses_of (c.self.inside.literals.items ++ c.args.clause.now) spans) c.in_err-push.ensures.items
    ∙ clauses_of_kept _ _ c.self.inside.literals.items c.args.clause.now c.self.inside.spans.items c.self.invariant) in
    let make : List Clause → Clauses = λ clauses. record { vars = c.self.inside.vars; groups = c.self.inside.groups; clauses = clauses } in
    let view : make (clauses_of c.extend_from_slice.new.self.items c.push.new.self.items) ≡ c.args.self.now = ap make same ∙ c.self.view_is in
    search (rules, view)

pub returns-clause-ok : goal.returns-clause-ok
returns-clause-ok c =
    let literals_are : c.extend_from_slice.new.self.items ≡ c.self.inside.literals.items ++ c.args.clause.now = c.in_ok-extend_from_slice.ensures.items in
    let start_is : c.len-start.result ≡ length c.self.inside.literals.items = omega (arith, c.len-start.ensures, c.self.inside.literals.ok) in
    let end_is : c.len-end.result ≡ length (c.self.inside.literals.items ++ c.args.clause.now) = omega (arith, c.len-end.ensures, c.extend_from_slice.new.self.ok, ap length literals_are) in
    let span : ℕ → ℕ → Span = λ start end. record { group = c.args.group; start = start; end = end; owner = None } in
    let spans_are : c.push.new.self.items ≡ c.self.inside.spans.items ++ span (length c.self.inside.literals.items) (length (c.self.inside.literals.items ++ c.args.clause.now)) ∷ [] =
    c.in_ok-push.ensures.items
    ∙ (ap (λ start. c.self.inside.spans.items ++ span start c.len-end.result ∷ []) start_is
    ∙ ap (λ end. c.self.inside.spans.items ++ span (length c.self.inside.literals.items) end ∷ []) end_is) in
    let same : clauses_of c.extend_from_slice.new.self.items c.push.new.self.items ≡ clauses_of c.self.inside.literals.items c.self.inside.spans.items ++ record { group = c.args.group; literals = c.args.clause.now } ∷ [] =
    ap (λ literals. clauses_of literals c.push.new.self.items) literals_are
    ∙ (ap (λ spans. clauses_of (c.self.inside.literals.items ++ c.args.clause.now) spans) spans_are
    ∙ clauses_of_more _ _ c.self.inside.literals.items c.args.clause.now c.self.inside.spans.items c.args.group c.self.invariant) in
    let make : List Clause → Clauses = λ clauses. record { vars = c.self.inside.vars; groups = c.self.inside.groups; clauses = clauses } in
    let more : Clauses → Clauses = λ formula. record { vars = formula.vars; groups = formula.groups; clauses = formula.clauses ++ record { group = c.args.group; literals = c.args.clause.now } ∷ [] } in
    ap make same ∙ ap more c.self.view_is
