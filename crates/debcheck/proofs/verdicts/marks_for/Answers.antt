use Rattle.std.proofs.Common.{◌≡◌, ◌∙◌, Bool, Global, List, Vec, false, subst, sym, true}
use Rattle.std.specs.Prelude.{slice_index_or}
use Rattle.std.proofs.lemmas.Bool.{false≢true, true≢false}
use Rattle.std.proofs.lemmas.Result.{IfOk-weaker}
use Rattle.debcheck.proofs.TellLemmas.{mark_read}
use Rattle.debcheck.proofs.verdicts.marks_for.Goals as goal

pub returns-then-sets : goal.returns-then-sets
returns-then-sets c = record {
  none = λ shown. c.new.ensures.items;
  marked = λ place has. absurd (false≢true (subst (λ (list : List Bool). slice_index_or list place false ≡ true) c.new.ensures.items has));
}

pub returns : goal.returns
returns c =
    let marks = c.find_installable.result in
    record {
      none = IfOk-weaker marks _ _ (λ (list : Vec Bool Global) count shown. absurd (true≢false (sym shown ∙ c.if-sets.false))) c.find_installable.ensures.count;
      marked = IfOk-weaker marks _ _ (λ (list : Vec Bool Global) only place has. only place (mark_read list.items place has)) c.find_installable.ensures.marks;
    }
