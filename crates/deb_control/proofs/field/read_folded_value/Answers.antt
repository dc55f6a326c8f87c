use Rattle.std.proofs.Common.{◌≡◌, ◌++◌, ◌∷◌, refl, sym, ◌∙◌, ap, drop, List, ℕ}
use Rattle.std.proofs.lemmas.List.{append-nil}
use Rattle.deb_control.specs.Fields.{trim_start, value_of, trim_end}
use Rattle.deb_control.proofs.ValueLemmas.{tail_of, Ended, ended-other, ended-all, skip-yes, trim_start-again, trim_start-trim_start, push-trimmed, tail_of-yes}
use Rattle.deb_control.proofs.field.read_folded_value.Goals as goal
use Rattle.deb_control.proofs.field.read_folded_value.Goals.{in-Some+then-not-is_continuation_line, in_default}

pub loop-line-init : goal.loop-line-init
loop-line-init c =
    let made : c.in_ok-value.value.items ≡ trim_start c.args.start.now = c.in_ok-value.ensures.items ∙ c.without_white_start.ensures in
    record {
      trimmed = rw made (trim_start-trim_start c.args.start.now);
      whole = rw made (trim_start-again c.args.start.now (tail_of c.args.lines.now));
      rest = refl;
    }

pub loop-line-preserved : goal.loop-line-preserved
loop-line-preserved c =
    let line = c.in-Some.line.now in
    let lines = c.loop-line.lines in
    let value = c.loop-line.value.items in
    let is_one = sym c.is_continuation_line.ensures ∙ c.if-not-is_continuation_line.false in
    let whole = push-trimmed value line (tail_of (drop 1 lines)) ∙ ap (λ (t : List ℕ). trim_start (value ++ t)) (sym (tail_of-yes lines line c.in-Some.ensures is_one)) ∙ c.loop-line.invariant.whole in
    let rest = skip-yes lines line c.in-Some.ensures is_one ∙ c.loop-line.invariant.rest in
    record {
      trimmed = rw c.in_ok-push_continuation.ensures (trim_start-trim_start (value ++ 10 ∷ line));
      whole = rw (c.in_ok-push_continuation.ensures, c.advance.ensures) whole;
      rest = rw c.advance.ensures rest;
    }

pub returns : goal.returns
unfolding value_of
returns c =
    let value = c.loop-line.value.items in
    let ended : Ended c.loop-line.lines = elim c.match-first.branch [
      | in-Some+then-not-is_continuation_line w ↦ ended-other c.loop-line.lines w.in-Some.line.now w.in-Some.ensures (sym w.is_continuation_line.ensures ∙ w.if-not-is_continuation_line.true)
      | in_default w ↦ ended-all c.loop-line.lines w.in_default.ensures
    ] in
    let all : trim_start value ≡ trim_start (c.args.start.now ++ tail_of c.args.lines.now) = ap trim_start (sym (append-nil value)) ∙ ap (λ (t : List ℕ). trim_start (value ++ t)) (sym ended.0) ∙ c.loop-line.invariant.whole in
    let cut = rw c.deref.ensures.value at c.white_end_start.ensures.value in
    record {
      value = c.truncate.ensures.items ∙ cut ∙ ap trim_end (sym c.loop-line.invariant.trimmed ∙ all);
      rest = sym ended.1 ∙ c.loop-line.invariant.rest;
    }
