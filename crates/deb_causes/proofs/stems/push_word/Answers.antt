use Rattle.std.proofs.Common.{◌≡◌, ◌<◌, ◌++◌, ◌∷◌, [], ◌∙◌, ℕ, Bool, ap, append_assoc, arith, false, get_or, length, not, rules, sym, take, true}
use Rattle.std.proofs.lemmas.List.{take_more}
use Rattle.deb_causes.specs.Near.{is_numeric}
use Rattle.number_sets.proofs.ListLemmas.{filter_fails, filter_passes}
use Rattle.deb_causes.proofs.stems.push_word.Goals as goal
use Rattle.deb_causes.proofs.stems.push_word.Goals.{then-not-is_numeric+in_ok-push, else-not-is_numeric}

pub loop-byte-preserved : goal.loop-byte-preserved
loop-byte-preserved c =
    let word = c.args.word.now in
    let start = c.args.out.now.items in
    let test : ℕ → Bool = λ byte. not (is_numeric byte) in
    let i = c.loop-byte.byte-index in
    let before = take i word in
    let byte = get_or word i 0 in
    let inside : i < length word = omega arith in
    let more = take_more word i 0 inside in
    elim c.if-not-is_numeric.branch [
      | then-not-is_numeric+in_ok-push w ↦
          let passes : test byte ≡ true = search rules in
          rw w.out-is (w.in_ok-push.ensures.items ∙ ap (λ front. front ++ byte ∷ []) c.loop-byte.invariant ∙ append_assoc start _ (byte ∷ [])
          ∙ ap (λ back. start ++ back) (sym (filter_passes test before _ byte more passes)))
      | else-not-is_numeric w ↦
          let fails : test byte ≡ false = search rules in
          rw w.out-is (c.loop-byte.invariant ∙ ap (λ back. start ++ back) (sym (filter_fails test before _ byte more fails)))
    ]
