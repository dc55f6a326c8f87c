use Rattle.std.proofs.Common.{◌≡◌, ◌∙◌, [], ℕ, List, append-nil, ap, map, subst, sym}
use Rattle.std.proofs.lemmas.List.Elements.{All-cons, All-nil}
use Rattle.deb_index.specs.declared.constraint.Constraint.{Constraint}
use Rattle.deb_index.specs.Tables.{number_in}
use Rattle.deb_health.specs.Causes.{cause_in}
use Rattle.deb_causes.specs.Causes.{says}
use Rattle.deb_causes.specs.Numbering.{Grows, IsFront, StandOnce, texts_of, with_text}
use Rattle.deb_causes.specs.Wrongs.{IsNumbered, key_of}
use Rattle.deb_causes.proofs.NumberingLemmas.{grows-one, number-kept}
use Rattle.deb_causes.proofs.SaidLemmas.{known-all, numbers-key}
use Rattle.deb_causes.proofs.wrongs.Wrongs.number.Goals as goal

pub returns : goal.returns
returns c =
    let index = c.args.index.now in
    let cause = cause_in index c.args.core.now in
    let number : ℕ = c.in_ok-number.number in
    let one : ℕ × List Constraint = (number, c.args.core.now) in
    let old = texts_of c.args.self.now.said in
    let new = texts_of c.numbers_said.new.said in
    let keys_old = texts_of c.args.self.now.causes in
    let keys_new = texts_of c.number_of.new.texts in
    let key : (texts : List (List ℕ)) → StandOnce texts → IsFront new texts → c.sort_once.new.numbers.items ≡ key_of index texts cause =
    λ texts once begins. numbers-key index texts cause c.in_ok-key.key.items c.sort_once.new.numbers.items once (c.in_ok-key.ensures.numbers texts begins) c.sort_once.ensures.rising c.sort_once.ensures.same in
    record {
      said = subst (λ added. Grows old new added) (sym (append-nil (map (says index) cause))) c.in_ok-key.ensures.grown;
      causes = λ texts once begins. grows-one keys_old keys_new (key_of index texts cause) (c.in_ok-number.ensures.texts ∙ ap (with_text keys_old) (key texts once begins));
      each = λ texts keys once begins also.
          All-cons (IsNumbered index texts keys) one []
          (record {
            known = known-all index texts cause c.in_ok-key.key.items (c.in_ok-key.ensures.numbers texts begins);
            number = number-kept (key_of index texts cause) keys_new keys number (ap (λ k. number_in k keys_new) (sym (key texts once begins)) ∙ c.in_ok-number.ensures.number) also;
          })
          (All-nil (IsNumbered index texts keys));
    }
