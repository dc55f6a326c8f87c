use Rattle.std.proofs.Common.{◌≡◌, ◌∙◌, ◌||◌, [], ap, map, sym}
use Rattle.std.proofs.lemmas.Map.Views.{All-values-PutsEntry}
use Rattle.std.specs.HashMap.{keys}
use Rattle.std.specs.Option.{is_some}
use Rattle.std.specs.Str.{bytes_eq}
use Rattle.deb_causes.proofs.SimilarLemmas.{at_key, has-key, has-more, known-again}
use Rattle.deb_causes.proofs.stems.add_stem.Goals as goal

pub returns-then-contains_key-clause-has : goal.returns-then-contains_key-clause-has
returns-then-contains_key-clause-has c = λ one.
    let lists = c.args.lists.now in
    let stem = c.args.stem.now in
    known-again (map (λ key. key.items) (keys lists)) stem one (has-key lists stem ∙ sym c.contains_key.ensures ∙ c.if-contains_key.true)

pub returns-clause-has : goal.returns-clause-has
returns-clause-has c = λ one.
    let olds = c.args.lists.now in
    let news = c.insert.new.self in
    let stem = c.args.stem.now in
    let value = c.new.result in
    has-key news one
    ∙ has-more olds news c.in_ok-from_slice.field-0.items value c.in_ok-insert.ensures.updates one
    ∙ ap (λ text. bytes_eq one text || is_some (at_key olds one)) c.in_ok-from_slice.ensures.items
    ∙ ap (λ b. bytes_eq one stem || b) (sym (has-key olds one))

pub returns-clause-none : goal.returns-clause-none
returns-clause-none c = λ none.
    All-values-PutsEntry (λ a b. bytes_eq a.items b.items) (λ list. list.items ≡ []) c.args.lists.now c.insert.new.self c.in_ok-from_slice.field-0 c.new.result c.in_ok-insert.field-0
    c.in_ok-insert.ensures.entries none c.new.ensures.items
