use Rattle.std.proofs.Common.{◌≡◌, ◌∷◌, ◌∙◌, ◌||◌, true, ap, map, not, subst, sym}
use Rattle.std.proofs.lemmas.List.Sorted.{list_any-IsPermutation}
use Rattle.std.specs.HashSet.{PutsKey, contains_by}
use Rattle.std.specs.Str.{bytes_eq}
use Rattle.deb_index.proofs.FirstLemmas.{any-map}
use Rattle.deb_causes.specs.Near.{has_text}
use Rattle.deb_causes.proofs.SimilarLemmas.{known-again}
use Rattle.deb_causes.proofs.stems.insert_once.Goals as goal

pub returns-then-contains-clause-new : goal.returns-then-contains-clause-new
returns-then-contains-clause-new c = ap not (sym (any-map (bytes_eq c.args.text.now) (λ one. one.items) c.args.texts.now.keys ∙ sym c.contains.ensures ∙ c.if-contains.true))

pub returns-then-contains-clause-has : goal.returns-then-contains-clause-has
returns-then-contains-clause-has c = λ name.
    let there : has_text (map (λ one. one.items) c.args.texts.now.keys) c.args.text.now ≡ true =
    any-map (bytes_eq c.args.text.now) (λ one. one.items) c.args.texts.now.keys ∙ sym c.contains.ensures ∙ c.if-contains.true in
    known-again (map (λ one. one.items) c.args.texts.now.keys) c.args.text.now name there

pub returns-clause-new : goal.returns-clause-new
returns-clause-new c = ap not (sym (any-map (bytes_eq c.args.text.now) (λ one. one.items) c.args.texts.now.keys ∙ sym c.contains.ensures ∙ c.if-contains.false))

pub returns-clause-has : goal.returns-clause-has
returns-clause-has c = λ name.
    let olds = c.args.texts.now in
    let news = c.insert.new.self in
    let key = c.in_ok-from_slice.field-0 in
    let added : c.in_ok-insert.field-0 ≡ true =
    c.in_ok-insert.ensures.added ∙ ap (λ text. not (contains_by (λ one. bytes_eq text one.items) olds)) c.in_ok-from_slice.ensures.items ∙ ap not (sym c.contains.ensures ∙ c.if-contains.false) in
    any-map (bytes_eq name) (λ one. one.items) news.keys
    ∙ sym (list_any-IsPermutation (λ one. bytes_eq name one.items) (key ∷ olds.keys) news.keys (subst (PutsKey olds news key) added c.in_ok-insert.ensures.keys))
    ∙ ap (λ text. bytes_eq name text || contains_by (λ one. bytes_eq name one.items) olds) c.in_ok-from_slice.ensures.items
    ∙ ap (λ b. bytes_eq name c.args.text.now || b) (sym (any-map (bytes_eq name) (λ one. one.items) olds.keys))
