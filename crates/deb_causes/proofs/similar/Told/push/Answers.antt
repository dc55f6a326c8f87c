use Rattle.std.proofs.Common.{◌≡◌, ◌≤◌, ◌<◌, ◌||◌, ◌++◌, ◌∷◌, [], ◌∙◌, ℕ, Bool, Bor, List, ap, arith, false, length, map, not, sym, true}
use Rattle.std.proofs.lemmas.Bool.{not-false, not-true, or_parts}
use Rattle.std.proofs.lemmas.List.{length-map, map-append}
use Rattle.deb_causes.specs.Near.{is_one_of, similar_limit, has_text}
use Rattle.deb_causes.proofs.SimilarLemmas.{kept-full, kept-known, kept-new, known-again, known-more, or-second}
use Rattle.deb_causes.proofs.similar.Told.push.Goals as goal

abbrev text : Bor (List ℕ) → List ℕ
text name = name.now

pub returns-then-len-ge-SIMILAR_LIMIT : goal.returns-then-len-ge-SIMILAR_LIMIT
returns-then-len-ge-SIMILAR_LIMIT c = λ own seen is.
    let names = c.args.self.now.names in
    let test : List ℕ → Bool = λ name. not (is_one_of own name) in
    let full : similar_limit ≤ length (map text names.items) = omega (arith, length-map names.items text, c.len.ensures, names.ok) in
    record {
      names_are = kept-full test seen c.args.name.now (map text names.items) is.names_are full;
      known_are = is.known_are;
    }

pub returns-in_ok-push : goal.returns-in_ok-push
returns-in_ok-push c = λ own seen is.
    let names = c.args.self.now.names in
    let front = map text names.items in
    let name = c.args.name.now in
    let olds = map (λ one. one.items) c.args.self.now.known.keys in
    let news = map (λ one. one.items) c.insert_once.new.texts.keys in
    let test : List ℕ → Bool = λ one. not (is_one_of own one) in
    let room : length front < similar_limit = omega (arith, length-map names.items text, c.len.ensures, names.ok) in
    let new : has_text olds name ≡ false = not-true (has_text olds name) (sym c.in_ok-insert_once.ensures.new ∙ c.if-branch.true) in
    let parts = or_parts (is_one_of own name) (has_text front name) (sym (is.known_are name) ∙ new) in
    let longer : map text c.push.new.self.items ≡ front ++ name ∷ [] = ap (map text) c.in_ok-push.ensures.items ∙ map-append text names.items (c.args.name ∷ []) in
    record {
      names_are = longer ∙ kept-new test seen name front is.names_are (ap not parts.0) room parts.1;
      known_are = λ one. known-more (is_one_of own) olds news front name one (c.in_ok-insert_once.ensures.has one) (is.known_are one)
          ∙ ap (λ texts. is_one_of own one || has_text texts one) (sym longer);
    }

pub returns-else-branch : goal.returns-else-branch
returns-else-branch c = λ own seen is.
    let front = map text c.args.self.now.names.items in
    let name = c.args.name.now in
    let olds = map (λ one. one.items) c.args.self.now.known.keys in
    let test : List ℕ → Bool = λ one. not (is_one_of own one) in
    let known : has_text olds name ≡ true = not-false (has_text olds name) (sym c.in_ok-insert_once.ensures.new ∙ c.if-branch.false) in
    record {
      names_are = kept-known test seen name front is.names_are (or-second (is_one_of own name) (has_text front name) (sym (is.known_are name) ∙ known));
      known_are = λ one. c.in_ok-insert_once.ensures.has one ∙ sym (known-again olds name one known) ∙ is.known_are one;
    }
