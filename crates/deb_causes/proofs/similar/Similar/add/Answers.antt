use Rattle.std.proofs.Common.{◌≡◌, ◌++◌, ◌∷◌, [], ◌∙◌, None, Some, ap, false, filter, subst, sym, true}
use Rattle.std.specs.HashMap.{UpdatesBy}
use Rattle.std.specs.Option.{is_some}
use Rattle.std.specs.Str.{bytes_eq}
use Rattle.deb_causes.specs.Near.{has_stem, is_stem, stem}
use Rattle.deb_causes.proofs.SimilarLemmas.{AreListed, IsListed, at_key, listed-more, listed-none, listed-other}
use Rattle.deb_causes.proofs.similar.Similar.add.Goals as goal

pub returns-then-not-is_stem-clause-found : goal.returns-then-not-is_stem-clause-found
returns-then-not-is_stem-clause-found c = λ seen is.
    let left = c.as_slice.ensures.value ∙ c.in_ok-put_stem.ensures in
    let none : is_stem (stem c.args.name.now) ≡ false = sym (ap is_stem left) ∙ sym c.is_stem.ensures ∙ c.if-not-is_stem.true in
    listed-none seen c.args.name.now c.args.self.now.lists is none

pub returns-in_ok-push_first-clause-found : goal.returns-in_ok-push_first-clause-found
returns-in_ok-push_first-clause-found c = λ seen is.
    let olds = c.args.self.now.lists in
    let names = c.push_first.new.names in
    let news = c.get_mut.follows.lender names in
    let name = c.args.name.now in
    let key : c.as_slice-2.result.now ≡ stem name = c.as_slice-2.ensures.value ∙ c.in_ok-put_stem.ensures in
    let here : at_key olds (stem name) ≡ Some c.in-Some.names.now = ap (at_key olds) (sym key) ∙ sym c.in-Some.ensures.value in
    let left = c.as_slice.ensures.value ∙ c.in_ok-put_stem.ensures in
    let some : is_stem (stem name) ≡ true = sym (ap is_stem left) ∙ sym c.is_stem.ensures ∙ c.if-not-is_stem.false in
    let updates = (c.get_mut.follows.holds names).3 (ap is_some (sym c.in-Some.ensures.value)) in
    listed-more seen name olds news names is some
    (subst (λ text. UpdatesBy (λ a b. bytes_eq a.items b.items) (λ key. bytes_eq text key.items) olds news (Some names)) key updates)
    (c.in_ok-push_first.ensures (filter (has_stem (stem name)) seen) (subst (IsListed seen (stem name)) here (is (stem name))))

pub returns-in_default-clause-found : goal.returns-in_default-clause-found
returns-in_default-clause-found c = λ seen is.
    let olds = c.args.self.now.lists in
    let name = c.args.name.now in
    let key : c.as_slice-2.result.now ≡ stem name = c.as_slice-2.ensures.value ∙ c.in_ok-put_stem.ensures in
    let none : at_key olds (stem name) ≡ None = ap (at_key olds) (sym key) ∙ sym c.in_default.ensures.value in
    subst (AreListed (seen ++ name ∷ [])) (sym c.get_mut.follows.holds-at-none) (listed-other seen name olds is none)
