use Rattle.std.proofs.Common.{◌≡◌, ◌∙◌, ◌++◌, ◌∷◌, [], List, ℕ, Option, Some, None, append-nil, append_assoc, codes, fold, is_some, not, refl, sym}
use Rattle.std.proofs.lemmas.Result.{IfOk-weaker}
use Rattle.std.specs.List.{flat_map}
use Rattle.std.specs.Option.{option_map}
use Rattle.run_settings.specs.declared.config.Config.{Config}
use Rattle.run_settings.specs.Settings.{options_of, settings_of, show_words, word_if}
use Rattle.deb_report.proofs.options.options_of.Goals as goal

some-mapped : {A B : Type 0} (f : A → B) (o : Option A) → is_some (option_map f o) ≡ is_some o
some-mapped f None = refl
some-mapped f (Some x) = refl

names-said : (config : Config) → is_some (settings_of config).only ≡ is_some config.only
names-said config = some-mapped _ config.only

-- words behind one another
one-by-one : (start : List (List ℕ)) (parts : List (List (List ℕ))) → start ++ flat_map (λ part. part) parts ≡ fold (λ words part. words ++ part) start parts
one-by-one start [] = append-nil start
one-by-one start (p ∷ ps) = sym (append_assoc start p (flat_map (λ part. part) ps)) ∙ one-by-one (start ++ p) ps

pub returns : goal.returns
unfolding options_of
returns c =
    let config = c.args.config.now in
    let words = one-by-one (word_if config.explain (codes "explain"))
    (show_words config.show ∷ word_if (not config.essential) (codes "ignore-essential") ∷ word_if (is_some config.only) (codes "checkonly") ∷ word_if (is_some config.bg) (codes "bg")
    ∷ word_if c.args.since (codes "since") ∷ word_if config.causes (codes "causes") ∷ word_if config.all_reasons (codes "all-reasons") ∷ word_if config.why (codes "why") ∷ []) in
    IfOk-weaker c.said_of.result _ _ (λ options is. is ∙ rw (c.show_word.ensures, c.is_some.ensures, c.is_some-2.ensures, names-said config) words) c.said_of.ensures
