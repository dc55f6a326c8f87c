use Rattle.std.proofs.Common.{◌∙◌, Some, ap, map, sym}
use Rattle.deb_index.specs.Tables.{number_in}
use Rattle.deb_causes.proofs.NumberingLemmas.{key-place, keys-with}
use Rattle.deb_causes.proofs.wrongs.number_of.Goals as goal

pub returns-clause-texts : goal.returns-clause-texts
returns-clause-texts c =
    ap (map (λ text. text.items)) c.in_ok-place.ensures.keys ∙ keys-with (λ text. text.items) c.args.texts.now.keys c.args.text

pub returns-clause-number : goal.returns-clause-number
returns-clause-number c =
    ap (λ keys. number_in c.args.text.items (map (λ text. text.items) keys)) c.in_ok-place.ensures.keys
    ∙ key-place (λ text. text.items) c.args.texts.now.keys c.args.text ∙ ap Some (sym c.in_ok-place.ensures.index)
