use Rattle.std.proofs.Common.{◌≡◌, ◌++◌, ◌∷◌, [], Some, None, ap, sym, refl, ◌∙◌, arith}
use Rattle.deb_index.specs.Tables.{number_in}
use Rattle.deb_index.specs.Names.{name_texts}
use Rattle.deb_index.proofs.NameGrowth.{add-new, add-there}
use Rattle.deb_index.proofs.NameLemmas.{number-last}
use Rattle.deb_index.proofs.TableLemmas.{number-within}
use Rattle.deb_index.proofs.names.Names.add.Goals as goal

pub index_mut-requires : goal.index_mut-requires
index_mut-requires c =
    let texts = name_texts c.args.self.now in
    let e : number_in c.args.name.now texts ≡ Some c.in-Some.number = sym (rw c.in-Some.is at c.requires) in
    omega (arith, number-within c.args.name.now texts c.in-Some.number e, c.args.self.now.listed)

pub returns-in_ok-push-in-Some-clause-named : goal.returns-in_ok-push-in-Some-clause-named
returns-in_ok-push-in-Some-clause-named c = λ packages p n named placed.
    let texts = name_texts c.args.self.now in
    let e : number_in c.args.name.now texts ≡ Some c.in-Some.number = sym (rw c.in-Some.is at c.requires) in
    let old = c.index_mut.result.now in
    add-there n _ p (record { places = c.push.new.self; provided = old.provided }) c.in-Some.number old (ap (λ k. number_in k texts) named ∙ e) c.index_mut.ensures.value
    (c.in_ok-push-in-Some.ensures.ok ∙ ap (λ m. old.places.items ++ m ∷ []) (sym placed)) refl refl refl refl

pub returns-in_ok-insert-in-None-clause-named : goal.returns-in_ok-insert-in-None-clause-named
returns-in_ok-insert-in-None-clause-named c = λ packages p n named placed.
    let texts = name_texts c.args.self.now in
    let e : number_in c.args.name.now texts ≡ None = sym (rw c.in-None.is at c.requires) in
    add-new n _ p (record { places = c.push-in-None.new.self; provided = c.new-provided.result }) (ap (λ k. number_in k texts) named ∙ e)
    (c.in_ok-push-in-None.ensures.ok ∙ (λ i. c.new-places.ensures.items i ++ sym placed i ∷ [])) c.new-provided.ensures.items
    (c.in_ok-insert-in-None.ensures.texts ∙ ap (λ k. texts ++ k ∷ []) (sym named)) c.in_ok-insert-in-None.ensures.lists (omega (arith, c.len-self.ensures, c.insert.new.self.lists.ok))

pub returns-in_ok-insert-in-None-clause-number : goal.returns-in_ok-insert-in-None-clause-number
returns-in_ok-insert-in-None-clause-number c =
    let texts = name_texts c.args.self.now in
    let e : number_in c.args.name.now texts ≡ None = sym (rw c.in-None.is at c.requires) in
    ap (number_in c.args.name.now) c.in_ok-insert-in-None.ensures.texts ∙ number-last c.args.name.now texts e
    ∙ ap (λ m. Some m) (sym c.len-number.ensures)
