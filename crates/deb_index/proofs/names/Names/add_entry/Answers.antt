use Rattle.std.proofs.Common.{sym, refl, ◌∙◌, ap, ◌++◌, ◌∷◌, []}
use Rattle.deb_index.proofs.NameGrowth.{entry-new, entry-there}
use Rattle.deb_index.proofs.names.Names.add_entry.Goals as goal

pub returns-in_ok-push-in-Some : goal.returns-in_ok-push-in-Some
returns-in_ok-push-in-Some c = λ packages entries n.
    let old = c.index_mut.result.now in
    entry-there n _ c.args.name.now c.args.entry (record { places = old.places; provided = c.push.new.self }) c.in-Some.number old
    (sym (rw c.in-Some.is at c.number.ensures.number)) c.index_mut.ensures.value refl c.in_ok-push-in-Some.ensures.ok refl refl refl

pub returns-in_ok-insert-in-None : goal.returns-in_ok-insert-in-None
returns-in_ok-insert-in-None c = λ packages entries n.
    entry-new n _ c.args.name.now c.args.entry (record { places = c.new-places.result; provided = c.push-in-None.new.self })
    (sym (rw c.in-None.is at c.number.ensures.number)) c.new-places.ensures.items (c.in_ok-push-in-None.ensures.ok ∙ ap (λ l. l ++ c.args.entry ∷ []) c.new-provided.ensures.items)
    c.in_ok-insert-in-None.ensures.texts c.in_ok-insert-in-None.ensures.lists c.in_ok-insert-in-None.ensures.front
