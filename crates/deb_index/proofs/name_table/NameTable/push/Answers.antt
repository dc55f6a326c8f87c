use Rattle.std.proofs.Common.{◌≡◌, ◌∙◌, ◌++◌, ◌∷◌, [], None, Some, ap, arith, cond, length, nat_eq, subst, sym}
use Rattle.std.specs.HashMap.{get, get_by}
use Rattle.std.specs.Option.{is_some}
use Rattle.std.specs.Str.{bytes_eq}
use Rattle.deb_index.specs.declared.name_table.NameTable.TheInside.{Inside}
use Rattle.deb_index.specs.Tables.{AreNumbered, number_in}
use Rattle.deb_index.proofs.NumberedLemmas.{first-more, other-more, updates-names}
use Rattle.deb_index.proofs.name_table.NameTable.push.Goals as goal
use Rattle.deb_index.proofs.name_table.NameTable.push.Goals.{then-contains_key+in_ok-key+in_ok-insert, else-contains_key+in_ok-insert-2}

pub invariant_of-self-2 : goal.invariant_of-self-2
invariant_of-self-2 c =
    let name = c.args.name.now in
    let names = c.self.inside.texts.items in
    let firsts = c.self.inside.firsts in
    let others = c.self.inside.others in
    let after = c.if-contains_key.self-inside in
    let new : number_in name names ≡ None = ap (number_in name) c.self.view_is ∙ c.requires in
    let grown : names ++ name ∷ [] ≡ c.reserve.new.self.items ++ c.in_ok-text.text ∷ [] = (λ i. sym c.in_ok-reserve.ensures.items i ++ sym c.in_ok-text.ensures.value i ∷ []) in
    let number : c.len-number.result ≡ length names = omega (arith, c.len-number.ensures, c.self.inside.texts.ok) in
    let there = ap (λ h. is_some (get nat_eq firsts h)) (sym c.hash-hash.ensures) ∙ sym c.contains_key.ensures in
    let all : AreNumbered (after.texts.items ++ c.in_ok-text.text ∷ []) after.firsts after.others = elim c.if-contains_key.branch [
      | then-contains_key+in_ok-key+in_ok-insert w ↦
          subst (λ (t : Inside). AreNumbered (t.texts.items ++ c.in_ok-text.text ∷ []) t.firsts t.others) (sym w.self-inside-is)
          (subst (λ ks. AreNumbered ks firsts w.insert.new.self) grown
          (other-more c.self.invariant name new w.insert.new.self (there ∙ w.if-contains_key.true) λ q.
          updates-names w.in_ok-key.key.items others w.insert.new.self (Some c.len-number.result) w.in_ok-insert.ensures.updates q
          ∙ (λ i. cond (bytes_eq (w.in_ok-key.ensures.items i) q) (Some (number i)) (get_by (λ key. bytes_eq q key.items) others))))
      | else-contains_key+in_ok-insert-2 w ↦
          subst (λ (t : Inside). AreNumbered (t.texts.items ++ c.in_ok-text.text ∷ []) t.firsts t.others) (sym w.self-inside-is)
          (subst (λ ks. AreNumbered ks w.insert-else-contains_key.new.self others) grown
          (first-more c.self.invariant name new w.insert-else-contains_key.new.self (there ∙ w.if-contains_key.false) λ h.
          w.in_ok-insert-2.ensures.updates.0 h ∙ (λ i. cond (nat_eq (c.hash-hash.ensures i) h) (Some (number i)) (get nat_eq firsts h))))
    ] in
    subst (λ ks. AreNumbered ks after.firsts after.others) (sym c.push_reserved.ensures.items) all
