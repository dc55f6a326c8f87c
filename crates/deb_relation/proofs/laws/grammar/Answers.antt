use Rattle.std.proofs.Common.{◌≡◌, List, ℕ, sym, ◌∙◌}
use Rattle.deb_relation.specs.Form.{AtomText, IsAtom}
use Rattle.deb_relation.proofs.FormReads.{atom-again}
use Rattle.deb_relation.proofs.ReadsForm.{atom-takes}
use Rattle.deb_relation.proofs.ValueForms.{atoms-form, groups-form}
use Rattle.deb_relation.proofs.laws.grammar.Goals as goal

one-way : (piece : List ℕ) (one other : AtomText) → IsAtom piece one → IsAtom piece other → one ≡ other
one-way piece one other a b = cc (sym (atom-again piece one a) ∙ atom-again piece other b)

pub returns : goal.returns
returns c = record {
  atom = λ piece atom. (atom-takes piece atom, atom-again piece atom);
  one_way = one-way;
  groups = groups-form;
  list = atoms-form;
}
