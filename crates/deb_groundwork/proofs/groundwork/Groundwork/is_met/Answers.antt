use Rattle.std.proofs.Common.{◌≡◌, ◌∙◌, refl, sym, ap, length, true, Some, slice_get}
use Rattle.std.proofs.lemmas.Option.{slice_get_read}
use Rattle.deb_groundwork.proofs.groundwork.Groundwork.is_met.Goals as goal

pub returns-in-Some : goal.returns-in-Some
returns-in-Some c = λ marked.
    let looked = c.in-Some.ensures.lookup in
    let here : slice_get c.deref.result.now c.args.place ≡ Some c.in-Some.met.now = slice_get_read c.deref.result.now (length c.deref.result.now) c.args.place c.in-Some.met.now refl looked.3.0 looked.1 in
    let there : slice_get c.args.self.now.met.items c.args.place ≡ Some true = ap (λ marks. slice_get marks c.args.place) (sym c.deref.ensures.value) ∙ (here ∙ ap (λ b. Some b) marked) in
    c.args.self.now.marks_met c.args.place there
