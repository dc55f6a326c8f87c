use Rattle.std.proofs.Common.{◌≡◌, ◌==◌, ◌∙◌, ◌++◌, ◌∷◌, [], ◌-◌, ◌≤◌, ℕ, All, Bool, Global, List, Vec, ap, ap₂, arith, codes, drop, get_or, if◌then◌else◌, length, map, subst, sym, take, true}
use Rattle.std.proofs.lemmas.List.{take_all}
use Rattle.std.proofs.lemmas.List.Elements.{All-drop, All-take}
use Rattle.deb_index.specs.declared.constraint.Constraint.{Constraint}
use Rattle.deb_index.specs.Packages.{IndexView}
use Rattle.run_settings.specs.Settings.{Settings, settings_of}
use Rattle.deb_report.specs.Document.{all_cores, core_in, first_title, is_walked, later_in}
use Rattle.deb_report.specs.Forms.{each_in, number_in, title_in}
use Rattle.deb_report.specs.declared.form.Lead.TheVariants.{Within}
use Rattle.deb_report.specs.Sought.{IsTold}
use Rattle.deb_report.proofs.FormLemmas.{each_map}
use Rattle.deb_report.proofs.JoinLemmas.{in-order}
use Rattle.deb_report.proofs.form.Writer.push_cores.Goals as goal

pub print-requires : goal.print-requires
print-requires c =
    let writer = c.args.self.now in
    let told = IsTold writer.index.now writer.config.now writer.similar.now in
    (c.requires.place, subst (λ (core : Vec Constraint Global). All told core.items) (sym c.core-item.is) (c.requires.cores 0 _ c.in-len1-up.len_at_least))

pub push_each-requires : goal.push_each-requires
push_each-requires c =
    let writer = c.args.self.now in
    let P = λ (core : Vec Constraint Global). All (IsTold writer.index.now writer.config.now writer.similar.now) core.items in
    let later = All-take P _ (drop 1 c.args.cores.now) (All-drop P 1 c.args.cores.now c.requires.cores) in
    λ k core below. (c.requires.place, later k core below)

told-all : (index : IndexView) (settings : Settings) (place : ℕ) (out : List ℕ) (core : Vec Constraint Global) (cores : List (Vec Constraint Global))
    → settings.all_reasons ≡ true → 1 ≤ length cores → core ≡ get_or cores 0 core
    → ((out ++ title_in settings.format Within (first_title (is_walked settings.format settings.why))) ++ core_in index settings place core.items)
    ++ each_in settings.format (codes "also") (λ later. core_in index settings place later.items) (take (length cores - 1) (drop 1 cores))
    ≡ out ++ all_cores index settings place (map (λ (one : Vec Constraint Global). one.items) cores)
unfolding all_cores later_in
told-all index settings place out core [] all some is = absurd (omega arith)
told-all index settings place out core (x ∷ xs) all some is =
    let form = settings.format in
    let title = title_in form Within (first_title (is_walked form settings.why)) in
    let text = core_in index settings place in
    let rest : take (length (x ∷ xs) - 1) (drop 1 (x ∷ xs)) ≡ xs = take_all (length (x ∷ xs) - 1) xs (omega arith) in
    let its = λ (one : Vec Constraint Global). one.items in
    let each = each_in form (codes "also") text (map its xs) in
    let count = length (map its xs) in
    let further : List ℕ = if count == 0 then [] else number_in form Within (codes "further") count in
    ap₂ (λ (one : Vec Constraint Global) (later : List ℕ). ((out ++ title) ++ text one.items) ++ later) is
    (ap (each_in form (codes "also") (λ (one : Vec Constraint Global). text one.items)) rest ∙ sym (each_map form (codes "also") text its xs))
    ∙ in-order out title (text x.items ∷ each ∷ [])
    ∙ ap (λ (chosen : Bool). out ++ ((title ++ text x.items) ++ (if chosen then each else further))) (sym all)

pub returns-in_ok-push_each : goal.returns-in_ok-push_each
returns-in_ok-push_each c =
    let writer = c.args.self.now in
    rw (c.in_ok-push_each.ensures, c.in_ok-print.ensures, c.in_ok-push_title.ensures, c.first_title.ensures)
    (told-all writer.index.now (settings_of writer.config.now) c.args.place c.args.out.now.items c.core-item.result c.args.cores.now
    c.if-self.true c.in-len1-up.len_at_least c.core-item.is)
