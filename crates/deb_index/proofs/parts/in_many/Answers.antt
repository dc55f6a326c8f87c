use Rattle.std.proofs.Common.{ℕ, List, Result, Ok, Err, IfOk}
use Rattle.deb_index.specs.Built.{ArePartsOf}
use Rattle.deb_index.proofs.parts.in_many.Goals as goal

-- what holds for each architecture holds for this one
at-arch : {A E : Type 0} (r : Result A E) (P : List ℕ → A → Type 0) → IfOk r (λ x. (arch : List ℕ) → P arch x) → (arch : List ℕ) → IfOk r (P arch)
at-arch (Ok x) P all arch = all arch
at-arch (Err e) P all arch = tt

pub returns-then-workers-lt2 : goal.returns-then-workers-lt2
returns-then-workers-lt2 g c = at-arch c.in_one.result (λ arch parted. ArePartsOf arch c.args.text.now parted.items) c.in_one.ensures c.args.arch.now
