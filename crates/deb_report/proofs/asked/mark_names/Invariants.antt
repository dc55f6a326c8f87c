use Rattle.std.proofs.Common.{◌≡◌, ◌<◌, ◌||◌, ℕ, false, get_or, length, map, take}
use Rattle.deb_index.specs.Packages.{package_at}
use Rattle.deb_report.specs.Outcome.{is_listed}
use Rattle.deb_report.proofs.asked.mark_names.Given as goal

abbrev pub invariant-loop-name : goal.invariant-loop-name
invariant-loop-name l = (k : ℕ) → k < length l.initial.marks →
    get_or l.marks k false ≡ (get_or l.initial.marks k false || is_listed (map (λ name. name.items) (take l.name-index l.names)) (package_at l.index k))
