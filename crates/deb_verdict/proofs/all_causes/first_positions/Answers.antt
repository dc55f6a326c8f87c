use Rattle.std.proofs.lemmas.Option.{IfSome_then}
use Rattle.number_sets.specs.Sets.{members_of}
use Rattle.number_sets.proofs.ListMembers.{below_members}
use Rattle.deb_verdict.proofs.CauseSteps.{first_found, none_found}
use Rattle.deb_verdict.proofs.Whole.{first_in_list}
use Rattle.deb_verdict.proofs.all_causes.first_positions.Goals as goal

pub returns-clause-first : goal.returns-clause-first
returns-clause-first c =
    first_found c.args.groundwork.now.index.now c.args.p (members_of c.args.out.now) c.in_ok-positions.positions c.in_ok-positions.ensures.rising c.in_ok-positions.ensures.first

pub returns-clause-within : goal.returns-clause-within
returns-clause-within c =
    IfSome_then c.in_ok-positions.positions c.in_ok-positions.ensures.first
    (λ core first. below_members core.items _ (first_in_list c.args.groundwork.now.index.now c.args.p (members_of c.args.out.now) (members_of core.items) first))

pub returns-clause-none : goal.returns-clause-none
returns-clause-none c =
    none_found c.args.groundwork.now.index.now c.args.p (members_of c.args.out.now) c.in_ok-positions.positions c.requires.place c.in_ok-positions.ensures.none
