use Rattle.std.proofs.Common.{◌<◌, All, length, subst, sym}
use Rattle.deb_index.specs.Packages.{IndexView}
use Rattle.work_draw_tests.proofs.examples.ground_of.Goals as goal

pub returns : goal.returns
returns c =
    subst (λ (index : IndexView). All (λ place. place < length index.packages) c.args.places.now) (sym c.in_ok-new.ensures) c.requires
