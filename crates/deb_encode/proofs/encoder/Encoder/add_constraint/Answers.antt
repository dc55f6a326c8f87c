use Rattle.deb_encode.proofs.encoder.Encoder.add_constraint.Goals as goal

pub returns-in-Essential : goal.returns-in-Essential
returns-in-Essential c = rw c.in-Essential.is c.add_essential.ensures

pub returns-in-Need : goal.returns-in-Need
returns-in-Need c = rw c.in-Need.is c.add_need.ensures

pub returns-in-Apart : goal.returns-in-Apart
returns-in-Apart c = rw c.in-Apart.is c.add_apart.ensures

pub returns-in-Only : goal.returns-in-Only
returns-in-Only c = rw c.in-Only.is c.add_only.ensures
