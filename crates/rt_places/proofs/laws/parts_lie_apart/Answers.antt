use Rattle.rt_places.proofs.laws.parts_lie_apart.Goals as goal
use Rattle.rt_places.proofs.Paths.{inside, evenly, apart}

pub returns-clause-inside : goal.returns-clause-inside
returns-clause-inside c records S m w path o n sizes h z = let is = inside records S sizes path m w o n h z in (is.bytes, is.sized, is.inside)

pub returns-clause-even : goal.returns-clause-even
returns-clause-even c records S m w path o n sizes h z isnt = evenly records S sizes path m w o h isnt

pub returns-clause-apart : goal.returns-clause-apart
returns-clause-apart c records S m v w p q a b n sizes z h i diff = apart records S sizes p q m v w a b n z h i diff
