-- The first of three.
use Rattle.std.proofs.Common.{◌≡◌, Bool, true, false, List, Option, Some, None, refl}
use Rattle.rt_work_state.specs.Items.{Item, or_else, here_or}

pub or_else_twice : (o p q : Option (List Item)) → or_else (or_else o p) q ≡ or_else o (or_else p q)
or_else_twice None p q = refl
or_else_twice (Some x) p q = refl

pub or_else_none : (o : Option (List Item)) → or_else o None ≡ o
or_else_none None = refl
or_else_none (Some x) = refl

-- a label here goes before what is found behind it
pub here_first : (o : Option (List Item)) (b : Bool) (todo : List Item) (q : Option (List Item)) → or_else (or_else o (here_or b todo None)) q ≡ or_else o (here_or b todo q)
here_first None true todo q = refl
here_first None false todo q = refl
here_first (Some x) true todo q = refl
here_first (Some x) false todo q = refl
