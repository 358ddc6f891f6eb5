-- What the names of MODEs stand for, as the program keeps them.
use Rattle.std.proofs.Common.{◌≡◌, [], ◌∷◌, ap}
use Rattle.rt_exprs.specs.Names.{find_in}
use Rattle.rt_exprs.specs.Sights.{Names as Level}
use Rattle.rt_check_module.specs.Tree.{seen}

pub all_seen : (level names : Level) → level ≡ names → find_in (level ∷ []) ≡ seen names
all_seen level names e = ap (λ (l : Level). find_in (l ∷ [])) e
