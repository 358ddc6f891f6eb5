-- Conditions as the grammar has them: what OR and AND join are two or more.
use Rattle.std.specs.Prelude.{◌&&◌, Bool, true, nat_le, List, [], ◌∷◌, length}
use Rattle.rt_syntax_exprs.specs.declared.tree.Cond.{Cond}
use Rattle.rt_syntax_exprs.specs.declared.tree.Cond.TheFolds.{fold-Cond}
use Rattle.rt_syntax_exprs.specs.declared.tree.Cond.TheOpen.{Cond-F}

-- Conditions that OR and AND join are two or more, as the grammar has them.
abbrev pub all_true : List Bool → Bool
all_true [] = true
all_true (b ∷ bs) = b && all_true bs

abbrev pub joins_step : Cond-F Bool → Bool
joins_step (Cond-F.Or bs at) = nat_le 2 (length bs) && all_true bs
joins_step (Cond-F.And bs at) = nat_le 2 (length bs) && all_true bs
joins_step (Cond-F.Compare r a b at) = true

unfoldable pub joins_two : Cond → Bool
joins_two = fold-Cond Bool joins_step
