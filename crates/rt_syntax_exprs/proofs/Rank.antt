-- How far a level of operators is from primaries.
use Rattle.std.proofs.Common.{ℕ}
use Rattle.rt_syntax_exprs.specs.declared.table.Level.{Level}
use Rattle.rt_syntax_exprs.specs.declared.table.Level.TheVariants as level

abbrev pub rank : Level → ℕ
rank level.Shift = 0
rank level.Product = 1
rank level.Land = 2
rank level.Sum = 3
