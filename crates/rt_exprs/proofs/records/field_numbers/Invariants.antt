use Rattle.std.proofs.Common.{◌≡◌, ℕ, List, drop}
use Rattle.rt_exprs.specs.Indexed.{number_at}
use Rattle.rt_exprs.specs.Operands.{or_else}
use Rattle.rt_exprs.proofs.Indexing.{number_from}
use Rattle.rt_exprs.proofs.records.field_numbers.Given as goal

abbrev pub invariant-loop-number : goal.invariant-loop-number
invariant-loop-number l = (name : List ℕ) → or_else (number_at l.numbers name) (number_from l.number (drop l.number l.fields) name) ≡ number_from 0 l.fields name
