use Rattle.std.proofs.Common.{sym, ◌∙◌, rules}
use Rattle.rt_exprs.specs.Operands.{want_of}
use Rattle.rt_exprs.proofs.Levels.{becomes_level, becomes_ref, becomes_ref_same, becomes_row}
use Rattle.rt_exprs.proofs.modes.+becomes.Goals as goal

pub returns-then-is_ref : goal.returns-then-is_ref
returns-then-is_ref t c = becomes_ref_same c.args.mode.now _ _ (want_of c.args.wanted) c.args.value c.in-Ref.is c.get-to.ensures (sym c.if-is_ref.true ∙ c.is_ref.ensures)

pub returns-in-Byte : goal.returns-in-Byte
returns-in-Byte t c = rw (becomes_level c.args.mode.now (want_of c.args.wanted) c.args.value) (search rules)

pub returns-in-Int : goal.returns-in-Int
returns-in-Int t c = rw (becomes_level c.args.mode.now (want_of c.args.wanted) c.args.value) (search rules)

pub returns-in-Frac : goal.returns-in-Frac
returns-in-Frac t c = rw (becomes_level c.args.mode.now (want_of c.args.wanted) c.args.value) (search rules)

pub returns-in_ok-read-in-Ref : goal.returns-in_ok-read-in-Ref
returns-in_ok-read-in-Ref t c =
    becomes_ref c.args.mode.now _ _ (want_of c.args.wanted) c.args.value _ c.becomes.result c.in-Ref.is c.get-to.ensures (sym c.if-is_ref.false ∙ c.is_ref.ensures) c.in_ok-read-in-Ref.ensures c.becomes.ensures

pub returns-in-RefArray : goal.returns-in-RefArray
returns-in-RefArray t c = c.only_if.ensures ∙ becomes_row c.args.mode.now _ _ (want_of c.args.wanted) c.args.value _ c.in-RefArray.is c.get.ensures c.is_row.ensures

pub returns-in-Proc : goal.returns-in-Proc
returns-in-Proc t c = rw (becomes_level c.args.mode.now (want_of c.args.wanted) c.args.value) (search rules)

pub returns-in_default : goal.returns-in_default
returns-in_default t c = rw (becomes_level c.args.mode.now (want_of c.args.wanted) c.args.value) (search rules)
