use Rattle.std.proofs.Common.{◌≡◌, sym, ◌∙◌, Some, rules}
use Rattle.rt_modes.specs.declared.mode.Mode.{out-Mode}
use Rattle.rt_exprs.proofs.Levels.{array_level, array_layer, array_ref}
use Rattle.rt_exprs.proofs.modes.+array_at.Goals as goal

pub returns-in-Array : goal.returns-in-Array
returns-in-Array t c = let e : Some c.args.place ≡ array_layer (out-Mode c.args.mode.now) c.args.place = search rules in e ∙ sym (array_level c.args.mode.now c.args.place)

pub returns-in_ok-through-in-RefArray : goal.returns-in_ok-through-in-RefArray
returns-in_ok-through-in-RefArray t c = rw (array_level c.args.mode.now c.args.place) (search rules)

pub returns-in_ok-next-in-Ref : goal.returns-in_ok-next-in-Ref
returns-in_ok-next-in-Ref t c = array_ref c.args.mode.now _ _ c.args.place _ c.array_at.result c.in-Ref.is c.get.ensures c.in_ok-next-in-Ref.ensures c.array_at.ensures

pub returns-in_default : goal.returns-in_default
returns-in_default t c = rw (array_level c.args.mode.now c.args.place) (search rules)
