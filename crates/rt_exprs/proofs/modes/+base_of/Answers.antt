use Rattle.std.proofs.Common.{◌≡◌, sym, ◌∙◌, rules}
use Rattle.rt_modes.specs.declared.mode.Mode.{out-Mode}
use Rattle.rt_exprs.specs.declared.operand.Base.TheVariants as base
use Rattle.rt_exprs.proofs.Levels.{base_layer, base_level, base_ref}
use Rattle.rt_exprs.proofs.modes.+base_of.Goals as goal

pub returns-in-Byte : goal.returns-in-Byte
returns-in-Byte t c = let e : base.Byte ≡ base_layer (out-Mode c.args.mode.now) = search rules in e ∙ sym (base_level c.args.mode.now)

pub returns-in-Frac : goal.returns-in-Frac
returns-in-Frac t c = let e : base.Frac ≡ base_layer (out-Mode c.args.mode.now) = search rules in e ∙ sym (base_level c.args.mode.now)

pub returns-in-Ref : goal.returns-in-Ref
returns-in-Ref t c = c.base_of.ensures ∙ base_ref c.args.mode.now _ _ c.in-Ref.is c.get.ensures

pub returns-in_default : goal.returns-in_default
returns-in_default t c = let e : base.Int ≡ base_layer (out-Mode c.args.mode.now) = search rules in e ∙ sym (base_level c.args.mode.now)
