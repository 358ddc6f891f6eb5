-- Operators over an operand.
use Rattle.std.proofs.Common.{◌≡◌, List, [], ◌∷◌, ◌++◌, refl, ap}
use Rattle.rt_grammar.specs.declared.at.At.{At}
use Rattle.rt_syntax_exprs.specs.declared.tree.Op1.{Op1}
use Rattle.rt_syntax_exprs.specs.declared.tree.Expr.{Expr}
use Rattle.rt_syntax_exprs.specs.declared.tree.Expr.TheVariants as e
use Rattle.rt_syntax_exprs.specs.Expressions.{applied}

-- the last operator stands next to the operand
pub applied_last : (ops : List (Op1 × At)) (o : Op1 × At) (a : Expr) → applied (ops ++ o ∷ []) a ≡ applied ops (e.Monadic o.0 a o.1)
applied_last [] o a = refl
applied_last (p ∷ ops) o a = ap (λ (x : Expr). e.Monadic p.0 x p.1) (applied_last ops o a)
