-- What holds of each declaration of a module that is derived.
use Rattle.std.proofs.Common.{Bool, List, []}
use Rattle.std.specs.List.{AllByRecursion}
use Rattle.rt_pieces.specs.declared.item.Item.{Item}
use Rattle.rt_grammar.specs.declared.at.At.{At}
use Rattle.rt_grammar.specs.Parts.{push}
use Rattle.rt_syntax_exprs.specs.declared.limits.Context.{Context}
use Rattle.rt_syntax.specs.Derives.{language_limits, in_list}
use Rattle.rt_bricks.specs.declared.tree.Declaration.{Declaration}
use Rattle.rt_bricks.specs.declared.tree.Import.{Import}
use Rattle.rt_bricks.specs.declared.tree.Module.{Module}
use Rattle.rt_bricks.specs.Declarations as line
use Rattle.rt_bricks.specs.Modules as modules
use Rattle.rt_bricks.specs.Derives.{Derives}
use Rattle.rt_bricks_laws.proofs.Yields.{Yields, it, behind, thn, or_else, turned, one_more}

-- what holds of each brick that a declaration may be
pub record Bricks (c : Context) (Q : Declaration → Type 0) : Type 0 where
  pub record_mode : Yields (line.record_mode c) Q
  pub data_brick : (x : At × Bool) → Yields (line.data_brick c x) Q
  pub stack_brick : (x : At × Bool) → Yields (line.stack_brick c x) Q
  pub result_first : (x : At × Bool) (at : At) → Yields (line.result_first c x at) Q
  pub name_first : (x : At × Bool) (at : At) → Yields (line.name_first c x at) Q
  pub imported_procedures : (from : Import) (at : At) → Yields (line.imported_procedures c from at) Q
  pub imported_data : (from : Import) (at : At) → Yields (line.imported_data c from at) Q
  pub imported_stacks : (at : At) → Yields (line.imported_stacks c at) Q

module _ (c : Context) (Q : Declaration → Type 0) (h : Bricks c Q) where
  own_yields : Yields (line.own_brick c) Q
  own_yields = or_else (behind (λ x. h.data_brick x)) (or_else (behind (λ x. h.stack_brick x)) (or_else (behind (λ x. behind (λ at. h.result_first x at))) (behind (λ x. behind (λ at. h.name_first x at)))))

  external_yields : Yields (line.external_bricks c) Q
  external_yields = or_else (behind (λ at. h.imported_procedures _ at)) (or_else (behind (λ at. h.imported_data _ at)) (behind (λ at. h.imported_stacks at)))

  service_yields : Yields (line.service_bricks c) Q
  service_yields = or_else (behind (λ at. h.imported_procedures _ at)) (behind (λ at. h.imported_data _ at))

  declaration_yields : Yields (line.declaration c) Q
  declaration_yields = or_else h.record_mode (or_else external_yields (or_else service_yields own_yields))

  module_yields : Yields (modules.module_of c) (λ x. AllByRecursion Q x.declarations)
  module_yields = behind (λ at. behind (λ _. behind (λ n. behind (λ _. behind (λ _. thn (turned push (line.declaration c) Q (AllByRecursion Q) declaration_yields (λ xs x k g. one_more Q xs x k g) tt) (λ ds k. it k))))))

pub each_declared : (Q : Declaration → Type 0) (items : List Item) → Bricks (in_list items language_limits) Q → (x : Module) → Derives items x → AllByRecursion Q x.declarations
unfolding Derives
each_declared Q items h x derived = (module_yields (in_list items language_limits) Q h).yields items [] x derived
