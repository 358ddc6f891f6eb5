-- Each procedure of a module that is derived is broad.
use Rattle.std.proofs.Common.{◌≡◌, true}
use Rattle.rt_syntax_exprs.specs.declared.limits.Context.{Context}
use Rattle.rt_syntax.specs.Derives.{language_limits, in_list}
use Rattle.rt_bricks.specs.Declarations as line
use Rattle.rt_bricks_laws.specs.Bodies.{body_is_broad}
use Rattle.rt_bricks_laws.specs.Laws.{BodyIsBroad, BodiesAreBroad}
use Rattle.rt_bricks_laws.proofs.Yields.{Yields, it, behind, thn}
use Rattle.rt_bricks_laws.proofs.Broad.{body_is_derived_broad}
use Rattle.rt_bricks_laws.proofs.Declarations.{Bricks, each_declared}

closing_broad : (c : Context) → Yields (line.closing c) (λ x. body_is_broad x.0 ≡ true)
closing_broad c = behind (λ _. thn (body_is_derived_broad c) (λ b h. behind (λ at. behind (λ _. behind (λ _. it h)))))

bricks_broad : (c : Context) → Bricks c BodyIsBroad
bricks_broad c = record {
  record_mode = behind (λ at. behind (λ _. behind (λ n. behind (λ _. behind (λ fs. behind (λ _. behind (λ _. it tt)))))));
  data_brick = λ x. behind (λ _. behind (λ n. behind (λ _. behind (λ ls. behind (λ _. behind (λ _. it tt))))));
  stack_brick = λ x. behind (λ _. behind (λ n. behind (λ words. behind (λ _. it tt))));
  result_first = λ x at. behind (λ r. behind (λ n. behind (λ fs. thn (closing_broad c) (λ b h. it h))));
  name_first = λ x at. behind (λ n. behind (λ fs. behind (λ r. thn (closing_broad c) (λ b h. it h))));
  imported_procedures = λ from at. behind (λ md. behind (λ ns. behind (λ _. it tt)));
  imported_data = λ from at. behind (λ _. behind (λ n. behind (λ _. behind (λ ls. behind (λ _. behind (λ _. it tt))))));
  imported_stacks = λ at. behind (λ _. behind (λ ns. behind (λ _. it tt)));
}

pub bodies_broad : BodiesAreBroad
bodies_broad items x derived = each_declared BodyIsBroad items (bricks_broad (in_list items language_limits)) x derived
