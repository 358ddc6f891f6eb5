-- A mode has an item at least.
use Rattle.std.proofs.Common.{ℕ, zero, suc, ◌-◌, arith}
use Rattle.rt_grammar.specs.Parts.{Part, push}
use Rattle.rt_syntax_exprs.specs.declared.limits.Context.{Context}
use Rattle.rt_syntax_exprs.specs.declared.tree.WrittenMode.{WrittenMode}
use Rattle.rt_syntax_exprs.specs.Tables.{begins_result, begins_mode_by_word, is_no_array}
use Rattle.rt_syntax_exprs.specs.Modes as line
use Rattle.rt_bricks_laws.proofs.Parts.{Counts, done, none, one_item, thn, counted_as, or_else, maybe, turned_up, begun, opened, a_word, a_mark, a_number, a_place, an_ident}

named_counts : (c : Context) → Counts 0 (line.named c) (λ _. 1)
named_counts c = thn (an_ident c.total) (λ n. done (omega arith))

basic_counts : (c : Context) → Counts 0 (line.basic c) (λ _. 1)
basic_counts c = thn (a_place c.total) (λ at. thn one_item (λ b. done (omega arith)))

module _ (c : Context) (modes parentheses : ℕ) (inner : ℕ → ℕ → Part WrittenMode) (h : (p r : ℕ) → Counts 0 (inner p r) (λ _. 1)) where
  array_counts : Counts 0 (line.array c modes parentheses inner) (λ _. 1)
  array_counts = thn (a_place c.total) (λ at. thn (opened modes (a_word _)) (λ _. thn (opened parentheses (a_mark _)) (λ _. thn a_number (λ n. thn (a_mark _) (λ _.
      thn (h parentheses c.limits.references) (λ of. done (omega arith)))))))

  parameters_count : Counts 0 (line.parameters c modes parentheses inner) (λ _. 1)
  parameters_count = thn (h (parentheses - 1) c.limits.references) (λ first. turned_up push _ (λ _. 1) (λ _. 2)
      (thn (a_mark _) (λ _. counted_as (h (parentheses - 1) c.limits.references) (λ x. omega arith))) (λ xs x. omega arith) (c.limits.parameters - 1) _ (omega arith))

  result_counts : Counts 0 (line.result_inside c modes parentheses inner) (λ _. 1)
  result_counts = begun begins_result (h parentheses c.limits.references)

  pub procedure_counts : Counts 0 (line.procedure c modes parentheses inner) (λ _. 1)
  procedure_counts = thn (a_place c.total) (λ at. thn (opened modes (a_word _)) (λ _. thn (opened parentheses (a_mark _)) (λ _.
      thn {f = λ _. 0} (or_else (counted_as parameters_count (λ x. omega arith)) (done (omega arith))) (λ ps. thn (a_mark _) (λ _.
      thn {f = λ _. 0} (maybe result_counts (λ x. omega arith) (omega arith)) (λ r. done (omega arith)))))))

  reference_counts : (references : ℕ) → Counts 0 (line.reference c modes parentheses inner references) (λ _. 1)
  reference_counts references = thn (a_place c.total) (λ at. thn (opened modes (opened references (a_word _))) (λ _. or_else
      (thn (a_word _) (λ _. thn (h parentheses c.limits.references) (λ of. done (omega arith))))
      (thn (begun is_no_array (h parentheses (references - 1))) (λ to. done (omega arith)))))

  mode_counts : (references : ℕ) → Counts 0 (line.mode_of c modes parentheses inner references) (λ _. 1)
  mode_counts references = or_else (named_counts c) (or_else array_counts (or_else (reference_counts references) (or_else procedure_counts (basic_counts c))))

pub inside_counts : (c : Context) (modes parentheses references : ℕ) → Counts 0 (line.inside c modes parentheses references) (λ _. 1)
unfolding line.inside
inside_counts c zero parentheses references = none
inside_counts c (suc modes) parentheses references = mode_counts c modes parentheses (line.inside c modes) (inside_counts c modes) references

pub written_counts : (c : Context) (modes parentheses : ℕ) → Counts 0 (line.written_mode c modes parentheses) (λ _. 1)
written_counts c modes parentheses = mode_counts c modes parentheses (line.inside c modes) (inside_counts c modes) c.limits.references

pub mode_by_word_counts : (c : Context) → Counts 0 (line.mode_by_word c) (λ _. 1)
mode_by_word_counts c = begun begins_mode_by_word (written_counts c c.limits.modes c.limits.parentheses)
