-- The names of a module's records, and of the items of its data, are well spelled.
use Rattle.std.proofs.Common.{ℕ, ◌-◌, Bool, [], ◌∷◌, Option, Some, None}
use Rattle.std.specs.List.{AllByRecursion}
use Rattle.rt_pieces.specs.declared.item.Mark.{Mark}
use Rattle.rt_pieces.specs.declared.item.Word.{Word}
use Rattle.rt_grammar.specs.declared.at.At.{At}
use Rattle.rt_grammar.specs.declared.at.Ident.{Ident}
use Rattle.rt_grammar.specs.Parts.{Part, here, word, mark, ident, push}
use Rattle.rt_syntax_exprs.specs.declared.limits.Context.{Context}
use Rattle.rt_syntax_exprs.specs.declared.tree.WrittenMode.{WrittenMode}
use Rattle.rt_syntax_exprs.specs.Modes.{written_mode}
use Rattle.rt_syntax.specs.Derives.{language_limits, in_list}
use Rattle.rt_syntax.specs.Statements.{names}
use Rattle.rt_bricks.specs.declared.fields.Collected.{Collected}
use Rattle.rt_bricks.specs.declared.tree.Import.{Import}
use Rattle.rt_bricks.specs.Declarations as line
use Rattle.rt_bricks.specs.Derives.{Derives}
use Rattle.rt_bricks.specs.Modules as modules
use Rattle.rt_bricks.proofs.DeclarationLines.{good_declaration}
use Rattle.rt_bricks.proofs.StartLines.{good_start}
use Rattle.rt_bricks_laws.proofs.Bricks.{own_counts, semicolon_counts, options_count}
use Rattle.rt_bricks_laws.proofs.Modes.{written_counts}
use Rattle.rt_bricks_laws.proofs.Parts.{Counts, opened, a_word, a_mark, a_place, an_ident as ident_counts}
use Rattle.rt_bricks_laws.proofs.Statements.{names_count}
use Rattle.rt_bricks_laws.proofs.Yields.{Yields, one_more, it as yields_it, behind as yields_behind}
use Rattle.rt_bricks_laws.specs.SpelledDeclarations.{IdentSpelled, FieldsSpelled, ItemSpelled, LineSpelled, DeclarationSpelled, DeclarationsAreSpelled}
use Rattle.rt_bricks_laws.proofs.Spells.{Spells, Leaves, leaves_it, leaves_then, leaves_maybe, leaves_turned, it, thn, behind, last, yielded, or_else, turned, an_ident}

record Collects (x : Collected) : Type 0 where
  before : AllByRecursion FieldsSpelled x.before
  last : FieldsSpelled x.last

collects_more : (x : Collected) (m : Option WrittenMode) (n : Ident) (at : At) → Collects x → IdentSpelled n → Collects (line.with_name x m n at)
collects_more x None n at h k = record { before = h.before; last = one_more IdentSpelled x.last.names n h.last k }
collects_more x (Some w) n at h k = record { before = one_more FieldsSpelled x.before x.last h.before h.last; last = (k, tt) }

-- what is counted leaves a tail
counted : {A : Type 0} {p : Part A} {n : ℕ} {f : A → ℕ} → Counts n p f → Leaves p
counted h = record { tails = h.tails }

module _ (c : Context) where
  -- ---- what single items leave

  place_leaves : Leaves (here c.total)
  place_leaves = counted (a_place c.total)

  word_leaves : (k : Word) → Leaves (word k)
  word_leaves k = counted (a_word k)

  mark_leaves : (k : Mark) → Leaves (mark k)
  mark_leaves k = counted (a_mark k)

  ident_leaves : Leaves (ident c.total)
  ident_leaves = counted (ident_counts c.total)

  mode_leaves : (modes parentheses : ℕ) → Leaves (written_mode c modes parentheses)
  mode_leaves modes parentheses = counted (written_counts c modes parentheses)

  -- ---- the fields of a record

  module _ (mode : Part WrittenMode) (m : Leaves mode) where
    first_leaves : Leaves (line.first_field c mode)
    first_leaves = leaves_then place_leaves (λ at. leaves_then m (λ md. leaves_then ident_leaves (λ n. leaves_it)))

    first_spelled : Spells (line.first_field c mode) Collects
    first_spelled = behind place_leaves (λ at. behind m (λ md. thn ident_leaves (an_ident c.total) (λ n k. it (record { before = tt; last = (k, tt) }))))

    next_leaves : Leaves (line.next_field c mode)
    next_leaves = leaves_then place_leaves (λ at. leaves_then (leaves_maybe m) (λ md. leaves_then ident_leaves (λ n. leaves_it)))

    next_spelled : Spells (line.next_field c mode) (λ f. IdentSpelled f.name)
    next_spelled = behind place_leaves (λ at. behind (leaves_maybe m) (λ md. thn ident_leaves (an_ident c.total) (λ n k. it k)))

    fields_spelled : Spells (line.fields c mode) (AllByRecursion FieldsSpelled)
    fields_spelled = thn first_leaves first_spelled (λ first k.
        last (turned line.with_field _ (λ f. IdentSpelled f.name) Collects (leaves_then (mark_leaves _) (λ _. next_leaves)) (behind (mark_leaves _) (λ _. next_spelled)) (λ x f g e. collects_more x f.mode f.name f.at g e) k)
        (λ x g. yields_it (one_more FieldsSpelled x.before x.last g.before g.last)))

  record_spelled : Spells (line.record_mode c) DeclarationSpelled
  record_spelled = behind place_leaves (λ at. behind (word_leaves _) (λ _. thn ident_leaves (an_ident c.total) (λ n h. behind (counted (opened c.limits.parentheses (a_mark _))) (λ _.
      last (fields_spelled (written_mode c c.limits.modes (c.limits.parentheses - 1)) (mode_leaves c.limits.modes (c.limits.parentheses - 1))) (λ fs g. yields_behind (λ _. yields_behind (λ _. yields_it (h, g))))))))

  -- ---- the items of data

  item_leaves : Leaves (line.data_item c)
  item_leaves = leaves_then ident_leaves (λ n. leaves_then (leaves_maybe (leaves_then (mark_leaves _) (λ _. record { tails = (good_start c).tails }))) (λ st. leaves_it))

  item_spelled : Spells (line.data_item c) ItemSpelled
  item_spelled = last (an_ident c.total) (λ n h. yields_behind (λ st. yields_it h))

  items_leave : Leaves (line.data_items c)
  items_leave = leaves_then item_leaves (λ first. leaves_turned push _ (leaves_then (mark_leaves _) (λ _. item_leaves)) (first ∷ []))

  items_spelled : Spells (line.data_items c) (AllByRecursion ItemSpelled)
  items_spelled = thn item_leaves item_spelled (λ first g. turned push _ ItemSpelled (AllByRecursion ItemSpelled) (leaves_then (mark_leaves _) (λ _. item_leaves)) (behind (mark_leaves _) (λ _. item_spelled)) (one_more ItemSpelled) (g, tt))

  line_leaves : Leaves (line.data_line c)
  line_leaves = leaves_then place_leaves (λ at. leaves_then (mode_leaves c.limits.modes c.limits.parentheses) (λ md. leaves_then items_leave (λ is. leaves_then (mark_leaves _) (λ _. leaves_it))))

  line_spelled : Spells (line.data_line c) LineSpelled
  line_spelled = behind place_leaves (λ at. behind (mode_leaves c.limits.modes c.limits.parentheses) (λ md. last items_spelled (λ is g. yields_behind (λ _. yields_it g))))

  data_spelled : (x : At × Bool) → Spells (line.data_brick c x) DeclarationSpelled
  data_spelled x = behind (word_leaves _) (λ _. behind ident_leaves (λ n. behind (mark_leaves _) (λ _.
      last (turned push _ LineSpelled (AllByRecursion LineSpelled) line_leaves line_spelled (one_more LineSpelled) tt) (λ ls g. yields_behind (λ _. yields_behind (λ _. yields_it g))))))

  -- ---- the items of imported data

  names_spelled : Spells (names c) (AllByRecursion IdentSpelled)
  names_spelled = thn ident_leaves (an_ident c.total) (λ first h.
      turned push _ IdentSpelled (AllByRecursion IdentSpelled) (leaves_then (mark_leaves _) (λ _. ident_leaves)) (behind (mark_leaves _) (λ _. an_ident c.total)) (one_more IdentSpelled) (h, tt))

  imported_line_leaves : Leaves (line.imported_line c)
  imported_line_leaves = leaves_then place_leaves (λ at. leaves_then (mode_leaves c.limits.modes c.limits.parentheses) (λ md. leaves_then (counted (names_count c)) (λ ns. leaves_then (mark_leaves _) (λ _. leaves_it))))

  imported_line_spelled : Spells (line.imported_line c) FieldsSpelled
  imported_line_spelled = behind place_leaves (λ at. behind (mode_leaves c.limits.modes c.limits.parentheses) (λ md. last names_spelled (λ ns g. yields_behind (λ _. yields_it g))))

  imported_data_spelled : (from : Import) (at : At) → Spells (line.imported_data c from at) DeclarationSpelled
  imported_data_spelled from at = behind (word_leaves _) (λ _. behind ident_leaves (λ n. behind (mark_leaves _) (λ _.
      last (turned push _ FieldsSpelled (AllByRecursion FieldsSpelled) imported_line_leaves imported_line_spelled (one_more FieldsSpelled) tt) (λ ls g. yields_behind (λ _. yields_behind (λ _. yields_it g))))))

  -- ---- what has neither fields nor items

  stack_yields : (x : At × Bool) → Yields (line.stack_brick c x) DeclarationSpelled
  stack_yields x = yields_behind (λ _. yields_behind (λ n. yields_behind (λ words. yields_behind (λ _. yields_it tt))))

  result_first_yields : (x : At × Bool) (at : At) → Yields (line.result_first c x at) DeclarationSpelled
  result_first_yields x at = yields_behind (λ r. yields_behind (λ n. yields_behind (λ fs. yields_behind (λ b. yields_it tt))))

  name_first_yields : (x : At × Bool) (at : At) → Yields (line.name_first c x at) DeclarationSpelled
  name_first_yields x at = yields_behind (λ n. yields_behind (λ fs. yields_behind (λ r. yields_behind (λ b. yields_it tt))))

  imported_procedures_yield : (from : Import) (at : At) → Yields (line.imported_procedures c from at) DeclarationSpelled
  imported_procedures_yield from at = yields_behind (λ md. yields_behind (λ ns. yields_behind (λ _. yields_it tt)))

  imported_stacks_yield : (at : At) → Yields (line.imported_stacks c at) DeclarationSpelled
  imported_stacks_yield at = yields_behind (λ _. yields_behind (λ ns. yields_behind (λ _. yields_it tt)))

  -- ---- the lines

  own_spelled : Spells (line.own_brick c) DeclarationSpelled
  own_spelled = or_else (behind (counted (own_counts c)) (λ x. data_spelled x)) (or_else (yielded (yields_behind (λ x. stack_yields x)))
      (or_else (yielded (yields_behind (λ x. yields_behind (λ at. result_first_yields x at)))) (yielded (yields_behind (λ x. yields_behind (λ at. name_first_yields x at))))))

  at_word_leaves : (k : Word) → Leaves (line.at_word c k)
  at_word_leaves k = leaves_then place_leaves (λ at. leaves_then (word_leaves k) (λ _. leaves_it))

  external_spelled : Spells (line.external_bricks c) DeclarationSpelled
  external_spelled = or_else (yielded (yields_behind (λ at. imported_procedures_yield _ at))) (or_else (behind (at_word_leaves _) (λ at. imported_data_spelled _ at)) (yielded (yields_behind (λ at. imported_stacks_yield at))))

  service_spelled : Spells (line.service_bricks c) DeclarationSpelled
  service_spelled = or_else (yielded (yields_behind (λ at. imported_procedures_yield _ at))) (behind (at_word_leaves _) (λ at. imported_data_spelled _ at))

  declaration_spelled : Spells (line.declaration c) DeclarationSpelled
  declaration_spelled = or_else record_spelled (or_else external_spelled (or_else service_spelled own_spelled))

  module_spelled : Spells (modules.module_of c) (λ x. AllByRecursion DeclarationSpelled x.declarations)
  module_spelled = behind place_leaves (λ at. behind (word_leaves _) (λ _. behind ident_leaves (λ n. behind (counted semicolon_counts) (λ _. behind (counted (options_count c)) (λ _.
      last (turned push (line.declaration c) DeclarationSpelled (AllByRecursion DeclarationSpelled) (record { tails = (good_declaration c).tails }) declaration_spelled (one_more DeclarationSpelled) tt) (λ ds k. yields_it k))))))

pub declarations_are_spelled : DeclarationsAreSpelled
unfolding Derives
declarations_are_spelled items it spelled derived = (module_spelled (in_list items language_limits)).holds items [] it spelled derived
