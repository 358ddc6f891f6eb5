-- The numbers of a module are words.
use Rattle.std.proofs.Common.{◌≡◌, ℕ, zero, suc, ◌-◌, Bool, true, ◌&&◌, List, [], map, Option, Some, None, refl, ◌∙◌, arith}
use Rattle.std.specs.List.{AllByRecursion}
use Rattle.rt_pieces.specs.declared.item.Word.{Word}
use Rattle.rt_grammar.specs.declared.at.At.{At}
use Rattle.rt_grammar.specs.declared.at.Ident.{Ident}
use Rattle.rt_grammar.specs.Parts.{Part, optional, push}
use Rattle.rt_syntax_exprs.specs.declared.limits.Context.{Context}
use Rattle.rt_syntax_exprs.specs.declared.tree.WrittenMode.{WrittenMode}
use Rattle.rt_syntax_exprs.specs.Tables.{begins_result}
use Rattle.rt_syntax.specs.Derives.{language_limits, in_list}
use Rattle.rt_bricks.specs.declared.fields.Collected.{Collected}
use Rattle.rt_bricks.specs.declared.tree.DataItem.{DataItem}
use Rattle.rt_bricks.specs.declared.tree.DataLine.{DataLine}
use Rattle.rt_bricks.specs.declared.tree.Declaration.{Declaration}
use Rattle.rt_bricks.specs.declared.tree.Fields.{Fields}
use Rattle.rt_bricks.specs.declared.tree.Import.{Import}
use Rattle.rt_bricks.specs.declared.tree.Parenthesized.{Parenthesized}
use Rattle.rt_bricks.specs.declared.tree.Selector.{Selector}
use Rattle.rt_bricks.specs.declared.tree.Sign.{Sign}
use Rattle.rt_bricks.specs.declared.tree.Start.{Start, out-Start}
use Rattle.rt_bricks.specs.declared.tree.Start as starts
use Rattle.rt_bricks.specs.declared.tree.Start.TheFolds.{fold_out-Start}
use Rattle.rt_bricks.specs.declared.tree.Start.TheOpen.{Start-F}
use Rattle.rt_bricks.specs.declared.tree.Start.TheVariants as s
use Rattle.rt_bricks.specs.Declarations as line
use Rattle.rt_bricks.specs.Derives.{Derives}
use Rattle.rt_bricks.specs.Modules as modules
use Rattle.rt_bricks.specs.Starts as start_line
use Rattle.rt_bricks_laws.specs.Bodies.{all}
use Rattle.rt_bricks_laws.proofs.Bricks.{own_counts, semicolon_counts, options_count}
use Rattle.rt_bricks_laws.proofs.Parts.{Counts, done, one_item, thn as counts_then, maybe as counts_maybe, opened, a_word, a_mark, a_text, a_place, an_ident}
use Rattle.rt_bricks_laws.proofs.Statements.{names_count}
use Rattle.rt_bricks_laws.specs.Numbers.{is_word, words_in_mode, words_in_copies, words_in_selector, words_in_start, words_if_started, words_in_item, words_in_line, words_in_fields, words_in_result, words_in_body, words_in_declaration, NumbersAreWords}
use Rattle.rt_bricks_laws.proofs.Ranged.{Ranged, it, not, thn, behind, or_else, maybe, turned, turned_up, begun, a_number}
use Rattle.rt_bricks_laws.proofs.RangedBodies.{BodyWords, derived_body_words}
use Rattle.rt_bricks_laws.proofs.RangedExpressions.{ModeWords, ResultWords, written_words, proc_mode_words}
use Rattle.rt_bricks_laws.proofs.Truths.{both, all_push}
use Rattle.rt_bricks_laws.proofs.Yields.{one_more}

-- ---- starts

start_number : (sign : Option Sign) (n : ℕ) (copies : Option Parenthesized) (at : At) → words_in_start (s.Number sign n copies at) ≡ is_word n && words_in_copies copies
start_number sign n copies at = let o : out-Start (s.Number sign n copies at) ≡ Start-F.Number sign n copies at = search starts.the_lemmas in rw (fold_out-Start, o) refl

start_text : (bytes : List ℕ) (at : At) → words_in_start (s.Text bytes at) ≡ true
start_text bytes at = let o : out-Start (s.Text bytes at) ≡ Start-F.Text bytes at = search starts.the_lemmas in rw (fold_out-Start, o) refl

start_place : (n : Ident) (xs : List Selector) → words_in_start (s.Place n xs) ≡ all (map words_in_selector xs)
start_place n xs = let o : out-Start (s.Place n xs) ≡ Start-F.Place n xs = search starts.the_lemmas in rw (fold_out-Start, o) refl

start_list : (ss : List Start) (copies : Option Parenthesized) (at : At) → words_in_start (s.List ss copies at) ≡ all (map words_in_start ss) && words_in_copies copies
start_list ss copies at = let o : out-Start (s.List ss copies at) ≡ Start-F.List ss copies at = search starts.the_lemmas in rw (fold_out-Start, o) refl

abbrev CopiesWords : Option Parenthesized → Type 0
CopiesWords o = words_in_copies o ≡ true

abbrev SelectorWords : Selector → Type 0
SelectorWords x = words_in_selector x ≡ true

abbrev SelectorsWords : List Selector → Type 0
SelectorsWords xs = all (map words_in_selector xs) ≡ true

abbrev StartWords : Start → Type 0
StartWords x = words_in_start x ≡ true

abbrev StartsWords : List Start → Type 0
StartsWords xs = all (map words_in_start xs) ≡ true

abbrev StartedWords : Option Start → Type 0
StartedWords o = words_if_started o ≡ true

module _ (c : Context) where
  parenthesized_words : (levels : ℕ) → Ranged (start_line.parenthesized c levels) (λ p. is_word p.number ≡ true)
  parenthesized_words levels = behind (a_place c.total) (λ at. behind (opened levels (a_mark _)) (λ _. thn a_number (λ n h. behind (a_mark _) (λ _. it h))))

  copies_words : (levels : ℕ) → Ranged (optional (start_line.parenthesized c levels)) CopiesWords
  copies_words levels = maybe (parenthesized_words levels) (λ p h. h) refl

  numeral_words : (levels : ℕ) → Ranged (start_line.numeral c levels) StartWords
  numeral_words levels = behind (a_place c.total) (λ at. behind (counts_maybe {g = λ _. 0} one_item (λ x. omega arith) (omega arith)) (λ sign. thn a_number (λ n h. thn (copies_words levels) (λ copies k.
      it (start_number sign n copies at ∙ both (is_word n) (words_in_copies copies) h k)))))

  text_words : Ranged (start_line.string c) StartWords
  text_words = behind (a_place c.total) (λ at. behind a_text (λ bytes. it (start_text bytes at)))

  dot_words : Ranged (start_line.dot c) SelectorWords
  dot_words = behind (a_place c.total) (λ at. behind (a_mark _) (λ _. behind (an_ident c.total) (λ n. it refl)))

  subscript_words : (levels : ℕ) → Ranged (start_line.subscript c levels) SelectorWords
  subscript_words levels = thn (parenthesized_words levels) (λ n h. it h)

  place_words : (levels : ℕ) → Ranged (start_line.place c levels) StartWords
  place_words levels = behind (an_ident c.total) (λ n. thn (turned push _ SelectorWords SelectorsWords (or_else dot_words (subscript_words levels)) (λ xs x k f. all_push words_in_selector xs x k f) refl) (λ xs g. it (start_place n xs ∙ g)))

  module _ (levels : ℕ) (inner : Part Start) (h : Ranged inner StartWords) where
    listed_words : Ranged (start_line.listed c levels inner) StartsWords
    listed_words = thn h (λ first g. turned push _ StartWords StartsWords (behind (a_mark _) (λ _. h)) (λ ss x k f. all_push words_in_start ss x k f) (both (words_in_start first) true g refl))

    list_words : Ranged (start_line.list c levels inner) StartWords
    list_words = behind (a_place c.total) (λ at. behind (opened levels (a_mark _)) (λ _. thn listed_words (λ ss g. behind (a_mark _) (λ _. thn (copies_words levels) (λ copies k.
        it (start_list ss copies at ∙ both (all (map words_in_start ss)) (words_in_copies copies) g k))))))

    start_words : Ranged (start_line.start_of c levels inner) StartWords
    start_words = or_else (place_words levels) (or_else text_words (or_else list_words (numeral_words levels)))

  starts_inside_words : (levels : ℕ) → Ranged (start_line.inside c levels) StartWords
  unfolding start_line.inside
  starts_inside_words zero = not
  starts_inside_words (suc levels) = start_words levels (start_line.inside c levels) (starts_inside_words levels)

  whole_start_words : Ranged (start_line.start c) StartWords
  whole_start_words = start_words c.limits.parentheses (start_line.inside c c.limits.parentheses) (starts_inside_words c.limits.parentheses)

-- ---- fields

abbrev FieldsWords : Fields → Type 0
FieldsWords g = words_in_fields g ≡ true

abbrev AllFieldsWords : List Fields → Type 0
AllFieldsWords gs = all (map words_in_fields gs) ≡ true

record Collects (x : Collected) : Type 0 where
  before : AllFieldsWords x.before
  last : words_in_mode x.last.mode ≡ true

collects_more : (x : Collected) (m : Option WrittenMode) (n : Ident) (at : At) → Collects x → ResultWords m → Collects (line.with_name x m n at)
collects_more x None n at h k = record { before = h.before; last = h.last }
collects_more x (Some w) n at h k = record { before = all_push words_in_fields x.before x.last h.before h.last; last = k }

collected : (x : Collected) → Collects x → AllFieldsWords (line.all_fields x)
collected x h = all_push words_in_fields x.before x.last h.before h.last

module _ (c : Context) (mode : Part WrittenMode) (h : Ranged mode ModeWords) where
  first_words : Ranged (line.first_field c mode) Collects
  first_words = behind (a_place c.total) (λ at. thn h (λ md k. behind (an_ident c.total) (λ n. it (record { before = refl; last = k }))))

  next_words : Ranged (line.next_field c mode) (λ f. ResultWords f.mode)
  next_words = behind (a_place c.total) (λ at. thn {P = ResultWords} (maybe h (λ w k. k) refl) (λ md k. behind (an_ident c.total) (λ n. it k)))

  fields_words : Ranged (line.fields c mode) AllFieldsWords
  fields_words = thn first_words (λ first k. thn (turned line.with_field _ (λ f. ResultWords f.mode) Collects (behind (a_mark _) (λ _. next_words)) (λ x f g e. collects_more x f.mode f.name f.at g e) k) (λ x g. it (collected x g)))

  some_fields_words : (n : ℕ) → Ranged (line.fields_up_to c n mode) AllFieldsWords
  some_fields_words n = thn first_words (λ first k.
      thn (turned_up line.with_field _ (λ f. ResultWords f.mode) Collects (behind (a_mark _) (λ _. next_words)) (λ x f g e. collects_more x f.mode f.name f.at g e) (n - 1) first k) (λ x g. it (collected x g)))

-- ---- bricks

abbrev ItemWords : DataItem → Type 0
ItemWords i = words_in_item i ≡ true

abbrev ItemsWords : List DataItem → Type 0
ItemsWords is = all (map words_in_item is) ≡ true

abbrev LineWords : DataLine → Type 0
LineWords l = words_in_line l ≡ true

abbrev LinesWords : List DataLine → Type 0
LinesWords ls = all (map words_in_line ls) ≡ true

abbrev Words : Declaration → Type 0
Words d = words_in_declaration d ≡ true

module _ (c : Context) where
  mode_words : Ranged (line.mode c) ModeWords
  mode_words = written_words c c.limits.modes c.limits.parentheses

  item_words : Ranged (line.data_item c) ItemWords
  item_words = behind (an_ident c.total) (λ n. thn {P = StartedWords} (maybe (behind (a_mark _) (λ _. whole_start_words c)) (λ x g. g) refl) (λ st g. it g))

  items_words : Ranged (line.data_items c) ItemsWords
  items_words = thn item_words (λ first g. turned push _ ItemWords ItemsWords (behind (a_mark _) (λ _. item_words)) (λ is i k f. all_push words_in_item is i k f) (both (words_in_item first) true g refl))

  data_line_words : Ranged (line.data_line c) LineWords
  data_line_words = behind (a_place c.total) (λ at. thn mode_words (λ md h. thn items_words (λ is g. behind (a_mark _) (λ _. it (both (words_in_mode md) (all (map words_in_item is)) h g)))))

  record_words : Ranged (line.record_mode c) Words
  record_words = behind (a_place c.total) (λ at. behind (a_word _) (λ _. behind (an_ident c.total) (λ n. behind (opened c.limits.parentheses (a_mark _)) (λ _.
      thn (fields_words c _ (written_words c c.limits.modes (c.limits.parentheses - 1))) (λ fs h. behind (a_mark _) (λ _. behind (a_mark _) (λ _. it h)))))))

  data_words : (x : At × Bool) → Ranged (line.data_brick c x) Words
  data_words x = behind (a_word _) (λ _. behind (an_ident c.total) (λ n. behind (a_mark _) (λ _. thn (turned push _ LineWords LinesWords data_line_words (λ ls l k f. all_push words_in_line ls l k f) refl) (λ ls h.
      behind (a_word _) (λ _. behind (a_mark _) (λ _. it h))))))

  stack_words : (x : At × Bool) → Ranged (line.stack_brick c x) Words
  stack_words x = behind (a_word _) (λ _. behind (an_ident c.total) (λ n. thn a_number (λ words h. behind (a_mark _) (λ _. it h))))

  opens_counts : Counts 0 (line.opens c) (λ _. 1)
  opens_counts = counts_then (a_place c.total) (λ at. counts_then (opened c.limits.modes (a_word _)) (λ _. done (omega arith)))

  parameters_words : Ranged (line.parameters c) AllFieldsWords
  parameters_words = behind (opened c.limits.parentheses (a_mark _)) (λ _.
      thn {P = AllFieldsWords} (or_else (some_fields_words c _ (written_words c (c.limits.modes - 1) (c.limits.parentheses - 1)) c.limits.parameters) (it refl)) (λ fs k. behind (a_mark _) (λ _. it k)))

  answer_words : Ranged (line.answer c) ModeWords
  answer_words = begun begins_result (written_words c (c.limits.modes - 1) c.limits.parentheses)

  closing_words : Ranged (line.closing c) (λ x. BodyWords x.0)
  closing_words = behind (a_mark _) (λ _. thn (derived_body_words c) (λ b h. behind (a_place c.total) (λ at. behind (a_word _) (λ _. behind (a_mark _) (λ _. it h)))))

  result_first_words : (x : At × Bool) (at : At) → Ranged (line.result_first c x at) Words
  result_first_words x at = thn answer_words (λ r g. behind (an_ident c.total) (λ n. thn parameters_words (λ fs k. thn closing_words (λ b h.
      it (both (all (map words_in_fields fs)) (words_in_mode r && words_in_body b.0) k (both (words_in_mode r) (words_in_body b.0) g h))))))

  name_first_words : (x : At × Bool) (at : At) → Ranged (line.name_first c x at) Words
  name_first_words x at = behind (an_ident c.total) (λ n. thn parameters_words (λ fs k. thn {P = ResultWords} (maybe answer_words (λ w e. e) refl) (λ r g. thn closing_words (λ b h.
      it (both (all (map words_in_fields fs)) (words_in_result r && words_in_body b.0) k (both (words_in_result r) (words_in_body b.0) g h))))))

  imported_line_words : Ranged (line.imported_line c) FieldsWords
  imported_line_words = behind (a_place c.total) (λ at. thn mode_words (λ md h. behind (names_count c) (λ ns. behind (a_mark _) (λ _. it h))))

  imported_procedures_words : (from : Import) (at : At) → Ranged (line.imported_procedures c from at) Words
  imported_procedures_words from at = thn (proc_mode_words c c.limits.modes c.limits.parentheses) (λ md h. behind (names_count c) (λ ns. behind (a_mark _) (λ _. it h)))

  imported_data_words : (from : Import) (at : At) → Ranged (line.imported_data c from at) Words
  imported_data_words from at = behind (a_word _) (λ _. behind (an_ident c.total) (λ n. behind (a_mark _) (λ _. thn (turned push _ FieldsWords AllFieldsWords imported_line_words (λ ls l k f. all_push words_in_fields ls l k f) refl) (λ ls h.
      behind (a_word _) (λ _. behind (a_mark _) (λ _. it h))))))

  imported_stacks_words : (at : At) → Ranged (line.imported_stacks c at) Words
  imported_stacks_words at = behind (a_word _) (λ _. behind (names_count c) (λ ns. behind (a_mark _) (λ _. it refl)))

  at_word_counts : (w : Word) → Counts 0 (line.at_word c w) (λ _. 1)
  at_word_counts w = counts_then (a_place c.total) (λ at. counts_then (a_word w) (λ _. done (omega arith)))

  -- ---- the lines

  own_words : Ranged (line.own_brick c) Words
  own_words = or_else (behind (own_counts c) (λ x. data_words x)) (or_else (behind (own_counts c) (λ x. stack_words x))
      (or_else (behind (own_counts c) (λ x. behind opens_counts (λ at. result_first_words x at))) (behind (own_counts c) (λ x. behind opens_counts (λ at. name_first_words x at)))))

  external_words : Ranged (line.external_bricks c) Words
  external_words = or_else (behind (at_word_counts _) (λ at. imported_procedures_words _ at)) (or_else (behind (at_word_counts _) (λ at. imported_data_words _ at)) (behind (at_word_counts _) (λ at. imported_stacks_words at)))

  service_words : Ranged (line.service_bricks c) Words
  service_words = or_else (behind (at_word_counts _) (λ at. imported_procedures_words _ at)) (behind (at_word_counts _) (λ at. imported_data_words _ at))

  declaration_words : Ranged (line.declaration c) Words
  declaration_words = or_else record_words (or_else external_words (or_else service_words own_words))

  module_words : Ranged (modules.module_of c) (λ x. AllByRecursion Words x.declarations)
  module_words = behind (a_place c.total) (λ at. behind (a_word _) (λ _. behind (an_ident c.total) (λ n. behind semicolon_counts (λ _. behind (options_count c) (λ _.
      thn (turned push (line.declaration c) Words (AllByRecursion Words) declaration_words (λ xs x k g. one_more Words xs x k g) tt) (λ ds k. it k))))))

pub numbers_are_words : NumbersAreWords
unfolding Derives
numbers_are_words items x range derived = ((module_words (in_list items language_limits)).holds items [] x range derived).1
