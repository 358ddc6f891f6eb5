-- The parser of each line of declarations is right for its line.
use Rattle.std.proofs.Common.{◌≡◌, ◌≢◌, ℕ, ◌-◌, Bool, true, false, if◌then◌else◌, List, [], ◌∷◌, Option, Some, None, ◌⊎◌, inl, inr, refl, sym, subst, arith}
use Rattle.rt_pieces.specs.declared.item.Item.{Item}
use Rattle.rt_pieces.specs.declared.item.Mark.TheVariants as m
use Rattle.rt_pieces.specs.declared.item.Word.{Word}
use Rattle.rt_pieces.specs.declared.item.Word.TheVariants as w
use Rattle.rt_grammar.specs.declared.at.At.{At}
use Rattle.rt_grammar.specs.declared.at.Ident.{Ident}
use Rattle.rt_grammar.specs.declared.next.Next.{Next}
use Rattle.rt_grammar.specs.declared.next.Next.TheVariants as next
use Rattle.rt_grammar.specs.Parts.{Part, next_of}
use Rattle.rt_grammar.specs.Parts as part
use Rattle.rt_grammar.specs.Parsing.{same_word, is_mark, is_word, is_name}
use Rattle.rt_grammar.specs.Parsing as parse
use Rattle.rt_grammar.proofs.Numbers.{next_no, no, word_no, Goes, In, in_range, or_in, or_tells, range_tells, told, goes_true, mark_goes, word_goes, name_goes}
use Rattle.rt_grammar.proofs.Good.{Good, weaken, seq, good_equal, good_nothing, good_here, good_within}
use Rattle.rt_grammar.proofs.OneItem.{good_mark, good_word, good_number, good_ident}
use Rattle.rt_grammar.proofs.Choices.{good_choose, good_optional, good_turns, good_up_to, good_after_mark}
use Rattle.rt_grammar.proofs.Wider.{Same, good_same, factored, good_starting}
use Rattle.rt_syntax_exprs.specs.declared.limits.Context.{Context}
use Rattle.rt_syntax_exprs.specs.declared.tree.WrittenMode.{WrittenMode}
use Rattle.rt_syntax_exprs.specs.declared.tree.WrittenMode.TheVariants as written
use Rattle.rt_syntax_exprs.specs.Tables.{begins_result, begins_mode, begins_mode_by_word}
use Rattle.rt_syntax_exprs.specs.Modes as modes
use Rattle.rt_syntax_exprs.specs.ModeParser as mode_reads
use Rattle.rt_syntax_exprs.proofs.ExpressionLines.{NoLink}
use Rattle.rt_syntax_exprs.proofs.ModeLines as mode_lines
use Rattle.rt_syntax.proofs.StatementLines as statements
use Rattle.rt_bricks.specs.declared.tree.Import.{Import}
use Rattle.rt_bricks.specs.declared.tree.Import.TheVariants as import
use Rattle.rt_bricks.specs.declared.tree.Declaration.{Declaration}
use Rattle.rt_bricks.specs.declared.fields.Field.{Field}
use Rattle.rt_bricks.specs.Tables.{begins_declaration}
use Rattle.rt_bricks.specs.Declarations as line
use Rattle.rt_bricks.specs.DeclarationParser as reads
use Rattle.rt_bricks.proofs.Factors.{factored_more}
use Rattle.rt_bricks.specs.Starts as start_line
use Rattle.rt_bricks.proofs.StartLines.{good_start}

-- ---- what begins declarations, by numbers: PROC, MODE DATA, STACK ENT EXT SVC

abbrev pub First : ℕ → Type 0
First c = In 61 61 c ⊎ (In 82 83 c ⊎ In 85 88 c)

declaration_same : (n : Next) → begins_declaration n ≡ or_in (in_range 61 61) (or_in (in_range 82 83) (in_range 85 88)) (next_no n)
unfolding begins_declaration
declaration_same (next.Mark m.Plus) = refl
declaration_same (next.Word w.Abs) = refl
declaration_same _ = refl

pub declaration_goes : (n : Next) → Goes begins_declaration First n
declaration_goes = told begins_declaration _ First (or_tells _ _ _ _ (range_tells 61 61) (or_tells _ _ _ _ (range_tells 82 83) (range_tells 85 88))) declaration_same

-- ---- fields

-- a field as it was read
abbrev field_as : At → Option WrittenMode → Ident → Field
field_as at md n = record { mode = md; name = n; at = at }

module _ (c : Context) (levels parentheses : ℕ) where
  -- a mode, and a mode that begins with a reserved word
  abbrev mode : Part WrittenMode
  mode = modes.written_mode c levels parentheses

  abbrev by_word : Part WrittenMode
  by_word = mode_lines.by_word c levels parentheses (mode_reads.inside c levels) (modes.inside c levels) (λ i j. mode_lines.good_inside c levels i j) c.limits.references

  word_first : (l q : List Item) (a : WrittenMode) → by_word.Fits l q a → mode_lines.FirstByWord (no l)
  word_first l q a other = elim ((mode_lines.good_by_word c levels parentheses (mode_reads.inside c levels) (modes.inside c levels) (λ i j. mode_lines.good_inside c levels i j) c.limits.references).starts l q a other) [
    | inl h ↦ absurd h.1
    | inr h ↦ h.0
  ]

  word_begun : (l r : List Item) → by_word.Begins l r → (l ≡ r) ⊎ mode_lines.FirstByWord (no l)
  word_begun l r other = (mode_lines.good_by_word c levels parentheses (mode_reads.inside c levels) (modes.inside c levels) (λ i j. mode_lines.good_inside c levels i j) c.limits.references).begun l r other

  good_mode : Good (mode_reads.written_mode c levels parentheses) mode mode_lines.First mode_lines.After ⊥
  good_mode = mode_lines.good_written_mode c levels parentheses

  good_first_field : Good (reads.first_field c levels parentheses) (line.first_field c mode) mode_lines.First (λ _. Unit {0}) ⊥
  unfolding reads.first_field
  good_first_field = weaken mode_lines.First (λ _. Unit {0}) ⊥
      (seq (good_here c.total) (λ at. seq good_mode (λ md. seq (good_ident c.total) (λ n. good_nothing _) (λ n h. tt)) (λ n h. grind arith)) (λ n h. tt))
      (λ n h. grind arith) (λ n h. grind arith) (λ h. h.1.0)

  -- what the parser of a further field reads: a name that another name may follow, or a reserved word's mode
  module _ (at : At) where
    abbrev name_after : Option WrittenMode → Part Field
    name_after md = part.◌>>=◌ (part.ident c.total) (λ n. part.nothing (field_as at md n))

    abbrev field_by_name : Part Field
    field_by_name = part.◌>>=◌ (part.ident c.total) (λ n. part.either (name_after (Some (written.Name n))) (part.nothing (field_as at None n)))

    abbrev field_by_mode : Part Field
    field_by_mode = part.◌>>=◌ (part.starting begins_mode_by_word mode) (λ md. name_after (Some md))

    abbrev field_by_either : Part Field
    field_by_either = part.either field_by_name field_by_mode

    -- [mode] name
    abbrev field_behind : Part Field
    field_behind = part.◌>>=◌ (part.optional mode) (λ md. name_after md)

    good_name_after : (md : Option WrittenMode) → Good (parse.◌>>=◌ (parse.ident c.total) (λ n. parse.pure (field_as at md n))) (name_after md) (λ n. n ≡ 12) (λ _. Unit {0}) ⊥
    good_name_after md = weaken (λ n. n ≡ 12) (λ _. Unit {0}) ⊥ (seq (good_ident c.total) (λ n. good_nothing _) (λ n h. tt)) (λ n h. grind arith) (λ n h. grind arith) (λ h. h.0)

    good_by_name : Good (reads.field_by_name c at) field_by_name (λ n. n ≡ 12) (λ n. n ≢ 12) ⊥
    unfolding reads.field_by_name
    good_by_name = weaken (λ n. n ≡ 12) (λ n. n ≢ 12) ⊥
        (seq (good_ident c.total) (λ n. good_choose is_name (good_name_after (Some (written.Name n))) (good_nothing _) name_goes (λ n h k. k)) (λ n h. tt))
        (λ n h. grind arith) (λ n h. grind arith) (λ h. h.0)

    good_by_mode : Good (reads.field_by_mode c levels parentheses at) field_by_mode mode_lines.FirstByWord (λ _. Unit {0}) ⊥
    unfolding reads.field_by_mode
    good_by_mode = weaken mode_lines.FirstByWord (λ _. Unit {0}) ⊥
        (seq (good_starting begins_mode_by_word (mode_reads.written_mode c levels parentheses) mode mode_lines.First mode_lines.After mode_lines.FirstByWord good_mode (goes_true begins_mode_by_word mode_lines.FirstByWord mode_lines.by_word_goes))
        (λ md. good_name_after (Some md)) (λ n h. grind arith))
        (λ n h. grind arith) (λ n h. grind arith) (λ h. h.0)

    -- what begins with a reserved word passes the test
    tested : (l : List Item) → mode_lines.FirstByWord (no l) → begins_mode_by_word (next_of l) ≡ true
    tested l h = elim (mode_lines.by_word_goes (next_of l)) [ inl y ↦ y.0 | inr y ↦ absurd (y.1 h) ]

    word_tested : (l q : List Item) (a : WrittenMode) → by_word.Fits l q a → begins_mode_by_word (next_of l) ≡ true
    word_tested l q a other = tested l (word_first l q a other)

    -- a mode, and what is behind it
    mode_fits : (l q r : List Item) (a : WrittenMode) (f : Field) → mode.Fits l q a → (name_after (Some a)).Fits q r f → field_by_either.Fits l r f
    mode_fits l q r a f (inl named) x =
        let behind : (name_after (Some a)).Fits named.0 r f = subst (λ (t : List Item). (name_after (Some a)).Fits t r f) (sym named.3.0) x in
        inl (named.0, named.1, named.2, inl (subst (λ (t : WrittenMode). (name_after (Some t)).Fits named.0 r f) named.3.1 behind))
    mode_fits l q r a f (inr other) x = inr (q, a, (inr other, word_tested l q a other), x)

    -- one name, which means the same whatever mode it was read with
    name_fits : (l r : List Item) (f : Field) → (name_after None).Fits l r f → field_by_either.Fits l r f
    name_fits l r f x = inl (x.0, x.1, x.2, inr x.3)

    behind_fits : (l q r : List Item) (md : Option WrittenMode) (f : Field) → (part.optional mode).Fits l q md → (name_after md).Fits q r f → field_by_either.Fits l r f
    behind_fits l q r md f (inl some) x =
        let there : (name_after md).Fits some.0 r f = subst (λ (t : List Item). (name_after md).Fits t r f) (sym some.3.0) x in
        mode_fits l some.0 r some.1 f some.2 (subst (λ (t : Option WrittenMode). (name_after t).Fits some.0 r f) some.3.1 there)
    behind_fits l q r md f (inr none) x =
        let there : (name_after md).Fits l r f = subst (λ (t : List Item). (name_after md).Fits t r f) (sym none.0) x in
        name_fits l r f (subst (λ (t : Option WrittenMode). (name_after t).Fits l r f) none.1 there)

    either_fits : (l r : List Item) (f : Field) → field_by_either.Fits l r f → field_behind.Fits l r f
    either_fits l r f (inl x) = elim x.3 [
      | inl two ↦ (x.0, Some (written.Name x.1), inl (x.0, written.Name x.1, inl (x.0, x.1, x.2, (refl, refl)), (refl, refl)), two)
      | inr alone ↦ (l, None, inr (refl, refl), (x.0, x.1, x.2, alone))
    ]
    either_fits l r f (inr x) = (x.0, Some x.1, inl (x.0, x.1, x.2.0, (refl, refl)), x.3)

    mode_begun : (l r : List Item) → mode.Begins l r → field_by_either.Begins l r
    mode_begun l r (inl named) = elim named [ inl b ↦ inl (inl b) | inr x ↦ inl (inr (x.0, x.1, x.2, inr x.3)) ]
    mode_begun l r (inr other) = elim (word_begun l r other) [
      | inl same ↦ inr (inl (inl same))
      | inr h ↦ inr (inl (inr (inr other, tested l h)))
    ]

    -- a mode, and what begins behind it
    mode_begins : (l q r : List Item) (a : WrittenMode) → mode.Fits l q a → (name_after (Some a)).Begins q r → field_by_either.Begins l r
    mode_begins l q r a (inl named) x =
        inl (inr (named.0, named.1, named.2, inl (subst (λ (t : List Item). (name_after (Some a)).Begins t r) (sym named.3.0) x)))
    mode_begins l q r a (inr other) x = inr (inr (q, a, (inr other, word_tested l q a other), x))

    name_begins : (l r : List Item) → (name_after None).Begins l r → field_by_either.Begins l r
    name_begins l r (inl b) = inl (inl b)
    name_begins l r (inr x) = inl (inr (x.0, x.1, x.2, inr x.3))

    behind_begins : (l q r : List Item) (md : Option WrittenMode) → (part.optional mode).Fits l q md → (name_after md).Begins q r → field_by_either.Begins l r
    behind_begins l q r md (inl some) x = mode_begins l some.0 r some.1 some.2 (subst (λ (t : List Item). (name_after md).Begins t r) (sym some.3.0) x)
    behind_begins l q r md (inr none) x = name_begins l r (subst (λ (t : List Item). (name_after md).Begins t r) (sym none.0) x)

    optional_begins : (l r : List Item) → (part.optional mode).Begins l r → field_by_either.Begins l r
    optional_begins l r (inl some) = elim some [
      | inl b ↦ mode_begun l r b
      | inr x ↦ mode_begun l r (subst (λ (t : List Item). mode.Begins l t) x.3 (good_mode.begins l x.0 x.1 x.2))
    ]
    optional_begins l r (inr same) = inr (inl (inl same))

    either_begins : (l r : List Item) → field_by_either.Begins l r → field_behind.Begins l r
    either_begins l r (inl x) = elim x [
      | inl b ↦ inr (l, None, inr (refl, refl), inl b)
      | inr y ↦ elim y.3 [
        | inl two ↦ inr (y.0, Some (written.Name y.1), inl (y.0, written.Name y.1, inl (y.0, y.1, y.2, (refl, refl)), (refl, refl)), two)
        | inr alone ↦ inr (l, None, inr (refl, refl), inr (y.0, y.1, y.2, alone))
      ]
    ]
    either_begins l r (inr x) = elim x [
      | inl b ↦ elim b [ inl same ↦ inl (inr same) | inr y ↦ inl (inl (inl y.0)) ]
      | inr y ↦ inr (y.0, Some y.1, inl (y.0, y.1, y.2.0, (refl, refl)), y.3)
    ]

    same_field : Same field_by_either field_behind
    same_field = record {
      fits = either_fits;
      fits_back = λ l r f x. behind_fits l x.0 r x.1 f x.2 x.3;
      begins = either_begins;
      begins_back = λ l r. elim [ inl b ↦ optional_begins l r b | inr x ↦ behind_begins l x.0 r x.1 x.2 x.3 ];
    }

    good_behind : Good (parse.choose is_name (reads.field_by_name c at) (reads.field_by_mode c levels parentheses at)) field_behind mode_lines.First (λ n. n ≢ 12) ⊥
    good_behind = weaken mode_lines.First (λ n. n ≢ 12) ⊥
        (good_same same_field (good_choose is_name good_by_name good_by_mode name_goes (λ n h k. grind arith)))
        (λ n h. grind arith) (λ n h. (h, tt, λ e. absurd e)) (λ h. h)

  good_next_field : Good (reads.next_field c levels parentheses) (part.◌>>=◌ (part.mark m.Comma) (λ _. line.next_field c mode)) (λ n. n ≡ 9) (λ n. n ≢ 12) ⊥
  unfolding reads.next_field
  good_next_field = good_after_mark m.Comma
      (weaken mode_lines.First (λ n. n ≢ 12) ⊥ (seq (good_here c.total) good_behind (λ n h. tt)) (λ n h. grind arith) (λ n h. grind arith) (λ h. h.1))

  good_fields : Good (reads.fields c levels parentheses) (line.fields c mode) mode_lines.First (λ n. n ≡ 8) ⊥
  unfolding reads.fields reads.more_fields
  good_fields = weaken mode_lines.First (λ n. n ≡ 8) ⊥
      (seq good_first_field (λ first. seq
      (good_turns (parse.mark_comes m.Comma) line.with_field _ _ _ _ good_next_field (λ l. mark_goes m.Comma (next_of l)) (λ n h. grind arith) (λ h. omega arith) first)
      (λ all. good_nothing _) (λ n h. absurd h)) (λ n h. tt))
      (λ n h. grind arith) (λ n h. grind arith) (λ h. h.0)

  good_fields_up_to : (n : ℕ) → Good (reads.fields_up_to c levels parentheses n) (line.fields_up_to c n mode) mode_lines.First (λ n. n ≡ 8) ⊥
  unfolding reads.fields_up_to reads.more_fields
  good_fields_up_to n = weaken mode_lines.First (λ n. n ≡ 8) ⊥
      (seq good_first_field (λ first. seq
      (good_up_to (n - 1) (is_mark m.Comma) line.with_field good_next_field (mark_goes m.Comma) (λ n h. grind arith) first)
      (λ all. good_nothing _) (λ n h. absurd h)) (λ n h. tt))
      (λ n h. grind arith) (λ n h. grind arith) (λ h. h.0)

-- ---- MODE

good_record_mode : (c : Context) → Good (reads.record_mode c) (line.record_mode c) (λ n. n ≡ 82) (λ _. Unit {0}) ⊥
unfolding reads.record_mode
good_record_mode c = weaken (λ n. n ≡ 82) (λ _. Unit {0}) ⊥
    (seq (good_here c.total) (λ at. seq (good_word w.Mode) (λ _. seq (good_ident c.total) (λ n. seq (good_within c.limits.parentheses (good_mark m.Open)) (λ _.
    seq (good_fields c c.limits.modes (c.limits.parentheses - 1)) (λ fs. seq (good_mark m.Close) (λ _. seq (good_mark m.Semicolon) (λ _. good_nothing _)
    (λ n h. tt)) (λ n h. tt)) (λ n h. grind arith)) (λ n h. tt)) (λ n h. tt)) (λ n h. tt)) (λ n h. tt))
    (λ n h. grind arith) (λ n h. grind arith) (λ h. h.1.0)

-- ---- bricks of the module

-- [ENT]
abbrev ent : Part Bool
ent = part.either (part.◌>>=◌ (part.word w.Ent) (λ _. part.nothing true)) (part.nothing false)

good_entry : Good reads.entry ent (λ n. n ≡ 86) (λ n. n ≢ 86) (Unit {0})
unfolding reads.entry
good_entry = weaken (λ n. n ≡ 86) (λ n. n ≢ 86) (Unit {0})
    (good_choose (is_word w.Ent)
    (weaken (λ n. n ≡ 86) (λ _. Unit {0}) ⊥ (seq (good_word w.Ent) (λ _. good_nothing true) (λ n h. tt)) (λ n h. grind arith) (λ n h. grind arith) (λ h. h.0))
    (good_nothing false) (word_goes w.Ent) (λ n h k. k))
    (λ n h. grind arith) (λ n h. (tt, tt, λ _. h)) (λ h. h)

good_own : (c : Context) → Good (reads.own c) (line.own c) (λ n. n ≡ 86) (λ n. n ≢ 86) (Unit {0})
unfolding reads.own
good_own c = weaken (λ n. n ≡ 86) (λ n. n ≢ 86) (Unit {0})
    (seq (good_here c.total) (λ at. seq good_entry (λ entry. good_nothing _) (λ n h. absurd h)) (λ n h. tt))
    (λ n h. grind arith) (λ n h. grind arith) (λ h. tt)

good_any_mode : (c : Context) → Good (reads.mode c) (line.mode c) mode_lines.First mode_lines.After ⊥
unfolding reads.mode
good_any_mode c = mode_lines.good_written_mode c c.limits.modes c.limits.parentheses

good_any_start : (c : Context) → Good (reads.any_start c) (part.optional (part.◌>>=◌ (part.mark m.Becomes) (λ _. start_line.start c))) (λ n. n ≡ 34) (λ n. NoLink n × (n ≢ 34)) (Unit {0})
unfolding reads.any_start
good_any_start c = good_optional (is_mark m.Becomes) (good_after_mark m.Becomes (good_start c)) (mark_goes m.Becomes)

good_data_item : (c : Context) → Good (reads.data_item c) (line.data_item c) (λ n. n ≡ 12) (λ n. NoLink n × (n ≢ 34)) ⊥
unfolding reads.data_item
good_data_item c = weaken (λ n. n ≡ 12) (λ n. NoLink n × (n ≢ 34)) ⊥
    (seq (good_ident c.total) (λ n. seq (good_any_start c) (λ st. good_nothing _) (λ n h. absurd h)) (λ n h. tt))
    (λ n h. grind arith) (λ n h. grind arith) (λ h. h.0)

good_next_data_item : (c : Context) → Good (reads.next_data_item c) (part.◌>>=◌ (part.mark m.Comma) (λ _. line.data_item c)) (λ n. n ≡ 9) (λ n. NoLink n × (n ≢ 34)) ⊥
unfolding reads.next_data_item
good_next_data_item c = good_after_mark m.Comma (good_data_item c)

good_data_items : (c : Context) → Good (reads.data_items c) (line.data_items c) (λ n. n ≡ 12) (λ n. n ≡ 1) ⊥
unfolding reads.data_items
good_data_items c = weaken (λ n. n ≡ 12) (λ n. n ≡ 1) ⊥
    (seq (good_data_item c) (λ first. good_turns (parse.mark_comes m.Comma) part.push _ _ _ _ (good_next_data_item c) (λ l. mark_goes m.Comma (next_of l)) (λ n h. grind arith) (λ h. omega arith) (first ∷ [])) (λ n h. grind arith))
    (λ n h. grind arith) (λ n h. grind arith) (λ h. h.0)

good_data_line : (c : Context) → Good (reads.data_line c) (line.data_line c) mode_lines.First (λ _. Unit {0}) ⊥
unfolding reads.data_line
good_data_line c = weaken mode_lines.First (λ _. Unit {0}) ⊥
    (seq (good_here c.total) (λ at. seq (good_any_mode c) (λ md. seq (good_data_items c) (λ all. seq (good_mark m.Semicolon) (λ _. good_nothing _) (λ n h. tt)) (λ n h. grind arith)) (λ n h. grind arith)) (λ n h. tt))
    (λ n h. grind arith) (λ n h. grind arith) (λ h. h.1.0)

good_data_lines : (c : Context) → Good (reads.data_lines c) (part.turns part.push [] (line.data_line c)) mode_lines.First (λ n. mode_lines.First n → ⊥) (Unit {0})
unfolding reads.data_lines
good_data_lines c = weaken mode_lines.First (λ n. mode_lines.First n → ⊥) (Unit {0})
    (good_turns reads.mode_comes part.push _ _ _ _ (good_data_line c) (λ l. mode_lines.mode_goes (next_of l)) (λ n h. tt) (λ h. grind arith) [])
    (λ n h. h) (λ n h. (tt, h)) (λ h. h)

good_data_brick : (c : Context) (x : At × Bool) → Good (reads.data_brick c x) (line.data_brick c x) (λ n. n ≡ 83) (λ _. Unit {0}) ⊥
unfolding reads.data_brick
good_data_brick c x = weaken (λ n. n ≡ 83) (λ _. Unit {0}) ⊥
    (seq (good_word w.Data) (λ _. seq (good_ident c.total) (λ n. seq (good_mark m.Semicolon) (λ _. seq (good_data_lines c) (λ ls. seq (good_word w.EndData) (λ _. seq (good_mark m.Semicolon) (λ _. good_nothing _)
    (λ n h. tt)) (λ n h. tt)) (λ n h. grind arith)) (λ n h. tt)) (λ n h. tt)) (λ n h. tt))
    (λ n h. grind arith) (λ n h. grind arith) (λ h. h.0)

good_stack_brick : (c : Context) (x : At × Bool) → Good (reads.stack_brick c x) (line.stack_brick c x) (λ n. n ≡ 85) (λ _. Unit {0}) ⊥
unfolding reads.stack_brick
good_stack_brick c x = weaken (λ n. n ≡ 85) (λ _. Unit {0}) ⊥
    (seq (good_word w.Stack) (λ _. seq (good_ident c.total) (λ n. seq good_number (λ words. seq (good_mark m.Semicolon) (λ _. good_nothing _) (λ n h. tt)) (λ n h. tt)) (λ n h. tt)) (λ n h. tt))
    (λ n h. grind arith) (λ n h. grind arith) (λ h. h.0)

good_any_parameters : (c : Context) → Good (reads.any_parameters c)
    (part.either (line.fields_up_to c c.limits.parameters (modes.written_mode c (c.limits.modes - 1) (c.limits.parentheses - 1))) (part.nothing [])) mode_lines.First (λ n. n ≡ 8) (Unit {0})
unfolding reads.any_parameters
good_any_parameters c = weaken mode_lines.First (λ n. n ≡ 8) (Unit {0})
    (good_choose begins_mode (good_fields_up_to c (c.limits.modes - 1) (c.limits.parentheses - 1) c.limits.parameters) (good_nothing []) mode_lines.mode_goes (λ n h k. k))
    (λ n h. grind arith) (λ n h. (h, tt, λ _ k. grind arith)) (λ h. h)

good_parameters : (c : Context) → Good (reads.parameters c) (line.parameters c) (λ n. n ≡ 11) (λ _. Unit {0}) ⊥
unfolding reads.parameters
good_parameters c = weaken (λ n. n ≡ 11) (λ _. Unit {0}) ⊥
    (seq (good_within c.limits.parentheses (good_mark m.Open)) (λ _. seq (good_any_parameters c) (λ fs. seq (good_mark m.Close) (λ _. good_nothing _) (λ n h. tt)) (λ n h. grind arith)) (λ n h. tt))
    (λ n h. grind arith) (λ n h. grind arith) (λ h. h.0)

good_answer : (c : Context) → Good (reads.answer c) (line.answer c) mode_lines.FirstResult mode_lines.After ⊥
unfolding reads.answer
good_answer c = weaken mode_lines.FirstResult mode_lines.After ⊥
    (good_starting begins_result (mode_reads.written_mode c (c.limits.modes - 1) c.limits.parentheses) (modes.written_mode c (c.limits.modes - 1) c.limits.parentheses) mode_lines.First mode_lines.After mode_lines.FirstResult
    (mode_lines.good_written_mode c (c.limits.modes - 1) c.limits.parentheses) (goes_true begins_result mode_lines.FirstResult mode_lines.result_goes))
    (λ n h. h.1) (λ n h. h) (λ h. h)

good_any_answer : (c : Context) → Good (reads.any_answer c) (part.optional (line.answer c)) mode_lines.FirstResult mode_lines.After (Unit {0})
unfolding reads.any_answer
good_any_answer c = weaken mode_lines.FirstResult mode_lines.After (Unit {0}) (good_optional begins_result (good_answer c) mode_lines.result_goes) (λ n h. h) (λ n h. (h, h)) (λ h. h)

good_closing : (c : Context) → Good (reads.closing c) (line.closing c) (λ n. n ≡ 1) (λ _. Unit {0}) ⊥
unfolding reads.closing
good_closing c = weaken (λ n. n ≡ 1) (λ _. Unit {0}) ⊥
    (seq (good_mark m.Semicolon) (λ _. seq (statements.good_body c) (λ b. seq (good_here c.total) (λ at. seq (good_word w.EndProc) (λ _. seq (good_mark m.Semicolon) (λ _. good_nothing _)
    (λ n h. tt)) (λ n h. tt)) (λ n h. tt)) (λ n h. grind arith)) (λ n h. tt))
    (λ n h. grind arith) (λ n h. grind arith) (λ h. h.0)

good_result_first : (c : Context) (x : At × Bool) (at : At) → Good (reads.result_first c x at) (line.result_first c x at) mode_lines.FirstResult (λ _. Unit {0}) ⊥
unfolding reads.result_first
good_result_first c x at = weaken mode_lines.FirstResult (λ _. Unit {0}) ⊥
    (seq (good_answer c) (λ r. seq (good_ident c.total) (λ n. seq (good_parameters c) (λ fs. seq (good_closing c) (λ b. good_nothing _) (λ n h. tt)) (λ n h. tt)) (λ n h. tt)) (λ n h. grind arith))
    (λ n h. grind arith) (λ n h. grind arith) (λ h. h.0)

good_name_first : (c : Context) (x : At × Bool) (at : At) → Good (reads.name_first c x at) (line.name_first c x at) (λ n. n ≡ 12) (λ _. Unit {0}) ⊥
unfolding reads.name_first
good_name_first c x at = weaken (λ n. n ≡ 12) (λ _. Unit {0}) ⊥
    (seq (good_ident c.total) (λ n. seq (good_parameters c) (λ fs. seq (good_any_answer c) (λ r. seq (good_closing c) (λ b. good_nothing _) (λ n h. tt)) (λ n h. grind arith)) (λ n h. tt)) (λ n h. tt))
    (λ n h. grind arith) (λ n h. grind arith) (λ h. h.0)

good_opens : (c : Context) → Good (reads.opens c) (line.opens c) (λ n. n ≡ 61) (λ _. Unit {0}) ⊥
unfolding reads.opens
good_opens c = weaken (λ n. n ≡ 61) (λ _. Unit {0}) ⊥
    (seq (good_here c.total) (λ at. seq (good_within c.limits.modes (good_word w.Proc)) (λ _. good_nothing at) (λ n h. tt)) (λ n h. tt))
    (λ n h. grind arith) (λ n h. grind arith) (λ h. h.1.0)

-- the two lines of a procedure behind [ENT]
abbrev procedures : Context → At × Bool → Part Declaration
procedures c x = part.either (part.◌>>=◌ (line.opens c) (line.result_first c x)) (part.◌>>=◌ (line.opens c) (line.name_first c x))

good_procedure_brick : (c : Context) (x : At × Bool) → Good (reads.procedure_brick c x) (procedures c x) (λ n. n ≡ 61) (λ _. Unit {0}) ⊥
unfolding reads.procedure_brick
good_procedure_brick c x = weaken (λ n. n ≡ 61) (λ _. Unit {0}) ⊥
    (good_same (factored (line.opens c) (line.result_first c x) (line.name_first c x))
    (seq (good_opens c) (λ at. good_choose begins_result (good_result_first c x at) (good_name_first c x at) mode_lines.result_goes (λ n h k. grind arith)) (λ n h. tt)))
    (λ n h. grind arith) (λ n h. ((tt, tt, λ e. absurd e), λ _. tt)) (λ h. h.0)

own_by_tests : (c : Context) (x : At × Bool) (n : Next) (l : List Item) → reads.own_by c x n l
    ≡ (if is_word w.Data n then reads.data_brick c x l else (if is_word w.Stack n then reads.stack_brick c x l else reads.procedure_brick c x l))
unfolding same_word
own_by_tests c x (next.Word w.Data) l = refl
own_by_tests c x (next.Mark m.Dot) l = refl
own_by_tests c x _ l = refl

-- PROC, DATA, STACK ENT
abbrev FirstOwn : ℕ → Type 0
FirstOwn c = In 61 61 c ⊎ (In 83 83 c ⊎ In 85 86 c)

good_own_brick : (c : Context) → Good (reads.own_brick c) (line.own_brick c) FirstOwn (λ _. Unit {0}) ⊥
unfolding reads.own_brick
good_own_brick c = weaken FirstOwn (λ _. Unit {0}) ⊥
    (good_same (factored_more (line.own c) (line.data_brick c) (λ x. part.either (line.stack_brick c x) (procedures c x))
    (factored_more (line.own c) (line.stack_brick c) (procedures c)
    (factored (line.own c) (λ x. part.◌>>=◌ (line.opens c) (line.result_first c x)) (λ x. part.◌>>=◌ (line.opens c) (line.name_first c x)))))
    (seq (good_own c) (λ x. good_equal (λ l. own_by_tests c x (next_of l) l)
    (good_choose (is_word w.Data) (good_data_brick c x)
    (good_choose (is_word w.Stack) (good_stack_brick c x) (good_procedure_brick c x) (word_goes w.Stack) (λ n h k. grind arith))
    (word_goes w.Data) (λ n h k. grind arith))) (λ n h. grind arith)))
    (λ n h. grind arith) (λ n h. ((tt, (tt, tt, λ e. absurd e), λ e. absurd e), λ e. absurd e)) (λ h. h.1)

-- ---- bricks of other modules

good_at_word : (c : Context) (k : Word) → Good (reads.at_word c k) (line.at_word c k) (λ n. n ≡ word_no k) (λ _. Unit {0}) ⊥
unfolding reads.at_word
good_at_word c k = weaken (λ n. n ≡ word_no k) (λ _. Unit {0}) ⊥
    (seq (good_here c.total) (λ at. seq (good_word k) (λ _. good_nothing at) (λ n h. tt)) (λ n h. tt))
    (λ n. elim [ inl h ↦ absurd h | inr h ↦ elim h.1 [ inl k ↦ k | inr k ↦ absurd k.0 ] ]) (λ n h. ((tt, λ _. tt), λ _. tt)) (λ h. h.1.0)

good_imported_procedures : (c : Context) (from : Import) (at : At) → Good (reads.imported_procedures c from at) (line.imported_procedures c from at) (λ n. n ≡ 61) (λ _. Unit {0}) ⊥
unfolding reads.imported_procedures
good_imported_procedures c from at = weaken (λ n. n ≡ 61) (λ _. Unit {0}) ⊥
    (seq (mode_lines.good_procedure c c.limits.modes c.limits.parentheses (mode_reads.inside c c.limits.modes) (modes.inside c c.limits.modes) (λ i j. mode_lines.good_inside c c.limits.modes i j)) (λ md.
    seq (statements.good_names c) (λ ns. seq (good_mark m.Semicolon) (λ _. good_nothing _) (λ n h. tt)) (λ n h. grind arith)) (λ n h. grind arith))
    (λ n h. grind arith) (λ n h. grind arith) (λ h. h.0)

good_imported_line : (c : Context) → Good (reads.imported_line c) (line.imported_line c) mode_lines.First (λ _. Unit {0}) ⊥
unfolding reads.imported_line
good_imported_line c = weaken mode_lines.First (λ _. Unit {0}) ⊥
    (seq (good_here c.total) (λ at. seq (good_any_mode c) (λ md. seq (statements.good_names c) (λ ns. seq (good_mark m.Semicolon) (λ _. good_nothing _) (λ n h. tt)) (λ n h. grind arith)) (λ n h. grind arith)) (λ n h. tt))
    (λ n h. grind arith) (λ n h. grind arith) (λ h. h.1.0)

good_imported_lines : (c : Context) → Good (reads.imported_lines c) (part.turns part.push [] (line.imported_line c)) mode_lines.First (λ n. mode_lines.First n → ⊥) (Unit {0})
unfolding reads.imported_lines
good_imported_lines c = weaken mode_lines.First (λ n. mode_lines.First n → ⊥) (Unit {0})
    (good_turns reads.mode_comes part.push _ _ _ _ (good_imported_line c) (λ l. mode_lines.mode_goes (next_of l)) (λ n h. tt) (λ h. grind arith) [])
    (λ n h. h) (λ n h. (tt, h)) (λ h. h)

good_imported_data : (c : Context) (from : Import) (at : At) → Good (reads.imported_data c from at) (line.imported_data c from at) (λ n. n ≡ 83) (λ _. Unit {0}) ⊥
unfolding reads.imported_data
good_imported_data c from at = weaken (λ n. n ≡ 83) (λ _. Unit {0}) ⊥
    (seq (good_word w.Data) (λ _. seq (good_ident c.total) (λ n. seq (good_mark m.Semicolon) (λ _. seq (good_imported_lines c) (λ ls. seq (good_word w.EndData) (λ _. seq (good_mark m.Semicolon) (λ _. good_nothing _)
    (λ n h. tt)) (λ n h. tt)) (λ n h. grind arith)) (λ n h. tt)) (λ n h. tt)) (λ n h. tt))
    (λ n h. grind arith) (λ n h. grind arith) (λ h. h.0)

good_imported_stacks : (c : Context) (at : At) → Good (reads.imported_stacks c at) (line.imported_stacks c at) (λ n. n ≡ 85) (λ _. Unit {0}) ⊥
unfolding reads.imported_stacks
good_imported_stacks c at = weaken (λ n. n ≡ 85) (λ _. Unit {0}) ⊥
    (seq (good_word w.Stack) (λ _. seq (statements.good_names c) (λ ns. seq (good_mark m.Semicolon) (λ _. good_nothing _) (λ n h. tt)) (λ n h. grind arith)) (λ n h. tt))
    (λ n h. grind arith) (λ n h. grind arith) (λ h. h.0)

external_by_tests : (c : Context) (at : At) (n : Next) (l : List Item) → reads.external_by c at n l
    ≡ (if is_word w.Proc n then reads.imported_procedures c import.External at l else (if is_word w.Data n then reads.imported_data c import.External at l else reads.imported_stacks c at l))
unfolding same_word
external_by_tests c at (next.Word w.Proc) l = refl
external_by_tests c at (next.Mark m.Dot) l = refl
external_by_tests c at _ l = refl

good_external_bricks : (c : Context) → Good (reads.external_bricks c) (line.external_bricks c) (λ n. n ≡ 87) (λ _. Unit {0}) ⊥
unfolding reads.external_bricks
good_external_bricks c = weaken (λ n. n ≡ 87) (λ _. Unit {0}) ⊥
    (good_same (factored_more (line.at_word c w.Ext) (line.imported_procedures c import.External) (λ at. part.either (line.imported_data c import.External at) (line.imported_stacks c at))
    (factored (line.at_word c w.Ext) (line.imported_data c import.External) (line.imported_stacks c)))
    (seq (good_at_word c w.Ext) (λ at. good_equal (λ l. external_by_tests c at (next_of l) l)
    (good_choose (is_word w.Proc) (good_imported_procedures c import.External at)
    (good_choose (is_word w.Data) (good_imported_data c import.External at) (good_imported_stacks c at) (word_goes w.Data) (λ n h k. grind arith))
    (word_goes w.Proc) (λ n h k. grind arith))) (λ n h. tt)))
    (λ n h. grind arith) (λ n h. ((tt, (tt, tt, λ e. absurd e), λ e. absurd e), λ _. tt)) (λ h. h.0)

good_service_bricks : (c : Context) → Good (reads.service_bricks c) (line.service_bricks c) (λ n. n ≡ 88) (λ _. Unit {0}) ⊥
unfolding reads.service_bricks
good_service_bricks c = weaken (λ n. n ≡ 88) (λ _. Unit {0}) ⊥
    (good_same (factored (line.at_word c w.Svc) (line.imported_procedures c import.Service) (line.imported_data c import.Service))
    (seq (good_at_word c w.Svc) (λ at.
    good_choose (is_word w.Proc) (good_imported_procedures c import.Service at) (good_imported_data c import.Service at) (word_goes w.Proc) (λ n h k. grind arith)) (λ n h. tt)))
    (λ n h. grind arith) (λ n h. ((tt, tt, λ e. absurd e), λ _. tt)) (λ h. h.0)

-- ---- the lines

declaration_by_tests : (c : Context) (n : Next) (l : List Item) → reads.declaration_by c n l
    ≡ (if is_word w.Mode n then reads.record_mode c l else (if is_word w.Ext n then reads.external_bricks c l else (if is_word w.Svc n then reads.service_bricks c l else reads.own_brick c l)))
unfolding same_word
declaration_by_tests c (next.Word w.Mode) l = refl
declaration_by_tests c (next.Mark m.Dot) l = refl
declaration_by_tests c _ l = refl

pub good_declaration : (c : Context) → Good (reads.declaration c) (line.declaration c) First (λ _. Unit {0}) ⊥
unfolding reads.declaration
good_declaration c = weaken First (λ _. Unit {0}) ⊥
    (good_equal (λ l. declaration_by_tests c (next_of l) l)
    (good_choose (is_word w.Mode) (good_record_mode c)
    (good_choose (is_word w.Ext) (good_external_bricks c)
    (good_choose (is_word w.Svc) (good_service_bricks c) (good_own_brick c) (word_goes w.Svc) (λ n h k. grind arith))
    (word_goes w.Ext) (λ n h k. grind arith))
    (word_goes w.Mode) (λ n h k. grind arith)))
    (λ n h. grind arith) (λ n h. (tt, (tt, (tt, tt, λ e. absurd e), λ e. absurd e), λ e. absurd e)) (λ h. h)
