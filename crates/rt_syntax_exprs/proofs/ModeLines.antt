-- The parser of each line of modes is right for its line.
use Rattle.std.proofs.Common.{◌≡◌, ◌≢◌, ℕ, zero, suc, ◌-◌, true, false, if◌then◌else◌, List, [], ◌∷◌, ◌⊎◌, inl, inr, refl, ◌∙◌, arith}
use Rattle.rt_pieces.specs.declared.item.Item.{Item}
use Rattle.rt_pieces.specs.declared.item.Mark.TheVariants as m
use Rattle.rt_pieces.specs.declared.item.Word.TheVariants as w
use Rattle.rt_grammar.specs.declared.at.At.{At}
use Rattle.rt_grammar.specs.declared.next.Next.{Next}
use Rattle.rt_grammar.specs.declared.next.Next.TheVariants as next
use Rattle.rt_grammar.specs.Parts.{Part, next_of}
use Rattle.rt_grammar.specs.Parts as part
use Rattle.rt_grammar.specs.Parsing.{Parser, in_table, same_word, is_mark, is_word, is_name}
use Rattle.rt_grammar.specs.Parsing as parse
use Rattle.rt_grammar.proofs.Numbers.{next_no, Goes, In, in_range, or_in, or_tells, range_tells, told, goes_true, table_true, mark_goes, word_goes, name_goes}
use Rattle.rt_grammar.proofs.Good.{Good, weaken, seq, good_equal, good_nothing, good_never, good_here, good_within}
use Rattle.rt_grammar.proofs.OneItem.{good_mark, good_word, good_number, good_ident, good_listed_in}
use Rattle.rt_grammar.proofs.Choices.{good_choose, good_optional, good_up_to, good_after_mark}
use Rattle.rt_grammar.proofs.Wider.{good_starting}
use Rattle.rt_syntax_exprs.specs.declared.limits.Context.{Context}
use Rattle.rt_syntax_exprs.specs.declared.tree.WrittenMode.{WrittenMode}
use Rattle.rt_syntax_exprs.specs.declared.tree.WrittenMode.TheVariants as mode
use Rattle.rt_syntax_exprs.specs.Tables.{basic_of, begins_result, begins_mode, begins_mode_by_word, is_no_array}
use Rattle.rt_syntax_exprs.specs.Modes as line
use Rattle.rt_syntax_exprs.specs.ModeParser as reads

pub inside_again : (c : Context) (modes parentheses references : ℕ) (l : List Item) → (modes ≡ 0 → ⊥)
    → reads.inside c modes parentheses references l ≡ reads.mode_of c (modes - 1) parentheses (reads.inside c (modes - 1)) references l
unfolding reads.inside
inside_again c zero parentheses references l some = absurd (some refl)
inside_again c (suc n) parentheses references l some = let e : suc n - 1 ≡ n = omega arith in rw e refl

-- ---- what begins modes, by numbers: BYTE INT FRAC, REF PROC ARRAY LABEL, and a name

abbrev pub FirstByWord : ℕ → Type 0
FirstByWord c = In 19 21 c ⊎ In 60 63 c

abbrev pub First : ℕ → Type 0
First c = In 12 12 c ⊎ FirstByWord c

abbrev pub FirstResult : ℕ → Type 0
FirstResult c = In 19 21 c ⊎ In 60 61 c

abbrev FirstBasic : ℕ → Type 0
FirstBasic c = In 19 21 c ⊎ In 63 63 c

-- what follows a mode: no result
abbrev pub After : ℕ → Type 0
After c = FirstResult c → ⊥

basic_same : (n : Next) → in_table basic_of n ≡ or_in (in_range 19 21) (in_range 63 63) (next_no n)
unfolding basic_of
basic_same (next.Mark m.Plus) = refl
basic_same (next.Word w.Abs) = refl
basic_same _ = refl

basic_goes : (n : Next) → Goes (in_table basic_of) FirstBasic n
basic_goes = told (in_table basic_of) _ FirstBasic (or_tells _ _ _ _ (range_tells 19 21) (range_tells 63 63)) basic_same

result_same : (n : Next) → begins_result n ≡ or_in (in_range 19 21) (in_range 60 61) (next_no n)
unfolding begins_result
result_same (next.Mark m.Plus) = refl
result_same (next.Word w.Abs) = refl
result_same _ = refl

pub result_goes : (n : Next) → Goes begins_result FirstResult n
result_goes = told begins_result _ FirstResult (or_tells _ _ _ _ (range_tells 19 21) (range_tells 60 61)) result_same

by_word_same : (n : Next) → begins_mode_by_word n ≡ or_in (in_range 19 21) (in_range 60 63) (next_no n)
unfolding begins_mode_by_word
by_word_same (next.Mark m.Plus) = refl
by_word_same (next.Word w.Abs) = refl
by_word_same _ = refl

pub by_word_goes : (n : Next) → Goes begins_mode_by_word FirstByWord n
by_word_goes = told begins_mode_by_word _ FirstByWord (or_tells _ _ _ _ (range_tells 19 21) (range_tells 60 63)) by_word_same

mode_same : (n : Next) → begins_mode n ≡ or_in (in_range 12 12) (or_in (in_range 19 21) (in_range 60 63)) (next_no n)
unfolding begins_mode
mode_same (next.Mark m.Plus) = refl
mode_same (next.Word w.Abs) = refl
mode_same _ = refl

pub mode_goes : (n : Next) → Goes begins_mode First n
mode_goes = told begins_mode _ First (or_tells _ _ _ _ (range_tells 12 12) (or_tells _ _ _ _ (range_tells 19 21) (range_tells 60 63))) mode_same

no_array_same : (n : Next) → is_no_array n ≡ (if is_word w.Array n then false else true)
unfolding is_no_array same_word
no_array_same (next.Mark m.Plus) = refl
no_array_same (next.Word w.Array) = refl
no_array_same _ = refl

no_array_goes : (n : Next) → Goes is_no_array (λ c. c ≢ 62) n
no_array_goes n = elim (word_goes w.Array n) [
  | inl h ↦ inr (no_array_same n ∙ rw (h.0) refl, λ k. k h.1)
  | inr h ↦ inl (no_array_same n ∙ rw (h.0) refl, h.1)
]

-- ---- the lines

good_named : (c : Context) → Good (reads.named c) (line.named c) (λ n. n ≡ 12) (λ _. Unit {0}) ⊥
unfolding reads.named
good_named c = weaken (λ n. n ≡ 12) (λ _. Unit {0}) ⊥ (seq (good_ident c.total) (λ n. good_nothing _) (λ n h. tt)) (λ n h. grind arith) (λ n h. grind arith) (λ h. h.0)

good_basic : (c : Context) → Good (reads.basic c) (line.basic c) FirstBasic (λ _. Unit {0}) ⊥
unfolding reads.basic
good_basic c = weaken FirstBasic (λ _. Unit {0}) ⊥
    (seq (good_here c.total) (λ at. seq (good_listed_in basic_of FirstBasic (table_true basic_of FirstBasic basic_goes)) (λ b. good_nothing _) (λ n h. tt)) (λ n h. tt))
    (λ n h. grind arith) (λ n h. grind arith) (λ h. h.1.0)

module _ (c : Context) (modes parentheses : ℕ) (p : ℕ → ℕ → Parser WrittenMode) (P : ℕ → ℕ → Part WrittenMode) (g : (i j : ℕ) → Good (p i j) (P i j) First After ⊥) where
  good_array : Good (reads.array c modes parentheses p) (line.array c modes parentheses P) (λ n. n ≡ 62) After ⊥
  unfolding reads.array
  good_array = weaken (λ n. n ≡ 62) After ⊥
      (seq (good_here c.total) (λ at. seq (good_within modes (good_word w.Array)) (λ _. seq (good_within parentheses (good_mark m.Open)) (λ _. seq good_number (λ n. seq (good_mark m.Close) (λ _.
      seq (g parentheses c.limits.references) (λ of. good_nothing _) (λ n h. absurd h)) (λ n h. tt)) (λ n h. tt)) (λ n h. tt)) (λ n h. tt)) (λ n h. tt))
      (λ n h. grind arith) (λ n h. grind arith) (λ h. h.1.0)

  good_parameter : Good (reads.parameter c modes parentheses p) (line.parameter c modes parentheses P) First After ⊥
  unfolding reads.parameter
  good_parameter = g (parentheses - 1) c.limits.references

  good_next_parameter : Good (reads.next_parameter c modes parentheses p) (part.◌>>=◌ (part.mark m.Comma) (λ _. line.parameter c modes parentheses P)) (λ n. n ≡ 9) After ⊥
  unfolding reads.next_parameter
  good_next_parameter = good_after_mark m.Comma good_parameter

  good_parameters : Good (reads.any_parameters c modes parentheses p) (part.either (line.parameters c modes parentheses P) (part.nothing [])) First (λ n. n ≡ 8) (Unit {0})
  unfolding reads.any_parameters reads.parameters
  good_parameters = weaken First (λ n. n ≡ 8) (Unit {0})
      (good_choose begins_mode
      (weaken First (λ n. n ≡ 8) ⊥
      (seq good_parameter (λ first. good_up_to (c.limits.parameters - 1) (is_mark m.Comma) part.push good_next_parameter (mark_goes m.Comma) (λ n h. grind arith) (first ∷ [])) (λ n h. grind arith))
      (λ n h. grind arith) (λ n h. grind arith) (λ h. h.0))
      (good_nothing []) mode_goes (λ n h k. k))
      (λ n h. grind arith) (λ n h. (h, tt, λ _ k. grind arith)) (λ h. h)

  good_result_inside : Good (reads.result_inside c modes parentheses p) (line.result_inside c modes parentheses P) FirstResult After ⊥
  unfolding reads.result_inside
  good_result_inside = weaken FirstResult After ⊥
      (good_starting begins_result (p parentheses c.limits.references) (P parentheses c.limits.references) First After FirstResult (g parentheses c.limits.references) (goes_true begins_result FirstResult result_goes))
      (λ n h. h.1) (λ n h. h) (λ h. h)

  good_result : Good (reads.any_result c modes parentheses p) (part.optional (line.result_inside c modes parentheses P)) FirstResult After (Unit {0})
  unfolding reads.any_result
  good_result = weaken FirstResult After (Unit {0}) (good_optional begins_result good_result_inside result_goes) (λ n h. h) (λ n h. (h, h)) (λ h. h)

  pub good_procedure : Good (reads.procedure c modes parentheses p) (line.procedure c modes parentheses P) (λ n. n ≡ 61) After ⊥
  unfolding reads.procedure
  good_procedure = weaken (λ n. n ≡ 61) After ⊥
      (seq (good_here c.total) (λ at. seq (good_within modes (good_word w.Proc)) (λ _. seq (good_within parentheses (good_mark m.Open)) (λ _. seq good_parameters (λ ps. seq (good_mark m.Close) (λ _.
      seq good_result (λ r. good_nothing _) (λ n h. absurd h)) (λ n h. tt)) (λ n h. grind arith)) (λ n h. tt)) (λ n h. tt)) (λ n h. tt))
      (λ n h. grind arith) (λ n h. grind arith) (λ h. h.1.0)

  module _ (references : ℕ) where
    good_array_reference : (at : At) → Good (reads.array_reference c modes parentheses p at)
        (part.◌>>=◌ (part.word w.Array) (λ _. part.◌>>=◌ (P parentheses c.limits.references) (λ of. part.nothing (mode.RefArray of at)))) (λ n. n ≡ 62) After ⊥
    unfolding reads.array_reference
    good_array_reference at = weaken (λ n. n ≡ 62) After ⊥
        (seq (good_word w.Array) (λ _. seq (g parentheses c.limits.references) (λ of. good_nothing _) (λ n h. absurd h)) (λ n h. tt))
        (λ n h. grind arith) (λ n h. grind arith) (λ h. h.0)

    -- the second line with its test, which the parser has made already
    abbrev tested : At → Parser WrittenMode
    tested at = parse.◌>>=◌ (parse.starting is_no_array (p parentheses (references - 1))) (λ to. parse.pure (mode.Ref to at))

    good_tested : (at : At) → Good (tested at) (part.◌>>=◌ (part.starting is_no_array (P parentheses (references - 1))) (λ to. part.nothing (mode.Ref to at))) (λ n. First n × (n ≢ 62)) After ⊥
    good_tested at = weaken (λ n. First n × (n ≢ 62)) After ⊥
        (seq (good_starting is_no_array (p parentheses (references - 1)) (P parentheses (references - 1)) First After (λ n. n ≢ 62) (g parentheses (references - 1)) (goes_true is_no_array (λ n. n ≢ 62) no_array_goes)) (λ to. good_nothing _) (λ n h. absurd h))
        (λ n. elim [ inl h ↦ h | inr h ↦ absurd h.0 ]) (λ n h. (tt, λ _. h)) (λ h. h.0)

    behind_ref : (at : At) (l : List Item) → parse.choose (is_word w.Array) (reads.array_reference c modes parentheses p at) (reads.plain_reference c modes parentheses p references at) l
        ≡ parse.choose (is_word w.Array) (reads.array_reference c modes parentheses p at) (tested at) l
    unfolding reads.plain_reference
    behind_ref at l = elim (word_goes w.Array (next_of l)) [
      | inl h ↦ rw (h.0) refl
      | inr h ↦ let free : is_no_array (next_of l) ≡ true = no_array_same (next_of l) ∙ rw (h.0) refl in rw (h.0, free) refl
    ]

    good_reference : Good (reads.reference c modes parentheses p references) (line.reference c modes parentheses P references) (λ n. n ≡ 60) After ⊥
    unfolding reads.reference
    good_reference = weaken (λ n. n ≡ 60) After ⊥
        (seq (good_here c.total) (λ at. seq (good_within modes (good_within references (good_word w.Ref))) (λ _.
        good_equal (behind_ref at) (good_choose (is_word w.Array) (good_array_reference at) (good_tested at) (word_goes w.Array) (λ n h k. k.1 h))) (λ n h. tt)) (λ n h. tt))
        (λ n h. grind arith) (λ n h. (((h, h, λ e. absurd e), λ _. tt), λ _. tt)) (λ h. h.1.0)

    -- the choices of a mode, one by one
    abbrev mode_tests : Next → List Item → parse.Outcome WrittenMode
    mode_tests n l = if is_name n then reads.named c l else (if is_word w.Array n then reads.array c modes parentheses p l else (if is_word w.Ref n then reads.reference c modes parentheses p references l
        else (if is_word w.Proc n then reads.procedure c modes parentheses p l else reads.basic c l)))

    mode_by_tests : (n : Next) (l : List Item) → reads.mode_by c modes parentheses p references n l ≡ mode_tests n l
    unfolding same_word
    mode_by_tests next.Name l = refl
    mode_by_tests (next.Word w.Array) l = refl
    mode_by_tests (next.Mark m.Dot) l = refl
    mode_by_tests _ l = refl

    -- what begins with a reserved word
    abbrev pub by_word : Part WrittenMode
    by_word = part.either (line.array c modes parentheses P) (part.either (line.reference c modes parentheses P references) (part.either (line.procedure c modes parentheses P) (line.basic c)))

    pub good_by_word : Good (parse.choose (is_word w.Array) (reads.array c modes parentheses p) (parse.choose (is_word w.Ref) (reads.reference c modes parentheses p references)
        (parse.choose (is_word w.Proc) (reads.procedure c modes parentheses p) (reads.basic c)))) by_word FirstByWord After ⊥
    good_by_word = weaken FirstByWord After ⊥
        (good_choose (is_word w.Array) good_array
        (good_choose (is_word w.Ref) good_reference
        (good_choose (is_word w.Proc) good_procedure (good_basic c) (word_goes w.Proc) (λ n h k. grind arith))
        (word_goes w.Ref) (λ n h k. grind arith))
        (word_goes w.Array) (λ n h k. grind arith))
        (λ n h. grind arith) (λ n h. (h, (h, (h, tt, λ e. absurd e), λ e. absurd e), λ e. absurd e)) (λ h. h)

    pub good_mode_of : Good (reads.mode_of c modes parentheses p references) (line.mode_of c modes parentheses P references) First After ⊥
    unfolding reads.mode_of
    good_mode_of = weaken First After ⊥
        (good_equal (λ l. mode_by_tests (next_of l) l) (good_choose is_name (good_named c) good_by_word name_goes (λ n h k. grind arith)))
        (λ n h. grind arith) (λ n h. (tt, h, λ e. absurd e)) (λ h. h)

pub good_inside : (c : Context) (modes parentheses references : ℕ) → Good (reads.inside c modes parentheses references) (line.inside c modes parentheses references) First After ⊥
unfolding reads.inside line.inside
good_inside c zero parentheses references = weaken First After ⊥ good_never (λ n h. absurd h) (λ n h. tt) (λ h. h)
good_inside c (suc modes) parentheses references = good_mode_of c modes parentheses (reads.inside c modes) (line.inside c modes) (λ i j. good_inside c modes i j) references

pub good_written_mode : (c : Context) (modes parentheses : ℕ) → Good (reads.written_mode c modes parentheses) (line.written_mode c modes parentheses) First After ⊥
unfolding reads.written_mode
good_written_mode c modes parentheses = good_mode_of c modes parentheses (reads.inside c modes) (line.inside c modes) (λ i j. good_inside c modes i j) c.limits.references

pub good_mode_by_word : (c : Context) → Good (reads.mode_by_word c) (line.mode_by_word c) FirstByWord After ⊥
unfolding reads.mode_by_word
good_mode_by_word c = weaken FirstByWord After ⊥
    (good_starting begins_mode_by_word (reads.written_mode c c.limits.modes c.limits.parentheses) (line.written_mode c c.limits.modes c.limits.parentheses) First After FirstByWord (good_written_mode c c.limits.modes c.limits.parentheses)
    (goes_true begins_mode_by_word FirstByWord by_word_goes))
    (λ n h. h.1) (λ n h. h) (λ h. h)
