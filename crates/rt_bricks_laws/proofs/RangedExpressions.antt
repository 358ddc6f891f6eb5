-- The numbers of expressions, conditions and modes are words.
use Rattle.std.proofs.Common.{◌≡◌, ℕ, zero, suc, ◌-◌, true, ◌&&◌, List, [], ◌∷◌, map, Option, Some, None, refl, ◌∙◌, arith}
use Rattle.rt_grammar.specs.declared.at.At.{At}
use Rattle.rt_grammar.specs.declared.at.Ident.{Ident}
use Rattle.rt_grammar.specs.Parts.{Part, push}
use Rattle.rt_syntax_exprs.specs.declared.limits.Context.{Context}
use Rattle.rt_syntax_exprs.specs.declared.table.Level.{Level}
use Rattle.rt_syntax_exprs.specs.declared.tree.BasicMode.{BasicMode}
use Rattle.rt_syntax_exprs.specs.declared.tree.Op1.{Op1}
use Rattle.rt_syntax_exprs.specs.declared.tree.Op2.{Op2}
use Rattle.rt_syntax_exprs.specs.declared.tree.Rel.{Rel}
use Rattle.rt_syntax_exprs.specs.declared.tree.Expr.{Expr, out-Expr}
use Rattle.rt_syntax_exprs.specs.declared.tree.Expr as expressions
use Rattle.rt_syntax_exprs.specs.declared.tree.Expr.TheFolds.{fold_out-Expr, fold_out-Link, fold_out-Chain}
use Rattle.rt_syntax_exprs.specs.declared.tree.Expr.TheOpen.{Expr-F, Link-F, Chain-F}
use Rattle.rt_syntax_exprs.specs.declared.tree.Expr.TheVariants as e
use Rattle.rt_syntax_exprs.specs.declared.tree.Chain.{Chain, out-Chain, roll-Chain}
use Rattle.rt_syntax_exprs.specs.declared.tree.Chain as chains
use Rattle.rt_syntax_exprs.specs.declared.tree.Link.{Link, out-Link}
use Rattle.rt_syntax_exprs.specs.declared.tree.Link as links
use Rattle.rt_syntax_exprs.specs.declared.tree.Link.TheVariants as link
use Rattle.rt_syntax_exprs.specs.declared.tree.Cond.{Cond, out-Cond}
use Rattle.rt_syntax_exprs.specs.declared.tree.Cond as conditions
use Rattle.rt_syntax_exprs.specs.declared.tree.Cond.TheFolds.{fold_out-Cond}
use Rattle.rt_syntax_exprs.specs.declared.tree.Cond.TheOpen.{Cond-F}
use Rattle.rt_syntax_exprs.specs.declared.tree.Cond.TheVariants as cond
use Rattle.rt_syntax_exprs.specs.declared.tree.WrittenMode.{WrittenMode, out-WrittenMode}
use Rattle.rt_syntax_exprs.specs.declared.tree.WrittenMode as written_lemmas
use Rattle.rt_syntax_exprs.specs.declared.tree.WrittenMode.TheFolds.{fold_out-WrittenMode}
use Rattle.rt_syntax_exprs.specs.declared.tree.WrittenMode.TheOpen.{WrittenMode-F}
use Rattle.rt_syntax_exprs.specs.declared.tree.WrittenMode.TheVariants as written
use Rattle.rt_syntax_exprs.specs.Expressions as line
use Rattle.rt_syntax_exprs.specs.Modes as modes_line
use Rattle.rt_syntax_exprs.specs.Tables.{begins_result, begins_mode_by_word, is_no_array}
use Rattle.rt_bricks_laws.specs.Bodies.{all}
use Rattle.rt_bricks_laws.proofs.Parts.{Counts, done, one_item, thn as counts_then, turned as counts_turned, opened, a_word, a_mark, a_text, a_place, an_ident}
use Rattle.rt_bricks_laws.specs.Numbers.{is_word, words_in_expr, words_in_link, words_in_chain, words_in_cond, words_in_mode, words_in_result}
use Rattle.rt_bricks_laws.proofs.Ranged.{Ranged, it, not, thn, behind, or_else, maybe, turned, turned_up, limited, begun, a_number}
use Rattle.rt_bricks_laws.proofs.Truths.{both, all_push}

-- ---- those of each

expr_number : (n : ℕ) (at : At) → words_in_expr (e.Number n at) ≡ is_word n
expr_number n at = let o : out-Expr (e.Number n at) ≡ Expr-F.Number n at = search expressions.the_lemmas in rw (fold_out-Expr, o) refl

expr_text : (bytes : List ℕ) (at : At) → words_in_expr (e.Text bytes at) ≡ true
expr_text bytes at = let o : out-Expr (e.Text bytes at) ≡ Expr-F.Text bytes at = search expressions.the_lemmas in rw (fold_out-Expr, o) refl

expr_chain : (c : Chain) → words_in_expr (e.Chain c) ≡ words_in_chain c
expr_chain c = let o : out-Expr (e.Chain c) ≡ Expr-F.Chain c = search expressions.the_lemmas in rw (fold_out-Expr, o) refl

expr_val : (c : Chain) (at : At) → words_in_expr (e.Val c at) ≡ words_in_chain c
expr_val c at = let o : out-Expr (e.Val c at) ≡ Expr-F.Val c at = search expressions.the_lemmas in rw (fold_out-Expr, o) refl

expr_monadic : (op : Op1) (a : Expr) (at : At) → words_in_expr (e.Monadic op a at) ≡ words_in_expr a
expr_monadic op a at = let o : out-Expr (e.Monadic op a at) ≡ Expr-F.Monadic op a at = search expressions.the_lemmas in rw (fold_out-Expr, o) refl

expr_dyadic : (op : Op2) (a b : Expr) (at : At) → words_in_expr (e.Dyadic op a b at) ≡ words_in_expr a && words_in_expr b
expr_dyadic op a b at = let o : out-Expr (e.Dyadic op a b at) ≡ Expr-F.Dyadic op a b at = search expressions.the_lemmas in rw (fold_out-Expr, o) refl

link_dot : (n : Ident) (at : At) → words_in_link (link.Dot n at) ≡ true
link_dot n at = let o : out-Link (link.Dot n at) ≡ Link-F.Dot n at = search links.the_lemmas in rw (fold_out-Link, o) refl

link_apply : (es : List Expr) (at : At) → words_in_link (link.Apply es at) ≡ all (map words_in_expr es)
link_apply es at = let o : out-Link (link.Apply es at) ≡ Link-F.Apply es at = search links.the_lemmas in rw (fold_out-Link, o) refl

chain_by : (c : Chain) (x : Chain-F Expr Link Chain) → out-Chain c ≡ x → words_in_chain c ≡ all (map words_in_link x.links)
chain_by c x o = rw (fold_out-Chain, o) refl

chain_of : (x : Chain-F Expr Link Chain) → words_in_chain (roll-Chain x) ≡ all (map words_in_link x.links)
chain_of x = chain_by (roll-Chain x) x (search chains.the_lemmas)

cond_compare : (r : Rel) (a b : Expr) (at : At) → words_in_cond (cond.Compare r a b at) ≡ words_in_expr a && words_in_expr b
cond_compare r a b at = let o : out-Cond (cond.Compare r a b at) ≡ Cond-F.Compare r a b at = search conditions.the_lemmas in rw (fold_out-Cond, o) refl

cond_and : (cs : List Cond) (at : At) → words_in_cond (cond.And cs at) ≡ all (map words_in_cond cs)
cond_and cs at = let o : out-Cond (cond.And cs at) ≡ Cond-F.And cs at = search conditions.the_lemmas in rw (fold_out-Cond, o) refl

cond_or : (cs : List Cond) (at : At) → words_in_cond (cond.Or cs at) ≡ all (map words_in_cond cs)
cond_or cs at = let o : out-Cond (cond.Or cs at) ≡ Cond-F.Or cs at = search conditions.the_lemmas in rw (fold_out-Cond, o) refl

mode_name : (n : Ident) → words_in_mode (written.Name n) ≡ true
mode_name n = let o : out-WrittenMode (written.Name n) ≡ WrittenMode-F.Name n = search written_lemmas.the_lemmas in rw (fold_out-WrittenMode, o) refl

mode_basic : (b : BasicMode) (at : At) → words_in_mode (written.Basic b at) ≡ true
mode_basic b at = let o : out-WrittenMode (written.Basic b at) ≡ WrittenMode-F.Basic b at = search written_lemmas.the_lemmas in rw (fold_out-WrittenMode, o) refl

mode_array : (n : ℕ) (w : WrittenMode) (at : At) → words_in_mode (written.Array n w at) ≡ is_word n && words_in_mode w
mode_array n w at = let o : out-WrittenMode (written.Array n w at) ≡ WrittenMode-F.Array n w at = search written_lemmas.the_lemmas in rw (fold_out-WrittenMode, o) refl

mode_ref : (w : WrittenMode) (at : At) → words_in_mode (written.Ref w at) ≡ words_in_mode w
mode_ref w at = let o : out-WrittenMode (written.Ref w at) ≡ WrittenMode-F.Ref w at = search written_lemmas.the_lemmas in rw (fold_out-WrittenMode, o) refl

mode_row : (w : WrittenMode) (at : At) → words_in_mode (written.RefArray w at) ≡ words_in_mode w
mode_row w at = let o : out-WrittenMode (written.RefArray w at) ≡ WrittenMode-F.RefArray w at = search written_lemmas.the_lemmas in rw (fold_out-WrittenMode, o) refl

mode_proc : (ws : List WrittenMode) (r : Option WrittenMode) (at : At) → words_in_mode (written.Proc ws r at) ≡ all (map words_in_mode ws) && words_in_result r
mode_proc ws None at = let o : out-WrittenMode (written.Proc ws None at) ≡ WrittenMode-F.Proc ws None at = search written_lemmas.the_lemmas in rw (fold_out-WrittenMode, o) refl
mode_proc ws (Some w) at = let o : out-WrittenMode (written.Proc ws (Some w) at) ≡ WrittenMode-F.Proc ws (Some w) at = search written_lemmas.the_lemmas in rw (fold_out-WrittenMode, o) refl

applied_words : (ops : List (Op1 × At)) (a : Expr) → words_in_expr (line.applied ops a) ≡ words_in_expr a
applied_words [] a = refl
applied_words (o ∷ ops) a = expr_monadic o.0 (line.applied ops a) o.1 ∙ applied_words ops a

-- ---- the lines of expressions

abbrev pub ExprWords : Expr → Type 0
ExprWords x = words_in_expr x ≡ true

abbrev ExprsWords : List Expr → Type 0
ExprsWords xs = all (map words_in_expr xs) ≡ true

abbrev LinkWords : Link → Type 0
LinkWords x = words_in_link x ≡ true

abbrev LinksWords : List Link → Type 0
LinksWords xs = all (map words_in_link xs) ≡ true

abbrev pub ChainWords : Chain → Type 0
ChainWords x = words_in_chain x ≡ true

abbrev pub CondWords : Cond → Type 0
CondWords x = words_in_cond x ≡ true

abbrev CondsWords : List Cond → Type 0
CondsWords xs = all (map words_in_cond xs) ≡ true

module _ (c : Context) where
  literal_words : Ranged (line.literal c) ExprWords
  literal_words = behind (a_place c.total) (λ at. thn a_number (λ n h. it (expr_number n at ∙ h)))

  string_words : Ranged (line.string c) ExprWords
  string_words = behind (a_place c.total) (λ at. behind a_text (λ bytes. it (expr_text bytes at)))

  dot_words : Ranged (line.dot c) LinkWords
  dot_words = behind (a_place c.total) (λ at. behind (a_mark _) (λ _. behind (an_ident c.total) (λ n. it (link_dot n at))))

  operator_counts : Counts 0 (line.operator c) (λ _. 0)
  operator_counts = counts_then (a_place c.total) (λ at. counts_then one_item (λ op. done (omega arith)))

  module _ (levels : ℕ) (inner : Part Expr) (h : Ranged inner ExprWords) where
    listed_words : Ranged (line.listed c levels inner) ExprsWords
    listed_words = thn h (λ first g. turned push _ ExprWords ExprsWords (behind (a_mark _) (λ _. h)) (λ es x k f. all_push words_in_expr es x k f) (both (words_in_expr first) true g refl))

    apply_words : Ranged (line.apply c levels inner) LinkWords
    apply_words = behind (a_place c.total) (λ at. behind (opened levels (a_mark _)) (λ _. thn {P = ExprsWords} (or_else listed_words (it refl)) (λ es g. behind (a_mark _) (λ _. it (link_apply es at ∙ g)))))

    chain_words : Ranged (line.chain c levels inner) ChainWords
    chain_words = behind (an_ident c.total) (λ n. thn (turned push _ LinkWords LinksWords (or_else dot_words apply_words) (λ ls x k f. all_push words_in_link ls x k f) refl)
        (λ ls g. it (chain_of (record { name = n.name; links = ls; at = n.at }) ∙ g)))

    chained_words : Ranged (line.chained c levels inner) ExprWords
    chained_words = thn chain_words (λ x g. it (expr_chain x ∙ g))

    valued_words : Ranged (line.valued c levels inner) ExprWords
    valued_words = behind (a_place c.total) (λ at. behind (a_word _) (λ _. thn chain_words (λ x g. it (expr_val x at ∙ g))))

    parenthesized_words : Ranged (line.parenthesized c levels inner) ExprWords
    parenthesized_words = behind (opened levels (a_mark _)) (λ _. thn h (λ a g. behind (a_mark _) (λ _. it g)))

    operand_words : Ranged (line.operand c levels inner) ExprWords
    operand_words = or_else chained_words (or_else literal_words (or_else string_words (or_else valued_words parenthesized_words)))

    primary_words : Ranged (line.primary c levels inner) ExprWords
    primary_words = behind (counts_turned push _ (λ _. 0) (λ _. 0) operator_counts (λ a b. omega arith) (omega arith)) (λ ops. thn operand_words (λ a g. it (applied_words ops a ∙ g)))

    dyadics_words : (lv : Level) (lower : Part Expr) → Ranged lower ExprWords → Ranged (line.dyadics c levels inner lv lower) ExprWords
    dyadics_words lv lower g = behind (a_place c.total) (λ at. thn g (λ a k. turned _ _ (λ x. ExprWords x.1) ExprWords (behind one_item (λ op. thn g (λ b f. it f)))
        (λ z x q f. expr_dyadic x.0 z x.1 at ∙ both (words_in_expr z) (words_in_expr x.1) q f) k))

    sums_words : Ranged (line.sums c levels inner) ExprWords
    sums_words = dyadics_words _ _ (dyadics_words _ _ (dyadics_words _ _ (dyadics_words _ _ primary_words)))

  inside_words : (levels : ℕ) → Ranged (line.inside c levels) ExprWords
  unfolding line.inside
  inside_words zero = not
  inside_words (suc levels) = limited c.limits.items (sums_words levels (line.inside c levels) (inside_words levels))

  pub expression_words : Ranged (line.expression c) ExprWords
  expression_words = limited c.limits.items (sums_words c.limits.parentheses (line.inside c c.limits.parentheses) (inside_words c.limits.parentheses))

  pub place_words : Ranged (line.place c) ChainWords
  place_words = chain_words c.limits.parentheses (line.inside c c.limits.parentheses) (inside_words c.limits.parentheses)

  -- ---- conditions

  comparison_words : Ranged (line.comparison c) CondWords
  comparison_words = behind (a_place c.total) (λ at. thn expression_words (λ a h. behind one_item (λ r. thn expression_words (λ b k. it (cond_compare r a b at ∙ both (words_in_expr a) (words_in_expr b) h k)))))

  two_words : (a b : Cond) → CondWords a → CondWords b → CondsWords (a ∷ b ∷ [])
  two_words a b h k = both (words_in_cond a) (words_in_cond b && true) h (both (words_in_cond b) true k refl)

  conjunction_words : Ranged (line.conjunction c) CondWords
  conjunction_words = behind (a_place c.total) (λ at. thn comparison_words (λ first h. or_else
      (thn (behind (a_word _) (λ _. comparison_words)) (λ second k. thn (turned push _ CondWords CondsWords (behind (a_word _) (λ _. comparison_words)) (λ cs x q f. all_push words_in_cond cs x q f) (two_words first second h k)) (λ cs g. it (cond_and cs at ∙ g))))
      (it h)))

  pub condition_words : Ranged (line.condition c) CondWords
  condition_words = behind (a_place c.total) (λ at. thn conjunction_words (λ first h. or_else
      (thn (behind (a_word _) (λ _. conjunction_words)) (λ second k. thn (turned push _ CondWords CondsWords (behind (a_word _) (λ _. conjunction_words)) (λ cs x q f. all_push words_in_cond cs x q f) (two_words first second h k)) (λ cs g. it (cond_or cs at ∙ g))))
      (it h)))

-- ---- the lines of modes

abbrev pub ModeWords : WrittenMode → Type 0
ModeWords w = words_in_mode w ≡ true

abbrev ModesWords : List WrittenMode → Type 0
ModesWords ws = all (map words_in_mode ws) ≡ true

abbrev pub ResultWords : Option WrittenMode → Type 0
ResultWords r = words_in_result r ≡ true

module _ (c : Context) where
  named_words : Ranged (modes_line.named c) ModeWords
  named_words = behind (an_ident c.total) (λ n. it (mode_name n))

  basic_words : Ranged (modes_line.basic c) ModeWords
  basic_words = behind (a_place c.total) (λ at. behind one_item (λ b. it (mode_basic b at)))

  module _ (modes parentheses : ℕ) (inner : ℕ → ℕ → Part WrittenMode) (h : (p r : ℕ) → Ranged (inner p r) ModeWords) where
    array_words : Ranged (modes_line.array c modes parentheses inner) ModeWords
    array_words = behind (a_place c.total) (λ at. behind (opened modes (a_word _)) (λ _. behind (opened parentheses (a_mark _)) (λ _. thn a_number (λ n k. behind (a_mark _) (λ _.
        thn (h parentheses c.limits.references) (λ w g. it (mode_array n w at ∙ both (is_word n) (words_in_mode w) k g)))))))

    parameters_words : Ranged (modes_line.parameters c modes parentheses inner) ModesWords
    parameters_words = thn (h (parentheses - 1) c.limits.references) (λ first k.
        turned_up push _ ModeWords ModesWords (behind (a_mark _) (λ _. h (parentheses - 1) c.limits.references)) (λ ws w g f. all_push words_in_mode ws w g f) (c.limits.parameters - 1) (first ∷ []) (both (words_in_mode first) true k refl))

    procedure_words : Ranged (modes_line.procedure c modes parentheses inner) ModeWords
    procedure_words = behind (a_place c.total) (λ at. behind (opened modes (a_word _)) (λ _. behind (opened parentheses (a_mark _)) (λ _.
        thn {P = ModesWords} (or_else parameters_words (it refl)) (λ ws k. behind (a_mark _) (λ _.
        thn {P = ResultWords} (maybe (begun begins_result (h parentheses c.limits.references)) (λ w g. g) refl) (λ r g. it (mode_proc ws r at ∙ both (all (map words_in_mode ws)) (words_in_result r) k g)))))))

    reference_words : (refs : ℕ) → Ranged (modes_line.reference c modes parentheses inner refs) ModeWords
    reference_words refs = behind (a_place c.total) (λ at. behind (opened modes (opened refs (a_word _))) (λ _. or_else
        (behind (a_word _) (λ _. thn (h parentheses c.limits.references) (λ w k. it (mode_row w at ∙ k))))
        (thn (begun is_no_array (h parentheses (refs - 1))) (λ w k. it (mode_ref w at ∙ k)))))

    mode_words : (refs : ℕ) → Ranged (modes_line.mode_of c modes parentheses inner refs) ModeWords
    mode_words refs = or_else named_words (or_else array_words (or_else (reference_words refs) (or_else procedure_words basic_words)))

  modes_inside_words : (modes parentheses refs : ℕ) → Ranged (modes_line.inside c modes parentheses refs) ModeWords
  unfolding modes_line.inside
  modes_inside_words zero parentheses refs = not
  modes_inside_words (suc modes) parentheses refs = mode_words modes parentheses (modes_line.inside c modes) (modes_inside_words modes) refs

  pub written_words : (modes parentheses : ℕ) → Ranged (modes_line.written_mode c modes parentheses) ModeWords
  written_words modes parentheses = mode_words modes parentheses (modes_line.inside c modes) (modes_inside_words modes) c.limits.references

  pub proc_mode_words : (modes parentheses : ℕ) → Ranged (modes_line.procedure c modes parentheses (modes_line.inside c modes)) ModeWords
  proc_mode_words modes parentheses = procedure_words modes parentheses (modes_line.inside c modes) (modes_inside_words modes)

  pub by_word_words : Ranged (modes_line.mode_by_word c) ModeWords
  by_word_words = begun begins_mode_by_word (written_words c.limits.modes c.limits.parentheses)
