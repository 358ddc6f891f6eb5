-- A mode that is derived is shallow.
use Rattle.std.proofs.Common.{◌≡◌, ℕ, zero, suc, ◌+◌, ◌-◌, ◌<◌, ◌≤◌, Bool, true, ◌&&◌, List, [], ◌∷◌, length, map, Option, Some, None, refl, sym, ap, ◌∙◌, subst, arith}
use Rattle.std.specs.Prelude.{nat_lt, nat_le}
use Rattle.std.proofs.lemmas.Bool.{le-leb}
use Rattle.rt_grammar.specs.declared.at.At.{At}
use Rattle.rt_grammar.specs.declared.at.Ident.{Ident}
use Rattle.rt_grammar.specs.Parts.{Part, push, within}
use Rattle.rt_syntax_exprs.specs.declared.limits.Context.{Context}
use Rattle.rt_syntax_exprs.specs.declared.tree.BasicMode.{BasicMode}
use Rattle.rt_syntax_exprs.specs.declared.tree.WrittenMode.{WrittenMode, out-WrittenMode, map-WrittenMode}
use Rattle.rt_syntax_exprs.specs.declared.tree.WrittenMode as written_lemmas
use Rattle.rt_syntax_exprs.specs.declared.tree.WrittenMode.TheFolds.{fold_out-WrittenMode}
use Rattle.rt_syntax_exprs.specs.declared.tree.WrittenMode.TheOpen.{WrittenMode-F}
use Rattle.rt_syntax_exprs.specs.declared.tree.WrittenMode.TheVariants as written
use Rattle.rt_syntax_exprs.specs.Tables.{begins_result, begins_mode_by_word, is_no_array}
use Rattle.rt_syntax_exprs.specs.Modes as line
use Rattle.rt_syntax.specs.Derives.{language_limits}
use Rattle.rt_bricks_laws.specs.Shallow.{Depth, all_shallow, shallow_layer, shallow}
use Rattle.rt_bricks_laws.proofs.Truths.{both, left_of, right_of}
use Rattle.rt_bricks_laws.proofs.Yields.{Yields, it, not, thn, behind, so, also, or_else, maybe, turned_up, up_to_size, begun, opened}

abbrev pub ShallowAt : ℕ → ℕ → WrittenMode → Type 0
ShallowAt levels refs w = shallow w levels refs ≡ true

pub shallow_at : (w : WrittenMode) (l : WrittenMode-F WrittenMode) → out-WrittenMode w ≡ l → shallow w ≡ shallow_layer (map-WrittenMode WrittenMode Depth shallow l)
unfolding shallow
shallow_at w l o = rw (fold_out-WrittenMode, o) refl

pub shallow_here : (w : WrittenMode) (l : WrittenMode-F WrittenMode) (levels refs : ℕ) → out-WrittenMode w ≡ l → shallow_layer (map-WrittenMode WrittenMode Depth shallow l) levels refs ≡ true → ShallowAt levels refs w
shallow_here w l levels refs o h = ap (λ (f : Depth). f levels refs) (shallow_at w l o) ∙ h

name_shallow : (n : Ident) (levels refs : ℕ) → ShallowAt levels refs (written.Name n)
name_shallow n levels refs = shallow_here (written.Name n) (WrittenMode-F.Name n) levels refs (search written_lemmas.the_lemmas) refl

basic_shallow : (b : BasicMode) (at : At) (levels refs : ℕ) → ShallowAt levels refs (written.Basic b at)
basic_shallow b at levels refs = shallow_here (written.Basic b at) (WrittenMode-F.Basic b at) levels refs (search written_lemmas.the_lemmas) refl

array_shallow : (n : ℕ) (w : WrittenMode) (at : At) (levels refs : ℕ) → 0 < levels → ShallowAt (levels - 1) 8 w → ShallowAt levels refs (written.Array n w at)
array_shallow n w at levels refs more h = shallow_here (written.Array n w at) (WrittenMode-F.Array n w at) levels refs (search written_lemmas.the_lemmas)
    (both (nat_lt 0 levels) (shallow w (levels - 1) 8) (le-leb 1 levels more) h)

ref_shallow : (w : WrittenMode) (at : At) (levels refs : ℕ) → 0 < levels → 0 < refs → ShallowAt (levels - 1) (refs - 1) w → ShallowAt levels refs (written.Ref w at)
ref_shallow w at levels refs more row h = shallow_here (written.Ref w at) (WrittenMode-F.Ref w at) levels refs (search written_lemmas.the_lemmas)
    (both (nat_lt 0 levels) (nat_lt 0 refs && shallow w (levels - 1) (refs - 1)) (le-leb 1 levels more) (both (nat_lt 0 refs) (shallow w (levels - 1) (refs - 1)) (le-leb 1 refs row) h))

row_shallow : (w : WrittenMode) (at : At) (levels refs : ℕ) → 0 < levels → 0 < refs → ShallowAt (levels - 1) 8 w → ShallowAt levels refs (written.RefArray w at)
row_shallow w at levels refs more row h = shallow_here (written.RefArray w at) (WrittenMode-F.RefArray w at) levels refs (search written_lemmas.the_lemmas)
    (both (nat_lt 0 levels) (nat_lt 0 refs && shallow w (levels - 1) 8) (le-leb 1 levels more) (both (nat_lt 0 refs) (shallow w (levels - 1) 8) (le-leb 1 refs row) h))

AnyShallow : ℕ → Option WrittenMode → Type 0
AnyShallow levels None = Unit {0}
AnyShallow levels (Some w) = ShallowAt levels 8 w

record AreShallow (levels : ℕ) (ws : List WrittenMode) : Type 0 where
  few : length ws ≤ 32
  shallow : all_shallow levels (map shallow ws) ≡ true

mapped : (ws : List WrittenMode) → length (map shallow ws) ≡ length ws
mapped [] = refl
mapped (w ∷ ws) = ap suc (mapped ws)

parts_shallow : (ws : List WrittenMode) (levels : ℕ) (f : Bool) → 0 < levels → AreShallow (levels - 1) ws → f ≡ true → nat_lt 0 levels && (nat_le (length (map shallow ws)) 32 && (all_shallow (levels - 1) (map shallow ws) && f)) ≡ true
parts_shallow ws levels f more h k =
    let few : length (map shallow ws) ≤ 32 = let e = mapped ws in let g = h.few in omega arith in
    both (nat_lt 0 levels) (nat_le (length (map shallow ws)) 32 && (all_shallow (levels - 1) (map shallow ws) && f)) (le-leb 1 levels more)
    (both (nat_le (length (map shallow ws)) 32) (all_shallow (levels - 1) (map shallow ws) && f) (le-leb (length (map shallow ws)) 32 few) (both (all_shallow (levels - 1) (map shallow ws)) f h.shallow k))

proc_shallow : (ws : List WrittenMode) (r : Option WrittenMode) (at : At) (levels refs : ℕ) → 0 < levels → AreShallow (levels - 1) ws → AnyShallow (levels - 1) r → ShallowAt levels refs (written.Proc ws r at)
unfolding AnyShallow
proc_shallow ws None at levels refs more h k = shallow_here (written.Proc ws None at) (WrittenMode-F.Proc ws None at) levels refs (search written_lemmas.the_lemmas) (parts_shallow ws levels true more h refl)
proc_shallow ws (Some w) at levels refs more h k = shallow_here (written.Proc ws (Some w) at) (WrittenMode-F.Proc ws (Some w) at) levels refs (search written_lemmas.the_lemmas) (parts_shallow ws levels (shallow w (levels - 1) 8) more h k)

-- ---- the lines

-- in a list of so many items
abbrev pub here : ℕ → Context
here total = record { total = total; limits = language_limits }

named_shallow : (total levels refs : ℕ) → Yields (line.named (here total)) (ShallowAt levels refs)
named_shallow total levels refs = behind (λ n. it (name_shallow n levels refs))

word_shallow : (total levels refs : ℕ) → Yields (line.basic (here total)) (ShallowAt levels refs)
word_shallow total levels refs = behind (λ at. behind (λ b. it (basic_shallow b at levels refs)))

some_left : {A : Type 0} (levels : ℕ) (p : Part A) → Yields (within levels p) (λ _. 0 < levels)
some_left levels p = opened levels (λ m e. record { yields = λ l r a fits. omega arith })

all_push : (levels : ℕ) (ws : List WrittenMode) (w : WrittenMode) → all_shallow levels (map shallow ws) ≡ true → ShallowAt levels 8 w → all_shallow levels (map shallow (push ws w)) ≡ true
all_push levels [] w h k = both (shallow w levels 8) true k refl
all_push levels (v ∷ vs) w h k =
    let rest : Bool = all_shallow levels (map shallow vs) in
    both (shallow v levels 8) (all_shallow levels (map shallow (push vs w))) (left_of (shallow v levels 8) rest h) (all_push levels vs w (right_of (shallow v levels 8) rest h) k)

length_push : (ws : List WrittenMode) (w : WrittenMode) → length (push ws w) ≤ length ws + 1
length_push [] w = omega arith
length_push (v ∷ vs) w = let e = length_push vs w in omega arith

module _ (total modes parentheses : ℕ) (inner : ℕ → ℕ → Part WrittenMode) (h : (p r : ℕ) → Yields (inner p r) (ShallowAt (modes - 1) r)) where
  array_mode : (refs : ℕ) → Yields (line.array (here total) modes parentheses inner) (ShallowAt modes refs)
  array_mode refs = behind (λ at. thn (some_left modes _) (λ _ more. behind (λ _. behind (λ n. behind (λ _. thn (h parentheses 8) (λ w k. it (array_shallow n w at modes refs more k)))))))

  parameters_shallow : Yields (line.parameters (here total) modes parentheses inner) (AreShallow (modes - 1))
  parameters_shallow = thn (h (parentheses - 1) 8) (λ first k. so (also
      (turned_up push _ (ShallowAt (modes - 1) 8) (λ ws. all_shallow (modes - 1) (map shallow ws) ≡ true) (behind (λ _. h (parentheses - 1) 8)) (λ ws w g f. all_push (modes - 1) ws w g f) 31 _ (both (shallow first (modes - 1) 8) true k refl))
      (up_to_size push _ length length_push 31 (first ∷ []))) (λ ws g. record { few = let e = g.1 in omega arith; shallow = g.0 }))

  procedure_mode : (refs : ℕ) → Yields (line.procedure (here total) modes parentheses inner) (ShallowAt modes refs)
  unfolding AnyShallow
  procedure_mode refs = behind (λ at. thn (some_left modes _) (λ _ more. behind (λ _.
      thn {P = AreShallow (modes - 1)} (or_else parameters_shallow (it (record { few = omega arith; shallow = refl }))) (λ ws k. behind (λ _.
      thn {P = AnyShallow (modes - 1)} (maybe (begun begins_result (h parentheses 8)) (λ w g. g) tt) (λ r g. it (proc_shallow ws r at modes refs more k g)))))))

  reference_mode : (refs : ℕ) → Yields (line.reference (here total) modes parentheses inner refs) (ShallowAt modes refs)
  reference_mode refs = behind (λ at. thn (also (some_left modes _) (opened modes (λ m e. some_left refs _))) (λ _ more. or_else
      (behind (λ _. thn (h parentheses 8) (λ w k. it (row_shallow w at modes refs more.0 more.1 k))))
      (thn (begun is_no_array (h parentheses (refs - 1))) (λ w k. it (ref_shallow w at modes refs more.0 more.1 k)))))

  mode_shallow : (refs : ℕ) → Yields (line.mode_of (here total) modes parentheses inner refs) (ShallowAt modes refs)
  mode_shallow refs = or_else (named_shallow total modes refs) (or_else (array_mode refs) (or_else (reference_mode refs) (or_else (procedure_mode refs) (word_shallow total modes refs))))

one_less : (w : WrittenMode) (n refs : ℕ) → ShallowAt n refs w → ShallowAt (suc n - 1) refs w
one_less w n refs h = let e : suc n - 1 ≡ n = omega arith in subst (λ (k : ℕ). ShallowAt k refs w) (sym e) h

pub inside_shallow : (total modes parentheses refs : ℕ) → Yields (line.inside (here total) modes parentheses refs) (ShallowAt (modes - 1) refs)
unfolding line.inside
inside_shallow total zero parentheses refs = not
inside_shallow total (suc modes) parentheses refs = so (mode_shallow total modes parentheses (line.inside (here total) modes) (inside_shallow total modes) refs) (λ w h. one_less w modes refs h)

pub written_shallow : (total modes parentheses : ℕ) → Yields (line.written_mode (here total) modes parentheses) (ShallowAt modes 8)
written_shallow total modes parentheses = mode_shallow total modes parentheses (line.inside (here total) modes) (inside_shallow total modes) 8

pub procedure_shallow : (total : ℕ) → Yields (line.procedure (here total) 100 100 (line.inside (here total) 100)) (ShallowAt 100 8)
procedure_shallow total = procedure_mode total 100 100 (line.inside (here total) 100) (inside_shallow total 100) 8

pub by_word_shallow : (total : ℕ) → Yields (line.mode_by_word (here total)) (ShallowAt 100 8)
by_word_shallow total = begun begins_mode_by_word (written_shallow total 100 100)
