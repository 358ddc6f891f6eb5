-- What a value weighs where its REFs are followed.
use Rattle.std.proofs.Common.{◌≡◌, ℕ, zero, suc, ◌+◌, ◌≤◌, max, Bool, true, false, Some, if◌then◌else◌, arith, refl, ◌∙◌, subst}
use Rattle.rt_modes.specs.declared.mode.Mode.{Mode, out-Mode, the_lemmas}
use Rattle.rt_modes.specs.declared.mode.Mode.TheFolds.{fold_out-Mode}
use Rattle.rt_modes.specs.declared.mode.Mode.TheOpen.{Mode-F}
use Rattle.rt_modes.specs.declared.mode.Mode.TheVariants as mode
use Rattle.rt_tree_nodes.specs.declared.operators.Op1.TheVariants as one
use Rattle.rt_tree_nodes.specs.declared.value.Place.{Place}
use Rattle.rt_tree_nodes.specs.declared.value.Place.TheVariants as places
use Rattle.rt_tree_nodes.specs.declared.value.Value.{Value}
use Rattle.rt_tree_nodes.specs.declared.value.Value.TheVariants as values
use Rattle.rt_tree_nodes.specs.Scopes.{Scope}
use Rattle.rt_tree_nodes.specs.Tree.{Term, Path, Own, Get, Past}
use Rattle.rt_tree_nodes.specs.Typing.{Found, OnLocal, OnPath, placed, valued, is_byte, mode_at}
use Rattle.rt_exprs.specs.Following.{Becomes, followed_to, widened, refs, followed}
use Rattle.rt_exprs.specs.Modes.{past}
use Rattle.rt_tree.specs.Depth.{depth}
use Rattle.rt_tree.specs.Weights.{read_weight, term_weight}
use Rattle.rt_exprs_laws.proofs.Layers.{through_place, read_value}
use Rattle.rt_exprs_laws.proofs.Operators.{out_byte}
use Rattle.rt_exprs_laws.proofs.Suiting.{Has}
use Rattle.rt_check_bodies_laws.proofs.Rows.{refs_few}
use Rattle.rt_check_bodies_laws.proofs.Trees.{tree_read, tree_through, tree_monadic}
use Rattle.rt_check_bodies_laws.specs.Refs.{FewRefs}

five_at_most : (b : Bool) → (if b then 5 else 1) ≤ 5
five_at_most true = omega arith
five_at_most false = omega arith

pub read_small : (m : Mode) → read_weight m ≤ 5
read_small m = five_at_most (is_byte m)

one_at_least : (b : Bool) → 1 ≤ (if b then 5 else 1)
one_at_least true = omega arith
one_at_least false = omega arith

pub read_some : (m : Mode) → 1 ≤ read_weight m
read_some m = one_at_least (is_byte m)

pub ref_reads : (n : Mode) → read_weight (mode.Ref n) ≡ 1
ref_reads n =
    let o : out-Mode (mode.Ref n) ≡ Mode-F.Ref n = search the_lemmas in
    let no : is_byte (mode.Ref n) ≡ false = rw (fold_out-Mode, out_byte, o) refl in
    rw no refl

-- so much more where so many REFs are followed, of which the last may lead to a BYTE
abbrev pub grown : ℕ → ℕ
grown zero = 0
grown (suc k) = k + 5

module _ (c : Scope) where
  abbrev pub tree_of : Value → Term
  tree_of v = (valued c v).tree

  pub local_read : (p : Place) (i : ℕ) → (placed c p).tree ≡ OnLocal i → tree_of (values.Read p) ≡ Own i
  local_read p i t = tree_read c p ∙ rw t refl

  pub path_read : (p : Place) (f : Found) (q : Path) → (placed c p).found ≡ Some f → (placed c p).tree ≡ OnPath q → tree_of (values.Read p) ≡ Get (mode_at (Some f)) q
  path_read p f q e t = tree_read c p ∙ rw (t, e) refl

  past_tree : (n : Mode) (v : Value) → Has c (mode.Ref n) v → tree_of (past v) ≡ Get n (Past (tree_of v))
  past_tree n v h =
      let o : out-Mode (mode.Ref n) ≡ Mode-F.Ref n = search the_lemmas in
      path_read (places.Through v) (Found.Shared n) (Past (tree_of v)) (through_place c v ∙ rw (h, o) refl) (tree_through c v ∙ rw (h, o) refl)

  ref_past : (n : Mode) (v : Value) → Has c (mode.Ref (mode.Ref n)) v → Has c (mode.Ref n) (past v)
  ref_past n v h =
      let o : out-Mode (mode.Ref (mode.Ref n)) ≡ Mode-F.Ref (mode.Ref n) = search the_lemmas in
      let p : out-Mode (mode.Ref n) ≡ Mode-F.Ref n = search the_lemmas in
      read_value c (places.Through v) ∙ rw (through_place c v, h, o, p) refl

  pub record Grown (v x : Value) (more : ℕ) : Type 0 where
    pub weight : term_weight (tree_of x) ≤ term_weight (tree_of v) + more
    pub depth : depth (tree_of x) ≤ max 1 (depth (tree_of v))

  past_grown : (n : Mode) (v : Value) → Has c (mode.Ref n) v → Grown v (past v) (read_weight n)
  past_grown n v h = record {
    weight = rw (past_tree n v h) (omega arith);
    depth = rw (past_tree n v h) (omega arith);
  }

  grown_then : (v y x : Value) (a b n : ℕ) → a + b ≤ n → Grown v y a → Grown y x b → Grown v x n
  grown_then v y x a b n l g h = record { weight = omega (arith, l, g.weight, h.weight); depth = omega (arith, g.depth, h.depth) }

  pub followed_grows : (k : ℕ) (w : Mode) (v : Value) → Has c (refs k w) v → Grown v (followed k v) (grown k)
  followed_grows zero w v h = record { weight = omega arith; depth = omega arith }
  followed_grows (suc zero) w v h = let g = past_grown w v h in record { weight = omega (arith, g.weight, read_small w); depth = g.depth }
  followed_grows (suc (suc k)) w v h =
      grown_then v (past v) (followed (suc k) (past v)) (read_weight (mode.Ref (refs k w))) (k + 5) (suc k + 5) (omega (arith, ref_reads (refs k w))) (past_grown (mode.Ref (refs k w)) v h) (followed_grows (suc k) w (past v) (ref_past (refs k w) v h))

  -- INT of a BYTE takes no code
  pub int_grown : (v x : Value) (n : ℕ) → Grown v x n → Grown v (values.Monadic one.Int x) n
  int_grown v x n g = record {
    weight = rw (tree_monadic c one.Int x) (omega (arith, g.weight));
    depth = rw (tree_monadic c one.Int x) g.depth;
  }

  few_grown : (k : ℕ) (w : Mode) (v : Value) → FewRefs (refs k w) → Has c (refs k w) v → Grown v (followed k v) 12
  few_grown zero w v s h = record { weight = omega arith; depth = omega arith }
  few_grown (suc k) w v s h =
      let g = followed_grows (suc k) w v h in
      record { weight = omega (arith, g.weight, refs_few (suc k) w 8 s); depth = g.depth }

  -- a value of a mode where another is wanted
  pub becomes_grown : (m w : Mode) (v x : Value) → Becomes m w v x → FewRefs m → Has c m v → Grown v x 12
  becomes_grown m w v x (followed_to k e held) s h = few_grown k w v (subst FewRefs e s) (subst (λ (z : Mode). Has c z v) e h)
  becomes_grown m w v x (widened k e i) s h = int_grown v (followed k v) 12 (few_grown k mode.Byte v (subst FewRefs e s) (subst (λ (z : Mode). Has c z v) e h))
