-- The function by which values are followed, and the relation.
use Rattle.std.proofs.Common.{◌≡◌, ℕ, zero, suc, ◌+◌, Bool, true, false, Some, None, map, arith, refl, sym, ap, ◌∙◌, subst, if◌then◌else◌}
use Rattle.rt_modes.specs.declared.mode.Mode.{Mode, out-Mode, roll-Mode, map-Mode, the_lemmas}
use Rattle.rt_modes.specs.declared.mode.Mode.TheFolds.{ind-Mode, fold-Mode, fold_out-Mode}
use Rattle.rt_modes.specs.declared.mode.Mode.TheOpen.{Mode-F}
use Rattle.rt_modes.specs.declared.mode.Mode.TheVariants as mode
use Rattle.rt_tree_nodes.specs.declared.operators.Op1.TheVariants as one
use Rattle.rt_tree_nodes.specs.declared.value.Value.{Value}
use Rattle.rt_tree_nodes.specs.declared.value.Value.TheVariants as values
use Rattle.rt_exprs.specs.declared.operand.Base.TheVariants as base
use Rattle.rt_exprs.specs.Modes.{Layer, basic, nothing, want, want_by, same, becomes, basic_becomes, past, is_ref, is_row, is_proc, only_if}
use Rattle.rt_exprs.specs.Following.{refs, followed, Becomes, followed_to, widened}
use Rattle.rt_exprs.proofs.Levels.{become_layer, becomes_as}
use Rattle.rt_exprs.proofs.Same.{out_same, same_equal, same_itself}

is_byte : (m : Mode) → out-Mode m ≡ Mode-F.Byte → m ≡ mode.Byte
is_byte m e = let o : out-Mode mode.Byte ≡ Mode-F.Byte = search the_lemmas in out_same m mode.Byte (e ∙ sym o)

is_int : (m : Mode) → out-Mode m ≡ Mode-F.Int → m ≡ mode.Int
is_int m e = let o : out-Mode mode.Int ≡ Mode-F.Int = search the_lemmas in out_same m mode.Int (e ∙ sym o)

is_ref_to : (m n : Mode) → out-Mode m ≡ Mode-F.Ref n → m ≡ mode.Ref n
is_ref_to m n e = let o : out-Mode (mode.Ref n) ≡ Mode-F.Ref n = search the_lemmas in out_same m (mode.Ref n) (e ∙ sym o)

some_is : (v x : Value) → Some v ≡ Some x → v ≡ x
some_is v x e = cc

-- itself
module _ (m w : Mode) (v x : Value) (same_mode : m ≡ w) (held : want w ≡ nothing → ⊥) (is : v ≡ x) where
  itself : Becomes m w v x
  itself = subst (λ (y : Value). Becomes m w v y) is (followed_to 0 same_mode held)

held_by : (w : Mode) (k : Layer) → out-Mode w ≡ k → (want_by w k ≡ nothing → ⊥) → want w ≡ nothing → ⊥
held_by w k p h e = h (subst (λ (l : Layer). want_by w l ≡ nothing) p e)

byte_becomes : (m w : Mode) (v x : Value) (k : Layer) → out-Mode m ≡ Mode-F.Byte → out-Mode w ≡ k → basic_becomes base.Byte (want_by w k) v ≡ Some x → Becomes m w v x
byte_becomes m w v x Mode-F.Byte o p e = itself m w v x (out_same m w (o ∙ sym p)) (held_by w Mode-F.Byte p (λ h. cc)) (some_is v x e)
byte_becomes m w v x Mode-F.Int o p e = subst (λ (y : Value). Becomes m w v y) (some_is (values.Monadic one.Int v) x e) (widened 0 (is_byte m o) (is_int w p))
byte_becomes m w v x _ o p e = absurd cc

int_becomes : (m w : Mode) (v x : Value) (k : Layer) → out-Mode m ≡ Mode-F.Int → out-Mode w ≡ k → basic_becomes base.Int (want_by w k) v ≡ Some x → Becomes m w v x
int_becomes m w v x Mode-F.Int o p e = itself m w v x (out_same m w (o ∙ sym p)) (held_by w Mode-F.Int p (λ h. cc)) (some_is v x e)
int_becomes m w v x _ o p e = absurd cc

frac_becomes : (m w : Mode) (v x : Value) (k : Layer) → out-Mode m ≡ Mode-F.Frac → out-Mode w ≡ k → basic_becomes base.Frac (want_by w k) v ≡ Some x → Becomes m w v x
frac_becomes m w v x Mode-F.Frac o p e = itself m w v x (out_same m w (o ∙ sym p)) (held_by w Mode-F.Frac p (λ h. cc)) (some_is v x e)
frac_becomes m w v x _ o p e = absurd cc

passed : (b : Bool) (v x : Value) → only_if b v ≡ Some x → b ≡ true
passed true v x e = refl
passed false v x e = absurd cc

kept : (b : Bool) (v x : Value) → only_if b v ≡ Some x → v ≡ x
kept true v x e = some_is v x e
kept false v x e = absurd cc

row_becomes : (m w n : Mode) (v x : Value) (k : Layer) → out-Mode m ≡ Mode-F.RefArray n → out-Mode w ≡ k → is_row (same n) (want_by w k) ≡ true → v ≡ x → Becomes m w v x
row_becomes m w n v x (Mode-F.RefArray q) o p t e = itself m w v x (out_same m w (o ∙ ap (λ (z : Mode). Mode-F.RefArray z) (same_equal n q t) ∙ sym p)) (held_by w (Mode-F.RefArray q) p (λ h. cc)) e
row_becomes m w n v x _ o p t e = absurd cc

proc_becomes : (m w : Mode) (v x : Value) (k : Layer) → out-Mode w ≡ k → is_proc (same m) (want_by w k) ≡ true → v ≡ x → Becomes m w v x
proc_becomes m w v x (Mode-F.Proc ps r) p t e = itself m w v x (same_equal m w t) (held_by w (Mode-F.Proc ps r) p (λ h. cc)) e
proc_becomes m w v x _ p t e = absurd cc

ref_becomes : (m w n : Mode) (v x : Value) (k : Layer) → out-Mode m ≡ Mode-F.Ref n → out-Mode w ≡ k → is_ref (same n) (want_by w k) ≡ true → v ≡ x → Becomes m w v x
ref_becomes m w n v x (Mode-F.Ref q) o p t e = itself m w v x (out_same m w (o ∙ ap (λ (z : Mode). Mode-F.Ref z) (same_equal n q t) ∙ sym p)) (held_by w (Mode-F.Ref q) p (λ h. cc)) e
ref_becomes m w n v x _ o p t e = absurd cc

-- one REF more
deeper : (m n w : Mode) (v x : Value) → m ≡ mode.Ref n → Becomes n w (past v) x → Becomes m w v x
deeper m n w v x is (followed_to k e held) = followed_to (suc k) (is ∙ ap (λ (z : Mode). mode.Ref z) e) held
deeper m n w v x is (widened k e i) = widened (suc k) (is ∙ ap (λ (z : Mode). mode.Ref z) e) i

past_ref : (m n w : Mode) (v x : Value) (b : Bool) → out-Mode m ≡ Mode-F.Ref n → is_ref (same n) (want w) ≡ b → (if b then Some v else becomes n (want w) (past v)) ≡ Some x
    → (becomes n (want w) (past v) ≡ Some x → Becomes n w (past v) x) → Becomes m w v x
past_ref m n w v x true o t e go = ref_becomes m w n v x (out-Mode w) o refl t (some_is v x e)
past_ref m n w v x false o t e go = deeper m n w v x (is_ref_to m n o) (go e)

abbrev Follows : Mode → Type 0
Follows m = (w : Mode) (v x : Value) → becomes m (want w) v ≡ Some x → Becomes m w v x

abbrev Pair : Type 0
Pair = (m : Mode) × Follows m

abbrev plain : Mode-F Pair → Layer
plain y = map-Mode Pair Mode (λ e. e.0) y

opened : (m : Mode) (y : Mode-F Pair) → out-Mode m ≡ plain y → Follows m
opened m Mode-F.Byte o w v x e = byte_becomes m w v x (out-Mode w) o refl (sym (becomes_as m Mode-F.Byte (want w) v o) ∙ e)
opened m Mode-F.Int o w v x e = int_becomes m w v x (out-Mode w) o refl (sym (becomes_as m Mode-F.Int (want w) v o) ∙ e)
opened m Mode-F.Frac o w v x e = frac_becomes m w v x (out-Mode w) o refl (sym (becomes_as m Mode-F.Frac (want w) v o) ∙ e)
opened m Mode-F.Label o w v x e = absurd (let bad : None ≡ Some x = sym (becomes_as m Mode-F.Label (want w) v o) ∙ e in cc)
opened m (Mode-F.Ref p) o w v x e = past_ref m p.0 w v x (is_ref (same p.0) (want w)) o refl (sym (becomes_as m (Mode-F.Ref p.0) (want w) v o) ∙ e) (p.1 w (past v) x)
opened m (Mode-F.RefArray p) o w v x e =
    let found : only_if (is_row (same p.0) (want w)) v ≡ Some x = sym (becomes_as m (Mode-F.RefArray p.0) (want w) v o) ∙ e in
    row_becomes m w p.0 v x (out-Mode w) o refl (passed (is_row (same p.0) (want w)) v x found) (kept (is_row (same p.0) (want w)) v x found)
opened m (Mode-F.Array k p) o w v x e = absurd (let bad : None ≡ Some x = sym (becomes_as m (Mode-F.Array k p.0) (want w) v o) ∙ e in cc)
opened m (Mode-F.Record r) o w v x e = absurd (let bad : None ≡ Some x = sym (becomes_as m (Mode-F.Record r) (want w) v o) ∙ e in cc)
opened m (Mode-F.Proc ps None) o w v x e =
    let found : only_if (is_proc (same m) (want w)) v ≡ Some x = sym (becomes_as m (Mode-F.Proc (map (λ e. e.0) ps) None) (want w) v o) ∙ e in
    proc_becomes m w v x (out-Mode w) refl (passed (is_proc (same m) (want w)) v x found) (kept (is_proc (same m) (want w)) v x found)
opened m (Mode-F.Proc ps (Some r)) o w v x e =
    let found : only_if (is_proc (same m) (want w)) v ≡ Some x = sym (becomes_as m (Mode-F.Proc (map (λ e. e.0) ps) (Some r.0)) (want w) v o) ∙ e in
    proc_becomes m w v x (out-Mode w) refl (passed (is_proc (same m) (want w)) v x found) (kept (is_proc (same m) (want w)) v x found)

out_roll : (l : Layer) → out-Mode (roll-Mode l) ≡ l
out_roll l = search the_lemmas

pub becomes_follows : (m : Mode) → Follows m
becomes_follows = ind-Mode Follows (λ x y is. opened (roll-Mode x) y (out_roll x ∙ sym is))

-- ---- back

abbrev depth_by : Mode-F ℕ → ℕ
depth_by (Mode-F.Ref d) = suc d
depth_by _ = 0

depth : Mode → ℕ
depth = fold-Mode ℕ depth_by

depth_ref : (n : Mode) → depth (mode.Ref n) ≡ suc (depth n)
unfolding depth
depth_ref n = let o : out-Mode (mode.Ref n) ≡ Mode-F.Ref n = search the_lemmas in fold_out-Mode ℕ depth_by (mode.Ref n) ∙ rw o refl

refs_depth : (k : ℕ) (w : Mode) → depth (refs k w) ≡ k + depth w
refs_depth zero w = omega arith
refs_depth (suc k) w = depth_ref (refs k w) ∙ omega (arith, refs_depth k w)

no_loop : (k : ℕ) (w : Mode) → w ≡ mode.Ref (refs k w) → ⊥
no_loop k w e = let d : depth w ≡ suc (depth (refs k w)) = ap depth e ∙ depth_ref (refs k w) in omega (arith, refs_depth k w)

level_held : (w : Mode) (v : Value) (l : Layer) → (want_by w l ≡ nothing → ⊥) → become_layer w l (want_by w l) v ≡ Some v
level_held w v Mode-F.Byte h = refl
level_held w v Mode-F.Int h = refl
level_held w v Mode-F.Frac h = refl
level_held w v (Mode-F.Ref n) h = rw (same_itself n) refl
level_held w v (Mode-F.RefArray n) h = rw (same_itself n) refl
level_held w v (Mode-F.Proc ps r) h = rw (same_itself w) refl
level_held w v _ h = absurd (h refl)

held_itself : (w : Mode) (v : Value) → (want w ≡ nothing → ⊥) → becomes w (want w) v ≡ Some v
held_itself w v h = becomes_as w (out-Mode w) (want w) v refl ∙ level_held w v (out-Mode w) h

not_so : (k : ℕ) (w q : Mode) (b : Bool) → out-Mode w ≡ Mode-F.Ref q → same (refs k w) q ≡ b → b ≡ false
not_so k w q true p e = absurd (no_loop k w (is_ref_to w q p ∙ ap (λ (z : Mode). mode.Ref z) (sym (same_equal (refs k w) q e))))
not_so k w q false p e = refl

not_itself : (k : ℕ) (w : Mode) (l : Layer) → out-Mode w ≡ l → is_ref (same (refs k w)) (want_by w l) ≡ false
not_itself k w (Mode-F.Ref q) p = not_so k w q (same (refs k w) q) p refl
not_itself k w _ p = refl

one_less : (m w : Mode) (v : Value) → is_ref (same m) (want w) ≡ false → becomes (mode.Ref m) (want w) v ≡ becomes m (want w) (past v)
one_less m w v t = let o : out-Mode (mode.Ref m) ≡ Mode-F.Ref m = search the_lemmas in becomes_as (mode.Ref m) (Mode-F.Ref m) (want w) v o ∙ rw t refl

follow_back : (k : ℕ) (w : Mode) (v : Value) → (want w ≡ nothing → ⊥) → becomes (refs k w) (want w) v ≡ Some (followed k v)
follow_back zero w v h = held_itself w v h
follow_back (suc k) w v h = one_less (refs k w) w v (not_itself k w (out-Mode w) refl) ∙ follow_back k w (past v) h

want_int : want mode.Int ≡ basic base.Int
want_int = let o : out-Mode mode.Int ≡ Mode-F.Int = search the_lemmas in ap (want_by mode.Int) o

widen_back : (k : ℕ) (v : Value) → becomes (refs k mode.Byte) (want mode.Int) v ≡ Some (values.Monadic one.Int (followed k v))
widen_back zero v = let o : out-Mode mode.Byte ≡ Mode-F.Byte = search the_lemmas in becomes_as mode.Byte Mode-F.Byte (want mode.Int) v o ∙ rw want_int refl
widen_back (suc k) v = one_less (refs k mode.Byte) mode.Int v (ap (is_ref (same (refs k mode.Byte))) want_int) ∙ widen_back k (past v)

pub becomes_back : (m w : Mode) (v x : Value) → Becomes m w v x → becomes m (want w) v ≡ Some x
becomes_back m w v x (followed_to k e held) = ap (λ (z : Mode). becomes z (want w) v) e ∙ follow_back k w v held
becomes_back m w v x (widened k e i) = ap (λ (z : Mode). becomes z (want w) v) e ∙ ap (λ (z : Mode). becomes (refs k mode.Byte) (want z) v) i ∙ widen_back k v
