-- What an expression is by itself stays within its items, and so does the value that it is where a mode is wanted.
use Rattle.std.proofs.Common.{◌≡◌, ℕ, zero, suc, ◌+◌, ◌*◌, ◌≤◌, max, Bool, true, false, Some, Ok, Err, if◌then◌else◌, arith, refl, sym, ap, ◌∙◌, subst}
use Rattle.rt_grammar.specs.declared.at.At.{At}
use Rattle.rt_modes.specs.declared.mode.Mode.{Mode, out-Mode, the_lemmas}
use Rattle.rt_modes.specs.declared.mode.Mode.TheOpen.{Mode-F}
use Rattle.rt_modes.specs.declared.mode.Mode.TheVariants as mode
use Rattle.rt_tree_nodes.specs.declared.operators.Op1.TheVariants as one
use Rattle.rt_tree_nodes.specs.declared.value.Place.{Place}
use Rattle.rt_tree_nodes.specs.declared.value.Place.TheVariants as places
use Rattle.rt_tree_nodes.specs.declared.value.Value.{Value}
use Rattle.rt_tree_nodes.specs.declared.value.Value.TheVariants as values
use Rattle.rt_tree_nodes.specs.Scopes.{Scope}
use Rattle.rt_tree_nodes.specs.Tree.{Path}
use Rattle.rt_tree_nodes.specs.Typing.{Variable, Shared, OnLocal, OnPath, kept, placed, is_value, mode_at, reference_path}
use Rattle.rt_check_faults.specs.declared.fault.CheckFault.TheVariants as fault
use Rattle.rt_exprs.specs.declared.operand.Base.{Base}
use Rattle.rt_exprs.specs.declared.operand.Base.TheVariants as base
use Rattle.rt_exprs.specs.declared.operand.Standing.{Standing}
use Rattle.rt_exprs.specs.declared.operand.Standing.TheVariants as standing
use Rattle.rt_exprs.specs.Following.{Becomes, followed_to, widened, refs, followed}
use Rattle.rt_exprs.specs.Modes.{Want, basic, want, becomes, basic_becomes, is_ref, is_int, only_if}
use Rattle.rt_exprs.specs.Operands.{Is, number, text, brick, place, loop, result, computed, done, suits_by, refer, wants_reference}
use Rattle.rt_check_faults.specs.Outcomes.{or_fault}
use Rattle.rt_exprs.proofs.Following.{becomes_follows}
use Rattle.rt_tree.specs.Depth.{depth, address_depth}
use Rattle.rt_tree.specs.Weights.{read_weight, term_weight, path_weight}
use Rattle.rt_exprs_laws.proofs.Suiting.{Has, PlaceIs, IsTyped, or_some, ok_is, read_has}
use Rattle.rt_check_bodies_laws.proofs.Followed.{tree_of, local_read, path_read, Grown, followed_grows, becomes_grown, read_small, read_some, ref_reads}
use Rattle.rt_check_bodies_laws.proofs.Rows.{refs_few}
use Rattle.rt_check_bodies_laws.proofs.Trees.{tree_local, tree_number, tree_text, tree_proc, tree_reference, tree_monadic}
use Rattle.rt_check_bodies_laws.specs.Parts.{ValueWithin, CallWithin, PathWithin}
use Rattle.rt_check_bodies_laws.specs.Refs.{FewRefs}

pub kept_mode : (b : Bool) (m : Mode) → mode_at (Some (kept b m)) ≡ m
kept_mode true m = refl
kept_mode false m = refl

some_is : (v x : Value) → Some v ≡ Some x → v ≡ x
some_is v x e = cc

value_kept : (b : Bool) (v x : Value) → only_if b v ≡ Some x → v ≡ x
value_kept true v x e = cc
value_kept false v x e = absurd cc

module _ (c : Scope) where
  -- A place of a mode: a local, or one that stays within so many items.
  pub data PlaceWithin (p : Place) (m : Mode) (k : ℕ) : Type 0 where
    in_local : (i : ℕ) → (placed c p).found ≡ Some (Variable m) → (placed c p).tree ≡ OnLocal i → 1 ≤ k → PlaceWithin p m k
    in_path : (b : Bool) (q : Path) → (placed c p).found ≡ Some (kept b m) → (placed c p).tree ≡ OnPath q → PathWithin k q → PlaceWithin p m k

  -- what an expression of so many items is by itself
  abbrev pub Within : ℕ → Is → Type 0
  Within k (number n) = 1 ≤ k
  Within k (text n) = 1 ≤ k
  Within k (brick b m) = (1 ≤ k) × FewRefs m
  Within k (place p m st) = PlaceWithin p m k × FewRefs m
  Within k (loop i) = 1 ≤ k
  Within k (result v m) = CallWithin k (tree_of c v) × FewRefs m
  Within k (computed v b) = ValueWithin k (tree_of c v)
  Within k (done v) = CallWithin k (tree_of c v)

  -- ---- what is read at a place

  pub record ReadWithin (p : Place) (m : Mode) (k : ℕ) : Type 0 where
    pub weight : term_weight (tree_of c (values.Read p)) + 9 ≤ 12 * k + read_weight m
    pub depth : depth (tree_of c (values.Read p)) ≤ k
    pub some : 1 ≤ k

  pub read_within : (p : Place) (m : Mode) (k : ℕ) → PlaceWithin p m k → ReadWithin p m k
  read_within p m k (in_local i e t l) = record {
    weight = rw (local_read c p i t) (omega (arith, l, read_some m));
    depth = rw (local_read c p i t) l;
    some = l;
  }
  read_within p m k (in_path b q e t h) = record {
    weight = rw (path_read c p (kept b m) q e t, kept_mode) (omega (arith, h.weight));
    depth = rw (path_read c p (kept b m) q e t) (omega (arith, h.weight, h.depth));
    some = omega (arith, h.weight);
  }

  grown_within : (v x : Value) (k : ℕ) → term_weight (tree_of c v) + 8 ≤ 12 * k → depth (tree_of c v) ≤ k → 1 ≤ k → Grown c v x 12 → ValueWithin k (tree_of c x)
  grown_within v x k w d l g = record { weight = omega (arith, w, g.weight); depth = omega (arith, d, l, g.depth) }

  read_itself : (p : Place) (m : Mode) (k : ℕ) → ReadWithin p m k → ValueWithin k (tree_of c (values.Read p))
  read_itself p m k h = record { weight = omega (arith, h.weight, read_small m); depth = h.depth }

  -- the place of a REF, read and followed
  read_followed : (p : Place) (m w : Mode) (k j : ℕ) → m ≡ refs (suc j) w → FewRefs m → (is_value (out-Mode m) ≡ true → Has c m (values.Read p)) → ReadWithin p m k → ValueWithin k (tree_of c (followed (suc j) (values.Read p)))
  read_followed p m w k j e s has r =
      let o : out-Mode (mode.Ref (refs j w)) ≡ Mode-F.Ref (refs j w) = search the_lemmas in
      let h : Has c m (values.Read p) = has (ap (λ (z : Mode). is_value (out-Mode z)) e ∙ ap is_value o) in
      let one : read_weight m ≡ 1 = ap read_weight e ∙ ref_reads (refs j w) in
      let few : suc j ≤ 8 = refs_few (suc j) w 8 (subst FewRefs e s) in
      let g = followed_grows c (suc j) w (values.Read p) (subst (λ (z : Mode). Has c z (values.Read p)) e h) in
      record { weight = omega (arith, one, few, g.weight, r.weight); depth = omega (arith, g.depth, r.depth, r.some) }

  int_within : (k : ℕ) (v : Value) → ValueWithin k (tree_of c v) → ValueWithin k (tree_of c (values.Monadic one.Int v))
  int_within k v h = record {
    weight = rw (tree_monadic c one.Int v) (omega (arith, h.weight));
    depth = rw (tree_monadic c one.Int v) h.depth;
  }

  read_becomes : (p : Place) (m w : Mode) (k : ℕ) (x : Value) → Becomes m w (values.Read p) x → FewRefs m → (is_value (out-Mode m) ≡ true → Has c m (values.Read p)) → ReadWithin p m k → ValueWithin k (tree_of c x)
  read_becomes p m w k x (followed_to zero e held) s h r = read_itself p m k r
  read_becomes p m w k x (followed_to (suc j) e held) s h r = read_followed p m w k j e s h r
  read_becomes p m w k x (widened zero e i) s h r = int_within k (values.Read p) (read_itself p m k r)
  read_becomes p m w k x (widened (suc j) e i) s h r = int_within k (followed (suc j) (values.Read p)) (read_followed p m mode.Byte k j e s h r)

  -- ---- its reference

  reference_weighs : (l : Mode-F Mode) (q : Path) → term_weight (reference_path l q) ≡ 13 + path_weight q
  reference_weighs (Mode-F.Array n m) q = refl
  reference_weighs _ q = refl

  reference_takes : (l : Mode-F Mode) (q : Path) → depth (reference_path l q) ≡ max 1 (address_depth q)
  reference_takes (Mode-F.Array n m) q = refl
  reference_takes _ q = refl

  reference_within : (p : Place) (m : Mode) (k : ℕ) → PlaceIs c p m standing.Shared → PlaceWithin p m k → ValueWithin k (tree_of c (values.Reference p))
  reference_within p m k s (in_local i e t l) = absurd (let bad : Some (Variable m) ≡ Some (Shared m) = sym e ∙ s.0 in cc)
  reference_within p m k s (in_path b q e t h) =
      let tree : tree_of c (values.Reference p) ≡ reference_path (out-Mode (mode_at (Some (kept b m)))) q = tree_reference c p ∙ rw (t, e) refl in
      record {
        weight = rw (tree, reference_weighs) (omega (arith, h.weight));
        depth = rw (tree, reference_takes) (omega (arith, h.weight, h.depth));
      }

  refer_within : (at : At) (p : Place) (m : Mode) (st : Standing) (k : ℕ) (x : Value) → PlaceIs c p m st → PlaceWithin p m k → refer at p st ≡ Ok x → ValueWithin k (tree_of c x)
  refer_within at p m standing.Shared k x s h e = subst (λ (z : Value). ValueWithin k (tree_of c z)) (ok_is (values.Reference p) x (Ok (values.Reference p)) refl e) (reference_within p m k s h)
  refer_within at p m standing.Private k x s h e = absurd cc

  place_within : (at : At) (p : Place) (m : Mode) (st : Standing) (w : Mode) (k : ℕ) (x : Value) (b : Bool) → PlaceIs c p m st → PlaceWithin p m k → FewRefs m
      → (if b then refer at p st else or_fault (fault.WrongMode at) (becomes m (want w) (values.Read p))) ≡ Ok x → ValueWithin k (tree_of c x)
  place_within at p m st w k x true s h f e = refer_within at p m st k x s h e
  place_within at p m st w k x false s h f e =
      let b = becomes_follows m w (values.Read p) x (or_some (fault.WrongMode at) (becomes m (want w) (values.Read p)) x e) in
      read_becomes p m w k x b f (read_has c p m st s) (read_within p m k h)

  -- ---- values of one word

  basic_within : (b : Base) (w : Want) (v x : Value) (k : ℕ) → ValueWithin k (tree_of c v) → basic_becomes b w v ≡ Some x → ValueWithin k (tree_of c x)
  basic_within base.Byte (basic base.Byte) v x k h e = subst (λ (z : Value). ValueWithin k (tree_of c z)) (some_is v x e) h
  basic_within base.Byte (basic base.Int) v x k h e = subst (λ (z : Value). ValueWithin k (tree_of c z)) (some_is (values.Monadic one.Int v) x e) (int_within k v h)
  basic_within base.Byte _ v x k h e = absurd cc
  basic_within base.Int (basic base.Int) v x k h e = subst (λ (z : Value). ValueWithin k (tree_of c z)) (some_is v x e) h
  basic_within base.Int _ v x k h e = absurd cc
  basic_within base.Frac (basic base.Frac) v x k h e = subst (λ (z : Value). ValueWithin k (tree_of c z)) (some_is v x e) h
  basic_within base.Frac _ v x k h e = absurd cc

  pub number_within : (n k : ℕ) → 1 ≤ k → ValueWithin k (tree_of c (values.Number n))
  number_within n k l = record { weight = rw (tree_number c n) (omega (arith, l)); depth = rw (tree_number c n) l }

  text_within : (n k : ℕ) → 1 ≤ k → ValueWithin k (tree_of c (values.Text n))
  text_within n k l = record { weight = rw (tree_text c n) (omega (arith, l)); depth = rw (tree_text c n) l }

  proc_within : (n k : ℕ) → 1 ≤ k → ValueWithin k (tree_of c (values.Proc n))
  proc_within n k l = record { weight = rw (tree_proc c n) (omega (arith, l)); depth = rw (tree_proc c n) l }

  loop_read : (i k : ℕ) → 1 ≤ k → ValueWithin k (tree_of c (values.Read (places.Local i)))
  loop_read i k l = record {
    weight = rw (local_read c (places.Local i) i (tree_local c i)) (omega (arith, l));
    depth = rw (local_read c (places.Local i) i (tree_local c i)) l;
  }

  loop_within : (at : At) (i k : ℕ) (w : Want) (x : Value) (b : Bool) → 1 ≤ k → (if b then Err (fault.RefOfLocal at) else or_fault (fault.WrongMode at) (basic_becomes base.Int w (values.Read (places.Local i)))) ≡ Ok x → ValueWithin k (tree_of c x)
  loop_within at i k w x true l e = absurd cc
  loop_within at i k w x false l e =
      basic_within base.Int w (values.Read (places.Local i)) x k (loop_read i k l) (or_some (fault.WrongMode at) (basic_becomes base.Int w (values.Read (places.Local i))) x e)

  -- ---- the whole

  pub suits_within : (at : At) (is : Is) (w : Mode) (k : ℕ) (x : Value) → IsTyped c is → Within k is → suits_by at is (want w) ≡ Ok x → ValueWithin k (tree_of c x)
  suits_within at (number n) w k x t h e = subst (λ (z : Value). ValueWithin k (tree_of c z)) (value_kept _ (values.Number n) x (or_some (fault.WrongMode at) _ x e)) (number_within n k h)
  suits_within at (text n) w k x t h e = subst (λ (z : Value). ValueWithin k (tree_of c z)) (value_kept _ (values.Text n) x (or_some (fault.WrongMode at) _ x e)) (text_within n k h)
  suits_within at (brick b m) w k x t h e = subst (λ (z : Value). ValueWithin k (tree_of c z)) (value_kept _ (values.Proc b) x (or_some (fault.WrongMode at) _ x e)) (proc_within b k h.0)
  suits_within at (place p m st) w k x t h e = place_within at p m st w k x (wants_reference m (want w)) t h.0 h.1 e
  suits_within at (loop i) w k x t h e = loop_within at i k (want w) x (is_ref (λ m. is_int (out-Mode m)) (want w)) h e
  suits_within at (result v m) w k x t h e =
      let b = becomes_follows m w v x (or_some (fault.WrongMode at) (becomes m (want w) v) x e) in
      grown_within v x k (omega (arith, h.0.weight)) h.0.depth (omega (arith, h.0.weight)) (becomes_grown c m w v x b h.1 t.0)
  suits_within at (computed v b) w k x t h e = basic_within b (want w) v x k h (or_some (fault.WrongMode at) (basic_becomes b (want w) v) x e)
  suits_within at (done v) w k x t h e = absurd cc
