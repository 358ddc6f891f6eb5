-- Which numbers name procedures, and their full modes.
use Rattle.std.proofs.Common.{◌≡◌, ℕ, zero, suc, ◌+◌, ◌<◌, ◌≤◌, leb, ◌&&◌, if◌then◌else◌, Bool, true, false, is_some, List, length, Option, Some, None, slice_get, refl, sym, ap, ◌∙◌, subst, arith}
use Rattle.std.proofs.lemmas.Bool.Decides.{nat_tests}
use Rattle.std.proofs.lemmas.Option.{slice_get_within}
use Rattle.rt_modes.specs.FullMode.{FullMode}
use Rattle.rt_tree_nodes.specs.declared.store.Proc.{Proc}
use Rattle.rt_object.specs.declared.object.Brick.{Brick}
use Rattle.rt_object.specs.declared.object.ObjectParts.{ObjectParts}
use Rattle.rt_object.specs.declared.object.ProcContent.{ProcContent}
use Rattle.rt_modes.specs.Bricks.{brick_numbered, text_in}
use Rattle.rt_digraph.proofs.Lists.{some_is}
use Rattle.rt_graph.specs.Calls.{brick, numbered, proc_at, body_in, content_at, HasFullMode, own, supplied, IsProcedure, IsSuppliedProc}
use Rattle.rt_graph.specs.Numbers.{all_bricks, before, place, in_object, is_supplied, is_procedure_in, is_procedure, number_of, full_of, full_in, full_mode}
use Rattle.rt_graph.proofs.Rows as rows
use Rattle.rt_graph.proofs.Rows.{IsAt, row_at, place_at}

supplied_true : (k : ℕ) → IsSuppliedProc k → is_supplied k ≡ true
supplied_true k h = both k h.0 h.1
  where
    both : (k : ℕ) → 1 ≤ k → k ≤ 10 → (leb 1 k && leb k 10) ≡ true
    both k a b = grind (arith, nat_tests)

supplied_is : (k : ℕ) → is_supplied k ≡ true → IsSuppliedProc k
supplied_is k h = (least k h, most k h)
  where
    least : (k : ℕ) → (leb 1 k && leb k 10) ≡ true → 1 ≤ k
    least k e = grind (arith, e)

    most : (k : ℕ) → (leb 1 k && leb k 10) ≡ true → k ≤ 10
    most k e = grind (arith, e)

module _ (objects : List ObjectParts) where
  -- ---- full modes

  full_own : (m b : ℕ) (o : ObjectParts) (p : ProcContent) → numbered objects m ≡ Some o → proc_at o.bricks b ≡ Some p → full_in objects m b ≡ Some (FullMode o.records p.mode)
  full_own zero b o p e f = absurd cc
  full_own (suc m) b o p e f =
      ap (λ (x : Option ObjectParts). full_of x (in_object x b)) e
      ∙ ap (λ (x : Option ProcContent). full_of (Some o) x) f

  pub full_to : (f : Proc) (t : List ℕ) → HasFullMode objects f t → full_mode objects f ≡ Some t
  full_to f t (own {o = o} {p = p} body) = full_own f.«module» f.brick o p body.of body.is
  full_to f t (supplied {k = k} h) = ap (λ (b : Bool). if b then Some (text_in (brick_numbered k)) else None) (supplied_true k h)

  full_is : (m b : ℕ) (t : List ℕ) → full_in objects m b ≡ Some t → HasFullMode objects (brick m b) t
  full_is zero b t e = by (is_supplied b) refl e
    where
      by : (c : Bool) → is_supplied b ≡ c → (if c then Some (text_in (brick_numbered b)) else None) ≡ Some t → HasFullMode objects (brick 0 b) t
      by true q g = subst (HasFullMode objects (brick 0 b)) (some_is (text_in (brick_numbered b)) t g) (supplied (supplied_is b q))
      by false q g = absurd cc
  full_is (suc m) b t e = by (numbered objects (suc m)) refl e
    where
      in_it : (o : ObjectParts) (x : Option ProcContent) → numbered objects (suc m) ≡ Some o → proc_at o.bricks b ≡ x → full_of (Some o) x ≡ Some t → HasFullMode objects (brick (suc m) b) t
      in_it o None q r g = absurd cc
      in_it o (Some p) q r g = subst (HasFullMode objects (brick (suc m) b)) (some_is (FullMode o.records p.mode) t g) (own (record { of = q; is = r }))

      by : (x : Option ObjectParts) → numbered objects (suc m) ≡ x → full_of x (in_object x b) ≡ Some t → HasFullMode objects (brick (suc m) b) t
      by None q g = absurd cc
      by (Some o) q g = in_it o (proc_at o.bricks b) q refl g

  pub full_from : (f : Proc) (t : List ℕ) → full_mode objects f ≡ Some t → HasFullMode objects f t
  full_from f t e = full_is f.«module» f.brick t e

  -- ---- procedures

  full_some : (m b : ℕ) → is_procedure_in objects m b ≡ is_some (full_in objects m b)
  full_some zero b = by (is_supplied b)
    where
      by : (c : Bool) → c ≡ is_some (if c then Some (text_in (brick_numbered b)) else None)
      by true = refl
      by false = refl
  full_some (suc m) b = by (numbered objects (suc m))
    where
      in_it : (o : ObjectParts) (x : Option ProcContent) → is_some x ≡ is_some (full_of (Some o) x)
      in_it o None = refl
      in_it o (Some p) = refl

      by : (x : Option ObjectParts) → is_some (in_object x b) ≡ is_some (full_of x (in_object x b))
      by None = refl
      by (Some o) = in_it o (proc_at o.bricks b)

  some_from : (o : Option (List ℕ)) → is_some o ≡ true → (t : List ℕ) × (o ≡ Some t)
  some_from None e = absurd cc
  some_from (Some t) e = (t, refl)

  pub procedure_from : (f : Proc) → is_procedure objects f ≡ true → IsProcedure objects f
  procedure_from f e = let t = some_from (full_mode objects f) (sym (full_some f.«module» f.brick) ∙ e) in (t.0, full_from f t.0 t.1)

  pub procedure_to : (f : Proc) → IsProcedure objects f → is_procedure objects f ≡ true
  procedure_to f h = full_some f.«module» f.brick ∙ ap is_some (full_to f h.0 h.1)

  pub number_to : (f : Proc) → IsProcedure objects f → number_of objects f ≡ Some (place objects f)
  number_to f h = ap (λ (b : Bool). if b then Some (place objects f) else None) (procedure_to f h)

  pub number_from : (f : Proc) (n : ℕ) → number_of objects f ≡ Some n → IsProcedure objects f × (n ≡ place objects f)
  number_from f n e = by (is_procedure objects f) refl e
    where
      by : (c : Bool) → is_procedure objects f ≡ c → (if c then Some (place objects f) else None) ≡ Some n → IsProcedure objects f × (n ≡ place objects f)
      by true q g = (procedure_from f q, sym (some_is (place objects f) n g))
      by false q g = absurd cc

  -- ---- their places

  at_of : (m b : ℕ) (o : ObjectParts) (p : ProcContent) → numbered objects m ≡ Some o → proc_at o.bricks b ≡ Some p → (n : ℕ) × (m ≡ suc n) × (slice_get objects n ≡ Some o)
  at_of zero b o p e f = absurd cc
  at_of (suc m) b o p e f = (m, refl, e)

  brick_within : (bricks : List Brick) (b : ℕ) (p : ProcContent) → proc_at bricks b ≡ Some p → b < length bricks
  brick_within bricks b p e = by (slice_get bricks b) refl e
    where
      by : (x : Option Brick) → slice_get bricks b ≡ x → body_in (content_at x) ≡ Some p → b < length bricks
      by None q g = absurd cc
      by (Some d) q g = slice_get_within bricks b d q

  pub procedure_at : (f : Proc) → IsProcedure objects f → IsAt objects (place objects f) f
  procedure_at f (t, own {o = o} {p = p} body) =
      let m = at_of f.«module» f.brick o p body.of body.is in
      let at = rows.of_module m.0 o m.2 m.1 (brick_within o.bricks f.brick p body.is) refl in
      subst (λ (n : ℕ). IsAt objects n f) (sym (place_at objects (11 + before objects m.0 + f.brick) f at)) at
  procedure_at f (t, supplied {k = k} h) = rows.supplied refl refl (let l = h.1 in omega arith)

  pub procedure_row : (f : Proc) → IsProcedure objects f → slice_get (all_bricks objects) (place objects f) ≡ Some f
  procedure_row f h = row_at objects (place objects f) f (procedure_at f h)
