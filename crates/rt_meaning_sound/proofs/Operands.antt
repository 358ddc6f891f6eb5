-- What an expression is by itself names only what is seen, and so does what it becomes where a mode is wanted.
use Rattle.std.proofs.Common.{◌≡◌, ℕ, ◌<◌, ◌==◌, Bool, true, false, List, Option, Some, None, Ok, Err, if◌then◌else◌, map, refl, sym, ap, ◌∙◌, subst}
use Rattle.rt_grammar.specs.declared.at.At.{At}
use Rattle.rt_modes.specs.declared.mode.Mode.{Mode, out-Mode, roll-Mode, map-Mode}
use Rattle.rt_modes.specs.declared.mode.Mode.TheFolds.{ind-Mode, fold_out-Mode}
use Rattle.rt_modes.specs.declared.mode.Mode.TheOpen.{Mode-F}
use Rattle.rt_tree_nodes.specs.declared.operators.Op1.TheVariants as one
use Rattle.rt_tree_nodes.specs.declared.value.Callee.{Callee}
use Rattle.rt_tree_nodes.specs.declared.value.Callee.TheVariants as callees
use Rattle.rt_tree_nodes.specs.declared.value.Place.{Place}
use Rattle.rt_tree_nodes.specs.declared.value.Place.TheVariants as places
use Rattle.rt_tree_nodes.specs.declared.value.Value.{Value}
use Rattle.rt_tree_nodes.specs.declared.value.Value.TheVariants as values
use Rattle.rt_tree_nodes.specs.Scopes.{Scope}
use Rattle.rt_tree_nodes.specs.Typing.{valued, terms_of}
use Rattle.rt_check_faults.specs.declared.fault.CheckFault.TheVariants as fault
use Rattle.rt_exprs.specs.declared.operand.Base.{Base}
use Rattle.rt_exprs.specs.declared.operand.Base.TheVariants as base
use Rattle.rt_exprs.specs.declared.operand.Standing.{Standing}
use Rattle.rt_exprs.specs.declared.operand.Standing.TheVariants as standing
use Rattle.rt_exprs.specs.declared.scope.Meaning.{Meaning}
use Rattle.rt_exprs.specs.declared.scope.Meaning.TheVariants as meaning
use Rattle.rt_exprs.specs.Modes.{Way, Want, basic, way, way_by, layer_becomes, becomes, basic_becomes, past, same, is_ref, is_row, is_int, only_if, record_of, ref_of, through, array_at, array_by}
use Rattle.rt_exprs.specs.Operands.{Is, number, text, brick, place, loop, result, computed, done, named, suits_by, refer, wants_reference}
use Rattle.rt_check_faults.specs.Outcomes.{or_fault}
use Rattle.rt_exprs.specs.Judging.{record_in, record_behind, shared_record, place_record, Reach, rows, calls, neither, reach, proc_reach, place_reach, result_reach, called, target_of, with_place, array_in, row_result, assigned_is, called_is, is_whole}
use Rattle.rt_exprs_laws.proofs.Suiting.{or_some}
use Rattle.rt_meaning_laws.specs.Trees.{Started}
use Rattle.rt_meaning_laws.specs.Named.{any_name, TermsNamed}
use Rattle.rt_meaning_sound.specs.Seen.{LocalSeen}
use Rattle.rt_meaning_sound.specs.Short.{AllShort}
use Rattle.rt_meaning_sound.proofs.Nodes.{CalleeSeen, PlaceSeen, ValueSeen, number_seen, text_seen, proc_seen, read_seen, reference_seen, monadic_seen, call_seen, local_seen, item_seen, svc_seen, through_seen, brick_seen, callee_seen}
use Rattle.rt_meaning_sound.proofs.Small.{some_is, ok_is, out_roll}

way_at : (m : Mode) (l : Mode-F Mode) → out-Mode m ≡ l → way m ≡ way_by (map-Mode Mode Way way l)
unfolding way
way_at m l o = rw (fold_out-Mode, o) refl

becomes_at : (m : Mode) (l : Mode-F Mode) (w : Want) (v : Value) → out-Mode m ≡ l → becomes m w v ≡ layer_becomes (map-Mode Mode Way way l) w v
becomes_at m l w v o = ap (λ (y : Way). y.becomes w v) (way_at m l o)

array_opened : (m : Mode) (l : Mode-F Mode) (p : Place) → out-Mode m ≡ l → array_at m p ≡ array_by (map-Mode Mode (Place → Option Place) array_at l) p
unfolding array_at
array_opened m l p o = rw (fold_out-Mode, o) refl

module _ (c : Scope) (k : Started) where
  -- ---- a value where another mode is wanted

  value_so : (v x : Value) → v ≡ x → ValueSeen k c v → ValueSeen k c x
  value_so v x e h = subst (ValueSeen k c) e h

  value_kept : (b : Bool) (v x : Value) → only_if b v ≡ Some x → ValueSeen k c v → ValueSeen k c x
  value_kept true v x e h = value_so v x (some_is v x e) h
  value_kept false v x e h = absurd cc

  basic_seen : (b : Base) (w : Want) (v x : Value) → basic_becomes b w v ≡ Some x → ValueSeen k c v → ValueSeen k c x
  basic_seen base.Byte (basic base.Byte) v x e h = value_so v x (some_is v x e) h
  basic_seen base.Byte (basic base.Int) v x e h = value_so (values.Monadic one.Int v) x (some_is (values.Monadic one.Int v) x e) (monadic_seen k c one.Int v h)
  basic_seen base.Byte _ v x e h = absurd cc
  basic_seen base.Int (basic base.Int) v x e h = value_so v x (some_is v x e) h
  basic_seen base.Int _ v x e h = absurd cc
  basic_seen base.Frac (basic base.Frac) v x e h = value_so v x (some_is v x e) h
  basic_seen base.Frac _ v x e h = absurd cc

  past_seen : (v : Value) → ValueSeen k c v → ValueSeen k c (past v)
  past_seen v h = read_seen k c (places.Through v) (through_seen k c v h)

  abbrev Becoming : Mode → Type 0
  Becoming m = (w : Want) (v x : Value) → becomes m w v ≡ Some x → ValueSeen k c v → ValueSeen k c x

  abbrev Pair : Type 0
  Pair = (m : Mode) × Becoming m

  ref_split : (n : Mode) (w : Want) (v x : Value) (b : Bool) → (if b then Some v else becomes n w (past v)) ≡ Some x → ValueSeen k c v → Becoming n → ValueSeen k c x
  ref_split n w v x true e h go = value_so v x (some_is v x e) h
  ref_split n w v x false e h go = go w (past v) x e (past_seen v h)

  becoming : (m : Mode) (y : Mode-F Pair) → out-Mode m ≡ map-Mode Pair Mode (λ e. e.0) y → Becoming m
  becoming m Mode-F.Byte o w v x e h = basic_seen base.Byte w v x (sym (becomes_at m Mode-F.Byte w v o) ∙ e) h
  becoming m Mode-F.Int o w v x e h = basic_seen base.Int w v x (sym (becomes_at m Mode-F.Int w v o) ∙ e) h
  becoming m Mode-F.Frac o w v x e h = basic_seen base.Frac w v x (sym (becomes_at m Mode-F.Frac w v o) ∙ e) h
  becoming m Mode-F.Label o w v x e h = absurd (let bad : None ≡ Some x = sym (becomes_at m Mode-F.Label w v o) ∙ e in cc)
  becoming m (Mode-F.Ref n) o w v x e h = ref_split n.0 w v x (is_ref (same n.0) w) (sym (becomes_at m (Mode-F.Ref n.0) w v o) ∙ e) h n.1
  becoming m (Mode-F.RefArray n) o w v x e h = value_kept (is_row (same n.0) w) v x (sym (becomes_at m (Mode-F.RefArray n.0) w v o) ∙ e) h
  becoming m (Mode-F.Array j n) o w v x e h = absurd (let bad : None ≡ Some x = sym (becomes_at m (Mode-F.Array j n.0) w v o) ∙ e in cc)
  becoming m (Mode-F.Record r) o w v x e h = absurd (let bad : None ≡ Some x = sym (becomes_at m (Mode-F.Record r) w v o) ∙ e in cc)
  becoming m (Mode-F.Proc ps None) o w v x e h = value_kept _ v x (sym (becomes_at m (Mode-F.Proc (map (λ (z : Pair). z.0) ps) None) w v o) ∙ e) h
  becoming m (Mode-F.Proc ps (Some r)) o w v x e h = value_kept _ v x (sym (becomes_at m (Mode-F.Proc (map (λ (z : Pair). z.0) ps) (Some r.0)) w v o) ∙ e) h

  becomes_seen : (m : Mode) → Becoming m
  becomes_seen = ind-Mode Becoming (λ x y is. becoming (roll-Mode x) y (out_roll x ∙ sym is))

  -- ---- what an expression is by itself

  abbrev pub IsSeen : Is → Type 0
  IsSeen (number n) = n < 65536
  IsSeen (text n) = Unit {0}
  IsSeen (brick b m) = Unit {0}
  IsSeen (place p m st) = PlaceSeen k c p
  IsSeen (loop i) = k i ≡ true
  IsSeen (result v m) = ValueSeen k c v
  IsSeen (computed v b) = ValueSeen k c v
  IsSeen (done v) = ValueSeen k c v

  through_place : (p : Place) → PlaceSeen k c p → PlaceSeen k c (through p)
  through_place p h = through_seen k c (values.Read p) (read_seen k c p h)

  -- ---- records

  abbrev pub RecordSeen : Option (Place × ℕ × Standing) → Type 0
  RecordSeen None = Unit {0}
  RecordSeen (Some x) = PlaceSeen k c x.0

  shared_seen : (p : Place) (o : Option ℕ) → PlaceSeen k c p → RecordSeen (shared_record p o)
  shared_seen p None h = tt
  shared_seen p (Some r) h = h

  place_record_seen : (p : Place) (st : Standing) (o behind : Option ℕ) → PlaceSeen k c p → RecordSeen (place_record p st o behind)
  place_record_seen p st (Some r) behind h = h
  place_record_seen p st None behind h = shared_seen (through p) behind (through_place p h)

  pub record_seen : (is : Is) → IsSeen is → RecordSeen (record_in is)
  record_seen (place p m st) h = place_record_seen p st (record_of (out-Mode m)) (record_behind (ref_of (out-Mode m))) h
  record_seen (result v m) h = shared_seen (places.Through v) (record_behind (ref_of (out-Mode m))) (through_seen k c v h)
  record_seen _ h = tt

  -- ---- VAL

  abbrev pub TargetSeen : Option (Place × Mode) → Type 0
  TargetSeen None = Unit {0}
  TargetSeen (Some x) = PlaceSeen k c x.0

  with_place_seen : (p : Place) (o : Option Mode) → PlaceSeen k c p → TargetSeen (with_place p o)
  with_place_seen p None h = tt
  with_place_seen p (Some m) h = h

  pub target_seen : (is : Is) → IsSeen is → TargetSeen (target_of is)
  target_seen (place p m st) h = with_place_seen (through p) (ref_of (out-Mode m)) (through_place p h)
  target_seen (result v m) h = with_place_seen (places.Through v) (ref_of (out-Mode m)) (through_seen k c v h)
  target_seen _ h = tt

  -- ---- LENGTH

  abbrev pub AnyPlaceSeen : Option Place → Type 0
  AnyPlaceSeen None = Unit {0}
  AnyPlaceSeen (Some p) = PlaceSeen k c p

  abbrev Leading : Mode → Type 0
  Leading m = (p : Place) → PlaceSeen k c p → AnyPlaceSeen (array_at m p)

  abbrev Array : Type 0
  Array = (m : Mode) × Leading m

  leading : (m : Mode) (y : Mode-F Array) → out-Mode m ≡ map-Mode Array Mode (λ e. e.0) y → Leading m
  leading m (Mode-F.Array j n) o p h = subst AnyPlaceSeen (sym (array_opened m (Mode-F.Array j n.0) p o)) h
  leading m (Mode-F.RefArray n) o p h = subst AnyPlaceSeen (sym (array_opened m (Mode-F.RefArray n.0) p o)) (through_place p h)
  leading m (Mode-F.Ref n) o p h = subst AnyPlaceSeen (sym (array_opened m (Mode-F.Ref n.0) p o)) (n.1 (through p) (through_place p h))
  leading m Mode-F.Byte o p h = subst AnyPlaceSeen (sym (array_opened m Mode-F.Byte p o)) tt
  leading m Mode-F.Int o p h = subst AnyPlaceSeen (sym (array_opened m Mode-F.Int p o)) tt
  leading m Mode-F.Frac o p h = subst AnyPlaceSeen (sym (array_opened m Mode-F.Frac p o)) tt
  leading m Mode-F.Label o p h = subst AnyPlaceSeen (sym (array_opened m Mode-F.Label p o)) tt
  leading m (Mode-F.Record r) o p h = subst AnyPlaceSeen (sym (array_opened m (Mode-F.Record r) p o)) tt
  leading m (Mode-F.Proc ps None) o p h = subst AnyPlaceSeen (sym (array_opened m (Mode-F.Proc (map (λ e. e.0) ps) None) p o)) tt
  leading m (Mode-F.Proc ps (Some r)) o p h = subst AnyPlaceSeen (sym (array_opened m (Mode-F.Proc (map (λ e. e.0) ps) (Some r.0)) p o)) tt

  place_array : (m : Mode) → Leading m
  place_array = ind-Mode Leading (λ x y is. leading (roll-Mode x) y (out_roll x ∙ sym is))

  result_array : (l : Mode-F Mode) (v : Value) → ValueSeen k c v → AnyPlaceSeen (row_result l v)
  result_array (Mode-F.RefArray n) v h = through_seen k c v h
  result_array (Mode-F.Ref n) v h = place_array n (places.Through v) (through_seen k c v h)
  result_array _ v h = tt

  pub array_seen : (is : Is) → IsSeen is → AnyPlaceSeen (array_in is)
  array_seen (text n) h = through_seen k c (values.Text n) (text_seen k c n)
  array_seen (place p m st) h = place_array m p h
  array_seen (result v m) h = result_array (out-Mode m) v h
  array_seen _ h = tt

  -- ---- what is assigned, and what is called

  abbrev SomeSeen : Option Place → Type 0
  SomeSeen None = ⊥
  SomeSeen (Some p) = PlaceSeen k c p

  pub assigned_seen : (at : At) (is : Is) (q : Place) (n : Mode) → IsSeen is → assigned_is at true is ≡ Ok (Some q, n) → PlaceSeen k c q
  assigned_seen at (place p m st) q n h e = by_whole (is_whole (out-Mode m)) e where
    to : Option Place × Mode
    to = (Some p, m)

    by_whole : (b : Bool) → (if b then Err (fault.NotAssignable at) else Ok to) ≡ Ok (Some q, n) → PlaceSeen k c q
    by_whole true g = absurd cc
    by_whole false g = subst (λ (y : Option Place × Mode). SomeSeen y.0) (ok_is to (Some q, n) _ refl g) h
  assigned_seen at _ q n h e = absurd cc

  pub called_seen : (at : At) (is : Is) (x : Value) → IsSeen is → called_is at is ≡ Ok x → ValueSeen k c x
  called_seen at (result v m) x h e = value_so v x (ok_is v x _ refl e) h
  called_seen at (done v) x h e = value_so v x (ok_is v x _ refl e) h
  called_seen at _ x h e = absurd cc

  -- ---- parentheses

  abbrev pub ReachSeen : Reach → Type 0
  ReachSeen (rows p m st) = PlaceSeen k c p
  ReachSeen (calls f ps r) = CalleeSeen k c f
  ReachSeen neither = Unit {0}

  proc_reached : (l : Mode-F Mode) (f : Callee) → CalleeSeen k c f → ReachSeen (proc_reach l f)
  proc_reached (Mode-F.Proc ps r) f h = h
  proc_reached _ f h = tt

  place_reached : (l : Mode-F Mode) (p : Place) (st : Standing) → PlaceSeen k c p → ReachSeen (place_reach l p st)
  place_reached (Mode-F.Array n m) p st h = h
  place_reached (Mode-F.RefArray m) p st h = through_place p h
  place_reached (Mode-F.Proc ps r) p st h = callee_seen k c (values.Read p) (read_seen k c p h)
  place_reached _ p st h = tt

  result_reached : (l : Mode-F Mode) (v : Value) → ValueSeen k c v → ReachSeen (result_reach l v)
  result_reached (Mode-F.RefArray m) v h = through_seen k c v h
  result_reached (Mode-F.Proc ps r) v h = callee_seen k c v h
  result_reached _ v h = tt

  pub call_is_seen : (f : Callee) (r : Option Mode) (xs : List Value) → CalleeSeen k c f → TermsNamed any_name k (terms_of (map (valued c) xs)) → IsSeen (called f r xs)
  call_is_seen f None xs h g = call_seen k c f xs h g
  call_is_seen f (Some m) xs h g = call_seen k c f xs h g

  module _ (all : AllShort c) where
    pub reach_seen : (is : Is) → IsSeen is → ReachSeen (reach is)
    reach_seen (brick b m) h = proc_reached (out-Mode m) (callees.Brick b) (brick_seen k c all b)
    reach_seen (place p m st) h = place_reached (out-Mode m) p st h
    reach_seen (result v m) h = result_reached (out-Mode m) v h
    reach_seen _ h = tt

    -- ---- where a mode is wanted

    refer_seen : (at : At) (p : Place) (st : Standing) (x : Value) → PlaceSeen k c p → refer at p st ≡ Ok x → ValueSeen k c x
    refer_seen at p standing.Shared x h e = value_so (values.Reference p) x (ok_is (values.Reference p) x _ refl e) (reference_seen k c p h)
    refer_seen at p standing.Private x h e = absurd cc

    place_suits_seen : (at : At) (p : Place) (m : Mode) (st : Standing) (w : Want) (x : Value) (b : Bool) → PlaceSeen k c p
        → (if b then refer at p st else or_fault (fault.WrongMode at) (becomes m w (values.Read p))) ≡ Ok x → ValueSeen k c x
    place_suits_seen at p m st w x true h e = refer_seen at p st x h e
    place_suits_seen at p m st w x false h e = becomes_seen m w (values.Read p) x (or_some (fault.WrongMode at) (becomes m w (values.Read p)) x e) (read_seen k c p h)

    loop_suits_seen : (at : At) (i : ℕ) (w : Want) (x : Value) (b : Bool) → k i ≡ true
        → (if b then Err (fault.RefOfLocal at) else or_fault (fault.WrongMode at) (basic_becomes base.Int w (values.Read (places.Local i)))) ≡ Ok x → ValueSeen k c x
    loop_suits_seen at i w x true h e = absurd cc
    loop_suits_seen at i w x false h e =
        basic_seen base.Int w (values.Read (places.Local i)) x (or_some (fault.WrongMode at) (basic_becomes base.Int w (values.Read (places.Local i))) x e) (read_seen k c (places.Local i) (local_seen k c all i h))

    pub suits_seen : (at : At) (is : Is) (w : Want) (x : Value) → IsSeen is → suits_by at is w ≡ Ok x → ValueSeen k c x
    suits_seen at (number n) w x h e = value_kept _ (values.Number n) x (or_some (fault.WrongMode at) _ x e) (number_seen k c n h)
    suits_seen at (text n) w x h e = value_kept _ (values.Text n) x (or_some (fault.WrongMode at) _ x e) (text_seen k c n)
    suits_seen at (brick b m) w x h e = value_kept _ (values.Proc b) x (or_some (fault.WrongMode at) _ x e) (proc_seen k c all b)
    suits_seen at (place p m st) w x h e = place_suits_seen at p m st w x (wants_reference m w) h e
    suits_seen at (loop i) w x h e = loop_suits_seen at i w x (is_ref (λ m. is_int (out-Mode m)) w) h e
    suits_seen at (result v m) w x h e = becomes_seen m w v x (or_some (fault.WrongMode at) (becomes m w v) x e) h
    suits_seen at (computed v b) w x h e = basic_seen b w v x (or_some (fault.WrongMode at) (basic_becomes b w v) x e) h
    suits_seen at (done v) w x h e = absurd cc

    -- ---- names

    svc_is_seen : (at : At) (j : ℕ) (m : Mode) (is : Is) (b : Bool) → (if b then Err (fault.LeftOut 2 at) else Ok (place (places.Svc j) m standing.Private)) ≡ Ok is → IsSeen is
    svc_is_seen at j m is true e = absurd cc
    svc_is_seen at j m is false e = subst IsSeen (ok_is (place (places.Svc j) m standing.Private) is _ refl e) (svc_seen k c all j)

    meaning_seen : (at : At) (x : Meaning) (is : Is) → LocalSeen k x → named at (Some x) ≡ Ok is → IsSeen is
    meaning_seen at (meaning.Proc b m) is h e = subst IsSeen (ok_is (brick b m) is _ refl e) tt
    meaning_seen at (meaning.Item b j m) is h e = subst IsSeen (ok_is (place (places.Item b j) m standing.Shared) is _ refl e) (item_seen k c all b j)
    meaning_seen at (meaning.SvcItem b j m) is h e = subst IsSeen (ok_is (place (places.Item b j) m standing.Private) is _ refl e) (item_seen k c all b j)
    meaning_seen at (meaning.Svc j m) is h e = svc_is_seen at j m is (j == 0) e
    meaning_seen at (meaning.Local i m) is h e = subst IsSeen (ok_is (place (places.Local i) m standing.Private) is _ refl e) (local_seen k c all i h)
    meaning_seen at (meaning.Loop i) is h e = subst IsSeen (ok_is (loop i) is _ refl e) h
    meaning_seen at _ is h e = absurd cc

    pub name_seen : (at : At) (o : Option Meaning) (is : Is) → ((x : Meaning) → o ≡ Some x → LocalSeen k x) → named at o ≡ Ok is → IsSeen is
    name_seen at None is h e = absurd cc
    name_seen at (Some x) is h e = meaning_seen at x is (h x refl) e
