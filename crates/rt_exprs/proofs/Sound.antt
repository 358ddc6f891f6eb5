-- What is found can be known, and a fault that is answered stands.
use Rattle.std.proofs.Common.{◌≡◌, ℕ, ◌==◌, Bool, true, false, List, [], ◌∷◌, ◌++◌, length, Option, Some, None, Ok, Err, ◌⊎◌, inl, inr, map, arith, refl, sym, ap, ◌∙◌, subst, append_assoc}
use Rattle.std.proofs.lemmas.List.{append-nil, length-map}
use Rattle.std.proofs.lemmas.Bool.Decides.{nat_tests}
use Rattle.std.specs.Prelude.{if◌then◌else◌}
use Rattle.rt_grammar.specs.declared.at.At.{At}
use Rattle.rt_grammar.specs.declared.at.Ident.{Ident}
use Rattle.rt_syntax_exprs.specs.declared.tree.Op1.{Op1}
use Rattle.rt_syntax_exprs.specs.declared.tree.Op2.{Op2}
use Rattle.rt_syntax_exprs.specs.declared.tree.Expr.{Expr, out-Expr, roll-Expr, map-Expr}
use Rattle.rt_syntax_exprs.specs.declared.tree.Expr.TheOpen.{Expr-F, Link-F, Chain-F}
use Rattle.rt_syntax_exprs.specs.declared.tree.Expr.TheFolds.{ind-Expr, ind-Chain}
use Rattle.rt_syntax_exprs.specs.declared.tree.Expr as expressions
use Rattle.rt_syntax_exprs.specs.declared.tree.Link as links
use Rattle.rt_syntax_exprs.specs.declared.tree.Chain.{Chain, out-Chain, roll-Chain, map-Chain}
use Rattle.rt_syntax_exprs.specs.declared.tree.Link.{Link, out-Link, roll-Link, map-Link}
use Rattle.rt_modes.specs.declared.mode.Mode.{Mode, out-Mode}
use Rattle.rt_tree_nodes.specs.declared.operators.Op1.{Op1 as Made1}
use Rattle.rt_tree_nodes.specs.declared.value.Callee.{Callee}
use Rattle.rt_tree_nodes.specs.declared.value.Place.{Place}
use Rattle.rt_tree_nodes.specs.declared.value.Place.TheVariants as places
use Rattle.rt_tree_nodes.specs.declared.value.Value.{Value}
use Rattle.rt_tree_nodes.specs.declared.value.Value.TheVariants as values
use Rattle.rt_check_faults.specs.declared.fault.CheckFault.{CheckFault}
use Rattle.rt_check_faults.specs.declared.fault.CheckFault.TheVariants as fault
use Rattle.rt_exprs.specs.declared.operand.Base.{Base}
use Rattle.rt_exprs.specs.declared.operand.Base.TheVariants as base
use Rattle.rt_exprs.specs.declared.operand.Standing.{Standing}
use Rattle.rt_exprs.specs.Sights.{Sight}
use Rattle.rt_exprs.specs.Modes.{Want, basic, want}
use Rattle.rt_check_faults.specs.Outcomes.{Outcome, ◌>>=◌, both, after, is_unknown, sooner, unknown, fault_of, told}
use Rattle.rt_exprs.specs.Operands.{Is, Judged, place, computed, done, named, first_field, is_label, suits, suits_as, if_known, fits, alone_is, by_itself}
use Rattle.rt_exprs.specs.Names.{find, text_by}
use Rattle.rt_exprs.specs.Judging.{judged, linked, judged_chain, walk, seen_as, val, val_by, target_of, monadic, monadic_by, of_unknown_by, made_monadic, takes, gives, gives_always, base_in, array_in, of_int, is_shift, right_alone, frac_or_int, right_takes, made_dyadic, computes, dyadic, left_first, dot, dot_by, field_at, field_with, record_in, Reach, rows, calls, neither, reach, called, apply_by, all_alone, arguments_from, if_counted}
use Rattle.rt_exprs.specs.Fitting as f
use Rattle.rt_exprs.specs.Fitting.{Shows, ShowsChain, ShowsLinks, ShowsLink, Takes, TakeEach, Alone, AllAlone, RightAlone, FaultIn, FaultInChain, FaultInLinks, FaultInLink, Unfit, UnfitAmong, UnfitAlone, UnfitSomewhere, Nothing, string_at, Names, pushed, with_operands, with_operand}
use Rattle.rt_exprs.proofs.Real.{suits_real}
use Rattle.rt_check_faults.proofs.Told.{Bad, hid, bad, is_it, Tells, Pair, Either, joined, both_tells, or_other_tells, tells_told}
use Rattle.rt_exprs.proofs.Trees.{opened_number, opened_text, opened_chain, opened_val, opened_monadic, opened_dyadic, opened_dot, opened_apply, chain_as}

abbrev pub SoundIs : Sight → Expr → Outcome Judged → Type 0
SoundIs s e t = Tells (Shows s e) (FaultIn s e) t

abbrev pub SoundChain : Sight → Chain → Outcome Judged → Type 0
SoundChain s c t = Tells (ShowsChain s c) (FaultInChain s c) t

abbrev pub SoundFit : Sight → Expr → Want → Outcome Value → Type 0
SoundFit s e w t = Tells (Takes s e w) (Unfit s e w) t

fit_by : (s : Sight) (e : Expr) (w : Want) (j : Judged) → Shows s e (Some j) → (r : Outcome Value) → suits j.found w ≡ r → (k : Bool) → j.known ≡ k → SoundFit s e w (if_known k r)
fit_by s e w j h (Ok x) is true k = f.is_taken h (rw (k, is) refl)
fit_by s e w j h (Ok x) is false k = hid (f.is_taken h (rw (k, is) refl))
fit_by s e w j h (Err g) is true k = bad (suits_real j.found w g is) (f.unfit_here h is)
fit_by s e w j h (Err g) is false k = bad (suits_real j.found w g is) (f.unfit_here h is)

pub sound_fit : (s : Sight) (e : Expr) (w : Want) (t : Outcome Judged) → SoundIs s e t → SoundFit s e w (fits t w)
sound_fit s e w (Ok j) h = fit_by s e w j h (suits j.found w) refl j.known refl
sound_fit s e w (Err _) (hid h) = hid (f.taken_hidden h)
sound_fit s e w (Err g) (bad n h) = bad n (f.unfit_inside h)

-- ---- by itself

alone_by : (s : Sight) (e : Expr) (j : Judged) → Shows s e (Some j) → (is : Is) → j.found.is ≡ is → Bad (Alone s e) (UnfitAlone s e) (alone_is j.found.at is)
alone_by s e j h (done v) is = bad refl (f.alone_done h is)
alone_by s e j h _ is = hid (f.alone h (rw is refl))

pub sound_alone : (s : Sight) (e : Expr) (t : Outcome Judged) → SoundIs s e t → Bad (Alone s e) (UnfitAlone s e) (by_itself t)
sound_alone s e (Ok j) h = alone_by s e j h j.found.is refl
sound_alone s e (Err _) (hid h) = hid (f.alone_hidden h)
sound_alone s e (Err g) (bad n h) = bad n (f.alone_inside h)

-- ---- strings

module _ (s : Sight) (e : Expr) (t : List ℕ) (at : At) (o : out-Expr e ≡ Expr-F.Text t at) where
  text_sound : (p : Option ℕ) → string_at s at ≡ p → SoundIs s e (text_by at p)
  text_sound None is = bad refl (f.no_string o is)
  text_sound (Some n) is = f.shows_text o is

-- ---- VAL

module _ (s : Sight) (e : Expr) (c : Chain) (at : At) (o : out-Expr e ≡ Expr-F.Val c at) where
  val_at : (j : Judged) → ShowsChain s c (Some j) → (r : Option (Place × Mode)) → target_of j.found.is ≡ r → SoundIs s e (val_by at j.found.at j.known r)
  val_at j h None is = bad refl (f.no_ref o h is)
  val_at j h (Some (p, m)) is = f.shows_val o h is

  pub val_sound : (t : Outcome Judged) → SoundChain s c t → SoundIs s e (val at t)
  val_sound (Ok j) h = val_at j h (target_of j.found.is) refl
  val_sound (Err _) (hid h) = hid (f.hides_val o h)
  val_sound (Err g) (bad n h) = bad n (f.in_val o h)

-- ---- operators

module _ (s : Sight) (e a : Expr) (op : Op1) (at : At) (o : out-Expr e ≡ Expr-F.Monadic op a at) where
  length_at : (j : Judged) → Shows s a (Some j) → made_monadic op ≡ None → (r : Option Place) → array_in j.found.is ≡ r → SoundIs s e (monadic_by at op j None)
  length_at j h m None is = rw is (bad refl (f.no_array o m h is))
  length_at j h m (Some p) is = rw is (f.shows_length o m h is)

  abbrev OperandTold : Judged → Option Value → Type 0
  OperandTold j x = suits_as j (basic (takes op (base_in j.found.is))) ≡ told x

  operand_told : (j : Judged) → (r : Outcome Value) → suits j.found (basic (takes op (base_in j.found.is))) ≡ r → (k : Bool) → j.known ≡ k
      → Tells (OperandTold j) (λ g. suits j.found (basic (takes op (base_in j.found.is))) ≡ Err g) (if_known k r)
  operand_told j (Ok x) is true k = rw (k, is) refl
  operand_told j (Ok x) is false k = hid (rw (k, is) refl)
  operand_told j (Err g) is true k = bad (suits_real j.found (basic (takes op (base_in j.found.is))) g is) is
  operand_told j (Err g) is false k = bad (suits_real j.found (basic (takes op (base_in j.found.is))) g is) is

  made_at : (j : Judged) → Shows s a (Some j) → (k : Made1) → made_monadic op ≡ Some k → SoundIs s e (monadic_by at op j (Some k))
  made_at j h k m =
      or_other_tells (OperandTold j) (λ g. suits j.found (basic (takes op (base_in j.found.is))) ≡ Err g) (FaultIn s e) (Shows s e) (values.Number 0) true (λ x. seen_as x.1 at (computed (values.Monadic k x.0) (gives op (base_in j.found.is)))) (λ x is. f.shows_monadic x o m h is) (λ g is. f.unfit_operand o m h is)
      (suits_as j (basic (takes op (base_in j.found.is)))) (operand_told j (suits j.found (basic (takes op (base_in j.found.is)))) refl j.known refl)

  monadic_at : (j : Judged) → Shows s a (Some j) → (r : Option Made1) → made_monadic op ≡ r → SoundIs s e (monadic_by at op j r)
  monadic_at j h None m = length_at j h m (array_in j.found.is) refl
  monadic_at j h (Some k) m = made_at j h k m

  always_at : Shows s a None → (b : Option Base) → gives_always op ≡ b → SoundIs s e (of_unknown_by at b)
  always_at h None is = hid (f.hides_monadic o h is)
  always_at h (Some b) is = f.shows_always o h is

  fault_at : (g : CheckFault) → is_unknown g ≡ false → monadic at op (Err g) ≡ Err g
  fault_at fault.Memory n = refl
  fault_at (fault.UnknownName at) n = refl
  fault_at (fault.WrongMode at) n = refl
  fault_at (fault.NotAssignable at) n = refl
  fault_at (fault.WrongCount at) n = refl
  fault_at (fault.RefOfLocal at) n = refl
  fault_at (fault.LeftOut form at) n = refl
  fault_at (fault.DeclaredTwice at) n = refl
  fault_at (fault.BadStart at) n = refl
  fault_at (fault.UnknownLabel at) n = refl
  fault_at (fault.NoResult at) n = refl
  fault_at fault.Unknown n = absurd cc

  pub monadic_sound : (t : Outcome Judged) → SoundIs s a t → SoundIs s e (monadic at op t)
  monadic_sound (Ok j) h = monadic_at j h (made_monadic op) refl
  monadic_sound (Err _) (hid h) = always_at h (gives_always op) refl
  monadic_sound (Err g) (bad n h) = subst (SoundIs s e) (sym (fault_at g n)) (bad n (f.in_operand o h))

module _ (s : Sight) (e a b : Expr) (op : Op2) (at : At) (o : out-Expr e ≡ Expr-F.Dyadic op a b at) where
  ints_sound : of_int op ≡ true → (x y : Outcome Value) → SoundFit s a (basic base.Int) x → SoundFit s b (basic base.Int) y → SoundIs s e (computes at op base.Int (both x y))
  ints_sound i x y h k = or_other_tells (Pair (Takes s a (basic base.Int)) (Takes s b (basic base.Int))) (Either (Unfit s a (basic base.Int)) (Unfit s b (basic base.Int))) (FaultIn s e) (Shows s e) (values.Number 0, values.Number 0) true (λ x. seen_as x.1 at (computed (values.Dyadic (made_dyadic op base.Int) x.0.0 x.0.1) base.Int)) shown stands (both x y) (both_tells (Takes s a (basic base.Int)) (Takes s b (basic base.Int)) (Unfit s a (basic base.Int)) (Unfit s b (basic base.Int)) x y h k) where
    shown : (r : Option (Value × Value)) → Pair (Takes s a (basic base.Int)) (Takes s b (basic base.Int)) r → Shows s e (Some (with_operands at op base.Int r))
    shown r (x, y, h, k, is) = subst (λ (r : Option (Value × Value)). Shows s e (Some (with_operands at op base.Int r))) is (f.shows_of_int o i h k)

    stands : (g : CheckFault) → Either (Unfit s a (basic base.Int)) (Unfit s b (basic base.Int)) g → FaultIn s e g
    stands g (inl u) = f.left_of_int o i u
    stands g (inr u) = f.right_of_int o i u

  abbrev LeftTold : Judged → Base → Option Value → Type 0
  LeftTold j w x = suits_as j (basic w) ≡ told x

  left_told : (j : Judged) (w : Base) → (r : Outcome Value) → suits j.found (basic w) ≡ r → (k : Bool) → j.known ≡ k → Tells (LeftTold j w) (λ g. suits j.found (basic w) ≡ Err g) (if_known k r)
  left_told j w (Ok x) is true k = rw (k, is) refl
  left_told j w (Ok x) is false k = hid (rw (k, is) refl)
  left_told j w (Err g) is true k = bad (suits_real j.found (basic w) g is) is
  left_told j w (Err g) is false k = bad (suits_real j.found (basic w) g is) is

  sides_sound : of_int op ≡ false → (j : Judged) → Shows s a (Some j) → (y : Outcome Value) → SoundFit s b (basic (right_takes op (frac_or_int (base_in j.found.is)))) y
      → SoundIs s e (computes at op (frac_or_int (base_in j.found.is)) (both (suits_as j (basic (frac_or_int (base_in j.found.is)))) y))
  sides_sound i j h y k =
      or_other_tells (Pair (LeftTold j (frac_or_int (base_in j.found.is))) (Takes s b (basic (right_takes op (frac_or_int (base_in j.found.is)))))) (Either (λ g. suits j.found (basic (frac_or_int (base_in j.found.is))) ≡ Err g) (Unfit s b (basic (right_takes op (frac_or_int (base_in j.found.is)))))) (FaultIn s e) (Shows s e) (values.Number 0, values.Number 0) true (λ x. seen_as x.1 at (computed (values.Dyadic (made_dyadic op (frac_or_int (base_in j.found.is))) x.0.0 x.0.1) (frac_or_int (base_in j.found.is)))) shown stands
      (both (suits_as j (basic (frac_or_int (base_in j.found.is)))) y) (both_tells (LeftTold j (frac_or_int (base_in j.found.is))) (Takes s b (basic (right_takes op (frac_or_int (base_in j.found.is))))) (λ g. suits j.found (basic (frac_or_int (base_in j.found.is))) ≡ Err g) (Unfit s b (basic (right_takes op (frac_or_int (base_in j.found.is))))) (suits_as j (basic (frac_or_int (base_in j.found.is)))) y (left_told j (frac_or_int (base_in j.found.is)) (suits j.found (basic (frac_or_int (base_in j.found.is)))) refl j.known refl) k) where
        shown : (r : Option (Value × Value)) → Pair (LeftTold j (frac_or_int (base_in j.found.is))) (Takes s b (basic (right_takes op (frac_or_int (base_in j.found.is))))) r → Shows s e (Some (with_operands at op (frac_or_int (base_in j.found.is)) r))
        shown r (x, y, is, k, same) = subst (λ (r : Option (Value × Value)). Shows s e (Some (with_operands at op (frac_or_int (base_in j.found.is)) r))) same (f.shows_by_left x o i h is k)

        stands : (g : CheckFault) → Either (λ g. suits j.found (basic (frac_or_int (base_in j.found.is))) ≡ Err g) (Unfit s b (basic (right_takes op (frac_or_int (base_in j.found.is))))) g → FaultIn s e g
        stands g (inl is) = f.unfit_left o i h is
        stands g (inr u) = f.unfit_right o i h u

  count_alone : is_shift op ≡ true → (t : Outcome Value) → SoundFit s b (basic base.Int) t → Bad (RightAlone s op b) (Unfit s b (basic base.Int)) (fault_of t)
  count_alone i (Ok x) h = hid (f.alone_count i h)
  count_alone i (Err _) (hid h) = hid (f.alone_count i h)
  count_alone i (Err g) (bad n h) = bad n h

  abbrev RightFault : CheckFault → Type 0
  RightFault g = ((is_shift op ≡ true) × Unfit s b (basic base.Int) g) ⊎ ((is_shift op ≡ false) × UnfitAlone s b g)

  right_by : (c : Bool) → is_shift op ≡ c → (u : Outcome Judged) → SoundIs s b u → Bad (RightAlone s op b) RightFault (if c then fault_of (fits u (basic base.Int)) else by_itself u)
  right_by true i u h = weaker (λ k. k) (λ g k. inl (i, k)) _ (count_alone i (fits u (basic base.Int)) (sound_fit s b (basic base.Int) u h)) where
    weaker : {H J : Type 0} {F G : CheckFault → Type 0} → (H → J) → ((g : CheckFault) → F g → G g) → (g : CheckFault) → Bad H F g → Bad J G g
    weaker hs fs _ (hid h) = hid (hs h)
    weaker hs fs g (bad n h) = bad n (fs g h)
  right_by false i u h = weaker (λ k. f.alone_right i k) (λ g k. inr (i, k)) _ (sound_alone s b u h) where
    weaker : {H J : Type 0} {F G : CheckFault → Type 0} → (H → J) → ((g : CheckFault) → F g → G g) → (g : CheckFault) → Bad H F g → Bad J G g
    weaker hs fs _ (hid h) = hid (hs h)
    weaker hs fs g (bad n h) = bad n (fs g h)

  right_fault : of_int op ≡ false → Nothing s a → (g : CheckFault) → RightFault g → FaultIn s e g
  right_fault i none g (inl (c, u)) = f.unfit_count o i none c u
  right_fault i none g (inr (c, u)) = f.right_by_itself o i none c u

  left_sound : of_int op ≡ false → (t u : Outcome Judged) → SoundIs s a t → SoundIs s b u → SoundIs s e (left_first at op t u)
  left_sound i (Ok j) u h k = sides_sound i j h (fits u (basic (right_takes op (frac_or_int (base_in j.found.is))))) (sound_fit s b (basic (right_takes op (frac_or_int (base_in j.found.is)))) u k)
  left_sound i (Err _) u (hid h) k = joined (λ h k. f.hides_by_left o i h k) (λ q x. x) (right_fault i (f.hidden h)) fault.Unknown (right_alone op u) (hid h) (right_by (is_shift op) refl u k)
  left_sound i (Err g) u (bad n h) k = joined {H = ⊥} (λ h k. absurd h) (λ q x. x) (right_fault i (f.unfit h)) g (right_alone op u) (bad n (f.in_left o i h)) (right_by (is_shift op) refl u k)

  kind_sound : (c : Bool) → of_int op ≡ c → (t u : Outcome Judged) → SoundIs s a t → SoundIs s b u
      → SoundIs s e (if c then computes at op base.Int (both (fits t (basic base.Int)) (fits u (basic base.Int))) else left_first at op t u)
  kind_sound true i t u h k = ints_sound i (fits t (basic base.Int)) (fits u (basic base.Int)) (sound_fit s a (basic base.Int) t h) (sound_fit s b (basic base.Int) u k)
  kind_sound false i t u h k = left_sound i t u h k

  pub dyadic_sound : (t u : Outcome Judged) → SoundIs s a t → SoundIs s b u → SoundIs s e (dyadic at op t u)
  dyadic_sound t u h k = kind_sound (of_int op) refl t u h k

-- ---- links

module _ (s : Sight) (l : Link) (n : Ident) (at : At) (j : Judged) (o : out-Link l ≡ Link-F.Dot n at) where
  abbrev LinkTells : Outcome Judged → Type 0
  LinkTells t = Tells (ShowsLink s l (Some j)) (FaultInLink s l (Some j)) t

  with_sound : (p : Place) (r : ℕ) (st : Standing) → record_in j.found.is ≡ Some (p, r, st) → (k : ℕ) (m : Mode) → first_field s.records r n.name ≡ Some (k, m) → (y : Bool) → is_label (out-Mode m) ≡ y → LinkTells (field_with y j p st k m)
  with_sound p r st is k m field true y = hid (f.shows_field o is field (rw y refl))
  with_sound p r st is k m field false y = f.shows_field o is field (rw y refl)

  field_sound : (p : Place) (r : ℕ) (st : Standing) → record_in j.found.is ≡ Some (p, r, st) → (k : Option (ℕ × Mode)) → first_field s.records r n.name ≡ k → LinkTells (field_at n.at j p st k)
  field_sound p r st is None k = bad refl (f.no_field o is k)
  field_sound p r st is (Some (i, m)) k = with_sound p r st is i m k (is_label (out-Mode m)) refl

  record_sound : (r : Option (Place × ℕ × Standing)) → record_in j.found.is ≡ r → LinkTells (dot_by s.records n at j r)
  record_sound None is = bad refl (f.no_record o is)
  record_sound (Some (p, r, st)) is = field_sound p r st is (first_field s.records r n.name) refl

  pub dot_sound : LinkTells (dot s.records n at j)
  dot_sound = record_sound (record_in j.found.is) refl

-- each of a list
abbrev pub EachIs : {A : Type 0} → (A → Type 0) → List A → Type 0
EachIs Q [] = Unit {0}
EachIs Q (x ∷ xs) = Q x × EachIs Q xs

abbrev pub JudgedWell : Sight → Expr → Type 0
JudgedWell s e = SoundIs s e (judged s e)

-- ---- arguments

-- what is told of the first arguments and of the rest is told of all
abbrev behind : Option (List Value) → Option (List Value) → Option (List Value)
behind (Some xs) (Some ys) = Some (xs ++ ys)
behind _ _ = None

abbrev Rest : Sight → List Expr → List Mode → (Option (List Value) → Type 0) → Option (List Value) → Type 0
Rest s es ms T r = (o : Option (List Value)) × (p : Option (List Value)) × T o × TakeEach s es ms p × (behind o p ≡ r)

abbrev OrAmong : Sight → List Expr → List Mode → (CheckFault → Type 0) → CheckFault → Type 0
OrAmong s es ms F g = F g ⊎ UnfitAmong s es ms g

abbrev OneMore : Sight → Expr → Mode → (Option (List Value) → Type 0) → Option (List Value) → Type 0
OneMore s e m T r = (o : Option (List Value)) × (x : Option Value) × T o × Takes s e (want m) x × (behind o (pushed x (Some [])) ≡ r)

after_tells : (s : Sight) (e : Expr) (m : Mode) (T : Option (List Value) → Type 0) (F : CheckFault → Type 0) (so_far : Outcome (List Value)) (t : Outcome Value) → Tells T F so_far → SoundFit s e (want m) t
    → Tells (OneMore s e m T) (Either F (Unfit s e (want m))) (after so_far t)
after_tells s e m T F (Ok xs) (Ok x) h k = (Some xs, Some x, h, k, refl)
after_tells s e m T F (Ok xs) (Err _) h (hid k) = hid (Some xs, None, h, k, refl)
after_tells s e m T F (Ok xs) (Err g) h (bad n k) = bad n (inr k)
after_tells s e m T F (Err _) (Ok x) (hid h) k = hid (None, Some x, h, k, refl)
after_tells s e m T F (Err g) (Ok x) (bad n h) k = bad n (inl h)
after_tells s e m T F (Err g) (Err q) h k = joined (λ h k. (None, None, h, k, refl)) (λ q x. inl x) (λ q y. inr y) g q h k

-- more is told by what implies it
pub told_more : {A : Type 0} (T U : Option A → Type 0) (F G : CheckFault → Type 0) → ((o : Option A) → T o → U o) → ((g : CheckFault) → F g → G g) → (t : Outcome A) → Tells T F t → Tells U G t
told_more T U F G hs fs (Ok x) h = hs (Some x) h
told_more T U F G hs fs (Err _) (hid h) = hid (hs None h)
told_more T U F G hs fs (Err g) (bad n h) = bad n (fs g h)

behind_none : (o : Option (List Value)) → behind o (Some []) ≡ o
behind_none None = refl
behind_none (Some xs) = rw (append-nil xs) refl

behind_more : (o : Option (List Value)) (x : Option Value) (p : Option (List Value)) → behind (behind o (pushed x (Some []))) p ≡ behind o (pushed x p)
behind_more None x p = refl
behind_more (Some xs) None p = refl
behind_more (Some xs) (Some x) None = refl
behind_more (Some xs) (Some x) (Some ys) = rw (append_assoc xs (x ∷ []) ys) refl

-- where there are no more arguments, or no more parameters
ends_here : (s : Sight) (es : List Expr) (ms : List Mode) (T : Option (List Value) → Type 0) (F : CheckFault → Type 0) → TakeEach s es ms (Some []) → (t : Outcome (List Value)) → Tells T F t → Tells (Rest s es ms T) (OrAmong s es ms F) t
ends_here s es ms T F none t h = told_more T (Rest s es ms T) F (OrAmong s es ms F) (λ o k. (o, Some [], k, none, behind_none o)) (λ g k. inl k) t h

among_sound : (s : Sight) (es : List Expr) → EachIs (JudgedWell s) es → (ms : List Mode) (T : Option (List Value) → Type 0) (F : CheckFault → Type 0) (so_far : Outcome (List Value)) → Tells T F so_far
    → Tells (Rest s es ms T) (OrAmong s es ms F) (arguments_from so_far (map (judged s) es) ms)
among_sound s [] hs ms T F so_far h = ends_here s [] ms T F f.none_taken so_far h
among_sound s (e ∷ es) hs [] T F so_far h = ends_here s (e ∷ es) [] T F f.no_more_taken so_far h
among_sound s (e ∷ es) (k, hs) (m ∷ ms) T F so_far h =
    told_more (Rest s es ms (OneMore s e m T)) (Rest s (e ∷ es) (m ∷ ms) T) (OrAmong s es ms (Either F (Unfit s e (want m)))) (OrAmong s (e ∷ es) (m ∷ ms) F) shown stands (arguments_from (after so_far (fits (judged s e) (want m))) (map (judged s) es) ms)
    (among_sound s es hs ms (OneMore s e m T) (Either F (Unfit s e (want m))) (after so_far (fits (judged s e) (want m))) (after_tells s e m T F so_far (fits (judged s e) (want m)) h (sound_fit s e (want m) (judged s e) k))) where
      shown : (r : Option (List Value)) → Rest s es ms (OneMore s e m T) r → Rest s (e ∷ es) (m ∷ ms) T r
      shown r (q, p, (o, x, a, b, first), rest, is) = (o, pushed x p, a, f.one_taken b rest, sym (behind_more o x p) ∙ rw first is)

      stands : (g : CheckFault) → OrAmong s es ms (Either F (Unfit s e (want m))) g → OrAmong s (e ∷ es) (m ∷ ms) F g
      stands g (inl (inl a)) = inl a
      stands g (inl (inr u)) = inr (f.unfit_first u)
      stands g (inr u) = inr (f.unfit_rest u)

-- the arguments of a call
abbrev Empty : Option (List Value) → Type 0
Empty o = o ≡ Some []

arguments_sound : (s : Sight) (es : List Expr) → EachIs (JudgedWell s) es → (ms : List Mode) → Tells (TakeEach s es ms) (UnfitAmong s es ms) (arguments_from (Ok []) (map (judged s) es) ms)
arguments_sound s es hs ms = told_more (Rest s es ms Empty) (TakeEach s es ms) (OrAmong s es ms (λ g. ⊥)) (UnfitAmong s es ms) shown stands (arguments_from (Ok []) (map (judged s) es) ms) (among_sound s es hs ms Empty (λ g. ⊥) (Ok []) refl) where
  shown : (r : Option (List Value)) → Rest s es ms Empty r → TakeEach s es ms r
  shown r (o, p, none, h, is) = subst (TakeEach s es ms) (all_behind o p none ∙ is) h where
    all_behind : (o p : Option (List Value)) → o ≡ Some [] → p ≡ behind o p
    all_behind o None e = rw e refl
    all_behind o (Some xs) e = rw e refl

  stands : (g : CheckFault) → OrAmong s es ms (λ g. ⊥) g → UnfitAmong s es ms g
  stands g (inl a) = absurd a
  stands g (inr u) = u

module _ (s : Sight) (l : Link) (es : List Expr) (at : At) (j : Judged) (o : out-Link l ≡ Link-F.Apply es at) (hs : EachIs (JudgedWell s) es) where
  abbrev ApplyTells : Outcome Judged → Type 0
  ApplyTells t = Tells (ShowsLink s l (Some j)) (FaultInLink s l (Some j)) t

  module _ (c : Callee) (ps : List Mode) (r : Option Mode) (is : reach j.found.is ≡ calls c ps r) where
    abbrev Counted : Option (List Value) → Type 0
    Counted xs = TakeEach s es ps xs × (length es ≡ length ps)

    as_equal : (n m : ℕ) → (n == m) ≡ true → n ≡ m
    as_equal n m e = grind (arith, nat_tests)

    as_unequal : (n m : ℕ) → (n == m) ≡ false → n ≡ m → ⊥
    as_unequal n m e g = grind (arith, nat_tests)

    equal_counts : (length (map (judged s) es) == length ps) ≡ true → length es ≡ length ps
    equal_counts test = rw length-map at (as_equal (length (map (judged s) es)) (length ps) test)

    unequal_counts : (length (map (judged s) es) == length ps) ≡ false → length es ≡ length ps → ⊥
    unequal_counts test e = as_unequal (length (map (judged s) es)) (length ps) test (rw length-map e)

    -- a count that isn't right is a fault where no other stands
    fault_counted : (g : CheckFault) → is_unknown g ≡ false → if_counted j.found.at false (Err g) ≡ Err g
    fault_counted fault.Memory n = refl
    fault_counted (fault.UnknownName at) n = refl
    fault_counted (fault.WrongMode at) n = refl
    fault_counted (fault.NotAssignable at) n = refl
    fault_counted (fault.WrongCount at) n = refl
    fault_counted (fault.RefOfLocal at) n = refl
    fault_counted (fault.LeftOut form at) n = refl
    fault_counted (fault.DeclaredTwice at) n = refl
    fault_counted (fault.BadStart at) n = refl
    fault_counted (fault.UnknownLabel at) n = refl
    fault_counted (fault.NoResult at) n = refl
    fault_counted fault.Unknown n = absurd cc

    counted_sound : (b : Bool) → (length (map (judged s) es) == length ps) ≡ b → (t : Outcome (List Value)) → Tells (TakeEach s es ps) (UnfitAmong s es ps) t → Tells Counted (FaultInLink s l (Some j)) (if_counted j.found.at b t)
    counted_sound true test t h = told_more (TakeEach s es ps) Counted (UnfitAmong s es ps) (FaultInLink s l (Some j)) (λ xs k. (k, equal_counts test)) (λ g u. f.in_argument o is u) t h
    counted_sound false test (Ok xs) h = bad refl (f.in_count o is h (unequal_counts test))
    counted_sound false test (Err _) (hid h) = bad refl (f.in_count o is h (unequal_counts test))
    counted_sound false test (Err g) (bad n u) = subst (Tells Counted (FaultInLink s l (Some j))) (sym (fault_counted g n)) (bad n (f.in_argument o is u))

    call_sound : ApplyTells (apply_by at (map (judged s) es) j.found.at j.known (calls c ps r))
    call_sound =
        or_other_tells Counted (FaultInLink s l (Some j)) (FaultInLink s l (Some j)) (ShowsLink s l (Some j)) [] j.known (λ x. seen_as x.1 j.found.at (called c r x.0)) (λ xs k. f.shows_call o is k.0 k.1) (λ g k. k)
        (if_counted j.found.at (length (map (judged s) es) == length ps) (arguments_from (Ok []) (map (judged s) es) ps)) (counted_sound (length (map (judged s) es) == length ps) refl (arguments_from (Ok []) (map (judged s) es) ps) (arguments_sound s es hs ps))

element_sound : (s : Sight) (l : Link) (es : List Expr) (at : At) (j : Judged) → out-Link l ≡ Link-F.Apply es at → EachIs (JudgedWell s) es → (p : Place) (m : Mode) (st : Standing) → reach j.found.is ≡ rows p m st
    → Tells (ShowsLink s l (Some j)) (FaultInLink s l (Some j)) (apply_by at (map (judged s) es) j.found.at j.known (rows p m st))
element_sound s l [] at j o hs p m st is = bad refl (f.not_one o is (λ e. omega arith))
element_sound s l (e ∷ []) at j o (h, hs) p m st is =
    or_other_tells (Takes s e (basic base.Int)) (Unfit s e (basic base.Int)) (FaultInLink s l (Some j)) (ShowsLink s l (Some j)) (values.Number 0) j.known (λ x. seen_as x.1 j.found.at (place (places.Element p x.0) m st)) (λ i k. f.shows_element o is k) (λ g u. f.in_subscript o is u) (fits (judged s e) (basic base.Int)) (sound_fit s e (basic base.Int) (judged s e) h)
element_sound s l (e ∷ d ∷ es) at j o hs p m st is = bad refl (f.not_one o is (λ e. omega arith))

reach_sound : (s : Sight) (l : Link) (es : List Expr) (at : At) (j : Judged) → out-Link l ≡ Link-F.Apply es at → EachIs (JudgedWell s) es → (r : Reach) → reach j.found.is ≡ r
    → Tells (ShowsLink s l (Some j)) (FaultInLink s l (Some j)) (apply_by at (map (judged s) es) j.found.at j.known r)
reach_sound s l es at j o hs (rows p m st) is = element_sound s l es at j o hs p m st is
reach_sound s l es at j o hs (calls c ps r) is = call_sound s l es at j o hs c ps r is
reach_sound s l es at j o hs neither is = bad refl (f.no_call o is)

-- ---- expressions that are judged by themselves

alone_sound : (s : Sight) (es : List Expr) → EachIs (JudgedWell s) es → (H : Type 0) (F : CheckFault → Type 0) (g : CheckFault) → Bad H F g → Bad (H × AllAlone s es) (Either F (UnfitSomewhere s es)) (all_alone g (map (judged s) es))
alone_sound s [] hs H F _ (hid h) = hid (h, f.none_alone)
alone_sound s [] hs H F g (bad n h) = bad n (inl h)
alone_sound s (e ∷ es) (k, hs) H F g h =
    weaker (λ x. (x.0.0, f.one_alone x.0.1 x.1)) stands (all_alone (sooner g (by_itself (judged s e))) (map (judged s) es))
    (alone_sound s es hs (H × Alone s e) (Either F (UnfitAlone s e)) (sooner g (by_itself (judged s e))) (joined (λ a b. (a, b)) (λ q x. inl x) (λ q y. inr y) g (by_itself (judged s e)) h (sound_alone s e (judged s e) k))) where
      weaker : {H J : Type 0} {F G : CheckFault → Type 0} → (H → J) → ((g : CheckFault) → F g → G g) → (g : CheckFault) → Bad H F g → Bad J G g
      weaker hs fs _ (hid h) = hid (hs h)
      weaker hs fs g (bad n h) = bad n (fs g h)

      stands : (q : CheckFault) → Either (Either F (UnfitAlone s e)) (UnfitSomewhere s es) q → Either F (UnfitSomewhere s (e ∷ es)) q
      stands q (inl (inl a)) = inl a
      stands q (inl (inr u)) = inr (f.somewhere_first u)
      stands q (inr u) = inr (f.somewhere_later u)

-- ---- chains

abbrev pub BehindNone : Sight → Link → Option Judged → Type 0
BehindNone s l o = (o ≡ None) × ShowsLink s l None None

-- A link, behind what is known, behind what can't be, and behind a fault.
pub record LinkedWell (s : Sight) (l : Link) : Type 0 where
  pub behind_known : (j : Judged) → Tells (ShowsLink s l (Some j)) (FaultInLink s l (Some j)) (linked s l (Ok j))
  pub behind_unknown : Tells (BehindNone s l) (FaultInLink s l None) (linked s l (Err fault.Unknown))
  pub behind_fault : (g : CheckFault) → is_unknown g ≡ false → Tells (λ o. ⊥) (λ q. (q ≡ g) ⊎ FaultInLink s l None q) (linked s l (Err g))

-- behind nothing a link is fit, or a fault stands in it
decided : (s : Sight) (l : Link) (r : Outcome Judged) → Tells (BehindNone s l) (FaultInLink s l None) r → ShowsLink s l None None ⊎ ((f : CheckFault) × FaultInLink s l None f)
decided s l (Ok p) (e, h) = absurd cc
decided s l (Err _) (hid h) = inl h.1
decided s l (Err g) (bad n h) = inr (g, h)

one_more : (s : Sight) (l : Link) (ls : List Link) (g : CheckFault) → LinkedWell s l → FaultInLinks s None ls g → FaultInLinks s None (l ∷ ls) g
one_more s l ls g w h = elim (decided s l (linked s l (Err fault.Unknown)) w.behind_unknown) [
  | inl k ↦ f.at_later k h
  | inr k ↦ f.behind_unfit k.1 h
]

abbrev OrLinks : Sight → List Link → CheckFault → CheckFault → Type 0
OrLinks s ls g q = (q ≡ g) ⊎ FaultInLinks s None ls q

abbrev Behind : Sight → List Link → Type 0
Behind s ls = (g : CheckFault) → is_unknown g ≡ false → Tells (λ (o : Option Judged). ⊥) (OrLinks s ls g) (walk (map (linked s) ls) (Err g))

step_behind : (s : Sight) (l : Link) (ls : List Link) (g : CheckFault) → LinkedWell s l → Behind s ls → (r : Outcome Judged) → Tells (λ o. ⊥) (λ q. (q ≡ g) ⊎ FaultInLink s l None q) r
    → Tells (λ (o : Option Judged). ⊥) (OrLinks s (l ∷ ls) g) (walk (map (linked s) ls) r)
step_behind s l ls g w rest (Ok p) h = absurd h
step_behind s l ls g w rest (Err _) (hid h) = absurd h
step_behind s l ls g w rest (Err q) (bad m h) = told_more (λ o. ⊥) (λ o. ⊥) (OrLinks s ls q) (OrLinks s (l ∷ ls) g) (λ o a. a) (stands h) (walk (map (linked s) ls) (Err q)) (rest q m) where
  stands : (q ≡ g) ⊎ FaultInLink s l None q → (r : CheckFault) → OrLinks s ls q r → OrLinks s (l ∷ ls) g r
  stands (inl e) r (inl d) = inl (d ∙ e)
  stands (inl e) r (inr d) = inr (one_more s l ls r w d)
  stands (inr h) r (inl d) = inr (f.at_first (subst (FaultInLink s l None) (sym d) h))
  stands (inr h) r (inr d) = inr (f.behind_unfit h d)

-- behind a fault it stands, or one of the links behind it
links_behind : (s : Sight) (ls : List Link) → EachIs (LinkedWell s) ls → Behind s ls
links_behind s [] hs g n = bad n (inl refl)
links_behind s (l ∷ ls) (w, hs) g n = step_behind s l ls g w (links_behind s ls hs) (linked s l (Err g)) (w.behind_fault g n)

abbrev FromHere : Sight → List Link → Type 0
FromHere s ls = (o : Option Judged) → Tells (ShowsLinks s o ls) (FaultInLinks s o ls) (walk (map (linked s) ls) (told o))

-- a link that leads from what is told to what is told, or in which a fault stands
step_sound : (s : Sight) (l : Link) (ls : List Link) (o : Option Judged) → FromHere s ls → Behind s ls → (r : Outcome Judged) → Tells (ShowsLink s l o) (FaultInLink s l o) r
    → Tells (ShowsLinks s o (l ∷ ls)) (FaultInLinks s o (l ∷ ls)) (walk (map (linked s) ls) r)
step_sound s l ls o here behind (Ok p) h = told_more (ShowsLinks s (Some p) ls) (ShowsLinks s o (l ∷ ls)) (FaultInLinks s (Some p) ls) (FaultInLinks s o (l ∷ ls)) (λ q k. f.shows_onward h k) (λ g k. f.at_later h k) (walk (map (linked s) ls) (Ok p)) (here (Some p))
step_sound s l ls o here behind (Err _) (hid h) = told_more (ShowsLinks s None ls) (ShowsLinks s o (l ∷ ls)) (FaultInLinks s None ls) (FaultInLinks s o (l ∷ ls)) (λ q k. f.shows_onward h k) (λ g k. f.at_later h k) (walk (map (linked s) ls) (Err fault.Unknown)) (here None)
step_sound s l ls o here behind (Err q) (bad m h) = told_more (λ o. ⊥) (ShowsLinks s o (l ∷ ls)) (OrLinks s ls q) (FaultInLinks s o (l ∷ ls)) (λ o a. absurd a) stands (walk (map (linked s) ls) (Err q)) (behind q m) where
  stands : (r : CheckFault) → OrLinks s ls q r → FaultInLinks s o (l ∷ ls) r
  stands r (inl d) = f.at_first (subst (FaultInLink s l o) (sym d) h)
  stands r (inr d) = f.behind_unfit h d

from_none : (s : Sight) (l : Link) (r : Outcome Judged) → Tells (BehindNone s l) (FaultInLink s l None) r → Tells (ShowsLink s l None) (FaultInLink s l None) r
from_none s l (Ok p) (e, h) = absurd cc
from_none s l (Err _) (hid h) = hid h.1
from_none s l (Err g) (bad n h) = bad n h

link_sound : (s : Sight) (l : Link) → LinkedWell s l → (o : Option Judged) → Tells (ShowsLink s l o) (FaultInLink s l o) (linked s l (told o))
link_sound s l w (Some j) = w.behind_known j
link_sound s l w None = from_none s l (linked s l (Err fault.Unknown)) w.behind_unknown

links_sound : (s : Sight) (ls : List Link) → EachIs (LinkedWell s) ls → FromHere s ls
links_sound s [] hs o = tells_told (ShowsLinks s o []) (FaultInLinks s o []) o f.shows_here
links_sound s (l ∷ ls) (w, hs) o = step_sound s l ls o (links_sound s ls hs) (links_behind s ls hs) (linked s l (told o)) (link_sound s l w o)

module _ (s : Sight) (c : Chain) (hs : EachIs (LinkedWell s) (out-Chain c).links) where
  abbrev Links : List Link
  Links = (out-Chain c).links

  unnamed_sound : (g : CheckFault) → Names s c (Err g) → (b : Bool) → is_unknown g ≡ b → SoundChain s c (walk (map (linked s) Links) (Err g))
  unnamed_sound g n true e =
      let here : g ≡ fault.Unknown = is_it g e in
      let hidden_here : Names s c unknown = subst (λ (q : CheckFault). Names s c (Err q)) here n in
      subst (λ (q : CheckFault). SoundChain s c (walk (map (linked s) Links) (Err q))) (sym here)
      (told_more (ShowsLinks s None Links) (ShowsChain s c) (FaultInLinks s None Links) (FaultInChain s c) (λ o k. f.hides_named hidden_here k) (λ q k. f.behind_name hidden_here k) (walk (map (linked s) Links) (Err fault.Unknown)) (links_sound s Links hs None))
  unnamed_sound g n false e = told_more (λ o. ⊥) (ShowsChain s c) (OrLinks s Links g) (FaultInChain s c) (λ o a. absurd a) stands (walk (map (linked s) Links) (Err g)) (links_behind s Links hs g e) where
    stands : (r : CheckFault) → OrLinks s Links g r → FaultInChain s c r
    stands r (inl d) = f.in_name (subst (λ (q : CheckFault). Names s c (Err q)) (sym d) n) (ap is_unknown d ∙ e)
    stands r (inr d) = f.behind_name n d

  named_sound : (r : Outcome Is) → Names s c r → SoundChain s c (walk (map (linked s) Links) (r >>= λ is. Ok (seen_as true (out-Chain c).at is)))
  named_sound (Ok is) n =
      told_more (ShowsLinks s (Some (seen_as true (out-Chain c).at is)) Links) (ShowsChain s c) (FaultInLinks s (Some (seen_as true (out-Chain c).at is)) Links) (FaultInChain s c) (λ o k. f.shows_named n k) (λ g k. f.in_links n k)
      (walk (map (linked s) Links) (Ok (seen_as true (out-Chain c).at is))) (links_sound s Links hs (Some (seen_as true (out-Chain c).at is)))
  named_sound (Err g) n = unnamed_sound g n (is_unknown g) refl

pub chain_sound : (s : Sight) (c : Chain) → EachIs (LinkedWell s) (out-Chain c).links → SoundChain s c (judged_chain s c)
chain_sound s c hs = rw (chain_as s c) (named_sound s c hs (named (out-Chain c).at (find s (out-Chain c).name)) refl)

-- ---- the whole, by induction

abbrev ExprPair : Sight → Type 0
ExprPair s = (e : Expr) × JudgedWell s e

abbrev LinkPair : Sight → Type 0
LinkPair s = (l : Link) × LinkedWell s l

each_expr : (s : Sight) (es : List (ExprPair s)) → EachIs (JudgedWell s) (map (λ e. e.0) es)
each_expr s [] = tt
each_expr s (e ∷ es) = (e.1, each_expr s es)

each_link : (s : Sight) (ls : List (LinkPair s)) → EachIs (LinkedWell s) (map (λ e. e.0) ls)
each_link s [] = tt
each_link s (e ∷ es) = (e.1, each_link s es)

abbrev ChainPair : Sight → Type 0
ChainPair s = (c : Chain) × SoundChain s c (judged_chain s c)

-- one level, with what is known of the parts
opened : (s : Sight) (e : Expr) (y : Expr-F (ExprPair s) (LinkPair s) (ChainPair s)) → out-Expr e ≡ map-Expr (ExprPair s) (LinkPair s) (ChainPair s) Expr Link Chain (λ e. e.0) (λ e. e.0) (λ e. e.0) y → JudgedWell s e
opened s e (Expr-F.Number n at) o = rw (opened_number s e n at o) (f.shows_number o)
opened s e (Expr-F.Text t at) o = rw (opened_text s e t at o) (text_sound s e t at o (string_at s at) refl)
opened s e (Expr-F.Chain c) o = rw (opened_chain s e c.0 o) (told_more (ShowsChain s c.0) (Shows s e) (FaultInChain s c.0) (FaultIn s e) (λ p k. f.shows_chain o k) (λ g k. f.in_chain o k) (judged_chain s c.0) c.1)
opened s e (Expr-F.Val c at) o = rw (opened_val s e c.0 at o) (val_sound s e c.0 at o (judged_chain s c.0) c.1)
opened s e (Expr-F.Monadic op a at) o = rw (opened_monadic s e a.0 op at o) (monadic_sound s e a.0 op at o (judged s a.0) a.1)
opened s e (Expr-F.Dyadic op a b at) o = rw (opened_dyadic s e a.0 b.0 op at o) (dyadic_sound s e a.0 b.0 op at o (judged s a.0) (judged s b.0) a.1 b.1)

apply_unknown : (s : Sight) (l : Link) (es : List Expr) (at : At) → out-Link l ≡ Link-F.Apply es at → (g : CheckFault) → Bad (Unit {0} × AllAlone s es) (Either (λ q. ⊥) (UnfitSomewhere s es)) g → Tells {A = Judged} (BehindNone s l) (FaultInLink s l None) (Err g)
apply_unknown s l es at o _ (hid h) = hid (refl, f.hides_apply o h.1)
apply_unknown s l es at o g (bad n (inl h)) = absurd h
apply_unknown s l es at o g (bad n (inr h)) = bad n (f.by_itself o h)

apply_fault : (s : Sight) (l : Link) (es : List Expr) (at : At) → out-Link l ≡ Link-F.Apply es at → (q g : CheckFault) → Bad (⊥ × AllAlone s es) (Either (λ r. r ≡ q) (UnfitSomewhere s es)) g
    → Tells {A = Judged} (λ o. ⊥) (λ r. (r ≡ q) ⊎ FaultInLink s l None r) (Err g)
apply_fault s l es at o q _ (hid h) = absurd h.0
apply_fault s l es at o q g (bad n (inl h)) = bad n (inl h)
apply_fault s l es at o q g (bad n (inr h)) = bad n (inr (f.by_itself o h))

opened_link : (s : Sight) (l : Link) (y : Link-F (ExprPair s) (LinkPair s) (ChainPair s)) → out-Link l ≡ map-Link (ExprPair s) (LinkPair s) (ChainPair s) Expr Link Chain (λ e. e.0) (λ e. e.0) (λ e. e.0) y → LinkedWell s l
opened_link s l (Link-F.Dot n at) o = record {
  behind_known = λ j. rw (opened_dot s l n at (Ok j) o) (dot_sound s l n at j o);
  behind_unknown = rw (opened_dot s l n at (Err fault.Unknown) o) (hid (refl, f.hides_field o));
  behind_fault = λ g h. rw (opened_dot s l n at (Err g) o) (bad h (inl refl));
}
opened_link s l (Link-F.Apply es at) o = record {
  behind_known = λ j. rw (opened_apply s l (map (λ e. e.0) es) at (Ok j) o) (reach_sound s l (map (λ e. e.0) es) at j o (each_expr s es) (reach j.found.is) refl);
  behind_unknown = rw (opened_apply s l (map (λ e. e.0) es) at (Err fault.Unknown) o)
      (apply_unknown s l (map (λ e. e.0) es) at o (all_alone fault.Unknown (map (judged s) (map (λ e. e.0) es))) (alone_sound s (map (λ e. e.0) es) (each_expr s es) (Unit {0}) (λ q. ⊥) fault.Unknown (hid tt)));
  behind_fault = λ g h. rw (opened_apply s l (map (λ e. e.0) es) at (Err g) o)
      (apply_fault s l (map (λ e. e.0) es) at o g (all_alone g (map (judged s) (map (λ e. e.0) es))) (alone_sound s (map (λ e. e.0) es) (each_expr s es) ⊥ (λ r. r ≡ g) g (bad h refl)));
}

opened_chain_by : (s : Sight) (x : Chain-F Expr Link Chain) (y : Chain-F (ExprPair s) (LinkPair s) (ChainPair s)) → map-Chain (ExprPair s) (LinkPair s) (ChainPair s) Expr Link Chain (λ e. e.0) (λ e. e.0) (λ e. e.0) y ≡ x
    → SoundChain s (roll-Chain x) (judged_chain s (roll-Chain x))
opened_chain_by s x y is = chain_sound s (roll-Chain x) (subst (λ (z : Chain-F Expr Link Chain). EachIs (LinkedWell s) z.links) is (each_link s y.links))

rolled : (x : Expr-F Expr Link Chain) → out-Expr (roll-Expr x) ≡ x
rolled x = search expressions.the_lemmas

rolled_link : (x : Link-F Expr Link Chain) → out-Link (roll-Link x) ≡ x
rolled_link x = search links.the_lemmas

pub expr_sound : (s : Sight) (e : Expr) → JudgedWell s e
expr_sound s = ind-Expr (JudgedWell s) (LinkedWell s) (λ c. SoundChain s c (judged_chain s c))
    (λ x y is. opened s (roll-Expr x) y (rolled x ∙ sym is)) (λ x y is. opened_link s (roll-Link x) y (rolled_link x ∙ sym is)) (λ x y is. opened_chain_by s x y is)

pub whole_chain_sound : (s : Sight) (c : Chain) → SoundChain s c (judged_chain s c)
whole_chain_sound s = ind-Chain (JudgedWell s) (LinkedWell s) (λ c. SoundChain s c (judged_chain s c))
    (λ x y is. opened s (roll-Expr x) y (rolled x ∙ sym is)) (λ x y is. opened_link s (roll-Link x) y (rolled_link x ∙ sym is)) (λ x y is. opened_chain_by s x y is)
