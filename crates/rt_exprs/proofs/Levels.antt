-- What is known of a mode, by its first level.
use Rattle.std.specs.Option.{option_eq}
use lib.Dec.{eqb}
use Rattle.std.proofs.Common.{◌≡◌, ◌≢◌, length, suc, ℕ, ◌==◌, ◌&&◌, Bool, true, false, Bor, List, [], ◌∷◌, Option, Some, None, Result, map, option_map, refl, sym, ap, ◌∙◌, if◌then◌else◌}
use Rattle.rt_modes.specs.declared.mode.Mode.{Mode, out-Mode, the_lemmas}
use Rattle.rt_modes.specs.declared.mode.Mode.TheFolds.{fold_out-Mode}
use Rattle.rt_modes.specs.declared.mode.Mode.TheOpen.{Mode-F}
use Rattle.rt_modes.specs.declared.mode.Mode.TheVariants as mode
use Rattle.rt_tree_nodes.specs.declared.value.Place.{Place}
use Rattle.rt_exprs.specs.declared.operand.Base.{Base}
use Rattle.rt_exprs.specs.declared.operand.Base.TheVariants as base
use Rattle.rt_tree_nodes.specs.declared.value.Value.{Value}
use Rattle.std.specs.Option.{option_copied}
use Rattle.std.specs.Prelude.{IfOk}
use Rattle.rt_words.specs.declared.memory.Memory.{Memory}
use Rattle.rt_exprs.specs.Modes.{Way, way, way_by, passes, all_same, result_same, ref_of, row_of, array_of, record_of, parameters_of, answer_of, array_at, base_of, through, Want, same, becomes, basic_becomes, past, is_ref, is_row, is_proc, only_if}

pub out_byte : (m : Mode) → m ≡ mode.Byte → out-Mode m ≡ Mode-F.Byte
out_byte m e = ap out-Mode e ∙ search the_lemmas

pub out_int : (m : Mode) → m ≡ mode.Int → out-Mode m ≡ Mode-F.Int
out_int m e = ap out-Mode e ∙ search the_lemmas

pub out_frac : (m : Mode) → m ≡ mode.Frac → out-Mode m ≡ Mode-F.Frac
out_frac m e = ap out-Mode e ∙ search the_lemmas

pub out_label : (m : Mode) → m ≡ mode.Label → out-Mode m ≡ Mode-F.Label
out_label m e = ap out-Mode e ∙ search the_lemmas

pub out_record : (m : Mode) (r : ℕ) → m ≡ mode.Record r → out-Mode m ≡ Mode-F.Record r
out_record m r e = ap out-Mode e ∙ search the_lemmas

pub out_ref : (m n : Mode) → m ≡ mode.Ref n → out-Mode m ≡ Mode-F.Ref n
out_ref m n e = ap out-Mode e ∙ search the_lemmas

pub out_row : (m n : Mode) → m ≡ mode.RefArray n → out-Mode m ≡ Mode-F.RefArray n
out_row m n e = ap out-Mode e ∙ search the_lemmas

pub out_array : (m n : Mode) (k : ℕ) → m ≡ mode.Array k n → out-Mode m ≡ Mode-F.Array k n
out_array m n k e = ap out-Mode e ∙ search the_lemmas

pub out_proc : (m : Mode) (ps : List Mode) (r : Option Mode) → m ≡ mode.Proc ps r → out-Mode m ≡ Mode-F.Proc ps r
out_proc m ps r e = ap out-Mode e ∙ search the_lemmas

-- ---- what is known, by the level

abbrev pub way_layer : Mode-F Mode → Mode-F Way
way_layer Mode-F.Byte = Mode-F.Byte
way_layer Mode-F.Int = Mode-F.Int
way_layer Mode-F.Frac = Mode-F.Frac
way_layer Mode-F.Label = Mode-F.Label
way_layer (Mode-F.Ref m) = Mode-F.Ref (way m)
way_layer (Mode-F.RefArray m) = Mode-F.RefArray (way m)
way_layer (Mode-F.Array k m) = Mode-F.Array k (way m)
way_layer (Mode-F.Record r) = Mode-F.Record r
way_layer (Mode-F.Proc ps r) = Mode-F.Proc (map way ps) (option_map way r)

pub way_at : (m : Mode) (l : Mode-F Mode) → out-Mode m ≡ l → way m ≡ way_by (way_layer l)
unfolding way
way_at m (Mode-F.Ref n) e = rw (fold_out-Mode, e) refl
way_at m Mode-F.Byte e = rw (fold_out-Mode, e) refl
way_at m Mode-F.Int e = rw (fold_out-Mode, e) refl
way_at m Mode-F.Frac e = rw (fold_out-Mode, e) refl
way_at m Mode-F.Label e = rw (fold_out-Mode, e) refl
way_at m (Mode-F.RefArray n) e = rw (fold_out-Mode, e) refl
way_at m (Mode-F.Array k n) e = rw (fold_out-Mode, e) refl
way_at m (Mode-F.Record r) e = rw (fold_out-Mode, e) refl
way_at m (Mode-F.Proc ps None) e = rw (fold_out-Mode, e) refl
way_at m (Mode-F.Proc ps (Some r)) e = rw (fold_out-Mode, e) refl

-- ---- whether modes are the same

abbrev is_at : Mode → Way → Bool
is_at right w = w.is right

pub same_ref : (m n g right : Mode) (o : Option Mode) → m ≡ mode.Ref n → g ≡ n → o ≡ ref_of (out-Mode right) → passes (way g).is o ≡ (way m).is right
same_ref m n g right o e h i = rw (h, i) (sym (ap (is_at right) (way_at m (Mode-F.Ref n) (out_ref m n e))))

pub same_row : (m n g right : Mode) (o : Option Mode) → m ≡ mode.RefArray n → g ≡ n → o ≡ row_of (out-Mode right) → passes (way g).is o ≡ (way m).is right
same_row m n g right o e h i = rw (h, i) (sym (ap (is_at right) (way_at m (Mode-F.RefArray n) (out_row m n e))))

abbrev plain_array : Option (ℕ × Bor Mode) → Option (ℕ × Mode)
plain_array o = option_map (λ x. (x.0, x.1.now)) o

array_now : (k : ℕ) (w : Way) (o : Option (ℕ × Bor Mode)) → passes (λ x. k == x.0 && w.is x.1.now) o ≡ passes (λ x. k == x.0 && w.is x.1) (plain_array o)
array_now k w None = refl
array_now k w (Some x) = refl

pub same_array : (m n g right : Mode) (k : ℕ) (o : Option (ℕ × Bor Mode)) → m ≡ mode.Array k n → g ≡ n → plain_array o ≡ array_of (out-Mode right) → passes (λ x. k == x.0 && (way g).is x.1.now) o ≡ (way m).is right
same_array m n g right k o e h i = array_now k (way g) o ∙ rw (h, i) (sym (ap (is_at right) (way_at m (Mode-F.Array k n) (out_array m n k e))))

number_now : (k : ℕ) (o : Option ℕ) → option_eq eqb o (Some k) ≡ passes (λ n. n == k) o
number_now k None = refl
number_now k (Some n) = refl

pub same_record : (m right : Mode) (k : ℕ) (o : Option ℕ) → m ≡ mode.Record k → o ≡ record_of (out-Mode right) → option_eq eqb o (Some k) ≡ (way m).is right
same_record m right k o e h = number_now k o ∙ rw h (sym (ap (is_at right) (way_at m (Mode-F.Record k) (out_record m k e))))

abbrev plain_answer : Option (Option (Bor Mode)) → Option (Option Mode)
plain_answer o = option_map option_copied o

answer_now : (f : Option Way) (o : Option (Option (Bor Mode))) → passes (λ x. result_same f (option_copied x)) o ≡ passes (result_same f) (plain_answer o)
answer_now f None = refl
answer_now f (Some x) = refl

pub same_proc : (m right : Mode) (ps qs : List Mode) (r : Option Mode) (o : Option (List Mode)) (a : Option (Option (Bor Mode))) → m ≡ mode.Proc ps r → qs ≡ ps → o ≡ parameters_of (out-Mode right) → plain_answer a ≡ answer_of (out-Mode right)
    → passes (all_same (map way qs)) o && passes (λ x. result_same (option_map way r) (option_copied x)) a ≡ (way m).is right
same_proc m right ps qs r o a e h i j = rw (h, answer_now (option_map way r) a, i, j) (sym (ap (is_at right) (way_at m (Mode-F.Proc ps r) (out_proc m ps r e))))

-- the parameters alone
pub same_proc_first : (m right : Mode) (ps qs : List Mode) (r : Option Mode) (o : Option (List Mode)) → m ≡ mode.Proc ps r → qs ≡ ps → o ≡ parameters_of (out-Mode right)
    → passes (all_same (map way qs)) o && passes (result_same (option_map way r)) (answer_of (out-Mode right)) ≡ (way m).is right
same_proc_first m right ps qs r o e h i = rw (h, i) (sym (ap (is_at right) (way_at m (Mode-F.Proc ps r) (out_proc m ps r e))))

pub and_true : (a b : Bool) → a ≡ true → b ≡ a && b
and_true a b e = rw e refl

pub and_false : (a b : Bool) → a ≡ false → a ≡ a && b
and_false a b e = rw e refl

then_false : (b c : Bool) → false ≡ c → false ≡ b && c
then_false true c e = e
then_false false c e = refl

pub lengths_differ : (ms ns : List Mode) → length ms ≢ length ns → false ≡ all_same (map way ms) ns
lengths_differ [] [] h = absurd (h refl)
lengths_differ [] (n ∷ ns) h = refl
lengths_differ (m ∷ ms) [] h = refl
lengths_differ (m ∷ ms) (n ∷ ns) h = then_false ((way m).is n) (all_same (map way ms) ns) (lengths_differ ms ns (λ e. h (ap suc e)))

-- ---- the array at a place

abbrev pub array_layer : Mode-F Mode → Place → Option Place
array_layer (Mode-F.Array k m) p = Some p
array_layer (Mode-F.RefArray m) p = Some (through p)
array_layer (Mode-F.Ref m) p = array_at m (through p)
array_layer _ p = None

array_as : (m : Mode) (l : Mode-F Mode) (p : Place) → out-Mode m ≡ l → array_at m p ≡ array_layer l p
unfolding array_at
array_as m (Mode-F.Ref n) p e = rw (fold_out-Mode, e) refl
array_as m Mode-F.Byte p e = rw (fold_out-Mode, e) refl
array_as m Mode-F.Int p e = rw (fold_out-Mode, e) refl
array_as m Mode-F.Frac p e = rw (fold_out-Mode, e) refl
array_as m Mode-F.Label p e = rw (fold_out-Mode, e) refl
array_as m (Mode-F.RefArray n) p e = rw (fold_out-Mode, e) refl
array_as m (Mode-F.Array k n) p e = rw (fold_out-Mode, e) refl
array_as m (Mode-F.Record r) p e = rw (fold_out-Mode, e) refl
array_as m (Mode-F.Proc ps None) p e = rw (fold_out-Mode, e) refl
array_as m (Mode-F.Proc ps (Some r)) p e = rw (fold_out-Mode, e) refl

pub array_ref : (m n g : Mode) (p q : Place) (r : Result (Option Place) Memory) → m ≡ mode.Ref n → g ≡ n → q ≡ through p → IfOk r (λ o. o ≡ array_at g q) → IfOk r (λ o. o ≡ array_at m p)
array_ref m n g p q r e h i k = rw (array_as m (Mode-F.Ref n) p (out_ref m n e), ← i, ← h) k

pub array_level : (m : Mode) (p : Place) → array_at m p ≡ array_layer (out-Mode m) p
array_level m p = array_as m (out-Mode m) p refl

-- ---- the mode of one word

abbrev pub base_layer : Mode-F Mode → Base
base_layer Mode-F.Byte = base.Byte
base_layer Mode-F.Frac = base.Frac
base_layer (Mode-F.Ref m) = base_of m
base_layer _ = base.Int

base_as : (m : Mode) (l : Mode-F Mode) → out-Mode m ≡ l → base_of m ≡ base_layer l
unfolding base_of
base_as m (Mode-F.Ref n) e = rw (fold_out-Mode, e) refl
base_as m Mode-F.Byte e = rw (fold_out-Mode, e) refl
base_as m Mode-F.Int e = rw (fold_out-Mode, e) refl
base_as m Mode-F.Frac e = rw (fold_out-Mode, e) refl
base_as m Mode-F.Label e = rw (fold_out-Mode, e) refl
base_as m (Mode-F.RefArray n) e = rw (fold_out-Mode, e) refl
base_as m (Mode-F.Array k n) e = rw (fold_out-Mode, e) refl
base_as m (Mode-F.Record r) e = rw (fold_out-Mode, e) refl
base_as m (Mode-F.Proc ps None) e = rw (fold_out-Mode, e) refl
base_as m (Mode-F.Proc ps (Some r)) e = rw (fold_out-Mode, e) refl

pub base_ref : (m n g : Mode) → m ≡ mode.Ref n → g ≡ n → base_of g ≡ base_of m
base_ref m n g e h = ap base_of h ∙ sym (base_as m (Mode-F.Ref n) (out_ref m n e))

pub base_level : (m : Mode) → base_of m ≡ base_layer (out-Mode m)
base_level m = base_as m (out-Mode m) refl

-- ---- what a value gives where another mode is wanted

abbrev pub become_layer : Mode → Mode-F Mode → Want → Value → Option Value
become_layer m Mode-F.Byte w v = basic_becomes base.Byte w v
become_layer m Mode-F.Int w v = basic_becomes base.Int w v
become_layer m Mode-F.Frac w v = basic_becomes base.Frac w v
become_layer m (Mode-F.Ref n) w v = if is_ref (same n) w then Some v else becomes n w (past v)
become_layer m (Mode-F.RefArray n) w v = only_if (is_row (same n) w) v
become_layer m (Mode-F.Proc ps r) w v = only_if (is_proc (same m) w) v
become_layer m _ w v = None

abbrev becoming : Want → Value → Way → Option Value
becoming w v x = x.becomes w v

pub becomes_as : (m : Mode) (l : Mode-F Mode) (w : Want) (v : Value) → out-Mode m ≡ l → becomes m w v ≡ become_layer m l w v
becomes_as m (Mode-F.Ref n) w v e = ap (becoming w v) (way_at m (Mode-F.Ref n) e)
becomes_as m Mode-F.Byte w v e = ap (becoming w v) (way_at m Mode-F.Byte e)
becomes_as m Mode-F.Int w v e = ap (becoming w v) (way_at m Mode-F.Int e)
becomes_as m Mode-F.Frac w v e = ap (becoming w v) (way_at m Mode-F.Frac e)
becomes_as m Mode-F.Label w v e = ap (becoming w v) (way_at m Mode-F.Label e)
becomes_as m (Mode-F.RefArray n) w v e = ap (becoming w v) (way_at m (Mode-F.RefArray n) e)
becomes_as m (Mode-F.Array k n) w v e = ap (becoming w v) (way_at m (Mode-F.Array k n) e)
becomes_as m (Mode-F.Record r) w v e = ap (becoming w v) (way_at m (Mode-F.Record r) e)
becomes_as m (Mode-F.Proc ps r) w v e = ap (becoming w v) (way_at m (Mode-F.Proc ps r) e) ∙ sym (ap (λ (x : Way). only_if (is_proc x.is w) v) (way_at m (Mode-F.Proc ps r) e))

pub becomes_ref_same : (m n g : Mode) (w : Want) (v : Value) → m ≡ mode.Ref n → g ≡ n → true ≡ is_ref (same g) w → Some v ≡ becomes m w v
becomes_ref_same m n g w v e h i = rw (becomes_as m (Mode-F.Ref n) w v (out_ref m n e), ← h, ← i) refl

pub becomes_ref : (m n g : Mode) (w : Want) (v u : Value) (r : Result (Option Value) Memory) → m ≡ mode.Ref n → g ≡ n → false ≡ is_ref (same g) w → u ≡ past v
    → IfOk r (λ o. o ≡ becomes g w u) → IfOk r (λ o. o ≡ becomes m w v)
becomes_ref m n g w v u r e h i j k = rw (becomes_as m (Mode-F.Ref n) w v (out_ref m n e), ← h, ← i, ← j) k

pub becomes_row : (m n g : Mode) (w : Want) (v : Value) (b : Bool) → m ≡ mode.RefArray n → g ≡ n → b ≡ is_row (same g) w → only_if b v ≡ becomes m w v
becomes_row m n g w v b e h i = rw (becomes_as m (Mode-F.RefArray n) w v (out_row m n e), ← h, ← i) refl

pub becomes_level : (m : Mode) (w : Want) (v : Value) → becomes m w v ≡ become_layer m (out-Mode m) w v
becomes_level m w v = becomes_as m (out-Mode m) w v refl
