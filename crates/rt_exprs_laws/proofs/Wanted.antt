-- What is wanted of a value, by the mode that is wanted.
use Rattle.std.proofs.Common.{◌≡◌, Bool, true, ap, refl, sym, ◌∙◌}
use Rattle.rt_modes.specs.declared.mode.Mode.{Mode, out-Mode, the_lemmas}
use Rattle.rt_modes.specs.declared.mode.Mode.TheOpen.{Mode-F}
use Rattle.rt_modes.specs.declared.mode.Mode.TheVariants as mode
use Rattle.rt_exprs.specs.declared.operand.Base.{Base}
use Rattle.rt_exprs.specs.declared.operand.Base.TheVariants as base
use Rattle.rt_exprs.specs.Modes.{basic, nothing, want, want_by, is_ref, is_row, is_proc}
use Rattle.rt_exprs_laws.proofs.Standing.{is_ref_to, is_row_of}

abbrev pub of_base : Base → Mode
of_base base.Byte = mode.Byte
of_base base.Int = mode.Int
of_base base.Frac = mode.Frac

pub want_base : (b : Base) → want (of_base b) ≡ basic b
want_base base.Byte = let o : out-Mode mode.Byte ≡ Mode-F.Byte = search the_lemmas in ap (want_by mode.Byte) o
want_base base.Int = let o : out-Mode mode.Int ≡ Mode-F.Int = search the_lemmas in ap (want_by mode.Int) o
want_base base.Frac = let o : out-Mode mode.Frac ≡ Mode-F.Frac = search the_lemmas in ap (want_by mode.Frac) o

pub byte_held : want mode.Byte ≡ nothing → ⊥
byte_held h = let bad : basic base.Byte ≡ nothing = sym (want_base base.Byte) ∙ h in cc

-- ---- where a reference, a row or a procedure is wanted

pub record RefWanted (m : Mode) (test : Mode → Bool) : Type 0 where
  pub to : Mode
  pub opens : out-Mode m ≡ Mode-F.Ref to
  pub is : m ≡ mode.Ref to
  pub passes : test to ≡ true

ref_layer : (m : Mode) (test : Mode → Bool) (l : Mode-F Mode) → out-Mode m ≡ l → is_ref test (want_by m l) ≡ true → RefWanted m test
ref_layer m test (Mode-F.Ref n) o h = record { to = n; opens = o; is = is_ref_to m n o; passes = h }
ref_layer m test _ o h = absurd cc

pub ref_wanted : (m : Mode) (test : Mode → Bool) → is_ref test (want m) ≡ true → RefWanted m test
ref_wanted m test h = ref_layer m test (out-Mode m) refl h

pub record RowWanted (m : Mode) (test : Mode → Bool) : Type 0 where
  pub of : Mode
  pub is : m ≡ mode.RefArray of
  pub passes : test of ≡ true

row_layer : (m : Mode) (test : Mode → Bool) (l : Mode-F Mode) → out-Mode m ≡ l → is_row test (want_by m l) ≡ true → RowWanted m test
row_layer m test (Mode-F.RefArray n) o h = record { of = n; is = is_row_of m n o; passes = h }
row_layer m test _ o h = absurd cc

pub row_wanted : (m : Mode) (test : Mode → Bool) → is_row test (want m) ≡ true → RowWanted m test
row_wanted m test h = row_layer m test (out-Mode m) refl h

proc_layer : (m : Mode) (test : Mode → Bool) (l : Mode-F Mode) → out-Mode m ≡ l → is_proc test (want_by m l) ≡ true → test m ≡ true
proc_layer m test (Mode-F.Proc ps r) o h = h
proc_layer m test _ o h = absurd cc

pub proc_wanted : (m : Mode) (test : Mode → Bool) → is_proc test (want m) ≡ true → test m ≡ true
proc_wanted m test h = proc_layer m test (out-Mode m) refl h
