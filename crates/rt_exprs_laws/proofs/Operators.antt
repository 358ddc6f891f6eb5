-- The modes of what operators give, and the comparisons that fit.
use Rattle.std.proofs.Common.{◌≡◌, true, false, Some, refl, subst}
use Rattle.rt_syntax_exprs.specs.declared.tree.Op1.{Op1}
use Rattle.rt_syntax_exprs.specs.declared.tree.Op1.TheVariants as op1
use Rattle.rt_syntax_exprs.specs.declared.tree.Op2.{Op2}
use Rattle.rt_syntax_exprs.specs.declared.tree.Op2.TheVariants as op2
use Rattle.rt_modes.specs.declared.mode.Mode.{out-Mode, the_lemmas}
use Rattle.rt_modes.specs.declared.mode.Mode.TheFolds.{fold_out-Mode}
use Rattle.rt_modes.specs.declared.mode.Mode.TheOpen.{Mode-F}
use Rattle.rt_modes.specs.declared.mode.Mode.TheVariants as mode
use Rattle.rt_tree_nodes.specs.declared.operators.Op1.{Op1 as Made1}
use Rattle.rt_tree_nodes.specs.declared.operators.Op1.TheVariants as one
use Rattle.rt_tree_nodes.specs.Typing.{monadic_mode, dyadic_mode, is_int, is_frac, is_byte}
use Rattle.rt_tree_nodes.proofs.Same.{same_itself}
use Rattle.rt_exprs.specs.declared.operand.Base.{Base}
use Rattle.rt_exprs.specs.declared.operand.Base.TheVariants as base
use Rattle.rt_exprs.specs.Judging.{takes, gives, made_monadic, made_dyadic, of_int, right_takes, frac_or_int}
use Rattle.rt_exprs_laws.proofs.Wanted.{of_base}

pub out_byte : out-Mode mode.Byte ≡ Mode-F.Byte
out_byte = search the_lemmas

pub out_int : out-Mode mode.Int ≡ Mode-F.Int
out_int = search the_lemmas

pub out_frac : out-Mode mode.Frac ≡ Mode-F.Frac
out_frac = search the_lemmas

pub int_is_int : is_int mode.Int ≡ true
int_is_int = same_itself mode.Int

pub frac_is_frac : is_frac mode.Frac ≡ true
frac_is_frac = same_itself mode.Frac

byte_is_byte : is_byte mode.Byte ≡ true
byte_is_byte = same_itself mode.Byte

pub int_no_byte : is_byte mode.Int ≡ false
int_no_byte = rw (fold_out-Mode, out_byte, out_int) refl

pub frac_no_byte : is_byte mode.Frac ≡ false
frac_no_byte = rw (fold_out-Mode, out_byte, out_frac) refl

pub frac_no_int : is_int mode.Frac ≡ false
frac_no_int = rw (fold_out-Mode, out_int, out_frac) refl

int_no_frac : is_frac mode.Int ≡ false
int_no_frac = rw (fold_out-Mode, out_frac, out_int) refl

-- ---- one operand

abbrev One : Op1 → Made1 → Base → Type 0
One op o b = monadic_mode o (of_base (takes op b)) ≡ Some (of_base (gives op b))

table_one : (op : Op1) (b : Base) (o : Made1) → made_monadic op ≡ Some o → One op o b
table_one op1.Plus b o e = subst (λ (x : Made1). One op1.Plus x b) (made one.Plus o e) (by_base b) where
  made : (x y : Made1) → Some x ≡ Some y → x ≡ y
  made x y e = cc

  by_base : (b : Base) → One op1.Plus one.Plus b
  by_base base.Byte = rw int_is_int refl
  by_base base.Int = rw int_is_int refl
  by_base base.Frac = rw (frac_no_int, frac_is_frac) refl
table_one op1.Minus b o e = subst (λ (x : Made1). One op1.Minus x b) (made one.Minus o e) (by_base b) where
  made : (x y : Made1) → Some x ≡ Some y → x ≡ y
  made x y e = cc

  by_base : (b : Base) → One op1.Minus one.Minus b
  by_base base.Byte = rw int_is_int refl
  by_base base.Int = rw int_is_int refl
  by_base base.Frac = rw (frac_no_int, frac_is_frac) refl
table_one op1.Abs b o e = subst (λ (x : Made1). One op1.Abs x b) (made one.Abs o e) (by_base b) where
  made : (x y : Made1) → Some x ≡ Some y → x ≡ y
  made x y e = cc

  by_base : (b : Base) → One op1.Abs one.Abs b
  by_base base.Byte = rw int_is_int refl
  by_base base.Int = rw int_is_int refl
  by_base base.Frac = rw (frac_no_int, frac_is_frac) refl
table_one op1.Not b o e = subst (λ (x : Made1). One op1.Not x b) (made one.Not o e) (rw int_is_int refl) where
  made : (x y : Made1) → Some x ≡ Some y → x ≡ y
  made x y e = cc
table_one op1.Byte b o e = subst (λ (x : Made1). One op1.Byte x b) (made one.Byte o e) (rw int_is_int refl) where
  made : (x y : Made1) → Some x ≡ Some y → x ≡ y
  made x y e = cc
table_one op1.Int b o e = subst (λ (x : Made1). One op1.Int x b) (made one.Int o e) (by_base b) where
  made : (x y : Made1) → Some x ≡ Some y → x ≡ y
  made x y e = cc

  by_base : (b : Base) → One op1.Int one.Int b
  by_base base.Byte = rw byte_is_byte refl
  by_base base.Int = rw (int_no_byte, int_is_int) refl
  by_base base.Frac = rw (frac_no_byte, frac_no_int, frac_is_frac) refl
table_one op1.Frac b o e = subst (λ (x : Made1). One op1.Frac x b) (made one.Frac o e) (by_base b) where
  made : (x y : Made1) → Some x ≡ Some y → x ≡ y
  made x y e = cc

  by_base : (b : Base) → One op1.Frac one.Frac b
  by_base base.Byte = rw int_is_int refl
  by_base base.Int = rw int_is_int refl
  by_base base.Frac = rw (frac_no_int, frac_is_frac) refl
table_one op1.Length b o e = absurd cc

pub monadic_gives : (op : Op1) (b : Base) (o : Made1) → made_monadic op ≡ Some o → One op o b
monadic_gives op b o e = table_one op b o e

-- ---- two operands

pub of_int_gives : (op : Op2) → of_int op ≡ true → dyadic_mode (made_dyadic op base.Int) mode.Int mode.Int ≡ Some mode.Int
of_int_gives op2.Divide e = rw int_is_int refl
of_int_gives op2.Mod e = rw int_is_int refl
of_int_gives op2.Land e = rw int_is_int refl
of_int_gives op2.Lor e = rw int_is_int refl
of_int_gives op2.Nev e = rw int_is_int refl
of_int_gives _ e = absurd cc

abbrev Two : Op2 → Base → Type 0
Two op b = dyadic_mode (made_dyadic op b) (of_base b) (of_base (right_takes op b)) ≡ Some (of_base b)

int_two : (op : Op2) → of_int op ≡ false → Two op base.Int
int_two op2.Sll e = rw int_is_int refl
int_two op2.Srl e = rw int_is_int refl
int_two op2.Sla e = rw int_is_int refl
int_two op2.Sra e = rw int_is_int refl
int_two op2.Times e = rw int_is_int refl
int_two op2.Plus e = rw (int_no_frac, int_is_int) refl
int_two op2.Minus e = rw (int_no_frac, int_is_int) refl
int_two _ e = absurd cc

frac_two : (op : Op2) → of_int op ≡ false → Two op base.Frac
frac_two op2.Sll e = rw (int_is_int, frac_no_int, frac_is_frac) refl
frac_two op2.Srl e = rw (int_is_int, frac_no_int, frac_is_frac) refl
frac_two op2.Sla e = rw (int_is_int, frac_no_int, frac_is_frac) refl
frac_two op2.Sra e = rw (int_is_int, frac_no_int, frac_is_frac) refl
frac_two op2.Times e = rw frac_is_frac refl
frac_two op2.Plus e = rw frac_is_frac refl
frac_two op2.Minus e = rw frac_is_frac refl
frac_two _ e = absurd cc

pub by_left_gives : (op : Op2) (b : Base) → of_int op ≡ false → Two op (frac_or_int b)
by_left_gives op base.Byte e = int_two op e
by_left_gives op base.Int e = int_two op e
by_left_gives op base.Frac e = frac_two op e
