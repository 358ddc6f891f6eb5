-- Facts on answers and on the levels of modes.
use Rattle.std.proofs.Common.{◌≡◌, Some, Ok}
use Rattle.rt_modes.specs.declared.mode.Mode.{Mode, out-Mode, roll-Mode, the_lemmas}
use Rattle.rt_modes.specs.declared.mode.Mode.TheOpen.{Mode-F}
use Rattle.rt_check_faults.specs.Outcomes.{Outcome}

pub some_is : {A : Type 0} (a b : A) → Some a ≡ Some b → a ≡ b
some_is a b e = cc

pub ok_is : {A : Type 0} (a b : A) (o : Outcome A) → o ≡ Ok a → o ≡ Ok b → a ≡ b
ok_is a b o e h = cc

pub out_roll : (l : Mode-F Mode) → out-Mode (roll-Mode l) ≡ l
out_roll l = search the_lemmas
