-- The arguments of the supplied procedures, and what they give.
use Rattle.std.proofs.Common.{◌≡◌, ℕ, ◌<◌, ◌==◌, if◌then◌else◌, List, [], ◌∷◌, refl, sym, ap, ◌∙◌, subst, Option, Some, None}
use Rattle.rt_modes.specs.declared.mode.Mode.{Mode, out-Mode}
use Rattle.rt_modes.specs.declared.mode.Mode.TheOpen.{Mode-F}
use Rattle.rt_modes.specs.declared.mode.Mode.TheVariants as mode
use Rattle.rt_tree_nodes.specs.declared.store.Proc.{Proc}
use Rattle.rt_tree_nodes.specs.declared.store.Datum.{Datum}
use Rattle.rt_tree_nodes.specs.declared.store.Datum.TheVariants.{Word}
use Rattle.rt_tree.specs.Stored.{System, module_of}
use Rattle.rt_work_state.specs.Stores.{supplied}
use Rattle.rt_resolve.specs.Matching.{no_records, int_taken, int_given, IsSupplied, rrin, rrout, delay, wait, signal, secure, release, clock, taskno, rrgel}
use Rattle.rt_meaning_laws.specs.Slots.{AreOf}
use Rattle.rt_meaning_laws.specs.Trees.{IsWord}
use Rattle.rt_meaning_laws.proofs.Modes.{out_int, out_byte, out_proc, int_is_word, byte_is_word, int_is_number, number_is, byte_is, is_a_word}
use Rattle.rt_icode_meaning.specs.Typed.{ArgsFit, ResultFits, to_module, to_supplied, of_supplied}

-- the mode of the supplied procedure of a number
abbrev pub mode_by : ℕ → Mode
mode_by k =
    if k == 1 then mode.Proc [] (Some mode.Byte) else
    if k == 2 then mode.Proc (mode.Byte ∷ []) None else
    if k == 8 then int_given else
    if k == 9 then int_given else int_taken

is_mode : {k : ℕ} {w : Mode} → IsSupplied k w → w ≡ mode_by k
is_mode rrin = refl
is_mode rrout = refl
is_mode delay = refl
is_mode wait = refl
is_mode signal = refl
is_mode secure = refl
is_mode release = refl
is_mode clock = refl
is_mode taskno = refl
is_mode rrgel = refl

-- the arguments are of the modes that the procedure takes
args_are : (ps : System) (f : Proc) (n : ℕ) (ms : List Mode) (r : Option Mode) (args : List Datum) → f ≡ supplied n → mode_by n ≡ mode.Proc ms r → ArgsFit ps f args → AreOf ps no_records ms args
args_are ps _ n ms r args e by (to_module {m = m} {p = p} has here so opens are) =
    let none : module_of ps 0 ≡ Some p = subst (λ k. module_of ps k ≡ Some p) (ap (λ (f : Proc). f.module) e) has.of in
    absurd cc
args_are ps _ n ms r args e by (to_supplied {k = k} {w = w} {ws = ws} {o = o} is opens are) =
    let same : k ≡ n = ap (λ (f : Proc). f.brick) e in
    let mode_is : w ≡ mode.Proc ms r = is_mode is ∙ ap mode_by same ∙ by in
    let one : Mode-F.Proc ws o ≡ Mode-F.Proc ms r = sym opens ∙ ap out-Mode mode_is ∙ out_proc ms r in
    let all : ws ≡ ms = cc in
    subst (λ (z : List Mode). AreOf ps no_records z args) all are

none_in : (ps : System) (args : List Datum) → AreOf ps no_records [] args → args ≡ []
none_in ps [] a = refl
none_in ps (d ∷ ds) a = absurd a

one_in : (ps : System) (m : Mode) (args : List Datum) → IsWord m → AreOf ps no_records (m ∷ []) args → (n : ℕ) × (args ≡ Word n ∷ []) × (n < 65536)
one_in ps m [] is a = absurd a
one_in ps m (d ∷ []) is a = let x = is_a_word a.0.0 is in (x.0, ap (λ (z : Datum). z ∷ []) x.1, x.2)
one_in ps m (d ∷ e ∷ ds) is a = absurd a.1

-- those of the procedures that take none
pub no_argument : (ps : System) (n : ℕ) (r : Option Mode) (args : List Datum) → mode_by n ≡ mode.Proc [] r → ArgsFit ps (supplied n) args → args ≡ []
no_argument ps n r args by a = none_in ps args (args_are ps (supplied n) n [] r args refl by a)

-- a number
pub one_number : (ps : System) (n : ℕ) (args : List Datum) → mode_by n ≡ int_taken → ArgsFit ps (supplied n) args → (x : ℕ) × (args ≡ Word x ∷ []) × (x < 65536)
one_number ps n args by a = one_in ps mode.Int args (int_is_word mode.Int out_int) (args_are ps (supplied n) n (mode.Int ∷ []) None args refl by a)

-- a byte
pub one_byte : (ps : System) (args : List Datum) → ArgsFit ps (supplied 2) args → (x : ℕ) × (args ≡ Word x ∷ []) × (x < 65536)
one_byte ps args a = one_in ps mode.Byte args (byte_is_word mode.Byte out_byte) (args_are ps (supplied 2) 2 (mode.Byte ∷ []) None args refl refl a)

-- ---- results

pub gives_byte : (ps : System) (x : ℕ) → x < 256 → ResultFits ps (supplied 1) (Some (Word x))
gives_byte ps x less = of_supplied rrin (out_proc [] (Some mode.Byte)) (byte_is ps no_records mode.Byte x out_byte less)

pub gives_clock : (ps : System) (x : ℕ) → x < 65536 → ResultFits ps (supplied 8) (Some (Word x))
gives_clock ps x less = of_supplied clock (out_proc [] (Some mode.Int)) (number_is ps no_records mode.Int x (int_is_number mode.Int out_int) less)

pub gives_number : (ps : System) (x : ℕ) → x < 65536 → ResultFits ps (supplied 9) (Some (Word x))
gives_number ps x less = of_supplied taskno (out_proc [] (Some mode.Int)) (number_is ps no_records mode.Int x (int_is_number mode.Int out_int) less)

pub gives_nothing : (ps : System) (n : ℕ) → IsSupplied n int_taken → ResultFits ps (supplied n) None
gives_nothing ps n is = of_supplied is (out_proc (mode.Int ∷ []) None) tt

pub rrout_gives_nothing : (ps : System) → ResultFits ps (supplied 2) None
rrout_gives_nothing ps = of_supplied rrout (out_proc (mode.Byte ∷ []) None) tt
