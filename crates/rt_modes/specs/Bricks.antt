-- The supplied bricks: ten procedures, which count from 1 by their traps, and behind them two data bricks.
use Rattle.std.specs.Prelude.{ℕ, zero, suc, List, [], ◌∷◌, codes, find, Option, Some, None, slice_get}
use Rattle.std.specs.Str.{bytes_eq}
use Rattle.rt_modes.specs.declared.supplied.Supplied.{Supplied}
use Rattle.rt_modes.specs.declared.supplied.Supplied.TheVariants as brick
use Rattle.rt_modes.specs.declared.supplied.TheConstants.{SUPPLIED}

-- a supplied brick: its name, and its full mode as a text
pub record SuppliedBrick : Type 0 where
  pub name : List ℕ
  pub text : List ℕ

abbrev pub is_of : List ℕ → List ℕ → SuppliedBrick
is_of name text = record { name = name; text = text }

-- the names of the procedures
abbrev pub supplied_names : List (List ℕ)
supplied_names =
    codes "RRIN" ∷ codes "RROUT" ∷ codes "DELAY" ∷ codes "WAIT" ∷ codes "SIGNAL" ∷ codes "SECURE" ∷ codes "RELEASE" ∷ codes "CLOCK" ∷ codes "TASKNO" ∷ codes "RRGEL" ∷ []

-- the bricks from number 1 on
abbrev pub supplied_bricks : List SuppliedBrick
supplied_bricks =
    is_of (codes "RRIN") (codes "PROC() BYTE")
    ∷ is_of (codes "RROUT") (codes "PROC(BYTE)")
    ∷ is_of (codes "DELAY") (codes "PROC(INT)")
    ∷ is_of (codes "WAIT") (codes "PROC(INT)")
    ∷ is_of (codes "SIGNAL") (codes "PROC(INT)")
    ∷ is_of (codes "SECURE") (codes "PROC(INT)")
    ∷ is_of (codes "RELEASE") (codes "PROC(INT)")
    ∷ is_of (codes "CLOCK") (codes "PROC() INT")
    ∷ is_of (codes "TASKNO") (codes "PROC() INT")
    ∷ is_of (codes "RRGEL") (codes "PROC(INT)")
    ∷ is_of (codes "RRERR") (codes "DATA(LABEL ERL,INT ERN,PROC(INT) ERP)")
    ∷ is_of (codes "RRSIO") (codes "DATA(PROC() BYTE IN,PROC(BYTE) OUT)")
    ∷ []

-- the brick of a number, where there is one
abbrev pub brick_numbered : ℕ → Option SuppliedBrick
brick_numbered zero = None
brick_numbered (suc k) = slice_get supplied_bricks k

abbrev pub number_of : Supplied → ℕ
number_of brick.Rrin = 1
number_of brick.Rrout = 2
number_of brick.Delay = 3
number_of brick.Wait = 4
number_of brick.Signal = 5
number_of brick.Secure = 6
number_of brick.Release = 7
number_of brick.Clock = 8
number_of brick.Taskno = 9
number_of brick.Rrgel = 10
number_of brick.Rrerr = 11
number_of brick.Rrsio = 12

abbrev pub name_in : Option SuppliedBrick → List ℕ
name_in None = []
name_in (Some b) = b.name

abbrev pub text_in : Option SuppliedBrick → List ℕ
text_in None = []
text_in (Some b) = b.text

abbrev pub name_of : Supplied → List ℕ
name_of s = name_in (brick_numbered (number_of s))

abbrev pub text_of : Supplied → List ℕ
text_of s = text_in (brick_numbered (number_of s))

-- the brick of a name, where one is supplied
abbrev pub supplied_by : List ℕ → Option Supplied
supplied_by name = find (λ s. bytes_eq (name_of s) name) SUPPLIED
