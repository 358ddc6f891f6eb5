-- Which plain trees fit: what each term gives, where each path leads, and what each statement asks for. A local may be named
-- where it has been given a value on every way there; which have is what `Started` says.
use Rattle.std.specs.Prelude.{◌≡◌, ◌⊎◌, ℕ, ◌+◌, ◌<◌, ◌==◌, Bool, true, false, ◌&&◌, ◌||◌, List, [], ◌∷◌, length, Option, Some, None, option_map, slice_get}
use Rattle.std.specs.List.{Contains}
use Rattle.rt_modes.specs.declared.mode.Mode.{Mode, out-Mode}
use Rattle.rt_modes.specs.declared.mode.Mode.TheOpen.{Mode-F}
use Rattle.rt_modes.specs.declared.mode.Mode.TheVariants as mode
use Rattle.rt_modes.specs.declared.mode.ModeTable.{ModeTable}
use Rattle.rt_tree_nodes.specs.declared.brick.Local.{Local}
use Rattle.rt_tree_nodes.specs.declared.brick.Local.TheVariants as local
use Rattle.rt_tree_nodes.specs.declared.brick.ModuleParts.{ModuleParts}
use Rattle.rt_tree_nodes.specs.declared.operators.Op2.{Op2}
use Rattle.rt_tree_nodes.specs.declared.operators.Op2.TheVariants as two
use Rattle.rt_tree_nodes.specs.Scopes.{faces, field_mode, proc_mode}
use Rattle.rt_tree_nodes.specs.Tree.{Term, Num, Str, Name, Own, Get, Ref, RefRow, Count, CountRow, One, Two, Over, Apply, ApplyBy, Path, ItemAt, Svc, FieldOf, Elem, ElemRow, Past, Terms, NoTerm, MoreTerms, Cond, Is, Both, Either, Stmt, Keep, Clear, Put, Run, Toss, Goto, GiveBack, Back, Switch, Inner, If, For, To, While, Recover, Seq, Done, Then, Mark}
use Rattle.rt_tree_nodes.specs.Typing.{Shared, item_found, is_value, monadic_mode, dyadic_mode, compare_fits}
use Rattle.rt_tree.specs.Statements.{starts_at_zero}
use Rattle.rt_tree.specs.Taken.{taken}
use Rattle.rt_tree.specs.FullModes.{MayStand}
use Rattle.rt_meaning_laws.specs.Slots.{IsInt, IsByte, IsOwn}

-- the locals that have a value
abbrev pub Started : Type 0
Started = ℕ → Bool

abbrev pub Within : Started → Started → Type 0
Within k s = (i : ℕ) → k i ≡ true → s i ≡ true

abbrev pub and_local : Started → ℕ → Started
and_local s i j = j == i || s j

-- a local that becomes a value has one from then on
abbrev pub behind : Started → Stmt → Started
behind s (Keep i v) = and_local s i
behind s _ = s

-- A procedure where it stands: its module, its locals, the mode of its result, and the locals that have a value at each label.
pub record Site : Type 0 where
  pub parts : ModuleParts
  pub locals : List Local
  pub answer : Option Mode
  pub at_label : ℕ → Option Started

abbrev pub table : Site → ModeTable
table x = x.parts.modes

-- a loop's own locals are of mode INT
abbrev pub mode_of_local : Local → Mode
mode_of_local (local.Variable m) = m
mode_of_local local.Loop = mode.Int

abbrev pub local_mode : Site → ℕ → Option Mode
local_mode x i = option_map mode_of_local (slice_get x.locals i)

abbrev pub IsLoop : Site → ℕ → Type 0
IsLoop x i = slice_get x.locals i ≡ Some local.Loop

-- the three of one loop
abbrev pub AreLoops : Site → ℕ → Type 0
AreLoops x i = IsLoop x i × IsLoop x (i + 1) × IsLoop x (i + 2)

-- ---- modes

abbrev pub number_fits : ℕ → Mode-F Mode → Type 0
number_fits n Mode-F.Byte = n < 256
number_fits n Mode-F.Int = n < 65536
number_fits n _ = ⊥

-- INT and FRAC
abbrev pub of_number : Mode-F Mode → Bool
of_number Mode-F.Int = true
of_number Mode-F.Frac = true
of_number _ = false

abbrev pub of_word : Mode-F Mode → Bool
of_word Mode-F.Byte = true
of_word other = of_number other

abbrev pub IsNumber : Mode → Type 0
IsNumber m = of_number (out-Mode m) ≡ true

-- a BYTE, INT or FRAC
abbrev pub IsWord : Mode → Type 0
IsWord m = of_word (out-Mode m) ≡ true

-- the reference of an array is a row
abbrev pub is_array : Mode-F Mode → Bool
is_array (Mode-F.Array n m) = true
is_array _ = false

-- `:/` and MOD
abbrev pub is_division : Op2 → Bool
is_division two.Divide = true
is_division two.Mod = true
is_division _ = false

-- the path leads to an item of the task's own data
abbrev pub OwnFits : ModeTable → Path → Mode → Type 0
OwnFits t (Svc k) m = IsOwn t k m
OwnFits t _ m = ⊥

-- ---- terms

module _ (x : Site) where
  abbrev mutual
    -- the term gives a value of the mode
    pub TermFits : Started → Term → Mode → Type 0
    TermFits s (Num n) m = number_fits n (out-Mode m)
    TermFits s (Str n) m = (w : Mode) × (out-Mode m ≡ Mode-F.RefArray w) × IsByte w × (n < length x.parts.strings)
    TermFits s (Name b) m = (proc_mode (faces x.parts.bricks) b ≡ Some m) × Contains (taken x.parts) b
    TermFits s (Own i) m = (local_mode x i ≡ Some m) × (s i ≡ true)
    TermFits s (Get w q) m = (w ≡ m) × (is_value (out-Mode m) ≡ true) × (PathFits s q m ⊎ (OwnFits (table x) q m × MayStand (table x) m))
    TermFits s (Ref q) m = (w : Mode) × (out-Mode m ≡ Mode-F.Ref w) × PathFits s q w × (is_array (out-Mode w) ≡ false)
    TermFits s (RefRow q n) m = (w a : Mode) × (out-Mode m ≡ Mode-F.RefArray w) × (out-Mode a ≡ Mode-F.Array n w) × PathFits s q a
    TermFits s (Count q n) m = (a : Mode) × IsInt m × (n < 65536) × PathFits s q a
    TermFits s (CountRow v) m = (k w : Mode) × IsInt m × (out-Mode k ≡ Mode-F.RefArray w) × TermFits s v k
    TermFits s (One o v) m = (k : Mode) × (monadic_mode o k ≡ Some m) × TermFits s v k
    TermFits s (Two o a b) m = (j k : Mode) × (dyadic_mode o j k ≡ Some m) × TermFits s a j × TermFits s b k × (is_division o ≡ false)
    TermFits s (Over o a b) m = (j k : Mode) × (dyadic_mode o j k ≡ Some m) × TermFits s a j × TermFits s b k × (is_division o ≡ true)
    TermFits s (Apply b vs) m = (w : Mode) × (ws : List Mode) × (proc_mode (faces x.parts.bricks) b ≡ Some w) × (out-Mode w ≡ Mode-F.Proc ws (Some m)) × TermsFit s vs ws
    TermFits s (ApplyBy u f vs) m = (w : Mode) × (ws : List Mode) × (out-Mode w ≡ Mode-F.Proc ws (Some m)) × TermFits s f w × TermsFit s vs ws × (u ≡ w)

    -- the path leads to a place of the mode, which all tasks share
    pub PathFits : Started → Path → Mode → Type 0
    PathFits s (ItemAt b i) m = item_found (faces x.parts.bricks) b i ≡ Some (Shared m)
    PathFits s (Svc k) m = ⊥
    PathFits s (FieldOf q r k) m = (w : Mode) × (out-Mode w ≡ Mode-F.Record r) × (field_mode x.parts.modes.records r k ≡ Some m) × PathFits s q w
    PathFits s (Elem q v n e) m = (w i : Mode) × (out-Mode w ≡ Mode-F.Array n m) × IsInt i × PathFits s q w × TermFits s v i × (e ≡ m)
    PathFits s (ElemRow a v e) m = (w i : Mode) × (out-Mode w ≡ Mode-F.RefArray m) × IsInt i × TermFits s a w × TermFits s v i × (e ≡ m)
    PathFits s (Past v) m = (w : Mode) × (out-Mode w ≡ Mode-F.Ref m) × TermFits s v w

    -- as many terms as modes, and each gives a value of its mode
    pub TermsFit : Started → Terms → List Mode → Type 0
    TermsFit s NoTerm ws = ws ≡ []
    TermsFit s (MoreTerms v vs) ws = (m : Mode) × (ms : List Mode) × (ws ≡ m ∷ ms) × TermFits s v m × TermsFit s vs ms

  -- the call gives this, if anything
  abbrev pub CallFits : Started → Term → Option Mode → Type 0
  CallFits s (Apply b vs) o = (w : Mode) × (ws : List Mode) × (proc_mode (faces x.parts.bricks) b ≡ Some w) × (out-Mode w ≡ Mode-F.Proc ws o) × TermsFit s vs ws
  CallFits s (ApplyBy u f vs) o = (w : Mode) × (ws : List Mode) × (out-Mode w ≡ Mode-F.Proc ws o) × TermFits s f w × TermsFit s vs ws × (u ≡ w)
  CallFits s _ o = ⊥

  -- ---- conditions

  abbrev pub CondFits : Started → Cond → Type 0
  CondFits s (Is r a b) = (j k : Mode) × (compare_fits r j k ≡ true) × TermFits s a j × TermFits s b k
  CondFits s (Both t u) = CondFits s t × CondFits s u
  CondFits s (Either t u) = CondFits s t × CondFits s u

  -- ---- statements

  -- a label can be gone to: what has a value at it has one here
  abbrev pub LabelFits : Started → ℕ → Type 0
  LabelFits s l = (k : Started) × (x.at_label l ≡ Some k) × Within k s

  abbrev pub LabelsFit : Started → List ℕ → Type 0
  LabelsFit s [] = Unit {0}
  LabelsFit s (l ∷ ls) = LabelFits s l × LabelsFit s ls

  abbrev mutual
    pub StmtFits : Started → Stmt → Type 0
    StmtFits s (Keep i v) = (m : Mode) × (local_mode x i ≡ Some m) × TermFits s v m
    StmtFits s (Clear i) = (m : Mode) × (local_mode x i ≡ Some m) × (starts_at_zero (out-Mode m) ≡ true)
    StmtFits s (Put w q v) = (m : Mode) × (is_value (out-Mode m) ≡ true) × (PathFits s q m ⊎ (OwnFits (table x) q m × MayStand (table x) m)) × TermFits s v m × (w ≡ m)
    StmtFits s (Run v) = CallFits s v None
    StmtFits s (Toss v) = (m : Mode) × TermFits s v m
    StmtFits s (Goto l) = LabelFits s l
    StmtFits s (GiveBack v) = (m : Mode) × (x.answer ≡ Some m) × TermFits s v m
    StmtFits s Back = x.answer ≡ None
    StmtFits s (Switch v ls) = (m : Mode) × IsInt m × TermFits s v m × LabelsFit s ls
    StmtFits s (Inner q) = SeqFits s q
    StmtFits s (If t a b) = CondFits s t × SeqFits s a × SeqFits s b
    StmtFits s (For i a b c q) = (j k m : Mode) × AreLoops x i × (IsInt j × TermFits s a j) × (IsInt k × TermFits s b k) × (IsInt m × TermFits s c m) × SeqFits s q
    StmtFits s (To i n q) = (m : Mode) × AreLoops x i × (IsInt m × TermFits s n m) × SeqFits s q
    StmtFits s (While t q) = CondFits s t × SeqFits s q
    StmtFits s (Recover l) = Unit {0}

    -- A local that becomes a value may be taken for one without: a label may stand behind it.
    pub SeqFits : Started → Seq → Type 0
    SeqFits s Done = Unit {0}
    SeqFits s (Then a q) = StmtFits s a × ((k : Started) × Within s k × Within k (behind s a) × SeqFits k q)
    SeqFits s (Mark l q) = (k : Started) × (x.at_label l ≡ Some k) × Within s k × Within k s × SeqFits k q

-- ---- where control never comes

abbrev mutual
  -- control never comes to what stands behind the statement
  pub stmt_ends : Stmt → Bool
  stmt_ends (Goto l) = true
  stmt_ends (GiveBack v) = true
  stmt_ends Back = true
  stmt_ends (Inner q) = seq_ends false q
  stmt_ends (If t a b) = seq_ends false a && seq_ends false b
  stmt_ends _ = false

  -- the same of a sequence, with what is known of what stands before it
  pub seq_ends : Bool → Seq → Bool
  seq_ends known Done = known
  seq_ends known (Then a q) = seq_ends (stmt_ends a) q
  seq_ends known (Mark l q) = seq_ends false q

abbrev pub ends : Seq → Bool
ends q = seq_ends false q
