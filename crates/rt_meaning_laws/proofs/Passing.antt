-- Arguments and results that pass from one module to another.
use Rattle.std.proofs.Common.{◌≡◌, inl, ℕ, ◌-◌, ◌&&◌, nat_lt, nat_le, Bool, true, List, [], ◌∷◌, map, Option, Some, None, option_map, length, sym, ap, ◌∙◌, subst}
use Rattle.rt_modes.specs.declared.mode.Mode.{Mode, out-Mode}
use Rattle.rt_modes.specs.declared.mode.Mode.TheOpen.{Mode-F}
use Rattle.rt_modes.specs.declared.mode.ModeTable.{ModeTable}
use Rattle.rt_modes.specs.FullMode.{FullMode}
use Rattle.rt_tree_nodes.specs.declared.store.Datum.{Datum}
use Rattle.rt_tree.specs.declared.standing.Standing.{Standing}
use Rattle.rt_tree.specs.declared.standing.Standing.TheVariants as standing
use Rattle.rt_tree.specs.Modules.{Stands, stands, all_passed, result_passed}
use Rattle.rt_tree.specs.Stored.{System}
use Rattle.rt_tree.specs.FullModes.{MayStand}
use Rattle.rt_tree.specs.Opened.{EachSame, AnySame}
use Rattle.rt_meaning_laws.specs.Levels.{IsTableOf}
use Rattle.rt_meaning_laws.specs.Slots.{IsOf, AreOf}
use Rattle.rt_meaning_laws.specs.Trees.{Site, table}
use Rattle.rt_meaning_laws.specs.Work.{AnswerFits}
use Rattle.rt_meaning_laws.specs.Grounds.{Sound}
use Rattle.rt_meaning_laws.specs.Tasks.{AnswersAs, no_result, one_result}
use Rattle.rt_meaning_laws.proofs.Modes.{stands_at}
use Rattle.rt_meaning_laws.proofs.Places.{of_suits}
use Rattle.rt_meaning_laws.proofs.Stores.{suits_over}
use Rattle.rt_meaning_laws.proofs.Small.{left_of, right_of}

-- ---- the modes of parameters and results may stand

abbrev AllStand : ModeTable → List Mode → Type 0
AllStand t [] = Unit {0}
AllStand t (m ∷ ms) = MayStand t m × AllStand t ms

abbrev AnyStands : ModeTable → Option Mode → Type 0
AnyStands t None = Unit {0}
AnyStands t (Some m) = MayStand t m

all_stand : (t : ModeTable) (levels : ℕ) (ms : List Mode) → all_passed levels (map (stands (length t.records)) ms) ≡ true → AllStand t ms
all_stand t levels [] h = tt
all_stand t levels (m ∷ ms) h =
    let a : Bool = stands (length t.records) m standing.Passed levels 8 in
    let b : Bool = all_passed levels (map (stands (length t.records)) ms) in
    (record { place = standing.Passed; levels = levels; refs = 8; passes = left_of a b h }, all_stand t levels ms (right_of a b h))

any_stands : (t : ModeTable) (levels : ℕ) (o : Option Mode) → result_passed levels (option_map (stands (length t.records)) o) ≡ true → AnyStands t o
any_stands t levels None h = tt
any_stands t levels (Some m) h = record { place = standing.Passed; levels = levels; refs = 8; passes = h }

opened_tests : (levels count : ℕ) (a b : Bool) → nat_lt 0 levels && (nat_le count 32 && (a && b)) ≡ true → (a ≡ true) × (b ≡ true)
opened_tests levels count a b h =
    let d : a && b ≡ true = right_of (nat_le count 32) (a && b) (right_of (nat_lt 0 levels) (nat_le count 32 && (a && b)) h) in
    (left_of a b d, right_of a b d)

proc_tests : (t : ModeTable) (m : Mode) (ws : List Mode) (o : Option Mode) (place : Standing) (levels refs : ℕ) → out-Mode m ≡ Mode-F.Proc ws o → stands (length t.records) m place levels refs ≡ true
    → (all_passed (levels - 1) (map (stands (length t.records)) ws) ≡ true) × (result_passed (levels - 1) (option_map (stands (length t.records)) o) ≡ true)
proc_tests t m ws None place levels refs e h = opened_tests levels (length (map (stands (length t.records)) ws)) (all_passed (levels - 1) (map (stands (length t.records)) ws)) true (sym (ap (λ (f : Stands). f place levels refs) (stands_at (length t.records) m (Mode-F.Proc ws None) e)) ∙ h)
proc_tests t m ws (Some r) place levels refs e h = opened_tests levels (length (map (stands (length t.records)) ws)) (all_passed (levels - 1) (map (stands (length t.records)) ws)) (stands (length t.records) r standing.Passed (levels - 1) 8) (sym (ap (λ (f : Stands). f place levels refs) (stands_at (length t.records) m (Mode-F.Proc ws (Some r)) e)) ∙ h)

pub parts_stand : (t : ModeTable) (m : Mode) (ws : List Mode) (o : Option Mode) → out-Mode m ≡ Mode-F.Proc ws o → MayStand t m → AllStand t ws × AnyStands t o
parts_stand t m ws o e h =
    let k = proc_tests t m ws o h.place h.levels h.refs e h.passes in
    (all_stand t (h.levels - 1) ws k.0, any_stands t (h.levels - 1) o k.1)

-- ---- values

module _ (ps : System) (so : Sound ps) (t u : ModeTable) (kt : IsTableOf ps t) (ku : IsTableOf ps u) where
  pub value_passes : (m n : Mode) (d : Datum) → MayStand t m → MayStand u n → FullMode t m ≡ FullMode u n → IsOf ps t m d → IsOf ps u n d
  value_passes m n d sm sn f h = of_suits ps so u ku sn (suits_over ps so t u kt ku m n d (inl sm) (inl sn) f h.0)

  pub values_pass : (ms ns : List Mode) (ds : List Datum) → AllStand t ms → AllStand u ns → EachSame t u ms ns → AreOf ps t ms ds → AreOf ps u ns ds
  values_pass [] [] ds sm sn e h = h
  values_pass [] (n ∷ ns) ds sm sn e h = absurd e
  values_pass (m ∷ ms) [] ds sm sn e h = absurd e
  values_pass (m ∷ ms) (n ∷ ns) [] sm sn e h = absurd h
  values_pass (m ∷ ms) (n ∷ ns) (d ∷ ds) sm sn e h = (value_passes m n d sm.0 sn.0 e.0 h.0, values_pass ms ns ds sm.1 sn.1 e.1 h.1)

-- what one procedure gives as what another waits for
module _ (ps : System) (so : Sound ps) where
  no_value : (y x : Site) (v : Option Datum) → AnswerFits ps y None v → AnswerFits ps x None v
  no_value y x None h = h
  no_value y x (Some d) h = absurd h

  one_value : (y x : Site) (n m : Mode) (v : Option Datum) → IsTableOf ps (table y) → IsTableOf ps (table x) → MayStand (table y) n → MayStand (table x) m → FullMode (table y) n ≡ FullMode (table x) m → AnswerFits ps y (Some n) v → AnswerFits ps x (Some m) v
  one_value y x n m None ky kx sn sm f h = absurd h
  one_value y x n m (Some d) ky kx sn sm f h = value_passes ps so (table y) (table x) ky kx n m d sn sm f h

  pub result_passes : (y x : Site) (o : Option Mode) (v : Option Datum) → IsTableOf ps (table y) → IsTableOf ps (table x) → AnswersAs y x o → AnswerFits ps y y.answer v → AnswerFits ps x o v
  result_passes y x o v ky kx (no_result e) h = no_value y x v (subst (λ (a : Option Mode). AnswerFits ps y a v) e h)
  result_passes y x o v ky kx (one_result {n = n} {m = m} e sn sm f) h = one_value y x n m v ky kx sn sm f (subst (λ (a : Option Mode). AnswerFits ps y a v) e h)

  -- a call waits for what is called
  pub answers_as : (y x : Site) (o a : Option Mode) → y.answer ≡ a → AnyStands (table x) o → AnyStands (table y) a → AnySame (table x) (table y) o a → AnswersAs y x o
  answers_as y x None None e so sa h = no_result e
  answers_as y x None (Some n) e so sa h = absurd h
  answers_as y x (Some m) None e so sa h = absurd h
  answers_as y x (Some m) (Some n) e so sa h = one_result e sa so (sym h)
