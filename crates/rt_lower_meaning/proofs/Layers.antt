-- What values of a mode are, by its layer.
use Rattle.std.proofs.Common.{◌≡◌, ℕ, zero, suc, ◌<◌, Bool, true, false, List, [], ◌∷◌, length, Option, Some, None, refl, sym, ◌∙◌, subst, arith}
use Rattle.std.specs.Prelude.{nat_lt, if◌then◌else◌, slice_get, option_map}
use Rattle.std.proofs.lemmas.Bool.{lt-ltb}
use Rattle.rt_modes.specs.declared.mode.Mode.{Mode, out-Mode}
use Rattle.rt_modes.specs.declared.mode.Mode.TheOpen.{Mode-F}
use Rattle.rt_modes.specs.declared.mode.Mode.TheVariants as mode
use Rattle.rt_modes.specs.declared.mode.ModeTable.{ModeTable}
use Rattle.rt_modes.specs.FullMode.{FullMode}
use Rattle.rt_tree_nodes.specs.declared.store.Proc.{Proc}
use Rattle.rt_tree_nodes.specs.declared.store.Location.{Location}
use Rattle.rt_tree_nodes.specs.declared.store.Location.TheVariants as location
use Rattle.rt_tree_nodes.specs.declared.store.Datum.{Datum}
use Rattle.rt_tree_nodes.specs.declared.store.Datum.TheVariants.{Word, Reference, Row, Procedure}
use Rattle.rt_tree_nodes.specs.Typing.{is_byte}
use Rattle.rt_tree_nodes.proofs.Same.{equal_same, out_same}
use Rattle.rt_tree.specs.Stored as stored
use Rattle.rt_tree.specs.Stored.{System, StandsAt, IsCandidate}
use Rattle.rt_tree.specs.FullModes.{MayStand}
use Rattle.rt_meaning_laws.specs.Slots.{LeadsTo, IsByte, IsOwn, IsOf}
use Rattle.rt_meaning_laws.specs.Slots as slots
use Rattle.rt_tree_nodes.specs.declared.brick.Local.{Local}
use Rattle.rt_meaning_laws.specs.Trees.{IsWord, number_fits, Site, mode_of_local, local_mode}
use Rattle.rt_meaning_laws.proofs.Modes.{out_byte, is_a_word, is_a_place, is_a_row, is_a_procedure, IsRow}
use Rattle.rt_meaning_laws.proofs.Operators.{byte_out}
use Rattle.rt_icode.specs.declared.ins.Width.TheVariants as width
use Rattle.rt_lower.specs.Values.{width_of, own_item}
use Rattle.rt_icode_meaning.specs.Move.{own_place}
use Rattle.rt_icode_meaning.specs.Typed.{IsWide, IsShared}

module _ (ps : System) (t : ModeTable) where
  pub by_word : (P : Datum → Type 0) (m : Mode) (d : Datum) → IsOf ps t m d → IsWord m → ((n : ℕ) → n < 65536 → P (Word n)) → P d
  by_word P m d h w go = let k = is_a_word h.0 w in subst P (sym k.1) (go k.0 k.2)

  pub by_place : (P : Datum → Type 0) (k m : Mode) (d : Datum) → IsOf ps t k d → out-Mode k ≡ Mode-F.Ref m → ((l : Location) → LeadsTo ps t m l → P (Reference l)) → P d
  by_place P k m d h e go =
      let p = is_a_place h.0 m e in
      let b : IsOf ps t k (Reference p.0) = subst (λ y. IsOf ps t k y) p.1 h in
      let layers : Mode-F.Ref b.1.0 ≡ Mode-F.Ref m = sym b.1.1 ∙ e in
      let same : b.1.0 ≡ m = cc in
      subst P (sym p.1) (go p.0 (subst (λ w. LeadsTo ps t w p.0) same b.1.2))

  pub by_row : (P : Datum → Type 0) (k m : Mode) (d : Datum) → IsOf ps t k d → out-Mode k ≡ Mode-F.RefArray m → ((l : Location) (n : ℕ) → MayStand t k → IsRow ps t m l n → IsOf ps t k (Row l n) → P (Row l n)) → P d
  by_row P k m d h e go =
      let p = is_a_row h.0 m e in
      let b : IsOf ps t k (Row p.0 p.1) = subst (λ y. IsOf ps t k y) p.2 h in
      subst P (sym p.2) (go p.0 p.1 b.1 p.3 b)

  pub by_procedure : (P : Datum → Type 0) (k : Mode) (ws : List Mode) (r : Option Mode) (d : Datum) → IsOf ps t k d → out-Mode k ≡ Mode-F.Proc ws r → ((g : Proc) → MayStand t k → IsCandidate ps (FullMode t k) g → P (Procedure g)) → P d
  by_procedure P k ws r d h e go =
      let p = is_a_procedure h.0 ws r e in
      let b : IsOf ps t k (Procedure p.0) = subst (λ y. IsOf ps t k y) p.1 h in
      subst P (sym p.1) (go p.0 b.1 p.2)

-- how much is read and written
pub wide : (m : Mode) → IsWide (width_of m) m
wide m = by (is_byte m) refl
  where
    by : (b : Bool) → is_byte m ≡ b → IsWide (if b then width.Byte else width.Word) m
    by true e = byte_out m e
    by false e = λ is. let same : is_byte m ≡ true = equal_same mode.Byte m (one is) in absurd cc
      where
        one : IsByte m → mode.Byte ≡ m
        one is = out_same mode.Byte m (out_byte ∙ sym is)

-- the items of the task's own data
pub own_there : {t : ModeTable} {k : ℕ} {m : Mode} → IsOwn t k m → own_place (own_item k) ≡ location.Own k
own_there (slots.ern e) = refl
own_there (slots.erp e f) = refl
own_there (slots.input e f) = refl
own_there (slots.output e f) = refl

pub own_wide : {t : ModeTable} {k : ℕ} {m : Mode} → IsOwn t k m → IsWide width.Word m
own_wide (slots.ern e) = λ is. let no : Mode-F.Byte ≡ Mode-F.Int = sym is ∙ e in absurd cc
own_wide (slots.erp {ws = ws} {r = r} e f) = λ is. let no : Mode-F.Byte ≡ Mode-F.Proc ws r = sym is ∙ e in absurd cc
own_wide (slots.input {ws = ws} {r = r} e f) = λ is. let no : Mode-F.Byte ≡ Mode-F.Proc ws r = sym is ∙ e in absurd cc
own_wide (slots.output {ws = ws} {r = r} e f) = λ is. let no : Mode-F.Byte ≡ Mode-F.Proc ws r = sym is ∙ e in absurd cc

-- a number of a mode is a word
pub number_small : (n : ℕ) (l : Mode-F Mode) → number_fits n l → n < 65536
number_small n Mode-F.Byte h = omega (arith, h)
number_small n Mode-F.Int h = h
number_small n _ h = absurd h

-- ---- locals

pub got_less : {A : Type 0} (xs : List A) (i : ℕ) (y : A) → slice_get xs i ≡ Some y → i < length xs
got_less [] i y e = absurd cc
got_less (x ∷ xs) zero y e = omega arith
got_less (x ∷ xs) (suc i) y e = let r = got_less xs i y e in omega (arith, r)

local_there : (o : Option Local) (m : Mode) → option_map mode_of_local o ≡ Some m → (y : Local) × (o ≡ Some y)
local_there None m e = absurd cc
local_there (Some y) m e = (y, refl)

-- a local that has a mode is there
pub local_inside : (x : Site) (i : ℕ) (m : Mode) (ks : List Datum) → local_mode x i ≡ Some m → length ks ≡ length x.locals → nat_lt i (length ks) ≡ true
local_inside x i m ks e c =
    let y = local_there (slice_get x.locals i) m e in
    let less = got_less x.locals i y.0 y.1 in
    lt-ltb i (length ks) (omega (arith, less, c))

-- ---- places that all tasks share

pub stands_shared : {ps : System} {l : Location} {u : ModeTable} {v : Mode} → StandsAt ps l u v → IsShared l
stands_shared (stored.in_brick h is so f a) = tt
stands_shared (stored.in_text m g a) = tt

pub leads_shared : {ps : System} {t : ModeTable} {m : Mode} {l : Location} → LeadsTo ps t m l → IsShared l
leads_shared h = stands_shared h.at
