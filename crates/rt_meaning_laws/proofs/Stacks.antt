-- The last values as the arguments of a call.
use Rattle.std.proofs.Common.{◌≡◌, ℕ, zero, suc, List, [], ◌∷◌, length, refl, sym, subst}
use Rattle.rt_modes.specs.declared.mode.Mode.{Mode}
use Rattle.rt_modes.specs.declared.mode.ModeTable.{ModeTable}
use Rattle.rt_tree_nodes.specs.declared.store.Datum.{Datum}
use Rattle.rt_tree.specs.Stored.{System}
use Rattle.rt_work.specs.Task.{taken, left}
use Rattle.rt_meaning_laws.specs.Slots.{Slot, AValue, IsOf, FillAll, AreOf, values_on}

taken_more : (n : ℕ) (args vs : List Datum) (d : Datum) (us : List Datum) → left n vs ≡ d ∷ us → taken (suc n) args vs ≡ d ∷ taken n args vs
taken_more zero args [] d us e = absurd cc
taken_more zero args (v ∷ ws) d us e = cc
taken_more (suc n) args [] d us e = absurd cc
taken_more (suc n) args (v ∷ ws) d us e = taken_more n (v ∷ args) ws d us e

left_more : (n : ℕ) (vs : List Datum) (d : Datum) (us : List Datum) → left n vs ≡ d ∷ us → left (suc n) vs ≡ us
left_more zero [] d us e = absurd cc
left_more zero (v ∷ ws) d us e = cc
left_more (suc n) [] d us e = absurd cc
left_more (suc n) (v ∷ ws) d us e = left_more n ws d us e

module _ (ps : System) (t : ModeTable) where
  in_front : (m : Mode) (ss : List Slot) (vs : List Datum) → FillAll ps t (AValue m ∷ ss) vs → (d : Datum) × (us : List Datum) × (vs ≡ d ∷ us) × IsOf ps t m d × FillAll ps t ss us
  in_front m ss [] f = absurd f
  in_front m ss (d ∷ us) f = (d, us, refl, f.0, f.1)

  -- the last values, one for each mode, and those under them
  pub popped : (ws : List Mode) (ss : List Slot) (vs : List Datum) → FillAll ps t (values_on ws ss) vs → AreOf ps t ws (taken (length ws) [] vs) × FillAll ps t ss (left (length ws) vs)
  popped [] ss vs f = (tt, f)
  popped (w ∷ ws) ss vs f =
      let h = popped ws (AValue w ∷ ss) vs f in
      let d = in_front w ss (left (length ws) vs) h.1 in
      (subst (λ (y : List Datum). AreOf ps t (w ∷ ws) y) (sym (taken_more (length ws) [] vs d.0 d.1 d.2)) (d.3, h.0), subst (λ (y : List Datum). FillAll ps t ss y) (sym (left_more (length ws) vs d.0 d.1 d.2)) d.4)
