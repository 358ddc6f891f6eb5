-- Paths lead on from modes of one full mode to modes of one full mode.
use Rattle.std.proofs.Common.{◌≡◌, ℕ, Bool, true, false, List, [], ◌∷◌, Option, Some, None, option_map, slice_get, if◌then◌else◌, refl, sym, ap, ◌∙◌, subst}
use Rattle.std.specs.Prelude.{nat_lt}
use Rattle.rt_modes.specs.declared.mode.Field.{Field}
use Rattle.rt_modes.specs.declared.mode.Mode.{Mode, out-Mode}
use Rattle.rt_modes.specs.declared.mode.Mode.TheOpen.{Mode-F}
use Rattle.rt_modes.specs.declared.mode.ModeTable.{ModeTable}
use Rattle.rt_modes.specs.declared.mode.RecordDef.{RecordDef}
use Rattle.rt_tree_nodes.specs.Scopes.{with, mode_of, field_at, field_mode}
use Rattle.rt_tree.specs.Modules.{part_mode, mode_along}
use Rattle.rt_tree.specs.Opened.{IsTable, LevelSame, FullModesOpen}
use Rattle.rt_tree_laws.proofs.Telling.{in_table}
use Rattle.rt_sizes.proofs.Layers.{some_is}
use Rattle.rt_sizes_laws.specs.Laws.{AreOne, PathsLeadAlike}
use Rattle.rt_sizes_laws.proofs.Alike.{AllOne, BothOne, one_got, level_at, elements_one, records_one}
use Rattle.rt_sizes_laws.proofs.Lying.{one_size}

with_left : {A B : Type 0} (o : Option A) (go : A → Option B) (y : B) → with o go ≡ Some y → (x : A) × (o ≡ Some x) × (go x ≡ Some y)
with_left None go y e = absurd cc
with_left (Some x) go y e = (x, refl, e)

module _ (opens : FullModesOpen) (t u : ModeTable) (gt : IsTable t) (gu : IsTable u) where
  -- the part of the other mode
  abbrev Other : Option Mode → Mode → Type 0
  Other o x = (y : Mode) × (o ≡ Some y) × AreOne t u x y

  other_field : (o p : Option Field) (x : Mode) → BothOne opens t u gt gu o p → option_map mode_of o ≡ Some x → Other (option_map mode_of p) x
  other_field None p x h e = absurd cc
  other_field (Some f) None x h e = absurd h
  other_field (Some f) (Some g) x h e = (g.mode, refl, subst (λ (z : Mode). AreOne t u z g.mode) (some_is f.mode x e) h.1)

  other_of : (r q k : ℕ) (d e : RecordDef) (x : Mode) → AllOne opens t u gt gu d.fields e.fields → slice_get t.records r ≡ Some d → slice_get u.records q ≡ Some e → field_mode t.records r k ≡ Some x → Other (field_mode u.records q k) x
  other_of r q k d e x all a b is =
      subst (λ (o : Option RecordDef). Other (with o (λ (c : RecordDef). field_at c.fields k)) x) (sym b)
      (other_field (slice_get d.fields k) (slice_get e.fields k) x (one_got opens t u gt gu d.fields e.fields k all) (subst (λ (o : Option RecordDef). with o (λ (c : RecordDef). field_at c.fields k) ≡ Some x) a is))

  -- an element, if there is one
  other_element : (b : Bool) (e f x : Mode) → AreOne t u e f → (if b then Some e else None) ≡ Some x → Other (if b then Some f else None) x
  other_element true e f x one is = (f, refl, subst (λ (z : Mode). AreOne t u z f) (some_is e x is) one)
  other_element false e f x one is = absurd cc

  other_by : (m n x : Mode) (k : ℕ) (l p : Mode-F Mode) → out-Mode m ≡ l → out-Mode n ≡ p → AreOne t u m n → LevelSame t u l p → part_mode t.records k l ≡ Some x → Other (part_mode u.records k p) x
  other_by m n x k (Mode-F.Record r) (Mode-F.Record q) o i one h e =
      let a = in_table t gt.names gt.apart m (Mode-F.Record r) one.left o in
      let b = in_table u gu.names gu.apart n (Mode-F.Record q) one.right i in
      other_of r q k a.0 b.0 x (records_one opens t u gt gu r q a.0 b.0 (record { m = m; n = n; is = o; are = i; one = one }) a.1 b.1) a.1 b.1 e
  other_by m n x k (Mode-F.Record r) _ o i one h e = absurd h
  other_by m n x k (Mode-F.Array c v) (Mode-F.Array d w) o i one h e =
      let inner = elements_one opens t u gt gu m n v w c d o i one in
      subst (λ (z : ℕ). Other (if nat_lt k z then Some w else None) x) inner.0 (other_element (nat_lt k c) v w x inner.1 e)
  other_by m n x k (Mode-F.Array c v) _ o i one h e = absurd h
  other_by m n x k _ p o i one h e = absurd cc

  pub other_part : (m n x : Mode) (k : ℕ) → AreOne t u m n → part_mode t.records k (out-Mode m) ≡ Some x → Other (part_mode u.records k (out-Mode n)) x
  other_part m n x k one e = other_by m n x k (out-Mode m) (out-Mode n) refl refl one (level_at opens t u gt gu m n (out-Mode m) (out-Mode n) refl refl one) e

  pub other_along : (path : List ℕ) (m n v : Mode) → AreOne t u m n → mode_along t.records path m ≡ Some v → Other (mode_along u.records path n) v
  other_along [] m n v one e = (n, refl, subst (λ (z : Mode). AreOne t u z n) (some_is m v e) one)
  other_along (k ∷ path) m n v one e =
      let first = with_left (part_mode t.records k (out-Mode m)) (mode_along t.records path) v e in
      let next = other_part m n first.0 k one first.1 in
      let rest = other_along path first.0 next.0 v next.2 first.2 in
      (rest.0, ap (λ (o : Option Mode). with o (mode_along u.records path)) next.1 ∙ rest.1, rest.2)

pub paths_lead_alike : FullModesOpen → PathsLeadAlike
paths_lead_alike opens t u m n v path gt gu one e = let other = other_along opens t u gt gu path m n v one e in (other.0, other.1, other.2, one_size opens t u v other.0 gt gu other.2)
