-- Templates of fields, and of lengths of rows.
use Rattle.std.proofs.Common.{◌≡◌, ℕ, List, [], ◌∷◌, ◌++◌, refl, ap, arith, le_refl, Option, Some, None}
use Rattle.std.specs.Prelude.{slice_get, take}
use Rattle.rt_words.specs.Word.{wrap_add}
use Rattle.rt_modes.specs.declared.mode.Field.{Field}
use Rattle.rt_modes.specs.declared.mode.ModeTable.{ModeTable}
use Rattle.rt_lower.specs.Layouts.{table_of}
use Rattle.rt_sizes.specs.Sizes.{offset_by, fields_end, within}
use Rattle.rt_tree_nodes.specs.declared.store.Datum.TheVariants.{Word, Reference, Row}
use Rattle.rt_tree_nodes.specs.declared.store.Location.{Location}
use Rattle.rt_tree_nodes.specs.Scopes.{field_mode}
use Rattle.rt_tree.specs.Stored.{Suits}
use Rattle.rt_tree.specs.Stored as stored
use Rattle.rt_work_state.specs.Stores.{Store, deeper}
use Rattle.rt_meaning_laws.proofs.Places.{field_leads}
use Rattle.rt_icode.specs.declared.ins.Ins.TheVariants as ins
use Rattle.rt_icode_meaning.specs.Typed.{BeginsAt, HasField, IsRow}
use Rattle.rt_templates.specs.Lines.{push, top}
use Rattle.pdp_code.specs.declared.instruction.Operand.TheVariants.{Immediate, IncrementDeferred}
use Rattle.pdp_code.specs.declared.instruction.Pointer.TheVariants.{PSp}
use Rattle.pdp_code.specs.declared.instruction.SumOp.TheVariants.{Add}
use Rattle.pdp_code.specs.declared.instruction.Instr.TheVariants.{Sum}
use Rattle.pdp_core.specs.World.{word_at}
use Rattle.pdp_symbolic.specs.Plans.{IsShared as IsSharedWord}
use Rattle.rt_follows.specs.Whole.{words_of, Lies}
use Rattle.rt_follows.specs.Held.{layout}
use Rattle.rt_template_meaning.specs.Picture.{env_of, place}
use Rattle.rt_template_meaning.proofs.Placing.{ahead2}
use Rattle.rt_template_meaning.proofs.Opening.{Running, Opened, before, doing, few, lines, room, further, straight}
use Rattle.rt_template_meaning.proofs.Steps.{peeks}
use Rattle.rt_template_meaning.proofs.Written.{no_byte, not_record}
use Rattle.rt_template_meaning.proofs.Places.{shared_word}
use Rattle.rt_template_meaning.proofs.Touching.{known}

-- ---- a field that begins somewhere is there

begins_some : (o : Option Field) (e : Option ℕ) (size : ℕ → Option ℕ) (x : ℕ) → offset_by size o e ≡ Some x → (f : Field) × (o ≡ Some f)
begins_some None e size x h = absurd cc
begins_some (Some f) e size x h = (f, refl)

field_there : (t : ModeTable) (fs : List Field) (k x : ℕ) → BeginsAt t fs k x → (f : Field) × (slice_get fs k ≡ Some f)
field_there t fs k x b = let size = within (table_of t.records) b.0 in begins_some (slice_get fs k) (fields_end size (take k fs) 0) size x b.1

module _ (r : Running) where
  field_is : (l : Location) (k o : ℕ) → HasField r.w.ps r.b.parts (env_of r.w r.b) (Reference l) k o → wrap_add (r.w.address l) o ≡ r.w.address (deeper l k)
  field_is l k o h =
      let t = r.b.parts.modes in
      let f = field_there t h.2.fields k o h.6 in
      let mode_is : field_mode t.records h.1 k ≡ Some f.0.mode = rw (h.5, f.1) refl in
      let lead = field_leads r.w.ps r.stands.sound t (known r) h.0 f.0.mode h.1 k l h.3 h.4 mode_is in
      let at = r.lays.fields t h.0 l h.1 k o h.2 (known r) h.3 h.4 h.5 h.6 in
      let small = r.lays.small lead.at in
      omega (arith, at, small)

  pub into : (k2 o : ℕ) → Opened r (ins.Into k2 o)
  into k2 o n k pc (Reference l ∷ us) ks todo vs ls own u q frame s now =
      let cd = lines s in
      let rest = words_of r.w us ++ frame in
      straight s (Sum Add (Immediate o) top) [] (Reference l ∷ us) (Reference (deeper l k2) ∷ us) 2 todo vs ls own refl (omega arith) now.5.1
      (tt, cd.0, cd.1, λ m is. (refl, refl, (ahead2 (place r.w r.b pc), refl, ap (λ y. y ∷ rest) (field_is l k2 o now.4))))
  into k2 o n k pc us ks todo vs ls own u q frame s now = absurd now.5

  pub into_row : (k2 o x : ℕ) → Opened r (ins.IntoRow k2 o x)
  into_row k2 o x n k pc (Reference l ∷ us) ks todo vs ls own u q frame s now =
      let cd = lines s in
      let rest = words_of r.w us ++ frame in
      straight s (Sum Add (Immediate o) top) [] (Reference l ∷ us) (Row (deeper l k2) x ∷ us) 2 todo vs ls own refl (omega arith) now.5.1
      (tt, cd.0, cd.1, λ m is. (refl, refl, (ahead2 (place r.w r.b pc), refl, ap (λ y. y ∷ rest) (field_is l k2 o now.4))))
  into_row k2 o x n k pc us ks todo vs ls own u q frame s now = absurd now.5

  -- ---- rows

  -- the length word of a row
  pub length_is : (l : Location) (x s : ℕ) → IsRow r.w.ps r.b.parts (env_of r.w r.b) (Row l x) s → ((S : Store) (m : ℕ → ℕ) → Lies r.w S m → word_at m (r.w.address l) ≡ x) × IsSharedWord (layout r.w r.h) (r.w.address l)
  length_is l x s h = by h.2.0
    where
      by : Suits r.w.ps r.b.parts.modes h.0 (Row l x) → ((S : Store) (m : ℕ → ℕ) → Lies r.w S m → word_at m (r.w.address l) ≡ x) × IsSharedWord (layout r.w r.h) (r.w.address l)
      by (stored.row {v = v} {e = e} o a q g) = ((λ S m lies. lies.lengths a q), shared_word r.w r.h (r.w.address l) (r.w.address l) refl (r.lays.words a (no_byte v e x q) (not_record v e x q)))

  pub length_of : Opened r ins.Length
  length_of n k pc (Row l x ∷ us) ks todo vs ls own u q frame s now =
      let cd = lines s in
      let rest = words_of r.w us ++ frame in
      let y = length_is l x now.4.0 now.4.1 in
      let deep = now.0 in
      let has_room = room s us (omega (arith, deep)) in
      peeks r.w r.lays r.h r.sits (push (IncrementDeferred PSp)) (r.w.address l) x n q (before r pc (Row l x ∷ us) u frame) (doing r todo vs ls) r.cs own (few s) y.0 tt cd.0 cd.1
      (λ m is. (y.1, λ z less. (has_room, (z, refl, refl, λ e. further s (Word x ∷ us) 1 todo vs ls refl now.5.1 refl refl (ap (λ o. o ∷ rest) e) (omega arith))))) n (le_refl n)
  length_of n k pc us ks todo vs ls own u q frame s now = absurd now.5
