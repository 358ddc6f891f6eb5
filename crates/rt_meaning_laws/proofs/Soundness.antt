-- A system that fits is sound: its full modes tell its modes, and its references lead to places that may stand.
use Rattle.std.proofs.Common.{◌≡◌, inl, inr, ℕ, zero, suc, ◌-◌, ◌<◌, nat_lt, ◌&&◌, Bool, true, false, if◌then◌else◌, List, [], ◌∷◌, Option, Some, None, length, slice_get, refl, sym, ap, ◌∙◌, subst, arith, ◌≤◌}
use Rattle.rt_modes.specs.declared.mode.Mode.{Mode, out-Mode}
use Rattle.rt_modes.specs.declared.mode.Mode.TheOpen.{Mode-F}
use Rattle.rt_modes.specs.declared.mode.Mode.TheVariants as mode
use Rattle.rt_modes.specs.declared.mode.ModeTable.{ModeTable}
use Rattle.rt_modes.specs.declared.mode.RecordDef.{RecordDef}
use Rattle.std.proofs.lemmas.Bool.Decides.{nat_tests}
use Rattle.rt_modes.specs.FullMode.{FullMode}
use Rattle.rt_tree_nodes.specs.declared.brick.Brick.{Brick}
use Rattle.rt_tree_nodes.specs.declared.brick.BrickSort.{BrickSort}
use Rattle.rt_tree_nodes.specs.declared.brick.BrickSort.TheVariants as sort
use Rattle.rt_tree_nodes.specs.declared.brick.Kind.{Kind}
use Rattle.rt_tree_nodes.specs.declared.brick.Kind.TheVariants as kind
use Rattle.rt_tree_nodes.specs.declared.brick.ModuleParts.{ModuleParts}
use Rattle.rt_tree_nodes.specs.declared.brick.ProcBody.{ProcBody}
use Rattle.rt_tree_nodes.specs.declared.store.Datum.TheVariants.{Reference}
use Rattle.rt_tree_nodes.specs.declared.store.Location.{Location}
use Rattle.rt_tree_nodes.specs.declared.store.Proc.{Proc}
use Rattle.rt_tree_nodes.specs.Scopes.{with, is_svc, field_mode, faces, sort_of, proc_in, proc_mode}
use Rattle.rt_tree.specs.declared.standing.Standing.TheVariants as standing_places
use Rattle.rt_tree.specs.Modules.{Stands, stands, is_length, is_here, part_mode, mode_along}
use Rattle.rt_tree.specs.Stored as s
use Rattle.rt_tree.specs.Stored.{System, HasBrick, StandsFor, Standard, StandsAt, Suits, IsCandidate, text_mode, module_of}
use Rattle.rt_tree.specs.FullModes.{MayStand}
use Rattle.rt_meaning_laws.specs.Levels.{MayBe, IsEmptyString, IsTableOf, of_module, of_supplied}
use Rattle.rt_resolve.specs.Matching.{no_records}
use Rattle.rt_meaning_laws.specs.Levels as levels
use Rattle.rt_meaning_laws.specs.Slots.{LeadsTo}
use Rattle.rt_meaning_laws.specs.Work.{IsProcedure, full_of, MayCall}
use Rattle.rt_resolve.specs.Matching.{IsSupplied, int_taken}
use Rattle.rt_meaning_laws.specs.Work as work
use Rattle.rt_resolve.specs.Matching as matched
use Rattle.rt_meaning_laws.specs.Grounds.{Sound}
use Rattle.rt_meaning_laws.specs.Systems.{SystemFits}
use Rattle.rt_resolve.specs.Matching.{SortSame, SuppliedSame}
use Rattle.rt_meaning_laws.proofs.Modes.{stands_at, out_byte, out_proc, words_stand, byte_is_word, out_array}
use Rattle.rt_meaning_laws.proofs.Places.{array_length, bytes_stand, elements_stand, known_table}
use Rattle.rt_meaning_laws.proofs.Nodes.{short, field_may, item_may, along_may}
use Rattle.rt_meaning_laws.proofs.Errors.{erp_full, byte_taking_full, byte_giving_full}
use Rattle.rt_meaning_laws.proofs.Small.{some_same}
use Rattle.rt_resolve_laws.proofs.Names.{number_of_name}

-- ---- procedure bricks

-- a procedure brick, by what a module says of it
pub proc_sort : (bs : List Brick) (b : ℕ) (d : Brick) (w : Mode) → slice_get bs b ≡ Some d → proc_mode (faces bs) b ≡ Some w → (body : Option ProcBody) × (d.sort ≡ sort.Proc w body)
proc_sort [] b d w e h = absurd cc
proc_sort (x ∷ bs) zero d w e h = let same : x ≡ d = cc in opened d.sort (ap (λ (y : Brick). proc_in (sort_of y.sort)) (sym same) ∙ h)
  where
    opened : (z : BrickSort) → proc_in (sort_of z) ≡ Some w → (body : Option ProcBody) × (z ≡ sort.Proc w body)
    opened (sort.Proc v body) h = let same : v ≡ w = cc in (body, ap (λ (m : Mode). sort.Proc m body) same)
    opened (sort.Data fs ss) h = absurd cc
    opened (sort.Stack n) h = absurd cc
proc_sort (x ∷ bs) (suc b) d w e h = proc_sort bs b d w e h

-- a procedure of the same full mode
same_proc : (t u : ModeTable) (w : Mode) (body : Option ProcBody) (z : BrickSort) → SortSame t u (sort.Proc w body) z → (v : Mode) × (other : Option ProcBody) × (z ≡ sort.Proc v other) × (FullMode t w ≡ FullMode u v)
same_proc t u w body (sort.Proc v other) h = (v, other, refl, h)
same_proc t u w body (sort.Data fs ss) h = absurd h
same_proc t u w body (sort.Stack n) h = absurd h

-- ---- supplied procedures

-- the full modes of the procedures that are always candidates
standard_full : {full : List ℕ} {k : ℕ} → Standard full k → (w : Mode) × IsSupplied k w × (FullMode no_records w ≡ full)
standard_full s.rrin = (mode.Proc [] (Some mode.Byte), matched.rrin, byte_giving_full no_records (mode.Proc [] (Some mode.Byte)) mode.Byte (out_proc [] (Some mode.Byte)) out_byte)
standard_full s.rrout = (mode.Proc (mode.Byte ∷ []) None, matched.rrout, byte_taking_full no_records (mode.Proc (mode.Byte ∷ []) None) mode.Byte (out_proc (mode.Byte ∷ []) None) out_byte)
standard_full s.rrgel = (int_taken, matched.rrgel, erp_full no_records)

module _ (ps : System) (fits : SystemFits ps) where
  -- what a procedure brick stands for may be called as one of its full mode
  pub stands_call : {m b : ℕ} {f : Proc} {p : ModuleParts} {w : Mode} → StandsFor ps m b f → module_of ps m ≡ Some p → proc_mode (faces p.bricks) b ≡ Some w → MayCall ps (FullMode p.modes w) f
  stands_call {m} {b} {f} {p} {w} (s.itself {p = q} {d = d} h is) of pm =
      let one : q ≡ p = some_same q p (module_of ps m) h.of of in
      let so = proc_sort q.bricks b d w h.at (ap (λ (y : ModuleParts). proc_mode (faces y.bricks) b) one ∙ pm) in
      (work.of_module h is so.1, ap (λ (y : ModuleParts). FullMode y.modes w) one)
  stands_call {m} {b} {f} {p} {w} (s.entry {n = n} {c = c} {p = p2} {q = q} {d = d} {e = e} h ext g ent name) of pm =
      let one : p2 ≡ p = some_same p2 p (module_of ps m) h.of of in
      let so = proc_sort p2.bricks b d w h.at (ap (λ (y : ModuleParts). proc_mode (faces y.bricks) b) one ∙ pm) in
      let link = fits.matched.entries h ext in
      let num = fits.matched.one g ent link.4 link.5 (name ∙ sym link.6) in
      let two : q ≡ link.2 = some_same q link.2 (module_of ps link.0) (ap (module_of ps) (sym num.0) ∙ g.of) link.4.of in
      let three : e ≡ link.3 = some_same e link.3 (slice_get link.2.bricks link.1) (ap (λ (y : ModuleParts). slice_get y.bricks link.1) (sym two) ∙ ap (λ (i : ℕ). slice_get q.bricks i) (sym num.1) ∙ g.at) link.4.at in
      let v = same_proc p2.modes link.2.modes w so.0 link.3.sort (subst (λ (z : BrickSort). SortSame p2.modes link.2.modes z link.3.sort) so.1 link.7) in
      (work.of_module g (ap is_here ent) (ap (λ (y : Brick). y.sort) three ∙ v.2), ap (λ (y : ModuleParts). FullMode y.modes v.0) two ∙ sym v.3 ∙ ap (λ (y : ModuleParts). FullMode y.modes w) one)
  stands_call {m} {b} {f} {p} {w} (s.supplied {k = k} {p = q} {d = d} h svc name) of pm =
      let one : q ≡ p = some_same q p (module_of ps m) h.of of in
      let so = proc_sort q.bricks b d w h.at (ap (λ (y : ModuleParts). proc_mode (faces y.bricks) b) one ∙ pm) in
      let link : SuppliedSame q d (sort.Proc w so.0) = subst (λ (z : BrickSort). SuppliedSame q d z) so.1 (fits.matched.supplied h svc) in
      let num : suc link.0 ≡ suc k = sym (number_of_name link.0 d.name link.2) ∙ number_of_name k d.name name in
      (work.of_supplied (subst (λ (i : ℕ). IsSupplied i link.1) num link.3), sym link.4 ∙ ap (λ (y : ModuleParts). FullMode y.modes w) one)

  candidate_call : {full : List ℕ} {f : Proc} → IsCandidate ps full f → MayCall ps full f
  candidate_call {full} {f} (s.named of c pm fm stands) = let call = stands_call stands of pm in (call.0, call.1 ∙ fm)
  candidate_call (s.standard st) = let w = standard_full st in (work.of_supplied w.1, w.2)

  -- ---- places that may stand

  here_shared : (k : Kind) → is_here k ≡ true → is_svc k ≡ false
  here_shared kind.Own e = refl
  here_shared kind.Ent e = refl
  here_shared kind.Ext e = absurd cc
  here_shared kind.Svc e = absurd cc

  byte_part : (c : Bool) (v : Mode) → (if c then Some mode.Byte else None) ≡ Some v → mode.Byte ≡ v
  byte_part true v e = cc
  byte_part false v e = absurd cc

  text_part : (records : List RecordDef) (text : List ℕ) (k : ℕ) (v : Mode) → part_mode records k (out-Mode (text_mode text)) ≡ Some v → mode.Byte ≡ v
  text_part records text k v e = byte_part (nat_lt k (length text)) v (sym (ap (λ (z : Mode-F Mode). part_mode records k z) (out_array (length text) mode.Byte)) ∙ e)

  by_part : (p : ModuleParts) (path : List ℕ) (w : Mode) (o : Option Mode) → with o (mode_along p.modes.records path) ≡ Some w → ((v : Mode) → o ≡ Some v → mode_along p.modes.records path v ≡ Some w → MayStand p.modes w) → MayStand p.modes w
  by_part p path w None e f = absurd cc
  by_part p path w (Some v) e f = f v refl e

  text_may : (t : ModeTable) (n : ℕ) (w : Mode) → mode.Array n mode.Byte ≡ w → n ≤ 8191 → MayBe t w
  text_may t zero w e r = inr (mode.Byte, ap out-Mode (sym e) ∙ out_array 0 mode.Byte, out_byte)
  text_may t (suc n) w e r = inl (bytes_stand t w mode.Byte (suc n) (ap out-Mode (sym e) ∙ out_array (suc n) mode.Byte) out_byte (grind (arith, nat_tests)))

  in_text_may : (m : ℕ) (p : ModuleParts) (text : List ℕ) (path : List ℕ) (w : Mode) → module_of ps m ≡ Some p → length text ≤ 8191 → mode_along p.modes.records path (text_mode text) ≡ Some w → MayBe p.modes w
  in_text_may m p text [] w of r e =
      let same : text_mode text ≡ w = cc in
      text_may p.modes (length text) w same r
  in_text_may m p text (k ∷ path) w of r e =
      inl (by_part p path w (part_mode p.modes.records k (out-Mode (text_mode text))) e (λ v q h. along_may p (fits.nodes m of) path v w (subst (λ (x : Mode). MayStand p.modes x) (text_part p.modes.records text k v q) (words_stand p.modes mode.Byte (byte_is_word mode.Byte out_byte))) h))

  pub standing : {l : Location} {u : ModeTable} {v : Mode} → StandsAt ps l u v → MayBe u v
  standing (s.in_brick {m = m} {b = b} {j = j} {path = path} {p = p} {d = d} {fs = fs} {ss = ss} {v = v} {w = w} h is so f a) =
      inl (along_may p (fits.nodes m h.of) path v w (item_may p (fits.nodes m h.of) b d fs ss j v h.at so (here_shared d.kind is) f) a)
  standing (s.in_text {m = i} {k = k} {path = path} {p = p} {s = text} {w = w} of g a) = in_text_may i p text path w of (short p (fits.nodes i of) k text g) a

  pub ref_stands : (t : ModeTable) (m w : Mode) → out-Mode m ≡ Mode-F.Ref w → MayStand t m → MayStand t w
  ref_stands t m w e h = record {
    place = standing_places.Inside;
    levels = h.levels - 1;
    refs = h.refs - 1;
    passes = third (nat_lt 0 h.levels) (nat_lt 0 h.refs) (stands (length t.records) w standing_places.Inside (h.levels - 1) (h.refs - 1)) (sym (ap (λ (f : Stands). f h.place h.levels h.refs) (stands_at (length t.records) m (Mode-F.Ref w) e)) ∙ h.passes);
  }
    where
      third : (a b c : Bool) → a && (b && c) ≡ true → c ≡ true
      third true true c e = e
      third true false c e = absurd cc
      third false b c e = absurd cc

  leads : (t : ModeTable) (m w : Mode) (l : Location) → IsTableOf ps t → MayStand t m → out-Mode m ≡ Mode-F.Ref w → Suits ps t m (Reference l) → LeadsTo ps t w l
  leads t m w l k st e (s.reference {u = u} {v = v} {w = x} o a f) =
      let layers : Mode-F.Ref x ≡ Mode-F.Ref w = sym o ∙ e in
      let same : x ≡ w = cc in
      record {
        table = u;
        is = v;
        known = known_table a;
        at = a;
        same = f ∙ ap (λ (y : Mode). FullMode t y) same;
        here = ref_stands t m w e st;
        there = standing a;
      }

  fields : (t : ModeTable) → IsTableOf ps t → (r k : ℕ) (m : Mode) → field_mode t.records r k ≡ Some m → MayStand t m
  fields _ (levels.of_module i {p} h) r k m e = field_may p (fits.nodes i h) r k m e
  fields _ levels.of_supplied r k m e = absurd cc

  array_short : (t : ModeTable) (m w : Mode) (n : ℕ) → out-Mode m ≡ Mode-F.Array n w → MayStand t m → n < 65536
  array_short t m w n e h = low (array_length t m w n e h)
    where
      low : is_length n ≡ true → n < 65536
      low h = grind (arith, nat_tests)

  elements : (l : Location) (u : ModeTable) (v w : Mode) (n : ℕ) → StandsAt ps l u v → out-Mode v ≡ Mode-F.Array n w → MayStand u w × (n < 65536)
  elements l u v w n a e = by_kind (standing a)
    where
      by_kind : MayBe u v → MayStand u w × (n < 65536)
      by_kind (inl h) = (elements_stand u v w n e h, array_short u v w n e h)
      by_kind (inr h) =
          let layers : Mode-F.Array 0 h.0 ≡ Mode-F.Array n w = sym h.1 ∙ e in
          let count : 0 ≡ n = cc in
          let same : h.0 ≡ w = cc in
          (words_stand u w (byte_is_word w (ap out-Mode (sym same) ∙ h.2)), subst (λ (k : ℕ). k < 65536) count (omega arith))

  pub sound : Sound ps
  sound = record {
    tells = fits.modes;
    fields = fields;
    leads = leads;
    elements = elements;
    candidates = λ full f h. candidate_call h;
  }
