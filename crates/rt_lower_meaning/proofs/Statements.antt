-- Statements: the code does what they do. Nothing stands on the stack between them.
use Rattle.std.proofs.Common.{◌≡◌, ◌⊎◌, inl, inr, ℕ, zero, suc, ◌+◌, ◌≤◌, Bool, true, false, List, [], ◌∷◌, ◌++◌, Option, Some, None, slice_set, refl, sym, ap, ◌∙◌, subst}
use Rattle.std.proofs.lemmas.List.{length-set}
use Rattle.rt_modes.specs.declared.mode.Mode.{Mode, out-Mode}
use Rattle.rt_tree_nodes.specs.declared.store.Datum.{Datum}
use Rattle.rt_tree_nodes.specs.declared.store.Datum.TheVariants.{Word, Reference}
use Rattle.rt_tree_nodes.specs.declared.store.Location.TheVariants as location
use Rattle.rt_tree_nodes.specs.Tree.{Term, Apply, ApplyBy, Path, ItemAt, Svc, FieldOf, Elem, ElemRow, Past}
use Rattle.rt_tree_nodes.specs.Typing.{is_value}
use Rattle.rt_work_state.specs.Items.{Item, Eval, At, Local, Save, Drop, Next}
use Rattle.rt_work.specs.Task.{next}
use Rattle.rt_meaning.specs.Step.{on_values}
use Rattle.rt_meaning_laws.specs.Slots.{IsOf}
use Rattle.rt_meaning_laws.specs.Trees.{Started, and_local, table, local_mode, OwnFits, TermFits, PathFits}
use Rattle.rt_meaning_laws.specs.Work.{LocalsFit}
use Rattle.rt_tree.specs.FullModes.{MayStand}
use Rattle.rt_meaning_laws.proofs.Locals.{set_local}
use Rattle.rt_icode.specs.declared.ins.Width.TheVariants as width
use Rattle.rt_icode.specs.declared.ins.Ins.TheVariants as ins
use Rattle.rt_lower.specs.Values.{width_of, own_item, site_of, wanted, written, value, address, alone}
use Rattle.rt_icode_meaning.specs.Move.{Saves, kept_if}
use Rattle.rt_icode_meaning.specs.Move as moves
use Rattle.rt_icode_meaning.specs.Typed.{IsWide, AnswerOf, AreWords, IsOneWord}
use Rattle.rt_lower_meaning.specs.Setting.{Setting, AreLocals, Runs, Stands}
use Rattle.rt_lower_meaning.specs.Right.{above, RightTerm, RightPath}
use Rattle.rt_lower_meaning.proofs.Layers.{wide, own_there, own_wide, local_inside, leads_shared}
use Rattle.rt_lower_meaning.proofs.Sites.{sited, fixed_next, fixed_is}
use Rattle.rt_lower_meaning.proofs.Spans.{Spans, spans_split}
use Rattle.rt_lower_meaning.proofs.Steps.{one_word, runs_fewer, onward, saves}
use Rattle.rt_lower_meaning.proofs.Values.{term_runs, address_runs, call_runs}

pub words_set : (ls : List Datum) (i : ℕ) (d : Datum) → AreWords ls → IsOneWord d → AreWords (slice_set ls i d)
words_set [] i d h g = tt
words_set (x ∷ ls) zero d h g = (g, h.1)
words_set (x ∷ ls) (suc i) d h g = (h.0, words_set ls i d h.1 g)

module _ (s : Setting) (h : Stands s) (lead : ℕ → ℕ) where
  abbrev after : List Item → List Datum → List Datum → Next
  after rest vs ks = next s.env rest vs ks

  -- from instruction pc on the code goes on as what is to be done, whatever locals fit
  abbrev pub Good : ℕ → ℕ → Started → List Item → Type 0
  Good k pc b todo = (ks : List Datum) → LocalsFit s.system s.site b ks → Runs s k pc [] ks (after todo [] ks)

  -- no label leads to the frame
  abbrev pub Ahead : Type 0
  Ahead = (n : ℕ) (c : Started) → s.site.at_label n ≡ Some c → 1 ≤ lead n

  -- each label leads to where it leads to, for one instruction less
  abbrev pub LabelsLead : ℕ → Type 0
  LabelsLead k = Ahead × ((n : ℕ) (c : Started) → s.site.at_label n ≡ Some c → (j : ℕ) → k ≡ suc j → Good j (lead n) c (s.leads n))

  pub labels_fewer : (k : ℕ) → LabelsLead (suc k) → LabelsLead k
  labels_fewer k all = (all.0, λ n c e j q ks l. subst (λ i. Runs s i (lead n) [] ks (after (s.leads n) [] ks) → Runs s j (lead n) [] ks (after (s.leads n) [] ks)) (sym q) (λ r. runs_fewer s j (lead n) [] ks (after (s.leads n) [] ks) r) (all.1 n c e k refl ks l))

  -- control never comes further, or goes on well
  abbrev pub Onward : Bool → ℕ → ℕ → Started → List Item → Type 0
  Onward c k to b rest = (c ≡ true) ⊎ Good k to b rest

  pub comes : (k to : ℕ) (b : Started) (rest : List Item) → Onward false k to b rest → Good k to b rest
  comes k to b rest (inl e) = absurd cc
  comes k to b rest (inr g) = g

  pub good_fewer : (k to : ℕ) (b : Started) (rest : List Item) → Good (suc k) to b rest → Good k to b rest
  good_fewer k to b rest g = λ ks l. runs_fewer s k to [] ks (after rest [] ks) (g ks l)

  -- ---- locals

  set_locals : (i : ℕ) (m : Mode) (d : Datum) (ks : List Datum) → IsOf s.system (table s.site) m d → AreLocals s ks → AreLocals s (slice_set ks i d)
  set_locals i m d ks is o = (length-set ks i d ∙ o.0, words_set ks i d o.1 (one_word is.0))

  pub set_runs : (i : ℕ) (m : Mode) (d : Datum) (b : Started) (k pc to : ℕ) (us ks : List Datum) (n : Next) → local_mode s.site i ≡ Some m → Spans s.code pc (ins.SaveLocal i ∷ []) to → LocalsFit s.system s.site b ks → IsOf s.system (table s.site) m d
      → Runs s k to us (slice_set ks i d) n → Runs s k pc (d ∷ us) ks n
  set_runs i m d b k pc to us ks n lm sp l is go = onward s h k pc to (ins.SaveLocal i) (d ∷ us) ks us (slice_set ks i d) n sp (ap (λ c. kept_if c i pc d us ks) (local_inside s.site i m ks lm l.count)) (λ w. w.1) (set_locals i m d ks is) tt go

  pub keep_runs : (i : ℕ) (v : Term) (m : Mode) (b : Started) (k pc to : ℕ) (ks : List Datum) (rest : List Item) → local_mode s.site i ≡ Some m → TermFits s.site b v m → RightTerm s.layouts s.calls v 0 → Spans s.code pc (value s.layouts v ++ ins.SaveLocal i ∷ []) to → LocalsFit s.system s.site b ks
      → ((zs : List Datum) → LocalsFit s.system s.site (and_local b i) zs → Runs s k to [] zs (after rest [] zs)) → Runs s k pc [] ks (after (Eval v ∷ Local i ∷ rest) [] ks)
  keep_runs i v m b k pc to ks rest lm f r sp l go =
      let c = spans_split s.code (value s.layouts v) (ins.SaveLocal i ∷ []) pc to sp in
      term_runs s h v m b k pc c.0 [] [] ks (Local i ∷ rest) f r c.1 l (λ d is. set_runs i m d b k c.0 to [] ks (after rest [] (slice_set ks i d)) lm c.2 l is (go (slice_set ks i d) (set_local s.system s.site b i m d ks l lm is)))

  pub clear_runs : (i : ℕ) (m : Mode) (b : Started) (k pc to : ℕ) (ks : List Datum) (n : Next) → local_mode s.site i ≡ Some m → IsOf s.system (table s.site) m (Word 0) → Spans s.code pc (ins.ClearLocal i ∷ []) to → LocalsFit s.system s.site b ks → Runs s k to [] (slice_set ks i (Word 0)) n → Runs s k pc [] ks n
  clear_runs i m b k pc to ks n lm is sp l go = onward s h k pc to (ins.ClearLocal i) [] ks [] (slice_set ks i (Word 0)) n sp (ap (λ c. kept_if c i pc (Word 0) [] ks) (local_inside s.site i m ks lm l.count)) (λ w. tt) (set_locals i m (Word 0) ks is) tt go

  -- ---- places

  pub put_runs : (q : Path) (v : Term) (w m : Mode) (b : Started) (k pc to : ℕ) (ks : List Datum) (rest : List Item) → w ≡ m → is_value (out-Mode m) ≡ true → PathFits s.site b q m → TermFits s.site b v m → RightPath s.layouts s.calls q 0 → RightTerm s.layouts s.calls v (above (site_of s.layouts q) 0)
      → Spans s.code pc (wanted (site_of s.layouts q) (address s.layouts q) ++ (value s.layouts v ++ written (width_of w) (site_of s.layouts q) ∷ [])) to → LocalsFit s.system s.site b ks → Runs s k to [] ks (after rest [] ks) → Runs s k pc [] ks (after (At q ∷ Eval v ∷ Save q v ∷ rest) [] ks)
  put_runs q v w m b k pc to ks rest same val f fv rq rv sp l go = elim (sited s h q m b f) as (λ _. Runs s k pc [] ks (after (At q ∷ Eval v ∷ Save q v ∷ rest) [] ks)) [
    | inl x ↦
        let st = subst (λ z. Spans s.code pc (wanted z (address s.layouts q) ++ (value s.layouts v ++ written (width_of w) z ∷ [])) to) x.1 sp in
        let c = spans_split s.code (value s.layouts v) (ins.Save (width_of w) x.0 ∷ []) pc to st in
        let right = subst (λ z. RightTerm s.layouts s.calls v (above z 0)) x.1 rv in
        let fixed = fixed_is s h q m b x.0 f x.1 in
        subst (λ n. Runs s k pc [] ks n) (sym (fixed_next s h q x.0 (Eval v ∷ Save q v ∷ rest) [] ks x.1))
        (term_runs s h v m b k pc c.0 [] (Reference (moves.place_of s.env x.0) ∷ []) ks (Save q v ∷ rest) fv right c.1 l (λ d is.
        saves s h k c.0 to (ins.Save (width_of w) x.0) (d ∷ []) ks [] (width_of w) (moves.place_of s.env x.0) d m rest [] ks c.2 refl (λ u. tt) (m, fixed, is_wide) (inl fixed.leads) is_wide val is go))
    | inr e ↦
        let st = subst (λ z. Spans s.code pc (wanted z (address s.layouts q) ++ (value s.layouts v ++ written (width_of w) z ∷ [])) to) e sp in
        let c = spans_split s.code (address s.layouts q) (value s.layouts v ++ ins.Store (width_of w) ∷ []) pc to st in
        let g = spans_split s.code (value s.layouts v) (ins.Store (width_of w) ∷ []) c.0 to c.2 in
        let right = subst (λ z. RightTerm s.layouts s.calls v (above z 0)) e rv in
        address_runs s h q m b k pc c.0 [] [] ks (Eval v ∷ Save q v ∷ rest) f rq e c.1 l (λ p lds.
        term_runs s h v m b k c.0 g.0 (Reference p ∷ []) (Reference p ∷ []) ks (Save q v ∷ rest) fv right g.1 l (λ d is.
        saves s h k g.0 to (ins.Store (width_of w)) (d ∷ Reference p ∷ []) ks [] (width_of w) p d m rest [] ks g.2 refl (λ u. tt) (leads_shared lds) (inl lds) is_wide val is go))
  ]
    where
      is_wide : IsWide (width_of w) m
      is_wide = subst (λ y. IsWide (width_of y) m) (sym same) (wide m)

  pub own_put_runs : (q : Path) (v : Term) (w m : Mode) (b : Started) (k pc to : ℕ) (ks : List Datum) (rest : List Item) → is_value (out-Mode m) ≡ true → OwnFits (table s.site) q m → MayStand (table s.site) m → TermFits s.site b v m → RightTerm s.layouts s.calls v (above (site_of s.layouts q) 0)
      → Spans s.code pc (wanted (site_of s.layouts q) (address s.layouts q) ++ (value s.layouts v ++ written (width_of w) (site_of s.layouts q) ∷ [])) to → LocalsFit s.system s.site b ks → Runs s k to [] ks (after rest [] ks) → Runs s k pc [] ks (after (At q ∷ Eval v ∷ Save q v ∷ rest) [] ks)
  own_put_runs (Svc i) v w m b k pc to ks rest val f st fv rv sp l go =
      let c = spans_split s.code (value s.layouts v) (ins.SaveOwn (own_item i) ∷ []) pc to sp in
      term_runs s h v m b k pc c.0 [] (Reference (location.Own i) ∷ []) ks (Save (Svc i) v ∷ rest) fv rv c.1 l (λ d is.
      saves s h k c.0 to (ins.SaveOwn (own_item i)) (d ∷ []) ks [] width.Word (location.Own i) d m rest [] ks c.2 (ap (λ p. Saves width.Word p d (c.0 + 1) [] ks) (own_there f)) (λ u. tt) tt (inr (st, f)) (own_wide f) val is go)
  own_put_runs (ItemAt i j) v w m b k pc to ks rest val f st fv rv sp l go = absurd f
  own_put_runs (FieldOf q r j) v w m b k pc to ks rest val f st fv rv sp l go = absurd f
  own_put_runs (Elem q x n e) v w m b k pc to ks rest val f st fv rv sp l go = absurd f
  own_put_runs (ElemRow a x e) v w m b k pc to ks rest val f st fv rv sp l go = absurd f
  own_put_runs (Past x) v w m b k pc to ks rest val f st fv rv sp l go = absurd f

  -- ---- results that are dropped

  dropped : (v : Term) (m : Mode) (b : Started) (k pc to : ℕ) (ks : List Datum) (rest : List Item) → TermFits s.site b v m → RightTerm s.layouts s.calls v 0 → Spans s.code pc (value s.layouts v ++ ins.Discard ∷ []) to → LocalsFit s.system s.site b ks → Runs s k to [] ks (after rest [] ks)
      → Runs s k pc [] ks (after (Eval v ∷ Drop ∷ rest) [] ks)
  dropped v m b k pc to ks rest f r sp l go =
      let c = spans_split s.code (value s.layouts v) (ins.Discard ∷ []) pc to sp in
      term_runs s h v m b k pc c.0 [] [] ks (Drop ∷ rest) f r c.1 l (λ d is. onward s h k c.0 to ins.Discard (d ∷ []) ks [] ks (after rest [] ks) c.2 refl (λ w. tt) (λ o. o) tt go)

  drop_back : (m : Mode) (k to : ℕ) (ks : List Datum) (rest : List Item) → Runs s k to [] ks (after rest [] ks) → (r : Option Datum) → AnswerOf s.system (table s.site) (Some m) r → Runs s k to [] ks (after (Drop ∷ rest) (on_values r []) ks)
  drop_back m k to ks rest go None a = absurd a
  drop_back m k to ks rest go (Some d) a = go

  pub none_back : (k to : ℕ) (ks : List Datum) (rest : List Item) → Runs s k to [] ks (after rest [] ks) → (r : Option Datum) → AnswerOf s.system (table s.site) None r → Runs s k to [] ks (after rest (on_values r []) ks)
  none_back k to ks rest go None a = go
  none_back k to ks rest go (Some d) a = absurd a

  pub toss_runs : (v : Term) (m : Mode) (b : Started) (k pc to : ℕ) (ks : List Datum) (rest : List Item) → TermFits s.site b v m → RightTerm s.layouts s.calls v 0 → Spans s.code pc (alone s.layouts v) to → LocalsFit s.system s.site b ks → Runs s k to [] ks (after rest [] ks)
      → Runs s k pc [] ks (after (Eval v ∷ Drop ∷ rest) [] ks)
  toss_runs (Apply i xs) m b k pc to ks rest f r sp l go = call_runs s h (Apply i xs) (Some m) b k pc to [] ks (Drop ∷ rest) f r sp l (drop_back m k to ks rest go)
  toss_runs (ApplyBy u y xs) m b k pc to ks rest f r sp l go = call_runs s h (ApplyBy u y xs) (Some m) b k pc to [] ks (Drop ∷ rest) f r sp l (drop_back m k to ks rest go)
  toss_runs v m b k pc to ks rest f r sp l go = dropped v m b k pc to ks rest f r sp l go
