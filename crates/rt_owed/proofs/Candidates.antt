-- What the meaning may call is what the linker counts with: procedures, candidates, and what is called at points.
use Rattle.std.proofs.Common.{◌≡◌, ℕ, zero, suc, ◌<◌, ◌≤◌, inl, inr, List, [], ◌∷◌, length, codes, Option, Some, None, refl, sym, ap, ◌∙◌, subst, arith}
use Rattle.std.specs.Prelude.{slice_index_or}
use Rattle.std.specs.List.{Contains}
use Rattle.rt_modes.specs.Bricks.{brick_numbered, text_in}
use Rattle.rt_modes.specs.FullMode.{FullMode, reached}
use Rattle.rt_modes.specs.declared.mode.Mode.{Mode, the_lemmas}
use Rattle.rt_modes.specs.declared.mode.ModeTable.{ModeTable}
use Rattle.rt_tree_nodes.specs.declared.brick.ModuleParts.{ModuleParts}
use Rattle.rt_tree_nodes.specs.declared.store.Proc.{Proc}
use Rattle.rt_tree_nodes.specs.Scopes.{scope_of, proc_mode}
use Rattle.rt_tree.specs.Opened.{FullModesOpen}
use Rattle.rt_tree.specs.Stored as stored
use Rattle.rt_tree.specs.Stored.{System, Standard, module_of, brick}
use Rattle.rt_tree.specs.Taken as tree
use Rattle.rt_sizes.proofs.Layers.{some_is}
use Rattle.rt_resolve.specs.Matching as matched
use Rattle.rt_resolve.specs.Matching.{IsSupplied, no_records}
use Rattle.rt_resolve.specs.Starting.{home_of, lead}
use Rattle.rt_resolve.specs.Systems.{world}
use Rattle.rt_work_state.specs.Items.{Env}
use Rattle.rt_meaning_laws.specs.Grounds.{Sound}
use Rattle.rt_meaning_laws.specs.Systems.{SystemFits}
use Rattle.rt_meaning_laws.specs.Trees.{Site}
use Rattle.rt_meaning_laws.specs.Work as work
use Rattle.rt_meaning_laws.specs.Work.{IsProcedure, full_of}
use Rattle.rt_meaning_laws.proofs.Grounding.{proc_there, module_grounds}
use Rattle.rt_meaning_laws.proofs.Soundness.{sound}
use Rattle.rt_object.specs.declared.object.Brick.{Brick as Compiled}
use Rattle.rt_object.specs.declared.object.ObjectParts.{ObjectParts}
use Rattle.rt_match.specs.declared.bindings.Bound.{Bound}
use Rattle.rt_system.specs.declared.parts.Task.{Task}
use Rattle.rt_image.specs.declared.image.ImageParts.{ImageParts}
use Rattle.rt_image.specs.declared.map.Map.{Map}
use Rattle.rt_digraph.specs.Walks.{Has}
use Rattle.rt_graph.specs.Calls as graph
use Rattle.rt_graph.specs.Calls.{numbered, body_in, content_at, HasFullMode, MayCall}
use Rattle.rt_frames.specs.declared.frame.Target.{Target}
use Rattle.rt_frames.specs.declared.frame.Target.TheVariants as target
use Rattle.rt_icode_meaning.specs.Lowered as lowered
use Rattle.rt_lower.specs.declared.layouts.Layouts.{Layouts}
use Rattle.rt_compile.specs.Objects.{target_of}
use Rattle.rt_imaged.specs.Whole.{IsSystem}
use Rattle.rt_imaged.proofs.Compiling.{procs_are_compiled}
use Rattle.rt_bound.specs.Laws.{ItemsTell}
use Rattle.rt_bound.specs.Leads.{ProcsLead}
use Rattle.rt_bound.proofs.Signing.{compiles}
use Rattle.rt_bound.proofs.Alike.{lead_is}
use Rattle.rt_seam.proofs.Addresses.{env_is}
use Rattle.rt_owed.proofs.Names.{IsGood}

-- ---- what is supplied

-- the full mode of a supplied procedure, and its number
pub supplied_full : {k : ℕ} {w : Mode} → IsSupplied k w → FullMode no_records w ≡ text_in (brick_numbered k)
unfolding reached
supplied_full matched.rrin = search the_lemmas
supplied_full matched.rrout = search the_lemmas
supplied_full matched.delay = search the_lemmas
supplied_full matched.wait = search the_lemmas
supplied_full matched.signal = search the_lemmas
supplied_full matched.secure = search the_lemmas
supplied_full matched.release = search the_lemmas
supplied_full matched.clock = search the_lemmas
supplied_full matched.taskno = search the_lemmas
supplied_full matched.rrgel = search the_lemmas

supplied_few : {k : ℕ} {w : Mode} → IsSupplied k w → (1 ≤ k) × (k ≤ 10)
supplied_few matched.rrin = (omega arith, omega arith)
supplied_few matched.rrout = (omega arith, omega arith)
supplied_few matched.delay = (omega arith, omega arith)
supplied_few matched.wait = (omega arith, omega arith)
supplied_few matched.signal = (omega arith, omega arith)
supplied_few matched.secure = (omega arith, omega arith)
supplied_few matched.release = (omega arith, omega arith)
supplied_few matched.clock = (omega arith, omega arith)
supplied_few matched.taskno = (omega arith, omega arith)
supplied_few matched.rrgel = (omega arith, omega arith)

always_taken : {full : List ℕ} {k : ℕ} → Standard full k → graph.IsAlwaysTaken k
always_taken stored.rrin = inl refl
always_taken stored.rrout = inr (inl refl)
always_taken stored.rrgel = inr (inr refl)

-- ---- elements

contains_has : (xs : List ℕ) (x : ℕ) → Contains xs x → Has xs x
contains_has xs x (k, less, is) = at xs k less is
  where
    at : (ys : List ℕ) (j : ℕ) → j < length ys → slice_index_or ys j x ≡ x → Has ys x
    at [] j l e = absurd (omega arith)
    at (y ∷ ys) zero l e = (0, ap (λ (z : ℕ). Some z) e)
    at (y ∷ ys) (suc j) l e = let h = at ys j (omega arith) e in (suc h.0, h.1)

module _ (opens : FullModesOpen) (ps : System) (ls : List Layouts) (os : List ObjectParts) (tasks : List Task) (image : ImageParts) (mapped : Map) (s : IsSystem ps ls os tasks image mapped) (tell : ItemsTell ps) (fits : SystemFits ps) (leads : ProcsLead ps s.linked.known.bindings.of) where
  abbrev of : List (List Bound)
  of = s.linked.known.bindings.of

  so : Sound ps
  so = sound ps fits

  -- the records of an object are those of its module
  records_are : (m : ℕ) (p : ModuleParts) (o : ObjectParts) → module_of ps m ≡ Some p → numbered os m ≡ Some o → o.records ≡ p.modes
  records_are m p o e at =
      let k = compiles ps ls os tasks image mapped s m p e in
      let same : k.object ≡ o = some_is k.object o (sym k.its ∙ at) in
      ap (λ (z : ObjectParts). z.records) (sym same) ∙ k.is.object.records

  -- each procedure of the modules is one of the objects, of its full mode
  full_mode : {f : Proc} (is : IsProcedure ps f) → HasFullMode os f (full_of is)
  full_mode (work.of_module {m = m} {b = b} {p = p} {d = d} {w = w} {body = body} h here e) =
      let c = procs_are_compiled ps ls os tasks image mapped s m b p d w body h here e in
      subst (λ (t : ModeTable). HasFullMode os (brick m b) (FullMode t w)) (records_are m p c.object h.of c.of)
      (graph.own (record { of = c.of; is = ap (λ (z : Option Compiled). body_in (content_at z)) c.there ∙ ap body_in c.holds }))
  full_mode (work.of_supplied {k = k} {w = w} sup) = subst (HasFullMode os (brick 0 k)) (sym (supplied_full sup)) (graph.supplied (supplied_few sup))

  procedure_is : {f : Proc} → IsProcedure ps f → graph.IsProcedure os f
  procedure_is is = (full_of is, full_mode is)

  taken_is : (full : List ℕ) (f : Proc) → stored.IsCandidate ps full f → graph.IsTaken os of f
  taken_is full f (stored.named {m = m} {b = b} {p = p} {w = w} e c pm fm stands) =
      let k = compiles ps ls os tasks image mapped s m p e in
      let d = proc_there p.bricks b w pm in
      let has = (k.is.object.taken.each b).1 (contains_has (tree.taken p) b c) in
      graph.named m b k.its has (leads m b p w e pm ∙ ap (λ (z : Proc). Some z) (lead_is opens ps tell m b p d.0 f (record { of = e; at = d.1 }) stands))
  taken_is full _ (stored.standard st) = graph.always (always_taken st)

  pub candidate_is : (full : List ℕ) (f : Proc) → stored.IsCandidate ps full f → graph.IsCandidate os of full f
  candidate_is full f h =
      let may = so.candidates full f h in
      record { taken = taken_is full f h; mode = subst (HasFullMode os f) may.1 (full_mode may.0) }

  -- what a procedure brick leads to is a procedure
  led_is : (m b : ℕ) (p : ModuleParts) (w : Mode) → module_of ps m ≡ Some p → proc_mode (scope_of p).bricks b ≡ Some w → IsProcedure ps (lead (home_of ps m p) b)
  led_is m b p w e h =
      let x : Site = record { parts = p; locals = []; answer = None; at_label = λ l. None } in
      ((module_grounds ps fits so m x e).procs b w h).4.0

  pub leads_same : (m : ℕ) (p : ModuleParts) (x : ℕ) → module_of ps m ≡ Some p → ((world ps).env m).leads x ≡ lead (home_of ps m p) x
  leads_same m p x e = ap (λ (v : Env). v.leads x) (env_is ps m p e)

  -- what may be called at a point, by the meaning and by the linker
  pub may_call : (m : ℕ) (p : ModuleParts) (o : ObjectParts) (t : Target) (g : Proc) → module_of ps m ≡ Some p → numbered os m ≡ Some o → IsGood p t → lowered.MayCall ps p ((world ps).env m) t g → MayCall os of m o (target_of t) g
  may_call m p o (target.Brick b) g e at good may =
      let to : lead (home_of ps m p) b ≡ g = sym (leads_same m p b e) ∙ may in
      graph.by_name (leads m b p good.0 e good.1 ∙ ap (λ (z : Proc). Some z) to) (procedure_is (subst (IsProcedure ps) to (led_is m b p good.0 e good.1)))
  may_call m p o (target.Variable w) g e at good may =
      let same = candidate_is (FullMode p.modes w) g may in
      graph.through (record { proc = good; candidate = subst (λ (t : ModeTable). graph.IsCandidate os of (FullMode t w) g) (sym (records_are m p o e at)) same })
  may_call m p o target.Error g e at good may = graph.at_error (candidate_is (codes "PROC(INT)") g may)
