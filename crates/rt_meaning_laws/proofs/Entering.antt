-- In a system that fits each procedure may be entered.
use Rattle.std.proofs.Common.{◌≡◌, ◌⊎◌, inl, inr, ℕ, zero, suc, ◌+◌, ◌-◌, ◌≤◌, nat_lt, ◌||◌, Bool, true, false, not, List, [], ◌∷◌, ◌++◌, replicate, Option, Some, None, option_map, length, slice_get, refl, sym, ap, ◌∙◌, subst, arith, length-append}
use Rattle.std.proofs.lemmas.List.{length-replicate}
use Rattle.std.proofs.lemmas.Bool.Decides.{nat_tests}
use Rattle.rt_modes.specs.declared.mode.Mode.{Mode, out-Mode}
use Rattle.rt_modes.specs.declared.mode.Mode.TheOpen.{Mode-F}
use Rattle.rt_modes.specs.declared.mode.Mode.TheVariants as mode
use Rattle.rt_modes.specs.declared.mode.ModeTable.{ModeTable}
use Rattle.rt_modes.specs.FullMode.{FullMode}
use Rattle.rt_tree_nodes.specs.declared.brick.Brick.{Brick}
use Rattle.rt_tree_nodes.specs.declared.brick.BrickSort.TheVariants as sort
use Rattle.rt_tree_nodes.specs.declared.brick.Local.{Local}
use Rattle.rt_tree_nodes.specs.declared.brick.Local.TheVariants as local
use Rattle.rt_tree_nodes.specs.declared.brick.ModuleParts.{ModuleParts}
use Rattle.rt_tree_nodes.specs.declared.brick.ProcBody.{ProcBody}
use Rattle.rt_tree_nodes.specs.declared.store.Datum.{Datum}
use Rattle.rt_tree_nodes.specs.declared.store.Datum.TheVariants.{Word}
use Rattle.rt_tree_nodes.specs.declared.store.Proc.{Proc}
use Rattle.rt_tree_nodes.specs.Tree.{Seq}
use Rattle.rt_tree_nodes.specs.Scopes.{scope_of}
use Rattle.rt_tree.specs.Modules.{is_here, body_fits}
use Rattle.rt_tree.specs.Statements.{starts_at_zero}
use Rattle.rt_tree.specs.Stored as s
use Rattle.rt_tree.specs.Stored.{System, HasBrick, module_of}
use Rattle.rt_work_state.specs.Stores.{datum_in}
use Rattle.rt_work_state.specs.Items.{Env, Item, Leave, from_label}
use Rattle.rt_work.specs.Task.{service}
use Rattle.rt_resolve.specs.World.{Code, World}
use Rattle.rt_resolve.specs.Systems.{world, procedure_code}
use Rattle.rt_meaning.specs.Step.{entered, leapt, todo_in}
use Rattle.rt_tree.specs.FullModes.{MayStand}
use Rattle.rt_meaning_laws.specs.Levels.{of_supplied}
use Rattle.rt_resolve.specs.Matching.{no_records}
use Rattle.rt_meaning_laws.specs.Slots.{Slot, AValue, IsOf, FillAll, AreOf}
use Rattle.rt_meaning_laws.specs.Trees.{Started, Within, Site, of_number, IsWord, mode_of_local, ends}
use Rattle.rt_meaning_laws.specs.Work.{IsProcedure, full_of, AskFits, ArgumentFits, TodoFits, LocalsFit, Ready}
use Rattle.rt_resolve.specs.Matching.{IsSupplied, int_taken, int_given}
use Rattle.rt_meaning_laws.specs.Work as work
use Rattle.rt_resolve.specs.Matching as matched
use Rattle.rt_meaning_laws.specs.Grounds.{Sound, Grounds}
use Rattle.rt_meaning_laws.specs.Tasks.{MayEnter, WorldFits}
use Rattle.rt_meaning_laws.specs.Systems.{FirstAre, is_plain, at_start, BodyFits, site_of, SystemFits}
use Rattle.rt_meaning_laws.proofs.Modes.{out_int, out_byte, out_proc, int_is_number, int_is_word, byte_is_word, number_is, byte_is}
use Rattle.rt_meaning_laws.proofs.Errors.{taken_stands, given_stands}
use Rattle.rt_meaning_laws.proofs.Locals.{within_self}
use Rattle.rt_meaning_laws.proofs.Labels.{FitsFrom, seq_label}
use Rattle.rt_meaning_laws.proofs.Nodes.{proc_opens}
use Rattle.rt_resolve_laws.proofs.Resolved.{env_is, code_is}
use Rattle.rt_meaning_laws.proofs.Grounding.{module_grounds}
use Rattle.rt_meaning_laws.proofs.Soundness.{sound}

-- ---- the locals of a procedure that is entered

zero_of : (ps : System) (t : ModeTable) (m : Mode) (l : Mode-F Mode) → out-Mode m ≡ l → starts_at_zero l ≡ true → IsOf ps t m (Word 0)
zero_of ps t m Mode-F.Byte o h = byte_is ps t m 0 o (omega arith)
zero_of ps t m Mode-F.Int o h = number_is ps t m 0 (int_is_number m o) (omega arith)
zero_of ps t m Mode-F.Frac o h = number_is ps t m 0 (ap of_number o) (omega arith)
zero_of ps t m _ o h = absurd cc

zeros : (k i : ℕ) → datum_in (slice_get (replicate k (Word 0)) i) ≡ Word 0
zeros zero i = refl
zeros (suc k) zero = refl
zeros (suc k) (suc i) = zeros k i

pub first_counts : (ws : List Mode) (ls : List Local) → FirstAre ws ls → length ws ≤ length ls
first_counts [] ls h = omega arith
first_counts (w ∷ ws) [] h = absurd h
first_counts (w ∷ ws) (local.Variable v ∷ ls) h = let r = first_counts ws ls h.1 in omega arith
first_counts (w ∷ ws) (local.Loop ∷ ls) h = absurd h

module _ (ps : System) (t : ModeTable) where
  pub args_count : (ws : List Mode) (ds : List Datum) → AreOf ps t ws ds → length ds ≡ length ws
  args_count [] [] h = refl
  args_count [] (d ∷ ds) h = absurd h
  args_count (w ∷ ws) [] h = absurd h
  args_count (w ∷ ws) (d ∷ ds) h = ap suc (args_count ws ds h.1)

  plain_zero : (m : Mode) (k i : ℕ) → is_plain (Some m) ≡ true → IsOf ps t m (datum_in (slice_get (replicate k (Word 0)) i))
  plain_zero m k i h = subst (λ (d : Datum). IsOf ps t m d) (sym (zeros k i)) (zero_of ps t m (out-Mode m) refl h)

  less_more : (i k : ℕ) (c : Bool) → nat_lt (suc i) (suc k) || c ≡ true → nat_lt i k || c ≡ true
  less_more i k c h = by_test (nat_lt i k) refl
    where
      by_test : (b : Bool) → nat_lt i k ≡ b → nat_lt i k || c ≡ true
      by_test true e = ap (λ (z : Bool). z || c) e
      by_test false e = let n : nat_lt (suc i) (suc k) ≡ false = grind (arith, nat_tests) in ap (λ (z : Bool). z || c) e ∙ (sym (ap (λ (z : Bool). z || c) n) ∙ h)

  none_less : (i : ℕ) (c : Bool) → nat_lt i 0 || c ≡ true → c ≡ true
  none_less zero c h = h
  none_less (suc i) c h = let n : nat_lt (suc i) 0 ≡ false = grind (arith, nat_tests) in sym (ap (λ (z : Bool). z || c) n) ∙ h

  pub started_local : (ws : List Mode) (ls : List Local) (ds : List Datum) (k i : ℕ) (m : Mode) → FirstAre ws ls → AreOf ps t ws ds → option_map mode_of_local (slice_get ls i) ≡ Some m → nat_lt i (length ws) || is_plain (Some m) ≡ true
      → IsOf ps t m (datum_in (slice_get (ds ++ replicate k (Word 0)) i))
  started_local [] ls [] k i m f a e h = plain_zero m k i (none_less i (is_plain (Some m)) h)
  started_local [] ls (d ∷ ds) k i m f a e h = absurd a
  started_local (w ∷ ws) [] ds k i m f a e h = absurd f
  started_local (w ∷ ws) (local.Loop ∷ ls) ds k i m f a e h = absurd f
  started_local (w ∷ ws) (local.Variable v ∷ ls) [] k i m f a e h = absurd a
  started_local (w ∷ ws) (local.Variable v ∷ ls) (d ∷ ds) k zero m f a e h = let same : w ≡ m = f.0 ∙ cc in subst (λ (x : Mode). IsOf ps t x d) same a.0
  started_local (w ∷ ws) (local.Variable v ∷ ls) (d ∷ ds) k (suc i) m f a e h = started_local ws ls ds k i m f.1 a.1 e (less_more i (length ws) (is_plain (Some m)) h)

  pub loop_local : (ws : List Mode) (ls : List Local) (ds : List Datum) (k i : ℕ) → FirstAre ws ls → AreOf ps t ws ds → slice_get ls i ≡ Some local.Loop → datum_in (slice_get (ds ++ replicate k (Word 0)) i) ≡ Word 0
  loop_local [] ls [] k i f a e = zeros k i
  loop_local [] ls (d ∷ ds) k i f a e = absurd a
  loop_local (w ∷ ws) [] ds k i f a e = absurd f
  loop_local (w ∷ ws) (local.Loop ∷ ls) ds k i f a e = absurd f
  loop_local (w ∷ ws) (local.Variable v ∷ ls) [] k i f a e = absurd a
  loop_local (w ∷ ws) (local.Variable v ∷ ls) (d ∷ ds) k zero f a e = absurd cc
  loop_local (w ∷ ws) (local.Variable v ∷ ls) (d ∷ ds) k (suc i) f a e = loop_local ws ls ds k i f.1 a.1 e

-- ---- entering

pub no_start : Started
no_start i = false

no_parts : ModuleParts
no_parts = record { title = []; modes = no_records; bricks = []; strings = [] }

module _ (ps : System) (fits : SystemFits ps) where
  pub so : Sound ps
  so = sound ps fits

  abbrev pub w : World
  w = world ps

  -- an own or ENT procedure
  module _ (m b : ℕ) (p : ModuleParts) (v : Mode) (body : ProcBody) (ws : List Mode) (o : Option Mode) (labels : ℕ → Option Started) where
    abbrev here : Site
    here = site_of p body o labels

    abbrev start : Started
    start = at_start here ws

    label_fits : (tree : Seq) → BodyFits here ws tree → (l : ℕ) (k : Started) → labels l ≡ Some k → TodoFits ps here k (todo_in (from_label l tree (Leave ∷ []))) []
    label_fits tree f l k e =
        let t = f.labels l k e in
        let r : FitsFrom ps here l t.0 = seq_label ps here l tree start (Leave ∷ []) t.0 f.fits (tail f.closes) t.1 in
        let same : r.0 ≡ k = some_one r.0 k (labels l) r.1 e in
        subst (λ (y : Option (List Item)). TodoFits ps here k (todo_in y) []) (sym t.1) (subst (λ (y : Started). TodoFits ps here y t.0 []) same r.2)
      where
        some_one : (x y : Started) (q : Option Started) → q ≡ Some x → q ≡ Some y → x ≡ y
        some_one x y q e h = let z : Some x ≡ Some y = sym e ∙ h in cc

        tail : (ends tree ≡ true) ⊎ (o ≡ None) → (ends tree ≡ true) ⊎ ((j : Started) × Within j start × TodoFits ps here j (Leave ∷ []) [])
        tail (inl h) = inl h
        tail (inr h) = inr (start, within_self start, h)

    begins_fit : (c : Code) (f : Proc) (args : List Datum) (kept : Datum) → c.size ≡ length body.locals → BodyFits here ws c.body → AreOf ps p.modes ws args → let a = entered (Some c) f args kept in (ss : List Slot) × Ready ps here a.todo ss a.values a.locals
    begins_fit c f args kept z g a =
        let k : ℕ = c.size - length args in (
          [],
          record {
            has = start;
            fits = (start, within_self start, g.fits, tail g.closes);
            filled = tt;
            locals = record {
              count = length-append args (replicate k (Word 0)) ∙ ap (λ (y : ℕ). length args + y) (length-replicate k (Word 0)) ∙ counts (length args) c.size (length body.locals) (length ws) (args_count ps p.modes ws args a) z (first_counts ws body.locals g.firsts);
              started = λ i m e h. started_local ps p.modes ws body.locals args k i m g.firsts a e (subst (λ (y : Option Mode). nat_lt i (length ws) || is_plain y ≡ true) e h);
              loops = λ i e. (0, loop_local ps p.modes ws body.locals args k i g.firsts a e, omega arith);
            };
          },
        )
      where
        counts : (i j k l : ℕ) → i ≡ l → j ≡ k → l ≤ k → i + (j - i) ≡ k
        counts i j k l a b c = omega arith

        tail : (ends c.body ≡ true) ⊎ (o ≡ None) → (ends c.body ≡ true) ⊎ ((j : Started) × Within j start × TodoFits ps here j (Leave ∷ []) [])
        tail (inl h) = inl h
        tail (inr h) = inr (start, within_self start, h)

  no_body : (p : ModuleParts) (d : Brick) (g : _) → is_here d.kind ≡ true → body_fits (scope_of p) d.kind g None ≡ true → ⊥
  no_body p d g h e = let no : false ≡ true = sym (ap not h) ∙ e in absurd cc

  enter_body : {m b : ℕ} {p : ModuleParts} {d : Brick} (v : Mode) (body : Option ProcBody) → HasBrick ps m b p d → is_here d.kind ≡ true → d.sort ≡ sort.Proc v body → MayEnter ps w (s.brick m b) (FullMode p.modes v)
  enter_body {m} {b} {p} {d} v None h is so2 = let r = proc_opens p (fits.nodes m h.of) b d v None h.at so2 in absurd (no_body p d (record { parameters = r.0; answer = r.1 }) is r.4)
  enter_body {m} {b} {p} {d} v (Some body) h is so2 =
      let r = proc_opens p (fits.nodes m h.of) b d v (Some body) h.at so2 in
      let g = fits.bodies h is v body r.0 r.1 so2 r.2 in
      let x : Site = site_of p body r.1 g.0 in
      let c : Code = procedure_code (scope_of p) body in
      let is_code : Some c ≡ w.code (s.brick m b) = sym (code_is ps v body h so2) in
      record {
        site = x;
        is = v;
        parameters = r.0;
        opens = r.2;
        stands = r.3;
        full_is = refl;
        stays = record {
          grounds = subst (λ (e : Env). Grounds ps x e) (sym (env_is ps m p h.of)) (module_grounds ps fits so m x h.of);
          labels = λ l k e. subst (λ (y : Option Code). TodoFits ps x k (leapt y l) []) is_code (label_fits m b p v body r.0 r.1 g.0 c.body g.1 l k e);
        };
        begins = λ args kept a. subst (λ (y : Option Code). let z = entered y (s.brick m b) args kept in (ss : List Slot) × Ready ps x z.todo ss z.values z.locals) is_code (begins_fit m b p v body r.0 r.1 g.0 c (s.brick m b) args kept refl g.1 a);
      }

  -- ---- supplied procedures

  supplied_site : Option Mode → Site
  supplied_site o = record { parts = no_parts; locals = []; answer = o; at_label = λ l. None }

  no_grounds : (o : Option Mode) (e : Env) → Grounds ps (supplied_site o) e
  unfolding supplied_site no_parts
  no_grounds o e = record {
    known = of_supplied;
    items = λ b i m h. absurd cc;
    texts = λ k m v l e b. absurd (omega arith);
    procs = λ b v h. absurd cc;
    taken_are = λ b v h c. absurd cc;
  }

  supplied_locals : (o : Option Mode) → LocalsFit ps (supplied_site o) no_start []
  unfolding supplied_site
  supplied_locals o = record {
    count = refl;
    started = λ i m e h. absurd cc;
    loops = λ i h. absurd cc;
  }

  enter_service : (k : ℕ) (v : Mode) (ws : List Mode) (o : Option Mode) → out-Mode v ≡ Mode-F.Proc ws o → MayStand no_records v → ((i : ℕ) → AskFits o (service k i) (Leave ∷ []))
      → ((args : List Datum) → AreOf ps no_records ws args → (ss : List Slot) × ArgumentFits ss × FillAll ps no_records ss args) → MayEnter ps w (s.brick 0 k) (FullMode no_records v)
  unfolding supplied_site no_parts
  enter_service k v ws o e st asks takes = record {
    site = supplied_site o;
    is = v;
    parameters = ws;
    opens = e;
    stands = st;
    full_is = refl;
    stays = record { grounds = no_grounds o (w.env 0); labels = λ l i h. absurd cc };
    begins = λ args kept a. let z = takes args a in (z.0, record { has = no_start; fits = (refl, z.1, asks); filled = z.2; locals = supplied_locals o });
  }

  takes_none : (args : List Datum) → AreOf ps no_records [] args → (ss : List Slot) × ArgumentFits ss × FillAll ps no_records ss args
  takes_none [] a = ([], tt, tt)
  takes_none (d ∷ ds) a = absurd a

  takes_one : (m : Mode) → IsWord m → (args : List Datum) → AreOf ps no_records (m ∷ []) args → (ss : List Slot) × ArgumentFits ss × FillAll ps no_records ss args
  takes_one m h [] a = absurd a
  takes_one m h (d ∷ []) a = (AValue m ∷ [], h, (a.0, tt))
  takes_one m h (d ∷ (y ∷ ds)) a = absurd a.1

  int_word : IsWord mode.Int
  int_word = int_is_word mode.Int out_int

  byte_word : IsWord mode.Byte
  byte_word = byte_is_word mode.Byte out_byte

  enter_taking : (k : ℕ) → ((i : ℕ) → AskFits None (service k i) (Leave ∷ [])) → MayEnter ps w (s.brick 0 k) (FullMode no_records int_taken)
  enter_taking k asks = enter_service k int_taken (mode.Int ∷ []) None (out_proc (mode.Int ∷ []) None) (taken_stands no_records mode.Int int_word) asks (takes_one mode.Int int_word)

  enter_giving : (k : ℕ) (m : Mode) → IsWord m → ((i : ℕ) → AskFits (Some m) (service k i) (Leave ∷ [])) → MayEnter ps w (s.brick 0 k) (FullMode no_records (mode.Proc [] (Some m)))
  enter_giving k m h asks = enter_service k (mode.Proc [] (Some m)) [] (Some m) (out_proc [] (Some m)) (given_stands no_records m h) asks takes_none

  enter_supplied : {k : ℕ} {v : Mode} → IsSupplied k v → MayEnter ps w (s.brick 0 k) (FullMode no_records v)
  enter_supplied matched.rrin = enter_giving 1 mode.Byte byte_word (λ i. (mode.Byte, refl, out_byte))
  enter_supplied matched.rrout = enter_service 2 (mode.Proc (mode.Byte ∷ []) None) (mode.Byte ∷ []) None (out_proc (mode.Byte ∷ []) None) (taken_stands no_records mode.Byte byte_word) (λ i. (refl, refl)) (takes_one mode.Byte byte_word)
  enter_supplied matched.delay = enter_taking 3 (λ i. (refl, refl))
  enter_supplied matched.wait = enter_taking 4 (λ i. (refl, refl))
  enter_supplied matched.signal = enter_taking 5 (λ i. (refl, refl))
  enter_supplied matched.secure = enter_taking 6 (λ i. (refl, refl))
  enter_supplied matched.release = enter_taking 7 (λ i. (refl, refl))
  enter_supplied matched.clock = enter_giving 8 mode.Int int_word (λ i. (mode.Int, refl, out_int))
  enter_supplied matched.taskno = enter_giving 9 mode.Int int_word (λ i. (mode.Int, refl, out_int))
  enter_supplied matched.rrgel = enter_taking 10 (λ i. tt)

  enters : (f : Proc) (is : IsProcedure ps f) → MayEnter ps w f (full_of is)
  enters _ (work.of_module {w = v} {body = body} h is e) = enter_body v body h is e
  enters _ (work.of_supplied h) = enter_supplied h

  pub world_fits : WorldFits ps (world ps)
  world_fits = record { sound = so; enters = enters }
