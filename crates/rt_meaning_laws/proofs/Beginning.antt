-- At the start each task fits: it is about to call its root, with its own supplied data.
use Rattle.std.proofs.Common.{◌≡◌, ◌⊎◌, inl, inr, List, [], ◌∷◌, Option, Some, None, refl, sym, ap, subst}
use Rattle.std.specs.List.{AllByRecursion}
use Rattle.rt_modes.specs.declared.mode.Mode.{Mode, out-Mode}
use Rattle.rt_modes.specs.declared.mode.Mode.TheOpen.{Mode-F}
use Rattle.rt_tree_nodes.specs.declared.brick.ModuleParts.{ModuleParts}
use Rattle.rt_tree_nodes.specs.declared.store.Proc.{Proc}
use Rattle.rt_tree.specs.Modules.{is_here}
use Rattle.rt_tree.specs.Stored as s
use Rattle.rt_tree.specs.Stored.{System}
use Rattle.rt_work_state.specs.Items.{Env}
use Rattle.rt_resolve.specs.Systems.{world}
use Rattle.rt_meaning.specs.declared.begin.SourceTask.{SourceTask}
use Rattle.rt_meaning.specs.Roots.{root_of, roots}
use Rattle.rt_meaning.specs.Run.{task_of, tasks_of}
use Rattle.rt_meaning_laws.specs.Slots.{IsInt}
use Rattle.rt_meaning_laws.specs.Trees.{Site}
use Rattle.rt_meaning_laws.specs.Work.{ArgumentFits, LocalsFit, Ready}
use Rattle.rt_meaning_laws.specs.Slots.{result_on}
use Rattle.rt_meaning_laws.specs.Work as work
use Rattle.rt_meaning_laws.specs.Grounds.{Grounds}
use Rattle.rt_meaning_laws.specs.Tasks.{ActFits, TaskFits}
use Rattle.rt_meaning_laws.specs.Runs.{AllFit}
use Rattle.rt_meaning_laws.specs.Starting.{IsRoot}
use Rattle.rt_meaning_laws.specs.Systems.{SystemFits}
use Rattle.rt_meaning_laws.proofs.Modes.{int_is_word}
use Rattle.rt_meaning_laws.proofs.Nodes.{proc_opens}
use Rattle.rt_meaning_laws.proofs.Stores.{own_typed}
use Rattle.rt_meaning_laws.proofs.Soundness.{sound}
use Rattle.rt_meaning_laws.proofs.Grounding.{module_grounds}
use Rattle.rt_meaning_laws.proofs.Entering.{no_start}
use Rattle.rt_resolve_laws.proofs.Resolved.{env_is}

module _ (ps : System) (fits : SystemFits ps) where
  root_site : ModuleParts → Site
  root_site p = record { parts = p; locals = []; answer = None; at_label = λ l. None }

  no_locals : (p : ModuleParts) → LocalsFit ps (root_site p) no_start []
  unfolding root_site
  no_locals p = record { count = refl; started = λ i m e h. absurd cc; loops = λ i h. absurd cc }

  result_of : (l : Mode-F Mode) → (l ≡ Mode-F.Proc [] None) ⊎ ((i : Mode) × (l ≡ Mode-F.Proc [] (Some i)) × IsInt i) → (o : Option Mode) × (l ≡ Mode-F.Proc [] o) × ArgumentFits (result_on o [])
  result_of l (inl h) = (None, h, tt)
  result_of l (inr h) = (Some h.0, h.1, int_is_word h.0 h.2)

  pub root_fits : (f : Proc) → IsRoot ps f → TaskFits ps (world ps) (task_of f)
  unfolding root_site
  root_fits f r =
      let p = r.parts in
      let o = proc_opens p (fits.nodes r.home r.has.of) r.number r.brick_is r.mode r.body r.has.at r.sort_is in
      let a = result_of (out-Mode r.mode) r.opens in
      let grounds : Grounds ps (root_site p) ((world ps).env r.home) = subst (λ (e : Env). Grounds ps (root_site p) e) (sym (env_is ps r.home p r.has.of)) (module_grounds ps fits (sound ps fits) r.home (root_site p) r.has.of) in
      let act : ActFits ps (world ps) (record { proc = s.brick r.home r.number; todo = _; values = []; locals = []; kept = _ }) [] = record {
        site = root_site p;
        slots = [];
        stays = record { grounds = grounds; labels = λ l k e. absurd cc };
        fits = record {
          has = no_start;
          fits = (r.mode, a.0, a.1, o.3, (work.of_module r.has (ap is_here r.enters) r.sort_is, refl), (refl, a.2, λ i. tt), refl);
          filled = tt;
          locals = no_locals p;
        };
        callers_fit = tt;
      } in
      subst (λ (g : Proc). TaskFits ps (world ps) (task_of g)) (sym r.is) (act, own_typed ps)

  pub tasks_fit : (ts : List SourceTask) → AllByRecursion (λ t. IsRoot ps (root_of t)) ts → AllFit ps (world ps) (tasks_of (roots ts))
  tasks_fit [] h = tt
  tasks_fit (t ∷ ts) h = (root_fits (root_of t) h.0, tasks_fit ts h.1)
