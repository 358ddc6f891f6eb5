-- A system of modules that fit fits, and so its stores stay typed.
use Rattle.std.proofs.Common.{◌≡◌, ◌⊎◌, inl, inr, ℕ, true, List, [], ◌∷◌, map, Option, Some, None, length, refl, sym, ap, ◌∙◌, subst}
use Rattle.std.specs.List.{list_all, Contains}
use Rattle.rt_modes.specs.declared.mode.Mode.{Mode, out-Mode}
use Rattle.rt_modes.specs.declared.mode.Mode.TheOpen.{Mode-F}
use Rattle.rt_tree_nodes.specs.declared.brick.Brick.{Brick}
use Rattle.rt_tree_nodes.specs.declared.brick.BrickSort.{BrickSort}
use Rattle.rt_tree_nodes.specs.declared.brick.BrickSort.TheVariants as sort
use Rattle.rt_tree_nodes.specs.declared.brick.Local.{Local}
use Rattle.rt_tree_nodes.specs.declared.brick.Local.TheVariants as local
use Rattle.rt_tree_nodes.specs.declared.brick.ModuleParts.{ModuleParts}
use Rattle.rt_tree_nodes.specs.declared.brick.ProcBody.{ProcBody}
use Rattle.rt_tree_nodes.specs.declared.statement.Body.{Body, out-Body}
use Rattle.rt_tree_nodes.specs.Scopes.{Scope, same, scope_of, with_locals}
use Rattle.rt_tree_nodes.proofs.Same.{same_equal}
use Rattle.rt_tree.specs.Modules.{is_here, parameters_first, local_stands, closes, first_sight, numbers_behind, is_last, numbers_all, proc_fits}
use Rattle.rt_tree.specs.Statements.{labels_end, marked, body_part, next_by, body_tree}
use Rattle.rt_tree.specs.Stored.{System, HasBrick, HoldsInside, HoldsWritten}
use Rattle.rt_tree.specs.Taken.{in_sort, taken}
use Rattle.rt_tree.specs.Within.{tree_of}
use Rattle.rt_resolve.specs.Systems.{world}
use Rattle.rt_meaning_laws.specs.Trees.{Site, ends}
use Rattle.rt_meaning_laws.specs.Modules.{BodyNamed, ModulesFit}
use Rattle.rt_meaning_laws.specs.Systems.{FirstAre, at_start, BodyFits, site_of, SystemFits}
use Rattle.rt_meaning_laws.proofs.Beginnings.{in_bricks, starts_fit_all}
use Rattle.rt_meaning_laws.proofs.Bodies.{body_good}
use Rattle.rt_meaning_laws.proofs.Closing.{body_ends}
use Rattle.rt_meaning_laws.proofs.Entering.{world_fits}
use Rattle.rt_meaning_laws.proofs.Naming.{seq_named}
use Rattle.rt_meaning_laws.proofs.Nodes.{proc_opens}
use Rattle.rt_meaning_laws.proofs.Running.{runs_keep}
use Rattle.rt_meaning_laws.proofs.Supplying.{svc_items, private_none}
use Rattle.rt_modes.specs.declared.mode.ModeTable.{ModeTable}
use Rattle.rt_tree.specs.Opened.{IsTable, FullModesOpen}
use Rattle.rt_meaning_laws.specs.Levels.{IsTableOf, of_module, of_supplied}
use Rattle.rt_meaning_laws.proofs.Telling.{tables_tell}
use Rattle.rt_meaning_laws.proofs.Small.{two_true, passed, with_is}
use Rattle.rt_meaning_laws.specs.Laws.{ModulesMakeSystems, StoresStayTyped}

first_are : (ms : List Mode) (ls : List Local) → parameters_first ms ls ≡ true → FirstAre ms ls
first_are [] ls e = tt
first_are (m ∷ ms) [] e = absurd cc
first_are (m ∷ ms) (local.Variable v ∷ ls) e = let k = two_true (same m v) (parameters_first ms ls) e in (same_equal m v k.0, first_are ms ls k.1)
first_are (m ∷ ms) (local.Loop ∷ ls) e = absurd cc

-- a body closes, or gives no result
ends_or : (c : Scope) (o : Option Mode) (b : Body) (q : _) → q ≡ body_tree c b → closes o b ≡ true → (ends q ≡ true) ⊎ (o ≡ None)
ends_or c None b q e h = inr refl
ends_or c (Some m) b q e h = inl (ap ends e ∙ body_ends c b h)

module _ (ps : System) (f : ModulesFit ps) where
  -- the parts of a procedure that fits
  procedure_fits : {m b : ℕ} {p : ModuleParts} {d : Brick} (w : Mode) (body : ProcBody) (ws : List Mode) (o : Option Mode) → HasBrick ps m b p d → d.sort ≡ sort.Proc w (Some body) → out-Mode w ≡ Mode-F.Proc ws o → proc_fits (scope_of p) ws o body ≡ true
  procedure_fits {m} {b} {p} {d} w body ws o h so e =
      let r = proc_opens p (f.nodes m h.of) b d w (Some body) h.at so in
      let k = two_true (is_here d.kind) (proc_fits (scope_of p) r.0 r.1 body) r.4 in
      let layers : Mode-F.Proc r.0 r.1 ≡ Mode-F.Proc ws o = sym r.2 ∙ e in
      let first : r.0 ≡ ws = cc in
      let second : r.1 ≡ o = cc in
      ap (λ (z : List Mode). proc_fits (scope_of p) z o body) (sym first) ∙ ap (λ (z : Option Mode). proc_fits (scope_of p) r.0 z body) (sym second) ∙ k.1

  body_fits_plain : {m b : ℕ} {p : ModuleParts} {d : Brick} (w : Mode) (body : ProcBody) (ws : List Mode) (o : Option Mode) (h : HasBrick ps m b p d) → d.sort ≡ sort.Proc w (Some body) → out-Mode w ≡ Mode-F.Proc ws o
      → (n : BodyNamed p body ws o) → BodyFits (site_of p body o n.at_label) ws (tree_of p body)
  body_fits_plain {m} {b} {p} {d} w body ws o h so e n =
      let c : Scope = with_locals (scope_of p) body.locals in
      let x : Site = site_of p body o n.at_label in
      let all = procedure_fits w body ws o h so e in
      let one = two_true (parameters_first ws body.locals) _ all in
      let two = two_true (list_all (local_stands (length p.modes.records)) body.locals) _ one.1 in
      let three = two_true (numbers_all (scope_of p) (length ws) o body) (closes o body.body) two.1 in
      let last = passed (is_last body) (numbers_behind c (length ws) o body.body) three.0 in
      let part = with_is (labels_end 0 (map (marked c) (out-Body body.body).statements)) (λ outermost. body_part c body.body (first_sight o outermost) (next_by 0 (length ws))) last.0 last.1 in
      let follows = body_good x (private_none ps f.matched m p h.of) (svc_items p) body.body (first_sight o part.0) (next_by 0 (length ws)) last.0 part.2 refl in
      let named = seq_named (λ (y : ℕ). Contains (taken p) y) n.at_label (at_start x ws) (tree_of p body) n.named (λ y k. in_bricks p p.bricks b d y h.at (subst (λ (z : BrickSort). Contains (in_sort p z) y) (sym so) k)) in
      record {
        firsts = first_are ws body.locals one.0;
        fits = follows (at_start x ws) named;
        closes = ends_or c o body.body (tree_of p body) refl three.1;
        labels = n.labels;
      }

tables_of : (ps : System) → ModulesFit ps → (t : ModeTable) → IsTableOf ps t → IsTable t
tables_of ps f _ (of_module m h) = f.tables m h
tables_of ps f _ of_supplied = record { names = λ r d e. absurd cc; apart = λ r q d n e h. absurd cc; some = λ r d e. absurd cc; fields = λ r d e. absurd cc }

pub modules_make_systems : FullModesOpen → ModulesMakeSystems
modules_make_systems open_them ps f = record {
  nodes = f.nodes;
  bodies = λ h is w body ws o so e. let n = f.named h is w body ws o so e in (n.at_label, body_fits_plain ps f w body ws o h so e n);
  matched = f.matched;
  modes = tables_tell open_them ps (tables_of ps f);
  data_modes = f.data_modes;
}

pub stores_stay_typed : HoldsInside → HoldsWritten → FullModesOpen → StoresStayTyped
stores_stay_typed holds_inside holds_written open_them ps ts hs f tasks happen =
    let fits : SystemFits ps = modules_make_systems open_them ps f in
    runs_keep holds_inside holds_written ps (world ps) _ hs (world_fits ps fits) (starts_fit_all ps ts fits f.numbers tasks) happen
