-- Where each field of `Built` comes from, for the whole of a linked system.
use Rattle.std.specs.Prelude.{◌≡◌, ℕ, ◌+◌, ◌-◌, ◌≤◌, Bool, true, false, List, length, Option, Some, slice_get}
use Rattle.rt_modes.specs.declared.mode.Mode.{Mode}
use Rattle.rt_tree_nodes.specs.declared.brick.Brick.{Brick as TreeBrick}
use Rattle.rt_tree_nodes.specs.declared.brick.BrickSort.TheVariants as sort
use Rattle.rt_tree_nodes.specs.declared.brick.ModuleParts.{ModuleParts}
use Rattle.rt_tree_nodes.specs.declared.brick.ProcBody.{ProcBody}
use Rattle.rt_tree_nodes.specs.declared.store.Origin.TheVariants.{Brick as InBrick}
use Rattle.rt_tree_nodes.specs.declared.store.Proc.{Proc}
use Rattle.rt_tree_nodes.specs.Scopes.{scope_of, proc_mode}
use Rattle.rt_tree.specs.Modules.{is_here}
use Rattle.rt_tree.specs.Stored.{System, HasBrick, brick}
use Rattle.rt_tree.specs.Within.{parameters_of}
use Rattle.rt_system.specs.declared.parts.Task.{Task}
use Rattle.rt_image.specs.declared.image.ImageParts.{ImageParts}
use Rattle.rt_image.specs.declared.map.Map.{Map}
use Rattle.rt_object.specs.declared.object.ObjectParts.{ObjectParts}
use Rattle.rt_object.specs.declared.object.Relocated.{Relocated}
use Rattle.rt_object.specs.declared.object.Relocated.TheVariants.{Brick}
use Rattle.rt_match.specs.declared.bindings.Bound.{Bound}
use Rattle.rt_frames.specs.Frames.{body_frame}
use Rattle.rt_lower.specs.declared.layouts.Layouts.{Layouts}
use Rattle.rt_lower.specs.Code.{procedure}
use Rattle.rt_link.specs.Named.{named_address}
use Rattle.rt_icode.specs.declared.ins.Fixed.{Fixed}
use Rattle.rt_icode.specs.declared.ins.Ins.TheVariants as ins
use Rattle.rt_icode.specs.Within.{IsWithin}
use Rattle.rt_icode_meaning.specs.Typed.{IsFixed}
use Rattle.rt_icode_meaning.specs.Lowered.{FrameFits, Lowers}
use Rattle.rt_meaning_laws.specs.Grounds.{Sound}
use Rattle.rt_meaning_laws.specs.Systems.{SystemFits}
use Rattle.rt_templates_laws.specs.Laws.{AddressesAreFilled}
use Rattle.rt_follows.specs.Whole.{Whole, Home, meaning, Lays}
use Rattle.rt_support_meaning.specs.Support.{SupportAt, AllReport}
use Rattle.rt_template_meaning.specs.Picture.{Body}
use Rattle.rt_call_meaning.specs.Built.{IsLowered, Built}
use Rattle.rt_call_meaning.specs.Laws.{LoweredCompiles}
use Rattle.rt_imaged.specs.Bound.{BindAlike}
use Rattle.rt_imaged.specs.Laws.{Landed}
use Rattle.rt_imaged.specs.Compiled.{lowered, ProcCompiled}
use Rattle.rt_imaged.specs.Trees.{TreesAre}
use Rattle.rt_imaged.specs.Whole.{whole_of, layouts_at, IsSystem}

abbrev pub SupportIsAt : Type 0
SupportIsAt =
    Landed → (ps : System) (ls : List Layouts) (objects : List ObjectParts) (tasks : List Task) (image : ImageParts) (mapped : Map) (s : IsSystem ps ls objects tasks image mapped) (h : Home) → SupportAt (whole_of ps ls objects s.linked.known image) h

-- a procedure as the laws of templates have it
abbrev pub body_of : Layouts → ℕ → ModuleParts → ℕ → Mode → ProcBody → ℕ → Body
body_of l m p b mode body size = record {
  number = m;
  parts = p;
  brick = b;
  code = lowered l p b mode body;
  parameters = parameters_of mode;
  locals = length body.locals - parameters_of mode;
  recovers = false;
  size = size;
}

-- What is left of a procedure, by whom it is owed.
pub record ProcOwed (w : Whole) (at : Relocated → ℕ) (l : Layouts) (m b : ℕ) (p : ModuleParts) (d : TreeBrick) (mode : Mode) (body : ProcBody) : Type 0 where
  pub size : ℕ
  -- modules that fit
  pub locals : parameters_of mode ≤ length body.locals
  -- lowering
  pub lowers : Lowers p b body mode (lowered l p b mode body)
  pub within : IsWithin (procedure l p b d mode body)
  pub no_recovery : (k to : ℕ) → slice_get (lowered l p b mode body) k ≡ Some (ins.Recover to) → ⊥
  -- what it takes or calls is a procedure
  pub routines : (k x : ℕ) → slice_get (lowered l p b mode body) k ≡ Some (ins.Routine x) → (v : Mode) × (proc_mode (scope_of p).bricks x ≡ Some v)
  pub invoked : (k x n : ℕ) (gives : Bool) → slice_get (lowered l p b mode body) k ≡ Some (ins.Invoke x n gives) → (v : Mode) × (proc_mode (scope_of p).bricks x ≡ Some v)
  -- the needs that the linker counts
  pub frame : FrameFits w.ps p ((meaning w).env m) (w.needs 0) w.reached (body_frame p (parameters_of mode) body) size
  pub needs : length body.locals - parameters_of mode + (2 + size) ≤ w.needs 0 (brick m b)
  -- the addresses of data
  pub fixed : (f : Fixed) (v : Mode) → IsFixed w.ps p ((meaning w).env m) f v → at (Brick f.brick) ≡ w.base (InBrick (((meaning w).env m).leads f.brick).module (((meaning w).env m).leads f.brick).brick)

-- what is left of each procedure that is reached
abbrev pub AllOwed : Whole → List Layouts → List ObjectParts → List Proc → List (List Bound) → Type 0
AllOwed w ls objects stacks of = (m b : ℕ) (p : ModuleParts) (d : TreeBrick) (mode : Mode) (body : ProcBody) (l : Layouts) → HasBrick w.ps m b p d → is_here d.kind ≡ true → d.sort ≡ sort.Proc mode (Some body) → layouts_at ls m ≡ Some l → w.reached (brick m b) ≡ true
    → ProcOwed w (named_address objects stacks of m) l m b p d mode body

abbrev pub ProcsAreLowered : Type 0
ProcsAreLowered =
    Landed → AddressesAreFilled → (ps : System) (ls : List Layouts) (objects : List ObjectParts) (tasks : List Task) (image : ImageParts) (mapped : Map) (s : IsSystem ps ls objects tasks image mapped) → Sound ps → TreesAre ps
    → let known = s.linked.known in let w = whole_of ps ls objects known image in
    BindAlike ps objects known.stacks known.bindings.of → (h : Home) (m b : ℕ) (p : ModuleParts) (d : TreeBrick) (mode : Mode) (body : Option ProcBody) → HasBrick ps m b p d → is_here d.kind ≡ true → d.sort ≡ sort.Proc mode body → (c : ProcCompiled ls objects m b p mode body)
    → (o : ProcOwed w (named_address objects known.stacks known.bindings.of m) c.layouts m b p d mode c.body) → IsLowered w h (body_of c.layouts m p b mode c.body o.size)

-- An accepted system is built, where both stages bind bricks alike, places lie (rt_imaged, systems_are_laid, with Lays as it will be), what ERP may hold may be told of errors, and
-- what is left of each reached procedure holds.
abbrev pub SystemsAreBuilt : Type 0
SystemsAreBuilt =
    Landed → AddressesAreFilled → LoweredCompiles → (ps : System) (ls : List Layouts) (objects : List ObjectParts) (tasks : List Task) (image : ImageParts) (mapped : Map) (s : IsSystem ps ls objects tasks image mapped) → SystemFits ps → Sound ps → TreesAre ps
    → let known = s.linked.known in let w = whole_of ps ls objects known image in
    BindAlike ps objects known.stacks known.bindings.of → Lays w → AllReport w → AllOwed w ls objects known.stacks known.bindings.of → Built w
