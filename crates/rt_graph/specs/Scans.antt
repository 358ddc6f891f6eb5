-- How the bricks that tasks name are looked for.
use Rattle.std.specs.Prelude.{ℕ, suc, nat_lt, Bool, true, false, if◌then◌else◌, List, [], ◌∷◌, Option, Some, None, option_map, slice_get, drop, ◌&&◌, ◌==◌}
use Rattle.std.specs.List.{list_any}
use Rattle.std.specs.Str.{bytes_eq}
use Rattle.rt_modes.specs.declared.mode.Mode.{Mode, out-Mode}
use Rattle.rt_modes.specs.declared.mode.Mode.TheOpen.{Mode-F}
use Rattle.rt_tree_nodes.specs.declared.store.Proc.{Proc}
use Rattle.rt_object.specs.declared.object.Brick.{Brick}
use Rattle.rt_object.specs.declared.object.BrickKind.{BrickKind}
use Rattle.rt_object.specs.declared.object.BrickKind.TheVariants.{Ent}
use Rattle.rt_object.specs.declared.object.Content.{Content}
use Rattle.rt_object.specs.declared.object.Content.TheVariants as content
use Rattle.rt_object.specs.declared.object.ObjectParts.{ObjectParts}
use Rattle.rt_system.specs.declared.parts.Task.{Task}
use Rattle.rt_graph.specs.Calls.{brick}
use Rattle.rt_graph.specs.Numbers.{and_then}

abbrev pub ent_content : BrickKind → Option Content
ent_content (Ent c) = Some c
ent_content _ = None

-- what an ENT brick of a name holds
abbrev pub ent_of : List ℕ → Brick → Option Content
ent_of name b = if bytes_eq b.name name then ent_content b.kind else None

abbrev pub or_else : {A : Type 0} → Option A → Option A → Option A
or_else None other = other
or_else (Some a) other = Some a

-- the first ENT brick of a name, among bricks of module m from number b on
abbrev pub entry_in : List ℕ → ℕ → ℕ → List Brick → Option (Proc × Content)
entry_in name m b [] = None
entry_in name m b (d ∷ ds) = or_else (option_map (λ c. (brick m b, c)) (ent_of name d)) (entry_in name m (suc b) ds)

-- among modules from number m on
abbrev pub entry_from : List ℕ → ℕ → List ObjectParts → Option (Proc × Content)
entry_from name m [] = None
entry_from name m (o ∷ os) = or_else (entry_in name m 0 o.bricks) (entry_from name (suc m) os)

abbrev pub entry_named : List ObjectParts → List ℕ → Option (Proc × Content)
entry_named objects name = entry_from name 1 objects

abbrev pub is_int_layer : Mode-F Mode → Bool
is_int_layer Mode-F.Int = true
is_int_layer _ = false

abbrev pub is_int : Mode → Bool
is_int m = is_int_layer (out-Mode m)

abbrev pub is_root_layer : Mode-F Mode → Bool
is_root_layer (Mode-F.Proc [] None) = true
is_root_layer (Mode-F.Proc [] (Some r)) = is_int r
is_root_layer _ = false

-- PROC() or PROC() INT
abbrev pub is_root_mode : Mode → Bool
is_root_mode m = is_root_layer (out-Mode m)

abbrev pub root_in : Option (Proc × Content) → Option Proc
root_in (Some (f, content.Proc p)) = if is_root_mode p.mode then Some f else None
root_in _ = None

abbrev pub root_named : List ObjectParts → List ℕ → Option Proc
root_named objects name = root_in (entry_named objects name)

abbrev pub stack_in : Option (Proc × Content) → Option ℕ
stack_in (Some (f, content.Stack n)) = Some n
stack_in _ = None

abbrev pub stack_named : List ObjectParts → List ℕ → Option ℕ
stack_named objects name = stack_in (entry_named objects name)

-- whether one of some tasks has the stack of a name
abbrev pub has_stack : List ℕ → List Task → Bool
has_stack name tasks = list_any (λ (t : Task). bytes_eq t.stack name) tasks

abbrev pub good_with : Option ℕ → Bool → Option Proc → Option Proc
good_with None b f = None
good_with (Some n) true f = None
good_with (Some n) false f = f

-- the root of a task, if it and the stack are good, behind some tasks
abbrev pub good_root : List ObjectParts → List Task → Task → Option Proc
good_root objects earlier t = good_with (stack_named objects t.stack) (has_stack t.stack earlier) (root_named objects t.root)

abbrev pub is_same : Proc → Proc → Bool
is_same f g = f.«module» == g.«module» && f.brick == g.brick

-- the need of a procedure, in a list of needs that goes with an order
abbrev pub told_need : List Proc → List ℕ → Proc → Option ℕ
told_need [] ns g = None
told_need (f ∷ fs) ns g = if is_same f g then slice_get ns 0 else told_need fs (drop 1 ns) g

abbrev pub less_by : Bool → ℕ → ℕ → Option (ℕ × ℕ)
less_by true need has = Some (need, has)
less_by false need has = None

abbrev pub less : ℕ → ℕ → Option (ℕ × ℕ)
less need has = less_by (nat_lt has need) need has

-- the need of a task's root and the words of its stack, where these are fewer
abbrev pub small : List ObjectParts → List Proc → List ℕ → Task → Option (ℕ × ℕ)
small objects fs needs t = and_then (stack_named objects t.stack) (λ has. and_then (root_named objects t.root) (λ f. and_then (told_need fs needs f) (λ need. less need has)))
