-- Each task of a linked image follows its task of the source; and calls from compiled code go through.
use Rattle.std.specs.Prelude.{Some, ◌≡◌, ℕ, ◌+◌, ◌≤◌, List, [], ◌∷◌}
use Rattle.rt_words.specs.Word.{wrap_add}
use Rattle.rt_tree_nodes.specs.declared.store.Proc.{Proc}
use Rattle.rt_tree_nodes.specs.declared.store.Datum.{Datum}
use Rattle.rt_tree_nodes.specs.declared.store.Datum.TheVariants.{Word}
use Rattle.rt_work_state.specs.Items.{Item}
use Rattle.rt_work_state.specs.Stores.{erl_in, first_own}
use Rattle.rt_meaning.specs.Step.{Act, entered}
use Rattle.rt_icode_meaning.specs.Typed.{ResultFits}
use Rattle.pdp_symbolic.specs.Machine.{Machine}
use Rattle.pdp_symbolic.specs.Laws.{push_number}
use Rattle.pdp_symbolic.specs.Laws as template
use Rattle.rt_follows.specs.Whole.{Whole, Home, meaning, Lays, Sits}
use Rattle.rt_follows.specs.Held.{layout, CodeAt}
use Rattle.rt_follows.specs.Runs.{Tracks, Called, GoesOn}
use Rattle.rt_follows.specs.Linked.{Linked, Starts, first_act}
use Rattle.rt_follows.specs.Calls.{Calling, GoesOnBehind, adder, adder_code}

-- In an image that is linked, a task that starts as told follows the source's task, which is about to call its root with its first own
-- data: for any number of instructions, whatever the other tasks do to the store in between.
abbrev pub TasksFollow : Type 0
TasksFollow = (w : Whole) (h : Home) (root : Proc) (u : Machine) → Linked w → Starts w h root u → (k : ℕ) → Tracks w h k 0 u (first_act root) [] first_own

-- Before a call the task follows for k instructions, where the code behind the call follows for fewer, with whatever result comes, and
-- whatever the procedure has made of its arguments.
abbrev pub CallsGoThrough : Type 0
CallsGoThrough = (w : Whole) (h : Home) (u : Machine) (f : Proc) (args : List Datum) (below : List ℕ) (a : Act) (cs : List Act) (todo : List Item) (vs ls own : List Datum) (k q : ℕ) → Linked w → Sits w h → q ≤ w.bound → Calling w h u f args below a cs todo vs ls
    → GoesOnBehind w h k u f below a cs todo vs ls → Tracks w h k q u a cs own

-- So it does where a number is pushed first, which is the only argument.
abbrev pub NumbersArePassed : Type 0
NumbersArePassed = (w : Whole) (h : Home) (u : Machine) (f : Proc) (n : ℕ) (a : Act) (cs : List Act) (todo : List Item) (vs ls own : List Datum) (k q : ℕ) → Linked w → Sits w h → q + 1 ≤ w.bound
    → template.IsCode (layout w h) u.pc (push_number n) → w.marks u.pc ≡ 0 → let v = template.pushed u n in Calling w h v f (Word n ∷ []) u.stack a cs todo vs ls
    → GoesOnBehind w h k v f u.stack a cs todo vs ls → Tracks w h k q u a cs own

-- A procedure that assigns to its parameter runs, where its caller goes on whatever stands in the place of the argument.
abbrev pub ParametersMayChange : Type 0
ParametersMayChange = (w : Whole) (h : Home) (u : Machine) (f : Proc) (n x back : ℕ) (below : List ℕ) (c : Act) (cs : List Act) (own : List Datum) (k : ℕ) → Lays w → Sits w h → (meaning w).code f ≡ Some (adder x) → ResultFits w.ps f (Some (Word (wrap_add n x)))
    → CodeAt w h (w.entry f) (adder_code x) → 2 ≤ w.needs 0 f → Called w h f u back u.r5 (Word n ∷ []) below (c ∷ cs) → GoesOn w h k f back u.r5 1 below c cs
    → Tracks w h k 0 u (entered ((meaning w).code f) f (Word n ∷ []) (erl_in own)) (c ∷ cs) own
