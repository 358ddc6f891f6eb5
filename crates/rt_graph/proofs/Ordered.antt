-- The reached procedures in order, or a cycle.
use Rattle.std.proofs.Common.{◌≡◌, ℕ, zero, suc, inl, inr, List, [], ◌∷◌, Some, Result, Ok, Err, slice_get, refl, sym, ap, ◌∙◌, subst}
use Rattle.std.specs.Result.{IfOk, IfErr}
use Rattle.rt_tree_nodes.specs.declared.store.Proc.{Proc}
use Rattle.rt_object.specs.declared.object.ObjectParts.{ObjectParts}
use Rattle.rt_match.specs.declared.bindings.Bound.{Bound}
use Rattle.rt_digraph.specs.Digraph.{Edge, IsSorted, IsRoot as IsRootNode, IsFirstOnCycle as IsFirstNode}
use Rattle.rt_digraph.specs.Walks.{Has, root, next}
use Rattle.rt_digraph.specs.declared.sorting.Sorted.{Sorted}
use Rattle.rt_digraph.specs.declared.sorting.Sorted.TheVariants as sorted
use Rattle.rt_digraph.proofs.Lists.{no_element, some_is}
use Rattle.rt_graph.specs.Calls.{IsProcedure, MayCall, by_name, through, at_error, Calls, at_point, in_service}
use Rattle.rt_graph.specs.Numbers.{all_bricks, place, number_of}
use Rattle.rt_graph.specs.Nodes.{IsTable, bricks_at, root_numbers, call_graph, IsInOrder, IsCycleIn}
use Rattle.rt_graph.specs.Reach.{IsRoot, IsReached, IsCallOrder, IsRightCycle, IsRefused}
use Rattle.rt_graph.specs.declared.fault.GraphFault.{GraphFault}
use Rattle.rt_graph.specs.declared.fault.GraphFault.TheVariants as fault
use Rattle.rt_graph.specs.declared.table.Table.{Table}
use Rattle.rt_graph.proofs.Noded.{one_has, has_one, has_more, row_is, place_there, view}
use Rattle.rt_graph.proofs.Procedures.{number_to, number_from, procedure_row}
use Rattle.rt_graph.proofs.Rows.{earlier_below}
use Rattle.rt_graph.proofs.Views.{order_picked, none_picked, cycle_picked, first_seen, reached_seen, cycle_seen, least_seen}

pub if_ok : {A E : Type 0} (P Q : A → Type 0) (r : Result A E) → ((a : A) → P a → Q a) → IfOk r P → IfOk r Q
if_ok P Q (Ok a) f h = f a h
if_ok P Q (Err e) f h = tt

pub if_err : {A E : Type 0} (P Q : E → Type 0) (r : Result A E) → ((e : E) → P e → Q e) → IfErr r P → IfErr r Q
if_err P Q (Ok a) f h = tt
if_err P Q (Err e) f h = f e h

module _ (objects : List ObjectParts) (of : List (List Bound)) where
  -- what is called is a procedure
  callee_procedure : (f g : Proc) → Calls objects of f g → IsProcedure objects g
  callee_procedure f g (at_point {o = o} c body has may) = by c.target may
    where
      by : (t : _) → MayCall objects of f.«module» o t g → IsProcedure objects g
      by t (by_name st p) = p
      by t (through h) = (_, h.candidate.mode)
      by t (at_error h) = (_, h.mode)
  callee_procedure f g (in_service meets h) = (_, h.mode)

  pub reached_procedure : (roots : List Proc) (f : Proc) → IsReached objects of roots f → IsProcedure objects f
  reached_procedure roots f (root r) = r.procedure
  reached_procedure roots f (next {a = g} r c) = callee_procedure g f c

  numbers_from : (fs : List Proc) (x : ℕ) → Has (root_numbers objects fs) x → (f : Proc) × Has fs f × (number_of objects f ≡ Some x)
  numbers_from [] x h = absurd (no_element h.0 x h.1)
  numbers_from (f ∷ fs) x h = elim (one_has (number_of objects f) (root_numbers objects fs) x h) [
    | inl e ↦ (f, (0, refl), e)
    | inr g ↦ (let k = numbers_from fs x g in (k.0, (suc k.1.0, k.1.1), k.2))
  ]

  numbers_to : (fs : List Proc) (f : Proc) (x : ℕ) → Has fs f → number_of objects f ≡ Some x → Has (root_numbers objects fs) x
  numbers_to [] f x h e = absurd (no_element h.0 f h.1)
  numbers_to (g ∷ fs) f x (zero, q) e = has_one (number_of objects g) (root_numbers objects fs) x (ap (number_of objects) (some_is g f q) ∙ e)
  numbers_to (g ∷ fs) f x (suc i, q) e = has_more (number_of objects g) (root_numbers objects fs) x (numbers_to fs f x (i, q) e)

  module _ (roots : List Proc) (table : Table) (is : IsTable objects of table) where
    abbrev graph : List (List ℕ)
    graph = call_graph objects of table

    abbrev numbers : List ℕ
    numbers = root_numbers objects roots

    abbrev row : List Proc
    row = all_bricks objects

    root_from : (x : ℕ) → IsRootNode graph numbers x → (f : Proc) × (slice_get row x ≡ Some f) × IsRoot objects of roots f
    root_from x r =
        let h = numbers_from roots x r.listed in
        let n = number_from objects h.0 x h.2 in
        (h.0, subst (λ (k : ℕ). slice_get row k ≡ Some h.0) (sym n.1) (procedure_row objects h.0 n.0), record { listed = h.1; procedure = n.0 })

    root_to : (f : Proc) → IsRoot objects of roots f → (x : ℕ) × (slice_get row x ≡ Some f) × IsRootNode graph numbers x
    root_to f r = (place objects f, procedure_row objects f r.procedure, record { listed = numbers_to roots f (place objects f) r.listed (number_to objects f r.procedure); there = place_there objects of table is f r.procedure })

    abbrev RootNode : ℕ → Type 0
    RootNode = IsRootNode graph numbers

    abbrev RootProc : Proc → Type 0
    RootProc = IsRoot objects of roots

    pub order_right : (s : Sorted) (fs : List Proc) → IsSorted graph numbers s → IsInOrder table.row.bricks s fs → IsCallOrder objects of roots fs
    order_right (sorted.Order ns) fs h e =
        subst (IsCallOrder objects of roots) (sym (e ∙ ap (λ (r : List Proc). bricks_at r ns) (row_is objects of table is))) (record {
          order = order_picked row (Edge graph) (Calls objects of) (view objects of table is) RootNode RootProc root_from root_to ns h.0;
          none = none_picked row (Edge graph) (Calls objects of) (view objects of table is) RootNode RootProc root_from root_to h.1;
        })
    order_right (sorted.Cycle ns) fs h e = absurd e

    right_cycle : (ns : List ℕ) → IsSorted graph numbers (sorted.Cycle ns) → IsRightCycle objects of roots (bricks_at row ns)
    right_cycle ns h =
        let first : IsFirstNode graph numbers h.0 = h.1 in
        let f = first_seen row (Edge graph) (Calls objects of) (view objects of table is) RootNode RootProc root_from root_to h.0 first.reached first.cycle first.least in (
          f.0,
          record {
            reached = reached_seen row (Edge graph) (Calls objects of) (view objects of table is) RootNode RootProc root_from root_to h.0 f.0 f.1 first.reached;
            cycle = cycle_seen row (Edge graph) (Calls objects of) (view objects of table is) RootNode RootProc root_from root_to h.0 f.0 f.1 first.cycle;
            least = λ g earlier. least_seen row (Edge graph) (Calls objects of) (view objects of table is) RootNode RootProc root_from root_to h.0 first.least g (λ y at. earlier_below objects y h.0 g f.0 at f.1 earlier);
          },
          cycle_picked row (Edge graph) (Calls objects of) (view objects of table is) h.0 f.0 ns f.1 h.2,
        )

    pub cycle_right : (s : Sorted) (e : GraphFault) → IsSorted graph numbers s → IsCycleIn table.row.bricks s e → IsRefused objects of roots e
    cycle_right s fault.Memory h e = tt
    cycle_right (sorted.Cycle ns) (fault.Recursion fs) h e = subst (IsRightCycle objects of roots) (sym (e ∙ ap (λ (r : List Proc). bricks_at r ns) (row_is objects of table is))) (right_cycle ns h)
    cycle_right (sorted.Order ns) (fault.Recursion fs) h e = absurd e
    cycle_right (sorted.Order ns) (fault.SmallStack task need has) h e = absurd e
    cycle_right (sorted.Cycle ns) (fault.SmallStack task need has) h e = absurd e
    cycle_right (sorted.Order ns) (fault.BadTask line) h e = absurd e
    cycle_right (sorted.Cycle ns) (fault.BadTask line) h e = absurd e
