-- The candidates of a mode, found by its class.
use Rattle.std.proofs.Common.{◌≡◌, ℕ, zero, suc, ◌+◌, ◌-◌, inl, inr, leb, eqb, ◌&&◌, Bool, true, false, List, [], ◌∷◌, Option, Some, None, option_map, slice_get, refl, sym, ap, ◌∙◌, subst, arith}
use Rattle.std.proofs.lemmas.Bool.Decides.{nat_tests}
use Rattle.rt_modes.specs.FullMode.{FullMode}
use Rattle.rt_modes.specs.declared.mode.Mode.{Mode}
use Rattle.rt_modes.specs.declared.mode.ModeTable.{ModeTable}
use Rattle.rt_tree_nodes.specs.declared.store.Proc.{Proc}
use Rattle.rt_object.specs.Grammar.{is_proc}
use Rattle.rt_object.specs.declared.object.ObjectParts.{ObjectParts}
use Rattle.rt_match.specs.declared.bindings.Bound.{Bound}
use Rattle.rt_digraph.specs.Walks.{Has}
use Rattle.rt_digraph.proofs.Lists.{no_element, some_is}
use Rattle.rt_graph.specs.Candidates.{AreInOrder, AreCandidates, is_member, only_if, members}
use Rattle.rt_graph.specs.Classes.{class_in}
use Rattle.rt_graph.specs.Numbers.{all_bricks, place}
use Rattle.rt_graph.specs.Nodes.{total, class_node, mode_node_by, mode_node, IsTable, with_one}
use Rattle.rt_graph.specs.Reach.{Earlier}
use Rattle.rt_graph.specs.declared.table.Table.{Table}
use Rattle.rt_graph.proofs.Classed.{candidate_class, class_candidate}
use Rattle.rt_graph.proofs.Noded.{one_has, has_one, has_more, row_is, proc_true, proc_is}
use Rattle.rt_graph.proofs.Procedures.{procedure_row}
use Rattle.rt_graph.proofs.Rows.{row_rises}

only_is : (b : Bool) (f g : Proc) → only_if b f ≡ Some g → (b ≡ true) × (f ≡ g)
only_is true f g e = (refl, some_is f g e)
only_is false f g e = absurd cc

module _ (total node : ℕ) (of : List (Option ℕ)) where
  members_from : (k : ℕ) (fs : List Proc) (f : Proc) → Has (members total node of k fs) f → (i : ℕ) × (slice_get fs i ≡ Some f) × (is_member total node (slice_get of (k + i)) ≡ true)
  members_from k [] f h = absurd (no_element h.0 f h.1)
  members_from k (g ∷ fs) f h = elim (one_has (only_if (is_member total node (slice_get of k)) g) (members total node of (suc k) fs) f h) [
    | inl e ↦ (let o = only_is (is_member total node (slice_get of k)) g f e in
        (0, ap (λ (x : Proc). Some x) o.1, subst (λ (j : ℕ). is_member total node (slice_get of j) ≡ true) (let z : k ≡ k + 0 = omega arith in z) o.0))
    | inr r ↦ (let i = members_from (suc k) fs f r in
        (suc i.0, i.1, subst (λ (j : ℕ). is_member total node (slice_get of j) ≡ true) (let z : suc k + i.0 ≡ k + suc i.0 = omega arith in z) i.2))
  ]

  members_to : (k : ℕ) (fs : List Proc) (i : ℕ) (f : Proc) → slice_get fs i ≡ Some f → is_member total node (slice_get of (k + i)) ≡ true → Has (members total node of k fs) f
  members_to k [] i f e h = absurd (no_element i f e)
  members_to k (g ∷ fs) zero f e h =
      has_one (only_if (is_member total node (slice_get of k)) g) (members total node of (suc k) fs) f
      (ap (λ (b : Bool). only_if b g) (subst (λ (j : ℕ). is_member total node (slice_get of j) ≡ true) (let z : k + 0 ≡ k = omega arith in z) h) ∙ e)
  members_to k (g ∷ fs) (suc i) f e h =
      has_more (only_if (is_member total node (slice_get of k)) g) (members total node of (suc k) fs) f
      (members_to (suc k) fs i f e (subst (λ (j : ℕ). is_member total node (slice_get of j) ≡ true) (let z : k + suc i ≡ suc k + i = omega arith in z) h))

  in_order_cons : (f : Proc) (fs : List Proc) → AreInOrder fs → ((g : Proc) → Has fs g → Earlier f g) → AreInOrder (f ∷ fs)
  in_order_cons f fs o first zero zero a b h d e = absurd (omega arith)
  in_order_cons f fs o first zero (suc j) a b h d e = subst (λ (x : Proc). Earlier x b) (some_is f a d) (first b (j, e))
  in_order_cons f fs o first (suc i) zero a b h d e = absurd (omega arith)
  in_order_cons f fs o first (suc i) (suc j) a b h d e = o i j a b (omega arith) d e

  in_order_tail : (f : Proc) (fs : List Proc) → AreInOrder (f ∷ fs) → AreInOrder fs
  in_order_tail f fs o i j a b h d e = o (suc i) (suc j) a b (omega arith) d e

  members_order : (k : ℕ) (fs : List Proc) → AreInOrder fs → AreInOrder (members total node of k fs)
  members_order k [] o = λ i j a b h d e. absurd (no_element i a d)
  members_order k (f ∷ fs) o = by (is_member total node (slice_get of k)) (members_order (suc k) fs (in_order_tail f fs o))
    where
      by : (b : Bool) → AreInOrder (members total node of (suc k) fs) → AreInOrder (with_one (only_if b f) (members total node of (suc k) fs))
      by false h = h
      by true h = in_order_cons f (members total node of (suc k) fs) h (λ g has. (let m = members_from (suc k) fs g has in o 0 (suc m.0) f g (omega arith) refl m.1))

  member_is : (o : Option (Option ℕ)) (c : ℕ) → node ≡ total + c → is_member total node o ≡ true → o ≡ Some (Some c)
  member_is None c e h = absurd (let f : false ≡ true = h in cc)
  member_is (Some None) c e h = absurd (let f : false ≡ true = h in cc)
  member_is (Some (Some d)) c e h = ap (λ (x : ℕ). Some (Some x)) (same total node d c e h)
    where
      same : (t n d c : ℕ) → n ≡ t + c → (leb t n && eqb (n - t) d) ≡ true → d ≡ c
      same t n d c e h = grind (arith, e, h)

  is_member_of : (c : ℕ) → node ≡ total + c → is_member total node (Some (Some c)) ≡ true
  is_member_of c e = both total node c e
    where
      both : (t n c : ℕ) → n ≡ t + c → (leb t n && eqb (n - t) c) ≡ true
      both t n c e = grind (arith, nat_tests, e)

module _ (objects : List ObjectParts) (of : List (List Bound)) (table : Table) (is : IsTable objects of table) (t : ModeTable) (m : Mode) where
  row_order : AreInOrder (all_bricks objects)
  row_order i j a b h d e = row_rises objects i j a b d e h

  by_class : (node c : ℕ) → is_proc m ≡ true → class_in table.classes.map (FullMode t m) ≡ Some c → node ≡ total table + c → AreCandidates objects of t m (members (total table) node table.classes.of 0 (all_bricks objects))
  by_class node c proc q e = record {
    all = λ f h. (
        let k = candidate_class objects of table.classes.map table.classes.of table.classes.count is.classes (FullMode t m) f h.candidate in
        let same : k.0 ≡ c = some_is k.0 c (sym k.1 ∙ q) in
        members_to (total table) node table.classes.of 0 (all_bricks objects) (place objects f) f (procedure_row objects f (FullMode t m, h.candidate.mode))
        (subst (λ (o : Option (Option ℕ)). is_member (total table) node o ≡ true) (sym (subst (λ (i : ℕ). slice_get table.classes.of i ≡ Some (Some c)) (let z : place objects f ≡ 0 + place objects f = omega arith in z) (k.2 ∙ ap (λ (x : ℕ). Some (Some x)) same)))
        (is_member_of (total table) node table.classes.of c e)));
    only = λ f h. (
        let i = members_from (total table) node table.classes.of 0 (all_bricks objects) f h in
        let class = member_is (total table) node table.classes.of (slice_get table.classes.of (0 + i.0)) c e i.2 in record {
          proc = proc_is m proc;
          candidate = class_candidate objects of table.classes.map table.classes.of table.classes.count is.classes i.0 (FullMode t m) f c i.1 (subst (λ (k : ℕ). slice_get table.classes.of k ≡ Some (Some c)) (let z : 0 + i.0 ≡ i.0 = omega arith in z) class) q;
        });
    order = members_order (total table) node table.classes.of 0 (all_bricks objects) row_order;
  }

  pub candidates_some : (node : ℕ) → mode_node table t m ≡ Some node → AreCandidates objects of t m (members (total table) node table.classes.of 0 table.row.bricks)
  candidates_some node e = subst (λ (r : List Proc). AreCandidates objects of t m (members (total table) node table.classes.of 0 r)) (sym (row_is objects of table is)) (by (is_proc m) refl e)
    where
      classed : is_proc m ≡ true → (o : Option ℕ) → class_in table.classes.map (FullMode t m) ≡ o → option_map (λ c. total table + c) o ≡ Some node → AreCandidates objects of t m (members (total table) node table.classes.of 0 (all_bricks objects))
      classed p None q f = absurd cc
      classed p (Some c) q f = by_class node c p q (sym (some_is (total table + c) node f))

      by : (b : Bool) → is_proc m ≡ b → mode_node_by b table (FullMode t m) ≡ Some node → AreCandidates objects of t m (members (total table) node table.classes.of 0 (all_bricks objects))
      by false p f = absurd cc
      by true p f = classed p (class_in table.classes.map (FullMode t m)) refl f

  pub candidates_none : mode_node table t m ≡ None → AreCandidates objects of t m []
  candidates_none e = record {
    all = λ f h. absurd (
        let k = candidate_class objects of table.classes.map table.classes.of table.classes.count is.classes (FullMode t m) f h.candidate in
        let a : mode_node table t m ≡ class_node table (FullMode t m) = ap (λ (b : Bool). mode_node_by b table (FullMode t m)) (proc_true m h.proc) in
        let b : class_node table (FullMode t m) ≡ Some (total table + k.0) = ap (option_map (λ c. total table + c)) k.1 in cc);
    only = λ f h. absurd (no_element h.0 f h.1);
    order = λ i j a b h d e. absurd (no_element i a d);
  }
