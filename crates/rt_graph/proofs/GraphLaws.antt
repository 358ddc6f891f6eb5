-- The laws of candidates, orders and needs.
use Rattle.std.proofs.Common.{◌≡◌, ℕ, ◌+◌, ◌≤◌, inl, inr, List, refl, sym, ap, ◌∙◌, subst, arith}
use Rattle.rt_tree_nodes.specs.declared.store.Proc.{Proc}
use Rattle.rt_object.specs.declared.object.ObjectParts.{ObjectParts}
use Rattle.rt_object.specs.declared.object.ProcContent.{ProcContent}
use Rattle.rt_match.specs.declared.bindings.Bound.{Bound}
use Rattle.rt_digraph.specs.Walks.{next}
use Rattle.rt_digraph.proofs.Lists.{some_is}
use Rattle.rt_graph.specs.Calls.{brick, HasBody, at_point, in_service, supplied, always}
use Rattle.rt_graph.specs.Laws.{AlwaysCandidates, PointsAreReached, ErrorsAreReached, CalleesComeFirst, OneNeed, NeedsSome, PointsFit, BarePointsFit, DepthsFit, ServicesFit, StacksAreExact}
use Rattle.rt_graph.specs.Needs.{IsDeepest, NeedsBy, own, plain, service, HasNeed, by_callees}
use Rattle.rt_graph.proofs.Tasked.{root_to, stack_to}
use Rattle.rt_graph.proofs.Unique.{no_body, one_object, one_need}

pub always_candidates : AlwaysCandidates
always_candidates objects of = record {
  rrin = record { taken = always (inl refl); mode = supplied (omega arith, omega arith) };
  rrout = record { taken = always (inr (inl refl)); mode = supplied (omega arith, omega arith) };
  rrgel = record { taken = always (inr (inr refl)); mode = supplied (omega arith, omega arith) };
}

pub points_are_reached : PointsAreReached
points_are_reached objects of roots f g o p c reached body has may = next reached (at_point c body has may)

pub errors_are_reached : ErrorsAreReached
errors_are_reached objects of roots k g meets reached h = next reached (in_service meets h)

pub callees_come_first : CalleesComeFirst
callees_come_first objects of roots fs i f g order at calls = order.order.before i f g at calls

pub needs_are_one : OneNeed
needs_are_one objects of f m n a b = one_need objects of f m n a b

pub needs_some : NeedsSome
needs_some objects of f n (by_callees need callees h) = by h
  where
    by : {g : Proc} {k : ℕ} → NeedsBy objects of need g k → 1 ≤ k
    by (own body deep e) = omega arith
    by (plain h meets) = omega arith
    by (service meets g) = omega arith

-- the body of a procedure and what is deepest in it
deepest : (objects : List ObjectParts) (of : List (List Bound)) (need : Proc → ℕ) (f : Proc) (o : ObjectParts) (p : ProcContent) (n : ℕ) → HasBody objects f o p → NeedsBy objects of need f n → (w : ℕ) × IsDeepest objects of need f.«module» o p w × (n ≡ 2 + p.locals + w)
deepest objects of need f o p n body (own {o = x} {p = q} {w = w} b d e) =
    let s = one_object objects of f x o q p b body in (
      w,
      subst (λ (y : ProcContent). IsDeepest objects of need f.«module» o y w) s.1 (subst (λ (y : ObjectParts). IsDeepest objects of need f.«module» y q w) s.0 d),
      e ∙ ap (λ (y : ProcContent). 2 + y.locals + w) s.1,
    )
deepest objects of need f o p n body (plain {k = k} h meets) = absurd (no_body objects of k o p body)
deepest objects of need f o p n body (service {k = k} meets g) = absurd (no_body objects of k o p body)

pub points_fit : PointsFit
points_fit objects of f g o p c m n body has may (by_callees need callees h) a =
    let d = deepest objects of need f o p n body h in
    let q = d.1.points c has in
    let one = one_need objects of g m (need g) a (callees g (at_point c body has may)) in
    let l = q.1.greatest.most g may in let s = q.1.sum in let k = q.2 in let e = d.2 in omega arith

pub bare_points_fit : BarePointsFit
bare_points_fit objects of f o p c n body has (by_callees need callees h) =
    let d = deepest objects of need f o p n body h in
    let q = d.1.points c has in
    let s = q.1.sum in let k = q.2 in let e = d.2 in omega arith

pub depths_fit : DepthsFit
depths_fit objects of f o p n body (by_callees need callees h) =
    let d = deepest objects of need f o p n body h in let l = d.1.own in let e = d.2 in omega arith

pub services_fit : ServicesFit
services_fit objects of k g m n meets candidate (by_callees need callees h) a = by h
  where
    one : m ≡ need g
    one = one_need objects of g m (need g) a (callees g (in_service meets candidate))

    by : {j : ℕ} → NeedsBy objects of need (brick 0 k) j → 2 + m ≤ j
    by (own {o = o} {p = p} body deep e) = absurd (no_body objects of k o p body)
    by (plain h others) = absurd (others meets)
    by (service others greatest) = let l = greatest.most g candidate in let e = one in omega arith

pub stacks_are_exact : StacksAreExact
stacks_are_exact objects tasks of t f words need root stack has = record {
  least = λ enough. enough f words need root stack has;
  enough = λ l g other k r s h. (
      let same : f ≡ g = some_is f g (sym (root_to objects t.root f root) ∙ root_to objects t.root g r) in
      let w : words ≡ other = some_is words other (sym (stack_to objects t.stack words stack) ∙ stack_to objects t.stack other s) in
      let n : need ≡ k = one_need objects of g need k (subst (λ (x : Proc). HasNeed objects of x need) same has) h in omega arith);
}
