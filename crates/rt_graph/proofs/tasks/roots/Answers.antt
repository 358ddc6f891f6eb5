use Rattle.std.proofs.Common.{◌≡◌, ◌∷◌, ◌++◌, [], ℕ, ◌+◌, List, Some, get_or, length, slice_get, take, sym, ap, ◌∙◌, subst, arith}
use Rattle.std.proofs.lemmas.Option.{slice_get-get_or, slice_get_read, slice_get_within}
use Rattle.rt_tree_nodes.specs.declared.store.Proc.{Proc}
use Rattle.rt_system.specs.declared.parts.Task.{Task}
use Rattle.rt_digraph.proofs.Lists.{some_is, get_left, get_end, long_one}
use Rattle.rt_graph.specs.Scans.{good_root}
use Rattle.rt_graph.specs.Tasks.{IsFirstBad, AreRoots}
use Rattle.rt_graph.proofs.Stacked.{each_more}
use Rattle.rt_graph.proofs.Tasked.{good_is, bad_is}
use Rattle.rt_graph.proofs.tasks.roots.Goals as goal

pub returns-in-None-clause-refused : goal.returns-in-None-clause-refused
returns-in-None-clause-refused c =
    let objects = c.args.objects.now in
    let tasks = c.tasks-tasks.result.now in
    let n = c.loop-number.number in
    let t = c.index-tasks-number.result in
    let at : slice_get tasks n ≡ Some t = slice_get_read tasks (length tasks) n t (omega arith) (omega arith) c.index-tasks-number.is in
    let read = get_or tasks n c.index-tasks-number-in-None.result in
    let same : read ≡ t = some_is read t (sym (slice_get-get_or tasks n c.index-tasks-number-in-None.result (omega arith)) ∙ at) in
    subst (λ (ts : List Task). IsFirstBad objects ts read.line) c.tasks-tasks.ensures.tasks (record {
      number = n;
      task = t;
      at = at;
      its = ap (λ (u : Task). u.line) same;
      bad = bad_is objects tasks n t (sym c.good_root.ensures ∙ c.in-None.is);
      first = λ j u l e. (let r = c.loop-number.invariant.each j u l e in let g = good_is objects tasks j u r.0 r.1 in (r.0, g.0, g.1));
    })

pub loop-number-preserved : goal.loop-number-preserved
loop-number-preserved c =
    let objects = c.args.objects.now in
    let tasks = c.tasks-tasks.result.now in
    let n = c.loop-number.number in
    let t = c.index-tasks-number.result in
    let new = c.push.new.self in
    let pushed : new ≡ c.loop-number.roots ++ c.in-Some.root ∷ [] = c.in_ok-push-in-Some.ensures.ok in
    let size : length c.loop-number.roots ≡ n = c.loop-number.invariant.size in
    let at : slice_get tasks n ≡ Some t = slice_get_read tasks (length tasks) n t (omega arith) (omega arith) c.index-tasks-number.is in record {
      size = ap length pushed ∙ long_one c.loop-number.roots c.in-Some.root ∙ ap (λ (k : ℕ). k + 1) size;
      each = each_more (λ i u. (f : Proc) × (good_root objects (take i tasks) u ≡ Some f) × (slice_get new i ≡ Some f)) tasks n t
          (λ i u l e. (let r = c.loop-number.invariant.each i u l e in (r.0, r.1, subst (λ (fs : List Proc). slice_get fs i ≡ Some r.0) (sym pushed) (get_left c.loop-number.roots (c.in-Some.root ∷ []) i r.0 r.2))))
          at
          (c.in-Some.root, sym c.good_root.ensures ∙ c.in-Some.is, subst (λ (fs : List Proc). slice_get fs n ≡ Some c.in-Some.root) (sym pushed) (subst (λ (k : ℕ). slice_get (c.loop-number.roots ++ c.in-Some.root ∷ []) k ≡ Some c.in-Some.root) size (get_end c.loop-number.roots c.in-Some.root)));
    }

pub returns-clause-roots : goal.returns-clause-roots
returns-clause-roots c =
    let objects = c.args.objects.now in
    let tasks = c.tasks-tasks.result.now in
    subst (λ (ts : List Task). AreRoots objects ts c.loop-number.roots) c.tasks-tasks.ensures.tasks (record {
      one_each = (let s = c.loop-number.invariant.size in let a = c.loop-number.auto.number-end in let b = c.loop-number-test.false in omega arith);
      each = λ i t at. (
          let r = c.loop-number.invariant.each i t (let k = slice_get_within tasks i t at in let b = c.loop-number-test.false in omega arith) at in
          let g = good_is objects tasks i t r.0 r.1 in
          (r.0, g.0, g.1, r.2));
    })
