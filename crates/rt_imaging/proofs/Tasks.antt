-- The tasks of a system's lines are those of the roots that the verdict has found.
use Rattle.std.proofs.Common.{◌≡◌, ◌⊎◌, inl, inr, ◌<◌, ℕ, zero, suc, List, [], ◌∷◌, length, Some, refl, sym, ap, ◌∙◌, subst, arith}
use Rattle.std.specs.Prelude.{slice_get}
use Rattle.rt_tree_nodes.specs.declared.store.Proc.{Proc}
use Rattle.rt_object.specs.declared.object.ObjectParts.{ObjectParts}
use Rattle.rt_object.specs.declared.object.Content.TheVariants as content
use Rattle.rt_system.specs.declared.parts.Task.{Task}
use Rattle.rt_graph.specs.Reach.{Earlier}
use Rattle.rt_graph.specs.Tasks.{IsRootNamed}
use Rattle.rt_meaning.specs.Roots.{root_of}
use Rattle.rt_meaning.specs.declared.begin.SourceTask.{SourceTask}
use Rattle.rt_imaging.specs.Imaging.{AreTasksOf, task_of, tasks_of, TasksAreThose}

nat_three : (a b : ℕ) → (a < b) ⊎ ((a ≡ b) ⊎ (b < a))
nat_three zero zero = inr (inl refl)
nat_three zero (suc b) = inl (omega arith)
nat_three (suc a) zero = inr (inr (omega arith))
nat_three (suc a) (suc b) = by (nat_three a b)
  where
    by : (a < b) ⊎ ((a ≡ b) ⊎ (b < a)) → (suc a < suc b) ⊎ ((suc a ≡ suc b) ⊎ (suc b < suc a))
    by (inl h) = inl (omega (arith, h))
    by (inr (inl h)) = inr (inl (ap suc h))
    by (inr (inr h)) = inr (inr (omega (arith, h)))

less_one : (a b : ℕ) → suc a ≡ suc b → a ≡ b
less_one a b h = omega (arith, h)

abbrev proc : ℕ → ℕ → Proc
proc m n = record { «module» = m; brick = n }

same_proc : (f g : Proc) → f.«module» ≡ g.«module» → f.brick ≡ g.brick → f ≡ g
same_proc f g a b = ap (λ (m : ℕ). proc m f.brick) a ∙ ap (λ (n : ℕ). proc g.«module» n) b

abbrev a_task : ℕ → ℕ → ℕ → SourceTask
a_task m n p = record { root = (m, n); priority = p }

same_task : (x y : SourceTask) → x.root.0 ≡ y.root.0 → x.root.1 ≡ y.root.1 → x.priority ≡ y.priority → x ≡ y
same_task x y a b c = ap (λ (m : ℕ). a_task m x.root.1 x.priority) a ∙ (ap (λ (n : ℕ). a_task y.root.0 n x.priority) b ∙ ap (λ (p : ℕ). a_task y.root.0 y.root.1 p) c)

cons_same : {A : Type 0} (x y : A) (xs ys : List A) → x ≡ y → xs ≡ ys → (x ∷ xs) ≡ (y ∷ ys)
cons_same x y xs ys e f = cc

-- of two first bricks of one name each is the other
first_is_one : (objects : List ObjectParts) (name : List ℕ) (f g : Proc) → IsRootNamed objects name f → IsRootNamed objects name g → f ≡ g
first_is_one objects name f g h k = by (nat_three f.«module» g.«module») (nat_three f.brick g.brick)
  where
    no_earlier : Earlier f g → ⊥
    no_earlier e = k.entry.first f (content.Proc h.body) e h.entry.entry

    no_later : Earlier g f → ⊥
    no_later e = h.entry.first g (content.Proc k.body) e k.entry.entry

    by : (f.«module» < g.«module») ⊎ ((f.«module» ≡ g.«module») ⊎ (g.«module» < f.«module»)) → (f.brick < g.brick) ⊎ ((f.brick ≡ g.brick) ⊎ (g.brick < f.brick)) → f ≡ g
    by (inl a) b = absurd (no_earlier (inl a))
    by (inr (inr a)) b = absurd (no_later (inl a))
    by (inr (inl a)) (inl b) = absurd (no_earlier (inr (a, b)))
    by (inr (inl a)) (inr (inr b)) = absurd (no_later (inr (sym a, b)))
    by (inr (inl a)) (inr (inl b)) = same_proc f g a b

those : (objects : List ObjectParts) (ts : List Task) (xs : List SourceTask) (fs : List Proc) → length fs ≡ length ts → AreTasksOf objects ts xs → ((i : ℕ) (t : Task) → slice_get ts i ≡ Some t → (f : Proc) × IsRootNamed objects t.root f × (slice_get fs i ≡ Some f)) → xs ≡ tasks_of ts fs
those objects [] [] fs n h each = refl
those objects [] (x ∷ xs) fs n h each = absurd h
those objects (t ∷ ts) [] fs n h each = absurd h
those objects (t ∷ ts) (x ∷ xs) [] n h each = absurd (omega (arith, n))
those objects (t ∷ ts) (x ∷ xs) (f ∷ fs) n h each =
    let e = each 0 t refl in
    let is : f ≡ e.0 = let s : Some f ≡ Some e.0 = e.2 in cc in
    let root : root_of x ≡ f = first_is_one objects t.root (root_of x) f h.0.root (subst (IsRootNamed objects t.root) (sym is) e.1) in
    let rest = those objects ts xs fs (less_one (length fs) (length ts) n) h.1 (λ i u g. each (suc i) u g) in
    cons_same x (task_of t f) xs (tasks_of ts fs) (same_task x (task_of t f) (ap (λ (p : Proc). p.«module») root) (ap (λ (p : Proc). p.brick) root) h.0.priority) rest

pub tasks_are_those : TasksAreThose
tasks_are_those objects tasks known xs judged h =
    let r = judged.deep.ordered.rooted.are_roots in
    those objects tasks xs known.roots r.one_each h (λ i t e. let g = r.each i t e in (g.0, g.2.root, g.3))
