-- The invariant under ticks and other tasks' steps, and what follows from it.
use Rattle.std.proofs.Common.{◌≡◌, ◌≢◌, inl, inr, ℕ, suc, ◌<◌, ◌≤◌, Bool, true, false, List, Some, refl, sym, ◌∙◌, arith}
use Rattle.rt_tree_nodes.specs.declared.store.Proc.{Proc}
use Rattle.rt_rules.specs.declared.task.State.TheVariants.{Ready, Facility}
use Rattle.rt_rules.specs.Roster.{Roster, owner_of, IsNumber, InRanges}
use Rattle.rt_rules.specs.Rules.{running}
use Rattle.rt_rules.proofs.Walks.{running_is_ready}
use Rattle.rt_tree.specs.Stored.{System, brick}
use Rattle.rt_work_state.specs.Items.{Item}
use Rattle.rt_resolve.specs.Systems.{world}
use Rattle.rt_meaning.specs.Step.{Act, Task}
use Rattle.rt_guarded.specs.Points.{Point}
use Rattle.rt_guarded.specs.Families.{Family, In}
use Rattle.rt_guards_laws.specs.Owning.{Has}
use Rattle.rt_guards_laws.specs.Invariant.{Between, Waits, Callers, at_root, of_body, of_service, Serving, asks, done, gives, reads, reports, TaskStands, over, failed, begins, ends, in_body, in_service, SameHas, StandsBySame, StandsForFewer, AccessFollows, OrderFollows}
use Rattle.rt_guards_laws.proofs.Ways.{fewer}

module _ (ps : System) (rs : List Proc) (H M : Family) (k : ℕ) (r q : Roster) (i : ℕ) (same : SameHas r q i) where
  between : (f : Proc) (t : Point) → Between ps rs H M k r i f t → Between ps rs H M k q i f t
  between f t b = (λ n l x. (same n l).0 (b.0 n l x), λ n l x. b.1 n l ((same n l).1 x))

  has : (f : Proc) (u : Point) → ((n : ℕ) → IsNumber n → In H f u n → Has r i n) → (n : ℕ) → IsNumber n → In H f u n → Has q i n
  has f u h n l x = (same n l).0 (h n l x)

  callers : (g : Proc) (all : List Act) → Callers ps rs H M k r i g all → Callers ps rs H M k q i g all
  callers g all (at_root a c e) = at_root a c e
  callers g all (of_body a w s c) = of_body a w (has a.proc w.at s.0, s.1) (callers a.proc _ c)
  callers g all (of_service s a j w m e d h x c) = of_service s a j w m e d h (has a.proc w.at x.0, x.1) (callers a.proc _ c)

  serving : (f : Proc) (w u : Point) (j : ℕ) (todo : List Item) → Serving ps rs H M k r i f w u j todo → Serving ps rs H M k q i f w u j todo
  serving f w u j todo (asks b) = asks (between f w b)
  serving f w u j todo (done b) = done (between f u b)
  serving f w u j todo (gives b) = gives (between f u b)
  serving f w u j todo (reads e m b h) = reads e m (between f w b) (has f u h)
  serving f w u j todo (reports e m b h) = reports e m (between f w b) (has f u h)

  stands : (t : Task) → TaskStands ps rs H M k r i t → TaskStands ps rs H M k q i t
  stands t over = over
  stands t failed = failed
  stands t (begins a f c e none) = begins a f c e (λ n l x. none n l ((same n l).1 x))
  stands t (ends a e) = ends a e
  stands t (in_body a p s g b c) = in_body a p s g (between a.proc p b) (callers a.proc _ c)
  stands t (in_service s a j h e v c) = in_service s a j h e (serving a.proc h.from h.at j s.todo v) (callers a.proc _ c)

pub stands_by_same : StandsBySame
stands_by_same ps rs H M k r q i t same h = stands ps rs H M k r q i same t h

-- ---- fewer steps

module _ (ps : System) (rs : List Proc) (H M : Family) (k : ℕ) (r : Roster) (i : ℕ) where
  abbrev waits_for_fewer : (a : Act) (g : Proc) → Waits ps rs (suc k) a g → Waits ps rs k a g
  waits_for_fewer a g w = record { at = w.at; from = w.from; called = w.called; goes = fewer ((world ps).env a.proc.module) k w.at a.todo w.goes }

  callers_for_fewer : (g : Proc) (all : List Act) → Callers ps rs H M (suc k) r i g all → Callers ps rs H M k r i g all
  callers_for_fewer g all (at_root a c e) = at_root a c e
  callers_for_fewer g all (of_body a w s c) = of_body a (waits_for_fewer a g w) s (callers_for_fewer a.proc _ c)
  callers_for_fewer g all (of_service s a j w m e d h x c) = of_service s a j (waits_for_fewer a (brick 0 j) w) m e d h x (callers_for_fewer a.proc _ c)

  serving_for_fewer : (f : Proc) (w u : Point) (j : ℕ) (todo : List Item) → Serving ps rs H M (suc k) r i f w u j todo → Serving ps rs H M k r i f w u j todo
  serving_for_fewer f w u j todo (asks b) = asks b
  serving_for_fewer f w u j todo (done b) = done b
  serving_for_fewer f w u j todo (gives b) = gives b
  serving_for_fewer f w u j todo (reads e m b h) = reads e m b h
  serving_for_fewer f w u j todo (reports e m b h) = reports e m b h

  for_fewer : (t : Task) → TaskStands ps rs H M (suc k) r i t → TaskStands ps rs H M k r i t
  for_fewer t over = over
  for_fewer t failed = failed
  for_fewer t (begins a f c e none) = begins a f c e none
  for_fewer t (ends a e) = ends a e
  for_fewer t (in_body a u s g b c) = in_body a u s (fewer ((world ps).env a.proc.module) k u a.todo g) b (callers_for_fewer a.proc _ c)
  for_fewer t (in_service s a j w e v c) = in_service s a j (waits_for_fewer a (brick 0 j) w) e (serving_for_fewer a.proc w.from w.at j s.todo v) (callers_for_fewer a.proc _ c)

pub stands_for_fewer : StandsForFewer
stands_for_fewer ps rs H M k r i t h = for_fewer ps rs H M k r i t h

-- ---- what follows

no_facility : (n : ℕ) → Ready ≢ Facility n
no_facility n e = cc

-- who runs owns what it has
owns : (r : Roster) (i n : ℕ) → InRanges r → running r ≡ Some i → Has r i n → owner_of r n ≡ i
owns r i n ranges runs (inl own) = own
owns r i n ranges runs (inr w) = absurd (no_facility n (sym (running_is_ready r i ranges runs).1 ∙ w))

known : (b : Bool) → ((b ≡ true → ⊥) → ⊥) → b ≡ true
known true h = refl
known false h = absurd (h (λ e. cc))

pub access_follows : AccessFollows
access_follows ps rs H M k r i g f t u ranges runs number guarded held comes touches =
    let inside : In H f u g.facility = known (H f u g.facility) (λ out. guarded f (u, comes.stands, touches, out)) in
    owns r i g.facility ranges runs (held g.facility number (comes.bounds.0 g.facility inside))

below : (n m : ℕ) → (n ≤ m → ⊥) → m < n
below n m h = omega (arith, h)

pub order_follows : OrderFollows
order_follows ps rs M r i n f w rising called may m l own = below n m (λ over. rising f (w, n, m, called, may m l (inl own), over))
