-- A visible step of an activation stays on the points.
use Rattle.std.proofs.Common.{◌≡◌, inl, inr, ℕ, List, Option, Some, refl, sym, subst}
use Rattle.rt_tree_nodes.specs.declared.store.Proc.{Proc}
use Rattle.rt_tree.specs.Stored.{System}
use Rattle.rt_work_state.specs.Items.{Item, Next, Reads, Writes, Calls, Returns, Jumps, Leaps, Asks, Recovers, Errors, Lacks}
use Rattle.rt_work.specs.Task.{next}
use Rattle.rt_resolve.specs.World.{Code}
use Rattle.rt_resolve.specs.Systems.{world}
use Rattle.rt_meaning.specs.Step.{leapt, todo_in}
use Rattle.rt_guarded.specs.Points as p
use Rattle.rt_guarded.specs.Points.{Point}
use Rattle.rt_guarded.specs.Graph.{label, label_by, Way}
use Rattle.rt_guards_laws.specs.Ways.{Comes, LeapsAt, goes, picks, Shows, Follows}
use Rattle.rt_guarded.specs.Families.{Family, Stands, IsPlain, KeepsHeld, KeepsMay}
use Rattle.rt_guards_laws.specs.Steps.{At, ComesTo, StaysOn, ActsStayOn}
use Rattle.rt_guards_laws.proofs.Moves.{step, comes_to_points, held_drops, may_grows}
use Rattle.rt_guards_laws.proofs.Ways.{labels_follow}

module _ (ps : System) (rs : List Proc) (H M : Family) (f : Proc) (k : ℕ) (h : KeepsHeld ps rs H) (m : KeepsMay ps rs M) where
  abbrev F : Point → List Item → Type 0
  F = Follows ((world ps).env f.module) k

  comes : (t u : Point) → Stands ps rs f t → Comes ((world ps).env f.module) t u → ComesTo ps rs H M f t u
  comes t u s c = record { stands = comes_to_points ps rs f t u s c; bounds = (held_drops ps rs H f t u h s c, may_grows ps rs M f t u m s c) }

  -- and on along a way on which nothing is called
  past : (t w u : Point) (todo : List Item) → ComesTo ps rs H M f t w → IsPlain ps rs f w → Way ps f w u → F u todo → At ps rs H M f k t u todo
  past t w u todo c plain way g = record {
    stands = step ps rs f w u c.stands way;
    follows = g;
    bounds = (λ n x. c.bounds.0 n (h.along c.stands plain way n x), λ n x. m.along c.stands plain way n (c.bounds.1 n x));
  }

  here : (t u : Point) (todo : List Item) → ComesTo ps rs H M f t u → F u todo → At ps rs H M f k t u todo
  here t u todo c g = record { stands = c.stands; follows = g; bounds = c.bounds }

  label_known : (c : Code) (o : Option Code) (l : ℕ) (u : Point) → o ≡ Some c → label_by (world ps) f l o ≡ Some u → F u (leapt o l)
  label_known c o l u e x =
      let y : p.from_label ((world ps).env f.module) l c.body p.Ends ≡ Some u = subst (λ z. label_by (world ps) f l z ≡ Some u) e x in
      let z = labels_follow ((world ps).env f.module) k l c.body u y in
      subst (λ w. F u (leapt w l)) (sym e) (subst (λ w. F u (todo_in w)) (sym z.1) z.2)

  leaps : (c : Code) (t w : Point) (l : ℕ) → (world ps).code f ≡ Some c → ComesTo ps rs H M f t w → LeapsAt ((world ps).env f.module) l w → (u : Point) → label ps f l ≡ Some u → At ps rs H M f k t u (leapt ((world ps).code f) l)
  leaps c t (p.Leaps j d) l e x goes u y = past t (p.Leaps j d) u _ x (λ g n z. z, λ q z. cc) y (label_known c ((world ps).code f) l u e y)
  leaps c t (p.Picks ls d) l e x (picks i) u y = past t (p.Picks ls d) u _ x (λ g n z. z, λ q z. cc) (inr (l, i, y)) (label_known c ((world ps).code f) l u e y)
  leaps c t p.Ends l e x y u z = elim y [ ]
  leaps c t (p.Returns a) l e x y u z = elim y [ ]
  leaps c t (p.Reads o a) l e x y u z = elim y [ ]
  leaps c t (p.Writes o a) l e x y u z = elim y [ ]
  leaps c t (p.Divides a) l e x y u z = elim y [ ]
  leaps c t (p.Calls g n a) l e x y u z = elim y [ ]
  leaps c t (p.CallsBy n a) l e x y u z = elim y [ ]
  leaps c t (p.Forks a b) l e x y u z = elim y [ ]
  leaps c t (p.Turns q a) l e x y u z = elim y [ ]
  leaps c t (p.Tests d q a) l e x y u z = elim y [ ]
  leaps c t (p.Recovers j a) l e x y u z = elim y [ ]

  shown : (c : Code) (t : Point) (x : Next) → (world ps).code f ≡ Some c → Stands ps rs f t → Shows ((world ps).env f.module) F t x → StaysOn ps rs H M f k t x
  shown c t (Reads l todo vs ls) e s x = elim x [
    | inl a ↦ (a.1, past t (p.Reads a.0 a.1) a.1 todo (comes t _ s a.2) (λ g n z. z, λ q z. cc) refl a.3)
    | inr a ↦ (p.Divides a.0, here t _ todo (comes t _ s a.1) a.2)
  ]
  shown c t (Writes l v todo vs ls) e s x = (x.0, x.1, comes t _ s x.2, past t (p.Writes x.0 x.1) x.1 todo (comes t _ s x.2) (λ g n z. z, λ q z. cc) refl x.3)
  shown c t (Calls g args todo vs ls) e s x = (x.1, x.0, comes t x.1 s x.2, x.3, x.4)
  shown c t (Returns v) e s x = (x.0, comes t x.0 s x.1, x.2)
  shown c t (Jumps todo vs ls) e s x = (x.0, here t x.0 todo (comes t x.0 s x.1) x.2)
  shown c t (Leaps l ls) e s x = leaps c t x.0 l e (comes t x.0 s x.1) x.2
  shown c t (Asks r todo) e s x = x
  shown c t (Recovers l todo vs ls) e s x = (x.0, past t (p.Recovers l x.0) x.0 todo (comes t _ s x.1) (λ g n z. z, λ q z. cc) refl x.2)
  shown c t (Errors n) e s x = tt
  shown c t Lacks e s x = tt

pub acts_stay_on : ActsStayOn
acts_stay_on ps rs H M f k c t todo vs ls h m e s x = shown ps rs H M f k h m c t (next ((world ps).env f.module) todo vs ls) e s (x vs ls)
