-- Held and May where control comes without a step.
use Rattle.std.proofs.Common.{inl, inr, ℕ, List, refl}
use Rattle.rt_tree_nodes.specs.declared.store.Proc.{Proc}
use Rattle.rt_tree_nodes.specs.Tree.{Cond, Seq}
use Rattle.rt_tree.specs.Stored.{System}
use Rattle.rt_guarded.specs.Points as p
use Rattle.rt_guarded.specs.Points.{Point}
use Rattle.rt_guards_laws.specs.Ways.{stays, one, other, over, turn, asks, past, well}
use Rattle.rt_guarded.specs.Graph.{Way, onward}
use Rattle.rt_guarded.specs.Families.{Stands, IsPlain}
use Rattle.rt_guards_laws.specs.Moves.{ComesToPoints, HeldDrops, MayGrows}

pub step : (ps : System) (rs : List Proc) (f : Proc) (t u : Point) → Stands ps rs f t → Way ps f t u → Stands ps rs f u
step ps rs f t u s w = (s.0, onward s.1 (inl w))

forks_plain : (ps : System) (rs : List Proc) (f : Proc) (a b : Point) → IsPlain ps rs f (p.Forks a b)
forks_plain ps rs f a b = (λ g n h. h, λ k e. cc)

turns_plain : (ps : System) (rs : List Proc) (f : Proc) (q : Seq) (a : Point) → IsPlain ps rs f (p.Turns q a)
turns_plain ps rs f q a = (λ g n h. h, λ k e. cc)

tests_plain : (ps : System) (rs : List Proc) (f : Proc) (c : Cond) (q : Seq) (a : Point) → IsPlain ps rs f (p.Tests c q a)
tests_plain ps rs f c q a = (λ g n h. h, λ k e. cc)

picks_plain : (ps : System) (rs : List Proc) (f : Proc) (ls : List ℕ) (a : Point) → IsPlain ps rs f (p.Picks ls a)
picks_plain ps rs f ls a = (λ g n h. h, λ k e. cc)

pub comes_to_points : ComesToPoints
comes_to_points ps rs f t u s stays = s
comes_to_points ps rs f (p.Forks a b) u s (one c) = comes_to_points ps rs f a u (step ps rs f (p.Forks a b) a s (inl refl)) c
comes_to_points ps rs f (p.Forks a b) u s (other c) = comes_to_points ps rs f b u (step ps rs f (p.Forks a b) b s (inr refl)) c
comes_to_points ps rs f (p.Turns q k) u s (over c) = comes_to_points ps rs f k u (step ps rs f (p.Turns q k) k s (inl refl)) c
comes_to_points ps rs f (p.Turns q k) u s (turn c) = comes_to_points ps rs f _ u (step ps rs f (p.Turns q k) _ s (inr refl)) c
comes_to_points ps rs f (p.Tests d q k) u s (asks c) = comes_to_points ps rs f _ u (step ps rs f (p.Tests d q k) _ s refl) c
comes_to_points ps rs f (p.Picks ls k) u s (past c) = comes_to_points ps rs f k u (step ps rs f (p.Picks ls k) k s (inl refl)) c
comes_to_points ps rs f (p.Divides k) u s (well c) = comes_to_points ps rs f k u (step ps rs f (p.Divides k) k s refl) c

pub held_drops : HeldDrops
held_drops ps rs H f t u h s stays n i = i
held_drops ps rs H f (p.Forks a b) u h s (one c) n i = h.along s (forks_plain ps rs f a b) (inl refl) n (held_drops ps rs H f a u h (step ps rs f (p.Forks a b) a s (inl refl)) c n i)
held_drops ps rs H f (p.Forks a b) u h s (other c) n i = h.along s (forks_plain ps rs f a b) (inr refl) n (held_drops ps rs H f b u h (step ps rs f (p.Forks a b) b s (inr refl)) c n i)
held_drops ps rs H f (p.Turns q k) u h s (over c) n i = h.along s (turns_plain ps rs f q k) (inl refl) n (held_drops ps rs H f k u h (step ps rs f (p.Turns q k) k s (inl refl)) c n i)
held_drops ps rs H f (p.Turns q k) u h s (turn c) n i = h.along s (turns_plain ps rs f q k) (inr refl) n (held_drops ps rs H f _ u h (step ps rs f (p.Turns q k) _ s (inr refl)) c n i)
held_drops ps rs H f (p.Tests d q k) u h s (asks c) n i = h.along s (tests_plain ps rs f d q k) refl n (held_drops ps rs H f _ u h (step ps rs f (p.Tests d q k) _ s refl) c n i)
held_drops ps rs H f (p.Picks ls k) u h s (past c) n i = h.along s (picks_plain ps rs f ls k) (inl refl) n (held_drops ps rs H f k u h (step ps rs f (p.Picks ls k) k s (inl refl)) c n i)
held_drops ps rs H f (p.Divides k) u h s (well c) n i = (h.past_division s n (held_drops ps rs H f k u h (step ps rs f (p.Divides k) k s refl) c n i)).0

pub may_grows : MayGrows
may_grows ps rs M f t u h s stays n i = i
may_grows ps rs M f (p.Forks a b) u h s (one c) n i = may_grows ps rs M f a u h (step ps rs f (p.Forks a b) a s (inl refl)) c n (h.along s (forks_plain ps rs f a b) (inl refl) n i)
may_grows ps rs M f (p.Forks a b) u h s (other c) n i = may_grows ps rs M f b u h (step ps rs f (p.Forks a b) b s (inr refl)) c n (h.along s (forks_plain ps rs f a b) (inr refl) n i)
may_grows ps rs M f (p.Turns q k) u h s (over c) n i = may_grows ps rs M f k u h (step ps rs f (p.Turns q k) k s (inl refl)) c n (h.along s (turns_plain ps rs f q k) (inl refl) n i)
may_grows ps rs M f (p.Turns q k) u h s (turn c) n i = may_grows ps rs M f _ u h (step ps rs f (p.Turns q k) _ s (inr refl)) c n (h.along s (turns_plain ps rs f q k) (inr refl) n i)
may_grows ps rs M f (p.Tests d q k) u h s (asks c) n i = may_grows ps rs M f _ u h (step ps rs f (p.Tests d q k) _ s refl) c n (h.along s (tests_plain ps rs f d q k) refl n i)
may_grows ps rs M f (p.Picks ls k) u h s (past c) n i = may_grows ps rs M f k u h (step ps rs f (p.Picks ls k) k s (inl refl)) c n (h.along s (picks_plain ps rs f ls k) (inl refl) n i)
may_grows ps rs M f (p.Divides k) u h s (well c) n i = may_grows ps rs M f k u h (step ps rs f (p.Divides k) k s refl) c n (h.past_division s n i)
