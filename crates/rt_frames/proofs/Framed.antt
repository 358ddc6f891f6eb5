-- The frame that a walk gives.
use Rattle.std.proofs.Common.{◌≡◌, ℕ, max, true, false, List, [], ◌∷◌, length, Option, Some, None, option_map, Result, Ok, Err, IfOk, slice_get, refl, sym, ap, ◌∙◌, arith}
use Rattle.std.specs.List.{AllByRecursion}
use Rattle.rt_modes.specs.declared.mode.Mode.{Mode}
use Rattle.rt_tree_nodes.specs.declared.brick.Brick.{Brick}
use Rattle.rt_tree_nodes.specs.declared.brick.BrickSort.TheVariants as sort
use Rattle.rt_tree_nodes.specs.declared.brick.ModuleParts.{ModuleParts}
use Rattle.rt_tree_nodes.specs.declared.brick.ProcBody.{ProcBody}
use Rattle.rt_tree.specs.Depth.{sequence_depth, sequence_recovers}
use Rattle.rt_tree_nodes.specs.Scopes.{scope_of, with_locals}
use Rattle.rt_tree_nodes.specs.Scopes.{Scope}
use Rattle.rt_tree.specs.Statements.{body_tree}
use Rattle.rt_tree.specs.Modules.{every_node_fits}
use Rattle.rt_tree.specs.Within.{Within, parameters_of}
use Rattle.rt_frames.specs.declared.frame.CallPoint.{CallPoint}
use Rattle.rt_frames.specs.declared.frame.Frame.{Frame}
use Rattle.rt_frames.specs.declared.statements.Walk.{Walk}
use Rattle.rt_frames.specs.Frames.{body_frame, frame, frame_by, words_of}
use Rattle.rt_frames.specs.Points.{body_points}
use Rattle.rt_frames.specs.Saturated.{saturated, saturated_points, saturated_frame}
use Rattle.rt_frames.specs.Small.{IsSmall, IsSmallPoint, NumbersAreSmall}
use Rattle.rt_frames.specs.Walks.{body_part}
use Rattle.rt_frames.proofs.Gathered.{body_takes}
use Rattle.rt_frames.proofs.Sums.{small_kept}

abbrev nothing_yet : Walk
nothing_yet = record { deep = 0; recovers = false; calls = [] }

zero_max : (a : ℕ) → max 0 a ≡ a
zero_max a = grind arith

walked : (c : Scope) (b : ProcBody) (w0 w : Walk) → w0 ≡ nothing_yet → w ≡ body_part c b.body w0
    → w ≡ record { deep = saturated (sequence_depth (body_tree c b.body)); recovers = sequence_recovers (body_tree c b.body); calls = saturated_points (body_points c b.body) }
walked c b w0 w e h = h ∙ (body_takes c b.body).is w0 ∙ rw e (rw (zero_max (saturated (sequence_depth (body_tree c b.body)))) refl)

pub frame_is : (p : ModuleParts) (m : Mode) (b : ProcBody) (c : Scope) (w0 w : Walk) (count params locals len : ℕ) → c ≡ with_locals (scope_of p) b.locals → w0 ≡ record { deep = 0; recovers = false; calls = [] }
    → w ≡ body_part c b.body w0 → params ≡ saturated count → count ≡ parameters_of m → len ≡ length b.locals → locals ≡ saturated (words_of count len w.recovers)
    → record { params = params; locals = locals; deep = w.deep; calls = w.calls } ≡ saturated_frame (body_frame p (parameters_of m) b)
frame_is p m b c w0 w count params locals len s e h x y z l =
    rw (l, x, z, walked c b w0 w e h, y, s) refl

pub frame_here : (p : ModuleParts) (k : ℕ) (d : Brick) (m : Mode) (o : Option ProcBody) (f : Frame) → Some d ≡ slice_get p.bricks k → d.sort ≡ sort.Proc m o → option_map saturated_frame (frame_by p m o) ≡ Some f
    → option_map saturated_frame (frame p k) ≡ Some f
frame_here p k d m o f e s g = rw (sym e, s, g) refl

-- ---- small numbers are kept as they are

points_kept : (ps : List CallPoint) → AllByRecursion IsSmallPoint ps → saturated_points ps ≡ ps
points_kept [] h = refl
points_kept (p ∷ ps) h = rw (small_kept p.depth h.0.depth, small_kept p.args h.0.args, points_kept ps h.1) refl

small_frame : (f : Frame) → IsSmall f → saturated_frame f ≡ f
small_frame f h = rw (small_kept f.params h.params, small_kept f.locals h.locals, small_kept f.deep h.deep, points_kept f.calls h.calls) refl

pub frame_kept : NumbersAreSmall → (p : ModuleParts) (k : ℕ) (f : Frame) → every_node_fits p ≡ true → Within p → option_map saturated_frame (frame p k) ≡ Some f → frame p k ≡ Some f
frame_kept small p k f h w e = by_frame (frame p k) (λ g s. small p k g h w s) e where
  by_frame : (o : Option Frame) → ((g : Frame) → o ≡ Some g → IsSmall g) → option_map saturated_frame o ≡ Some f → o ≡ Some f
  by_frame None t s = absurd cc
  by_frame (Some g) t s = ap Some (sym (small_frame g (t g refl))) ∙ s

pub each_kept : {E : Type 0} → NumbersAreSmall → (p : ModuleParts) (k : ℕ) (r : Result Frame E) → every_node_fits p ≡ true → Within p → IfOk r (λ f. option_map saturated_frame (frame p k) ≡ Some f) → IfOk r (λ f. frame p k ≡ Some f)
each_kept small p k (Ok f) h w e = frame_kept small p k f h w e
each_kept small p k (Err m) h w e = tt
