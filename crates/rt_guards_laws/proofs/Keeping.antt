-- A task's own steps keep the invariant.
use Rattle.std.proofs.Common.{◌≡◌, ◌≢◌, inl, inr, ℕ, ◌-◌, List, [], ◌∷◌, Option, Some, None, refl, sym, ap, arith, ◌∙◌, subst}
use Rattle.std.specs.List.{Contains}
use Rattle.rt_tree_nodes.specs.declared.store.Datum.{Datum}
use Rattle.rt_tree_nodes.specs.declared.store.Proc.{Proc}
use Rattle.std.proofs.lemmas.List.{get_or-replicate}
use Rattle.rt_rules.specs.declared.task.State.TheVariants.{Ready, Facility}
use Rattle.rt_rules.specs.declared.task.TaskRow.{TaskRow}
use Rattle.rt_rules.specs.Rules.{start}
use Rattle.rt_rules.proofs.Starts.{length-rows_from, get_or-rows_from}
use Rattle.rt_rules.specs.Roster.{Roster, row, owner_of, IsTask, IsNumber}
use Rattle.rt_tree.specs.Stored.{System, brick}
use Rattle.rt_work_state.specs.Items.{Item, Leave, Serve}
use Rattle.rt_resolve.specs.World.{Code}
use Rattle.rt_resolve.specs.Systems.{world}
use Rattle.rt_meaning.specs.Step.{Act, Doing, with_todo, entered, returned}
use Rattle.rt_guarded.specs.Points as p
use Rattle.rt_guarded.specs.Points.{Point, ReturnsAt, sequence}
use Rattle.rt_guarded.specs.Graph as graph
use Rattle.rt_guarded.specs.Graph.{entry, entry_by, at_point, at_division, Reaches, itself, further, Rel, first, onward}
use Rattle.rt_guarded.specs.Families.{Family, In, Stands, KeepsHeld, KeepsMay, Gives}
use Rattle.rt_guarded.specs.Families as families
use Rattle.rt_guards_laws.specs.Owning.{Has}
use Rattle.rt_guards_laws.specs.Steps.{ComesTo}
use Rattle.rt_guards_laws.specs.Invariant.{Between, Goes, Called, by_call, by_error, Waits, Safe, Callers, at_root, of_body, of_service, Serving, in_service, asks, done, TaskStands, in_body, begins, ends}
use Rattle.rt_guards_laws.specs.Keeping.{GoingOnKeeps, CallsKeep, ReturnsKeep, SecuresKeep, ReleasesKeep, OthersKeep, StartsStand, RootsKeep, RootsReturn, HandlersKeep, HandlersReturn, ServicesReturn, SuppliedCalls}
use Rattle.rt_guards_laws.proofs.Ways.{entries_follow}

pub going_on_keeps : GoingOnKeeps
going_on_keeps ps rs H M k r i a callers own t u todo vs ls b c x =
    in_body (with_todo a todo vs ls) u x.stands x.follows ((λ n l y. b.0 n l (x.bounds.0 n y)), (λ n l y. x.bounds.1 n (b.1 n l y))) c

-- the point behind a call is one of the procedure
behind_stands : (ps : System) (rs : List Proc) (f : Proc) (w u : Point) (g : Proc) → Called ps rs f u g w → Stands ps rs f u
behind_stands ps rs f w u g (by_call a c y) = (c.stands.0, onward c.stands.1 (inl y))
behind_stands ps rs f w u g (by_error s d) = (s.0, onward s.1 (inl refl))

module _ (ps : System) (rs : List Proc) (H M : Family) (k : ℕ) (r : Roster) (i : ℕ) (h : KeepsHeld ps rs H) (m : KeepsMay ps rs M) where
  -- what is called is reached
  reached : (f : Proc) (w u : Point) (g : Proc) → Called ps rs f u g w → (x : Proc) × Contains rs x × Reaches ps x g
  reached f w u g (by_call a c y) = (c.stands.0.0, c.stands.0.1, further c.stands.0.2 (at_point a c.stands.1 c.calls))
  reached f w u g (by_error s e) = (s.0.0, s.0.1, further s.0.2 (at_division s.1 e))

  enters_held : (f : Proc) (w u : Point) (g : Proc) (v : Point) → Called ps rs f u g w → entry ps g ≡ Some v → (n : ℕ) → In H g v n → In H f w n
  enters_held f w u g v (by_call a c y) e n x = h.at_call c e n x
  enters_held f w u g v (by_error s d) e n x = (h.at_error (families.at_division s) d e n x).0

  enters_may : (f : Proc) (w u : Point) (g : Proc) (v : Point) → Called ps rs f u g w → entry ps g ≡ Some v → (n : ℕ) → In M f w n → In M g v n
  enters_may f w u g v (by_call a c y) e n x = m.at_call c e n x
  enters_may f w u g v (by_error s d) e n x = m.at_error (families.at_division s) d e n (inl x)

  waits_held : (f : Proc) (w u : Point) (g : Proc) (v : Point) → Called ps rs f u g w → entry ps g ≡ Some v → (n : ℕ) → In H f u n → In H f w n × (Rel ps g n → ⊥)
  waits_held f w u g v (by_call a c y) e n x = h.past_call c (v, e) y n x
  waits_held f w u g v (by_error s d) e n x =
      let z = h.past_division s n x in (z.0, λ rel. z.1 (g, d, rel))

  returns_may : (f : Proc) (w u : Point) (g : Proc) (v : Point) → Called ps rs f u g w → Gives ps rs g v → (n : ℕ) → In M g v n → In M f u n
  returns_may f w u g v (by_call a c y) e n x = m.past_call c e y n x
  returns_may f w u g v (by_error s d) e n x = m.past_error (families.at_division s) d e refl n x

  calls : (a : Act) (callers : List Act) (own : List Datum) (t w u : Point) (todo : List Item) (vs ls args : List Datum) (kept : Datum) (g : Proc) (c : Code)
      → Between ps rs H M k r i a.proc t → Callers ps rs H M k r i a.proc callers → ComesTo ps rs H M a.proc t w → Called ps rs a.proc u g w → Goes ps k a.proc u todo → (world ps).code g ≡ Some c
      → TaskStands ps rs H M k r i (Doing (entered (Some c) g args kept) (with_todo a todo vs ls ∷ callers) own)
  calls a callers own t w u todo vs ls args kept g c b cs x d goes code =
      let v : Point = sequence ((world ps).env g.module) c.body p.Ends in
      let e : entry ps g ≡ Some v = ap (entry_by (world ps) g) code in
      in_body (entered (Some c) g args kept) v (reached a.proc w u g d, first e) (entries_follow ((world ps).env g.module) k c.body)
      ((λ n l y. b.0 n l (x.bounds.0 n (enters_held a.proc w u g v d e n y))), (λ n l y. enters_may a.proc w u g v d e n (x.bounds.1 n (b.1 n l y))))
      (of_body (with_todo a todo vs ls) (record {
        at = u;
        from = w;
        called = d;
        goes = goes;
      }) ((λ n l y. b.0 n l (x.bounds.0 n (waits_held a.proc w u g v d e n y).0)), (λ n y. (waits_held a.proc w u g v d e n y).1)) cs)

  returns : (a b : Act) (rest : List Act) (own : List Datum) (t u : Point) (v : Option Datum)
      → Between ps rs H M k r i a.proc t → ComesTo ps rs H M a.proc t u → ReturnsAt u → (w : Waits ps rs k b a.proc) → Safe ps rs H M k r i b.proc w.at a.proc → Callers ps rs H M k r i b.proc rest
      → TaskStands ps rs H M k r i (returned v (b ∷ rest) own)
  returns a b rest own t u v x c e w safe cs =
      in_body (with_todo b b.todo _ b.locals) w.at (behind_stands ps rs b.proc w.from w.at a.proc w.called) w.goes
      (safe.0, λ n l y. returns_may b.proc w.from w.at a.proc u w.called (c.stands, e) n (c.bounds.1 n (x.1 n l y))) cs

pub calls_keep : CallsKeep
calls_keep ps rs H M k r i a callers own t w u todo vs ls args kept g c h m b cs x d goes code = calls ps rs H M k r i h m a callers own t w u todo vs ls args kept g c b cs x d goes code

pub returns_keep : ReturnsKeep
returns_keep ps rs H M k r i a b rest own t u v h m x c e w safe cs = returns ps rs H M k r i h m a b rest own t u v x c e w safe cs

-- ---- services

pub secures_keep : SecuresKeep
secures_keep ps rs H M k r q i f w u n h m c y s b = (
  λ a l x. elim (h.past_secure c y a x).0 [ inl was ↦ s.had a l (b.0 a l was) | inr e ↦ subst (λ z. Has q i z) (sym e) s.now ],
  λ a l x. elim (s.only a l x) [
    | inl was ↦ m.past_supplied c (omega arith) (omega arith) y a (b.1 a l was)
    | inr e ↦ subst (λ z. In M f u z) (sym e) (m.past_secure c y)
  ],
)

pub releases_keep : ReleasesKeep
releases_keep ps rs H M k r q i f w u n h m c y s b = (
  λ a l x. let z = h.past_release c y a x in s.had a l z.1 (b.0 a l z.0),
  λ a l x. let z = s.only a l x in m.past_release c y a z.1 (b.1 a l z.0),
)

pub others_keep : OthersKeep
others_keep ps rs H M k r q i f w u j o h m c kind seven ten y same b = (
  λ a l x. (same a l).0 (b.0 a l (elim kind [ inl waits ↦ (h.past_wait c waits y a x).0 | inr none ↦ h.past_supplied c none y a x ])),
  λ a l x. m.past_supplied c seven ten y a (b.1 a l ((same a l).1 x)),
)

-- ---- the start

starts_ready : (priorities : List ℕ) (i : ℕ) → IsTask (start priorities) i → (row (start priorities) i).state ≡ Ready
starts_ready priorities i h =
    ap (λ (t : TaskRow). t.state) (get_or-rows_from 0 priorities (i - 1) (let same = length-rows_from 0 priorities in let some = h.0 in let last = h.1 in omega arith))

no_facility : (n : ℕ) → Ready ≢ Facility n
no_facility n e = cc

-- no task waits at the start
pub starts_wait_for_nothing : (priorities : List ℕ) (i n : ℕ) → IsTask (start priorities) i → (row (start priorities) i).state ≡ Facility n → ⊥
starts_wait_for_nothing priorities i n h w = no_facility n (sym (starts_ready priorities i h) ∙ w)

starts_with_nothing : (priorities : List ℕ) (i n : ℕ) → IsTask (start priorities) i → IsNumber n → Has (start priorities) i n → ⊥
starts_with_nothing priorities i n h l x = elim x [
  | inl own ↦ let free : owner_of (start priorities) n ≡ 0 = get_or-replicate {A = ℕ} 32 (n - 1) 0 0 (let a = l.0 in let b = l.1 in omega arith) in let some = h.0 in omega (arith, own, free)
  | inr w ↦ starts_wait_for_nothing priorities i n h w
]

pub starts_stand : StartsStand
starts_stand ps rs H M k priorities i f h c = begins _ f c refl (λ n l x. starts_with_nothing priorities i n h l x)

pub roots_keep : RootsKeep
roots_keep ps rs H M k r i a f own vs ls args kept c h root code none =
    let v : Point = sequence ((world ps).env f.module) c.body p.Ends in
    let e : entry ps f ≡ Some v = ap (entry_by (world ps) f) code in
    in_body (entered (Some c) f args kept) v ((f, root, itself), first e) (entries_follow ((world ps).env f.module) k c.body)
    ((λ n l y. absurd (h.at_root root e n y)), (λ n l y. absurd (none n l y)))
    (at_root (with_todo a (Serve 11 ∷ []) vs ls) root refl)

pub roots_return : RootsReturn
roots_return ps rs H M k r i a own v e = ends (with_todo a a.todo _ a.locals) e

-- ---- errors in services

pub handlers_keep : HandlersKeep
handlers_keep ps rs H M k r i s a rest own vs ls args kept j b w g c h m meets is called between held none cs handles code =
    let v : Point = sequence ((world ps).env g.module) c.body p.Ends in
    let e : entry ps g ≡ Some v = ap (entry_by (world ps) g) code in
    let at : families.ErrorAt ps rs a.proc w.from = families.in_service meets called in
    let reached : (x : Proc) × Contains rs x × Reaches ps x g = (called.stands.0.0, called.stands.0.1, further (further called.stands.0.2 (at_point b called.stands.1 called.calls)) (graph.in_service meets handles)) in
    in_body (entered (Some c) g args kept) v (reached, first e) (entries_follow ((world ps).env g.module) k c.body)
    ((λ n l y. between.0 n l (h.at_error at handles e n y).0), (λ n l y. m.at_error at handles e n (inl (between.1 n l y))))
    (of_service (with_todo s (Leave ∷ []) vs ls) a j w meets is refl handles (held, λ n y rel. none n y (g, handles, rel)) cs)

pub handlers_return : HandlersReturn
handlers_return ps rs H M k r i x s a rest own t u j b w m meets is todo called way handles safe between comes e cs =
    let at : families.ErrorAt ps rs a.proc w.from = families.in_service meets called in
    in_service (with_todo s s.todo _ s.locals) a j w is
    (subst (λ z. Serving ps rs H M k r i a.proc w.from w.at j z) (sym todo)
    (done (safe.0, λ n l y. m.past_error at handles (comes.stands, e) way n (comes.bounds.1 n (between.1 n l y))))) cs

pub services_return : ServicesReturn
services_return ps rs H M k r i a rest own j v w between cs =
    in_body (with_todo a a.todo _ a.locals) w.at (behind_stands ps rs a.proc w.from w.at (brick 0 j) w.called) w.goes between cs

pub supplied_calls : SuppliedCalls
supplied_calls ps rs H M k r i a callers own t w u todo vs ls args kept j b between cs x called way goes =
    in_service (entered None (brick 0 j) args kept) (with_todo a todo vs ls) j (record { at = u; from = w; called = by_call b called way; goes = goes }) refl
    (asks ((λ n l y. between.0 n l (x.bounds.0 n y)), (λ n l y. x.bounds.1 n (between.1 n l y)))) cs
