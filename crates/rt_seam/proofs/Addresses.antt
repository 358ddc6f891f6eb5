-- The addresses of relocations.
use Rattle.std.proofs.Common.{true, ◌≡◌, ℕ, zero, suc, ◌+◌, List, [], ◌∷◌, Option, Some, None, slice_get, refl, sym, ap, ◌∙◌, arith}
use Rattle.std.proofs.lemmas.Option.{slice_get_within}
use Rattle.rt_modes.specs.declared.mode.Mode.{Mode}
use Rattle.rt_tree_nodes.specs.declared.brick.Brick.{Brick as TreeBrick}
use Rattle.rt_tree_nodes.specs.declared.brick.BrickSort.{BrickSort}
use Rattle.rt_tree_nodes.specs.declared.brick.BrickSort.TheVariants as sort
use Rattle.rt_tree_nodes.specs.declared.brick.Kind.{Kind}
use Rattle.rt_tree_nodes.specs.declared.brick.Kind.TheVariants as kind
use Rattle.rt_tree_nodes.specs.declared.brick.ModuleParts.{ModuleParts}
use Rattle.rt_tree_nodes.specs.declared.brick.ProcBody.{ProcBody}
use Rattle.rt_tree_nodes.specs.declared.store.Proc.{Proc}
use Rattle.rt_tree_nodes.specs.Scopes.{proc_mode, face, faces, Face, with, proc_of}
use Rattle.rt_tree.specs.Modules.{is_here}
use Rattle.rt_tree.specs.Stored.{System, HasBrick, module_of, brick}
use Rattle.rt_work_state.specs.Nodes as n
use Rattle.rt_work_state.specs.Items.{Env}
use Rattle.rt_resolve.specs.Bindings.{bound, bound_by, bounds_from}
use Rattle.rt_resolve.specs.Starting.{home_of, lead}
use Rattle.rt_resolve.specs.Systems.{all_from, resolved, env_of, env_in, world}
use Rattle.rt_link.specs.Addresses.{if_there, string_at}
use Rattle.rt_link.specs.Room.{strings_in, strings_of}
use Rattle.rt_imaged.specs.Whole.{entry_of}
use Rattle.rt_imaged.proofs.Resolving.{there_is}
use Rattle.rt_seam.specs.Addresses.{AddressesAreThose}

resolved_at : (ps qs : List ModuleParts) (k i : ℕ) (p : ModuleParts) → slice_get qs i ≡ Some p → slice_get (all_from ps k qs) i ≡ Some (resolved ps (k + i) p)
resolved_at ps [] k i p e = absurd cc
resolved_at ps (q ∷ qs) k zero p e = let is : q ≡ p = cc in let z : k ≡ k + zero = omega arith in ap (λ (x : ModuleParts). Some (resolved ps k x)) is ∙ ap (λ (j : ℕ). Some (resolved ps j p)) z
resolved_at ps (q ∷ qs) k (suc i) p e = let z : suc k + i ≡ k + suc i = omega arith in resolved_at ps qs (suc k) i p e ∙ ap (λ (j : ℕ). Some (resolved ps j p)) z

none_at : {A : Type 0} (p : ModuleParts) → None ≡ Some p → A
none_at p e = absurd cc

pub env_is : (ps : System) (m : ℕ) (p : ModuleParts) → module_of ps m ≡ Some p → (world ps).env m ≡ n.env (env_of ps m p)
env_is ps zero p e = none_at p e
env_is ps (suc i) p e = let z : 1 + i ≡ suc i = omega arith in ap env_in (resolved_at ps ps 1 i p e) ∙ ap (λ (j : ℕ). n.env (env_of ps j p)) z

-- where bricks lead
leads_same : (ps : System) (m : ℕ) (p : ModuleParts) (x : ℕ) → module_of ps m ≡ Some p → ((world ps).env m).leads x ≡ lead (home_of ps m p) x
leads_same ps m p x e = ap (λ (v : Env). v.leads x) (env_is ps m p e)

bound_at : (ps : System) (m k b : ℕ) (ds : List TreeBrick) (d : TreeBrick) → slice_get ds b ≡ Some d → slice_get (bounds_from ps m k ds) b ≡ Some (bound ps m (k + b) d)
bound_at ps m k b [] d e = absurd cc
bound_at ps m k zero (x ∷ ds) d e = let is : x ≡ d = cc in let z : k ≡ k + zero = omega arith in ap (λ (y : TreeBrick). Some (bound ps m k y)) is ∙ ap (λ (j : ℕ). Some (bound ps m j d)) z
bound_at ps m k (suc b) (x ∷ ds) d e = let z : suc k + b ≡ k + suc b = omega arith in bound_at ps m (suc k) b ds d e ∙ ap (λ (j : ℕ). Some (bound ps m j d)) z

bound_here : (w : Kind) (ps : System) (m b : ℕ) (name : List ℕ) → is_here w ≡ true → bound_by w ps m b name ≡ brick m b
bound_here kind.Own ps m b name h = refl
bound_here kind.Ent ps m b name h = refl
bound_here kind.Ext ps m b name h = absurd cc
bound_here kind.Svc ps m b name h = absurd cc

lead_here : (ps : System) (m b : ℕ) (p : ModuleParts) (d : TreeBrick) → HasBrick ps m b p d → is_here d.kind ≡ true → lead (home_of ps m p) b ≡ brick m b
lead_here ps m b p d has here =
    let z : 0 + b ≡ b = omega arith in
    ap n.proc_in (bound_at ps m 0 b p.bricks d has.at) ∙ ap (λ (j : ℕ). bound ps m j d) z ∙ bound_here d.kind ps m b d.name here

faces_at : (ds : List TreeBrick) (b : ℕ) (d : TreeBrick) → slice_get ds b ≡ Some d → slice_get (faces ds) b ≡ Some (face d)
faces_at [] b d e = absurd cc
faces_at (x ∷ ds) zero d e = let is : x ≡ d = cc in ap (λ (y : TreeBrick). Some (face y)) is
faces_at (x ∷ ds) (suc b) d e = faces_at ds b d e

pub mode_at : (ds : List TreeBrick) (b : ℕ) (d : TreeBrick) (mode : Mode) (body : Option ProcBody) → slice_get ds b ≡ Some d → d.sort ≡ sort.Proc mode body → proc_mode (faces ds) b ≡ Some mode
mode_at ds b d mode body e is = ap by_face (faces_at ds b d e) ∙ ap (λ (s : BrickSort). by_face (Some (face (record { kind = d.kind; name = d.name; sort = s })))) is
  where
    by_face : Option Face → Option Mode
    by_face q = with q proc_of

pub addresses_are_those : AddressesAreThose
addresses_are_those ps ls os tasks image mapped s bind zero p e = none_at p e
addresses_are_those ps ls os tasks image mapped s bind (suc i) p e =
    let known = s.linked.known in
    let number : ((world ps).env (suc i)).number ≡ suc i = ap (λ (v : Env). v.number) (env_is ps (suc i) p e) in
    let less = slice_get_within ps i p e in
    let longs = s.layouts in
    let sames = s.same in
    let l = there_is ls i (omega arith) in
    let o = there_is os i (omega arith) in
    let tree = s.trees i p l.0 o.0 e l.1 o.1 in
    let strings : strings_of os (suc i) ≡ p.strings = ap strings_in o.1 ∙ tree.object.strings in
    record {
      named = number;
      own = λ b d mode body has here is. bind.procs (suc i) b p mode e (mode_at p.bricks b d mode body has.at is) ∙ ap (entry_of os known.stacks) (lead_here ps (suc i) b p d has here);
      procs = λ x v is. bind.procs (suc i) x p v e is ∙ ap (entry_of os known.stacks) (sym (leads_same ps (suc i) p x e));
      texts = λ k less.
          let t = there_is p.strings k less in
          ap (λ (q : Option (List ℕ)). if_there q (string_at os known.stacks (suc i) k)) (ap (λ (z : List (List ℕ)). slice_get z k) strings ∙ t.1) ∙ ap (λ (z : ℕ). string_at os known.stacks z k) (sym number);
    }
