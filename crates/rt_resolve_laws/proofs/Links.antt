-- To what the bricks of a module are bound.
use Rattle.std.proofs.Common.{◌≡◌, ℕ, zero, suc, ◌+◌, ◌&&◌, Bool, true, false, if◌then◌else◌, List, [], ◌∷◌, Option, Some, None, slice_get, refl, sym, ap, ◌∙◌, subst, arith}
use Rattle.std.specs.Str.{bytes_eq}
use Rattle.std.proofs.lemmas.Slice.Eq.{bytes_eq-Decides}
use Rattle.rt_modes.specs.declared.mode.Mode.{Mode}
use Rattle.rt_tree_nodes.specs.declared.brick.Brick.{Brick}
use Rattle.rt_tree_nodes.specs.declared.brick.BrickSort.{BrickSort}
use Rattle.rt_tree_nodes.specs.declared.brick.BrickSort.TheVariants as sort
use Rattle.rt_tree_nodes.specs.declared.brick.Kind.{Kind}
use Rattle.rt_tree_nodes.specs.declared.brick.Kind.TheVariants as kind
use Rattle.rt_tree_nodes.specs.declared.brick.ModuleParts.{ModuleParts}
use Rattle.rt_tree_nodes.specs.declared.brick.ProcBody.{ProcBody}
use Rattle.rt_tree_nodes.specs.declared.store.Proc.{Proc}
use Rattle.rt_tree.specs.Modules.{is_here}
use Rattle.rt_tree.specs.Stored as s
use Rattle.rt_tree.specs.Stored.{System, HasBrick, StandsFor, module_of}
use Rattle.rt_resolve.specs.Bindings.{is_ent, enters, entry_from, entry, or_else, proc_or_none, bound_by, bound, bounds_from, bounds}
use Rattle.rt_resolve.specs.Matching.{SuppliedSame, Matched}
use Rattle.rt_resolve_laws.proofs.Names.{number_of_name}

left_of : (a b : Bool) → a && b ≡ true → a ≡ true
left_of true b e = refl
left_of false b e = e

right_of : (a b : Bool) → a && b ≡ true → b ≡ true
right_of true b e = e
right_of false b e = absurd cc

-- ---- the search for an entry

abbrev Enters : List ℕ → List Brick → ℕ → ℕ → ℕ → Proc → Type 0
Enters name bs m k i f = (c : ℕ) × (e : Brick) × (f ≡ s.brick m i) × (i ≡ k + c) × (slice_get bs c ≡ Some e) × (enters name e ≡ true)

one_more : (k i c : ℕ) → i ≡ suc k + c → i ≡ k + suc c
one_more k i c h = omega arith

here_or_later : (name : List ℕ) (m k : ℕ) (b : Brick) (bs : List Brick) (f : Proc) (c : Bool) → enters name b ≡ c → (if c then Some (s.brick m k) else entry_from name m (suc k) bs) ≡ Some f
    → (entry_from name m (suc k) bs ≡ Some f → (i : ℕ) × Enters name bs m (suc k) i f) → (i : ℕ) × Enters name (b ∷ bs) m k i f
here_or_later name m k b bs f true h e go = (k, (zero, b, cc, omega arith, refl, h))
here_or_later name m k b bs f false h e go = let r = go e in (r.0, (suc r.1.0, r.1.1, r.1.2, one_more k r.0 r.1.0 r.1.3, r.1.4, r.1.5))

in_module : (name : List ℕ) (m k : ℕ) (bs : List Brick) (f : Proc) → entry_from name m k bs ≡ Some f → (i : ℕ) × Enters name bs m k i f
in_module name m k [] f e = absurd cc
in_module name m k (b ∷ bs) f e = here_or_later name m k b bs f (enters name b) refl e (λ h. in_module name m (suc k) bs f h)

-- the entry of a name, in a module of some that count from m
abbrev Entry : List ℕ → List ModuleParts → ℕ → Proc → Type 0
Entry name qs m f = (i j c : ℕ) × (q : ModuleParts) × (e : Brick) × (f ≡ s.brick i c) × (i ≡ m + j) × (slice_get qs j ≡ Some q) × (slice_get q.bricks c ≡ Some e) × (enters name e ≡ true)

this_or_later : (name : List ℕ) (m : ℕ) (p : ModuleParts) (qs : List ModuleParts) (f : Proc) (o : Option Proc) → entry_from name m 0 p.bricks ≡ o → or_else o (entry name (suc m) qs) ≡ Some f → (entry name (suc m) qs ≡ Some f → Entry name qs (suc m) f) → Entry name (p ∷ qs) m f
this_or_later name m p qs f None h e go = let r = go e in (r.0, suc r.1, r.2, r.3, r.4, r.5, one_more m r.0 r.1 r.6, r.7, r.8, r.9)
this_or_later name m p qs f (Some x) h e go =
    let r = in_module name m 0 p.bricks f (h ∙ e) in
    let same : r.0 ≡ r.1.0 = r.1.3 ∙ omega arith in
    (m, zero, r.1.0, p, r.1.1, r.1.2 ∙ ap (λ (i : ℕ). s.brick m i) same, omega arith, refl, r.1.4, r.1.5)

in_modules : (name : List ℕ) (m : ℕ) (qs : List ModuleParts) (f : Proc) → entry name m qs ≡ Some f → Entry name qs m f
in_modules name m [] f e = absurd cc
in_modules name m (p ∷ qs) f e = this_or_later name m p qs f (entry_from name m 0 p.bricks) refl e (λ h. in_modules name (suc m) qs f h)

-- where an entry stands one is found
found_or : (c : Bool) (x : Proc) (o : Option Proc) → ((c ≡ false) → (f : Proc) × (o ≡ Some f)) → (f : Proc) × ((if c then Some x else o) ≡ Some f)
found_or true x o go = (x, refl)
found_or false x o go = go refl

found_in : (name : List ℕ) (m k : ℕ) (bs : List Brick) (c : ℕ) (e : Brick) → slice_get bs c ≡ Some e → enters name e ≡ true → (f : Proc) × (entry_from name m k bs ≡ Some f)
found_in name m k [] c e g h = absurd cc
found_in name m k (b ∷ bs) zero e g h = found_or (enters name b) _ _ (λ n. let same : b ≡ e = cc in let no : true ≡ false = sym h ∙ ap (enters name) (sym same) ∙ n in absurd cc)
found_in name m k (b ∷ bs) (suc c) e g h = found_or (enters name b) _ _ (λ n. found_in name m (suc k) bs c e g h)

or_found : (o r : Option Proc) → (f : Proc) × (r ≡ Some f) → (f : Proc) × (or_else o r ≡ Some f)
or_found None r h = h
or_found (Some x) r h = (x, refl)

found_all : (name : List ℕ) (m : ℕ) (qs : List ModuleParts) (j c : ℕ) (q : ModuleParts) (e : Brick) → slice_get qs j ≡ Some q → slice_get q.bricks c ≡ Some e → enters name e ≡ true → (f : Proc) × (entry name m qs ≡ Some f)
found_all name m [] j c q e g h k = absurd cc
found_all name m (p ∷ qs) zero c q e g h k =
    let same : q ≡ p = cc in
    let r = found_in name m 0 p.bricks c e (ap (λ (y : ModuleParts). slice_get y.bricks c) (sym same) ∙ h) k in
    (r.0, ap (λ (o : Option Proc). or_else o (entry name (suc m) qs)) r.1)
found_all name m (p ∷ qs) (suc j) c q e g h k = or_found (entry_from name m 0 p.bricks) (entry name (suc m) qs) (found_all name (suc m) qs j c q e g h k)

-- ---- what enters

ent_enters : (name : List ℕ) (e : Brick) → e.kind ≡ kind.Ent → e.name ≡ name → enters name e ≡ true
ent_enters name e k n = rw (k, (bytes_eq-Decides e.name name).1 n) refl

is_entry : (k : Kind) → is_ent k ≡ true → k ≡ kind.Ent
is_entry kind.Ent e = refl
is_entry kind.Own e = absurd cc
is_entry kind.Ext e = absurd cc
is_entry kind.Svc e = absurd cc

entering_ent : (name : List ℕ) (e : Brick) → enters name e ≡ true → e.kind ≡ kind.Ent
entering_ent name e h = is_entry e.kind (left_of (is_ent e.kind) (bytes_eq e.name name) h)

entering_name : (name : List ℕ) (e : Brick) → enters name e ≡ true → e.name ≡ name
entering_name name e h = (bytes_eq-Decides e.name name).0 (right_of (is_ent e.kind) (bytes_eq e.name name) h)

pub number_is : (n : ℕ) (ps : System) (q : ModuleParts) → module_of ps n ≡ Some q → (j : ℕ) × (n ≡ suc j) × (slice_get ps j ≡ Some q)
number_is zero ps q h = absurd cc
number_is (suc j) ps q h = (j, refl, h)

pub from_one : (m j : ℕ) → m ≡ suc j → m ≡ 1 + j
from_one m j h = omega arith

after_one : (i j : ℕ) → i ≡ 1 + j → i ≡ suc j
after_one i j h = omega arith

module _ (ps : System) (fits : Matched ps) where
  -- the entry of a name is found where it stands
  pub entry_is : {n c : ℕ} {q : ModuleParts} {e : Brick} (name : List ℕ) → HasBrick ps n c q e → e.kind ≡ kind.Ent → e.name ≡ name → entry name 1 ps ≡ Some (s.brick n c)
  entry_is {n} {c} {q} {e} name h k g =
      let num = number_is n ps q h.of in
      let r = found_all name 1 ps num.0 c q e num.2 h.at (ent_enters name e k g) in
      let w = in_modules name 1 ps r.0 r.1 in
      let there : HasBrick ps w.0 w.2 w.3 w.4 = record { of = ap (module_of ps) (after_one w.0 w.1 w.6) ∙ w.7; at = w.8 } in
      let same = fits.one there (entering_ent name w.4 w.9) h k (entering_name name w.4 w.9 ∙ sym g) in
      r.1 ∙ ap (λ (f : Proc). Some f) w.5 ∙ ap (λ (i : ℕ). Some (s.brick i w.2)) same.0 ∙ ap (λ (i : ℕ). Some (s.brick n i)) same.1

  -- an own, ENT or EXT brick is bound to what it stands for
  bound_by_kind : {m b : ℕ} {p : ModuleParts} {d : Brick} (k : Kind) → d.kind ≡ k → HasBrick ps m b p d → ((k ≡ kind.Svc) → (w : Mode) × (body : Option ProcBody) × (d.sort ≡ sort.Proc w body)) → StandsFor ps m b (bound_by k ps m b d.name)
  bound_by_kind kind.Own e h proc = s.itself h (ap is_here e)
  bound_by_kind kind.Ent e h proc = s.itself h (ap is_here e)
  bound_by_kind {m} {b} {p} {d} kind.Ext e h proc =
      let link = fits.entries h e in
      subst (λ (o : Option Proc). StandsFor ps m b (proc_or_none o)) (sym (entry_is d.name link.4 link.5 link.6)) (s.entry h e link.4 link.5 link.6)
  bound_by_kind {m} {b} {p} {d} kind.Svc e h proc =
      let so = proc refl in
      let link : SuppliedSame p d (sort.Proc so.0 so.1) = subst (λ (z : BrickSort). SuppliedSame p d z) so.2 (fits.supplied h e) in
      subst (λ (i : ℕ). StandsFor ps m b (s.brick 0 i)) (sym (number_of_name link.0 d.name link.2)) (s.supplied h e link.2)

  pub bound_stands : {m b : ℕ} {p : ModuleParts} {d : Brick} → HasBrick ps m b p d → ((d.kind ≡ kind.Svc) → (w : Mode) × (body : Option ProcBody) × (d.sort ≡ sort.Proc w body)) → StandsFor ps m b (bound ps m b d)
  bound_stands {d = d} h proc = bound_by_kind d.kind refl h proc

-- ---- the numbers of bricks

bound_at : (ps : List ModuleParts) (m k : ℕ) (xs : List Brick) (b i : ℕ) (d : Brick) → slice_get xs b ≡ Some d → i ≡ k + b → slice_get (bounds_from ps m k xs) b ≡ Some (bound ps m i d)
bound_at ps m k [] b i d e h = absurd cc
bound_at ps m k (x ∷ xs) zero i d e h =
    let same : x ≡ d = cc in
    let num : k ≡ i = omega arith in
    ap (λ (y : Brick). Some (bound ps m k y)) same ∙ ap (λ (j : ℕ). Some (bound ps m j d)) num
bound_at ps m k (x ∷ xs) (suc b) i d e h = bound_at ps m (suc k) xs b i d e (omega arith)

pub brick_bound : (ps : List ModuleParts) (m b : ℕ) (p : ModuleParts) (d : Brick) → slice_get p.bricks b ≡ Some d → slice_get (bounds ps m p) b ≡ Some (bound ps m b d)
brick_bound ps m b p d e = bound_at ps m 0 p.bricks b b d e (omega arith)
