-- For what bricks ask, by the map of names.
use Rattle.std.proofs.Common.{◌≡◌, ◌⊎◌, ◌<◌, ℕ, suc, Bool, true, false, not, is_some, ◌&&◌, List, [], ◌∷◌, ◌++◌, length, take, Option, Some, None, option_map, slice_get, MatchOption, Result, Ok, Err, IfOk, refl, sym, ap, ◌∙◌, subst, inl, inr}
use Rattle.std.proofs.Math.Seq.{take-suc, take-length}
use Rattle.std.proofs.lemmas.Bool.{cases_order}
use Rattle.std.proofs.lemmas.Option.{slice_get_within, get_or_from_slice_get}
use Rattle.rt_modes.specs.declared.mode.ModeTable.{ModeTable}
use Rattle.rt_object.specs.declared.object.Brick.{Brick}
use Rattle.rt_object.specs.declared.object.BrickKind.{BrickKind}
use Rattle.rt_object.specs.declared.object.BrickKind.TheVariants as kind
use Rattle.rt_modes.specs.Bricks.{SuppliedBrick, brick_numbered, is_of, number_of, name_of, text_of, supplied_by}
use Rattle.rt_modes.specs.declared.supplied.Supplied.{Supplied}
use Rattle.rt_modes.proofs.Named.{of_their_names, are_numbered, numbers_agree}
use Rattle.rt_match.specs.declared.bindings.Bound.{Bound}
use Rattle.rt_match.specs.declared.bindings.Bound.TheVariants as bound
use Rattle.rt_match.specs.declared.entries.Entry.{Entry}
use Rattle.rt_match.specs.Matching as matching
use Rattle.rt_match.specs.Matching.{Kind, Signature, System, module_of, AreAlike, supplied_signature, IsSupplied, HasBrick, IsEntry, AsksFor, AsksInVain, Duplicates, Lacks, DiffersFrom, Differs, IsUnsupplied, Never, IsBound, Correspond}
use Rattle.rt_match.specs.Signatures.{signature, whose}
use Rattle.rt_match.specs.Walking.{Names, entry_in, Known, is_ext, is_missing, bound_by, binding, Compared, IsNoted, IsAlike, IsUnlike, supplied_as}
use Rattle.rt_match.proofs.Whose.{ext_whose, ext_is}
use Rattle.rt_match.proofs.Walking.{has_one, module_within}

-- ---- what is supplied

pub supplied_is : (p : Supplied) → IsSupplied (number_of p) (supplied_as p)
supplied_is p = ap (λ (x : Option SuppliedBrick). option_map (supplied_signature (number_of p)) x) (numbers_agree p).0

-- what is supplied has a brick
pub supplied_from : (k : ℕ) (e : Signature) → IsSupplied k e → (p : Supplied) × (supplied_by e.name ≡ Some p) × (k ≡ number_of p) × (e ≡ supplied_as p)
supplied_from k e h = by (brick_numbered k) refl h
  where
    by : (o : Option SuppliedBrick) → brick_numbered k ≡ o → option_map (supplied_signature k) o ≡ Some e → (p : Supplied) × (supplied_by e.name ≡ Some p) × (k ≡ number_of p) × (e ≡ supplied_as p)
    by None q f = absurd cc
    by (Some b) q f =
        let es : supplied_signature k b ≡ e = cc in
        let n = are_numbered k b q in
        let p : Supplied = n.0 in
        let name : supplied_by e.name ≡ Some p = ap (λ (x : Signature). supplied_by x.name) (sym es) ∙ n.1 in
        let number : k ≡ number_of p = sym n.2 in
        let from_b : supplied_signature k b ≡ supplied_signature k (is_of (name_of p) (text_of p)) = ap (λ (x : SuppliedBrick). supplied_signature k x) (sym n.3) in
        let from_k : supplied_signature k (is_of (name_of p) (text_of p)) ≡ supplied_as p = ap (λ (x : ℕ). supplied_signature x (is_of (name_of p) (text_of p))) number in
        (p, name, number, sym es ∙ (from_b ∙ from_k))

pub supplied_one : (k : ℕ) (e : Signature) (p : Supplied) → IsSupplied k e → supplied_by e.name ≡ Some p → (k ≡ number_of p) × (e ≡ supplied_as p)
supplied_one k e p h f =
    let x = supplied_from k e h in
    let q : Supplied = x.0 in
    let some : Some q ≡ Some p = sym x.1 ∙ f in
    let same : q ≡ p = cc in
    (x.2 ∙ ap number_of same, x.3 ∙ ap supplied_as same)

supplied_none : (k : ℕ) (e : Signature) → IsSupplied k e → supplied_by e.name ≡ None → ⊥
supplied_none k e h f = let x = supplied_from k e h in let q : Supplied = x.0 in let g : Some q ≡ None = sym x.1 ∙ f in absurd cc

-- ---- entries

pub before_or : (n c m b : ℕ) → matching.Before n c m b ⊎ (((n ≡ m) × (c ≡ b)) ⊎ matching.Before m b n c)
before_or n c m b = by (cases_order n m) (cases_order c b)
  where
    by : (n ≡ m) ⊎ ((n < m) ⊎ (m < n)) → (c ≡ b) ⊎ ((c < b) ⊎ (b < c)) → matching.Before n c m b ⊎ (((n ≡ m) × (c ≡ b)) ⊎ matching.Before m b n c)
    by (inr (inl l)) k = inl (inl l)
    by (inr (inr g)) k = inr (inr (inl g))
    by (inl e) (inl f) = inr (inl (e, f))
    by (inl e) (inr (inl l)) = inl (inr (e, l))
    by (inl e) (inr (inr g)) = inr (inr (inr (sym e, g)))

-- two ENT bricks of one name are one, where no two have one
pub same_entry : (sys : System) (n c m b : ℕ) (e f : Signature) → Never sys (Duplicates sys) → IsEntry sys n c e → IsEntry sys m b f → e.name ≡ f.name → (n ≡ m) × (c ≡ b) × (e ≡ f)
same_entry sys n c m b e f one he hf named = by (before_or n c m b)
  where
    by : matching.Before n c m b ⊎ (((n ≡ m) × (c ≡ b)) ⊎ matching.Before m b n c) → (n ≡ m) × (c ≡ b) × (e ≡ f)
    by (inl l) = absurd (one m b f (record { second = hf; earlier = (n, c, e, he, l, named) }))
    by (inr (inr g)) = absurd (one n c e (record { second = he; earlier = (m, b, f, hf, g, sym named) }))
    by (inr (inl q)) =
        let moved : HasBrick sys m b e = subst (λ (x : ℕ). HasBrick sys x b e) q.0 (subst (λ (y : ℕ). HasBrick sys n y e) q.1 he.is) in
        (q.0, q.1, has_one sys m b e f moved hf.is)

-- no two ENT bricks have one name, where all are known
pub known_once : (sys : System) (map : Names) → Known sys map → Never sys (Duplicates sys)
known_once sys map h m b s d = h.clear m b s (inl (module_within sys m d.second.is.bricks d.second.is.of)) d

-- an ENT brick whose name the map lacks
unknown : (sys : System) (map : Names) → Known sys map → (name : List ℕ) → entry_in map name ≡ None → (n c : ℕ) (e : Signature) → IsEntry sys n c e → e.name ≡ name → ⊥
unknown sys map h name none n c e is named = h.none name none n c e (inl (module_within sys n is.is.bricks is.is.of)) (is, named)

-- ---- kinds

-- only EXT and SVC bricks ask
pub asks_not : (sys : System) (s e : Signature) (to : Bound) (k : Kind) → s.kind ≡ k → (k ≡ matching.Ext → ⊥) → (k ≡ matching.Svc → ⊥) → AsksFor sys s e to → ⊥
asks_not sys s e to k q not_ext not_svc (matching.entry ext is named) = not_ext (sym q ∙ ext)
asks_not sys s e to k q not_ext not_svc (matching.supplied svc is named) = not_svc (sym q ∙ svc)

-- ---- alike or not

module _ (sys : System) (s : Signature) where
  pub alike_own : s.kind ≡ matching.Own → IsAlike sys s
  alike_own q e to asks = absurd (asks_not sys s e to matching.Own q (λ h. absurd cc) (λ h. absurd cc) asks)

  pub alike_ent : s.kind ≡ matching.Ent → IsAlike sys s
  alike_ent q e to asks = absurd (asks_not sys s e to matching.Ent q (λ h. absurd cc) (λ h. absurd cc) asks)

  pub alike_nowhere : (map : Names) → Known sys map → s.kind ≡ matching.Ext → entry_in map s.name ≡ None → IsAlike sys s
  alike_nowhere map known q none e _ (matching.entry {n} {c} ext is named) = absurd (unknown sys map known s.name none n c e is named)
  alike_nowhere map known q none e _ (matching.supplied svc is named) = let bad : matching.Ext ≡ matching.Svc = sym q ∙ svc in absurd cc

  pub alike_unsupplied : s.kind ≡ matching.Svc → supplied_by s.name ≡ None → IsAlike sys s
  alike_unsupplied q none e _ (matching.entry ext is named) = let bad : matching.Svc ≡ matching.Ext = sym q ∙ ext in absurd cc
  alike_unsupplied q none e _ (matching.supplied {k} svc is named) = absurd (supplied_none k e is (ap supplied_by named ∙ none))

  -- compared with the one brick for which it asks
  by_one : (e : Signature) (to : Bound) → AsksFor sys s e to → ((f : Signature) (other : Bound) → AsksFor sys s f other → e ≡ f) → (r : Option (List ℕ)) → Compared s e r → MatchOption r (IsAlike sys s) (IsUnlike sys s)
  by_one e to asks one None h = λ f other g. subst (λ (x : Signature). AreAlike s x) (one f other g) h
  by_one e to asks one (Some text) h = record { other = e; to = to; asks = asks; differ = h.0; its = h.1 }

  pub alike_entry : (map : Names) → Known sys map → s.kind ≡ matching.Ext → (f : Entry) → entry_in map s.name ≡ Some f → (e : Signature) → HasBrick sys f.module f.brick e
      → (r : Option (List ℕ)) → Compared s e r → MatchOption r (IsAlike sys s) (IsUnlike sys s)
  alike_entry map known q f some e has = by_one e (bound.Brick f.module f.brick) (matching.entry q is named) one
    where
      noted : IsNoted sys f s.name (suc (length sys)) 0
      noted = known.found s.name f some

      same : noted.signature ≡ e
      same = has_one sys f.module f.brick noted.signature e noted.is.is has

      is : IsEntry sys f.module f.brick e
      is = subst (λ (x : Signature). IsEntry sys f.module f.brick x) same noted.is

      named : e.name ≡ s.name
      named = ap (λ (x : Signature). x.name) (sym same) ∙ noted.named

      one : (g : Signature) (other : Bound) → AsksFor sys s g other → e ≡ g
      one g _ (matching.entry {n} {c} ext isg namedg) = (same_entry sys f.module f.brick n c e g (known_once sys map known) is isg (named ∙ sym namedg)).2
      one g _ (matching.supplied svc isg namedg) = let bad : matching.Ext ≡ matching.Svc = sym q ∙ svc in absurd cc

  pub alike_supplied : s.kind ≡ matching.Svc → (p : Supplied) → supplied_by s.name ≡ Some p → (r : Option (List ℕ)) → Compared s (supplied_as p) r → MatchOption r (IsAlike sys s) (IsUnlike sys s)
  alike_supplied q p some = by_one (supplied_as p) (bound.Supplied (number_of p)) (matching.supplied q (supplied_is p) (of_their_names s.name p some)) one
    where
      one : (g : Signature) (other : Bound) → AsksFor sys s g other → supplied_as p ≡ g
      one g _ (matching.entry ext isg namedg) = let bad : matching.Svc ≡ matching.Ext = sym q ∙ ext in absurd cc
      one g _ (matching.supplied {k} svc isg namedg) = sym (supplied_one k g p isg (ap supplied_by namedg ∙ some)).1

-- ---- bricks of objects

module _ (sys : System) (map : Names) (known : Known sys map) (m b : ℕ) (t : ModeTable) (x : Brick) (has : HasBrick sys m b (signature t x)) where
  pub lacks_here : is_missing map x ≡ true → Lacks sys m b (signature t x)
  lacks_here h = by (is_ext x.kind) refl (entry_in map x.name) refl h
    where
      by : (q : Bool) → is_ext x.kind ≡ q → (o : Option Entry) → entry_in map x.name ≡ o → (q && not (is_some o)) ≡ true → Lacks sys m b (signature t x)
      by false q o e f = absurd cc
      by true q (Some y) e f = absurd cc
      by true q None e f = record { is = has; kind = ext_whose x.kind q; in_vain = vain }
        where
          vain : AsksInVain sys (signature t x)
          vain y _ (matching.entry {n} {c} ext is named) = unknown sys map known x.name e n c y is named
          vain y _ (matching.supplied svc is named) = let bad : matching.Ext ≡ matching.Svc = sym (ext_whose x.kind q) ∙ svc in absurd cc

  pub lacks_not : is_missing map x ≡ false → (s : Signature) → Lacks sys m b s → ⊥
  lacks_not h s lacks = by (entry_in map x.name) refl
    where
      same : s ≡ signature t x
      same = has_one sys m b s (signature t x) lacks.is has

      ext : whose x.kind ≡ matching.Ext
      ext = ap (λ (y : Signature). y.kind) (sym same) ∙ lacks.kind

      vain : AsksInVain sys (signature t x)
      vain = subst (λ (y : Signature). AsksInVain sys y) same lacks.in_vain

      by : (o : Option Entry) → entry_in map x.name ≡ o → ⊥
      by None e =
          let a : is_missing map x ≡ (true && not (is_some (entry_in map x.name))) = ap (λ (q : Bool). q && not (is_some (entry_in map x.name))) (ext_is x.kind ext) in
          let c : (true && not (is_some (entry_in map x.name))) ≡ true = ap (λ (o : Option Entry). true && not (is_some o)) e in
          let bad : false ≡ true = sym h ∙ (a ∙ c) in
          absurd cc
      by (Some f) e = let noted = known.found x.name f e in vain noted.signature (bound.Brick f.module f.brick) (matching.entry ext noted.is noted.named)

  pub bound_is : (to : Bound) → binding map x ≡ Some to → IsBound sys (signature t x) to
  bound_is to h = by x.kind refl h
    where
      named_in : (o : Option Entry) → entry_in map x.name ≡ o → whose x.kind ≡ matching.Ext → option_map (λ f. bound.Brick f.module f.brick) o ≡ Some to → IsBound sys (signature t x) to
      named_in None e ext f = absurd cc
      named_in (Some y) e ext f =
          let noted = known.found x.name y e in
          let equal : bound.Brick y.module y.brick ≡ to = cc in
          subst (λ (z : Bound). IsBound sys (signature t x) z) equal (matching.asks (matching.entry ext noted.is noted.named))

      supplied_in : (o : Option Supplied) → supplied_by x.name ≡ o → whose x.kind ≡ matching.Svc → option_map (λ p. bound.Supplied (number_of p)) o ≡ Some to → IsBound sys (signature t x) to
      supplied_in None e svc f = absurd cc
      supplied_in (Some p) e svc f =
          let equal : bound.Supplied (number_of p) ≡ to = cc in
          subst (λ (z : Bound). IsBound sys (signature t x) z) equal (matching.asks (matching.supplied svc (supplied_is p) (of_their_names x.name p e)))

      by : (k : BrickKind) → x.kind ≡ k → bound_by k map x.name ≡ Some to → IsBound sys (signature t x) to
      by (kind.Own c) q f = let equal : bound.Own ≡ to = cc in subst (λ (z : Bound). IsBound sys (signature t x) z) equal (matching.own (ap whose q))
      by (kind.Ent c) q f = let equal : bound.Own ≡ to = cc in subst (λ (z : Bound). IsBound sys (signature t x) z) equal (matching.ent (ap whose q))
      by (kind.Ext e) q f = named_in (entry_in map x.name) refl (ap whose q) f
      by (kind.Svc s) q f = supplied_in (supplied_by x.name) refl (ap whose q) f

  pub unsupplied_here : Never sys (Lacks sys) → binding map x ≡ None → IsUnsupplied sys m b (signature t x)
  unsupplied_here none_lacks h = by x.kind refl h
    where
      nowhere : (o : Option Entry) → entry_in map x.name ≡ o → is_ext x.kind ≡ true → option_map (λ f. bound.Brick f.module f.brick) o ≡ None → IsUnsupplied sys m b (signature t x)
      nowhere (Some y) e ext f = absurd cc
      nowhere None e ext f =
          let a : is_missing map x ≡ (true && not (is_some (entry_in map x.name))) = ap (λ (q : Bool). q && not (is_some (entry_in map x.name))) ext in
          let c : (true && not (is_some (entry_in map x.name))) ≡ true = ap (λ (o : Option Entry). true && not (is_some o)) e in
          absurd (none_lacks m b (signature t x) (lacks_here (a ∙ c)))

      unnamed : (o : Option Supplied) → supplied_by x.name ≡ o → whose x.kind ≡ matching.Svc → option_map (λ p. bound.Supplied (number_of p)) o ≡ None → IsUnsupplied sys m b (signature t x)
      unnamed (Some p) e svc f = absurd cc
      unnamed None e svc f = record { is = has; kind = svc; in_vain = vain }
        where
          vain : AsksInVain sys (signature t x)
          vain y _ (matching.entry ext is named) = let bad : matching.Svc ≡ matching.Ext = sym svc ∙ ext in absurd cc
          vain y _ (matching.supplied {k} svc2 is named) = supplied_none k y is (ap supplied_by named ∙ e)

      by : (k : BrickKind) → x.kind ≡ k → bound_by k map x.name ≡ None → IsUnsupplied sys m b (signature t x)
      by (kind.Own c) q f = absurd cc
      by (kind.Ent c) q f = absurd cc
      by (kind.Ext e) q f = nowhere (entry_in map x.name) refl (ap is_ext q) f
      by (kind.Svc s) q f = unnamed (supplied_by x.name) refl (ap whose q) f

  pub unsupplied_not : (to : Bound) → binding map x ≡ Some to → (s : Signature) → IsUnsupplied sys m b s → ⊥
  unsupplied_not to h s un = by to (bound_is to h)
    where
      same : s ≡ signature t x
      same = has_one sys m b s (signature t x) un.is has

      svc : whose x.kind ≡ matching.Svc
      svc = ap (λ (y : Signature). y.kind) (sym same) ∙ un.kind

      vain : AsksInVain sys (signature t x)
      vain = subst (λ (y : Signature). AsksInVain sys y) same un.in_vain

      by : (z : Bound) → IsBound sys (signature t x) z → ⊥
      by _ (matching.own q) = let bad : matching.Own ≡ matching.Svc = sym q ∙ svc in absurd cc
      by _ (matching.ent q) = let bad : matching.Ent ≡ matching.Svc = sym q ∙ svc in absurd cc
      by z (matching.asks {e} a) = vain e z a

-- ---- lists that correspond

pub correspond_push : {A B : Type 0} (R : A → B → Type 0) (xs : List A) (ys : List B) (x : A) (y : B) → Correspond R xs ys → R x y → Correspond R (xs ++ x ∷ []) (ys ++ y ∷ [])
correspond_push R _ _ x y matching.none r = matching.one r matching.none
correspond_push R _ _ x y (matching.one {xs} {ys} q rest) r = matching.one q (correspond_push R xs ys x y rest r)

-- the list up to a place, and one more
pub correspond_more : {A B : Type 0} (R : A → B → Type 0) (xs : List A) (k : ℕ) (ys : List B) (x : A) (y : B) → slice_get xs k ≡ Some x → Correspond R (take k xs) ys → R x y → Correspond R (take (suc k) xs) (ys ++ y ∷ [])
correspond_more R xs k ys x y e h r =
    let more : take (suc k) xs ≡ take k xs ++ x ∷ [] = take-suc xs k x (slice_get_within xs k x e) ∙ ap (λ z. take k xs ++ z ∷ []) (get_or_from_slice_get xs k x x e) in
    rw more (correspond_push R (take k xs) ys x y h r)

pub correspond_all : {A B : Type 0} (R : A → B → Type 0) (xs : List A) (k : ℕ) (ys : List B) → k ≡ length xs → Correspond R (take k xs) ys → Correspond R xs ys
correspond_all R xs k ys e h = subst (λ zs. Correspond R zs ys) (ap (λ n. take n xs) e ∙ take-length xs) h

-- ---- answers that may want memory

pub ok_map : {A E : Type 0} (P Q : A → Type 0) (r : Result A E) → ((x : A) → P x → Q x) → IfOk r P → IfOk r Q
ok_map P Q (Ok x) f h = f x h
ok_map P Q (Err e) f h = tt

-- ---- the bricks of cases

pub lacks_is : (sys : System) (m b : ℕ) (s : Signature) → Lacks sys m b s → HasBrick sys m b s
lacks_is sys m b s h = h.is

pub differs_is : (sys : System) (m b : ℕ) (s : Signature) → Differs sys m b s → HasBrick sys m b s
differs_is sys m b s h = h.1.is

pub unsupplied_is : (sys : System) (m b : ℕ) (s : Signature) → IsUnsupplied sys m b s → HasBrick sys m b s
unsupplied_is sys m b s h = h.is

-- a brick that is unlike what it asks for is a case, and one that is like all that it asks for is none
pub unlike_here : (sys : System) (m b : ℕ) (s : Signature) (text : List ℕ) → HasBrick sys m b s → IsUnlike sys s text → (e : Signature) × DiffersFrom sys m b s e × (text ≡ e.mode)
unlike_here sys m b s text has u = (u.other, record { is = has; to = u.to; asks = u.asks; differ = u.differ }, u.its)

pub alike_not : (sys : System) (m b : ℕ) (s : Signature) → HasBrick sys m b s → IsAlike sys s → (t : Signature) → Differs sys m b t → ⊥
alike_not sys m b s has like t d =
    let same : s ≡ t = has_one sys m b s t has d.1.is in
    d.1.differ (subst (λ (x : Signature). AreAlike x d.0) same (like d.0 d.1.to (subst (λ (x : Signature). AsksFor sys x d.0 d.1.to) (sym same) d.1.asks)))
