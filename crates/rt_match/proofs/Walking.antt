-- Bricks by module and declaration, one after another.
use Rattle.std.proofs.Common.{◌≡◌, ◌⊎◌, ◌<◌, ◌≤◌, ℕ, zero, suc, List, length, Option, Some, None, option_map, slice_get, get_or, map, ◌-◌, refl, sym, ap, ◌∙◌, subst, inl, inr, arith}
use Rattle.std.proofs.lemmas.Bool.{cases_order}
use Rattle.std.proofs.lemmas.List.{length-map}
use Rattle.std.proofs.lemmas.Option.{slice_get_within, slice_get_read, slice_get_cases, slice_get-map}
use Rattle.rt_object.specs.declared.object.Brick.{Brick}
use Rattle.rt_object.specs.declared.object.ObjectParts.{ObjectParts}
use Rattle.rt_match.specs.Matching.{Signature, System, module_of, Before, HasBrick, Never}
use Rattle.rt_match.specs.Signatures.{signature, signatures, system_of}
use Rattle.rt_match.specs.Walking.{Clear}

-- ---- numbers

pub below_or : (c b : ℕ) → c < suc b → (c < b) ⊎ (c ≡ b)
below_or c b h = by (cases_order c b)
  where
    by : (c ≡ b) ⊎ ((c < b) ⊎ (b < c)) → (c < b) ⊎ (c ≡ b)
    by (inl e) = inr e
    by (inr (inl l)) = inl l
    by (inr (inr g)) = absurd (omega arith)

pub before_step : (n c m b : ℕ) → Before n c m b → Before n c m (suc b)
before_step n c m b (inl h) = inl h
before_step n c m b (inr h) = inr (h.0, omega arith)

pub before_turn : (n c m b : ℕ) → Before n c m b → Before n c (suc m) 0
before_turn n c m b (inl h) = inl (omega arith)
before_turn n c m b (inr h) = inl (omega arith)

-- ---- bricks

pub has_at : (sys : System) (m b : ℕ) (s : Signature) (ss : List Signature) → HasBrick sys m b s → module_of sys m ≡ Some ss → slice_get ss b ≡ Some s
has_at sys m b s ss h e =
    let same : Some h.bricks ≡ Some ss = sym h.of ∙ e in
    let equal : h.bricks ≡ ss = cc in
    subst (λ (xs : List Signature). slice_get xs b ≡ Some s) equal h.at

pub has_one : (sys : System) (m b : ℕ) (s t : Signature) → HasBrick sys m b s → HasBrick sys m b t → s ≡ t
has_one sys m b s t h k =
    let a : slice_get k.bricks b ≡ Some s = has_at sys m b s k.bricks h k.of in
    let e : Some s ≡ Some t = sym a ∙ k.at in
    cc

no_module : (sys : System) (b : ℕ) (s : Signature) → HasBrick sys 0 b s → ⊥
no_module sys b s h = let e : None ≡ Some h.bricks = h.of in absurd cc

pub module_within : (sys : System) (m : ℕ) (ss : List Signature) → module_of sys m ≡ Some ss → m < suc (length sys)
module_within sys zero ss e = absurd cc
module_within sys (suc m) ss e = let h : m < length sys = slice_get_within sys m ss e in omega arith

-- ---- no case so far

module _ (sys : System) (Case : ℕ → ℕ → Signature → Type 0) (is : (m b : ℕ) (s : Signature) → Case m b s → HasBrick sys m b s) where
  pub clear_start : Clear sys Case 1 0
  clear_start zero c t h case = no_module sys c t (is zero c t case)
  clear_start (suc n) c t (inl h) case = omega arith
  clear_start (suc n) c t (inr h) case = let k : c < 0 = h.1 in omega arith

  pub clear_step : (m b : ℕ) → Clear sys Case m b → ((t : Signature) → Case m b t → ⊥) → Clear sys Case m (suc b)
  clear_step m b old here n c t (inl h) case = old n c t (inl h) case
  clear_step m b old here n c t (inr h) case = by (below_or c b h.1)
    where
      by : (c < b) ⊎ (c ≡ b) → ⊥
      by (inl l) = old n c t (inr (h.0, l)) case
      by (inr e) = here t (subst (λ (x : ℕ). Case x b t) h.0 (subst (λ (y : ℕ). Case n y t) e case))

  pub clear_turn : (m : ℕ) (ss : List Signature) → module_of sys m ≡ Some ss → Clear sys Case m (length ss) → Clear sys Case (suc m) 0
  clear_turn m ss e old n c t (inl h) case = by (below_or n m h)
    where
      by : (n < m) ⊎ (n ≡ m) → ⊥
      by (inl l) = old n c t (inl l) case
      by (inr q) =
          let h : HasBrick sys m c t = subst (λ (x : ℕ). HasBrick sys x c t) q (is n c t case) in
          let l : c < length ss = slice_get_within ss c t (has_at sys m c t ss h e) in
          old n c t (inr (q, l)) case
  clear_turn m ss e old n c t (inr h) case = let k : c < 0 = h.1 in omega arith

  -- the end of a module, at which a walk has come
  pub clear_end : (m b : ℕ) (ss : List Signature) → module_of sys m ≡ Some ss → b ≡ length ss → Clear sys Case m b → Clear sys Case (suc m) 0
  clear_end m b ss of end old = clear_turn m ss of (subst (λ (x : ℕ). Clear sys Case m x) end old)

  pub never : Clear sys Case (suc (length sys)) 0 → Never sys Case
  never clear m b s case = let h : HasBrick sys m b s = is m b s case in clear m b s (inl (module_within sys m h.bricks h.of)) case

  -- the end of the system, at which a walk has come
  pub never_at : (m : ℕ) → m ≡ length sys → Clear sys Case (suc m) 0 → Never sys Case
  never_at m end old = never (subst (λ (x : ℕ). Clear sys Case (suc x) 0) end old)

-- ---- bricks of objects

pub module_at : (objects : List ObjectParts) (at : ℕ) (o : ObjectParts) → slice_get objects at ≡ Some o → module_of (system_of objects) (suc at) ≡ Some (signatures o)
module_at objects at o e = slice_get-map signatures objects at ∙ ap (λ (x : Option ObjectParts). option_map signatures x) e

pub brick_in : (objects : List ObjectParts) (at k : ℕ) (o : ObjectParts) (b : Brick) → slice_get objects at ≡ Some o → slice_get o.bricks k ≡ Some b → HasBrick (system_of objects) (suc at) k (signature o.records b)
brick_in objects at k o b e f = record {
  bricks = signatures o;
  of = module_at objects at o e;
  at = slice_get-map (signature o.records) o.bricks k ∙ ap (λ (x : Option Brick). option_map (signature o.records) x) f;
}

-- ---- bricks as the code comes to them

module _ (objects : List ObjectParts) (at : ℕ) (o p : ObjectParts) (there : at < length objects) (is : o ≡ get_or objects at o) (parts : p ≡ o) where
  pub module_here : module_of (system_of objects) (suc at) ≡ Some (signatures p)
  module_here = module_at objects at o (slice_get_read objects (length objects) at o refl there is) ∙ ap (λ (x : ObjectParts). Some (signatures x)) (sym parts)

  module _ (bricks : List Brick) (same : bricks ≡ p.bricks) (number : ℕ) where
    pub brick_here : (x : Brick) → number < length bricks → x ≡ get_or bricks number x → HasBrick (system_of objects) (suc at) number (signature p.records x)
    brick_here x below xis =
        let e : slice_get objects at ≡ Some p = slice_get_read objects (length objects) at o refl there is ∙ ap (λ (y : ObjectParts). Some y) (sym parts) in
        let f : slice_get p.bricks number ≡ Some x = sym (ap (λ (y : List Brick). slice_get y number) same) ∙ slice_get_read bricks (length bricks) number x refl below xis in
        brick_in objects at number p x e f

    pub end_here : number ≡ length bricks → number ≡ length (signatures p)
    end_here e = e ∙ (ap length same ∙ sym (length-map p.bricks (signature p.records)))

-- an entry's brick, as the code comes to it
module _ (objects : List ObjectParts) (m b : ℕ) (s : Signature) (has : HasBrick (system_of objects) m b s) (o p : ObjectParts) (parts : p ≡ o) (bricks : List Brick) (same : bricks ≡ p.bricks) where
  entry_at : (k : ℕ) → m ≡ suc k → o ≡ get_or objects k o → (module_of (system_of objects) (suc k) ≡ Some (signatures p)) × (b < length bricks)
  entry_at k e is =
      let hk : HasBrick (system_of objects) (suc k) b s = subst (λ (y : ℕ). HasBrick (system_of objects) y b s) e has in
      let below : k < length (map signatures objects) = slice_get_within (map signatures objects) k hk.bricks hk.of in
      let there : k < length objects = rw (← length-map objects signatures) below in
      let of : module_of (system_of objects) (suc k) ≡ Some (signatures p) = module_here objects k o p there is parts in
      let at : slice_get (signatures p) b ≡ Some s = has_at (system_of objects) (suc k) b s (signatures p) hk of in
      let within : b < length (signatures p) = slice_get_within (signatures p) b s at in
      let long : length (signatures p) ≡ length bricks = length-map p.bricks (signature p.records) ∙ ap length (sym same) in
      (of, subst (λ (y : ℕ). b < y) long within)

  numbered_from : (i : ℕ) → i ≡ m → o ≡ get_or objects (i - 1) o → (k : ℕ) × (m ≡ suc k) × (o ≡ get_or objects k o)
  numbered_from i e is = by m refl
    where
      by : (n : ℕ) → m ≡ n → (k : ℕ) × (m ≡ suc k) × (o ≡ get_or objects k o)
      by zero q = absurd (no_module (system_of objects) b s (subst (λ (y : ℕ). HasBrick (system_of objects) y b s) q has))
      by (suc k) q = let f : i - 1 ≡ k = omega arith in (k, q, subst (λ (y : ℕ). o ≡ get_or objects y o) f is)

  pub entry_below : (i j : ℕ) → i ≡ m → j ≡ b → o ≡ get_or objects (i - 1) o → j < length bricks
  entry_below i j e f is = let x = numbered_from i e is in let y = entry_at x.0 x.1 x.2 in subst (λ (z : ℕ). z < length bricks) (sym f) y.1

  pub entry_here : (i j : ℕ) → i ≡ m → j ≡ b → o ≡ get_or objects (i - 1) o → (x : Brick) → x ≡ get_or bricks j x → HasBrick (system_of objects) m b (signature p.records x)
  entry_here i j e f is x xis =
      let n = numbered_from i e is in
      let y = entry_at n.0 n.1 n.2 in
      let xb : x ≡ get_or bricks b x = subst (λ (z : ℕ). x ≡ get_or bricks z x) f xis in
      let at : slice_get p.bricks b ≡ Some x = sym (ap (λ (z : List Brick). slice_get z b) same) ∙ slice_get_read bricks (length bricks) b x refl y.1 xb in
      let has_k : HasBrick (system_of objects) (suc n.0) b (signature p.records x) = record {
        bricks = signatures p;
        of = y.0;
        at = slice_get-map (signature p.records) p.bricks b ∙ ap (λ (z : Option Brick). option_map (signature p.records) z) at;
      } in
      subst (λ (z : ℕ). HasBrick (system_of objects) z b (signature p.records x)) (sym n.1) has_k

pub some_one : {A : Type 0} (x y : A) → Some x ≡ Some y → x ≡ y
some_one x y e = cc

pub module_there : (objects : List ObjectParts) (at : ℕ) → at < length objects → (ss : List Signature) × (slice_get (system_of objects) at ≡ Some ss)
module_there objects at below =
    let x = slice_get_cases objects at in
    by x.1
  where
    by : ((o : ObjectParts) × (at < length objects) × (slice_get objects at ≡ Some o) × (get_or objects at o ≡ o)) ⊎ ((length objects ≤ at) × (slice_get objects at ≡ None)) → (ss : List Signature) × (slice_get (system_of objects) at ≡ Some ss)
    by (inl y) = (signatures y.0, module_at objects at y.0 y.2)
    by (inr y) = absurd (omega arith)
