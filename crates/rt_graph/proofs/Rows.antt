-- The row of a system: where each brick stands.
use Rattle.std.proofs.Common.{◌≡◌, ℕ, zero, suc, ◌+◌, ◌-◌, ◌<◌, ◌≤◌, ◌⊎◌, inl, inr, List, [], ◌∷◌, ◌++◌, length, replicate, Some, slice_get, refl, sym, ap, ◌∙◌, subst, arith}
use Rattle.rt_tree_nodes.specs.declared.store.Proc.{Proc}
use Rattle.rt_object.specs.declared.object.ObjectParts.{ObjectParts}
use Rattle.rt_digraph.proofs.Lists.{no_element, some_is, get_left}
use Rattle.rt_graph.specs.Calls.{brick}
use Rattle.rt_graph.specs.Numbers.{bricks_from, modules_from, all_bricks, before, place_in, place}
use Rattle.rt_graph.specs.Reach.{Earlier}

-- ---- joined lists

module _ {A : Type 0} where
  pub get_behind : (xs ys : List A) (i : ℕ) → slice_get (xs ++ ys) (length xs + i) ≡ slice_get ys i
  get_behind [] ys i = ap (slice_get ys) (let e : 0 + i ≡ i = omega arith in e)
  get_behind (x ∷ xs) ys i = ap (slice_get (x ∷ xs ++ ys)) (let e : suc (length xs) + i ≡ suc (length xs + i) = omega arith in e) ∙ get_behind xs ys i

  pub get_joined : (xs ys : List A) (n : ℕ) (a : A) → slice_get (xs ++ ys) n ≡ Some a → ((n < length xs) × (slice_get xs n ≡ Some a)) ⊎ ((i : ℕ) × (n ≡ length xs + i) × (slice_get ys i ≡ Some a))
  get_joined [] ys n a e = inr (n, omega arith, e)
  get_joined (x ∷ xs) ys zero a e = inl (omega arith, e)
  get_joined (x ∷ xs) ys (suc n) a e = elim (get_joined xs ys n a e) [
    | inl h ↦ inl ((let l = h.0 in omega arith), h.1)
    | inr h ↦ inr (h.0, (let l = h.1 in omega arith), h.2)
  ]

  pub replicate_more : (x : A) (n i : ℕ) → i < n → replicate (n - i) x ≡ x ∷ replicate (n - (i + 1)) x
  replicate_more x n i h = ap (λ (k : ℕ). replicate k x) (let e : n - i ≡ suc (n - (i + 1)) = omega arith in e)

pub bricks_more : (m n b : ℕ) → b < n → bricks_from m b (n - b) ≡ brick m b ∷ bricks_from m (b + 1) (n - (b + 1))
bricks_more m n b h =
    ap (bricks_from m b) (let e : n - b ≡ suc (n - (b + 1)) = omega arith in e)
    ∙ ap (λ (k : ℕ). brick m b ∷ bricks_from m k (n - (b + 1))) (let e : suc b ≡ b + 1 = omega arith in e)

-- ---- the bricks before a module

pub before_none : (objects : List ObjectParts) → before objects 0 ≡ 0
before_none [] = refl
before_none (o ∷ os) = refl

pub before_more : (objects : List ObjectParts) (m : ℕ) (o : ObjectParts) → slice_get objects m ≡ Some o → before objects (m + 1) ≡ before objects m + length o.bricks
before_more objects m o e = subst (λ (k : ℕ). before objects k ≡ before objects m + length o.bricks) (let f : suc m ≡ m + 1 = omega arith in f) (by objects m e)
  where
    by : (os : List ObjectParts) (k : ℕ) → slice_get os k ≡ Some o → before os (suc k) ≡ before os k + length o.bricks
    by [] k f = absurd (no_element k o f)
    by (x ∷ []) zero f = (let same : x ≡ o = some_is x o f in ap (λ (y : ObjectParts). length y.bricks + 0) same ∙ (let g : length o.bricks + 0 ≡ 0 + length o.bricks = omega arith in g))
    by (x ∷ y ∷ os) zero f = (let same : x ≡ o = some_is x o f in ap (λ (z : ObjectParts). length z.bricks + 0) same ∙ (let g : length o.bricks + 0 ≡ 0 + length o.bricks = omega arith in g))
    by (x ∷ os) (suc k) f = (let h : before os (suc k) ≡ before os k + length o.bricks = by os k f in omega arith)

-- a list with one more, and what is left without it
pub moved : {A : Type 0} (xs new ys zs ws : List A) (x : A) → new ≡ xs ++ x ∷ [] → ys ≡ x ∷ zs → xs ++ ys ≡ ws → new ++ zs ≡ ws
moved {A = A} xs new ys zs ws x e f g = ap (λ (l : List A). l ++ zs) e ∙ one xs ∙ ap (λ (l : List A). xs ++ l) (sym f) ∙ g
  where
    one : (l : List A) → (l ++ x ∷ []) ++ zs ≡ l ++ (x ∷ zs)
    one [] = refl
    one (y ∷ l) = ap (λ (m : List A). y ∷ m) (one l)

-- ---- bricks of one module

long_bricks : (m b n : ℕ) → length (bricks_from m b n) ≡ n
long_bricks m b zero = refl
long_bricks m b (suc n) = ap suc (long_bricks m (suc b) n)

get_bricks : (m b n i : ℕ) (f : Proc) → slice_get (bricks_from m b n) i ≡ Some f → (i < n) × (f.«module» ≡ m) × (f.brick ≡ b + i)
get_bricks m b zero i f e = absurd (no_element i f e)
get_bricks m b (suc n) zero f e = let same : brick m b ≡ f = some_is (brick m b) f e in (omega arith, ap (λ (g : Proc). g.«module») (sym same), ap (λ (g : Proc). g.brick) (sym same) ∙ (let z : b ≡ b + 0 = omega arith in z))
get_bricks m b (suc n) (suc i) f e = let h = get_bricks m (suc b) n i f e in ((let l = h.0 in omega arith), h.1, h.2 ∙ (let z : suc b + i ≡ b + suc i = omega arith in z))

bricks_get : (m b n i : ℕ) → i < n → slice_get (bricks_from m b n) i ≡ Some (brick m (b + i))
bricks_get m b zero i h = absurd (omega arith)
bricks_get m b (suc n) zero h = ap (λ (k : ℕ). Some (brick m k)) (let z : b ≡ b + 0 = omega arith in z)
bricks_get m b (suc n) (suc i) h = bricks_get m (suc b) n i (omega arith) ∙ ap (λ (k : ℕ). Some (brick m k)) (let z : suc b + i ≡ b + suc i = omega arith in z)

-- ---- bricks of modules

-- f stands at n among the bricks of modules, of which the first has number k
record IsIn (k : ℕ) (os : List ObjectParts) (n : ℕ) (f : Proc) : Type 0 where
  number : ℕ
  object : ObjectParts
  at : slice_get os number ≡ Some object
  of : f.«module» ≡ k + number
  there : f.brick < length object.bricks
  stands : n ≡ before os number + f.brick

get_modules : (k : ℕ) (os : List ObjectParts) (n : ℕ) (f : Proc) → slice_get (modules_from k os) n ≡ Some f → IsIn k os n f
get_modules k [] n f e = absurd (no_element n f e)
get_modules k (o ∷ os) n f e = elim (get_joined (bricks_from k 0 (length o.bricks)) (modules_from (suc k) os) n f e) [
  | inl h ↦ (let g = get_bricks k 0 (length o.bricks) n f h.1 in record {
    number = 0;
    object = o;
    at = refl;
    of = g.1 ∙ (let z : k ≡ k + 0 = omega arith in z);
    there = (let a = g.0 in let b = g.2 in omega arith);
    stands = (let b : f.brick ≡ 0 + n = g.2 in omega arith);
  })
  | inr h ↦ (let g = get_modules (suc k) os h.0 f h.2 in record {
    number = suc g.number;
    object = g.object;
    at = g.at;
    of = g.of ∙ (let z : suc k + g.number ≡ k + suc g.number = omega arith in z);
    there = g.there;
    stands = (let a = h.1 in let l = long_bricks k 0 (length o.bricks) in let b : h.0 ≡ before os g.number + f.brick = g.stands in omega arith);
  })
]

modules_get : (k : ℕ) (os : List ObjectParts) (m : ℕ) (o : ObjectParts) (b : ℕ) → slice_get os m ≡ Some o → b < length o.bricks → slice_get (modules_from k os) (before os m + b) ≡ Some (brick (k + m) b)
modules_get k [] m o b e h = absurd (no_element m o e)
modules_get k (x ∷ os) zero o b e h =
    let same : x ≡ o = some_is x o e in
    let long : length x.bricks ≡ length o.bricks = ap (λ (y : ObjectParts). length y.bricks) same in
    get_left (bricks_from k 0 (length x.bricks)) (modules_from (suc k) os) (0 + b) (brick (k + 0) b)
    (bricks_get k 0 (length x.bricks) (0 + b) (omega arith) ∙ ap (λ (i : ℕ). Some (brick i (0 + (0 + b)))) (let z : k ≡ k + 0 = omega arith in z) ∙ ap (λ (i : ℕ). Some (brick (k + 0) i)) (let w : 0 + (0 + b) ≡ b = omega arith in w))
modules_get k (x ∷ os) (suc m) o b e h =
    let long = long_bricks k 0 (length x.bricks) in
    ap (slice_get (bricks_from k 0 (length x.bricks) ++ modules_from (suc k) os)) (let z : length x.bricks + before os m + b ≡ length (bricks_from k 0 (length x.bricks)) + (before os m + b) = omega arith in z)
    ∙ get_behind (bricks_from k 0 (length x.bricks)) (modules_from (suc k) os) (before os m + b)
    ∙ modules_get (suc k) os m o b e h
    ∙ ap (λ (j : ℕ). Some (brick j b)) (let z : suc k + m ≡ k + suc m = omega arith in z)

-- the bricks of a module stand before those of a later one
before_below : (os : List ObjectParts) (m n : ℕ) (o : ObjectParts) → slice_get os m ≡ Some o → m < n → before os m + length o.bricks ≤ before os n
before_below [] m n o e h = absurd (no_element m o e)
before_below (x ∷ os) zero zero o e h = absurd (omega arith)
before_below (x ∷ os) zero (suc n) o e h = let long : length x.bricks ≡ length o.bricks = ap (λ (y : ObjectParts). length y.bricks) (some_is x o e) in omega arith
before_below (x ∷ os) (suc m) zero o e h = absurd (omega arith)
before_below (x ∷ os) (suc m) (suc n) o e h = let g = before_below os m n o e (omega arith) in omega arith

-- ---- the row

-- f stands at n in the row
pub data IsAt (objects : List ObjectParts) (n : ℕ) (f : Proc) : Type 0 where
  supplied : f.«module» ≡ 0 → f.brick ≡ n → n < 11 → IsAt objects n f
  of_module : (m : ℕ) (o : ObjectParts) → slice_get objects m ≡ Some o → f.«module» ≡ suc m → f.brick < length o.bricks → n ≡ 11 + before objects m + f.brick → IsAt objects n f

pub order_or : (m n : ℕ) → (m ≡ n) ⊎ ((m < n) ⊎ (n < m))
order_or zero zero = inl refl
order_or zero (suc n) = inr (inl (omega arith))
order_or (suc m) zero = inr (inr (omega arith))
order_or (suc m) (suc n) = elim (order_or m n) [ inl e ↦ inl (ap suc e) | inr h ↦ elim h [ inl l ↦ inr (inl (omega arith)) | inr l ↦ inr (inr (omega arith)) ] ]

pub not_both : (f g : Proc) → Earlier f g → Earlier g f → ⊥
not_both f g (inl a) (inl b) = omega arith
not_both f g (inl a) (inr b) = let m = b.0 in omega arith
not_both f g (inr a) (inl b) = let m = a.0 in omega arith
not_both f g (inr a) (inr b) = let m = a.1 in let n = b.1 in omega arith

module _ (objects : List ObjectParts) where
  pub at_row : (n : ℕ) (f : Proc) → slice_get (all_bricks objects) n ≡ Some f → IsAt objects n f
  at_row n f e = elim (get_joined (bricks_from 0 0 11) (modules_from 1 objects) n f e) [
    | inl h ↦ (let g = get_bricks 0 0 11 n f h.1 in supplied g.1 (g.2 ∙ (let z : 0 + n ≡ n = omega arith in z)) g.0)
    | inr h ↦ (let g = get_modules 1 objects h.0 f h.2 in of_module g.number g.object g.at (g.of ∙ (let z : 1 + g.number ≡ suc g.number = omega arith in z)) g.there (let a = h.1 in let l = long_bricks 0 0 11 in let b : h.0 ≡ before objects g.number + f.brick = g.stands in omega arith))
  ]

  pub row_at : (n : ℕ) (f : Proc) → IsAt objects n f → slice_get (all_bricks objects) n ≡ Some f
  row_at n f (supplied m b l) =
      get_left (bricks_from 0 0 11) (modules_from 1 objects) n f
      (bricks_get 0 0 11 n l ∙ ap (λ (i : ℕ). Some (brick i (0 + n))) (sym m) ∙ ap (λ (i : ℕ). Some (brick f.«module» i)) (let z : 0 + n ≡ f.brick = omega arith in z))
  row_at n f (of_module m o e of there stands) =
      let l = long_bricks 0 0 11 in
      ap (slice_get (all_bricks objects)) (let z : n ≡ length (bricks_from 0 0 11) + (before objects m + f.brick) = omega arith in z)
      ∙ get_behind (bricks_from 0 0 11) (modules_from 1 objects) (before objects m + f.brick)
      ∙ modules_get 1 objects m o f.brick e there
      ∙ ap (λ (j : ℕ). Some (brick j f.brick)) (let z : 1 + m ≡ f.«module» = omega arith in z)

  same_object : (m n : ℕ) (o p : ObjectParts) → m ≡ n → slice_get objects m ≡ Some o → slice_get objects n ≡ Some p → length o.bricks ≡ length p.bricks
  same_object m n o p e f g = ap (λ (y : ObjectParts). length y.bricks) (some_is o p (sym f ∙ subst (λ (k : ℕ). slice_get objects k ≡ Some p) (sym e) g))

  pub place_at : (n : ℕ) (f : Proc) → IsAt objects n f → place objects f ≡ n
  place_at n f (supplied m b l) = subst (λ (k : ℕ). place_in objects k f.brick ≡ n) (sym m) b
  place_at n f (of_module m o e of there stands) = subst (λ (k : ℕ). place_in objects k f.brick ≡ n) (sym of) (sym stands)

  pub single_at : (x y : ℕ) (f : Proc) → slice_get (all_bricks objects) x ≡ Some f → slice_get (all_bricks objects) y ≡ Some f → x ≡ y
  single_at x y f e g = sym (place_at x f (at_row x f e)) ∙ place_at y f (at_row y f g)

  rises : (x y : ℕ) (f g : Proc) → IsAt objects x f → IsAt objects y g → x < y → Earlier f g
  rises x y f g (supplied m b l) (supplied n c k) h = inr (m ∙ sym n, omega arith)
  rises x y f g (supplied m b l) (of_module n p e of there stands) h = inl (omega arith)
  rises x y f g (of_module m o d of inside at) (supplied n c k) h = absurd (omega arith)
  rises x y f g (of_module m o d of inside at) (of_module n p e to there stands) h = elim (order_or m n) [
    | inl same ↦ inr (of ∙ ap suc same ∙ sym to, (let b : before objects m ≡ before objects n = ap (before objects) same in omega arith))
    | inr less ↦ elim less [
      | inl l ↦ inl (omega arith)
      | inr l ↦ absurd (let b = before_below objects n m p e l in omega arith)
    ]
  ]

  pub row_rises : (x y : ℕ) (f g : Proc) → slice_get (all_bricks objects) x ≡ Some f → slice_get (all_bricks objects) y ≡ Some g → x < y → Earlier f g
  row_rises x y f g d e h = rises x y f g (at_row x f d) (at_row y g e) h

  pub earlier_below : (x y : ℕ) (f g : Proc) → slice_get (all_bricks objects) x ≡ Some f → slice_get (all_bricks objects) y ≡ Some g → Earlier f g → x < y
  earlier_below x y f g d e h = elim (order_or x y) [
    | inl same ↦ absurd (let s : f ≡ g = some_is f g (sym d ∙ subst (λ (k : ℕ). slice_get (all_bricks objects) k ≡ Some g) (sym same) e) in not_both g g (subst (λ (k : Proc). Earlier k g) s h) (subst (λ (k : Proc). Earlier k g) s h))
    | inr less ↦ elim less [ inl l ↦ l | inr l ↦ absurd (not_both f g h (row_rises y x g f e d l)) ]
  ]
