-- Which procedures are marked as values.
use Rattle.std.proofs.Common.{◌≡◌, ℕ, zero, suc, ◌+◌, ◌<◌, ◌⊎◌, inl, inr, Bool, true, false, List, [], ◌∷◌, length, replicate, Option, Some, None, slice_get, slice_set, refl, sym, ap, ◌∙◌, subst, arith}
use Rattle.std.proofs.lemmas.Option.{slice_get_within}
use Rattle.rt_tree_nodes.specs.declared.store.Proc.{Proc}
use Rattle.rt_object.specs.declared.object.ObjectParts.{ObjectParts}
use Rattle.rt_match.specs.declared.bindings.Bound.{Bound}
use Rattle.rt_digraph.specs.Walks.{Has}
use Rattle.rt_digraph.proofs.Lists.{no_element, some_is, get_there, set_same, set_long, set_cases, set_other, get_replicate, long_replicate}
use Rattle.rt_digraph.proofs.Moves.{same_or_not}
use Rattle.rt_graph.specs.Calls.{brick, numbered, stands_for, IsAlwaysTaken, IsTaken, named, always, IsProcedure}
use Rattle.rt_graph.specs.Numbers.{all_bricks, place, number_of, and_then}
use Rattle.rt_digraph.specs.Alone.{true_or_not, is_marked}
use Rattle.rt_graph.specs.Classes.{mark, mark_taken, mark_modules, mark_all}
use Rattle.rt_graph.proofs.Rows.{row_at, supplied}
use Rattle.rt_graph.proofs.Procedures.{number_to, number_from, procedure_row}

marked_some : (o : Option Bool) → true_or_not o ≡ true → o ≡ Some true
marked_some None e = absurd cc
marked_some (Some b) e = ap (λ (x : Bool). Some x) e

mark_keeps : (o : Option ℕ) (ms : List Bool) (n : ℕ) → is_marked ms n ≡ true → is_marked (mark o ms) n ≡ true
mark_keeps None ms n e = e
mark_keeps (Some k) ms n e = elim (same_or_not n k) [
  | inl same ↦ ap true_or_not (subst (λ (j : ℕ). slice_get (slice_set ms k true) j ≡ Some true) (sym same) (set_same ms k true true (subst (λ (j : ℕ). slice_get ms j ≡ Some true) same (marked_some (slice_get ms n) e))))
  | inr other ↦ ap true_or_not (set_other ms k n true other) ∙ e
]

mark_here : (n : ℕ) (ms : List Bool) → n < length ms → is_marked (mark (Some n) ms) n ≡ true
mark_here n ms h = let g = get_there ms n h in ap true_or_not (set_same ms n true g.0 g.1)

mark_from : (o : Option ℕ) (ms : List Bool) (n : ℕ) → is_marked (mark o ms) n ≡ true → (is_marked ms n ≡ true) ⊎ (o ≡ Some n)
mark_from None ms n e = inl e
mark_from (Some k) ms n e = elim (set_cases ms k n true true (marked_some (slice_get (slice_set ms k true) n) e)) [
  | inl g ↦ inr (ap (λ (x : ℕ). Some x) (sym g.0))
  | inr g ↦ inl (ap true_or_not g.1)
]

mark_long : (o : Option ℕ) (ms : List Bool) → length (mark o ms) ≡ length ms
mark_long None ms = refl
mark_long (Some k) ms = set_long ms k true

module _ (objects : List ObjectParts) (of : List (List Bound)) where
  -- the number of the procedure for which a brick stands
  abbrev number_at : ℕ → ℕ → Option ℕ
  number_at m b = and_then (stands_for of m b) (number_of objects)

  taken_keeps : (m : ℕ) (bs : List ℕ) (ms : List Bool) (n : ℕ) → is_marked ms n ≡ true → is_marked (mark_taken objects of m bs ms) n ≡ true
  taken_keeps m [] ms n e = e
  taken_keeps m (b ∷ bs) ms n e = taken_keeps m bs (mark (number_at m b) ms) n (mark_keeps (number_at m b) ms n e)

  taken_long : (m : ℕ) (bs : List ℕ) (ms : List Bool) → length (mark_taken objects of m bs ms) ≡ length ms
  taken_long m [] ms = refl
  taken_long m (b ∷ bs) ms = taken_long m bs (mark (number_at m b) ms) ∙ mark_long (number_at m b) ms

  taken_all : (m : ℕ) (bs : List ℕ) (ms : List Bool) (i b n : ℕ) → slice_get bs i ≡ Some b → number_at m b ≡ Some n → n < length ms → is_marked (mark_taken objects of m bs ms) n ≡ true
  taken_all m [] ms i b n e f h = absurd (no_element i b e)
  taken_all m (c ∷ bs) ms zero b n e f h =
      let is : number_at m c ≡ Some n = ap (number_at m) (some_is c b e) ∙ f in
      taken_keeps m bs (mark (number_at m c) ms) n (subst (λ (o : Option ℕ). is_marked (mark o ms) n ≡ true) (sym is) (mark_here n ms h))
  taken_all m (c ∷ bs) ms (suc i) b n e f h = taken_all m bs (mark (number_at m c) ms) i b n e f (let l = mark_long (number_at m c) ms in omega arith)

  taken_from : (m : ℕ) (bs : List ℕ) (ms : List Bool) (n : ℕ) → is_marked (mark_taken objects of m bs ms) n ≡ true → (is_marked ms n ≡ true) ⊎ ((b : ℕ) × Has bs b × (number_at m b ≡ Some n))
  taken_from m [] ms n e = inl e
  taken_from m (c ∷ bs) ms n e = elim (taken_from m bs (mark (number_at m c) ms) n e) [
    | inl g ↦ elim (mark_from (number_at m c) ms n g) [ inl h ↦ inl h | inr h ↦ inr (c, (0, refl), h) ]
    | inr g ↦ inr (g.0, (suc g.1.0, g.1.1), g.2)
  ]

  modules_keep : (k : ℕ) (os : List ObjectParts) (ms : List Bool) (n : ℕ) → is_marked ms n ≡ true → is_marked (mark_modules objects of k os ms) n ≡ true
  modules_keep k [] ms n e = e
  modules_keep k (o ∷ os) ms n e = modules_keep (suc k) os (mark_taken objects of k o.taken ms) n (taken_keeps k o.taken ms n e)

  modules_long : (k : ℕ) (os : List ObjectParts) (ms : List Bool) → length (mark_modules objects of k os ms) ≡ length ms
  modules_long k [] ms = refl
  modules_long k (o ∷ os) ms = modules_long (suc k) os (mark_taken objects of k o.taken ms) ∙ taken_long k o.taken ms

  modules_all : (k : ℕ) (os : List ObjectParts) (ms : List Bool) (j : ℕ) (o : ObjectParts) (i b n : ℕ) → slice_get os j ≡ Some o → slice_get o.taken i ≡ Some b → number_at (k + j) b ≡ Some n → n < length ms → is_marked (mark_modules objects of k os ms) n ≡ true
  modules_all k [] ms j o i b n e f g h = absurd (no_element j o e)
  modules_all k (x ∷ os) ms zero o i b n e f g h =
      let same : x ≡ o = some_is x o e in
      modules_keep (suc k) os (mark_taken objects of k x.taken ms) n
      (taken_all k x.taken ms i b n (subst (λ (y : ObjectParts). slice_get y.taken i ≡ Some b) (sym same) f) (subst (λ (m : ℕ). number_at m b ≡ Some n) (let z : k + 0 ≡ k = omega arith in z) g) h)
  modules_all k (x ∷ os) ms (suc j) o i b n e f g h =
      modules_all (suc k) os (mark_taken objects of k x.taken ms) j o i b n e f (subst (λ (m : ℕ). number_at m b ≡ Some n) (let z : k + suc j ≡ suc k + j = omega arith in z) g) (let l = taken_long k x.taken ms in omega arith)

  modules_from : (k : ℕ) (os : List ObjectParts) (ms : List Bool) (n : ℕ) → is_marked (mark_modules objects of k os ms) n ≡ true
      → (is_marked ms n ≡ true) ⊎ ((j : ℕ) × (o : ObjectParts) × (b : ℕ) × (slice_get os j ≡ Some o) × Has o.taken b × (number_at (k + j) b ≡ Some n))
  modules_from k [] ms n e = inl e
  modules_from k (x ∷ os) ms n e = elim (modules_from (suc k) os (mark_taken objects of k x.taken ms) n e) [
    | inl g ↦ elim (taken_from k x.taken ms n g) [
      | inl h ↦ inl h
      | inr h ↦ inr (0, x, h.0, refl, h.1, subst (λ (m : ℕ). number_at m h.0 ≡ Some n) (let z : k ≡ k + 0 = omega arith in z) h.2)
    ]
    | inr g ↦ inr (suc g.0, g.1, g.2, g.3, g.4, subst (λ (m : ℕ). number_at m g.2 ≡ Some n) (let z : suc k + g.0 ≡ k + suc g.0 = omega arith in z) g.5)
  ]

  -- ---- all marks

  abbrev row_long : ℕ
  row_long = length (all_bricks objects)

  abbrev pub none : List Bool
  none = replicate row_long false

  abbrev first_marks : List Bool
  first_marks = mark (Some 10) (mark (Some 2) (mark (Some 1) none))

  first_long : length first_marks ≡ row_long
  first_long = mark_long (Some 10) (mark (Some 2) (mark (Some 1) none)) ∙ mark_long (Some 2) (mark (Some 1) none) ∙ mark_long (Some 1) none ∙ long_replicate row_long false

  pub marks_long : length (mark_all objects of none) ≡ row_long
  marks_long = modules_long 1 objects first_marks ∙ first_long

  none_marked : (n : ℕ) → is_marked none n ≡ true → ⊥
  none_marked n e = let f : true ≡ false = get_replicate row_long n false true (marked_some (slice_get none n) e) in cc

  number_at_is : (m b n : ℕ) → number_at m b ≡ Some n → (f : Proc) × (stands_for of m b ≡ Some f) × IsProcedure objects f × (n ≡ place objects f)
  number_at_is m b n e = by (stands_for of m b) refl e
    where
      by : (o : Option Proc) → stands_for of m b ≡ o → and_then o (number_of objects) ≡ Some n → (f : Proc) × (stands_for of m b ≡ Some f) × IsProcedure objects f × (n ≡ place objects f)
      by None q g = absurd cc
      by (Some f) q g = let h = number_from objects f n g in (f, q, h.0, h.1)

  pub marked_taken : (n : ℕ) (f : Proc) → slice_get (all_bricks objects) n ≡ Some f → is_marked (mark_all objects of none) n ≡ true → IsTaken objects of f
  marked_taken n f at e = elim (modules_from 1 objects first_marks n e) [
    | inl g ↦ first n f at g
    | inr g ↦ (
        let h = number_at_is (1 + g.0) g.2 n g.5 in
        let same : h.0 ≡ f = some_is h.0 f (sym (procedure_row objects h.0 h.2) ∙ subst (λ (k : ℕ). slice_get (all_bricks objects) k ≡ Some f) h.3 at) in
        subst (IsTaken objects of) same (named (suc g.0) g.2 g.3 g.4 (subst (λ (m : ℕ). stands_for of m g.2 ≡ Some h.0) (let z : 1 + g.0 ≡ suc g.0 = omega arith in z) h.1)))
  ]
    where
      one : (n k : ℕ) (f : Proc) → slice_get (all_bricks objects) n ≡ Some f → Some k ≡ Some n → IsAlwaysTaken k → k < 11 → IsTaken objects of f
      one n k f at e h l =
          let is : slice_get (all_bricks objects) n ≡ Some (brick 0 n) = row_at objects n (brick 0 n) (supplied refl refl (let s : k ≡ n = some_is k n e in omega arith)) in
          subst (IsTaken objects of) (some_is (brick 0 n) f (sym is ∙ at)) (always (subst IsAlwaysTaken (some_is k n e) h))

      first : (n : ℕ) (f : Proc) → slice_get (all_bricks objects) n ≡ Some f → is_marked first_marks n ≡ true → IsTaken objects of f
      first n f at e = elim (mark_from (Some 10) (mark (Some 2) (mark (Some 1) none)) n e) [
        | inr g ↦ one n 10 f at g (inr (inr refl)) (omega arith)
        | inl g ↦ elim (mark_from (Some 2) (mark (Some 1) none) n g) [
          | inr h ↦ one n 2 f at h (inr (inl refl)) (omega arith)
          | inl h ↦ elim (mark_from (Some 1) none n h) [ inr i ↦ one n 1 f at i (inl refl) (omega arith) | inl i ↦ absurd (none_marked n i) ]
        ]
      ]

  always_marked : (k : ℕ) → IsAlwaysTaken k → k < row_long → is_marked first_marks k ≡ true
  always_marked k (inl e) l =
      mark_keeps (Some 10) (mark (Some 2) (mark (Some 1) none)) k (mark_keeps (Some 2) (mark (Some 1) none) k
      (subst (λ (j : ℕ). is_marked (mark (Some j) none) k ≡ true) e (mark_here k none (let r = long_replicate row_long false in omega arith))))
  always_marked k (inr (inl e)) l =
      mark_keeps (Some 10) (mark (Some 2) (mark (Some 1) none)) k
      (subst (λ (j : ℕ). is_marked (mark (Some j) (mark (Some 1) none)) k ≡ true) e (mark_here k (mark (Some 1) none) (let r = long_replicate row_long false in let s = mark_long (Some 1) none in omega arith)))
  always_marked k (inr (inr e)) l =
      subst (λ (j : ℕ). is_marked (mark (Some j) (mark (Some 2) (mark (Some 1) none))) k ≡ true) e
      (mark_here k (mark (Some 2) (mark (Some 1) none)) (let r = long_replicate row_long false in let s = mark_long (Some 1) none in let t = mark_long (Some 2) (mark (Some 1) none) in omega arith))

  pub taken_marked : (f : Proc) → IsTaken objects of f → IsProcedure objects f → is_marked (mark_all objects of none) (place objects f) ≡ true
  taken_marked f (named m b {o = o} e has st) p =
      let j = module_is m o e in
      let here : number_at (1 + j.0) b ≡ Some (place objects f) = subst (λ (k : ℕ). number_at k b ≡ Some (place objects f)) j.1 (ap (λ (x : Option Proc). and_then x (number_of objects)) st ∙ number_to objects f p) in
      modules_all 1 objects first_marks j.0 o has.0 b (place objects f) j.2 has.1 here
      (let l = slice_get_within (all_bricks objects) (place objects f) f (procedure_row objects f p) in let r = first_long in omega arith)
    where
      module_is : (m : ℕ) (o : ObjectParts) → numbered objects m ≡ Some o → (j : ℕ) × (m ≡ 1 + j) × (slice_get objects j ≡ Some o)
      module_is zero o e = absurd cc
      module_is (suc m) o e = (m, (let z : suc m ≡ 1 + m = omega arith in z), e)
  taken_marked f (always {k = k} h) p =
      modules_keep 1 objects first_marks k (always_marked k h (slice_get_within (all_bricks objects) k (brick 0 k) (procedure_row objects (brick 0 k) p)))
