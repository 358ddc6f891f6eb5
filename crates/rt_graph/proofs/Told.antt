-- The need of a procedure, looked for.
use Rattle.std.proofs.Common.{◌≡◌, ℕ, zero, suc, ◌+◌, Bool, false, if◌then◌else◌, List, [], ◌∷◌, drop, Some, slice_get, refl, sym, ap, ◌∙◌, arith}
use Rattle.rt_tree_nodes.specs.declared.store.Proc.{Proc}
use Rattle.rt_digraph.proofs.Lists.{no_element, some_is}
use Rattle.rt_graph.specs.Scans.{is_same, told_need}

pub drop_at : {A : Type 0} (xs : List A) (n : ℕ) (x : A) → slice_get xs n ≡ Some x → drop n xs ≡ x ∷ drop (n + 1) xs
drop_at {A = A} [] n x e = absurd (no_element n x e)
drop_at {A = A} (y ∷ xs) zero x e = ap (λ (z : A). z ∷ xs) (some_is y x e)
drop_at {A = A} (y ∷ xs) (suc n) x e = drop_at xs n x e ∙ ap (λ (k : ℕ). x ∷ drop k (y ∷ xs)) (let z : suc (n + 1) ≡ suc n + 1 = omega arith in z)

drop_one : {A : Type 0} (xs : List A) (n : ℕ) → drop 1 (drop n xs) ≡ drop (n + 1) xs
drop_one [] zero = refl
drop_one {A = A} [] (suc n) = ap (λ (k : ℕ). drop k (none A)) (let z : suc (suc n) ≡ suc n + 1 = omega arith in z)
  where
    none : (B : Type 0) → List B
    none B = []
drop_one (x ∷ xs) zero = refl
drop_one (x ∷ xs) (suc n) = drop_one xs n ∙ ap (λ (k : ℕ). drop k (x ∷ xs)) (let z : suc (n + 1) ≡ suc n + 1 = omega arith in z)

pub told_more : (fs : List Proc) (ns : List ℕ) (g : Proc) (n : ℕ) (f : Proc) → slice_get fs n ≡ Some f → is_same f g ≡ false → told_need (drop n fs) (drop n ns) g ≡ told_need fs ns g → told_need (drop (n + 1) fs) (drop (n + 1) ns) g ≡ told_need fs ns g
told_more fs ns g n f at other e =
    ap (λ (l : List ℕ). told_need (drop (n + 1) fs) l g) (sym (drop_one ns n))
    ∙ sym (ap (λ (b : Bool). if b then slice_get (drop n ns) 0 else told_need (drop (n + 1) fs) (drop 1 (drop n ns)) g) other)
    ∙ sym (ap (λ (l : List Proc). told_need l (drop n ns) g) (drop_at fs n f at)) ∙ e
