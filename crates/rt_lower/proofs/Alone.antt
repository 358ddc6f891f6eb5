-- An IF that stands alone behind ELSE.
use Rattle.std.proofs.Common.{◌≡◌, ℕ, ◌<◌, Some, None, refl, subst, arith}
use Rattle.rt_tree_nodes.specs.Tree.{Stmt, If, Seq, Done, Then, Mark}
use Rattle.rt_lower.specs.declared.draft.Draft.{Draft}
use Rattle.rt_lower.specs.declared.layouts.Layouts.{Layouts}
use Rattle.rt_lower.specs.Drafts.{IfParts, parts_of, alone_if, arm, otherwise, sequence}
use Rattle.rt_work_state.proofs.Sizes.{size_q}

pub record IsAlone (l : Layouts) (q : Seq) (x : IfParts) : Type 0 where
  pub same : (end : ℕ) (d : Draft) → otherwise l end q d ≡ otherwise l end x.other (arm l end x.test (sequence l x.taken) d)
  pub taken : size_q x.taken < size_q q
  pub other : size_q x.other < size_q q

is_if : (l : Layouts) (s : Stmt) (x : IfParts) → parts_of s ≡ Some x → IsAlone l (Then s Done) x
is_if l (If t a b) x e =
    let same : record { test = t; taken = a; other = b } ≡ x = cc in
    subst (λ y. IsAlone l (Then (If t a b) Done) y) same (record { same = λ end d. refl; taken = omega arith; other = omega arith })
is_if l s x e = absurd cc

pub is_alone : (l : Layouts) (q : Seq) (x : IfParts) → alone_if q ≡ Some x → IsAlone l q x
is_alone l (Then s Done) x e = is_if l s x e
is_alone l q x e = absurd cc

no_if : (l : Layouts) (s : Stmt) (end : ℕ) (d : Draft) → parts_of s ≡ None → otherwise l end (Then s Done) d ≡ sequence l (Then s Done) d
no_if l (If t a b) end d e = absurd cc
no_if l s end d e = refl

pub not_alone : (l : Layouts) (q : Seq) (end : ℕ) (d : Draft) → alone_if q ≡ None → otherwise l end q d ≡ sequence l q d
not_alone l (Then s Done) end d e = no_if l s end d e
not_alone l (Then (If t a b) (Then s q)) end d e = refl
not_alone l (Then (If t a b) (Mark k q)) end d e = refl
not_alone l (Then s q) end d e = refl
not_alone l Done end d e = refl
not_alone l (Mark k q) end d e = refl
