-- How long code is rests neither on where it begins nor on where its labels lead.
use Rattle.std.proofs.Common.{◌≡◌, ℕ, suc, ◌+◌, Bool, true, false, List, [], ◌∷◌, ◌++◌, length, refl, ap, arith, length-append}
use Rattle.rt_tree_nodes.specs.Tree.{Cond, Is, Both, Either, Stmt, Keep, Clear, Put, Run, Toss, Goto, GiveBack, Back, Switch, Inner, If, For, To, While, Recover, Seq, Done, Then, Mark}
use Rattle.rt_icode.specs.declared.ins.Ins.{Ins}
use Rattle.rt_icode.specs.declared.ins.Ins.TheVariants as ins
use Rattle.rt_lower.specs.declared.layouts.Layouts.{Layouts}
use Rattle.rt_lower.specs.Values.{value}
use Rattle.rt_lower.specs.Code.{Leads, cases, condition, for_head, statement, sequence}

pub joined : (a b c d : List Ins) → length a ≡ length c → length b ≡ length d → length (a ++ b) ≡ length (c ++ d)
joined a b c d e f = omega (arith, length-append a b, length-append c d)

pub cases_length : (L M : Leads) (ks : List ℕ) → length (cases L ks) ≡ length (cases M ks)
cases_length L M [] = refl
cases_length L M (k ∷ ks) = ap suc (cases_length L M ks)

module _ (l : Layouts) where
  pub condition_length : (t : Cond) (w : Bool) (m n : ℕ) → length (condition l t w m) ≡ length (condition l t w n)
  condition_length (Is r a b) w m n = joined (value l a) _ (value l a) _ refl (joined (value l b) (ins.Test r w m ∷ []) (value l b) (ins.Test r w n ∷ []) refl refl)
  condition_length (Both t u) true m n = joined _ _ _ _ (condition_length t false _ _) (condition_length u true m n)
  condition_length (Both t u) false m n = joined _ _ _ _ (condition_length t false _ _) (condition_length u false m n)
  condition_length (Either t u) true m n = joined _ _ _ _ (condition_length t true _ _) (condition_length u true m n)
  condition_length (Either t u) false m n = joined _ _ _ _ (condition_length t true _ _) (condition_length u false m n)

  mutual
    pub statement_length : (L M : Leads) (a b : ℕ) (s : Stmt) → length (statement l L a s) ≡ length (statement l M b s)
    statement_length L M a b (Keep i v) = refl
    statement_length L M a b (Clear i) = refl
    statement_length L M a b (Put m p v) = refl
    statement_length L M a b (Run v) = refl
    statement_length L M a b (Toss v) = refl
    statement_length L M a b (Goto k) = refl
    statement_length L M a b (GiveBack v) = refl
    statement_length L M a b Back = refl
    statement_length L M a b (Switch v ks) = joined (value l v) _ (value l v) _ refl (joined (cases L ks) (ins.Discard ∷ []) (cases M ks) (ins.Discard ∷ []) (cases_length L M ks) refl)
    statement_length L M a b (Inner q) = sequence_length L M a b q
    statement_length L M a b (If t p q) = joined _ _ _ _ refl (joined _ _ _ _ (sequence_length L M _ _ p) (ap suc (sequence_length L M _ _ q)))
    statement_length L M a b (For i x y z q) =
        let h = for_head l i x y z in
        let s = sequence l L (a + length h + 1) q in
        let u = sequence l M (b + length h + 1) q in
        joined h (ins.CountFor i (length s + 1) ∷ (s ++ ins.TurnFor i (a + length h + 1) ∷ [])) h (ins.CountFor i (length u + 1) ∷ (u ++ ins.TurnFor i (b + length h + 1) ∷ [])) refl
        (ap suc (joined s (ins.TurnFor i (a + length h + 1) ∷ []) u (ins.TurnFor i (b + length h + 1) ∷ []) (sequence_length L M (a + length h + 1) (b + length h + 1) q) refl))
    statement_length L M a b (To i n q) =
        let h = value l n in
        let s = sequence l L (a + length h + 1) q in
        let u = sequence l M (b + length h + 1) q in
        joined h (ins.CountTo i (length s + 1) ∷ (s ++ ins.TurnTo i (a + length h + 1) ∷ [])) h (ins.CountTo i (length u + 1) ∷ (u ++ ins.TurnTo i (b + length h + 1) ∷ [])) refl
        (ap suc (joined s (ins.TurnTo i (a + length h + 1) ∷ []) u (ins.TurnTo i (b + length h + 1) ∷ []) (sequence_length L M (a + length h + 1) (b + length h + 1) q) refl))
    statement_length L M a b (While t q) = joined _ _ _ _ refl (joined _ _ _ _ (sequence_length L M _ _ q) refl)
    statement_length L M a b (Recover k) = refl

    pub sequence_length : (L M : Leads) (a b : ℕ) (q : Seq) → length (sequence l L a q) ≡ length (sequence l M b q)
    sequence_length L M a b Done = refl
    sequence_length L M a b (Then s q) = joined _ _ _ _ (statement_length L M a b s) (sequence_length L M _ _ q)
    sequence_length L M a b (Mark k q) = sequence_length L M a b q
