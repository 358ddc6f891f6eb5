-- Numbers that rise are determined by which they are.
use Rattle.std.proofs.Common.{◌≡◌, ℕ, zero, suc, ◌<◌, ◌≤◌, List, [], ◌∷◌, Some, refl, arith, slice_get}
use Rattle.std.proofs.lemmas.Option.{slice_get_within}
use Rattle.rt_object.specs.Ranges.{Rise}
use Rattle.rt_tree_nodes.specs.declared.brick.ModuleParts.{ModuleParts}
use Rattle.rt_compile.specs.Taken.{Has, AreTaken}
use Rattle.rt_compile.proofs.Lists.{some_is, cons_is}

tail_rises : (n : ℕ) (ns : List ℕ) → Rise (n ∷ ns) → Rise ns
tail_rises n ns r = λ i j a b less. r (suc i) (suc j) a b (omega arith)

above : (n : ℕ) (ns : List ℕ) → Rise (n ∷ ns) → (k : ℕ) → Has ns k → n < k
above n ns r k h = r 0 (suc h.0) n k (omega arith) refl h.1

least : (m : ℕ) (ms : List ℕ) → Rise (m ∷ ms) → (n i : ℕ) → slice_get (m ∷ ms) i ≡ Some n → m ≤ n
least m ms r n zero e = let same : m ≡ n = some_is m n e in omega arith
least m ms r n (suc i) e = let less : m < n = above m ms r n (i, e) in omega arith

behind : (m : ℕ) (ms : List ℕ) (k : ℕ) → m < k → (i : ℕ) → slice_get (m ∷ ms) i ≡ Some k → Has ms k
behind m ms k less zero e = let same : m ≡ k = some_is m k e in absurd (omega arith)
behind m ms k less (suc i) e = (i, e)

none_in : (k : ℕ) → Has [] k → ⊥
none_in k h = let less : h.0 < 0 = slice_get_within [] h.0 k h.1 in omega arith

same_rising : (ns ms : List ℕ) → Rise ns → Rise ms → ((k : ℕ) → Has ns k → Has ms k) → ((k : ℕ) → Has ms k → Has ns k) → ns ≡ ms
same_rising [] [] r s to from = refl
same_rising [] (m ∷ ms) r s to from = absurd (none_in m (from m (0, refl)))
same_rising (n ∷ ns) [] r s to from = absurd (none_in n (to n (0, refl)))
same_rising (n ∷ ns) (m ∷ ms) r s to from =
    let there = to n (0, refl) in
    let back = from m (0, refl) in
    let low : m ≤ n = least m ms s n there.0 there.1 in
    let high : n ≤ m = least n ns r m back.0 back.1 in
    let same : n ≡ m = omega arith in
    cons_is n m ns ms same
    (same_rising ns ms (tail_rises n ns r) (tail_rises m ms s)
    (λ k h. let less : n < k = above n ns r k h in let has = to k (suc h.0, h.1) in behind m ms k (omega arith) has.0 has.1)
    (λ k h. let less : m < k = above m ms s k h in let has = from k (suc h.0, h.1) in behind n ns k (omega arith) has.0 has.1))

pub one_taken : (p : ModuleParts) (ns ms : List ℕ) → AreTaken p ns → AreTaken p ms → ns ≡ ms
one_taken p ns ms a b =
    same_rising ns ms a.rise b.rise
    (λ k h. (b.each k).1 ((a.each k).0 h))
    (λ k h. (a.each k).1 ((b.each k).0 h))
