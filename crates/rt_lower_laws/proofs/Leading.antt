-- Ways end in their procedure.
use Rattle.std.proofs.Common.{◌≡◌, ℕ, ◌+◌, ◌<◌, ◌≤◌, ◌==◌, Bool, true, false, if◌then◌else◌, List, [], ◌∷◌, ◌++◌, length, Option, Some, None, refl, sym, ap, ◌∙◌, subst, arith, length-append}
use Rattle.rt_tree_nodes.specs.Tree.{Term, Cond, Is, Both, Either, Stmt, Keep, Clear, Put, Run, Toss, Goto, GiveBack, Back, Switch, Inner, If, For, To, While, Recover, Seq, Done, Then, Mark}
use Rattle.rt_work_state.specs.Items.{or_else}
use Rattle.rt_icode.specs.declared.ins.Ins.{Ins}
use Rattle.rt_icode.specs.declared.ins.Ins.TheVariants as ins
use Rattle.rt_icode.specs.Within.{leads, is_enter}
use Rattle.rt_lower.specs.declared.layouts.Layouts.{Layouts}
use Rattle.rt_lower.specs.Layouts.{number}
use Rattle.rt_lower.specs.Values.{value, width_of}
use Rattle.rt_lower.specs.Code.{Leads, nowhere, cases, for_head, condition, statement, sequence, extent, reach, span, place, place_inside}
use Rattle.rt_lower.proofs.Lengths.{condition_length, sequence_length}
use Rattle.rt_lower_laws.specs.Laws.{is_plain, LabelsLeadInside}
use Rattle.rt_lower_laws.proofs.Calm.{is_still, all_still, reported, reported_at, both_true, first_true, second_true, reported_append, Calm, calm_both, plainly, value_calm, alone_calm, assigned_calm, followed_calm}

abbrev pub is_division : Ins → Bool
is_division (ins.DivideOr d) = true
is_division _ = false

-- instruction k of a procedure of n
pub record Fine (n k : ℕ) (i : Ins) : Type 0 where
  pub enters : is_enter i ≡ false
  pub plain : is_plain i ≡ true
  pub way : (to : ℕ) → is_division i ≡ false → leads k i ≡ Some to → to < n

abbrev pub FineFrom : ℕ → ℕ → List Ins → Type 0
FineFrom n k [] = Unit {0}
FineFrom n k (i ∷ is) = Fine n k i × FineFrom n (k + 1) is

fine_append : (n k m : ℕ) (is js : List Ins) → m ≡ k + length is → FineFrom n k is → FineFrom n m js → FineFrom n k (is ++ js)
fine_append n k m [] js e f g = let same : m ≡ k = omega arith in subst (λ j. FineFrom n j js) same g
fine_append n k m (i ∷ is) js e f g = (f.0, fine_append n (k + 1) m is js (omega arith) f.1 g)

still_fine : (n k : ℕ) (i : Ins) → is_still i ≡ true → Fine n k i
still_fine n k (ins.Enter b p l r) e = absurd cc
still_fine n k (ins.Test r w m) e = absurd cc
still_fine n k (ins.Skip m) e = absurd cc
still_fine n k (ins.Go to) e = absurd cc
still_fine n k (ins.Case to) e = absurd cc
still_fine n k (ins.CountFor j m) e = absurd cc
still_fine n k (ins.CountTo j m) e = absurd cc
still_fine n k (ins.TurnFor j to) e = absurd cc
still_fine n k (ins.TurnTo j to) e = absurd cc
still_fine n k (ins.Recover to) e = absurd cc
still_fine n k ins.Restore e = absurd cc
still_fine n k (ins.DivideOr d) e = record { enters = refl; plain = refl; way = λ to f g. absurd cc }
still_fine n k i e = record { enters = refl; plain = refl; way = λ to f g. absurd cc }

all_fine : (n k : ℕ) (is : List Ins) → all_still is ≡ true → FineFrom n k is
all_fine n k [] e = tt
all_fine n k (i ∷ is) e = (still_fine n k i (first_true (is_still i) (all_still is) e), all_fine n (k + 1) is (second_true (is_still i) (all_still is) e))

-- code from instruction k on
pub record Led (n k : ℕ) (is : List Ins) : Type 0 where
  pub fine : FineFrom n k is
  pub reported : reported is ≡ true

pub calm_led : (n k : ℕ) (is : List Ins) → Calm is → Led n k is
calm_led n k is h = record { fine = all_fine n k is h.still; reported = h.reported }

pub led_both : (n k m : ℕ) (is js : List Ins) → m ≡ k + length is → Led n k is → Led n m js → Led n k (is ++ js)
led_both n k m is js e f g = record { fine = fine_append n k m is js e f.fine g.fine; reported = reported_append is js f.reported g.reported }

pub some_same : (a b : ℕ) → Some a ≡ Some b → a ≡ b
some_same a b e = cc

-- an instruction that leads to another
leads_one : (n k to : ℕ) (i : Ins) → is_enter i ≡ false → is_plain i ≡ true → reported_at i [] ≡ true → leads k i ≡ Some to → to < n → Led n k (i ∷ [])
leads_one n k to i e f g h b = record {
  fine = (record { enters = e; plain = f; way = λ at d j. let same : to ≡ at = some_same to at (sym h ∙ j) in omega (arith, b) }, tt);
  reported = both_true _ _ g refl;
}

one_behind : (n k m : ℕ) (i : Ins) (js : List Ins) → m ≡ k + 1 → Led n k (i ∷ []) → Led n m js → Led n k (i ∷ js)
one_behind n k m i js e f g = led_both n k m (i ∷ []) js (omega arith) f g

-- a left side, and a right one behind it
rows_led : (xs ys : List Ins) (n at more beyond : ℕ) → at + length (xs ++ ys) + beyond < n → more ≤ length ys + beyond → (at + length xs + more < n → Led n at xs)
    → (at + length xs + length ys + beyond < n → Led n (at + length xs) ys) → Led n at (xs ++ ys)
rows_led xs ys n at more beyond h e f g =
    let far : at + length xs + length ys + beyond < n = omega (arith, h, length-append xs ys) in
    led_both n at (at + length xs) xs ys refl (f (omega (arith, far, e))) (g far)

abbrev Below : ℕ → Option ℕ → Type 0
Below n None = Unit {0}
Below n (Some at) = at ≤ n

module _ (l : Layouts) where
  condition_led : (t : Cond) (w : Bool) (beyond n at : ℕ) → at + length (condition l t w beyond) + beyond < n → Led n at (condition l t w beyond)
  condition_led (Is r a b) w beyond n at h =
      let x = value l a in
      let y = value l b in
      let i = ins.Test r w beyond in
      let far = length-append x (y ++ i ∷ []) in
      let more = length-append y (i ∷ []) in
      led_both n at (at + length x) x (y ++ i ∷ []) refl (calm_led n at x (value_calm l a))
      (led_both n (at + length x) (at + length x + length y) y (i ∷ []) refl (calm_led n (at + length x) y (value_calm l b))
      (leads_one n (at + length x + length y) (at + length x + length y + 1 + beyond) i refl refl refl refl (omega (arith, h, far, more))))
  condition_led (Both t u) true beyond n at h =
      let right = condition l u true beyond in
      let more = length right in
      rows_led (condition l t false more) right n at more beyond h (omega arith) (condition_led t false more n at) (condition_led u true beyond n (at + length (condition l t false more)))
  condition_led (Both t u) false beyond n at h =
      let right = condition l u false beyond in
      let more = length right + beyond in
      rows_led (condition l t false more) right n at more beyond h (omega arith) (condition_led t false more n at) (condition_led u false beyond n (at + length (condition l t false more)))
  condition_led (Either t u) true beyond n at h =
      let right = condition l u true beyond in
      let more = length right + beyond in
      rows_led (condition l t true more) right n at more beyond h (omega arith) (condition_led t true more n at) (condition_led u true beyond n (at + length (condition l t true more)))
  condition_led (Either t u) false beyond n at h =
      let right = condition l u false beyond in
      let more = length right in
      rows_led (condition l t true more) right n at more beyond h (omega arith) (condition_led t true more n at) (condition_led u false beyond n (at + length (condition l t true more)))

  cases_led : (L : Leads) (n : ℕ) → ((k : ℕ) → L k < n) → (at : ℕ) (ks : List ℕ) → Led n at (cases L ks)
  cases_led L n h at [] = record { fine = tt; reported = refl }
  cases_led L n h at (k ∷ ks) = one_behind n at (at + 1) (ins.Case (L k)) (cases L ks) refl (leads_one n at (L k) (ins.Case (L k)) refl refl refl refl (h k)) (cases_led L n h (at + 1) ks)

  head_calm : (i : ℕ) (start step end : Term) → Calm (for_head l i start step end)
  head_calm i start step end = calm_both (value l start) _ (value_calm l start) (calm_both (ins.SaveLocal i ∷ []) _ (plainly _ refl refl)
      (calm_both (value l step) _ (value_calm l step) (calm_both (ins.SaveLocal (i + 1) ∷ []) (value l end) (plainly _ refl refl) (value_calm l end))))

  -- a head, its count, a body, and its turn
  turns_led : (head body : List Ins) (count turn : Ins) (n at : ℕ) → at + length (head ++ (count ∷ (body ++ turn ∷ []))) < n → Calm head
      → is_enter count ≡ false → is_plain count ≡ true → reported_at count [] ≡ true → leads (at + length head) count ≡ Some (at + length head + 1 + (length body + 1))
      → is_enter turn ≡ false → is_plain turn ≡ true → reported_at turn [] ≡ true → ((k : ℕ) → leads k turn ≡ Some (at + length head + 1))
      → (at + length head + 1 + length body < n → Led n (at + length head + 1) body) → Led n at (head ++ (count ∷ (body ++ turn ∷ [])))
  turns_led head body count turn n at h c e1 f1 g1 w1 e2 f2 g2 w2 b =
      let far : at + length head + 1 + length body + 1 < n = omega (arith, h, length-append head (count ∷ (body ++ turn ∷ [])), length-append body (turn ∷ [])) in
      led_both n at (at + length head) head (count ∷ (body ++ turn ∷ [])) refl (calm_led n at head c)
      (one_behind n (at + length head) (at + length head + 1) count (body ++ turn ∷ []) refl (leads_one n (at + length head) (at + length head + 1 + (length body + 1)) count e1 f1 g1 w1 (omega (arith, far)))
      (led_both n (at + length head + 1) (at + length head + 1 + length body) body (turn ∷ []) refl (b (omega (arith, far)))
      (leads_one n (at + length head + 1 + length body) (at + length head + 1) turn e2 f2 g2 (w2 (at + length head + 1 + length body)) (omega (arith, far)))))

  if_led : (test taken other : List Ins) (n at more : ℕ) → at + length (test ++ (taken ++ (ins.Skip (length other) ∷ other))) < n → more ≡ length taken + 1
      → (at + length test + more < n → Led n at test) → (at + length test + length taken < n → Led n (at + length test) taken)
      → (at + length test + length taken + 1 + length other < n → Led n (at + length test + length taken + 1) other) → Led n at (test ++ (taken ++ (ins.Skip (length other) ∷ other)))
  if_led test taken other n at more h e f g k =
      let i = ins.Skip (length other) in
      let far : at + length test + length taken + 1 + length other < n = omega (arith, h, length-append test (taken ++ (i ∷ other)), length-append taken (i ∷ other)) in
      led_both n at (at + length test) test (taken ++ (i ∷ other)) refl (f (omega (arith, far, e)))
      (led_both n (at + length test) (at + length test + length taken) taken (i ∷ other) refl (g (omega (arith, far)))
      (one_behind n (at + length test + length taken) (at + length test + length taken + 1) i other refl
      (leads_one n (at + length test + length taken) (at + length test + length taken + 1 + length other) i refl refl refl refl far) (k far)))

  while_led : (test body : List Ins) (n at more : ℕ) → at + length (test ++ (body ++ ins.Go at ∷ [])) < n → more ≡ length body + 1 → (at + length test + more < n → Led n at test)
      → (at + length test + length body < n → Led n (at + length test) body) → Led n at (test ++ (body ++ ins.Go at ∷ []))
  while_led test body n at more h e f g =
      let far : at + length test + length body + 1 < n = omega (arith, h, length-append test (body ++ ins.Go at ∷ []), length-append body (ins.Go at ∷ [])) in
      led_both n at (at + length test) test (body ++ ins.Go at ∷ []) refl (f (omega (arith, far, e)))
      (led_both n (at + length test) (at + length test + length body) body (ins.Go at ∷ []) refl (g (omega (arith, far)))
      (leads_one n (at + length test + length body) at (ins.Go at) refl refl refl refl (omega (arith, far))))

  mutual
    pub statement_led : (L : Leads) (n : ℕ) → ((k : ℕ) → L k < n) → (at : ℕ) (s : Stmt) → at + length (statement l L at s) < n → Led n at (statement l L at s)
    statement_led L n h at (Keep i v) e = calm_led n at _ (followed_calm l v (ins.SaveLocal i) (plainly _ refl refl))
    statement_led L n h at (Clear i) e = calm_led n at _ (plainly _ refl refl)
    statement_led L n h at (Put m p v) e = calm_led n at _ (assigned_calm l (width_of m) p v)
    statement_led L n h at (Run v) e = calm_led n at _ (alone_calm l v)
    statement_led L n h at (Toss v) e = calm_led n at _ (alone_calm l v)
    statement_led L n h at (Goto k) e = leads_one n at (L k) (ins.Go (L k)) refl refl refl refl (h k)
    statement_led L n h at (GiveBack v) e = calm_led n at _ (followed_calm l v ins.GiveUp (plainly _ refl refl))
    statement_led L n h at Back e = calm_led n at _ (plainly _ refl refl)
    statement_led L n h at (Switch v ks) e =
        led_both n at (at + length (value l v)) (value l v) (cases L ks ++ ins.Discard ∷ []) refl (calm_led n at _ (value_calm l v))
        (led_both n (at + length (value l v)) (at + length (value l v) + length (cases L ks)) (cases L ks) (ins.Discard ∷ []) refl (cases_led L n h (at + length (value l v)) ks) (calm_led n _ (ins.Discard ∷ []) (plainly _ refl refl)))
    statement_led L n h at (Inner q) e = sequence_led L n h at q e
    statement_led L n h at (If t a b) e =
        let more = extent l a + 1 in
        let test = condition l t false more in
        let taken = sequence l L (at + length test) a in
        let other = sequence l L (at + length test + length taken + 1) b in
        if_led test taken other n at more e (ap (λ k. k + 1) (sequence_length l nowhere L 0 (at + length test) a)) (condition_led t false more n at) (sequence_led L n h (at + length test) a) (sequence_led L n h (at + length test + length taken + 1) b)
    statement_led L n h at (For i start step end q) e =
        let head = for_head l i start step end in
        let top = at + length head + 1 in
        let body = sequence l L top q in
        turns_led head body (ins.CountFor i (length body + 1)) (ins.TurnFor i top) n at e (head_calm i start step end) refl refl refl refl refl refl refl (λ k. refl) (sequence_led L n h top q)
    statement_led L n h at (To i t q) e =
        let head = value l t in
        let top = at + length head + 1 in
        let body = sequence l L top q in
        turns_led head body (ins.CountTo i (length body + 1)) (ins.TurnTo i top) n at e (value_calm l t) refl refl refl refl refl refl refl (λ k. refl) (sequence_led L n h top q)
    statement_led L n h at (While t q) e =
        let more = extent l q + 1 in
        let test = condition l t false more in
        while_led test (sequence l L (at + length test) q) n at more e (ap (λ k. k + 1) (sequence_length l nowhere L 0 (at + length test) q)) (condition_led t false more n at) (sequence_led L n h (at + length test) q)
    statement_led L n h at (Recover k) e = record { fine = tt; reported = refl }

    pub sequence_led : (L : Leads) (n : ℕ) → ((k : ℕ) → L k < n) → (at : ℕ) (q : Seq) → at + length (sequence l L at q) < n → Led n at (sequence l L at q)
    sequence_led L n h at Done e = record { fine = tt; reported = refl }
    sequence_led L n h at (Then s q) e =
        let first = statement l L at s in
        let rest = sequence l L (at + length first) q in
        let far : at + length first + length rest < n = omega (arith, e, length-append first rest) in
        led_both n at (at + length first) first rest refl (statement_led L n h at s (omega (arith, far))) (sequence_led L n h (at + length first) q far)
    sequence_led L n h at (Mark k q) e = sequence_led L n h at q e

  -- ---- labels

  below_or : (n : ℕ) (o p : Option ℕ) → Below n o → Below n p → Below n (or_else o p)
  below_or n None p h k = k
  below_or n (Some at) p h k = h

  below_more : (n m : ℕ) (o : Option ℕ) → n ≤ m → Below n o → Below m o
  below_more n m None h k = tt
  below_more n m (Some at) h k = omega (arith, k)

  marked_below : (b : Bool) (at n : ℕ) (o : Option ℕ) → at ≤ n → Below n o → Below n (if b then Some at else o)
  marked_below true at n o h k = h
  marked_below false at n o h k = k

  behind : (xs : List Ins) (i : Ins) → length (xs ++ i ∷ []) ≡ length xs + 1
  behind xs i = omega (arith, length-append xs (i ∷ []))

  mutual
    place_below : (k at : ℕ) (q : Seq) → Below (at + extent l q) (place l k at q)
    place_below k at Done = tt
    place_below k at (Then s q) =
        let first = statement l nowhere 0 s in
        let all : extent l (Then s q) ≡ reach l s + extent l q = omega (arith, length-append first (sequence l nowhere (0 + length first) q), sequence_length l nowhere nowhere (0 + length first) 0 q) in
        below_or (at + extent l (Then s q)) (place_inside l k at s) (place l k (at + reach l s) q) (below_more (at + reach l s) _ _ (omega (arith, all)) (inside_below k at s))
        (below_more (at + reach l s + extent l q) _ _ (omega (arith, all)) (place_below k (at + reach l s) q))
    place_below k at (Mark j q) = marked_below (j == k) at (at + extent l q) (place l k at q) (omega arith) (place_below k at q)

    inside_below : (k at : ℕ) (s : Stmt) → Below (at + reach l s) (place_inside l k at s)
    inside_below k at (Keep i v) = tt
    inside_below k at (Clear i) = tt
    inside_below k at (Put m p v) = tt
    inside_below k at (Run v) = tt
    inside_below k at (Toss v) = tt
    inside_below k at (Goto j) = tt
    inside_below k at (GiveBack v) = tt
    inside_below k at Back = tt
    inside_below k at (Switch v ks) = tt
    inside_below k at (Inner q) = place_below k at q
    inside_below k at (If t a b) =
        let test = condition l t false (extent l a + 1) in
        let taken = sequence l nowhere (0 + length test) a in
        let other = sequence l nowhere (0 + length test + length taken + 1) b in
        let all : reach l (If t a b) ≡ span l t + extent l a + 1 + extent l b =
        omega (arith, length-append test (taken ++ (ins.Skip (length other) ∷ other)), length-append taken (ins.Skip (length other) ∷ other), condition_length l t false (extent l a + 1) 0, sequence_length l nowhere nowhere (0 + length test) 0 a, sequence_length l nowhere nowhere (0 + length test + length taken + 1) 0 b) in
        below_or (at + reach l (If t a b)) (place l k (at + span l t) a) (place l k (at + span l t + extent l a + 1) b)
        (below_more (at + span l t + extent l a) _ _ (omega (arith, all)) (place_below k (at + span l t) a))
        (below_more (at + span l t + extent l a + 1 + extent l b) _ _ (omega (arith, all)) (place_below k (at + span l t + extent l a + 1) b))
    inside_below k at (For i start step end q) =
        let head = for_head l i start step end in
        let body = sequence l nowhere (0 + length head + 1) q in
        let all : reach l (For i start step end q) ≡ length head + 1 + extent l q + 1 =
        omega (arith, length-append head (ins.CountFor i (length body + 1) ∷ (body ++ ins.TurnFor i (0 + length head + 1) ∷ [])), behind body (ins.TurnFor i (0 + length head + 1)), sequence_length l nowhere nowhere (0 + length head + 1) 0 q) in
        below_more (at + length head + 1 + extent l q) _ _ (omega (arith, all)) (place_below k (at + length head + 1) q)
    inside_below k at (To i t q) =
        let head = value l t in
        let body = sequence l nowhere (0 + length head + 1) q in
        let all : reach l (To i t q) ≡ length head + 1 + extent l q + 1 =
        omega (arith, length-append head (ins.CountTo i (length body + 1) ∷ (body ++ ins.TurnTo i (0 + length head + 1) ∷ [])), behind body (ins.TurnTo i (0 + length head + 1)), sequence_length l nowhere nowhere (0 + length head + 1) 0 q) in
        below_more (at + length head + 1 + extent l q) _ _ (omega (arith, all)) (place_below k (at + length head + 1) q)
    inside_below k at (While t q) =
        let test = condition l t false (extent l q + 1) in
        let body = sequence l nowhere (0 + length test) q in
        let all : reach l (While t q) ≡ span l t + extent l q + 1 =
        omega (arith, length-append test (body ++ ins.Go 0 ∷ []), behind body (ins.Go 0), condition_length l t false (extent l q + 1) 0, sequence_length l nowhere nowhere (0 + length test) 0 q) in
        below_more (at + span l t + extent l q) _ _ (omega (arith, all)) (place_below k (at + span l t) q)
    inside_below k at (Recover j) = tt

pub lead_below : LabelsLeadInside
lead_below l q k = by (place l k 1 q) (place_below l k 1 q) where
  by : (o : Option ℕ) → Below (1 + extent l q) o → number o ≤ 1 + extent l q
  by None h = omega arith
  by (Some at) h = h
