-- What each way leads to finds as many values as the way brings.
use Rattle.std.proofs.Common.{◌≡◌, ℕ, suc, ◌+◌, ◌-◌, Bool, true, false, List, [], ◌∷◌, ◌++◌, length, Some, slice_get, refl, sym, ap, ◌∙◌, subst, arith, length-append}
use Rattle.rt_tree_nodes.specs.Tree.{Term, Cond, Is, Both, Either, Stmt, Keep, Clear, Put, Run, Toss, Goto, GiveBack, Back, Switch, Inner, If, For, To, While, Recover, Seq, Done, Then, Mark}
use Rattle.rt_icode.specs.declared.ins.OwnItem.TheVariants as item
use Rattle.rt_icode.specs.declared.ins.Ins.{Ins}
use Rattle.rt_icode.specs.declared.ins.Ins.TheVariants as ins
use Rattle.rt_icode.specs.Within.{leads}
use Rattle.rt_lower.specs.declared.layouts.Layouts.{Layouts}
use Rattle.rt_lower.specs.Values.{width_of, value}
use Rattle.rt_lower.specs.Code.{Leads, nowhere, cases, condition, for_head, statement, sequence, extent}
use Rattle.rt_lower.proofs.Lengths.{sequence_length}
use Rattle.rt_lower_laws.proofs.Calm.{is_still, all_still, reported, reported_at, first_true, second_true, Calm, calm_both, plainly, value_calm, alone_calm, assigned_calm, followed_calm}
use Rattle.rt_lower_frames_laws.specs.Heights.{takes, leaves, brings, behind}
use Rattle.rt_lower_frames_laws.proofs.Held.{after}
use Rattle.rt_lower_frames_laws.proofs.Sound.{CondSound, StmtSound, SeqSound}
use Rattle.rt_lower_frames_laws.proofs.Values.{value_held}
use Rattle.rt_lower_frames_laws.proofs.Statements.{condition_held, head_ends, statement_held, sequence_held}

-- The values before the instructions from number k on, and behind the last of them, are those of the code.
abbrev pub There : List ℕ → ℕ → ℕ → List Ins → Type 0
There hs k h [] = slice_get hs k ≡ Some h
There hs k h (i ∷ is) = (slice_get hs k ≡ Some h) × There hs (suc k) (behind i h) is

-- What an instruction leads to finds what it brings.
abbrev pub Lands : List ℕ → ℕ → ℕ → Ins → Type 0
Lands hs k h i = (to : ℕ) → leads k i ≡ Some to → slice_get hs to ≡ Some (h - takes i + brings i)

abbrev pub AllLand : List ℕ → ℕ → ℕ → List Ins → Type 0
AllLand hs k h [] = Unit {0}
AllLand hs k h (i ∷ is) = Lands hs k h i × AllLand hs (suc k) (behind i h) is

there_at : (hs : List ℕ) (j k h : ℕ) (is : List Ins) → j ≡ k → There hs j h is → There hs k h is
there_at hs j k h is e t = subst (λ n. There hs n h is) e t

lands_at : (hs : List ℕ) (j k h : ℕ) (is : List Ins) → j ≡ k → AllLand hs j h is → AllLand hs k h is
lands_at hs j k h is e t = subst (λ n. AllLand hs n h is) e t

pub there_starts : (hs : List ℕ) (k h : ℕ) (is : List Ins) → There hs k h is → slice_get hs k ≡ Some h
there_starts hs k h [] t = t
there_starts hs k h (i ∷ is) t = t.0

there_ends : (hs : List ℕ) (k h : ℕ) (is : List Ins) → There hs k h is → slice_get hs (k + length is) ≡ Some (after h is)
there_ends hs k h [] t = let same : k + 0 ≡ k = omega arith in ap (slice_get hs) same ∙ t
there_ends hs k h (i ∷ is) t =
    let same : k + suc (length is) ≡ suc k + length is = omega arith in
    ap (slice_get hs) same ∙ there_ends hs (suc k) (behind i h) is t.1

pub there_first : (hs : List ℕ) (k h : ℕ) (xs ys : List Ins) → There hs k h (xs ++ ys) → There hs k h xs
there_first hs k h [] ys t = there_starts hs k h ys t
there_first hs k h (x ∷ xs) ys t = (t.0, there_first hs (suc k) (behind x h) xs ys t.1)

pub there_rest : (hs : List ℕ) (k h m g : ℕ) (xs ys : List Ins) → m ≡ k + length xs → after h xs ≡ g → There hs k h (xs ++ ys) → There hs m g ys
there_rest hs k h m g [] ys e f t = let same : k ≡ m = omega (arith, e) in subst (λ n. There hs m n ys) f (there_at hs k m h ys same t)
there_rest hs k h m g (x ∷ xs) ys e f t = there_rest hs (suc k) (behind x h) m g xs ys (omega (arith, e)) f t.1

pub lands_append : (hs : List ℕ) (k h m g : ℕ) (xs ys : List Ins) → m ≡ k + length xs → after h xs ≡ g → AllLand hs k h xs → AllLand hs m g ys → AllLand hs k h (xs ++ ys)
lands_append hs k h m g [] ys e f a b = let same : m ≡ k = omega (arith, e) in subst (λ n. AllLand hs k n ys) (sym f) (lands_at hs m k g ys same b)
lands_append hs k h m g (x ∷ xs) ys e f a b = (a.0, lands_append hs (suc k) (behind x h) m g xs ys (omega (arith, e)) f a.1 b)

-- one part behind the other
pub both_land : (hs : List ℕ) (k h m g : ℕ) (xs ys : List Ins) → m ≡ k + length xs → after h xs ≡ g → There hs k h (xs ++ ys) → (There hs k h xs → AllLand hs k h xs) → (There hs m g ys → AllLand hs m g ys) → AllLand hs k h (xs ++ ys)
both_land hs k h m g xs ys e f t a b = lands_append hs k h m g xs ys e f (a (there_first hs k h xs ys t)) (b (there_rest hs k h m g xs ys e f t))

-- an instruction, and code behind it
first_lands : (hs : List ℕ) (k h m g : ℕ) (i : Ins) (ys : List Ins) → m ≡ k + 1 → behind i h ≡ g → There hs k h (i ∷ ys) → Lands hs k h i → (There hs m g ys → AllLand hs m g ys) → AllLand hs k h (i ∷ ys)
first_lands hs k h m g i ys e f t a b = both_land hs k h m g (i ∷ []) ys (omega (arith, e)) f t (λ u. (a, tt)) b

pub some_same : {A : Type 0} (a b : A) → Some a ≡ Some b → a ≡ b
some_same a b e = cc

-- an instruction that leads to where so many are held
one_lands : (hs : List ℕ) (k h at g : ℕ) (i : Ins) → leads k i ≡ Some at → h - takes i + brings i ≡ g → slice_get hs at ≡ Some g → Lands hs k h i
one_lands hs k h at g i e f t to d = let same : at ≡ to = some_same at to (sym e ∙ d) in ap (slice_get hs) (sym same) ∙ t ∙ ap Some (sym f)

-- ---- code whose only ways are those of divisions

still_lands : (hs : List ℕ) (k h : ℕ) (i : Ins) → is_still i ≡ true → ((d : _) → i ≡ ins.DivideOr d → ⊥) → Lands hs k h i
still_lands hs k h (ins.Enter b p l r) e n to f = absurd cc
still_lands hs k h (ins.Test r w m) e n to f = absurd cc
still_lands hs k h (ins.Skip m) e n to f = absurd cc
still_lands hs k h (ins.Go at) e n to f = absurd cc
still_lands hs k h (ins.Case at) e n to f = absurd cc
still_lands hs k h (ins.CountFor j m) e n to f = absurd cc
still_lands hs k h (ins.CountTo j m) e n to f = absurd cc
still_lands hs k h (ins.TurnFor j at) e n to f = absurd cc
still_lands hs k h (ins.TurnTo j at) e n to f = absurd cc
still_lands hs k h (ins.Recover at) e n to f = absurd cc
still_lands hs k h ins.Restore e n to f = absurd cc
still_lands hs k h (ins.DivideOr d) e n to f = absurd (n d refl)
still_lands hs k h i e n to f = absurd cc

divided_lands : (hs : List ℕ) (k h : ℕ) (d : _) (is : List Ins) → reported_at (ins.DivideOr d) is ≡ true → There hs k h (ins.DivideOr d ∷ is) → Lands hs k h (ins.DivideOr d)
divided_lands hs k h d [] e t to f = absurd cc
divided_lands hs k h d (i ∷ []) e t to f = absurd cc
divided_lands hs k h d (ins.LoadOwn item.Erp ∷ ins.Report ∷ is) e t to f =
    let same : suc (suc (suc k)) ≡ to = omega (arith, some_same (k + 3) to f) in
    let held : h - 2 + 1 - 0 + 1 - 2 + 1 ≡ h - 2 + 1 = omega arith in
    ap (slice_get hs) (sym same) ∙ there_starts hs (suc (suc (suc k))) (h - 2 + 1 - 0 + 1 - 2 + 1) is t.1.1.1 ∙ ap Some held
divided_lands hs k h d (i ∷ j ∷ is) e t to f = absurd cc

still_or : (hs : List ℕ) (k h : ℕ) (i : Ins) (is : List Ins) → is_still i ≡ true → reported_at i is ≡ true → There hs k h (i ∷ is) → Lands hs k h i
still_or hs k h (ins.DivideOr d) is e f t = divided_lands hs k h d is f t
still_or hs k h i is e f t = still_lands hs k h i e (λ d g. absurd cc)

calm_by : (hs : List ℕ) (k h : ℕ) (is : List Ins) → all_still is ≡ true → reported is ≡ true → There hs k h is → AllLand hs k h is
calm_by hs k h [] e f t = tt
calm_by hs k h (i ∷ is) e f t = (still_or hs k h i is (first_true (is_still i) (all_still is) e) (first_true (reported_at i is) (reported is) f) t, calm_by hs (suc k) (behind i h) is (second_true (is_still i) (all_still is) e) (second_true (reported_at i is) (reported is) f) t.1)

calm_lands : (hs : List ℕ) (k h : ℕ) (is : List Ins) → Calm is → There hs k h is → AllLand hs k h is
calm_lands hs k h is c t = calm_by hs k h is c.still c.reported t

-- where nothing is held
abbrev pub Ground : List ℕ → ℕ → Type 0
Ground hs k = slice_get hs k ≡ Some 0

ground_at : (hs : List ℕ) (j k : ℕ) → j ≡ k → Ground hs j → Ground hs k
ground_at hs j k e g = subst (Ground hs) e g

-- a left side that leads past the right one, or on to it
sides_land : (hs : List ℕ) (at : ℕ) (xs ys : List Ins) (beyond : ℕ) → after 0 xs ≡ 0 → after 0 ys ≡ 0 → There hs at 0 (xs ++ ys) → Ground hs (at + length (xs ++ ys) + beyond)
    → (There hs at 0 xs → Ground hs (at + length xs + length ys) → Ground hs (at + length xs + (length ys + beyond)) → AllLand hs at 0 xs) → (There hs (at + length xs) 0 ys → Ground hs (at + length xs + length ys + beyond) → AllLand hs (at + length xs) 0 ys) → AllLand hs at 0 (xs ++ ys)
sides_land hs at xs ys beyond e f t g a b =
    let all = length-append xs ys in
    let right = there_rest hs at 0 (at + length xs) 0 xs ys refl e t in
    let end : Ground hs (at + length xs + length ys) = there_ends hs (at + length xs) 0 ys right ∙ ap Some f in
    let far : Ground hs (at + length xs + length ys + beyond) = ground_at hs (at + length (xs ++ ys) + beyond) (at + length xs + length ys + beyond) (omega (arith, all)) g in
    both_land hs at 0 (at + length xs) 0 xs ys refl e t (λ u. a u end (ground_at hs (at + length xs + length ys + beyond) (at + length xs + (length ys + beyond)) (omega arith) far)) (λ u. b u far)

-- two values and their test
test_lands : (hs : List ℕ) (at beyond : ℕ) (xs ys : List Ins) (i : Ins) → Calm xs → Calm ys → after 0 xs ≡ 1 → after 1 ys ≡ 2 → takes i ≡ 2 → brings i ≡ 0 → leads (at + length xs + length ys) i ≡ Some (at + length xs + length ys + 1 + beyond)
    → There hs at 0 (xs ++ (ys ++ i ∷ [])) → Ground hs (at + length (xs ++ (ys ++ i ∷ [])) + beyond) → AllLand hs at 0 (xs ++ (ys ++ i ∷ []))
test_lands hs at beyond xs ys i c d e f two none way t g =
    let far = length-append xs (ys ++ i ∷ []) in
    let more = length-append ys (i ∷ []) in
    both_land hs at 0 (at + length xs) 1 xs (ys ++ i ∷ []) refl e t (calm_lands hs at 0 xs c)
    (λ u. both_land hs (at + length xs) 1 (at + length xs + length ys) 2 ys (i ∷ []) refl f u (calm_lands hs (at + length xs) 1 ys d)
    (λ v. (one_lands hs (at + length xs + length ys) 2 (at + length xs + length ys + 1 + beyond) 0 i way (omega (arith, two, none)) (ground_at hs (at + length (xs ++ (ys ++ i ∷ [])) + beyond) (at + length xs + length ys + 1 + beyond) (omega (arith, far, more)) g), tt)))

cases_land : (hs : List ℕ) (L : Leads) → ((k : ℕ) → Ground hs (L k)) → (at : ℕ) (ks : List ℕ) → AllLand hs at 1 (cases L ks)
cases_land hs L g at [] = tt
cases_land hs L g at (k ∷ ks) = (one_lands hs at 1 (L k) 0 (ins.Case (L k)) refl refl (g k), cases_land hs L g (suc at) ks)

cases_end : (L : Leads) (ks : List ℕ) → after 1 (cases L ks) ≡ 1
cases_end L [] = refl
cases_end L (k ∷ ks) = cases_end L ks

switch_lands : (hs : List ℕ) (L : Leads) → ((k : ℕ) → Ground hs (L k)) → (at : ℕ) (xs : List Ins) (ks : List ℕ) → Calm xs → after 0 xs ≡ 1 → There hs at 0 (xs ++ (cases L ks ++ ins.Discard ∷ [])) → AllLand hs at 0 (xs ++ (cases L ks ++ ins.Discard ∷ []))
switch_lands hs L g at xs ks c e t =
    both_land hs at 0 (at + length xs) 1 xs (cases L ks ++ ins.Discard ∷ []) refl e t (calm_lands hs at 0 xs c)
    (λ u. both_land hs (at + length xs) 1 (at + length xs + length (cases L ks)) 1 (cases L ks) (ins.Discard ∷ []) refl (cases_end L ks) u (λ v. cases_land hs L g (at + length xs) ks) (calm_lands hs (at + length xs + length (cases L ks)) 1 (ins.Discard ∷ []) (plainly _ refl refl)))

-- a head, its count, a body and its turn
turns_land : (hs : List ℕ) (at : ℕ) (head body : List Ins) (count turn : Ins) → Calm head → after 0 head ≡ 1 → after 0 body ≡ 0
    → takes count ≡ 1 → leaves count ≡ 0 → brings count ≡ 0 → leads (at + length head) count ≡ Some (at + length head + 1 + (length body + 1))
    → takes turn ≡ 0 → leaves turn ≡ 0 → brings turn ≡ 0 → ((k : ℕ) → leads k turn ≡ Some (at + length head + 1))
    → There hs at 0 (head ++ (count ∷ (body ++ turn ∷ []))) → (There hs (at + length head + 1) 0 body → AllLand hs (at + length head + 1) 0 body) → AllLand hs at 0 (head ++ (count ∷ (body ++ turn ∷ [])))
turns_land hs at head body count turn c e f t1 l1 b1 w1 t2 l2 b2 w2 t go =
    let counted = there_rest hs at 0 (at + length head) 1 head (count ∷ (body ++ turn ∷ [])) refl e t in
    let none : behind count 1 ≡ 0 = omega (arith, t1, l1) in
    let still : behind turn 0 ≡ 0 = omega (arith, t2, l2) in
    let inner = there_rest hs (at + length head) 1 (at + length head + 1) 0 (count ∷ []) (body ++ turn ∷ []) refl none counted in
    let last = there_rest hs (at + length head + 1) 0 (at + length head + 1 + length body) 0 body (turn ∷ []) refl f inner in
    let top : Ground hs (at + length head + 1) = there_starts hs (at + length head + 1) 0 (body ++ turn ∷ []) inner in
    let end : Ground hs (at + length head + 1 + (length body + 1)) = ground_at hs (at + length head + 1 + length body + 1) (at + length head + 1 + (length body + 1)) (omega arith) (there_ends hs (at + length head + 1 + length body) 0 (turn ∷ []) last ∙ ap Some still) in
    both_land hs at 0 (at + length head) 1 head (count ∷ (body ++ turn ∷ [])) refl e t (calm_lands hs at 0 head c)
    (λ u. first_lands hs (at + length head) 1 (at + length head + 1) 0 count (body ++ turn ∷ []) refl none u (one_lands hs (at + length head) 1 (at + length head + 1 + (length body + 1)) 0 count w1 (omega (arith, t1, b1)) end)
    (λ v. both_land hs (at + length head + 1) 0 (at + length head + 1 + length body) 0 body (turn ∷ []) refl f v go
    (λ w. (one_lands hs (at + length head + 1 + length body) 0 (at + length head + 1) 0 turn (w2 (at + length head + 1 + length body)) (omega (arith, t2, b2)) top, tt))))

if_lands : (hs : List ℕ) (at more : ℕ) (test taken other : List Ins) → after 0 test ≡ 0 → after 0 taken ≡ 0 → after 0 other ≡ 0 → more ≡ length taken + 1 → There hs at 0 (test ++ (taken ++ (ins.Skip (length other) ∷ other)))
    → (There hs at 0 test → Ground hs (at + length test + more) → AllLand hs at 0 test) → (There hs (at + length test) 0 taken → AllLand hs (at + length test) 0 taken)
    → (There hs (at + length test + length taken + 1) 0 other → AllLand hs (at + length test + length taken + 1) 0 other) → AllLand hs at 0 (test ++ (taken ++ (ins.Skip (length other) ∷ other)))
if_lands hs at more test taken other e f g same t a b c =
    let i = ins.Skip (length other) in
    let second = there_rest hs at 0 (at + length test) 0 test (taken ++ (i ∷ other)) refl e t in
    let third = there_rest hs (at + length test) 0 (at + length test + length taken) 0 taken (i ∷ other) refl f second in
    let last = there_rest hs (at + length test + length taken) 0 (at + length test + length taken + 1) 0 (i ∷ []) other refl refl third in
    let away : Ground hs (at + length test + more) = ground_at hs (at + length test + length taken + 1) (at + length test + more) (omega (arith, same)) (there_starts hs (at + length test + length taken + 1) 0 other last) in
    let end : Ground hs (at + length test + length taken + 1 + length other) = there_ends hs (at + length test + length taken + 1) 0 other last ∙ ap Some g in
    both_land hs at 0 (at + length test) 0 test (taken ++ (i ∷ other)) refl e t (λ u. a u away)
    (λ u. both_land hs (at + length test) 0 (at + length test + length taken) 0 taken (i ∷ other) refl f u b
    (λ v. first_lands hs (at + length test + length taken) 0 (at + length test + length taken + 1) 0 i other refl refl v (one_lands hs (at + length test + length taken) 0 (at + length test + length taken + 1 + length other) 0 i refl refl end) c))

while_lands : (hs : List ℕ) (at more : ℕ) (test body : List Ins) → after 0 test ≡ 0 → after 0 body ≡ 0 → more ≡ length body + 1 → There hs at 0 (test ++ (body ++ ins.Go at ∷ []))
    → (There hs at 0 test → Ground hs (at + length test + more) → AllLand hs at 0 test) → (There hs (at + length test) 0 body → AllLand hs (at + length test) 0 body) → AllLand hs at 0 (test ++ (body ++ ins.Go at ∷ []))
while_lands hs at more test body e f same t a b =
    let i = ins.Go at in
    let second = there_rest hs at 0 (at + length test) 0 test (body ++ i ∷ []) refl e t in
    let last = there_rest hs (at + length test) 0 (at + length test + length body) 0 body (i ∷ []) refl f second in
    let away : Ground hs (at + length test + more) = ground_at hs (at + length test + length body + 1) (at + length test + more) (omega (arith, same)) (there_ends hs (at + length test + length body) 0 (i ∷ []) last) in
    both_land hs at 0 (at + length test) 0 test (body ++ i ∷ []) refl e t (λ u. a u away)
    (λ u. both_land hs (at + length test) 0 (at + length test + length body) 0 body (i ∷ []) refl f u b
    (λ v. (one_lands hs (at + length test + length body) 0 at 0 i refl refl (there_starts hs at 0 (test ++ (body ++ i ∷ [])) t), tt)))

module _ (l : Layouts) where
  head_calm : (i : ℕ) (start step end : Term) → Calm (for_head l i start step end)
  head_calm i start step end = calm_both (value l start) _ (value_calm l start) (calm_both (ins.SaveLocal i ∷ []) _ (plainly _ refl refl)
      (calm_both (value l step) _ (value_calm l step) (calm_both (ins.SaveLocal (i + 1) ∷ []) (value l end) (plainly _ refl refl) (value_calm l end))))

  condition_end : (t : Cond) → CondSound t → (w : Bool) (beyond : ℕ) → after 0 (condition l t w beyond) ≡ 0
  condition_end t s w beyond = (condition_held l t s w beyond).ends

  sequence_end : (q : Seq) → SeqSound q → (L : Leads) (at : ℕ) → after 0 (sequence l L at q) ≡ 0
  sequence_end q s L at = (sequence_held l q s L at).ends

  condition_lands : (hs : List ℕ) (t : Cond) → CondSound t → (w : Bool) (beyond at : ℕ) → There hs at 0 (condition l t w beyond) → Ground hs (at + length (condition l t w beyond) + beyond) → AllLand hs at 0 (condition l t w beyond)
  condition_lands hs (Is r a b) s w beyond at t g =
      test_lands hs at beyond (value l a) (value l b) (ins.Test r w beyond) (value_calm l a) (value_calm l b) (value_held l a s.0 0).ends (value_held l b s.1 1).ends refl refl refl t g
  condition_lands hs (Both c d) s true beyond at t g =
      let right = condition l d true beyond in
      sides_land hs at (condition l c false (length right)) right beyond (condition_end c s.0 false (length right)) (condition_end d s.1 true beyond) t g (λ u x y. condition_lands hs c s.0 false (length right) at u x) (λ u x. condition_lands hs d s.1 true beyond _ u x)
  condition_lands hs (Both c d) s false beyond at t g =
      let right = condition l d false beyond in
      sides_land hs at (condition l c false (length right + beyond)) right beyond (condition_end c s.0 false (length right + beyond)) (condition_end d s.1 false beyond) t g (λ u x y. condition_lands hs c s.0 false (length right + beyond) at u y) (λ u x. condition_lands hs d s.1 false beyond _ u x)
  condition_lands hs (Either c d) s true beyond at t g =
      let right = condition l d true beyond in
      sides_land hs at (condition l c true (length right + beyond)) right beyond (condition_end c s.0 true (length right + beyond)) (condition_end d s.1 true beyond) t g (λ u x y. condition_lands hs c s.0 true (length right + beyond) at u y) (λ u x. condition_lands hs d s.1 true beyond _ u x)
  condition_lands hs (Either c d) s false beyond at t g =
      let right = condition l d false beyond in
      sides_land hs at (condition l c true (length right)) right beyond (condition_end c s.0 true (length right)) (condition_end d s.1 false beyond) t g (λ u x y. condition_lands hs c s.0 true (length right) at u x) (λ u x. condition_lands hs d s.1 false beyond _ u x)

  mutual
    pub statement_lands : (hs : List ℕ) (L : Leads) → ((k : ℕ) → Ground hs (L k)) → (at : ℕ) (s : Stmt) → StmtSound s → There hs at 0 (statement l L at s) → AllLand hs at 0 (statement l L at s)
    statement_lands hs L g at (Keep i v) s t = calm_lands hs at 0 _ (followed_calm l v (ins.SaveLocal i) (plainly _ refl refl)) t
    statement_lands hs L g at (Clear i) s t = calm_lands hs at 0 _ (plainly (ins.ClearLocal i) refl refl) t
    statement_lands hs L g at (Put m p v) s t = calm_lands hs at 0 _ (assigned_calm l (width_of m) p v) t
    statement_lands hs L g at (Run v) s t = calm_lands hs at 0 _ (alone_calm l v) t
    statement_lands hs L g at (Toss v) s t = calm_lands hs at 0 _ (alone_calm l v) t
    statement_lands hs L g at (Goto k) s t = (one_lands hs at 0 (L k) 0 (ins.Go (L k)) refl refl (g k), tt)
    statement_lands hs L g at (GiveBack v) s t = calm_lands hs at 0 _ (followed_calm l v ins.GiveUp (plainly _ refl refl)) t
    statement_lands hs L g at Back s t = calm_lands hs at 0 _ (plainly ins.Leave refl refl) t
    statement_lands hs L g at (Switch v ks) s t = switch_lands hs L g at (value l v) ks (value_calm l v) (value_held l v s 0).ends t
    statement_lands hs L g at (Inner q) s t = sequence_lands hs L g at q s t
    statement_lands hs L g at (If c a b) s t =
        let more = extent l a + 1 in
        let test = condition l c false more in
        let taken = sequence l L (at + length test) a in
        let other = sequence l L (at + length test + length taken + 1) b in
        if_lands hs at more test taken other (condition_end c s.0 false more) (sequence_end a s.1 L _) (sequence_end b s.2 L _) (ap (λ k. k + 1) (sequence_length l nowhere L 0 (at + length test) a)) t (condition_lands hs c s.0 false more at) (sequence_lands hs L g (at + length test) a s.1) (sequence_lands hs L g (at + length test + length taken + 1) b s.2)
    statement_lands hs L g at (For i start step end q) s t =
        let head = for_head l i start step end in
        let top = at + length head + 1 in
        let body = sequence l L top q in
        turns_land hs at head body (ins.CountFor i (length body + 1)) (ins.TurnFor i top) (head_calm i start step end) (head_ends l i start step end s.0 s.1 s.2) (sequence_end q s.3 L top) refl refl refl refl refl refl refl (λ k. refl) t (sequence_lands hs L g top q s.3)
    statement_lands hs L g at (To i n q) s t =
        let head = value l n in
        let top = at + length head + 1 in
        let body = sequence l L top q in
        turns_land hs at head body (ins.CountTo i (length body + 1)) (ins.TurnTo i top) (value_calm l n) (value_held l n s.0 0).ends (sequence_end q s.1 L top) refl refl refl refl refl refl refl (λ k. refl) t (sequence_lands hs L g top q s.1)
    statement_lands hs L g at (While c q) s t =
        let more = extent l q + 1 in
        let test = condition l c false more in
        while_lands hs at more test (sequence l L (at + length test) q) (condition_end c s.0 false more) (sequence_end q s.1 L _) (ap (λ k. k + 1) (sequence_length l nowhere L 0 (at + length test) q)) t (condition_lands hs c s.0 false more at) (sequence_lands hs L g (at + length test) q s.1)
    statement_lands hs L g at (Recover k) s t = tt

    pub sequence_lands : (hs : List ℕ) (L : Leads) → ((k : ℕ) → Ground hs (L k)) → (at : ℕ) (q : Seq) → SeqSound q → There hs at 0 (sequence l L at q) → AllLand hs at 0 (sequence l L at q)
    sequence_lands hs L g at Done s t = tt
    sequence_lands hs L g at (Then a q) s t =
        let first = statement l L at a in
        both_land hs at 0 (at + length first) 0 first (sequence l L (at + length first) q) refl (statement_held l a s.0 L at).ends t (statement_lands hs L g at a s.0) (sequence_lands hs L g (at + length first) q s.1)
    sequence_lands hs L g at (Mark k q) s t = sequence_lands hs L g at q s t
