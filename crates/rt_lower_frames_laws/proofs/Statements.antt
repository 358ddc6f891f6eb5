-- The code of conditions and statements begins and ends with no value held.
use Rattle.std.proofs.Common.{◌≡◌, ℕ, suc, ◌+◌, ◌≤◌, Bool, true, false, List, [], ◌∷◌, ◌++◌, max, refl, ap, ◌∙◌, subst, arith}
use Rattle.std.proofs.lemmas.List.{append-nil, append_assoc}
use Rattle.rt_tree_nodes.specs.Tree.{Term, Cond, Is, Both, Either, Stmt, Keep, Clear, Put, Run, Toss, Goto, GiveBack, Back, Switch, Inner, If, For, To, While, Recover, Seq, Done, Then, Mark}
use Rattle.rt_tree.specs.Depth.{depth, address_depth, condition_depth, statement_depth, sequence_depth}
use Rattle.rt_frames.specs.declared.frame.CallPoint.{CallPoint}
use Rattle.rt_frames.specs.Points.{waits}
use Rattle.rt_frames.proofs.Under.{depth_some}
use Rattle.rt_frames_laws.specs.Plain.{term_points, path_points, condition_points, statement_points, sequence_points}
use Rattle.rt_icode.specs.declared.ins.Ins.{Ins}
use Rattle.rt_icode.specs.declared.ins.Ins.TheVariants as ins
use Rattle.rt_lower.specs.declared.layouts.Layouts.{Layouts}
use Rattle.rt_lower.specs.Values.{width_of, site_of, value, address}
use Rattle.rt_lower.specs.Code.{Leads, cases, condition, for_head, statement, sequence}
use Rattle.rt_lower_frames_laws.specs.Heights.{takes, leaves, points_at}
use Rattle.rt_lower_frames_laws.proofs.Held.{after, Held, held_more, held_both, held_none, held_one, held_then, held_first}
use Rattle.rt_lower_frames_laws.proofs.Sound.{CondSound, StmtSound, SeqSound, TermSound}
use Rattle.rt_lower_frames_laws.proofs.Values.{value_held, place_sited, place_held, alone_held, assigned_held}

-- two parts of which each begins and ends with nothing
rows_held : (a b : ℕ) (xs ys : List Ins) (ps qs : List CallPoint) → Held 0 0 a xs ps → Held 0 0 b ys qs → Held 0 0 (max a b) (xs ++ ys) (ps ++ qs)
rows_held a b xs ys ps qs e f = held_both 0 0 0 0 a b (max a b) xs ys ps qs refl (grind arith) (grind arith) e f

-- an instruction that finds nothing and leaves nothing
still_held : (i : Ins) (most : ℕ) → points_at i 0 ≡ [] → takes i ≡ 0 → leaves i ≡ 0 → Held 0 0 most (i ∷ []) []
still_held i most none t k = held_one 0 0 most i none (omega (arith, t)) (omega (arith, t, k)) (omega arith) (omega arith)

-- code that ends with nothing, and an instruction that finds nothing behind it
then_still : (most : ℕ) (xs : List Ins) (i : Ins) (ps : List CallPoint) → Held 0 0 most xs ps → points_at i 0 ≡ [] → takes i ≡ 0 → leaves i ≡ 0 → Held 0 0 most (xs ++ i ∷ []) ps
then_still most xs i ps e none t k = held_then 0 0 0 most most xs i ps e (omega arith) none (omega (arith, t)) (omega (arith, t, k)) (omega arith)

first_still : (most : ℕ) (i : Ins) (ys : List Ins) (ps : List CallPoint) → points_at i 0 ≡ [] → takes i ≡ 0 → leaves i ≡ 0 → Held 0 0 most ys ps → Held 0 0 most (i ∷ ys) ps
first_still most i ys ps none t k e = held_first 0 0 0 most most i ys ps none (omega (arith, t)) (omega (arith, t, k)) (omega arith) (omega arith) (omega arith) e

-- a count takes what its head leaves, and a body and a turn stand behind it
turns_held : (a b : ℕ) (head body : List Ins) (count turn : Ins) (ps qs : List CallPoint) → Held 0 1 a head ps → Held 0 0 b body qs → points_at count 1 ≡ [] → takes count ≡ 1 → leaves count ≡ 0 → points_at turn 0 ≡ [] → takes turn ≡ 0 → leaves turn ≡ 0
    → Held 0 0 (max a b) (head ++ (count ∷ (body ++ turn ∷ []))) (ps ++ qs)
turns_held a b head body count turn ps qs e f n1 t1 k1 n2 t2 k2 =
    let low : a ≤ max a b = grind arith in
    let high : b ≤ max a b = grind arith in
    held_both 0 1 1 0 a (max a b) (max a b) head (count ∷ (body ++ turn ∷ [])) ps qs refl low (omega arith) e
    (held_first 1 0 0 b (max a b) count (body ++ turn ∷ []) qs n1 (omega (arith, t1)) (omega (arith, t1, k1)) (omega (arith, low, e.small)) (omega arith) high
    (then_still b body turn qs f n2 t2 k2))

cases_held : (L : Leads) (ks : List ℕ) (most : ℕ) → 1 ≤ most → Held 1 1 most (cases L ks) []
cases_held L [] most e = held_none 1 most e
cases_held L (k ∷ ks) most e = held_first 1 1 1 most most (ins.Case (L k)) (cases L ks) [] refl (omega arith) refl e e (omega arith) (cases_held L ks most e)

-- two values and their test
tested_held : (a b : ℕ) (xs ys : List Ins) (i : Ins) (ps qs : List CallPoint) → Held 0 1 (0 + a) xs ps → Held 1 2 (1 + b) ys qs → points_at i 2 ≡ [] → takes i ≡ 2 → leaves i ≡ 0 → Held 0 0 (max a (suc b)) (xs ++ (ys ++ i ∷ [])) (ps ++ qs)
tested_held a b xs ys i ps qs e f none t k =
    let low : 0 + a ≤ max a (suc b) = grind arith in
    let high : 1 + b ≤ max a (suc b) = grind arith in
    held_both 0 1 1 0 (0 + a) (max a (suc b)) (max a (suc b)) xs (ys ++ i ∷ []) ps qs refl low (omega arith) e (held_then 1 2 0 (1 + b) (max a (suc b)) ys i qs f high none (omega (arith, t)) (omega (arith, t, k)) (omega arith))

-- a value that a local or nothing takes
taken_held : (d most : ℕ) (xs : List Ins) (i : Ins) (ps : List CallPoint) → d ≤ most → Held 0 1 (0 + d) xs ps → points_at i 1 ≡ [] → takes i ≡ 1 → leaves i ≡ 0 → Held 0 0 most (xs ++ i ∷ []) ps
taken_held d most xs i ps l e none t k = held_then 0 1 0 (0 + d) most xs i ps e (omega (arith, l)) none (omega (arith, t)) (omega (arith, t, k)) (omega arith)

-- a start and a step that locals take, and an end that is left
header_held : (a b c : ℕ) (xs ys zs : List Ins) (i j : Ins) (ps qs rs : List CallPoint) → Held 0 1 (0 + a) xs ps → Held 0 1 (0 + b) ys qs → Held 0 1 (0 + c) zs rs → points_at i 1 ≡ [] → takes i ≡ 1 → leaves i ≡ 0 → points_at j 1 ≡ [] → takes j ≡ 1 → leaves j ≡ 0
    → Held 0 1 (max a (max b c)) (xs ++ (i ∷ (ys ++ (j ∷ zs)))) (ps ++ (qs ++ rs))
header_held a b c xs ys zs i j ps qs rs e f g n1 t1 k1 n2 t2 k2 =
    let first : 0 + a ≤ max a (max b c) = grind arith in
    let second : 0 + b ≤ max a (max b c) = grind arith in
    let third : 0 + c ≤ max a (max b c) = grind arith in
    let one : 1 ≤ max a (max b c) = omega (arith, first, e.small) in
    held_both 0 1 1 1 (0 + a) (max a (max b c)) (max a (max b c)) xs (i ∷ (ys ++ (j ∷ zs))) ps (qs ++ rs) refl first (omega arith) e
    (held_first 1 0 1 (max a (max b c)) (max a (max b c)) i (ys ++ (j ∷ zs)) (qs ++ rs) n1 (omega (arith, t1)) (omega (arith, t1, k1)) one (omega arith) (omega arith)
    (held_both 0 1 1 1 (0 + b) (max a (max b c)) (max a (max b c)) ys (j ∷ zs) qs rs refl second (omega arith) f
    (held_first 1 0 1 (0 + c) (max a (max b c)) j zs rs n2 (omega (arith, t2)) (omega (arith, t2, k2)) one (omega arith) third g)))

three_append : {A : Type 0} (a b c d : List A) → (a ++ (b ++ c)) ++ d ≡ a ++ (b ++ (c ++ d))
three_append a b c d = append_assoc a (b ++ c) d ∙ ap (λ xs. a ++ xs) (append_assoc b c d)

-- a switch: its number stays until a label is met, or all are passed
switch_held : (d : ℕ) (xs : List Ins) (L : Leads) (ks : List ℕ) (ps : List CallPoint) → Held 0 1 (0 + d) xs ps → Held 0 0 d (xs ++ (cases L ks ++ ins.Discard ∷ [])) ps
switch_held d xs L ks ps e =
    let one : 1 ≤ d = omega (arith, e.small) in
    subst (λ qs. Held 0 0 d (xs ++ (cases L ks ++ ins.Discard ∷ [])) qs) (append-nil ps)
    (held_both 0 1 1 0 (0 + d) d d xs (cases L ks ++ ins.Discard ∷ []) ps [] refl (omega arith) (omega arith) e (held_then 1 1 0 d d (cases L ks) ins.Discard [] (cases_held L ks d one) (omega arith) refl (omega arith) refl (omega arith)))

module _ (l : Layouts) where
  pub condition_held : (t : Cond) → CondSound t → (w : Bool) (beyond : ℕ) → Held 0 0 (condition_depth t) (condition l t w beyond) (condition_points t)
  condition_held (Is r a b) s w beyond = tested_held (depth a) (depth b) (value l a) (value l b) (ins.Test r w beyond) (term_points a 0) (term_points b 1) (value_held l a s.0 0) (value_held l b s.1 1) refl refl refl
  condition_held (Both t u) s true beyond = rows_held (condition_depth t) (condition_depth u) _ _ (condition_points t) (condition_points u) (condition_held t s.0 false _) (condition_held u s.1 true beyond)
  condition_held (Both t u) s false beyond = rows_held (condition_depth t) (condition_depth u) _ _ (condition_points t) (condition_points u) (condition_held t s.0 false _) (condition_held u s.1 false beyond)
  condition_held (Either t u) s true beyond = rows_held (condition_depth t) (condition_depth u) _ _ (condition_points t) (condition_points u) (condition_held t s.0 true _) (condition_held u s.1 true beyond)
  condition_held (Either t u) s false beyond = rows_held (condition_depth t) (condition_depth u) _ _ (condition_points t) (condition_points u) (condition_held t s.0 true _) (condition_held u s.1 false beyond)

  head_held : (i : ℕ) (start step end : Term) → TermSound start → TermSound step → TermSound end
      → Held 0 1 (max (depth start) (max (depth step) (depth end))) (for_head l i start step end) (term_points start 0 ++ (term_points step 0 ++ term_points end 0))
  head_held i start step end s t u =
      header_held (depth start) (depth step) (depth end) (value l start) (value l step) (value l end) (ins.SaveLocal i) (ins.SaveLocal (i + 1)) (term_points start 0) (term_points step 0) (term_points end 0) (value_held l start s 0) (value_held l step t 0) (value_held l end u 0) refl refl refl refl refl refl

  pub head_ends : (i : ℕ) (start step end : Term) → TermSound start → TermSound step → TermSound end → after 0 (for_head l i start step end) ≡ 1
  head_ends i start step end s t u = (head_held i start step end s t u).ends

  mutual
    pub statement_held : (s : Stmt) → StmtSound s → (L : Leads) (at : ℕ) → Held 0 0 (statement_depth s) (statement l L at s) (statement_points s)
    statement_held (Keep i v) s L at = taken_held (depth v) (depth v) (value l v) (ins.SaveLocal i) (term_points v 0) (omega arith) (value_held l v s 0) refl refl refl
    statement_held (Clear i) s L at = still_held (ins.ClearLocal i) 0 refl refl refl
    statement_held (Put m q v) s L at =
        assigned_held l (site_of l q) (address_depth q) (depth v) (width_of m) (address l q) (value l v) (path_points q 0) (term_points v (waits (address_depth q))) (place_sited l q s.0) (depth_some v) (place_held l q s.0 0) (value_held l v s.1 (waits (address_depth q)))
    statement_held (Run v) s L at = alone_held l v s
    statement_held (Toss v) s L at = alone_held l v s
    statement_held (Goto k) s L at = still_held (ins.Go (L k)) 0 refl refl refl
    statement_held (GiveBack v) s L at = taken_held (depth v) (depth v) (value l v) ins.GiveUp (term_points v 0) (omega arith) (value_held l v s 0) refl refl refl
    statement_held Back s L at = still_held ins.Leave 0 refl refl refl
    statement_held (Switch v ks) s L at = switch_held (depth v) (value l v) L ks (term_points v 0) (value_held l v s 0)
    statement_held (Inner q) s L at = sequence_held q s L at
    statement_held (If t a b) s L at =
        rows_held (condition_depth t) (max (sequence_depth a) (sequence_depth b)) _ _ (condition_points t) (sequence_points a ++ sequence_points b) (condition_held t s.0 false _)
        (rows_held (sequence_depth a) (sequence_depth b) _ _ (sequence_points a) (sequence_points b) (sequence_held a s.1 L _) (first_still (sequence_depth b) (ins.Skip _) _ (sequence_points b) refl refl refl (sequence_held b s.2 L _)))
    statement_held (For i start step end q) s L at =
        subst (λ ps. Held 0 0 (statement_depth (For i start step end q)) (statement l L at (For i start step end q)) ps) (three_append (term_points start 0) (term_points step 0) (term_points end 0) (sequence_points q))
        (turns_held (max (depth start) (max (depth step) (depth end))) (sequence_depth q) (for_head l i start step end) _ (ins.CountFor i _) (ins.TurnFor i _) (term_points start 0 ++ (term_points step 0 ++ term_points end 0)) (sequence_points q)
        (head_held i start step end s.0 s.1 s.2)
        (sequence_held q s.3 L _) refl refl refl refl refl refl)
    statement_held (To i n q) s L at =
        turns_held (depth n) (sequence_depth q) (value l n) _ (ins.CountTo i _) (ins.TurnTo i _) (term_points n 0) (sequence_points q) (held_more 0 1 (0 + depth n) (depth n) (value l n) (term_points n 0) (omega arith) (value_held l n s.0 0)) (sequence_held q s.1 L _) refl refl refl refl refl refl
    statement_held (While t q) s L at =
        rows_held (condition_depth t) (sequence_depth q) _ _ (condition_points t) (sequence_points q) (condition_held t s.0 false _) (then_still (sequence_depth q) _ (ins.Go at) (sequence_points q) (sequence_held q s.1 L _) refl refl refl)
    statement_held (Recover k) s L at = held_none 0 0 (omega arith)

    pub sequence_held : (q : Seq) → SeqSound q → (L : Leads) (at : ℕ) → Held 0 0 (sequence_depth q) (sequence l L at q) (sequence_points q)
    sequence_held Done s L at = held_none 0 0 (omega arith)
    sequence_held (Then a q) s L at = rows_held (statement_depth a) (sequence_depth q) _ _ (statement_points a) (sequence_points q) (statement_held a s.0 L at) (sequence_held q s.1 L _)
    sequence_held (Mark k q) s L at = sequence_held q s L at
