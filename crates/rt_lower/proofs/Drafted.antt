-- What is written of conditions and statements becomes their code.
use Rattle.std.proofs.Common.{◌≡◌, ℕ, ◌+◌, Bool, true, false, List, [], ◌∷◌, ◌++◌, length, map, refl, sym, ap, ◌∙◌, append_assoc, arith, length-append}
use Rattle.std.proofs.lemmas.List.{append-nil}
use Rattle.rt_tree_nodes.specs.Tree.{Term, Cond, Is, Both, Either, Stmt, Keep, Clear, Put, Run, Toss, Goto, GiveBack, Back, Switch, Inner, If, For, To, While, Recover, Seq, Done, Then, Mark}
use Rattle.rt_icode.specs.declared.ins.Ins.{Ins}
use Rattle.rt_icode.specs.declared.ins.Ins.TheVariants as ins
use Rattle.rt_lower.specs.declared.draft.Draft.{Draft}
use Rattle.rt_lower.specs.declared.draft.Piece.{Piece}
use Rattle.rt_lower.specs.declared.draft.Piece.TheVariants as piece
use Rattle.rt_lower.specs.declared.layouts.Layouts.{Layouts}
use Rattle.rt_lower.specs.Values.{value}
use Rattle.rt_lower.specs.Code as code
use Rattle.rt_lower.specs.Code.{Leads, nowhere, cases, for_head, extent}
use Rattle.rt_lower.specs.Drafts.{put, add, opened, here, note, laid, left_out, condition, side, statement, arm, otherwise, sequence}
use Rattle.rt_lower.proofs.Laying.{Places, Drafts, Always, puts, stays, adds, grows, thens, same, closes, noted_before}
use Rattle.rt_lower.proofs.Lengths.{sequence_length}

one_more : (d : Draft) (x : Piece) → length (add (x ∷ []) d).code ≡ length d.code + 1
one_more d x = omega (arith, length-append d.code (x ∷ []))

-- so many instructions behind instruction k
leaves_out : (k at n : ℕ) → at ≡ k + 1 + n → left_out k at ≡ n
leaves_out k at n e = omega arith

module _ (l : Layouts) where
  -- the end of a condition, and the place to which it goes
  abbrev CondPlaces : Draft → ℕ → ℕ → ℕ → Places → Type 0
  CondPlaces e to end beyond E = (E to ≡ length e.code + beyond) × (E end ≡ length e.code)

  abbrev Leading : Draft → ℕ → ℕ → Places → Type 0
  Leading e to beyond E = E to ≡ length e.code + beyond

  -- the same with a place of its own for the end
  side_of : (t : Cond) (w : Bool) (to beyond : ℕ) (d : Draft)
      → Drafts (opened d) (condition l t w to (length d.places) (opened d)) (CondPlaces (condition l t w to (length d.places) (opened d)) to (length d.places) beyond) (λ L. code.condition l t w beyond)
      → Drafts d (side l t w to d) (Leading (side l t w to d) to beyond) (λ L. code.condition l t w beyond)
  side_of t w to beyond d a =
      let e = condition l t w to (length d.places) (opened d) in
      closes d e (CondPlaces e to (length d.places) beyond) (Leading (side l t w to d) to beyond) (λ L. code.condition l t w beyond) a (λ E h q. (q, h))

  -- a left side, and a right one behind it
  rows : (t : Cond) (v : Bool) (at : ℕ) (u : Cond) (w : Bool) (to end beyond more : ℕ) (d : Draft)
      → ((E : Places) (n : ℕ) → E to ≡ n + length (code.condition l u w beyond) + beyond → E end ≡ n + length (code.condition l u w beyond) → E at ≡ n + more)
      → Drafts d (side l t v at d) (Leading (side l t v at d) at more) (λ L. code.condition l t v more)
      → Drafts (side l t v at d) (condition l u w to end (side l t v at d)) (CondPlaces (condition l u w to end (side l t v at d)) to end beyond) (λ L. code.condition l u w beyond)
      → Drafts d (condition l u w to end (side l t v at d)) (CondPlaces (condition l u w to end (side l t v at d)) to end beyond) (λ L. code.condition l t v more ++ code.condition l u w beyond)
  rows t v at u w to end beyond more d h a b =
      let x = side l t v at d in
      let e = condition l u w to end x in
      let far : length e.code ≡ length x.code + length (code.condition l u w beyond) = grows x e (CondPlaces e to end beyond) (λ L. code.condition l u w beyond) nowhere b in
      thens d x e (Leading x at more) (CondPlaces e to end beyond) (CondPlaces e to end beyond) (λ L. code.condition l t v more) (λ L. code.condition l u w beyond) a b
      (λ E r. h E (length x.code) (omega (arith, r.0)) (omega (arith, r.1))) (λ E r. r)

  pub condition_drafts : (t : Cond) (w : Bool) (to end beyond : ℕ) (d : Draft) → Drafts d (condition l t w to end d) (CondPlaces (condition l t w to end d) to end beyond) (λ L. code.condition l t w beyond)
  condition_drafts (Is r a b) w to end beyond d =
      let vs = value l a ++ value l b in
      let x = put vs d in
      let e = add (piece.Test r w to ∷ []) x in
      let last : length e.code ≡ length x.code + 1 = one_more x (piece.Test r w to) in
      same d e (CondPlaces e to end beyond) (λ L. vs ++ ins.Test r w beyond ∷ []) (λ L. code.condition l (Is r a b) w beyond) (λ L. append_assoc (value l a) (value l b) (ins.Test r w beyond ∷ []))
      (thens d x e Always (CondPlaces e to end beyond) (CondPlaces e to end beyond) (λ L. vs) (λ L. ins.Test r w beyond ∷ []) (puts vs d)
      (adds (piece.Test r w to) x (CondPlaces e to end beyond) (λ L. ins.Test r w beyond) (λ E L p. ap (λ n. ins.Test r w n) (leaves_out (length x.code) (E to) beyond (omega (arith, p.0)))))
      (λ E p. tt) (λ E p. p))
  condition_drafts (Both t u) true to end beyond d =
      let more = length (code.condition l u true beyond) in
      rows t false end u true to end beyond more d (λ E n p q. q) (side_of t false end more d (condition_drafts t false end (length d.places) more (opened d)))
      (condition_drafts u true to end beyond (side l t false end d))
  condition_drafts (Both t u) false to end beyond d =
      let more = length (code.condition l u false beyond) + beyond in
      rows t false to u false to end beyond more d (λ E n p q. omega (arith, p)) (side_of t false to more d (condition_drafts t false to (length d.places) more (opened d)))
      (condition_drafts u false to end beyond (side l t false to d))
  condition_drafts (Either t u) true to end beyond d =
      let more = length (code.condition l u true beyond) + beyond in
      rows t true to u true to end beyond more d (λ E n p q. omega (arith, p)) (side_of t true to more d (condition_drafts t true to (length d.places) more (opened d)))
      (condition_drafts u true to end beyond (side l t true to d))
  condition_drafts (Either t u) false to end beyond d =
      let more = length (code.condition l u false beyond) in
      rows t true end u false to end beyond more d (λ E n p q. q) (side_of t true end more d (condition_drafts t true end (length d.places) more (opened d)))
      (condition_drafts u false to end beyond (side l t true end d))

  pub side_drafts : (t : Cond) (w : Bool) (to beyond : ℕ) (d : Draft) → Drafts d (side l t w to d) (Leading (side l t w to d) to beyond) (λ L. code.condition l t w beyond)
  side_drafts t w to beyond d = side_of t w to beyond d (condition_drafts t w to (length d.places) beyond (opened d))

  -- ---- statements

  cases_draft : (ks : List ℕ) (d : Draft) → Drafts d (add (map piece.Case ks) d) Always (λ L. cases L ks)
  cases_draft [] d = record { pieces = []; ps = []; code = refl; places = sym (append-nil d.places); size = λ L. refl; right = λ E L h p. refl }
  cases_draft (k ∷ ks) d =
      let x = add (piece.Case k ∷ []) d in
      let a = adds (piece.Case k) d Always (λ L. ins.Case (L k)) (λ E L p. refl) in
      let b = thens d x (add (map piece.Case ks) x) Always Always Always (λ L. ins.Case (L k) ∷ []) (λ L. cases L ks) a (cases_draft ks x) (λ E p. tt) (λ E p. tt) in
      record { pieces = b.pieces; ps = b.ps; code = sym (append_assoc d.code (piece.Case k ∷ []) (map piece.Case ks)) ∙ b.code; places = b.places; size = b.size; right = b.right }

  switch_drafts : (v : Term) (ks : List ℕ) (d : Draft) (at : ℕ) → Drafts d (statement l (Switch v ks) d) Always (λ L. code.statement l L at (Switch v ks))
  switch_drafts v ks d at =
      let x = put (value l v) d in
      let y = add (map piece.Case ks) x in
      thens d x (put (ins.Discard ∷ []) y) Always Always Always (λ L. value l v) (λ L. cases L ks ++ ins.Discard ∷ []) (puts (value l v) d)
      (thens x y (put (ins.Discard ∷ []) y) Always Always Always (λ L. cases L ks) (λ L. ins.Discard ∷ []) (cases_draft ks x) (puts (ins.Discard ∷ []) y) (λ E p. tt) (λ E p. tt))
      (λ E p. tt) (λ E p. tt)

  -- ---- IF: one part after the other, where those inside it are written

  arm_drafts : (end : ℕ) (t : Cond) (a : Seq) (rest : ℕ) (d : Draft)
      → Drafts (side l t false (length d.places) (opened d)) (sequence l a (side l t false (length d.places) (opened d))) Always (λ L. code.sequence l L (length (side l t false (length d.places) (opened d)).code) a)
      → Drafts d (arm l end t (sequence l a) d) (Leading (arm l end t (sequence l a) d) end rest)
      (λ L. code.condition l t false (extent l a + 1) ++ (code.sequence l L (length d.code + length (code.condition l t false (extent l a + 1))) a ++ ins.Skip rest ∷ []))
  arm_drafts end t a rest d b =
      let n = length d.places in
      let o = opened d in
      let x = side l t false n o in
      let y = sequence l a x in
      let e = add (piece.Skip end ∷ []) y in
      let test = code.condition l t false (extent l a + 1) in
      let sides = side_drafts t false n (extent l a + 1) o in
      let begins : length x.code ≡ length d.code + length test = grows o x (Leading x n (extent l a + 1)) (λ L. test) nowhere sides in
      let taken : length y.code ≡ length x.code + extent l a = grows x y Always (λ L. code.sequence l L (length x.code) a) nowhere b ∙ ap (λ k. length x.code + k) (sequence_length l nowhere nowhere (length x.code) 0 a) in
      let last : length e.code ≡ length y.code + 1 = one_more y (piece.Skip end) in
      let P = λ (E : Places). (E n ≡ length e.code) × (E end ≡ length e.code + rest) in
      let skips = adds (piece.Skip end) y P (λ L. ins.Skip rest) (λ E L p. ap (λ k. ins.Skip k) (leaves_out (length y.code) (E end) rest (omega (arith, p.1)))) in
      let behind = thens x y e Always P P (λ L. code.sequence l L (length x.code) a) (λ L. ins.Skip rest ∷ []) b skips (λ E p. tt) (λ E p. p) in
      let all = thens o x e (Leading x n (extent l a + 1)) P P (λ L. test) (λ L. code.sequence l L (length x.code) a ++ ins.Skip rest ∷ []) sides behind (λ E p. omega (arith, p.0)) (λ E p. p) in
      same d (arm l end t (sequence l a) d) (Leading (arm l end t (sequence l a) d) end rest) (λ L. test ++ (code.sequence l L (length x.code) a ++ ins.Skip rest ∷ [])) _
      (λ L. ap (λ k. test ++ (code.sequence l L k a ++ ins.Skip rest ∷ [])) begins)
      (closes d e P (Leading (arm l end t (sequence l a) d) end rest) (λ L. test ++ (code.sequence l L (length x.code) a ++ ins.Skip rest ∷ [])) all (λ E h q. (h, q)))

  -- an arm, and what stands behind ELSE
  arms_draft : (end : ℕ) (t : Cond) (a b : Seq) (d e : Draft)
      → Drafts d (arm l end t (sequence l a) d) (Leading (arm l end t (sequence l a) d) end (extent l b))
      (λ L. code.condition l t false (extent l a + 1) ++ (code.sequence l L (length d.code + length (code.condition l t false (extent l a + 1))) a ++ ins.Skip (extent l b) ∷ []))
      → Drafts (arm l end t (sequence l a) d) e (λ E. E end ≡ length e.code) (λ L. code.sequence l L (length (arm l end t (sequence l a) d).code) b)
      → Drafts d e (λ E. E end ≡ length e.code) (λ L. code.statement l L (length d.code) (If t a b))
  arms_draft end t a b d e first others =
      let x = arm l end t (sequence l a) d in
      let test = code.condition l t false (extent l a + 1) in
      let P = λ (E : Places). E end ≡ length e.code in
      let taken = λ (L : Leads). code.sequence l L (length d.code + length test) a in
      let other = λ (L : Leads). code.sequence l L (length x.code) b in
      let head = λ (L : Leads). test ++ (taken L ++ ins.Skip (extent l b) ∷ []) in
      let far : length e.code ≡ length x.code + extent l b = grows x e P other nowhere others ∙ ap (λ k. length x.code + k) (sequence_length l nowhere nowhere (length x.code) 0 b) in
      let begins : (L : Leads) → length x.code ≡ length d.code + length test + length (taken L) + 1 =
      λ L. omega (arith, grows d x (Leading x end (extent l b)) head L first, length-append test (taken L ++ ins.Skip (extent l b) ∷ []), length-append (taken L) (ins.Skip (extent l b) ∷ [])) in
      same d e P (λ L. head L ++ other L) (λ L. code.statement l L (length d.code) (If t a b))
      (λ L. append_assoc test (taken L ++ ins.Skip (extent l b) ∷ []) (other L)
      ∙ ap (λ v. test ++ v) (append_assoc (taken L) (ins.Skip (extent l b) ∷ []) (other L))
      ∙ ap (λ k. test ++ (taken L ++ (ins.Skip k ∷ other L))) (sequence_length l nowhere L 0 (length x.code) b)
      ∙ ap (λ k. test ++ (taken L ++ (ins.Skip (length (code.sequence l L k b)) ∷ code.sequence l L k b))) (begins L))
      (thens d x e (Leading x end (extent l b)) P P head other first others (λ E p. omega (arith, p)) (λ E p. p))

  -- ---- loops

  -- the head of a loop, its count, its body and its turn
  turns_draft : (head : List Ins) (x : Piece) (count turn : ℕ → Ins) (q : Seq) (d : Draft) → ((E : Places) (L : Leads) (k : ℕ) → laid E L k x ≡ count (left_out k (E (length d.places))))
      → Drafts (add (x ∷ []) (put head (opened d))) (sequence l q (add (x ∷ []) (put head (opened d)))) Always (λ L. code.sequence l L (length (add (x ∷ []) (put head (opened d))).code) q)
      → Drafts d (here (length d.places) (put (turn (length (add (x ∷ []) (put head (opened d))).code) ∷ []) (sequence l q (add (x ∷ []) (put head (opened d)))))) Always
      (λ L. head ++ (count (length (code.sequence l L (length d.code + length head + 1) q) + 1) ∷ (code.sequence l L (length d.code + length head + 1) q ++ turn (length d.code + length head + 1) ∷ [])))
  turns_draft head x count turn q d h b =
      let n = length d.places in
      let o = opened d in
      let y = put head o in
      let ready = add (x ∷ []) y in
      let z = sequence l q ready in
      let top = length ready.code in
      let f = put (turn top ∷ []) z in
      let P = λ (E : Places). E n ≡ length f.code in
      let begins : length y.code ≡ length d.code + length head = grows o y Always (λ L. head) nowhere (puts head o) in
      let behind : length ready.code ≡ length d.code + length head + 1 = omega (arith, one_more y x) in
      let body : length z.code ≡ length ready.code + extent l q = grows ready z Always (λ L. code.sequence l L top q) nowhere b ∙ ap (λ k. length ready.code + k) (sequence_length l nowhere nowhere top 0 q) in
      let last : length f.code ≡ length z.code + 1 = one_more z (piece.Whole (turn top)) in
      let counts = adds x y P (λ L. count (extent l q + 1)) (λ E L p. h E L (length y.code) ∙ ap count (leaves_out (length y.code) (E n) (extent l q + 1) (omega (arith, p, one_more y x)))) in
      let turned = thens ready z f Always Always P (λ L. code.sequence l L top q) (λ L. turn top ∷ []) b (puts (turn top ∷ []) z) (λ E p. tt) (λ E p. tt) in
      let counted = thens y ready f P P P (λ L. count (extent l q + 1) ∷ []) (λ L. code.sequence l L top q ++ turn top ∷ []) counts turned (λ E p. p) (λ E p. p) in
      let all = thens o y f Always P P (λ L. head) (λ L. count (extent l q + 1) ∷ (code.sequence l L top q ++ turn top ∷ [])) (puts head o) counted (λ E p. tt) (λ E p. p) in
      same d (here n f) Always (λ L. head ++ (count (extent l q + 1) ∷ (code.sequence l L top q ++ turn top ∷ []))) _
      (λ L. ap (λ k. head ++ (count (extent l q + 1) ∷ (code.sequence l L k q ++ turn k ∷ []))) behind
      ∙ ap (λ k. head ++ (count (k + 1) ∷ (code.sequence l L (length d.code + length head + 1) q ++ turn (length d.code + length head + 1) ∷ []))) (sequence_length l nowhere L 0 (length d.code + length head + 1) q))
      (closes d f P Always (λ L. head ++ (count (extent l q + 1) ∷ (code.sequence l L top q ++ turn top ∷ []))) all (λ E h q. h))

  while_drafts : (t : Cond) (q : Seq) (d : Draft)
      → Drafts (side l t false (length d.places) (opened d)) (sequence l q (side l t false (length d.places) (opened d))) Always (λ L. code.sequence l L (length (side l t false (length d.places) (opened d)).code) q)
      → Drafts d (statement l (While t q) d) Always (λ L. code.statement l L (length d.code) (While t q))
  while_drafts t q d b =
      let n = length d.places in
      let o = opened d in
      let x = side l t false n o in
      let y = sequence l q x in
      let go = ins.Go (length d.code) in
      let f = put (go ∷ []) y in
      let test = code.condition l t false (extent l q + 1) in
      let P = λ (E : Places). E n ≡ length f.code in
      let sides = side_drafts t false n (extent l q + 1) o in
      let begins : length x.code ≡ length d.code + length test = grows o x (Leading x n (extent l q + 1)) (λ L. test) nowhere sides in
      let body : length y.code ≡ length x.code + extent l q = grows x y Always (λ L. code.sequence l L (length x.code) q) nowhere b ∙ ap (λ k. length x.code + k) (sequence_length l nowhere nowhere (length x.code) 0 q) in
      let last : length f.code ≡ length y.code + 1 = one_more y (piece.Whole go) in
      let goes = thens x y f Always Always P (λ L. code.sequence l L (length x.code) q) (λ L. go ∷ []) b (puts (go ∷ []) y) (λ E p. tt) (λ E p. tt) in
      let all = thens o x f (Leading x n (extent l q + 1)) P P (λ L. test) (λ L. code.sequence l L (length x.code) q ++ go ∷ []) sides goes (λ E p. omega (arith, p)) (λ E p. p) in
      same d (here n f) Always (λ L. test ++ (code.sequence l L (length x.code) q ++ go ∷ [])) (λ L. code.statement l L (length d.code) (While t q))
      (λ L. ap (λ k. test ++ (code.sequence l L k q ++ go ∷ [])) begins)
      (closes d f P Always (λ L. test ++ (code.sequence l L (length x.code) q ++ go ∷ [])) all (λ E h q. h))

  -- ---- all of them

  freely : (d e : Draft) (P : Places → Type 0) (is : Leads → List Ins) → Drafts d e Always is → Drafts d e P is
  freely d e P is a = record { pieces = a.pieces; ps = a.ps; code = a.code; places = a.places; size = a.size; right = λ E L h p. a.right E L h tt }

  then_drafts : (s : Stmt) (q : Seq) (d e f : Draft) → Drafts d e Always (λ L. code.statement l L (length d.code) s) → Drafts e f Always (λ L. code.sequence l L (length e.code) q)
      → Drafts d f Always (λ L. code.sequence l L (length d.code) (Then s q))
  then_drafts s q d e f a b =
      same d f Always (λ L. code.statement l L (length d.code) s ++ code.sequence l L (length e.code) q) (λ L. code.sequence l L (length d.code) (Then s q))
      (λ L. ap (λ k. code.statement l L (length d.code) s ++ code.sequence l L k q) (grows d e Always (λ M. code.statement l M (length d.code) s) L a))
      (thens d e f Always Always Always (λ L. code.statement l L (length d.code) s) (λ L. code.sequence l L (length e.code) q) a b (λ E p. tt) (λ E p. tt))

  mutual
    pub statement_drafts : (s : Stmt) (d : Draft) → Drafts d (statement l s d) Always (λ L. code.statement l L (length d.code) s)
    statement_drafts (Keep i v) d = puts (code.statement l nowhere 0 (Keep i v)) d
    statement_drafts (Clear i) d = puts (code.statement l nowhere 0 (Clear i)) d
    statement_drafts (Put m p v) d = puts (code.statement l nowhere 0 (Put m p v)) d
    statement_drafts (Run v) d = puts (code.statement l nowhere 0 (Run v)) d
    statement_drafts (Toss v) d = puts (code.statement l nowhere 0 (Toss v)) d
    statement_drafts (Goto k) d = adds (piece.Go k) d Always (λ L. ins.Go (L k)) (λ E L p. refl)
    statement_drafts (GiveBack v) d = puts (code.statement l nowhere 0 (GiveBack v)) d
    statement_drafts Back d = puts (ins.Leave ∷ []) d
    statement_drafts (Switch v ks) d = switch_drafts v ks d (length d.code)
    statement_drafts (Inner q) d = sequence_drafts q d
    statement_drafts (If t a b) d =
        let n = length d.places in
        let o = opened d in
        let e = otherwise l n b (arm l n t (sequence l a) o) in
        closes d e (λ E. E n ≡ length e.code) Always (λ L. code.statement l L (length d.code) (If t a b))
        (arms_draft n t a b o e (arm_drafts n t a (extent l b) o (sequence_drafts a (side l t false (length o.places) (opened o)))) (otherwise_drafts n b (arm l n t (sequence l a) o))) (λ E h q. h)
    statement_drafts (For i start step end q) d =
        let head = for_head l i start step end in
        let x = piece.CountFor i (length d.places) in
        turns_draft head x (λ k. ins.CountFor i k) (λ k. ins.TurnFor i k) q d (λ E L k. refl) (sequence_drafts q (add (x ∷ []) (put head (opened d))))
    statement_drafts (To i n q) d =
        let x = piece.CountTo i (length d.places) in
        turns_draft (value l n) x (λ k. ins.CountTo i k) (λ k. ins.TurnTo i k) q d (λ E L k. refl) (sequence_drafts q (add (x ∷ []) (put (value l n) (opened d))))
    statement_drafts (While t q) d = while_drafts t q d (sequence_drafts q (side l t false (length d.places) (opened d)))
    statement_drafts (Recover k) d = stays d Always

    pub sequence_drafts : (q : Seq) (d : Draft) → Drafts d (sequence l q d) Always (λ L. code.sequence l L (length d.code) q)
    sequence_drafts Done d = stays d Always
    sequence_drafts (Then s q) d = then_drafts s q d (statement l s d) (sequence l q (statement l s d)) (statement_drafts s d) (sequence_drafts q (statement l s d))
    sequence_drafts (Mark k q) d = noted_before k d (sequence l q (note k d)) Always (λ L. code.sequence l L (length d.code) q) (sequence_drafts q (note k d))

    pub otherwise_drafts : (end : ℕ) (b : Seq) (d : Draft) → Drafts d (otherwise l end b d) (λ E. E end ≡ length (otherwise l end b d).code) (λ L. code.sequence l L (length d.code) b)
    otherwise_drafts end Done d = stays d (λ E. E end ≡ length d.code)
    otherwise_drafts end (Mark k q) d =
        let e = sequence l q (note k d) in
        freely d e (λ E. E end ≡ length e.code) (λ L. code.sequence l L (length d.code) q) (noted_before k d e Always (λ L. code.sequence l L (length d.code) q) (sequence_drafts q (note k d)))
    otherwise_drafts end (Then (If t a b) Done) d =
        let e = otherwise l end b (arm l end t (sequence l a) d) in
        same d e (λ E. E end ≡ length e.code) (λ L. code.statement l L (length d.code) (If t a b)) (λ L. code.sequence l L (length d.code) (Then (If t a b) Done)) (λ L. sym (append-nil (code.statement l L (length d.code) (If t a b))))
        (arms_draft end t a b d e (arm_drafts end t a (extent l b) d (sequence_drafts a (side l t false (length d.places) (opened d)))) (otherwise_drafts end b (arm l end t (sequence l a) d)))
    otherwise_drafts end (Then s q) d =
        let e = sequence l q (statement l s d) in
        freely d e (λ E. E end ≡ length e.code) (λ L. code.sequence l L (length d.code) (Then s q))
        (then_drafts s q d (statement l s d) e (statement_drafts s d) (sequence_drafts q (statement l s d)))
