-- Where a label leads nothing is held.
use Rattle.std.proofs.Common.{◌≡◌, ℕ, ◌+◌, ◌==◌, Bool, true, false, if◌then◌else◌, List, [], ◌∷◌, ◌++◌, length, Option, Some, None, refl, subst, arith}
use Rattle.rt_tree_nodes.specs.Tree.{Stmt, Keep, Clear, Put, Run, Toss, Goto, GiveBack, Back, Switch, Inner, If, For, To, While, Recover, Seq, Done, Then, Mark}
use Rattle.rt_work_state.specs.Items.{or_else}
use Rattle.rt_icode.specs.declared.ins.Ins.{Ins}
use Rattle.rt_icode.specs.declared.ins.Ins.TheVariants as ins
use Rattle.rt_lower.specs.declared.layouts.Layouts.{Layouts}
use Rattle.rt_lower.specs.Values.{value}
use Rattle.rt_lower.specs.Code.{Leads, nowhere, condition, for_head, statement, sequence, extent, reach, span, place, place_inside}
use Rattle.rt_lower.proofs.Lengths.{condition_length, statement_length, sequence_length}
use Rattle.rt_lower_frames_laws.specs.Heights.{behind}
use Rattle.rt_lower_frames_laws.proofs.Held.{after}
use Rattle.rt_lower_frames_laws.proofs.Sound.{StmtSound, SeqSound}
use Rattle.rt_lower_frames_laws.proofs.Values.{value_held}
use Rattle.rt_lower_frames_laws.proofs.Statements.{condition_held, head_ends, statement_held, sequence_held}
use Rattle.rt_lower_frames_laws.proofs.Ways.{There, Ground, there_starts, there_first, there_rest}

abbrev pub Grounded : List ℕ → Option ℕ → Type 0
Grounded hs None = Unit {0}
Grounded hs (Some at) = Ground hs at

either_ground : (hs : List ℕ) (o p : Option ℕ) → Grounded hs o → Grounded hs p → Grounded hs (or_else o p)
either_ground hs None p g h = h
either_ground hs (Some at) p g h = g

marked_ground : (hs : List ℕ) (c : Bool) (at : ℕ) (o : Option ℕ) → Ground hs at → Grounded hs o → Grounded hs (if c then Some at else o)
marked_ground hs true at o g h = g
marked_ground hs false at o g h = h

module _ (l : Layouts) (hs : List ℕ) (L : Leads) (k : ℕ) where
  -- the place of a label in a part, wherever it is said to begin
  at_place : (j at : ℕ) (q : Seq) → j ≡ at → Grounded hs (place l k j q) → Grounded hs (place l k at q)
  at_place j at q e g = subst (λ n. Grounded hs (place l k n q)) e g

  -- a body behind its head and its count
  turn_there : (at : ℕ) (head body : List Ins) (count turn : Ins) → after 0 head ≡ 1 → behind count 1 ≡ 0 → There hs at 0 (head ++ (count ∷ (body ++ turn ∷ []))) → There hs (at + length head + 1) 0 body
  turn_there at head body count turn e f t =
      let counted = there_rest hs at 0 (at + length head) 1 head (count ∷ (body ++ turn ∷ [])) refl e t in
      there_first hs (at + length head + 1) 0 body (turn ∷ []) (there_rest hs (at + length head) 1 (at + length head + 1) 0 (count ∷ []) (body ++ turn ∷ []) refl f counted)

  mutual
    pub place_ground : (at : ℕ) (q : Seq) → SeqSound q → There hs at 0 (sequence l L at q) → Grounded hs (place l k at q)
    place_ground at Done s t = tt
    place_ground at (Then a q) s t =
        let first = statement l L at a in
        let rest = sequence l L (at + length first) q in
        let same : at + length first ≡ at + reach l a = omega (arith, statement_length l nowhere L 0 at a) in
        either_ground hs (place_inside l k at a) (place l k (at + reach l a) q) (inside_ground at a s.0 (there_first hs at 0 first rest t))
        (at_place (at + length first) (at + reach l a) q same (place_ground (at + length first) q s.1 (there_rest hs at 0 (at + length first) 0 first rest refl (statement_held l a s.0 L at).ends t)))
    place_ground at (Mark j q) s t = marked_ground hs (j == k) at (place l k at q) (there_starts hs at 0 (sequence l L at q) t) (place_ground at q s t)

    inside_ground : (at : ℕ) (a : Stmt) → StmtSound a → There hs at 0 (statement l L at a) → Grounded hs (place_inside l k at a)
    inside_ground at (Keep i v) s t = tt
    inside_ground at (Clear i) s t = tt
    inside_ground at (Put m p v) s t = tt
    inside_ground at (Run v) s t = tt
    inside_ground at (Toss v) s t = tt
    inside_ground at (Goto j) s t = tt
    inside_ground at (GiveBack v) s t = tt
    inside_ground at Back s t = tt
    inside_ground at (Switch v js) s t = tt
    inside_ground at (Inner q) s t = place_ground at q s t
    inside_ground at (If c a b) s t =
        let more = extent l a + 1 in
        let test = condition l c false more in
        let taken = sequence l L (at + length test) a in
        let other = sequence l L (at + length test + length taken + 1) b in
        let i = ins.Skip (length other) in
        let second = there_rest hs at 0 (at + length test) 0 test (taken ++ (i ∷ other)) refl (condition_held l c s.0 false more).ends t in
        let third = there_rest hs (at + length test) 0 (at + length test + length taken) 0 taken (i ∷ other) refl (sequence_held l a s.1 L (at + length test)).ends second in
        let last = there_rest hs (at + length test + length taken) 0 (at + length test + length taken + 1) 0 (i ∷ []) other refl refl third in
        let one = condition_length l c false 0 more in
        let two = sequence_length l nowhere L 0 (at + length test) a in
        either_ground hs (place l k (at + span l c) a) (place l k (at + span l c + extent l a + 1) b)
        (at_place (at + length test) (at + span l c) a (omega (arith, one)) (place_ground (at + length test) a s.1 (there_first hs (at + length test) 0 taken (i ∷ other) second)))
        (at_place (at + length test + length taken + 1) (at + span l c + extent l a + 1) b (omega (arith, one, two)) (place_ground (at + length test + length taken + 1) b s.2 last))
    inside_ground at (For i start step end q) s t =
        let head = for_head l i start step end in
        place_ground (at + length head + 1) q s.3 (turn_there at head (sequence l L (at + length head + 1) q) (ins.CountFor i _) (ins.TurnFor i _) (head_ends l i start step end s.0 s.1 s.2) refl t)
    inside_ground at (To i n q) s t =
        let head = value l n in
        place_ground (at + length head + 1) q s.1 (turn_there at head (sequence l L (at + length head + 1) q) (ins.CountTo i _) (ins.TurnTo i _) (value_held l n s.0 0).ends refl t)
    inside_ground at (While c q) s t =
        let more = extent l q + 1 in
        let test = condition l c false more in
        let body = sequence l L (at + length test) q in
        let second = there_rest hs at 0 (at + length test) 0 test (body ++ ins.Go at ∷ []) refl (condition_held l c s.0 false more).ends t in
        at_place (at + length test) (at + span l c) q (omega (arith, condition_length l c false 0 more)) (place_ground (at + length test) q s.1 (there_first hs (at + length test) 0 body (ins.Go at ∷ []) second))
    inside_ground at (Recover j) s t = tt
