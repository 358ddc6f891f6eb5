-- Where labels lead: the first place of each is noted.
use Rattle.std.proofs.Common.{◌≡◌, ℕ, zero, suc, ◌+◌, ◌-◌, ◌<◌, ◌==◌, Bool, true, false, if◌then◌else◌, List, [], ◌∷◌, length, Option, Some, None, refl, sym, ap, ◌∙◌, arith, length-append}
use Rattle.std.proofs.Common.{◌⊎◌, inl, inr, ◌≤◌, get_or}
use Rattle.std.proofs.lemmas.Bool.Decides.{eqb_tells, leb_tells}
use Rattle.std.proofs.Math.Dec.{leb}
use Rattle.std.proofs.Math.Seq.{get_or-append_right}
use Rattle.std.proofs.lemmas.List.{get_or_append_left, get_or_past, get_or-set_same, get_or-set_other, length-replicate}
use Rattle.std.specs.Prelude.{slice_set, replicate}
use Rattle.rt_tree_nodes.specs.Tree.{Cond, Is, Both, Either, Stmt, Keep, Clear, Put, Run, Toss, Goto, GiveBack, Back, Switch, Inner, If, For, To, While, Recover, Seq, Done, Then, Mark}
use Rattle.rt_work_state.specs.Items.{or_else}
use Rattle.rt_lower.specs.declared.draft.Draft.{Draft}
use Rattle.rt_lower.specs.declared.draft.Piece.TheVariants as piece
use Rattle.rt_lower.specs.declared.layouts.Layouts.{Layouts}
use Rattle.rt_lower.specs.Values.{value}
use Rattle.rt_lower.specs.Code as code
use Rattle.rt_lower.specs.Code.{nowhere, for_head, extent, reach, span, place, place_inside}
use Rattle.rt_lower.specs.Drafts.{put, add, opened, note, noted, noted_if, is_there, label_in, grown, condition, side, statement, arm, otherwise, sequence}
use Rattle.rt_lower.proofs.Laying.{Always, grows, puts}
use Rattle.rt_lower.proofs.Lengths.{statement_length, sequence_length}
use Rattle.rt_lower.proofs.Drafted.{side_drafts, statement_drafts, sequence_drafts}

or_twice : (o p q : Option ℕ) → or_else (or_else o p) q ≡ or_else o (or_else p q)
or_twice None p q = refl
or_twice (Some x) p q = refl

or_none : (o : Option ℕ) → or_else o None ≡ o
or_none None = refl
or_none (Some x) = refl

abbrev no_place : Option ℕ
no_place = None

abbrev here_if : Bool → ℕ → Option ℕ
here_if true at = Some at
here_if false at = None

label_is : (ls : List (Option ℕ)) (k : ℕ) → label_in ls k ≡ get_or ls k None
label_is [] k = refl
label_is (o ∷ ls) zero = refl
label_is (o ∷ ls) (suc k) = label_is ls k

nothing : (m i : ℕ) → get_or (replicate m no_place) i None ≡ None
nothing zero i = refl
nothing (suc m) zero = refl
nothing (suc m) (suc i) = nothing m i

grown_same : (n j : ℕ) (ls : List (Option ℕ)) → get_or (grown n ls) j None ≡ get_or ls j None
grown_same n j ls = by (leb_tells (suc j) (length ls)) where
  by : (leb (suc j) (length ls) ≡ true) × (suc j ≤ length ls) ⊎ (leb (suc j) (length ls) ≡ false) × (length ls < suc j) → get_or (grown n ls) j None ≡ get_or ls j None
  by (inl h) = get_or_append_left ls (replicate (n - length ls) None) None j (omega (arith, h.1))
  by (inr h) =
      let far : length ls ≤ j = omega (arith, h.1) in
      get_or-append_right ls (replicate (n - length ls) None) j None far ∙ nothing (n - length ls) (j - length ls) ∙ sym (get_or_past ls j None far)

-- what is noted of one label
noted_of : (b : Bool) (k at j : ℕ) (ls : List (Option ℕ)) → b ≡ is_there (get_or ls k None) → ((k == j) ≡ true) × (k ≡ j) ⊎ ((k == j) ≡ false) × (k ≡ j → ⊥)
    → get_or (noted_if b k at ls) j None ≡ or_else (get_or ls j None) (here_if (k == j) at)
noted_of true k at j ls e (inl h) = ap (λ i. get_or ls i None) (sym h.1) ∙ kept (get_or ls k None) (sym e) ∙ ap (λ i. or_else (get_or ls i None) (here_if (k == j) at)) h.1 where
  kept : (o : Option ℕ) → is_there o ≡ true → o ≡ or_else o (here_if (k == j) at)
  kept None f = absurd cc
  kept (Some n) f = refl
noted_of true k at j ls e (inr h) = sym (ap (λ b. or_else (get_or ls j None) (here_if b at)) h.0 ∙ or_none (get_or ls j None))
noted_of false k at j ls e (inl h) =
    ap (λ i. get_or (slice_set (grown (k + 1) ls) k (Some at)) i None) (sym h.1)
    ∙ get_or-set_same (grown (k + 1) ls) k (Some at) None long
    ∙ sym (ap (λ i. or_else (get_or ls i None) (here_if (k == j) at)) (sym h.1) ∙ ap (λ o. or_else o (here_if (k == j) at)) (gone (get_or ls k None) (sym e)) ∙ ap (λ b. here_if b at) h.0) where
      long : k < length (grown (k + 1) ls)
      long = omega (arith, length-append ls (replicate (k + 1 - length ls) no_place), length-replicate (k + 1 - length ls) no_place)

      gone : (o : Option ℕ) → is_there o ≡ false → o ≡ None
      gone None f = refl
      gone (Some n) f = absurd cc
noted_of false k at j ls e (inr h) =
    get_or-set_other (grown (k + 1) ls) k j (Some at) None (λ f. h.1 (sym f)) ∙ grown_same (k + 1) j ls ∙ sym (ap (λ b. or_else (get_or ls j None) (here_if b at)) h.0 ∙ or_none (get_or ls j None))

noted_label : (k at j : ℕ) (ls : List (Option ℕ)) → label_in (noted k at ls) j ≡ or_else (label_in ls j) (here_if (k == j) at)
noted_label k at j ls =
    label_is (noted k at ls) j ∙ noted_of (is_there (label_in ls k)) k at j ls (ap is_there (label_is ls k)) (eqb_tells k j) ∙ ap (λ o. or_else o (here_if (k == j) at)) (sym (label_is ls j))

-- a label here goes before what is found behind it
here_first : (o : Option ℕ) (b : Bool) (at : ℕ) (q : Option ℕ) → or_else (or_else o (here_if b at)) q ≡ or_else o (if b then Some at else q)
here_first None true at q = refl
here_first None false at q = refl
here_first (Some x) true at q = refl
here_first (Some x) false at q = refl

module _ (l : Layouts) where
  condition_labels : (t : Cond) (w : Bool) (to end : ℕ) (d : Draft) → (condition l t w to end d).labels ≡ d.labels
  condition_labels (Is r a b) w to end d = refl
  condition_labels (Both t u) w to end d = condition_labels u w to end _ ∙ condition_labels t false (if w then end else to) (length d.places) (opened d)
  condition_labels (Either t u) w to end d = condition_labels u w to end _ ∙ condition_labels t true (if w then to else end) (length d.places) (opened d)

  side_labels : (t : Cond) (to : ℕ) (d : Draft) → (side l t false to d).labels ≡ d.labels
  side_labels t to d = condition_labels t false to (length d.places) (opened d)

  side_end : (t : Cond) (to : ℕ) (d : Draft) → length (side l t false to d).code ≡ length d.code + span l t
  side_end t to d = grows d (side l t false to d) _ (λ L. code.condition l t false 0) nowhere (side_drafts l t false to 0 d)

  statement_end : (s : Stmt) (d : Draft) → length (statement l s d).code ≡ length d.code + reach l s
  statement_end s d = grows d (statement l s d) Always (λ L. code.statement l L (length d.code) s) nowhere (statement_drafts l s d) ∙ ap (λ n. length d.code + n) (statement_length l nowhere nowhere (length d.code) 0 s)

  sequence_end : (q : Seq) (d : Draft) → length (sequence l q d).code ≡ length d.code + extent l q
  sequence_end q d = grows d (sequence l q d) Always (λ L. code.sequence l L (length d.code) q) nowhere (sequence_drafts l q d) ∙ ap (λ n. length d.code + n) (sequence_length l nowhere nowhere (length d.code) 0 q)

  arm_end : (end : ℕ) (t : Cond) (a : Seq) (d : Draft) → length (arm l end t (sequence l a) d).code ≡ length d.code + span l t + extent l a + 1
  arm_end end t a d =
      let x = side l t false (length d.places) (opened d) in
      let y = sequence l a x in
      omega (arith, side_end t (length d.places) (opened d), sequence_end a x, length-append y.code (piece.Skip end ∷ []))

  -- labels that are the same before, and behind
  after : (k at bt : ℕ) (q : Seq) (ls ms : List (Option ℕ)) (o : Option ℕ) → ls ≡ ms → at ≡ bt → o ≡ or_else (label_in ls k) (place l k at q) → o ≡ or_else (label_in ms k) (place l k bt q)
  after k at bt q ls ms o e f h = h ∙ ap (λ v. or_else (label_in v k) (place l k at q)) e ∙ ap (λ n. or_else (label_in ms k) (place l k n q)) f

  -- one part behind another
  in_turn : (x y z : Option ℕ) (p q r : Option ℕ) → y ≡ or_else x p → z ≡ or_else y q → q ≡ r → z ≡ or_else x (or_else p r)
  in_turn x y z p q r e f g = f ∙ ap (λ v. or_else v q) e ∙ or_twice x p q ∙ ap (λ v. or_else x (or_else p v)) g

  mutual
    pub statement_labels : (k : ℕ) (s : Stmt) (d : Draft) → label_in (statement l s d).labels k ≡ or_else (label_in d.labels k) (place_inside l k (length d.code) s)
    statement_labels k (Keep i v) d = sym (or_none _)
    statement_labels k (Clear i) d = sym (or_none _)
    statement_labels k (Put m p v) d = sym (or_none _)
    statement_labels k (Run v) d = sym (or_none _)
    statement_labels k (Toss v) d = sym (or_none _)
    statement_labels k (Goto j) d = sym (or_none _)
    statement_labels k (GiveBack v) d = sym (or_none _)
    statement_labels k Back d = sym (or_none _)
    statement_labels k (Switch v ks) d = sym (or_none _)
    statement_labels k (Inner q) d = sequence_labels k q d
    statement_labels k (If t a b) d =
        let n = length d.places in
        let o = opened d in
        let x = side l t false (length o.places) (opened o) in
        in_turn _ _ _ _ _ _ (after k _ _ a _ _ _ (side_labels t (length o.places) (opened o)) (side_end t (length o.places) (opened o)) (sequence_labels k a x))
        (otherwise_labels k n b (arm l n t (sequence l a) o)) (ap (λ m. place l k m b) (arm_end n t a o))
    statement_labels k (For i start step end q) d =
        let head = for_head l i start step end in
        let y = put head (opened d) in
        let x = add (piece.CountFor i (length d.places) ∷ []) y in
        let at : length x.code ≡ length d.code + length head + 1 = omega (arith, length-append y.code (piece.CountFor i (length d.places) ∷ []), grows (opened d) y Always (λ L. head) nowhere (puts head (opened d))) in
        after k _ _ q _ _ _ refl at (sequence_labels k q x)
    statement_labels k (To i n q) d =
        let y = put (value l n) (opened d) in
        let x = add (piece.CountTo i (length d.places) ∷ []) y in
        let at : length x.code ≡ length d.code + length (value l n) + 1 = omega (arith, length-append y.code (piece.CountTo i (length d.places) ∷ []), grows (opened d) y Always (λ L. value l n) nowhere (puts (value l n) (opened d))) in
        after k _ _ q _ _ _ refl at (sequence_labels k q x)
    statement_labels k (While t q) d = after k _ _ q _ _ _ (side_labels t (length d.places) (opened d)) (side_end t (length d.places) (opened d)) (sequence_labels k q (side l t false (length d.places) (opened d)))
    statement_labels k (Recover j) d = sym (or_none _)

    pub sequence_labels : (k : ℕ) (q : Seq) (d : Draft) → label_in (sequence l q d).labels k ≡ or_else (label_in d.labels k) (place l k (length d.code) q)
    sequence_labels k Done d = sym (or_none _)
    sequence_labels k (Then s q) d = in_turn _ _ _ _ _ _ (statement_labels k s d) (sequence_labels k q (statement l s d)) (ap (λ m. place l k m q) (statement_end s d))
    sequence_labels k (Mark j q) d =
        sequence_labels k q (note j d) ∙ ap (λ o. or_else o (place l k (length d.code) q)) (noted_label j (length d.code) k d.labels)
        ∙ here_first (label_in d.labels k) (j == k) (length d.code) (place l k (length d.code) q)

    otherwise_labels : (k end : ℕ) (b : Seq) (d : Draft) → label_in (otherwise l end b d).labels k ≡ or_else (label_in d.labels k) (place l k (length d.code) b)
    otherwise_labels k end Done d = sym (or_none _)
    otherwise_labels k end (Mark j q) d =
        sequence_labels k q (note j d) ∙ ap (λ o. or_else o (place l k (length d.code) q)) (noted_label j (length d.code) k d.labels)
        ∙ here_first (label_in d.labels k) (j == k) (length d.code) (place l k (length d.code) q)
    otherwise_labels k end (Then (If t a b) Done) d =
        let x = side l t false (length d.places) (opened d) in
        in_turn _ _ _ _ _ _ (after k _ _ a _ _ _ (side_labels t (length d.places) (opened d)) (side_end t (length d.places) (opened d)) (sequence_labels k a x))
        (otherwise_labels k end b (arm l end t (sequence l a) d)) (ap (λ m. place l k m b) (arm_end end t a d))
        ∙ ap (λ o. or_else (label_in d.labels k) o) (sym (or_none _))
    otherwise_labels k end (Then s q) d =
        let e = statement l s d in
        in_turn (label_in d.labels k) (label_in e.labels k) (label_in (sequence l q e).labels k) (place_inside l k (length d.code) s) (place l k (length e.code) q) (place l k (length d.code + reach l s) q)
        (statement_labels k s d) (sequence_labels k q e) (ap (λ m. place l k m q) (statement_end s d))
