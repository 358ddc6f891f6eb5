-- What a parser answers that is right: the one body and its place, or the unfit item.
use Rattle.std.proofs.Common.{◌≡◌, ℕ, zero, suc, ◌+◌, ◌-◌, ◌<◌, ◌≤◌, List, [], ◌∷◌, length, drop, get_or, Result, Ok, Err, inl, inr, refl, sym, ap, subst, ◌∙◌, arith, length-drop}
use Rattle.std.proofs.Math.Seq.{drop-nil}
use Rattle.std.proofs.lemmas.List.{get_or-drop}
use Rattle.std.proofs.lemmas.Option.{slice_get_cases, slice_get_past, slice_get_read}
use Rattle.rt_pieces.specs.declared.item.Item.{Item}
use Rattle.rt_grammar.specs.Parts.{Part}
use Rattle.rt_grammar.specs.Parsing.{Parser, left}
use Rattle.rt_grammar.proofs.Tails.{Tail, all, past, Tail-length}
use Rattle.rt_grammar.proofs.Good.{Good, ok_is}
use Rattle.rt_syntax_exprs.specs.declared.limits.Context.{Context}
use Rattle.rt_syntax.specs.declared.tree.Body.{Body}
use Rattle.rt_syntax.specs.Statements as line
use Rattle.rt_syntax.specs.StatementParser as reads
use Rattle.rt_syntax.specs.Derives.{language_limits, in_list, Derives, BeginsWithin, PassesLimit, IsUnfit, line_left, IsRefusedBy, IsRefusedAt}
use Rattle.rt_syntax.proofs.StatementLines.{good_closed}

-- ---- tails of a list, by number

Tail-drop : (n : ℕ) (l : List Item) → Tail l (drop n l)
Tail-drop zero l = all
Tail-drop (suc n) [] = all
Tail-drop (suc n) (i ∷ l) = past (Tail-drop n l)

tail_is : {l r : List Item} → Tail l r → r ≡ drop (length l - length r) l
tail_is {l = l} all = let none : length l - length l ≡ 0 = omega arith in rw none refl
tail_is {r = r} (past {i = i} {l = l} t) =
    let le = Tail-length t in
    let one : suc (length l) - length r ≡ suc (length l - length r) = omega arith in
    rw one (tail_is t)

drop_drop : (at k : ℕ) (l : List Item) → drop k (drop at l) ≡ drop (at + k) l
drop_drop zero k l = let e : 0 + k ≡ k = omega arith in rw e refl
drop_drop (suc at) k [] = drop-nil k ∙ sym (drop-nil (suc at + k))
drop_drop (suc at) k (i ∷ l) = let e : suc at + k ≡ suc (at + k) = omega arith in rw e (drop_drop at k l)

tail_from : (items : List Item) (at k : ℕ) → at ≤ k → Tail (drop at items) (drop k items)
tail_from items at k le =
    let e : at + (k - at) ≡ k = omega arith in
    let same : drop (k - at) (drop at items) ≡ drop k items = drop_drop at (k - at) items ∙ ap (λ (n : ℕ). drop n items) e in
    subst (λ (t : List Item). Tail (drop at items) t) same (Tail-drop (k - at) (drop at items))

-- ---- the parser of a body that starts at at

abbrev pub parsed : List Item → ℕ → Result (Body × List Item) ℕ
parsed items at = reads.closed (in_list items language_limits) (drop at items)

pub parsed_derives : (items : List Item) (at : ℕ) (b : Body) (r : List Item) → at ≤ length items → parsed items at ≡ Ok (b, r)
    → (length r < length items) × Derives items at b (length items - length r - 1)
unfolding Derives
parsed_derives items at b r le e =
    let g = good_closed (in_list items language_limits) in
    let f = g.sound (drop at items) r b e in
    let lt : length r < length (drop at items) = elim (g.starts (drop at items) r b f) [ inl h ↦ absurd h.1 | inr h ↦ h.1 ] in
    let many : length (drop at items) ≡ length items - at = length-drop at items in
    let place : at + (length (drop at items) - length r) ≡ length items - length r - 1 + 1 = omega arith in
    let there : r ≡ drop (length items - length r - 1 + 1) items =
    tail_is (g.tails (drop at items) r b f) ∙ drop_drop at (length (drop at items) - length r) items ∙ ap (λ (n : ℕ). drop n items) place in
    (omega arith, (omega arith, subst (λ (t : List Item). (line.closed (in_list items language_limits)).Fits (drop at items) t b) there f))

pub derives_parsed : (items : List Item) (at : ℕ) (b : Body) (place : ℕ) → Derives items at b place → (place < length items) × (parsed items at ≡ Ok (b, drop (place + 1) items))
unfolding Derives
derives_parsed items at b place d = (d.0, (good_closed (in_list items language_limits)).complete (drop at items) (drop (place + 1) items) b d.1 tt)

-- at most one body
pub one_body : (items : List Item) (at : ℕ) (b c : Body) (p q : ℕ) → Derives items at b p → Derives items at c q → ◌≡◌ {A = Body × ℕ} (b, p) (c, q)
one_body items at b c p q d e =
    let x = derives_parsed items at b p d in
    let y = derives_parsed items at c q e in
    let same = ok_is (b, drop (p + 1) items) (c, drop (q + 1) items) (sym x.1 ∙ y.1) in
    let trees : b ≡ c = ap (λ (t : Body × List Item). t.0) same in
    let ends : length (drop (p + 1) items) ≡ length (drop (q + 1) items) = ap (λ (t : Body × List Item). length t.1) same in
    let lp = length-drop (p + 1) items in
    let lq = length-drop (q + 1) items in
    let px = x.0 in
    let qx = y.0 in
    let places : p ≡ q = omega arith in
    rw (trees, places) refl

-- ---- the unfit item, for a part whose parser is right

module _ {A : Type 0} (p : Context → Parser A) (P : Context → Part A) (f s : ℕ → Type 0) (e : Type 0) (g : (c : Context) → Good (p c) (P c) f s e) where
  -- how many items are left where the parser stops that starts at at
  abbrev pub left_from : List Item → ℕ → ℕ
  left_from items at = left (p (in_list items language_limits) (drop at items))

  most_left : (items : List Item) (at : ℕ) → at ≤ length items → left_from items at + at ≤ length items
  most_left items at le =
      let h = g (in_list items language_limits) in
      let far = h.passes (drop at items) (drop at items) (h.nil (drop at items)) in
      omega (arith, length-drop at items)

  viable_to : (items : List Item) (at k : ℕ) → at ≤ k → k + left_from items at ≤ length items → BeginsWithin P language_limits items at k
  unfolding BeginsWithin
  viable_to items at k le far = (g (in_list items language_limits)).viable (drop at items) (drop k items) (tail_from items at k le) (omega (arith, length-drop k items))

  viable_only : (items : List Item) (at k : ℕ) → k ≤ length items → BeginsWithin P language_limits items at k → k + left_from items at ≤ length items
  unfolding BeginsWithin
  viable_only items at k le v = let far = (g (in_list items language_limits)).passes (drop at items) (drop k items) v in omega (arith, length-drop k items)

  unfit_at : (items : List Item) (at n : ℕ) → at ≤ length items → left_from items at ≡ n → 0 < n → IsUnfit P items at (length items - n)
  unfolding PassesLimit
  unfit_at items at n le is some =
      let most = most_left items at le in
      record {
        from = omega arith;
        there = omega arith;
        before = λ k low high. viable_to items at k low (omega arith);
        with_it = λ v. (v, λ w. let far = viable_only items at (length items - n + 1) (omega arith) w in omega arith);
      }

  pub few_left : (items : List Item) (at n : ℕ) → at ≤ length items → left_from items at ≡ n → n ≤ length (drop at items)
  few_left items at n le is =
      let most = most_left items at le in
      let many : length (drop at items) ≡ length items - at = length-drop at items in omega arith

  pub refused_by : (items : List Item) (at n : ℕ) → at ≤ length items → left_from items at ≡ n → IsRefusedAt P items at (line_left (drop at items) n)
  refused_by items at zero le is = inr (λ k low high. viable_to items at k low (omega arith), rw (slice_get_past (drop at items) (length (drop at items) - 0) (omega arith)) refl)
  refused_by items at (suc n) le is =
      let u = unfit_at items at (suc n) le is (omega arith) in
      let some = few_left items at (suc n) le is in
      let many : length (drop at items) ≡ length items - at = length-drop at items in
      let there : at + (length (drop at items) - suc n) ≡ length items - suc n = omega arith in
      elim (slice_get_cases (drop at items) (length (drop at items) - suc n)).1 [
        | inl found ↦
            let read : found.0 ≡ get_or items (length items - suc n) found.0 =
            sym found.3 ∙ get_or-drop at items (length (drop at items) - suc n) found.0 ∙ ap (λ (k : ℕ). get_or items k found.0) there in
            let is = slice_get_read items (length items) (length items - suc n) found.0 refl (omega arith) read in
            inl (length items - suc n, found.0, u, is, rw (found.2) refl)
        | inr none ↦ absurd (let far = none.0 in omega arith)
      ]

  pub numbered : (items : List Item) (at n : ℕ) → at ≤ length items → left_from items at ≡ n → IsRefusedBy P items at (length items - n)
  numbered items at zero le is = inr (λ k low high. viable_to items at k low (omega arith), omega arith)
  numbered items at (suc n) le is = inl (unfit_at items at (suc n) le is (omega arith))

-- ---- of a body

pub not_derived : (items : List Item) (at n : ℕ) (b : Body) (place : ℕ) → parsed items at ≡ Err n → Derives items at b place → ⊥
not_derived items at n b place e d = let f = (derives_parsed items at b place d).1 in cc

pub refused_left : (items : List Item) (at n : ℕ) → at ≤ length items → parsed items at ≡ Err n → n ≤ length (drop at items)
refused_left items at n le e = few_left reads.closed line.closed _ _ _ good_closed items at n le (ap left e)

-- the number of the unfit item, which is there
pub refused_number : (items : List Item) (at n : ℕ) → at ≤ length items → parsed items at ≡ Err n → (n ≤ length items) × IsRefusedBy line.closed items at (length items - n)
refused_number items at n le e =
    let few = refused_left items at n le e in
    let many : length (drop at items) ≡ length items - at = length-drop at items in
    (omega arith, numbered reads.closed line.closed _ _ _ good_closed items at n le (ap left e))

pub refused_at : (items : List Item) (at n : ℕ) → at ≤ length items → parsed items at ≡ Err n → IsRefusedAt line.closed items at (line_left (drop at items) n)
refused_at items at n le e = refused_by reads.closed line.closed _ _ _ good_closed items at n le (ap left e)
