-- The text that is written record by record is the full mode.
use Rattle.std.proofs.Common.{◌≡◌, ℕ, zero, suc, ◌+◌, ◌-◌, ◌^◌, ◌<◌, ◌≤◌, inl, inr, Bool, true, false, if◌then◌else◌, eqb, ltb, List, [], ◌∷◌, ◌++◌, length, Option, Some, None, take, drop, map, codes, refl, ap, sym, ◌∙◌, add-one, arith, append_assoc}
use Rattle.std.specs.List.{slice_get, AllByRecursion}
use Rattle.std.proofs.lemmas.List.{append-nil, take_more, drop_more, take_all, take-append-drop}
use Rattle.std.proofs.lemmas.Bool.{ltb-true}
use Rattle.std.proofs.lemmas.Bool.Decides.{nat_tests}
use Rattle.std.proofs.Math.ListN.{drop_of_length-le}
use Rattle.std.proofs.Math.Nat.{eq-or-lt_of_le}
use Rattle.std.proofs.lemmas.Option.{slice_get_within, slice_get_cases, get_or_from_slice_get}
use Rattle.rt_modes.specs.declared.mode.ModeTable.{ModeTable}
use Rattle.rt_modes.specs.FullMode.{Word, Says, Mentions, joined, name_of, fields_of, fields_inside, definition, spelled, mentioned, with_new, reached, where_words, after_commas, reached_by, full_text}
use Rattle.rt_modes.specs.Left.{lead, defined_from, words_left}
use Rattle.rt_modes.proofs.Prefixes.{Begins, OnceBelow, begins_itself, nothing_begins, begins_on, no_shorter, same, get_again, take_again, few, begins_with_new, once_with_new, none_once, with_new-append}

-- ---- words and what they mention

spelled-append : (t : ModeTable) (xs ys : List Word) → spelled t (xs ++ ys) ≡ spelled t xs ++ spelled t ys
spelled-append t [] ys = refl
spelled-append t (Says b ∷ xs) ys = rw (spelled-append t xs ys) (sym (append_assoc b (spelled t xs) (spelled t ys)))
spelled-append t (Mentions k ∷ xs) ys = rw (spelled-append t xs ys) (sym (append_assoc (name_of t k) (spelled t xs) (spelled t ys)))

mentioned-append : (t : ModeTable) (xs ys : List Word) → mentioned t (xs ++ ys) ≡ mentioned t xs ++ mentioned t ys
mentioned-append t [] ys = refl
mentioned-append t (Says b ∷ xs) ys = mentioned-append t xs ys
mentioned-append t (Mentions k ∷ xs) ys = rw (mentioned-append t xs ys) (by (ltb k (length t.records)))
  where
    by : (b : Bool) → (if b then k ∷ (mentioned t xs ++ mentioned t ys) else mentioned t xs ++ mentioned t ys) ≡ (if b then k ∷ mentioned t xs else mentioned t xs) ++ mentioned t ys
    by true = refl
    by false = refl

mentioned_below : (t : ModeTable) (ws : List Word) → AllByRecursion (λ k. k < length t.records) (mentioned t ws)
mentioned_below t [] = tt
mentioned_below t (Says b ∷ ws) = mentioned_below t ws
mentioned_below t (Mentions k ∷ ws) = by (mentioned_below t ws) (ltb k (length t.records)) refl
  where
    by : AllByRecursion (λ k. k < length t.records) (mentioned t ws) → (b : Bool) → ltb k (length t.records) ≡ b → AllByRecursion (λ k. k < length t.records) (if b then k ∷ mentioned t ws else mentioned t ws)
    by h true e = (ltb-true k (length t.records) e, h)
    by h false e = h

joined-append : {A : Type 0} (f : ℕ → List A) (xs ys : List ℕ) → joined (map f (xs ++ ys)) ≡ joined (map f xs) ++ joined (map f ys)
joined-append f [] ys = refl
joined-append f (x ∷ xs) ys = rw (joined-append f xs ys) (sym (append_assoc (f x) (joined (map f xs)) (joined (map f ys))))

-- ---- the rounds

module _ (t : ModeTable) (ws : List Word) where
  -- what words mention, and the definitions of these records
  abbrev after : List ℕ → List ℕ
  after ks = mentioned t (ws ++ joined (map (definition t) ks))

  abbrev round : List ℕ → List ℕ
  round ks = with_new [] (after ks)

  after-append : (ks ls : List ℕ) → after (ks ++ ls) ≡ after ks ++ mentioned t (joined (map (definition t) ls))
  after-append ks ls = rw (joined-append (definition t) ks ls, sym (append_assoc ws (joined (map (definition t) ks)) (joined (map (definition t) ls)))) (mentioned-append t (ws ++ joined (map (definition t) ks)) (joined (map (definition t) ls)))

  round_begins : (ks ls : List ℕ) → Begins ks ls → Begins (round ks) (round ls)
  round_begins ks ls p = rw (p.is, after-append ks p.rest, with_new-append [] (after ks) (mentioned t (joined (map (definition t) p.rest)))) (begins_with_new (round ks) (mentioned t (joined (map (definition t) p.rest))))

  round_once : (ks : List ℕ) → OnceBelow (length t.records) (round ks)
  round_once ks = once_with_new (length t.records) [] (after ks) (mentioned_below t (ws ++ joined (map (definition t) ks))) (none_once (length t.records))

  round_more : (ks : List ℕ) (k : ℕ) → with_new (round ks) (mentioned t (definition t k)) ≡ round (ks ++ k ∷ [])
  round_more ks k = rw (after-append ks (k ∷ []), append-nil (definition t k), with_new-append [] (after ks) (mentioned t (definition t k))) refl

  abbrev at : ℕ → List ℕ
  at n = reached t ws n

  next_round : (n : ℕ) → at (suc n) ≡ round (at n)
  unfolding reached
  next_round n = refl

  at_begins : (n : ℕ) → Begins (at n) (at (suc n))
  unfolding reached
  at_begins zero = nothing_begins (round [])
  at_begins (suc n) = round_begins (at n) (at (suc n)) (at_begins n)

  at_later : (n m : ℕ) → n ≤ m → Begins (at n) (at m)
  at_later n zero h = let e : n ≡ 0 = omega arith in rw e (begins_itself (at 0))
  at_later n (suc m) h = elim (eq-or-lt_of_le h) [
    | inl e ↦ rw e (begins_itself (at (suc m)))
    | inr less ↦ begins_on (at n) (at m) (at (suc m)) (at_later n m (omega arith)) (at_begins m)
  ]

  -- a list that a round leaves as it is holds all that any round reaches
  at_closed : (ks : List ℕ) → ks ≡ round ks → (n : ℕ) → Begins (at n) ks
  unfolding reached
  at_closed ks e zero = nothing_begins ks
  at_closed ks e (suc n) = rw e (round_begins (at n) ks (at_closed ks e n))

  -- such a list, all of which is known by a round, is what the last round reaches
  at_last : (ks : List ℕ) (n last : ℕ) → ks ≡ round ks → Begins ks (at n) → n ≤ last → at last ≡ ks
  at_last ks n last e p h = same (at last) ks (at_closed ks e last) (begins_on ks (at n) (at last) p (at_later n last h))

-- ---- the texts of the definitions, from a place on
abbrev texts : ModeTable → ℕ → List ℕ → List ℕ
texts t place [] = []
texts t place (k ∷ ks) = lead place ++ (spelled t (definition t k) ++ texts t (place + 1) ks)

later_lead : (place : ℕ) → 0 < place → lead place ≡ codes ","
later_lead zero h = absurd (omega arith)
later_lead (suc n) h = let e : eqb (suc n) 0 ≡ false = grind (arith, nat_tests) in rw e refl

later_texts : (t : ModeTable) (place : ℕ) (ks : List ℕ) → 0 < place → texts t place ks ≡ spelled t (after_commas (map (definition t) ks))
later_texts t place [] h = refl
later_texts t place (k ∷ ks) h = rw (later_lead place h, later_texts t (place + 1) ks (omega arith), spelled-append t (definition t k) (after_commas (map (definition t) ks))) refl

first_texts : (t : ModeTable) (ks : List ℕ) → texts t 0 ks ≡ spelled t (where_words t ks)
first_texts t [] = refl
first_texts t (k ∷ ks) = rw (later_texts t 1 ks (omega arith), spelled-append t (definition t k) (after_commas (map (definition t) ks))) refl

-- ---- what the code writes

module _ (t : ModeTable) (ws : List Word) where
  abbrev count : ℕ
  count = length t.records

  abbrev all : List ℕ
  all = at t ws (suc count)

  -- What is known at a place: what the words mention, and the definitions before the place.
  record Known (known : List ℕ) (place : ℕ) : Type 0 where
    is : known ≡ round t ws (take place known)
    within : place ≤ length known
    reached : Begins known (at t ws (suc place))

  is_few : (known : List ℕ) (place : ℕ) → Known known place → length known ≤ count
  is_few known place h = rw (h.is) (few count (round t ws (take place known)) (round_once t ws (take place known)))

  -- a record is at the place, and the list goes on
  module _ (known : List ℕ) (place k : ℕ) (h : Known known place) (e : Some k ≡ slice_get known place) where
    abbrev more : List ℕ
    more = with_new known (mentioned t (definition t k))

    longer : Begins known more
    longer = begins_with_new known (mentioned t (definition t k))

    inside : place < length known
    inside = slice_get_within known place k (sym e)

    taken : take (place + 1) known ≡ take place known ++ k ∷ []
    taken = rw (take_more known place k inside, get_or_from_slice_get known place k k (sym e)) refl

    more_is : more ≡ round t ws (take (place + 1) known)
    more_is = rw (taken, sym (round_more t ws (take place known) k), sym h.is) refl

    taken_begins : Begins (take (place + 1) known) known
    taken_begins = record { rest = drop (place + 1) known; is = sym (take-append-drop (place + 1) known) }

    further : Begins more (at t ws (suc (suc place)))
    further = rw (more_is, next_round t ws (suc place)) (round_begins t ws (take (place + 1) known) (at t ws (suc place)) (begins_on (take (place + 1) known) known (at t ws (suc place)) taken_begins h.reached))

    next_known : Known more (place + 1)
    next_known = record {
      is = more_is ∙ ap (round t ws) (sym (take_again known more (place + 1) longer (omega (arith, inside))));
      within = omega (arith, no_shorter known more longer, inside);
      reached = rw add-one further;
    }

    known_begins : Begins known all
    known_begins = begins_on known (at t ws (suc place)) all h.reached (at_later t ws (suc place) (suc count) (omega (arith, inside, is_few known place h)))

    here : drop place all ≡ k ∷ drop (place + 1) all
    here = let g = get_again known all place k known_begins e in
        rw (drop_more all place k (slice_get_within all place k (sym g)), get_or_from_slice_get all place k k (sym g)) refl

    goes_on : (rest : List Word) → spelled t rest ≡ texts t (place + 1) (drop (place + 1) all)
        → spelled t (Says (lead place ++ (name_of t k ++ codes "(")) ∷ (fields_inside (fields_of t k) ++ rest)) ≡ texts t place (drop place all)
    goes_on rest f = rw (here, sym f, spelled-append t (fields_inside (fields_of t k)) rest) (simp append_assoc)

  -- no record is at the place
  ended : (known : List ℕ) (place : ℕ) → Known known place → None ≡ slice_get known place → (length known ≤ place) × (all ≡ known) × (known ≡ round t ws known)
  ended known place h e = elim (slice_get_cases known place).1 [
    | inl (x, inside, is, _) ↦ absurd (cc)
    | inr (past, _) ↦
        let closed : known ≡ round t ws known = h.is ∙ ap (round t ws) (take_all place known past) in
        (past, at_last t ws known (suc place) (suc count) closed h.reached (omega (arith, is_few known place h, h.within)), closed)
  ]

  ends : (known : List ℕ) (place : ℕ) → Known known place → None ≡ slice_get known place → [] ≡ texts t place (drop place all)
  ends known place h e = let f = ended known place h e in rw (f.1, drop_of_length-le known f.0) refl

  last_round : (known : List ℕ) (place : ℕ) → Known known place → None ≡ slice_get known place → all ≡ round t ws all
  last_round known place h e = let f = ended known place h e in rw (f.1) f.2

  step : (fuel : ℕ) (known : List ℕ) (place : ℕ) → Known known place → ((more : List ℕ) → Known more (place + 1) → spelled t (defined_from t fuel more (place + 1)) ≡ texts t (place + 1) (drop (place + 1) all))
      → (o : Option ℕ) → o ≡ slice_get known place → spelled t (defined_from t (suc fuel) known place) ≡ texts t place (drop place all)
  unfolding defined_from
  step fuel known place h later None e = rw (sym e, defined_from) (ends known place h e)
  step fuel known place h later (Some k) e = rw (sym e, defined_from) (goes_on known place k h e _ (later (more known place k h e) (next_known known place k h e)))

  written : (fuel : ℕ) (known : List ℕ) (place : ℕ) → Known known place → count < place + fuel → spelled t (defined_from t fuel known place) ≡ texts t place (drop place all)
  unfolding defined_from
  written zero known place h enough = absurd (omega (arith, is_few known place h, h.within))
  written (suc fuel) known place h enough = step fuel known place h (λ more g. written fuel more (place + 1) g (omega arith)) (slice_get known place) refl

  first_known : Known (with_new [] (mentioned t ws)) 0
  unfolding reached
  first_known = record { is = rw append-nil refl; within = omega arith; reached = rw append-nil (begins_itself _) }

  -- the words that are left at the beginning have the text of the full mode
  pub whole : spelled t (words_left t [] 0 ws) ≡ full_text t ws
  whole = rw (
    spelled-append t ws (defined_from t (2 ^ 64 + count - 0) (with_new [] (mentioned t ws)) 0),
    spelled-append t ws (where_words t all),
    sym (first_texts t all),
    written (2 ^ 64 + count - 0) (with_new [] (mentioned t ws)) 0 first_known (omega arith),
  ) refl

  -- what is known at the end is what the last round reaches, and one more round leaves it as it is
  closed : (fuel : ℕ) (known : List ℕ) (place : ℕ) → Known known place → count < place + fuel → all ≡ round t ws all
  closed zero known place h enough = absurd (omega (arith, is_few known place h, h.within))
  closed (suc fuel) known place h enough = by (λ more g. closed fuel more (place + 1) g (omega arith)) (slice_get known place) refl
    where
      by : ((more : List ℕ) → Known more (place + 1) → all ≡ round t ws all) → (o : Option ℕ) → o ≡ slice_get known place → all ≡ round t ws all
      by later None e = last_round known place h e
      by later (Some k) e = later (more known place k h e) (next_known known place k h e)

  pub all_closed : all ≡ round t ws all
  all_closed = closed (suc count) (with_new [] (mentioned t ws)) 0 first_known (omega arith)

mentions_of_commas : (t : ModeTable) (ks : List ℕ) → mentioned t (after_commas (map (definition t) ks)) ≡ mentioned t (joined (map (definition t) ks))
mentions_of_commas t [] = refl
mentions_of_commas t (k ∷ ks) = rw (mentioned-append t (definition t k) (after_commas (map (definition t) ks)), mentions_of_commas t ks, mentioned-append t (definition t k) (joined (map (definition t) ks))) refl

mentions_of_where : (t : ModeTable) (ks : List ℕ) → mentioned t (where_words t ks) ≡ mentioned t (joined (map (definition t) ks))
mentions_of_where t [] = refl
mentions_of_where t (k ∷ ks) = mentions_of_commas t (k ∷ ks)

pub define_mentioned : (t : ModeTable) (ws : List Word) → with_new [] (mentioned t (ws ++ where_words t (reached_by t ws))) ≡ reached_by t ws
define_mentioned t ws = rw (mentioned-append t ws (where_words t (reached_by t ws)), mentions_of_where t (reached_by t ws), sym (mentioned-append t ws (joined (map (definition t) (reached_by t ws))))) (sym (all_closed t ws))
