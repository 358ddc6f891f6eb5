-- What is still to be done keeps to the points.
use Rattle.std.proofs.Common.{◌≡◌, inl, inr, ℕ, zero, suc, ◌+◌, Bool, true, false, ◌==◌, ◌&&◌, not, if◌then◌else◌, List, [], ◌∷◌, Option, Some, None, refl, sym, ap, subst}
use Rattle.std.specs.List.{Contains}
use Rattle.std.proofs.lemmas.Option.{slice_get_within, get_or_from_slice_get}
use Rattle.rt_modes.specs.declared.mode.Mode.{Mode}
use Rattle.rt_tree_nodes.specs.declared.operators.Op1.{Op1}
use Rattle.rt_tree_nodes.specs.declared.operators.Op2.{Op2}
use Rattle.rt_tree_nodes.specs.declared.operators.Rel.{Rel}
use Rattle.rt_tree_nodes.specs.declared.store.Datum.{Datum}
use Rattle.rt_tree_nodes.specs.declared.store.Datum.TheVariants.{Word, Truth}
use Rattle.rt_tree_nodes.specs.declared.store.Location.{Location}
use Rattle.rt_tree_nodes.specs.declared.store.Proc.{Proc}
use Rattle.rt_tree_nodes.specs.Tree.{Term, Num, Str, Name, Own, Get, Ref, RefRow, Count, CountRow, One, Two, Over, Apply, ApplyBy, Path, ItemAt, Svc, FieldOf, Elem, ElemRow, Past, Terms, NoTerm, MoreTerms, Cond, Is, Both, Either, Stmt, Keep, Clear, Put, Run, Toss, Goto, GiveBack, Back, Switch, Inner, If, For, To, While, Recover, Seq, Done, Then, Mark}
use Rattle.rt_work.specs.declared.numbers.Share.{Share}
use Rattle.rt_work.specs.declared.numbers.Share.TheVariants.{Gives, Fails}
use Rattle.rt_words.specs.Operators.{sdiv}
use Rattle.rt_words.specs.Operators as words
use Rattle.rt_words.specs.declared.kinds.Quotient.{Quotient}
use Rattle.rt_words.specs.declared.kinds.Quotient.TheVariants as quotient
use Rattle.rt_tree_nodes.specs.declared.operators.Op2.TheVariants as two
use Rattle.rt_work.specs.Numbers.{divided, quotient_of, remainder_of, turns, turns_to}
use Rattle.rt_work_state.specs.Items.{Again, Alter, AndThen, Args, Asks, At, Begin, Calls, Choose, Compare, CountFor, CountTo, Decide, Do, Drop, Enter, EnterBy, Env, Errors, Eval, Fetch, GiveUp, Into, Item, Jumps, Lacks, Leaps, Leave, Length, Local, Merge, Next, OrElse, PastElse, Pick, PickRow, Reads, Recovers, Report, Returns, Save, Serve, Span, Split, Stand, Tell, ToLabel, Try, TurnFor, TurnTo, Writes, how_many, item, local, text, word_at}
use Rattle.rt_work_state.specs.Items as items
use Rattle.rt_work.specs.Task.{Going, in_row, word_on, place_on, row_on, proc_on, any_on, found, picked, fetch_then, into_then, pick_then, pick_row_then, span_then, tell_then, length_then, alter_then, merge_then, share_then, split_then, report_then, enter_then, enter_by_then, local_then, save_then, drop_then, compared, answered, compare_then, and_then, or_then, choose_then, counted, count_by, count_for_then, count_to_then, turn_by, turn_for_then, turn_to_then, leap_or, nth_label, to_label_then, give_up_then, first, first_p, first_all, first_t, first_s, first_q, next, left}
use Rattle.rt_rules.proofs.Rows.{if_by}
use Rattle.rt_guarded.specs.Points as p
use Rattle.rt_frames.specs.Points.{is_safe}
use Rattle.rt_frames_laws.specs.Plain.{number_of}
use Rattle.rt_guarded.specs.Points.{Point, ReturnsAt, at_end, at_return, value, place, values, test, statement, sequence, dividing, brick_at}
use Rattle.rt_guards_laws.specs.Ways.{Comes, stays, one, other, over, turn, asks, past, well, by_name, by_value, at_error, goes, picks, Shows, Follows, EntriesFollow, LabelsFollow}

-- a safe divisor divides without an error
sdiv_by : (z m w : Bool) (x : Quotient) → z ≡ false → w ≡ false → (if z then quotient.Zero else (if m && w then quotient.Wide else x)) ≡ x
sdiv_by true m w x e f = cc
sdiv_by false true true x e f = cc
sdiv_by false false true x e f = refl
sdiv_by false true false x e f = refl
sdiv_by false false false x e f = refl

neither : (z w : Bool) → (not z && not w) ≡ true → (z ≡ false) × (w ≡ false)
neither true w e = cc
neither false true e = cc
neither false false e = (refl, refl)

sdiv_safe : (a n : ℕ) → is_safe (Some n) ≡ true → sdiv a n ≡ words.divided a n
sdiv_safe a n s = let c = neither (n == 0) (n == 65535) s in sdiv_by (n == 0) (a == 32768) (n == 65535) (words.divided a n) c.0 c.1

safe_gives : (o : Op2) (a n : ℕ) → is_safe (Some n) ≡ true → (x : ℕ) × (divided o a n ≡ Gives x)
safe_gives two.Divide a n s = (_, ap quotient_of (sdiv_safe a n s))
safe_gives _ a n s = (_, ap remainder_of (sdiv_safe a n s))

module _ (e : Env) where
  -- ---- the relations

  -- control comes to t from t0
  abbrev From : (Point → Point → Type 0)
  From s t = (u : Point) → Comes e t u → Comes e s u

  before : (F : Point → List Item → Type 0) (s t : Point) (x : Next) → From s t → Shows e F t x → Shows e F s x
  before F s t (Reads l todo vs ls) c h = elim h [ inl a ↦ inl (a.0, a.1, c _ a.2, a.3) | inr b ↦ inr (b.0, c _ b.1, b.2) ]
  before F s t (Writes l v todo vs ls) c h = (h.0, h.1, c _ h.2, h.3)
  before F s t (Calls g args todo vs ls) c h = (h.0, h.1, c _ h.2, h.3, h.4)
  before F s t (Returns v) c h = (h.0, c _ h.1, h.2)
  before F s t (Jumps todo vs ls) c h = (h.0, c _ h.1, h.2)
  before F s t (Leaps l ls) c h = (h.0, c _ h.1, h.2)
  before F s t (Asks r todo) c h = h
  before F s t (Recovers l todo vs ls) c h = (h.0, c _ h.1, h.2)
  before F s t (Errors n) c h = tt
  before F s t Lacks c h = tt

  weaker : (F G : Point → List Item → Type 0) → ((u : Point) (todo : List Item) → F u todo → G u todo) → (t : Point) (x : Next) → Shows e F t x → Shows e G t x
  weaker F G w t (Reads l todo vs ls) h = elim h [ inl a ↦ inl (a.0, a.1, a.2, w _ _ a.3) | inr b ↦ inr (b.0, b.1, w _ _ b.2) ]
  weaker F G w t (Writes l v todo vs ls) h = (h.0, h.1, h.2, w _ _ h.3)
  weaker F G w t (Calls g args todo vs ls) h = (h.0, h.1, h.2, h.3, w _ _ h.4)
  weaker F G w t (Returns v) h = h
  weaker F G w t (Jumps todo vs ls) h = (h.0, h.1, w _ _ h.2)
  weaker F G w t (Leaps l ls) h = h
  weaker F G w t (Asks r todo) h = h
  weaker F G w t (Recovers l todo vs ls) h = (h.0, h.1, w _ _ h.2)
  weaker F G w t (Errors n) h = tt
  weaker F G w t Lacks h = tt

  -- fewer steps follow too
  pub fewer : (k : ℕ) (t : Point) (todo : List Item) → Follows e (suc k) t todo → Follows e k t todo
  fewer zero t todo h = tt
  fewer (suc k) t todo h = λ vs ls. weaker (Follows e (suc k)) (Follows e k) (fewer k) t (next e todo vs ls) (h vs ls)

  module _ (F : Point → List Item → Type 0) where
    abbrev Goes : Point → Going → Type 0
    Goes t go = (us ks : List Datum) → Shows e F t (go us ks)

    -- ---- one item of invisible work

    find : {A : Type 0} (t : Point) (o : Option (A × List Datum)) (go : A → List Datum → Next) → ((a : A) (us : List Datum) → Shows e F t (go a us)) → Shows e F t (found o go)
    find t None go h = tt
    find t (Some (a, us)) go h = h a us

    if_shows : (t : Point) (b : Bool) (x y : Next) → Shows e F t x → Shows e F t y → Shows e F t (if b then x else y)
    if_shows t true x y h j = h
    if_shows t false x y h j = j

    picked_goes : (t : Point) (go : Going) (l : Location) (i n : ℕ) (vs ls : List Datum) → Goes t go → Shows e F t (picked go l i n vs ls)
    picked_goes t go l i n vs ls h = if_shows t (in_row i n) _ (Errors 1) (h _ ls) tt

    into_goes : (t : Point) (k : ℕ) (go : Going) → Goes t go → Goes t (into_then k go)
    into_goes t k go h us ks = find t (place_on us) _ (λ l ws. h _ ks)

    pick_goes : (t : Point) (n : ℕ) (go : Going) → Goes t go → Goes t (pick_then n go)
    pick_goes t n go h us ks = find t (word_on us) _ (λ i ws. find t (place_on ws) _ (λ l zs. picked_goes t go l i n zs ks h))

    pick_row_goes : (t : Point) (go : Going) → Goes t go → Goes t (pick_row_then go)
    pick_row_goes t go h us ks = find t (word_on us) _ (λ i ws. find t (row_on ws) _ (λ r zs. picked_goes t go r.0 i r.1 zs ks h))

    span_goes : (t : Point) (n : ℕ) (go : Going) → Goes t go → Goes t (span_then n go)
    span_goes t n go h us ks = find t (place_on us) _ (λ l ws. h _ ks)

    tell_goes : (t : Point) (n : ℕ) (go : Going) → Goes t go → Goes t (tell_then n go)
    tell_goes t n go h us ks = find t (place_on us) _ (λ l ws. h _ ks)

    length_goes : (t : Point) (go : Going) → Goes t go → Goes t (length_then go)
    length_goes t go h us ks = find t (row_on us) _ (λ r ws. h _ ks)

    alter_goes : (t : Point) (o : Op1) (go : Going) → Goes t go → Goes t (alter_then o go)
    alter_goes t o go h us ks = find t (word_on us) _ (λ a ws. h _ ks)

    merge_goes : (t : Point) (o : Op2) (go : Going) → Goes t go → Goes t (merge_then o go)
    merge_goes t o go h us ks = find t (word_on us) _ (λ b ws. find t (word_on ws) _ (λ a zs. h _ ks))

    local_goes : (t : Point) (i : ℕ) (go : Going) → Goes t go → Goes t (local_then i go)
    local_goes t i go h us ks = find t (any_on us) _ (λ v ws. h _ _)

    drop_goes : (t : Point) (go : Going) → Goes t go → Goes t (drop_then go)
    drop_goes t go h us ks = find t (any_on us) _ (λ v ws. h _ ks)

    -- ---- one visible step

    fetch_goes : (t : Point) (o : Option Proc) (rest : List Item) → F t rest → Goes (p.Reads o t) (fetch_then rest)
    fetch_goes t o rest f us ks = find (p.Reads o t) (place_on us) _ (λ l ws. inl (o, t, stays, f))

    save_goes : (t : Point) (o : Option Proc) (rest : List Item) → F t rest → Goes (p.Writes o t) (save_then rest)
    save_goes t o rest f us ks = find (p.Writes o t) (any_on us) _ (λ v ws. find (p.Writes o t) (place_on ws) _ (λ l zs. (o, t, stays, f)))

    share_goes : (t : Point) (x : Share) (rest : List Item) (go : Going) → ((n : ℕ) → F (p.Divides t) (Report n ∷ Stand 0 ∷ rest)) → Goes t go → (us ks : List Datum) → Shows e F (p.Divides t) (share_then x rest go us ks)
    share_goes t (Gives n) rest go f h us ks = before F (p.Divides t) t _ (λ u c. well c) (h (Word n ∷ us) ks)
    share_goes t (Fails n) rest go f h us ks = inr (t, stays, f n)

    split_goes : (t : Point) (o : Op2) (rest : List Item) (go : Going) → ((n : ℕ) → F (p.Divides t) (Report n ∷ Stand 0 ∷ rest)) → Goes t go → Goes (p.Divides t) (split_then o rest go)
    split_goes t o rest go f h us ks =
        find (p.Divides t) (word_on us) _ (λ b ws. find (p.Divides t) (word_on ws) _ (λ a zs. share_goes t (divided o a b) rest go f h zs ks))

    report_goes : (t : Point) (n : ℕ) (rest : List Item) → F t rest → Goes (p.Divides t) (report_then n rest)
    report_goes t n rest f us ks = find (p.Divides t) (proc_on us) _ (λ g ws. (t, p.Divides t, stays, at_error, f))

    -- a call whose argument isn't known
    enter_goes : (t : Point) (g : Proc) (n : ℕ) (rest : List Item) → F t rest → Goes (p.Calls g None t) (enter_then g n rest)
    enter_goes t g n rest f us ks = (t, p.Calls g None t, stays, by_name tt, f)

    enter_by_goes : (t : Point) (m : Mode) (n : ℕ) (rest : List Item) → F t rest → Goes (p.CallsBy m t) (enter_by_then n rest)
    enter_by_goes t m n rest f us ks = find (p.CallsBy m t) (proc_on (left n us)) _ (λ g ws. (t, p.CallsBy m t, stays, by_value, f))

    give_up_goes : (t : Point) → (us ks : List Datum) → Shows e F (p.Returns t) (give_up_then us)
    give_up_goes t us ks = find (p.Returns t) (any_on us) _ (λ v ws. (p.Returns t, stays, at_return))

    -- ---- tests

    -- what goes on with an answer
    abbrev Answers : Point → Point → Going → Type 0
    Answers a b go = (us ks : List Datum) → Shows e F a (go (Truth true ∷ us) ks) × Shows e F b (go (Truth false ∷ us) ks)

    answered_goes : (a b : Point) (o : Option Bool) (go : Going) → Answers a b go → (us ks : List Datum) → Shows e F (p.Forks a b) (answered o go us ks)
    answered_goes a b None go h us ks = tt
    answered_goes a b (Some true) go h us ks = before F (p.Forks a b) a _ (λ u c. one c) (h us ks).0
    answered_goes a b (Some false) go h us ks = before F (p.Forks a b) b _ (λ u c. other c) (h us ks).1

    compare_goes : (a b : Point) (r : Rel) (go : Going) → Answers a b go → Goes (p.Forks a b) (compare_then r go)
    compare_goes a b r go h us ks =
        find (p.Forks a b) (any_on us) _ (λ y ws. find (p.Forks a b) (any_on ws) _ (λ x zs. answered_goes a b (compared r x y) go h zs ks))

    -- ---- loops and labels

    counted_goes : (t : Point) (q : Seq) (i n : ℕ) (out into : Going) → Goes t out → Goes (sequence e q (p.Turns q t)) into → Goes (p.Turns q t) (counted i n out into)
    counted_goes t q i zero out into h j us ks = before F (p.Turns q t) t _ (λ u c. over c) (h us ks)
    counted_goes t q i (suc n) out into h j us ks = before F (p.Turns q t) _ _ (λ u c. turn c) (j us _)

    count_by_goes : (t : Point) (q : Seq) (i : ℕ) (a b : Option ℕ) (n : ℕ) (out into : Going) → Goes t out → Goes (sequence e q (p.Turns q t)) into → Goes (p.Turns q t) (count_by i a b n out into)
    count_by_goes t q i (Some a) (Some b) n out into h j us ks = counted_goes t q i (turns a b n) out into h j us ks
    count_by_goes t q i (Some a) None n out into h j us ks = tt
    count_by_goes t q i None b n out into h j us ks = tt

    count_for_goes : (t : Point) (q : Seq) (i : ℕ) (out into : Going) → Goes t out → Goes (sequence e q (p.Turns q t)) into → Goes (p.Turns q t) (count_for_then i out into)
    count_for_goes t q i out into h j us ks = find (p.Turns q t) (word_on us) _ (λ n ws. count_by_goes t q i (word_at ks i) (word_at ks (i + 1)) n out into h j ws ks)

    count_to_goes : (t : Point) (q : Seq) (i : ℕ) (out into : Going) → Goes t out → Goes (sequence e q (p.Turns q t)) into → Goes (p.Turns q t) (count_to_then i out into)
    count_to_goes t q i out into h j us ks = find (p.Turns q t) (word_on us) _ (λ n ws. counted_goes t q i (turns_to n) out into h j ws ks)

    turn_by_goes : (t : Point) (q : Seq) (i : ℕ) (o : Option ℕ) (again : List Item) (go : Going) → Goes t go → F (sequence e q (p.Turns q t)) again → (us ks ms : List Datum) → Shows e F (p.Turns q t) (turn_by i o again go us ks ms)
    turn_by_goes t q i None again go h f us ks ms = tt
    turn_by_goes t q i (Some zero) again go h f us ks ms = before F (p.Turns q t) t _ (λ u c. over c) (h us ks)
    turn_by_goes t q i (Some (suc n)) again go h f us ks ms = (sequence e q (p.Turns q t), turn stays, f)

    nth_contained : (i : ℕ) (ls : List ℕ) (l : ℕ) → nth_label i ls ≡ Some l → Contains ls l
    nth_contained zero ls l h = cc
    nth_contained (suc n) ls l h = (n, slice_get_within ls n l h, get_or_from_slice_get ls n l l h)

    leap_goes : (t : Point) (ls : List ℕ) (o : Option ℕ) (go : Going) → ((l : ℕ) → o ≡ Some l → Contains ls l) → Goes t go → Goes (p.Picks ls t) (leap_or o go)
    leap_goes t ls None go c h us ks = before F (p.Picks ls t) t _ (λ u x. past x) (h us ks)
    leap_goes t ls (Some l) go c h us ks = (p.Picks ls t, stays, picks (c l refl))

    to_label_goes : (t : Point) (ls : List ℕ) (go : Going) → Goes t go → Goes (p.Picks ls t) (to_label_then ls go)
    to_label_goes t ls go h us ks = find (p.Picks ls t) (word_on us) _ (λ i ws. leap_goes t ls (nth_label i ls) go (λ l x. nth_contained i ls l x) h ws ks)

    -- ---- trees

    -- what is known of what is left at a visible step
    record Bundle (T : Point → Point → List Item → Type 0) : Type 0 where
      term : (v : Term) (t : Point) (rest : List Item) → F t rest → F (value e v t) (Eval v ∷ rest)
      terms : (vs : Terms) (t : Point) (rest : List Item) → F t rest → F (values e vs t) (Args vs ∷ rest)
      seq : (q : Seq) (t : Point) (rest : List Item) → F t rest → F (sequence e q t) (Do q ∷ rest)
      try : (c : Cond) (a b : Point) (rest : List Item) → T a b rest → F (test e c a b) (Try c ∷ rest)
      fetch : (o : Option Proc) (t : Point) (rest : List Item) → F t rest → F (p.Reads o t) (Fetch ∷ rest)
      into : (q : Path) (k : ℕ) (t : Point) (rest : List Item) → F t rest → F t (Into q k ∷ rest)
      pick : (q : Path) (n : ℕ) (t : Point) (rest : List Item) → F t rest → F t (Pick q n ∷ rest)
      pick_row : (t : Point) (rest : List Item) → F t rest → F t (PickRow ∷ rest)
      span : (n : ℕ) (t : Point) (rest : List Item) → F t rest → F t (Span n ∷ rest)
      tell : (n : ℕ) (t : Point) (rest : List Item) → F t rest → F t (Tell n ∷ rest)
      row_length : (t : Point) (rest : List Item) → F t rest → F t (Length ∷ rest)
      alter : (o : Op1) (t : Point) (rest : List Item) → F t rest → F t (Alter o ∷ rest)
      merge : (o : Op2) (t : Point) (rest : List Item) → F t rest → F t (Merge o ∷ rest)
      split : (o : Op2) (t : Point) (rest : List Item) → F t rest → F (p.Divides t) (Split o ∷ rest)
      safe : (o : Op2) (n : ℕ) (t : Point) (rest : List Item) → is_safe (Some n) ≡ true → F t rest → F t (Eval (Num n) ∷ Split o ∷ rest)
      report : (n : ℕ) (t : Point) (rest : List Item) → F t rest → F (p.Divides t) (Report n ∷ Stand 0 ∷ rest)
      enter : (b n : ℕ) (t : Point) (rest : List Item) → F t rest → F (p.Calls (e.leads b) None t) (Enter b n ∷ rest)
      enter_by : (m : Mode) (n : ℕ) (t : Point) (rest : List Item) → F t rest → F (p.CallsBy m t) (EnterBy n ∷ rest)
      keep : (i : ℕ) (t : Point) (rest : List Item) → F t rest → F t (Local i ∷ rest)
      drop : (t : Point) (rest : List Item) → F t rest → F t (Drop ∷ rest)
      save : (o : Option Proc) (q : Path) (v : Term) (t : Point) (rest : List Item) → F t rest → F (p.Writes o t) (Save q v ∷ rest)
      compare : (r : Rel) (x y : Term) (a b : Point) (rest : List Item) → T a b rest → F (p.Forks a b) (Compare r x y ∷ rest)
      and_next : (c : Cond) (a b : Point) (rest : List Item) → T a b rest → T (test e c a b) b (AndThen c ∷ rest)
      or_next : (c : Cond) (a b : Point) (rest : List Item) → T a b rest → T a (test e c a b) (OrElse c ∷ rest)
      choose : (a b : Seq) (t : Point) (rest : List Item) → F t rest → T (sequence e a t) (sequence e b t) (Choose a b ∷ rest)
      past_else : (t : Point) (rest : List Item) → F t rest → F t (PastElse ∷ rest)
      decide : (c : Cond) (q : Seq) (t : Point) (rest : List Item) → F t rest → T (sequence e q (p.Tests c q t)) t (Decide c q ∷ rest)
      again : (c : Cond) (q : Seq) (t : Point) (rest : List Item) → F t rest → F (p.Tests c q t) (Again c q ∷ rest)
      count_for : (i : ℕ) (q : Seq) (t : Point) (rest : List Item) → F t rest → F (p.Turns q t) (CountFor i q ∷ rest)
      turn_for : (i : ℕ) (q : Seq) (t : Point) (rest : List Item) → F t rest → F (p.Turns q t) (TurnFor i q ∷ rest)
      count_to : (i : ℕ) (q : Seq) (t : Point) (rest : List Item) → F t rest → F (p.Turns q t) (CountTo i q ∷ rest)
      turn_to : (i : ℕ) (q : Seq) (t : Point) (rest : List Item) → F t rest → F (p.Turns q t) (TurnTo i q ∷ rest)
      to_label : (ls : List ℕ) (t : Point) (rest : List Item) → F t rest → F (p.Picks ls t) (ToLabel ls ∷ rest)
      give_up : (t : Point) (rest : List Item) → F (p.Returns t) (GiveUp ∷ rest)
      stand : (n : ℕ) (t : Point) (rest : List Item) → F t rest → F t (Stand n ∷ rest)

    module _ (T : Point → Point → List Item → Type 0) (b : Bundle T) where
      -- a divisor is safe, or the division is a point
      by_divisor : (y : Term) (P : Point → Type 0) (t : Point) → ((n : ℕ) → y ≡ Num n → is_safe (Some n) ≡ true → P t) → P (p.Divides t) → P (dividing (number_of y) t)
      by_divisor (Num n) P t safe may = if_by P (is_safe (Some n)) t (p.Divides t) (λ s. safe n refl s) (λ _. may)
      by_divisor _ P t safe may = may

      -- the one argument is a number, or none is known
      by_number : (v : Term) (P : Option ℕ → Type 0) → ((m : ℕ) → v ≡ Num m → P (Some m)) → P None → P (number_of v)
      by_number (Num m) P known free = known m refl
      by_number _ P known free = free

      by_argument : (vs : Terms) (P : Option ℕ → Type 0) → ((m : ℕ) → vs ≡ MoreTerms (Num m) NoTerm → P (Some m)) → P None → P (p.argument vs)
      by_argument NoTerm P known free = free
      by_argument (MoreTerms v (MoreTerms w ws)) P known free = free
      by_argument (MoreTerms v NoTerm) P known free = by_number v P (λ m i. known m (ap (λ z. MoreTerms z NoTerm) i)) free

      safe_goes : (o : Op2) (n : ℕ) (t : Point) (rest : List Item) (go : Going) → is_safe (Some n) ≡ true → Goes t go → (us ks : List Datum) → Shows e F t (split_then o rest go (Word n ∷ us) ks)
      safe_goes o n t rest go s h us ks = find t (word_on us) _ (λ a zs. subst (λ x. Shows e F t (share_then x rest go zs ks)) (sym (safe_gives o a n s).1) (h _ ks))

      mutual
        v_goes : (v : Term) (t : Point) (rest : List Item) (go : Going) → F t rest → Goes t go → Goes (value e v t) (first e v rest go)
        v_goes (Num n) t rest go f h us ks = h _ ks
        v_goes (Str n) t rest go f h us ks = h _ ks
        v_goes (Name n) t rest go f h us ks = h _ ks
        v_goes (Own n) t rest go f h us ks = h _ ks
        v_goes (Get m q) t rest go f h us ks = p_goes q (p.Reads (brick_at e q) t) (Fetch ∷ rest) (fetch_then rest) (b.fetch (brick_at e q) t rest f) (fetch_goes t (brick_at e q) rest f) us ks
        v_goes (Ref q) t rest go f h us ks = p_goes q t rest go f h us ks
        v_goes (RefRow q n) t rest go f h us ks = p_goes q t (Span n ∷ rest) (span_then n go) (b.span n t rest f) (span_goes t n go h) us ks
        v_goes (Count q n) t rest go f h us ks = p_goes q t (Tell n ∷ rest) (tell_then n go) (b.tell n t rest f) (tell_goes t n go h) us ks
        v_goes (CountRow v) t rest go f h us ks = v_goes v t (Length ∷ rest) (length_then go) (b.row_length t rest f) (length_goes t go h) us ks
        v_goes (One o v) t rest go f h us ks = v_goes v t (Alter o ∷ rest) (alter_then o go) (b.alter o t rest f) (alter_goes t o go h) us ks
        v_goes (Two o x y) t rest go f h us ks =
            v_goes x (value e y t) (Eval y ∷ Merge o ∷ rest) (λ ws ms. first e y (Merge o ∷ rest) (merge_then o go) ws ms) (b.term y t (Merge o ∷ rest) (b.merge o t rest f))
            (v_goes y t (Merge o ∷ rest) (merge_then o go) (b.merge o t rest f) (merge_goes t o go h)) us ks
        v_goes (Over o x y) t rest go f h us ks =
            v_goes x (value e y (dividing (number_of y) t)) (Eval y ∷ Split o ∷ rest) (λ ws ms. first e y (Split o ∷ rest) (split_then o rest go) ws ms)
            (by_divisor y (λ u. F (value e y u) (Eval y ∷ Split o ∷ rest)) t (λ n i s. subst (λ z. F (value e z t) (Eval z ∷ Split o ∷ rest)) (sym i) (b.safe o n t rest s f)) (b.term y (p.Divides t) (Split o ∷ rest) (b.split o t rest f)))
            (by_divisor y (λ u. Goes (value e y u) (λ ws ms. first e y (Split o ∷ rest) (split_then o rest go) ws ms)) t
            (λ n i s. subst (λ z. Goes (value e z t) (λ ws ms. first e z (Split o ∷ rest) (split_then o rest go) ws ms)) (sym i) (safe_goes o n t rest go s h))
            (v_goes y (p.Divides t) (Split o ∷ rest) (split_then o rest go) (b.split o t rest f) (split_goes t o rest go (λ n. b.report n t rest f) h)))
            us ks
        v_goes (Apply n vs) t rest go f h us ks =
            by_argument vs (λ a. Shows e F (values e vs (p.Calls (e.leads n) a t)) (first e (Apply n vs) rest go us ks))
            (λ m i. subst (λ z. Shows e F (values e z (p.Calls (e.leads n) (Some m) t)) (first e (Apply n z) rest go us ks)) (sym i) (t, p.Calls (e.leads n) (Some m) t, stays, by_name refl, f))
            (all_goes vs (p.Calls (e.leads n) None t) (Enter n (how_many vs) ∷ rest) (enter_then (e.leads n) (how_many vs) rest) (b.enter n (how_many vs) t rest f) (enter_goes t (e.leads n) (how_many vs) rest f) us ks)
        v_goes (ApplyBy m g vs) t rest go f h us ks =
            v_goes g (values e vs (p.CallsBy m t)) (Args vs ∷ EnterBy (how_many vs) ∷ rest) (λ ws ms. first_all e vs (EnterBy (how_many vs) ∷ rest) (enter_by_then (how_many vs) rest) ws ms)
            (b.terms vs (p.CallsBy m t) (EnterBy (how_many vs) ∷ rest) (b.enter_by m (how_many vs) t rest f))
            (all_goes vs (p.CallsBy m t) (EnterBy (how_many vs) ∷ rest) (enter_by_then (how_many vs) rest) (b.enter_by m (how_many vs) t rest f) (enter_by_goes t m (how_many vs) rest f)) us ks

        p_goes : (q : Path) (t : Point) (rest : List Item) (go : Going) → F t rest → Goes t go → Goes (place e q t) (first_p e q rest go)
        p_goes (ItemAt n i) t rest go f h us ks = h _ ks
        p_goes (Svc i) t rest go f h us ks = h _ ks
        p_goes (FieldOf q r k) t rest go f h us ks = p_goes q t (Into q k ∷ rest) (into_then k go) (b.into q k t rest f) (into_goes t k go h) us ks
        p_goes (Elem q v n m) t rest go f h us ks =
            p_goes q (value e v t) (Eval v ∷ Pick q n ∷ rest) (λ ws ms. first e v (Pick q n ∷ rest) (pick_then n go) ws ms) (b.term v t (Pick q n ∷ rest) (b.pick q n t rest f))
            (v_goes v t (Pick q n ∷ rest) (pick_then n go) (b.pick q n t rest f) (pick_goes t n go h)) us ks
        p_goes (ElemRow x v m) t rest go f h us ks =
            v_goes x (value e v t) (Eval v ∷ PickRow ∷ rest) (λ ws ms. first e v (PickRow ∷ rest) (pick_row_then go) ws ms) (b.term v t (PickRow ∷ rest) (b.pick_row t rest f))
            (v_goes v t (PickRow ∷ rest) (pick_row_then go) (b.pick_row t rest f) (pick_row_goes t go h)) us ks
        p_goes (Past v) t rest go f h us ks = v_goes v t rest go f h us ks

        all_goes : (vs : Terms) (t : Point) (rest : List Item) (go : Going) → F t rest → Goes t go → Goes (values e vs t) (first_all e vs rest go)
        all_goes NoTerm t rest go f h us ks = h us ks
        all_goes (MoreTerms v vs) t rest go f h us ks =
            v_goes v (values e vs t) (Args vs ∷ rest) (λ ws ms. first_all e vs rest go ws ms) (b.terms vs t rest f) (all_goes vs t rest go f h) us ks

      t_goes : (c : Cond) (x y : Point) (rest : List Item) (go : Going) → T x y rest → Answers x y go → Goes (test e c x y) (first_t e c rest go)
      t_goes (Is r v w) x y rest go f h us ks =
          v_goes v (value e w (p.Forks x y)) (Eval w ∷ Compare r v w ∷ rest) (λ ws ms. first e w (Compare r v w ∷ rest) (compare_then r go) ws ms) (b.term w (p.Forks x y) (Compare r v w ∷ rest) (b.compare r v w x y rest f))
          (v_goes w (p.Forks x y) (Compare r v w ∷ rest) (compare_then r go) (b.compare r v w x y rest f) (compare_goes x y r go h)) us ks
      t_goes (Both c d) x y rest go f h us ks =
          t_goes c (test e d x y) y (AndThen d ∷ rest) (and_then (λ ws ms. first_t e d rest go ws ms) go) (b.and_next d x y rest f) (λ ws ms. (t_goes d x y rest go f h ws ms, (h ws ms).1)) us ks
      t_goes (Either c d) x y rest go f h us ks =
          t_goes c x (test e d x y) (OrElse d ∷ rest) (or_then (λ ws ms. first_t e d rest go ws ms) go) (b.or_next d x y rest f) (λ ws ms. ((h ws ms).0, t_goes d x y rest go f h ws ms)) us ks

      for_goes : (i : ℕ) (q : Seq) (t : Point) (rest : List Item) (go : Going) → F t rest → Goes t go → Goes (p.Turns q t) (turn_for_then i (Do q ∷ TurnFor i q ∷ rest) go)
      for_goes i q t rest go f h us ks = turn_by_goes t q i (word_at ks (i + 2)) (Do q ∷ TurnFor i q ∷ rest) go h (b.seq q (p.Turns q t) (TurnFor i q ∷ rest) (b.turn_for i q t rest f)) us ks _

      to_goes : (i : ℕ) (q : Seq) (t : Point) (rest : List Item) (go : Going) → F t rest → Goes t go → Goes (p.Turns q t) (turn_to_then i (Do q ∷ TurnTo i q ∷ rest) go)
      to_goes i q t rest go f h us ks = turn_by_goes t q i (word_at ks (i + 2)) (Do q ∷ TurnTo i q ∷ rest) go h (b.seq q (p.Turns q t) (TurnTo i q ∷ rest) (b.turn_to i q t rest f)) us ks ks

      again_goes : (c : Cond) (q : Seq) (t : Point) (rest : List Item) → F t rest → Goes (p.Tests c q t) (λ ws ms. Jumps (Try c ∷ Decide c q ∷ rest) ws ms)
      again_goes c q t rest f us ks = (test e c (sequence e q (p.Tests c q t)) t, asks stays, b.try c (sequence e q (p.Tests c q t)) t (Decide c q ∷ rest) (b.decide c q t rest f))

      mutual
        s_goes : (s : Stmt) (t : Point) (rest : List Item) (go : Going) → F t rest → Goes t go → Goes (statement e s t) (first_s e s rest go)
        s_goes (Keep i v) t rest go f h us ks = v_goes v t (Local i ∷ rest) (local_then i go) (b.keep i t rest f) (local_goes t i go h) us ks
        s_goes (Clear i) t rest go f h us ks = h us _
        s_goes (Put m q v) t rest go f h us ks =
            p_goes q (value e v (p.Writes (brick_at e q) t)) (Eval v ∷ Save q v ∷ rest) (λ ws ms. first e v (Save q v ∷ rest) (save_then rest) ws ms)
            (b.term v (p.Writes (brick_at e q) t) (Save q v ∷ rest) (b.save (brick_at e q) q v t rest f))
            (v_goes v (p.Writes (brick_at e q) t) (Save q v ∷ rest) (save_then rest) (b.save (brick_at e q) q v t rest f) (save_goes t (brick_at e q) rest f)) us ks
        s_goes (Run v) t rest go f h us ks = v_goes v t rest go f h us ks
        s_goes (Toss v) t rest go f h us ks = v_goes v t (Drop ∷ rest) (drop_then go) (b.drop t rest f) (drop_goes t go h) us ks
        s_goes (Goto l) t rest go f h us ks = (p.Leaps l t, stays, goes)
        s_goes (GiveBack v) t rest go f h us ks = v_goes v (p.Returns t) (GiveUp ∷ rest) (λ ws ms. give_up_then ws) (b.give_up t rest) (give_up_goes t) us ks
        s_goes Back t rest go f h us ks = (p.Returns t, stays, at_return)
        s_goes (Switch v ls) t rest go f h us ks = v_goes v (p.Picks ls t) (ToLabel ls ∷ rest) (to_label_then ls go) (b.to_label ls t rest f) (to_label_goes t ls go h) us ks
        s_goes (Inner q) t rest go f h us ks = q_goes q t rest go f h us ks
        s_goes (If c x y) t rest go f h us ks =
            t_goes c (sequence e x t) (sequence e y t) (Choose x y ∷ rest) (choose_then (λ ws ms. first_q e x (PastElse ∷ rest) go ws ms) (λ ws ms. first_q e y rest go ws ms)) (b.choose x y t rest f)
            (λ ws ms. (q_goes x t (PastElse ∷ rest) go (b.past_else t rest f) h ws ms, q_goes y t rest go f h ws ms)) us ks
        s_goes (For i x y z q) t rest go f h us ks =
            let turns : Point = p.Turns q t in
            let last = b.count_for i q t rest f in
            v_goes x (value e y (value e z turns)) (Local i ∷ Eval y ∷ Local (i + 1) ∷ Eval z ∷ CountFor i q ∷ rest) _
            (b.keep i (value e y (value e z turns)) _ (b.term y (value e z turns) _ (b.keep (i + 1) (value e z turns) _ (b.term z turns (CountFor i q ∷ rest) last))))
            (local_goes (value e y (value e z turns)) i _
            (v_goes y (value e z turns) (Local (i + 1) ∷ Eval z ∷ CountFor i q ∷ rest) _ (b.keep (i + 1) (value e z turns) _ (b.term z turns (CountFor i q ∷ rest) last))
            (local_goes (value e z turns) (i + 1) _
            (v_goes z turns (CountFor i q ∷ rest) _ last
            (count_for_goes t q i go _ h
            (q_goes q turns (TurnFor i q ∷ rest) (turn_for_then i (Do q ∷ TurnFor i q ∷ rest) go) (b.turn_for i q t rest f) (for_goes i q t rest go f h))))))) us ks
        s_goes (To i n q) t rest go f h us ks =
            v_goes n (p.Turns q t) (CountTo i q ∷ rest) _ (b.count_to i q t rest f)
            (count_to_goes t q i go _ h
            (q_goes q (p.Turns q t) (TurnTo i q ∷ rest) (turn_to_then i (Do q ∷ TurnTo i q ∷ rest) go) (b.turn_to i q t rest f) (to_goes i q t rest go f h))) us ks
        s_goes (While c q) t rest go f h us ks =
            before F (p.Tests c q t) (test e c (sequence e q (p.Tests c q t)) t) _ (λ u x. asks x)
            (t_goes c (sequence e q (p.Tests c q t)) t (Decide c q ∷ rest) (choose_then (λ ws ms. first_q e q (Again c q ∷ rest) (λ xs ns. Jumps (Try c ∷ Decide c q ∷ rest) xs ns) ws ms) go) (b.decide c q t rest f)
            (λ ws ms. (q_goes q (p.Tests c q t) (Again c q ∷ rest) (λ xs ns. Jumps (Try c ∷ Decide c q ∷ rest) xs ns) (b.again c q t rest f) (again_goes c q t rest f) ws ms, h ws ms)) us ks)
        s_goes (Recover l) t rest go f h us ks = (t, stays, f)

        q_goes : (q : Seq) (t : Point) (rest : List Item) (go : Going) → F t rest → Goes t go → Goes (sequence e q t) (first_q e q rest go)
        q_goes Done t rest go f h us ks = h us ks
        q_goes (Then s q) t rest go f h us ks = s_goes s (sequence e q t) (Do q ∷ rest) (λ ws ms. first_q e q rest go ws ms) (b.seq q t rest f) (q_goes q t rest go f h) us ks
        q_goes (Mark l q) t rest go f h us ks = q_goes q t rest go f h us ks

  -- ---- for each number of steps

  -- the same of what waits for a test's answer
  abbrev TestsFollow : ℕ → Point → Point → List Item → Type 0
  TestsFollow zero x y todo = Unit {0}
  TestsFollow (suc k) x y todo = (vs ls : List Datum) → Shows e (Follows e k) x (next e todo (Truth true ∷ vs) ls) × Shows e (Follows e k) y (next e todo (Truth false ∷ vs) ls)

  tests_fewer : (k : ℕ) (x y : Point) (todo : List Item) → TestsFollow (suc k) x y todo → TestsFollow k x y todo
  tests_fewer zero x y todo h = tt
  tests_fewer (suc k) x y todo h = λ vs ls. (weaker (Follows e (suc k)) (Follows e k) (fewer k) x _ (h vs ls).0, weaker (Follows e (suc k)) (Follows e k) (fewer k) y _ (h vs ls).1)

  bundle : (k : ℕ) → Bundle (Follows e k) (TestsFollow k)
  bundle zero = record {
    term = λ v t rest h. tt;
    terms = λ vs t rest h. tt;
    seq = λ q t rest h. tt;
    try = λ c x y rest h. tt;
    fetch = λ o t rest h. tt;
    into = λ q k t rest h. tt;
    pick = λ q n t rest h. tt;
    pick_row = λ t rest h. tt;
    span = λ n t rest h. tt;
    tell = λ n t rest h. tt;
    row_length = λ t rest h. tt;
    alter = λ o t rest h. tt;
    merge = λ o t rest h. tt;
    split = λ o t rest h. tt;
    safe = λ o n t rest s h. tt;
    report = λ n t rest h. tt;
    enter = λ b n t rest h. tt;
    enter_by = λ m n t rest h. tt;
    keep = λ i t rest h. tt;
    drop = λ t rest h. tt;
    save = λ o q v t rest h. tt;
    compare = λ r v w x y rest h. tt;
    and_next = λ c x y rest h. tt;
    or_next = λ c x y rest h. tt;
    choose = λ x y t rest h. tt;
    past_else = λ t rest h. tt;
    decide = λ c q t rest h. tt;
    again = λ c q t rest h. tt;
    count_for = λ i q t rest h. tt;
    turn_for = λ i q t rest h. tt;
    count_to = λ i q t rest h. tt;
    turn_to = λ i q t rest h. tt;
    to_label = λ ls t rest h. tt;
    give_up = λ t rest. tt;
    stand = λ n t rest h. tt;
  }
  bundle (suc k) =
      let b = bundle k in record {
        term = λ v t rest h. v_goes (Follows e k) (TestsFollow k) b v t rest (λ us ks. next e rest us ks) (fewer k t rest h) h;
        terms = λ vs t rest h. all_goes (Follows e k) (TestsFollow k) b vs t rest (λ us ks. next e rest us ks) (fewer k t rest h) h;
        seq = λ q t rest h. q_goes (Follows e k) (TestsFollow k) b q t rest (λ us ks. next e rest us ks) (fewer k t rest h) h;
        try = λ c x y rest h. t_goes (Follows e k) (TestsFollow k) b c x y rest (λ us ks. next e rest us ks) (tests_fewer k x y rest h) h;
        fetch = λ o t rest h. fetch_goes (Follows e k) t o rest (fewer k t rest h);
        into = λ q n t rest h. into_goes (Follows e k) t n (λ us ks. next e rest us ks) h;
        pick = λ q n t rest h. pick_goes (Follows e k) t n (λ us ks. next e rest us ks) h;
        pick_row = λ t rest h. pick_row_goes (Follows e k) t (λ us ks. next e rest us ks) h;
        span = λ n t rest h. span_goes (Follows e k) t n (λ us ks. next e rest us ks) h;
        tell = λ n t rest h. tell_goes (Follows e k) t n (λ us ks. next e rest us ks) h;
        row_length = λ t rest h. length_goes (Follows e k) t (λ us ks. next e rest us ks) h;
        alter = λ o t rest h. alter_goes (Follows e k) t o (λ us ks. next e rest us ks) h;
        merge = λ o t rest h. merge_goes (Follows e k) t o (λ us ks. next e rest us ks) h;
        split = λ o t rest h. split_goes (Follows e k) t o rest (λ us ks. next e rest us ks) (λ n. b.report n t rest (fewer k t rest h)) h;
        safe = λ o n t rest s h vs ls. safe_goes (Follows e k) (TestsFollow k) b o n t rest (λ us ks. next e rest us ks) s h vs ls;
        report = λ n t rest h. report_goes (Follows e k) t n (Stand 0 ∷ rest) (b.stand 0 t rest (fewer k t rest h));
        enter = λ x n t rest h. enter_goes (Follows e k) t (e.leads x) n rest (fewer k t rest h);
        enter_by = λ m n t rest h. enter_by_goes (Follows e k) t m n rest (fewer k t rest h);
        keep = λ i t rest h. local_goes (Follows e k) t i (λ us ks. next e rest us ks) h;
        drop = λ t rest h. drop_goes (Follows e k) t (λ us ks. next e rest us ks) h;
        save = λ o q v t rest h. save_goes (Follows e k) t o rest (fewer k t rest h);
        compare = λ r v w x y rest h. compare_goes (Follows e k) x y r (λ us ks. next e rest us ks) h;
        and_next = λ c x y rest h vs ls. (t_goes (Follows e k) (TestsFollow k) b c x y rest (λ us ks. next e rest us ks) (tests_fewer k x y rest h) h vs ls, (h vs ls).1);
        or_next = λ c x y rest h vs ls. ((h vs ls).0, t_goes (Follows e k) (TestsFollow k) b c x y rest (λ us ks. next e rest us ks) (tests_fewer k x y rest h) h vs ls);
        choose = λ x y t rest h vs ls. (q_goes (Follows e k) (TestsFollow k) b x t (PastElse ∷ rest) (λ us ks. next e rest us ks) (b.past_else t rest (fewer k t rest h)) h vs ls, q_goes (Follows e k) (TestsFollow k) b y t rest (λ us ks. next e rest us ks) (fewer k t rest h) h vs ls);
        past_else = λ t rest h vs ls. h vs ls;
        decide = λ c q t rest h vs ls. (
          q_goes (Follows e k) (TestsFollow k) b q (p.Tests c q t) (Again c q ∷ rest) (λ xs ns. Jumps (Try c ∷ Decide c q ∷ rest) xs ns) (b.again c q t rest (fewer k t rest h)) (again_goes (Follows e k) (TestsFollow k) b c q t rest (fewer k t rest h)) vs ls,
          h vs ls,
        );
        again = λ c q t rest h. again_goes (Follows e k) (TestsFollow k) b c q t rest (fewer k t rest h);
        count_for = λ i q t rest h.
            count_for_goes (Follows e k) t q i (λ us ks. next e rest us ks) (first_q e q (TurnFor i q ∷ rest) (turn_for_then i (Do q ∷ TurnFor i q ∷ rest) (λ us ks. next e rest us ks))) h
            (q_goes (Follows e k) (TestsFollow k) b q (p.Turns q t) (TurnFor i q ∷ rest) (turn_for_then i (Do q ∷ TurnFor i q ∷ rest) (λ us ks. next e rest us ks)) (b.turn_for i q t rest (fewer k t rest h)) (for_goes (Follows e k) (TestsFollow k) b i q t rest (λ us ks. next e rest us ks) (fewer k t rest h) h));
        turn_for = λ i q t rest h. for_goes (Follows e k) (TestsFollow k) b i q t rest (λ us ks. next e rest us ks) (fewer k t rest h) h;
        count_to = λ i q t rest h.
            count_to_goes (Follows e k) t q i (λ us ks. next e rest us ks) (first_q e q (TurnTo i q ∷ rest) (turn_to_then i (Do q ∷ TurnTo i q ∷ rest) (λ us ks. next e rest us ks))) h
            (q_goes (Follows e k) (TestsFollow k) b q (p.Turns q t) (TurnTo i q ∷ rest) (turn_to_then i (Do q ∷ TurnTo i q ∷ rest) (λ us ks. next e rest us ks)) (b.turn_to i q t rest (fewer k t rest h)) (to_goes (Follows e k) (TestsFollow k) b i q t rest (λ us ks. next e rest us ks) (fewer k t rest h) h));
        turn_to = λ i q t rest h. to_goes (Follows e k) (TestsFollow k) b i q t rest (λ us ks. next e rest us ks) (fewer k t rest h) h;
        to_label = λ ls t rest h. to_label_goes (Follows e k) t ls (λ us ks. next e rest us ks) h;
        give_up = λ t rest vs ls. give_up_goes (Follows e k) t vs ls;
        stand = λ n t rest h vs ls. h (Word n ∷ vs) ls;
      }

  leave_follows : (k : ℕ) → Follows e k p.Ends (Leave ∷ [])
  leave_follows zero = tt
  leave_follows (suc k) = λ vs ls. (p.Ends, stays, at_end)

  -- ---- labels

  abbrev Match : ℕ → Option Point → Option (List Item) → Type 0
  Match k None None = Unit {0}
  Match k (Some t) (Some todo) = Follows e k t todo
  Match k None (Some todo) = ⊥
  Match k (Some t) None = ⊥

  or_match : (k : ℕ) (o r : Option Point) (i j : Option (List Item)) → Match k o i → Match k r j → Match k (items.or_else o r) (items.or_else i j)
  or_match k None r None j m n = n
  or_match k (Some t) r (Some todo) j m n = m
  or_match k None r (Some todo) j m n = absurd m
  or_match k (Some t) r None j m n = absurd m

  here_match : (k : ℕ) (c : Bool) (t : Point) (todo : List Item) (o : Option Point) (i : Option (List Item)) → Follows e k t todo → Match k o i → Match k (p.here_or e c t o) (items.here_or c todo i)
  here_match k true t todo o i f m = f
  here_match k false t todo o i f m = m

  mutual
    label_match : (k l : ℕ) (q : Seq) (t : Point) (rest : List Item) → Follows e k t rest → Match k (p.from_label e l q t) (items.from_label l q rest)
    label_match k l Done t rest f = tt
    label_match k l (Mark j q) t rest f = here_match k (j == l) (sequence e q t) (Do q ∷ rest) _ _ ((bundle k).seq q t rest f) (label_match k l q t rest f)
    label_match k l (Then s q) t rest f = or_match k _ _ _ _ (inside_match k l s (sequence e q t) (Do q ∷ rest) ((bundle k).seq q t rest f)) (label_match k l q t rest f)

    inside_match : (k l : ℕ) (s : Stmt) (t : Point) (rest : List Item) → Follows e k t rest → Match k (p.from_inside e l s t) (items.from_inside l s rest)
    inside_match k l (Inner q) t rest f = label_match k l q t rest f
    inside_match k l (If c x y) t rest f = or_match k _ _ _ _ (label_match k l x t (PastElse ∷ rest) ((bundle k).past_else t rest f)) (label_match k l y t rest f)
    inside_match k l (For j a b c q) t rest f = label_match k l q (p.Turns q t) (TurnFor j q ∷ rest) ((bundle k).turn_for j q t rest f)
    inside_match k l (To j n q) t rest f = label_match k l q (p.Turns q t) (TurnTo j q ∷ rest) ((bundle k).turn_to j q t rest f)
    inside_match k l (While c q) t rest f = label_match k l q (p.Tests c q t) (Again c q ∷ rest) ((bundle k).again c q t rest f)
    inside_match k l (Keep j v) t rest f = tt
    inside_match k l (Clear j) t rest f = tt
    inside_match k l (Put m q v) t rest f = tt
    inside_match k l (Run v) t rest f = tt
    inside_match k l (Toss v) t rest f = tt
    inside_match k l (Goto j) t rest f = tt
    inside_match k l (GiveBack v) t rest f = tt
    inside_match k l Back t rest f = tt
    inside_match k l (Switch v ls) t rest f = tt
    inside_match k l (Recover j) t rest f = tt

  matched : (k : ℕ) (o : Option Point) (i : Option (List Item)) (t : Point) → Match k o i → o ≡ Some t → (todo : List Item) × (i ≡ Some todo) × Follows e k t todo
  matched k (Some u) (Some todo) t m h = (todo, refl, let same : u ≡ t = cc in subst (λ x. Follows e k x todo) same m)
  matched k None i t m h = cc
  matched k (Some u) None t m h = absurd m

pub entries_follow : EntriesFollow
entries_follow e k q = (bundle e k).seq q p.Ends (Leave ∷ []) (leave_follows e k)

pub labels_follow : LabelsFollow
labels_follow e k l q t h = matched e k _ _ t (label_match e k l q p.Ends (Leave ∷ []) (leave_follows e k)) h
