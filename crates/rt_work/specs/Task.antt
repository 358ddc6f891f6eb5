-- One activation: what is still to be done, and its next visible step. Nothing here has a store.
--
-- The invisible work is a function by recursion on the trees: `first` says which visible step comes first in a value, with
-- what is still to be done after it, or goes on where there is none. So each line can be read as an order of steps.
use Rattle.std.specs.Prelude.{ℕ, zero, suc, ◌+◌, ◌-◌, ◌%◌, Bool, true, false, ◌&&◌, nat_le, ◌==◌, not, if◌then◌else◌, List, [], ◌∷◌, Option, Some, None, slice_get, slice_set}
use Rattle.rt_words.specs.Word.{wrap_add}
use Rattle.rt_tree_nodes.specs.declared.store.Proc.{Proc}
use Rattle.rt_tree_nodes.specs.declared.store.Origin.{Origin}
use Rattle.rt_tree_nodes.specs.declared.store.Origin.TheVariants.{Brick, Text}
use Rattle.rt_tree_nodes.specs.declared.store.Location.{Location}
use Rattle.rt_tree_nodes.specs.declared.store.Location.TheVariants as location
use Rattle.rt_tree_nodes.specs.declared.store.Datum.{Datum}
use Rattle.rt_tree_nodes.specs.declared.store.Datum.TheVariants.{Word, Reference, Row, Procedure, Truth}
use Rattle.rt_tree_nodes.specs.declared.operators.Op1.{Op1}
use Rattle.rt_tree_nodes.specs.declared.operators.Op2.{Op2}
use Rattle.rt_tree_nodes.specs.declared.operators.Rel.{Rel}
use Rattle.rt_tree_nodes.specs.declared.operators.Rel.TheVariants as rel
use Rattle.rt_tree_nodes.specs.Tree.{Term, Num, Str, Name, Own, Get, Ref, RefRow, Count, CountRow, One, Two, Over, Apply, ApplyBy, Path, ItemAt, Svc, FieldOf, Elem, ElemRow, Past, Terms, NoTerm, MoreTerms, Cond, Is, Both, Either, Stmt, Keep, Clear, Put, Run, Toss, Goto, GiveBack, Back, Switch, Inner, If, For, To, While, Recover, Seq, Done, Then, Mark}
use Rattle.rt_rules.specs.declared.service.Svc.TheVariants as svc
use Rattle.rt_work_state.specs.declared.request.Request.{Request}
use Rattle.rt_work_state.specs.declared.request.Request.TheVariants.{Takes, Puts, Rules}
use Rattle.rt_work.specs.declared.numbers.Share.{Share}
use Rattle.rt_work.specs.declared.numbers.Share.TheVariants.{Gives, Fails}
use Rattle.rt_work.specs.Numbers.{one_of, two_of, divided, holds, turns, turns_to}
use Rattle.rt_work_state.specs.Stores.{deeper, erp}
use Rattle.rt_work_state.specs.Items.{Again, Alter, AndThen, Args, Asks, At, Begin, Calls, Choose, Compare, CountFor, CountTo, Decide, Do, Drop, Enter, EnterBy, Env, Errors, Eval, Fetch, GiveUp, Into, Item, Jumps, Lacks, Leaps, Leave, Length, Local, Merge, Next, OrElse, PastElse, Pick, PickRow, Reads, Recovers, Report, Returns, Save, Serve, Span, Split, Stand, Tell, ToLabel, Try, TurnFor, TurnTo, Writes, how_many, item, local, text, word_at}

-- what goes on with the values and the locals
abbrev pub Going : Type 0
Going = List Datum → List Datum → Next

-- ---- values

-- A subscript of n elements, from 1 on. No array has more than 8,191, so a subscript below 0 is none as a word either.
abbrev pub in_row : ℕ → ℕ → Bool
in_row i n = nat_le 1 i && nat_le i n

-- the place of the element, or error 1
abbrev pub picked : Going → Location → ℕ → ℕ → List Datum → List Datum → Next
picked go p i n vs ls = if in_row i n then go (Reference (deeper p (i - 1)) ∷ vs) ls else Errors 1

-- the last value, where it is of a kind, and the values under it
abbrev pub word_on : List Datum → Option (ℕ × List Datum)
word_on (Word n ∷ vs) = Some (n, vs)
word_on _ = None

abbrev pub place_on : List Datum → Option (Location × List Datum)
place_on (Reference p ∷ vs) = Some (p, vs)
place_on _ = None

abbrev pub row_on : List Datum → Option ((Location × ℕ) × List Datum)
row_on (Row p n ∷ vs) = Some ((p, n), vs)
row_on _ = None

abbrev pub proc_on : List Datum → Option (Proc × List Datum)
proc_on (Procedure f ∷ vs) = Some (f, vs)
proc_on _ = None

abbrev pub truth_on : List Datum → Option (Bool × List Datum)
truth_on (Truth b ∷ vs) = Some (b, vs)
truth_on _ = None

abbrev pub any_on : List Datum → Option (Datum × List Datum)
any_on (v ∷ vs) = Some (v, vs)
any_on [] = None

-- it goes on with what was found, or lacks it
abbrev pub found : {A : Type 0} → Option (A × List Datum) → (A → List Datum → Next) → Next
found None go = Lacks
found (Some (x, vs)) go = go x vs

abbrev pub fetch_then : List Item → List Datum → List Datum → Next
fetch_then rest vs ls = found (place_on vs) (λ p us. Reads p rest us ls)

abbrev pub into_then : ℕ → Going → List Datum → List Datum → Next
into_then k go vs ls = found (place_on vs) (λ p us. go (Reference (deeper p k) ∷ us) ls)

abbrev pub pick_then : ℕ → Going → List Datum → List Datum → Next
pick_then n go vs ls = found (word_on vs) (λ i us. found (place_on us) (λ p ws. picked go p i n ws ls))

abbrev pub pick_row_then : Going → List Datum → List Datum → Next
pick_row_then go vs ls = found (word_on vs) (λ i us. found (row_on us) (λ r ws. picked go r.0 i r.1 ws ls))

abbrev pub span_then : ℕ → Going → List Datum → List Datum → Next
span_then n go vs ls = found (place_on vs) (λ p us. go (Row p n ∷ us) ls)

abbrev pub tell_then : ℕ → Going → List Datum → List Datum → Next
tell_then n go vs ls = found (place_on vs) (λ p us. go (Word n ∷ us) ls)

abbrev pub length_then : Going → List Datum → List Datum → Next
length_then go vs ls = found (row_on vs) (λ r us. go (Word r.1 ∷ us) ls)

abbrev pub alter_then : Op1 → Going → List Datum → List Datum → Next
alter_then o go vs ls = found (word_on vs) (λ a us. go (Word (one_of o a) ∷ us) ls)

abbrev pub merge_then : Op2 → Going → List Datum → List Datum → Next
merge_then o go vs ls = found (word_on vs) (λ b us. found (word_on us) (λ a ws. go (Word (two_of o a b) ∷ ws) ls))

-- a division that fails reads ERP, and its value is 0, which stands once the call has come back
abbrev pub share_then : Share → List Item → Going → List Datum → List Datum → Next
share_then (Gives n) rest go vs ls = go (Word n ∷ vs) ls
share_then (Fails n) rest go vs ls = Reads erp (Report n ∷ Stand 0 ∷ rest) vs ls

abbrev pub split_then : Op2 → List Item → Going → List Datum → List Datum → Next
split_then o rest go vs ls =
    found (word_on vs) (λ b us. found (word_on us) (λ a ws. share_then (divided o a b) rest go ws ls))

abbrev pub report_then : ℕ → List Item → List Datum → List Datum → Next
report_then n rest vs ls = found (proc_on vs) (λ f us. Calls f (Word n ∷ []) rest us ls)

-- the last n values, the first of them in front
abbrev pub taken : ℕ → List Datum → List Datum → List Datum
taken zero args vs = args
taken (suc n) args [] = args
taken (suc n) args (v ∷ vs) = taken n (v ∷ args) vs

abbrev pub left : ℕ → List Datum → List Datum
left zero vs = vs
left (suc n) [] = []
left (suc n) (v ∷ vs) = left n vs

abbrev pub enter_then : Proc → ℕ → List Item → List Datum → List Datum → Next
enter_then f n rest vs ls = Calls f (taken n [] vs) rest (left n vs) ls

abbrev pub enter_by_then : ℕ → List Item → List Datum → List Datum → Next
enter_by_then n rest vs ls = found (proc_on (left n vs)) (λ f us. Calls f (taken n [] vs) rest us ls)

abbrev pub local_then : ℕ → Going → List Datum → List Datum → Next
local_then i go vs ls = found (any_on vs) (λ v us. go us (slice_set ls i v))

abbrev pub save_then : List Item → List Datum → List Datum → Next
save_then rest vs ls = found (any_on vs) (λ v us. found (place_on us) (λ p ws. Writes p v rest ws ls))

abbrev pub drop_then : Going → List Datum → List Datum → Next
drop_then go vs ls = found (any_on vs) (λ v us. go us ls)

-- ---- tests

abbrev pub same_path : List ℕ → List ℕ → Bool
same_path [] [] = true
same_path (i ∷ p) (j ∷ q) = i == j && same_path p q
same_path [] (j ∷ q) = false
same_path (i ∷ p) [] = false

abbrev pub same_origin : Origin → Origin → Bool
same_origin (Brick m b) (Brick n c) = m == n && b == c
same_origin (Text m b) (Text n c) = m == n && b == c
same_origin (Brick m b) (Text n c) = false
same_origin (Text m b) (Brick n c) = false

abbrev pub same_location : Location → Location → Bool
same_location (location.Shared o p) (location.Shared r q) = same_origin o r && same_path p q
same_location (location.Own i) (location.Own j) = i == j
same_location (location.Shared o p) (location.Own j) = false
same_location (location.Own i) (location.Shared r q) = false

-- `:=:` or `:#:`
abbrev pub same_by : Rel → Location → Location → Bool
same_by rel.Same p q = same_location p q
same_by _ p q = not (same_location p q)

-- the answer for two values of one kind
abbrev pub compared : Rel → Datum → Datum → Option Bool
compared r (Word a) (Word b) = Some (holds r a b)
compared r (Reference p) (Reference q) = Some (same_by r p q)
compared r (Row p m) (Row q n) = Some (same_by r p q)
compared r _ _ = None

abbrev pub answered : Option Bool → Going → List Datum → List Datum → Next
answered None go vs ls = Lacks
answered (Some b) go vs ls = go (Truth b ∷ vs) ls

abbrev pub compare_then : Rel → Going → List Datum → List Datum → Next
compare_then r go vs ls = found (any_on vs) (λ b us. found (any_on us) (λ a ws. answered (compared r a b) go ws ls))

abbrev pub by_truth : Bool → Next → Next → Next
by_truth true a b = a
by_truth false a b = b

abbrev pub and_then : Going → Going → List Datum → List Datum → Next
and_then more go vs ls = found (truth_on vs) (λ b us. by_truth b (more us ls) (go (Truth false ∷ us) ls))

abbrev pub or_then : Going → Going → List Datum → List Datum → Next
or_then more go vs ls = found (truth_on vs) (λ b us. by_truth b (go (Truth true ∷ us) ls) (more us ls))

abbrev pub choose_then : Going → Going → List Datum → List Datum → Next
choose_then chosen otherwise vs ls = found (truth_on vs) (λ b us. by_truth b (chosen us ls) (otherwise us ls))

-- ---- loops: local i is the variable, i + 1 the step, i + 2 the turns that are left

-- no turn, or the first one, with the turns left behind it
abbrev pub counted : ℕ → ℕ → Going → Going → List Datum → List Datum → Next
counted i zero out into vs ls = out vs ls
counted i (suc n) out into vs ls = into vs (slice_set ls (i + 2) (Word n))

abbrev pub count_by : ℕ → Option ℕ → Option ℕ → ℕ → Going → Going → List Datum → List Datum → Next
count_by i (Some start) (Some step) end out into vs ls = counted i (turns start step end) out into vs ls
count_by i _ _ end out into vs ls = Lacks

abbrev pub count_for_then : ℕ → Going → Going → List Datum → List Datum → Next
count_for_then i out into vs ls =
    found (word_on vs) (λ end us. count_by i (word_at ls i) (word_at ls (i + 1)) end out into us ls)

abbrev pub count_to_then : ℕ → Going → Going → List Datum → List Datum → Next
count_to_then i out into vs ls = found (word_on vs) (λ n us. counted i (turns_to n) out into us ls)

-- the variable goes on by the step
abbrev pub stepped : ℕ → Option ℕ → Option ℕ → List Datum → List Datum
stepped i (Some a) (Some b) ls = slice_set ls i (Word (wrap_add a b))
stepped i _ _ ls = ls

-- the next turn, where one is left
abbrev pub turn_by : ℕ → Option ℕ → List Item → Going → List Datum → List Datum → List Datum → Next
turn_by i None again go vs ls next = Lacks
turn_by i (Some zero) again go vs ls next = go vs ls
turn_by i (Some (suc n)) again go vs ls next = Jumps again vs (slice_set next (i + 2) (Word n))

abbrev pub turn_for_then : ℕ → List Item → Going → List Datum → List Datum → Next
turn_for_then i again go vs ls =
    turn_by i (word_at ls (i + 2)) again go vs ls (stepped i (word_at ls i) (word_at ls (i + 1)) ls)

abbrev pub turn_to_then : ℕ → List Item → Going → List Datum → List Datum → Next
turn_to_then i again go vs ls = turn_by i (word_at ls (i + 2)) again go vs ls ls

-- ---- labels

abbrev pub leap_or : Option ℕ → Going → List Datum → List Datum → Next
leap_or None go vs ls = go vs ls
leap_or (Some l) go vs ls = Leaps l ls

abbrev pub nth_label : ℕ → List ℕ → Option ℕ
nth_label zero ls = None
nth_label (suc n) ls = slice_get ls n

abbrev pub to_label_then : List ℕ → Going → List Datum → List Datum → Next
to_label_then labels go vs ls = found (word_on vs) (λ i us. leap_or (nth_label i labels) go us ls)

-- ---- returns and services

abbrev pub give_up_then : List Datum → Next
give_up_then vs = found (any_on vs) (λ v us. Returns (Some v))

-- the service of a TRAP
abbrev pub service : ℕ → ℕ → Request
service t n =
    if t == 1 then Takes else (
    if t == 2 then Puts (n % 256) else (
    if t == 3 then Rules (svc.Delay n) else (
    if t == 4 then Rules (svc.Wait n) else (
    if t == 5 then Rules (svc.Signal n) else (
    if t == 6 then Rules (svc.Secure n) else (
    if t == 7 then Rules (svc.Release n) else (
    if t == 8 then Rules svc.Clock else (
    if t == 9 then Rules svc.TaskNo else (
    if t == 10 then Rules (svc.Gel n) else Rules svc.End)))))))))

abbrev pub serve_then : ℕ → List Item → List Datum → Next
serve_then t rest [] = Asks (service t 0) rest
serve_then t rest (Word n ∷ vs) = Asks (service t n) rest
serve_then t rest _ = Lacks

-- ---- trees: the first visible step, or what goes on where there is none

module _ (e : Env) where
  abbrev mutual
    pub first : Term → List Item → Going → Going
    first (Num n) rest go vs ls = go (Word n ∷ vs) ls
    first (Str n) rest go vs ls = go (text e n ∷ vs) ls
    first (Name b) rest go vs ls = go (Procedure (e.leads b) ∷ vs) ls
    first (Own i) rest go vs ls = go (local ls i ∷ vs) ls
    first (Get m p) rest go vs ls = first_p p (Fetch ∷ rest) (fetch_then rest) vs ls
    first (Ref p) rest go vs ls = first_p p rest go vs ls
    first (RefRow p n) rest go vs ls = first_p p (Span n ∷ rest) (span_then n go) vs ls
    first (Count p n) rest go vs ls = first_p p (Tell n ∷ rest) (tell_then n go) vs ls
    first (CountRow v) rest go vs ls = first v (Length ∷ rest) (length_then go) vs ls
    first (One o v) rest go vs ls = first v (Alter o ∷ rest) (alter_then o go) vs ls
    first (Two o a b) rest go vs ls =
        first a (Eval b ∷ Merge o ∷ rest) (λ us ks. first b (Merge o ∷ rest) (merge_then o go) us ks) vs ls
    first (Over o a b) rest go vs ls =
        first a (Eval b ∷ Split o ∷ rest) (λ us ks. first b (Split o ∷ rest) (split_then o rest go) us ks) vs ls
    first (Apply b xs) rest go vs ls =
        first_all xs (Enter b (how_many xs) ∷ rest) (enter_then (e.leads b) (how_many xs) rest) vs ls
    first (ApplyBy m f xs) rest go vs ls =
        first f (Args xs ∷ EnterBy (how_many xs) ∷ rest) (λ us ks. first_all xs (EnterBy (how_many xs) ∷ rest) (enter_by_then (how_many xs) rest) us ks) vs ls

    pub first_p : Path → List Item → Going → Going
    first_p (ItemAt b i) rest go vs ls = go (Reference (item e b i) ∷ vs) ls
    first_p (Svc k) rest go vs ls = go (Reference (location.Own k) ∷ vs) ls
    first_p (FieldOf p r k) rest go vs ls = first_p p (Into p k ∷ rest) (into_then k go) vs ls
    first_p (Elem p v n m) rest go vs ls =
        first_p p (Eval v ∷ Pick p n ∷ rest) (λ us ks. first v (Pick p n ∷ rest) (pick_then n go) us ks) vs ls
    first_p (ElemRow a v m) rest go vs ls =
        first a (Eval v ∷ PickRow ∷ rest) (λ us ks. first v (PickRow ∷ rest) (pick_row_then go) us ks) vs ls
    first_p (Past v) rest go vs ls = first v rest go vs ls

    pub first_all : Terms → List Item → Going → Going
    first_all NoTerm rest go vs ls = go vs ls
    first_all (MoreTerms v xs) rest go vs ls = first v (Args xs ∷ rest) (λ us ks. first_all xs rest go us ks) vs ls

  abbrev pub first_t : Cond → List Item → Going → Going
  first_t (Is r a b) rest go vs ls =
      first a (Eval b ∷ Compare r a b ∷ rest) (λ us ks. first b (Compare r a b ∷ rest) (compare_then r go) us ks) vs ls
  first_t (Both t u) rest go vs ls = first_t t (AndThen u ∷ rest) (and_then (λ us ks. first_t u rest go us ks) go) vs ls
  first_t (Either t u) rest go vs ls = first_t t (OrElse u ∷ rest) (or_then (λ us ks. first_t u rest go us ks) go) vs ls

  abbrev mutual
    pub first_s : Stmt → List Item → Going → Going
    first_s (Keep i v) rest go vs ls = first v (Local i ∷ rest) (local_then i go) vs ls
    first_s (Clear i) rest go vs ls = go vs (slice_set ls i (Word 0))
    first_s (Put m p v) rest go vs ls =
        first_p p (Eval v ∷ Save p v ∷ rest) (λ us ks. first v (Save p v ∷ rest) (save_then rest) us ks) vs ls
    first_s (Run v) rest go vs ls = first v rest go vs ls
    first_s (Toss v) rest go vs ls = first v (Drop ∷ rest) (drop_then go) vs ls
    first_s (Goto l) rest go vs ls = Leaps l ls
    first_s (GiveBack v) rest go vs ls = first v (GiveUp ∷ rest) (λ us ks. give_up_then us) vs ls
    first_s Back rest go vs ls = Returns None
    first_s (Switch v labels) rest go vs ls = first v (ToLabel labels ∷ rest) (to_label_then labels go) vs ls
    first_s (Inner q) rest go vs ls = first_q q rest go vs ls
    first_s (If t a b) rest go vs ls =
        first_t t (Choose a b ∷ rest) (choose_then (λ us ks. first_q a (PastElse ∷ rest) go us ks) (λ us ks. first_q b rest go us ks)) vs ls
    first_s (For i a b c q) rest go vs ls =
        first a (Local i ∷ Eval b ∷ Local (i + 1) ∷ Eval c ∷ CountFor i q ∷ rest) (local_then i (λ us ks.
        first b (Local (i + 1) ∷ Eval c ∷ CountFor i q ∷ rest) (local_then (i + 1) (λ us2 ks2.
        first c (CountFor i q ∷ rest) (count_for_then i go (λ us3 ks3. first_q q (TurnFor i q ∷ rest) (turn_for_then i (Do q ∷ TurnFor i q ∷ rest) go) us3 ks3)) us2 ks2)) us ks)) vs ls
    first_s (To i n q) rest go vs ls =
        first n (CountTo i q ∷ rest) (count_to_then i go (λ us ks. first_q q (TurnTo i q ∷ rest) (turn_to_then i (Do q ∷ TurnTo i q ∷ rest) go) us ks)) vs ls
    first_s (While t q) rest go vs ls =
        first_t t (Decide t q ∷ rest) (choose_then (λ us ks. first_q q (Again t q ∷ rest) (λ ws ms. Jumps (Try t ∷ Decide t q ∷ rest) ws ms) us ks) go) vs ls
    first_s (Recover l) rest go vs ls = Recovers l rest vs ls

    pub first_q : Seq → List Item → Going → Going
    first_q Done rest go vs ls = go vs ls
    first_q (Then s q) rest go vs ls = first_s s (Do q ∷ rest) (λ us ks. first_q q rest go us ks) vs ls
    first_q (Mark l q) rest go vs ls = first_q q rest go vs ls

  -- the bodies of loops, and what comes at their ends
  abbrev pub for_body : ℕ → Seq → List Item → Going → Going
  for_body i q rest go us ks = first_q q (TurnFor i q ∷ rest) (turn_for_then i (Do q ∷ TurnFor i q ∷ rest) go) us ks

  abbrev pub to_body : ℕ → Seq → List Item → Going → Going
  to_body i q rest go us ks = first_q q (TurnTo i q ∷ rest) (turn_to_then i (Do q ∷ TurnTo i q ∷ rest) go) us ks

  abbrev pub while_body : Cond → Seq → List Item → Going
  while_body t q rest us ks = first_q q (Again t q ∷ rest) (λ ws ms. Jumps (Try t ∷ Decide t q ∷ rest) ws ms) us ks

  -- the next visible step, from what is to be done, the values and the locals
  abbrev pub next : List Item → List Datum → List Datum → Next
  next [] vs ls = Lacks
  next (Do q ∷ rest) vs ls = first_q q rest (λ us ks. next rest us ks) vs ls
  next (Eval v ∷ rest) vs ls = first v rest (λ us ks. next rest us ks) vs ls
  next (At p ∷ rest) vs ls = first_p p rest (λ us ks. next rest us ks) vs ls
  next (Args xs ∷ rest) vs ls = first_all xs rest (λ us ks. next rest us ks) vs ls
  next (Fetch ∷ rest) vs ls = fetch_then rest vs ls
  next (Into p k ∷ rest) vs ls = into_then k (λ us ks. next rest us ks) vs ls
  next (Pick p n ∷ rest) vs ls = pick_then n (λ us ks. next rest us ks) vs ls
  next (PickRow ∷ rest) vs ls = pick_row_then (λ us ks. next rest us ks) vs ls
  next (Span n ∷ rest) vs ls = span_then n (λ us ks. next rest us ks) vs ls
  next (Tell n ∷ rest) vs ls = tell_then n (λ us ks. next rest us ks) vs ls
  next (Length ∷ rest) vs ls = length_then (λ us ks. next rest us ks) vs ls
  next (Alter o ∷ rest) vs ls = alter_then o (λ us ks. next rest us ks) vs ls
  next (Merge o ∷ rest) vs ls = merge_then o (λ us ks. next rest us ks) vs ls
  next (Split o ∷ rest) vs ls = split_then o rest (λ us ks. next rest us ks) vs ls
  next (Report n ∷ rest) vs ls = report_then n rest vs ls
  next (Stand n ∷ rest) vs ls = next rest (Word n ∷ vs) ls
  next (Enter b n ∷ rest) vs ls = enter_then (e.leads b) n rest vs ls
  next (EnterBy n ∷ rest) vs ls = enter_by_then n rest vs ls
  next (Local i ∷ rest) vs ls = local_then i (λ us ks. next rest us ks) vs ls
  next (Save p v ∷ rest) vs ls = save_then rest vs ls
  next (Drop ∷ rest) vs ls = drop_then (λ us ks. next rest us ks) vs ls
  next (Compare r a b ∷ rest) vs ls = compare_then r (λ us ks. next rest us ks) vs ls
  next (Try t ∷ rest) vs ls = first_t t rest (λ us ks. next rest us ks) vs ls
  next (AndThen t ∷ rest) vs ls = and_then (λ us ks. first_t t rest (λ ws ms. next rest ws ms) us ks) (λ us ks. next rest us ks) vs ls
  next (OrElse t ∷ rest) vs ls = or_then (λ us ks. first_t t rest (λ ws ms. next rest ws ms) us ks) (λ us ks. next rest us ks) vs ls
  next (Choose a b ∷ rest) vs ls =
      choose_then (λ us ks. first_q a (PastElse ∷ rest) (λ ws ms. next rest ws ms) us ks) (λ us ks. first_q b rest (λ ws ms. next rest ws ms) us ks) vs ls
  next (PastElse ∷ rest) vs ls = next rest vs ls
  next (Decide t q ∷ rest) vs ls = choose_then (while_body t q rest) (λ us ks. next rest us ks) vs ls
  next (Again t q ∷ rest) vs ls = Jumps (Try t ∷ Decide t q ∷ rest) vs ls
  next (CountFor i q ∷ rest) vs ls = count_for_then i (λ us ks. next rest us ks) (for_body i q rest (λ us ks. next rest us ks)) vs ls
  next (TurnFor i q ∷ rest) vs ls = turn_for_then i (Do q ∷ TurnFor i q ∷ rest) (λ us ks. next rest us ks) vs ls
  next (CountTo i q ∷ rest) vs ls = count_to_then i (λ us ks. next rest us ks) (to_body i q rest (λ us ks. next rest us ks)) vs ls
  next (TurnTo i q ∷ rest) vs ls = turn_to_then i (Do q ∷ TurnTo i q ∷ rest) (λ us ks. next rest us ks) vs ls
  next (ToLabel labels ∷ rest) vs ls = to_label_then labels (λ us ks. next rest us ks) vs ls
  next (GiveUp ∷ rest) vs ls = give_up_then vs
  next (Leave ∷ rest) vs ls = Returns None
  next (Begin f ∷ rest) vs ls = Calls f [] rest vs ls
  next (Serve t ∷ rest) vs ls = serve_then t rest vs
