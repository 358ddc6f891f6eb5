-- The records that a record contains, found.
use Rattle.std.proofs.Common.{◌≡◌, ℕ, zero, suc, ◌+◌, ◌<◌, ◌⊎◌, inl, inr, Bool, true, false, List, [], ◌∷◌, ◌++◌, length, replicate, Option, Some, None, slice_get, slice_set, refl, sym, ap, ◌∙◌, subst, arith}
use Rattle.rt_modes.specs.declared.mode.Field.{Field}
use Rattle.rt_modes.specs.declared.mode.RecordDef.{RecordDef}
use Rattle.rt_modes.specs.FullMode.{fields_in}
use Rattle.rt_sizes.specs.Containing.{held, HaveOne, fields_of, Contains, directly, through}
use Rattle.rt_sizes.specs.Reaching.{Reach, reach, mark_by, mark, visit, unmarked}
use Rattle.rt_sizes.proofs.Layers.{some_is}

abbrev pub In : ℕ → List ℕ → Type 0
In s [] = ⊥
In s (x ∷ xs) = (s ≡ x) ⊎ In s xs

abbrev pub Marked : List Bool → ℕ → Type 0
Marked ms s = slice_get ms s ≡ Some true

in_front : (s : ℕ) (xs ys : List ℕ) → In s xs → In s (xs ++ ys)
in_front s [] ys h = absurd h
in_front s (x ∷ xs) ys (inl e) = inl e
in_front s (x ∷ xs) ys (inr h) = inr (in_front s xs ys h)

in_behind : (s : ℕ) (xs ys : List ℕ) → In s ys → In s (xs ++ ys)
in_behind s [] ys h = h
in_behind s (x ∷ xs) ys h = inr (in_behind s xs ys h)

in_part : (s : ℕ) (xs ys : List ℕ) → In s (xs ++ ys) → In s xs ⊎ In s ys
in_part s [] ys h = inr h
in_part s (x ∷ xs) ys (inl e) = inl (inl e)
in_part s (x ∷ xs) ys (inr h) = elim (in_part s xs ys h) [ inl g ↦ inl (inr g) | inr g ↦ inr g ]

-- ---- marks

set_here : (ms : List Bool) (s : ℕ) → slice_get ms s ≡ Some false → Marked (slice_set ms s true) s
set_here [] s e = absurd cc
set_here (m ∷ ms) zero e = refl
set_here (m ∷ ms) (suc s) e = set_here ms s e

set_kept : (ms : List Bool) (s j : ℕ) → Marked ms j → Marked (slice_set ms s true) j
set_kept [] s j e = e
set_kept (m ∷ ms) zero zero e = refl
set_kept (m ∷ ms) zero (suc j) e = e
set_kept (m ∷ ms) (suc s) zero e = e
set_kept (m ∷ ms) (suc s) (suc j) e = set_kept ms s j e

pub set_from : (ms : List Bool) (s j : ℕ) → Marked (slice_set ms s true) j → Marked ms j ⊎ (j ≡ s)
set_from [] s j e = inl e
set_from (m ∷ ms) zero zero e = inr refl
set_from (m ∷ ms) zero (suc j) e = inl e
set_from (m ∷ ms) (suc s) zero e = inl e
set_from (m ∷ ms) (suc s) (suc j) e = elim (set_from ms s j e) [ inl h ↦ inl h | inr h ↦ inr (ap suc h) ]

pub set_count : (ms : List Bool) (s : ℕ) → slice_get ms s ≡ Some false → unmarked (slice_set ms s true) + 1 ≡ unmarked ms
set_count [] s e = absurd cc
set_count (false ∷ ms) zero e = omega arith
set_count (true ∷ ms) zero e = absurd cc
set_count (false ∷ ms) (suc s) e = let h = set_count ms s e in omega arith
set_count (true ∷ ms) (suc s) e = set_count ms s e

pub set_long : (ms : List Bool) (s : ℕ) → length (slice_set ms s true) ≡ length ms
set_long [] s = refl
set_long (m ∷ ms) zero = refl
set_long (m ∷ ms) (suc s) = ap suc (set_long ms s)

long_one : (xs : List ℕ) (x : ℕ) → length (xs ++ x ∷ []) ≡ length xs + 1
long_one [] x = refl
long_one (y ∷ xs) x = let h = long_one xs x in omega arith

no_mark : (ms : List Bool) (s : ℕ) → s < length ms → slice_get ms s ≡ None → ⊥
no_mark [] s l e = omega arith
no_mark (m ∷ ms) zero l e = cc
no_mark (m ∷ ms) (suc s) l e = no_mark ms s (omega arith) e

pub none_marked : (n s : ℕ) → Marked (replicate n false) s → ⊥
none_marked zero s e = cc
none_marked (suc n) zero e = cc
none_marked (suc n) (suc s) e = none_marked n s e

-- ---- what one visit does

pub record Grown (Has : ℕ → Type 0) (a b : Reach) : Type 1 where
  pub kept : (s : ℕ) → Marked a.marks s → Marked b.marks s
  pub from : (s : ℕ) → Marked b.marks s → Marked a.marks s ⊎ Has s
  pub all : (s : ℕ) → s < length a.marks → Has s → Marked b.marks s
  pub waits : (s : ℕ) → Marked b.marks s → Marked a.marks s ⊎ In s b.waiting
  pub waited : (s : ℕ) → In s a.waiting → In s b.waiting
  pub known : (s : ℕ) → In s b.waiting → In s a.waiting ⊎ Marked b.marks s
  pub count : unmarked b.marks + length b.waiting ≡ unmarked a.marks + length a.waiting
  pub long : length b.marks ≡ length a.marks

grown_same : (Has : ℕ → Type 0) (a : Reach) → ((s : ℕ) → s < length a.marks → Has s → Marked a.marks s) → Grown Has a a
grown_same Has a all = record { kept = λ s h. h; from = λ s h. inl h; all = all; waits = λ s h. inl h; waited = λ s h. h; known = λ s h. inl h; count = refl; long = refl }

grown_one : (s : ℕ) (a : Reach) (o : Option Bool) → slice_get a.marks s ≡ o → Grown (λ j. Some s ≡ Some j) a (mark_by s a o)
grown_one s a None e = grown_same (λ j. Some s ≡ Some j) a (λ j l h. absurd (no_mark a.marks s (let same : s ≡ j = some_is s j h in omega arith) e))
grown_one s a (Some true) e = grown_same (λ j. Some s ≡ Some j) a (λ j l h. subst (λ (x : ℕ). Marked a.marks x) (some_is s j h) e)
grown_one s a (Some false) e = record {
  kept = set_kept a.marks s;
  from = λ j h. elim (set_from a.marks s j h) [ inl g ↦ inl g | inr g ↦ inr (ap (λ x. Some x) (sym g)) ];
  all = λ j l h. subst (λ (x : ℕ). Marked (slice_set a.marks s true) x) (some_is s j h) (set_here a.marks s e);
  waits = λ j h. elim (set_from a.marks s j h) [ inl g ↦ inl g | inr g ↦ inr (in_behind j a.waiting (s ∷ []) (inl g)) ];
  waited = λ j h. in_front j a.waiting (s ∷ []) h;
  known = λ j h. elim (in_part j a.waiting (s ∷ []) h) [
    | inl g ↦ inl g
    | inr g ↦ elim g [ inl same ↦ inr (subst (λ (x : ℕ). Marked (slice_set a.marks s true) x) (sym same) (set_here a.marks s e)) | inr none ↦ absurd none ]
  ];
  count = let c = set_count a.marks s e in let l = long_one a.waiting s in omega arith;
  long = set_long a.marks s;
}

grown_mark : (o : Option ℕ) (a : Reach) → Grown (λ j. o ≡ Some j) a (mark o a)
grown_mark None a = grown_same (λ j. None ≡ Some j) a (λ j l h. absurd cc)
grown_mark (Some s) a = grown_one s a (slice_get a.marks s) refl

grown_both : (f : Field) (fs : List Field) (a b c : Reach) → Grown (λ j. held f.mode ≡ Some j) a b → Grown (HaveOne fs) b c → Grown (HaveOne (f ∷ fs)) a c
grown_both f fs a b c g h = record {
  kept = λ s m. h.kept s (g.kept s m);
  from = λ s m. elim (h.from s m) [ inl n ↦ elim (g.from s n) [ inl x ↦ inl x | inr y ↦ inr (inl y) ] | inr n ↦ inr (inr n) ];
  all = λ s l n. elim n [ inl e ↦ h.kept s (g.all s l e) | inr n ↦ h.all s (let same : length b.marks ≡ length a.marks = g.long in omega arith) n ];
  waits = λ s m. elim (h.waits s m) [ inl n ↦ elim (g.waits s n) [ inl x ↦ inl x | inr w ↦ inr (h.waited s w) ] | inr w ↦ inr w ];
  waited = λ s w. h.waited s (g.waited s w);
  known = λ s w. elim (h.known s w) [ inl v ↦ elim (g.known s v) [ inl x ↦ inl x | inr m ↦ inr (h.kept s m) ] | inr m ↦ inr m ];
  count = h.count ∙ g.count;
  long = h.long ∙ g.long;
}

pub grown : (fs : List Field) (a : Reach) → Grown (HaveOne fs) a (visit fs a)
grown [] a = grown_same (HaveOne []) a (λ s l h. absurd h)
grown (f ∷ fs) a = grown_both f fs a (mark (held f.mode) a) (visit fs (mark (held f.mode) a)) (grown_mark (held f.mode) a) (grown fs (mark (held f.mode) a))

-- ---- on the way

module _ (records : List RecordDef) (k : ℕ) where
  pub record Going (a : Reach) : Type 0 where
    pub long : length a.marks ≡ length records
    pub sound : (s : ℕ) → Marked a.marks s → Contains records k s
    pub first : (s : ℕ) → s < length records → HaveOne (fields_of records k) s → Marked a.marks s
    pub closed : (r : ℕ) → Marked a.marks r → In r a.waiting ⊎ ((s : ℕ) → s < length records → HaveOne (fields_of records r) s → Marked a.marks s)
    pub ahead : (r : ℕ) → In r a.waiting → Contains records k r

  begun_by : (a b : Reach) → length a.marks ≡ length records → ((s : ℕ) → Marked a.marks s → ⊥) → ((s : ℕ) → In s a.waiting → ⊥) → Grown (HaveOne (fields_of records k)) a b → Going b
  begun_by a b long none no_one g =
      let sound : (s : ℕ) → Marked b.marks s → Contains records k s = λ s m. elim (g.from s m) [ inl bad ↦ absurd (none s bad) | inr h ↦ directly h ] in record {
        long = g.long ∙ long;
        sound = sound;
        first = λ s l h. g.all s (omega arith) h;
        closed = λ r m. elim (g.waits r m) [ inl bad ↦ absurd (none r bad) | inr w ↦ inl w ];
        ahead = λ r w. elim (g.known r w) [ inl bad ↦ absurd (no_one r bad) | inr m ↦ sound r m ];
      }

  pub begun : (n : ℕ) → length (replicate n false) ≡ length records → Going (visit (fields_of records k) (reach (replicate n false) []))
  begun n long = begun_by (reach (replicate n false) []) (visit (fields_of records k) (reach (replicate n false) [])) long (none_marked n) (λ s h. h) (grown (fields_of records k) (reach (replicate n false) []))

  gone_by : (ms : List Bool) (ws : List ℕ) (next : ℕ) (b : Reach) → Going (reach ms (ws ++ next ∷ [])) → Grown (HaveOne (fields_of records next)) (reach ms ws) b → Going b
  gone_by ms ws next b old g =
      let there : Contains records k next = old.ahead next (in_behind next ws (next ∷ []) (inl refl)) in
      let sound : (s : ℕ) → Marked b.marks s → Contains records k s = λ s m. elim (g.from s m) [ inl n ↦ old.sound s n | inr h ↦ through there h ] in
      let long : length ms ≡ length records = old.long in record {
        long = g.long ∙ long;
        sound = sound;
        first = λ s l h. g.kept s (old.first s l h);
        closed = λ r m. elim (g.waits r m) [
          | inr w ↦ inl w
          | inl n ↦ elim (old.closed r n) [
            | inr all ↦ inr (λ s l h. g.kept s (all s l h))
            | inl w ↦ elim (in_part r ws (next ∷ []) w) [
              | inl v ↦ inl (g.waited r v)
              | inr v ↦ elim v [ inl same ↦ inr (λ s l h. g.all s (omega arith) (subst (λ (x : ℕ). HaveOne (fields_of records x) s) same h)) | inr bad ↦ absurd bad ]
            ]
          ]
        ];
        ahead = λ r w. elim (g.known r w) [ inl v ↦ old.ahead r (in_front r ws (next ∷ []) v) | inr m ↦ sound r m ];
      }

  pub gone : (ms : List Bool) (ws : List ℕ) (next : ℕ) → Going (reach ms (ws ++ next ∷ [])) → Going (visit (fields_of records next) (reach ms ws))
  gone ms ws next old = gone_by ms ws next (visit (fields_of records next) (reach ms ws)) old (grown (fields_of records next) (reach ms ws))

-- ---- the steps of the walk

long_replicate : (n : ℕ) → length (replicate n false) ≡ n
long_replicate zero = refl
long_replicate (suc n) = ap suc (long_replicate n)

module _ (records : List RecordDef) (k : ℕ) where
  pub begun_at : (ms : List Bool) (ws : List ℕ) (fs : List Field) (st : Reach) → ms ≡ replicate (length records) false → ws ≡ [] → fs ≡ fields_of records k → st ≡ visit fs (reach ms ws) → Going records k st
  begun_at ms ws fs st a b c d = rw (d, a, b, c) (begun records k (length records) (long_replicate (length records)))

  pub gone_at : (ms : List Bool) (old ws : List ℕ) (next : ℕ) (fs : List Field) (st : Reach) → old ≡ ws ++ next ∷ [] → fs ≡ fields_of records next → st ≡ visit fs (reach ms ws) → Going records k (reach ms old) → Going records k st
  gone_at ms old ws next fs st a b c g = rw (c, b) (gone records k ms ws next (subst (λ (x : List ℕ). Going records k (reach ms x)) a g))

pub less_left : (ms : List Bool) (old ws : List ℕ) (next : ℕ) (fs : List Field) (st : Reach) → old ≡ ws ++ next ∷ [] → st ≡ visit fs (reach ms ws) → unmarked st.marks + length st.waiting < unmarked ms + length old
less_left ms old ws next fs st a c =
    let count : unmarked (visit fs (reach ms ws)).marks + length (visit fs (reach ms ws)).waiting ≡ unmarked ms + length ws = (grown fs (reach ms ws)).count in
    let l : length (ws ++ next ∷ []) ≡ length ws + 1 = long_one ws next in
    rw (c, a) (omega arith)

-- ---- at the end

pub have_there : (rs : List RecordDef) (s u : ℕ) → HaveOne (fields_in (slice_get rs s)) u → s < length rs
have_there [] s u h = absurd h
have_there (r ∷ rs) zero u h = omega arith
have_there (r ∷ rs) (suc s) u h = let l = have_there rs s u h in omega arith

module _ (records : List RecordDef) where
  pub container_there : (k s : ℕ) → Contains records k s → k < length records
  container_there k s (directly h) = have_there records k s h
  container_there k u (through c h) = container_there k _ c

  all_reached : (ms : List Bool) (k s : ℕ) → Going records k (reach ms []) → Contains records k s → s < length records → Marked ms s
  all_reached ms k s g (directly h) l = g.first s l h
  all_reached ms k u g (through {s = s} c h) l = elim (g.closed s (all_reached ms k s g c (have_there records s u h))) [ inl bad ↦ absurd bad | inr all ↦ all u l h ]

  pub ends : (ms : List Bool) (k : ℕ) → Going records k (reach ms []) → Contains records k k → Marked ms k
  ends ms k g c = all_reached ms k k g c (container_there k k c)

  pub ends_at : (ms : List Bool) (ws : List ℕ) (k : ℕ) → Going records k (reach ms ws) → ws ≡ [] → (Marked ms k → Contains records k k) × (Contains records k k → Marked ms k)
  ends_at ms ws k g e = (g.sound k, ends ms k (subst (λ (x : List ℕ). Going records k (reach ms x)) e g))
