-- What fits the format of a mode is the spelling of a mode that may stand.
use Rattle.std.proofs.Common.{◌≡◌, ℕ, zero, suc, ◌-◌, ◌%◌, ◌<◌, ◌≤◌, Bool, true, false, if◌then◌else◌, ◌&&◌, ltb, leb, List, [], ◌∷◌, ◌++◌, length, map, Option, Some, None, IfSome, inl, inr, refl, sym, ap, subst, ◌∙◌, arith, append_assoc}
use Rattle.std.specs.List.{AllByRecursion}
use Rattle.std.specs.Option.{option_map}
use Rattle.std.proofs.lemmas.List.{length-map}
use Rattle.std.proofs.lemmas.Bool.{ltb-true, leb-true, le-leb, lt-ltb}
use Rattle.std.proofs.lemmas.Bool.Decides.{nat_tests}
use Rattle.rt_modes.specs.declared.code.Code.{Code}
use Rattle.rt_modes.specs.declared.code.Code.TheVariants as code
use Rattle.rt_modes.specs.declared.code.Place.{Place}
use Rattle.rt_modes.specs.declared.code.Place.TheVariants.{Alone, Inside, Passed}
use Rattle.rt_modes.specs.declared.mode.Mode.{Mode, out-Mode, roll-Mode, roll-out-Mode}
use Rattle.rt_modes.specs.declared.mode.Mode.TheOpen.{Mode-F}
use Rattle.rt_modes.specs.declared.mode.Mode.TheFolds.{fold_out-Mode}
use Rattle.rt_modes.specs.declared.mode.Mode.TheVariants as mode
use Rattle.rt_modes.specs.declared.mode.Mode.TheVariants.{rolls-Byte, rolls-Int, rolls-Frac, rolls-Label, rolls-Ref, rolls-RefArray, rolls-Array, rolls-Record, rolls-Proc}
use Rattle.rt_modes.specs.FullMode.{joined}
use Rattle.rt_modes.proofs.Modes.{out_byte, out_int, out_frac, out_label, out_record, out_ref, out_ref_array, out_array, out_proc}
use Rattle.rt_words.specs.Format.{Format, times, or_zero}
use Rattle.rt_words.specs.Spelling.{spell_all}
use Rattle.rt_words.proofs.Spelled.{AreBytes, bytes_left, true_is, test_there, test_back, IsSpelled, spelled_times}
use Rattle.rt_modes.specs.Spelling.{MayStand, mode_format, mode_of, inside, StandsInside, OneMayStand, IsLength, behind, where_may, is_alone, is_not_passed, spelling, code_of, code_at, may_stand, result_spelling}
use Rattle.rt_words.specs.Bytes.{word_bytes}

abbrev code_byte : Code → ℕ
code_byte code.Byte = 1
code_byte code.Int = 2
code_byte code.Frac = 3
code_byte code.Ref = 4
code_byte code.RefArray = 5
code_byte code.Array = 6
code_byte code.Record = 7
code_byte code.Label = 8
code_byte code.Proc = 9

code_is : (b : ℕ) (c : Code) → code_of b ≡ Some c → b ≡ code_byte c
code_is b code.Byte e = grind (arith, nat_tests)
code_is b code.Int e = grind (arith, nat_tests)
code_is b code.Frac e = grind (arith, nat_tests)
code_is b code.Ref e = grind (arith, nat_tests)
code_is b code.RefArray e = grind (arith, nat_tests)
code_is b code.Array e = grind (arith, nat_tests)
code_is b code.Record e = grind (arith, nat_tests)
code_is b code.Label e = grind (arith, nat_tests)
code_is b code.Proc e = grind (arith, nat_tests)

-- ---- one layer of a mode

made : (m : Mode) (f : Mode-F Mode) (x : Mode) → out-Mode m ≡ f → roll-Mode f ≡ x → x ≡ m
made m f x e h = sym h ∙ ap roll-Mode (sym e) ∙ roll-out-Mode m

made_byte : (m : Mode) → out-Mode m ≡ Mode-F.Byte → mode.Byte ≡ m
made_byte m e = made m Mode-F.Byte mode.Byte e rolls-Byte

made_int : (m : Mode) → out-Mode m ≡ Mode-F.Int → mode.Int ≡ m
made_int m e = made m Mode-F.Int mode.Int e rolls-Int

made_frac : (m : Mode) → out-Mode m ≡ Mode-F.Frac → mode.Frac ≡ m
made_frac m e = made m Mode-F.Frac mode.Frac e rolls-Frac

made_label : (m : Mode) → out-Mode m ≡ Mode-F.Label → mode.Label ≡ m
made_label m e = made m Mode-F.Label mode.Label e rolls-Label

made_record : (m : Mode) (k : ℕ) → out-Mode m ≡ Mode-F.Record k → mode.Record k ≡ m
made_record m k e = made m (Mode-F.Record k) (mode.Record k) e (rolls-Record k)

made_ref : (m x : Mode) → out-Mode m ≡ Mode-F.Ref x → mode.Ref x ≡ m
made_ref m x e = made m (Mode-F.Ref x) (mode.Ref x) e (rolls-Ref x)

made_ref_array : (m x : Mode) → out-Mode m ≡ Mode-F.RefArray x → mode.RefArray x ≡ m
made_ref_array m x e = made m (Mode-F.RefArray x) (mode.RefArray x) e (rolls-RefArray x)

made_array : (m x : Mode) (n : ℕ) → out-Mode m ≡ Mode-F.Array n x → mode.Array n x ≡ m
made_array m x n e = made m (Mode-F.Array n x) (mode.Array n x) e (rolls-Array n x)

made_proc : (m : Mode) (ps : List Mode) (r : Option Mode) → out-Mode m ≡ Mode-F.Proc ps r → mode.Proc ps r ≡ m
made_proc m ps r e = made m (Mode-F.Proc ps r) (mode.Proc ps r) e (rolls-Proc ps r)

pub spelled_byte : (m : Mode) → out-Mode m ≡ Mode-F.Byte → spelling m ≡ 1 ∷ []
spelled_byte m e = rw (fold_out-Mode, e) refl

pub spelled_int : (m : Mode) → out-Mode m ≡ Mode-F.Int → spelling m ≡ 2 ∷ []
spelled_int m e = rw (fold_out-Mode, e) refl

pub spelled_frac : (m : Mode) → out-Mode m ≡ Mode-F.Frac → spelling m ≡ 3 ∷ []
spelled_frac m e = rw (fold_out-Mode, e) refl

pub spelled_label : (m : Mode) → out-Mode m ≡ Mode-F.Label → spelling m ≡ 8 ∷ []
spelled_label m e = rw (fold_out-Mode, e) refl

pub spelled_record : (m : Mode) (k : ℕ) → out-Mode m ≡ Mode-F.Record k → spelling m ≡ 7 ∷ word_bytes k
spelled_record m k e = rw (fold_out-Mode, e) refl

pub spelled_ref : (m x : Mode) → out-Mode m ≡ Mode-F.Ref x → spelling m ≡ 4 ∷ spelling x
spelled_ref m x e = rw (fold_out-Mode, e) refl

pub spelled_ref_array : (m x : Mode) → out-Mode m ≡ Mode-F.RefArray x → spelling m ≡ 5 ∷ spelling x
spelled_ref_array m x e = rw (fold_out-Mode, e) refl

pub spelled_array : (m x : Mode) (n : ℕ) → out-Mode m ≡ Mode-F.Array n x → spelling m ≡ 6 ∷ (word_bytes n ++ spelling x)
spelled_array m x n e = rw (fold_out-Mode, e) refl

pub spelled_proc : (m : Mode) (ps : List Mode) (r : Option Mode) → out-Mode m ≡ Mode-F.Proc ps r
    → spelling m ≡ 9 ∷ (length ps % 256 ∷ (joined (map spelling ps) ++ result_spelling (option_map spelling r)))
spelled_proc m ps None e = rw (fold_out-Mode, e, length-map) refl
spelled_proc m ps (Some r) e = rw (fold_out-Mode, e, length-map) refl

-- the number of parameters is the byte itself where there are few
spelled_few : (m : Mode) (ps : List Mode) (r : Option Mode) → out-Mode m ≡ Mode-F.Proc ps r → length ps ≤ 32
    → spelling m ≡ 9 ∷ (length ps ∷ (joined (map spelling ps) ++ result_spelling (option_map spelling r)))
spelled_few m ps r e h = let f : length ps % 256 ≡ length ps = omega arith in spelled_proc m ps r e ∙ rw f refl

-- ---- the parts of a mode, where the modes inside it are known

joined_is : (ps : List Mode) → joined (map spelling ps) ≡ spell_all spelling ps
joined_is [] = refl
joined_is (p ∷ ps) = ap (λ rest. spelling p ++ rest) (joined_is ps)

-- so many modes that stand are spelled there
record Times (S : Mode → Type 0) (n : ℕ) (l r : List ℕ) (ps : List Mode) : Type 0 where
  spelled : l ≡ joined (map spelling ps) ++ r
  count : length ps ≡ n
  stand : AllByRecursion S ps

module _ (P : Format Mode) (S : Mode → Type 0) (there : (l r : List ℕ) (m : Mode) → AreBytes l → P.Fits l r m → (l ≡ spelling m ++ r) × S m)
    (back : (r : List ℕ) (m : Mode) → S m → P.Fits (spelling m ++ r) r m) where
  -- the parameters are spelled one behind another
  parameters : (n : ℕ) → IsSpelled (times P n []) (spell_all spelling) (λ ps. (length ps ≡ n) × AllByRecursion S ps)
  parameters n = spelled_times P spelling S (record { there = there; back = back }) n

  times_there : (n : ℕ) (l r : List ℕ) (ps : List Mode) → AreBytes l → (times P n []).Fits l r ps → Times S n l r ps
  times_there n l r ps h fits =
      let t = (parameters n).there l r ps h fits in record { spelled = t.0 ∙ ap (λ x. x ++ r) (sym (joined_is ps)); count = t.1.0; stand = t.1.1 }

  times_back : (ps : List Mode) (r : List ℕ) → AllByRecursion S ps → (times P (length ps) []).Fits (joined (map spelling ps) ++ r) r ps
  times_back ps r h = rw (joined_is ps) ((parameters (length ps)).back r ps (refl, h))

  result_there : (l r : List ℕ) (x : Option Mode) → AreBytes l → (or_zero P).Fits l r x → (l ≡ result_spelling (option_map spelling x) ++ r) × IfSome x S
  result_there l r x h (inl (e, f)) = rw (f) (e, tt)
  result_there l r x h (inr (_, (m, fits, f))) = rw (f) (there l r m h fits)

  result_back : (r : List ℕ) (x : Option Mode) → ((m : Mode) (rest : List ℕ) → S m → spelling m ++ r ≡ 0 ∷ rest → ⊥) → IfSome x S → (or_zero P).Fits (result_spelling (option_map spelling x) ++ r) r x
  result_back r None free h = inl (refl, refl)
  result_back r (Some m) free h = inr (λ rest e. free m rest h e, (m, back r m h, refl))

-- ---- a code and what it says

both_true : (a b : Bool) → (a && b) ≡ true → (a ≡ true) × (b ≡ true)
both_true true b e = (refl, e)
both_true false b e = absurd cc

may_is : (may : Code → Bool) (o : Option Code) (c : Code) → where_may may o ≡ Some c → (o ≡ Some c) × (may c ≡ true)
may_is may None c e = absurd cc
may_is may (Some d) c e = by (may d) refl e
  where
    by : (b : Bool) → may d ≡ b → (if b then Some d else None) ≡ Some c → (Some d ≡ Some c) × (may c ≡ true)
    by true f e = let g : d ≡ c = cc in (e, subst (λ t. may t ≡ true) g f)
    by false f e = absurd cc

may_back : (place : Place) (levels refs : ℕ) (c : Code) → may_stand place levels refs c ≡ true → code_at place levels refs (code_byte c) ≡ Some c
may_back place levels refs code.Byte e = refl
may_back place levels refs code.Int e = refl
may_back place levels refs code.Frac e = refl
may_back place levels refs code.Ref e = rw e refl
may_back place levels refs code.RefArray e = rw e refl
may_back place levels refs code.Array e = rw e refl
may_back place levels refs code.Record e = rw e refl
may_back place levels refs code.Label e = rw e refl
may_back place levels refs code.Proc e = rw e refl

alone_is : (place : Place) → is_alone place ≡ true → place ≡ Alone
alone_is Alone e = refl
alone_is Inside e = absurd cc
alone_is Passed e = absurd cc

not_passed : (place : Place) → is_not_passed place ≡ true → place ≡ Passed → ⊥
not_passed place e f = let g : is_not_passed Passed ≡ true = subst (λ p. is_not_passed p ≡ true) f e in cc

passed_not : (place : Place) → (place ≡ Passed → ⊥) → is_not_passed place ≡ true
passed_not Alone h = refl
passed_not Inside h = refl
passed_not Passed h = absurd (h refl)

heads : (a b : ℕ) (xs ys : List ℕ) → a ∷ xs ≡ b ∷ ys → a ≡ b
heads a b xs ys e = cc

-- no spelling begins with 0
head_not : (m : Mode) (r rest : List ℕ) (a : ℕ) (xs : List ℕ) → spelling m ++ r ≡ 0 ∷ rest → spelling m ≡ suc a ∷ xs → ⊥
head_not m r rest a xs e f = let h : suc a ≡ 0 = heads (suc a) 0 (xs ++ r) rest (sym (ap (λ t. t ++ r) f) ∙ e) in absurd (omega arith)

begins_else : (m : Mode) (r rest : List ℕ) → spelling m ++ r ≡ 0 ∷ rest → ⊥
begins_else m r rest e = by (out-Mode m) refl
  where
    by : (f : Mode-F Mode) → out-Mode m ≡ f → ⊥
    by Mode-F.Byte o = head_not m r rest 0 _ e (spelled_byte m o)
    by Mode-F.Int o = head_not m r rest 1 _ e (spelled_int m o)
    by Mode-F.Frac o = head_not m r rest 2 _ e (spelled_frac m o)
    by Mode-F.Label o = head_not m r rest 7 _ e (spelled_label m o)
    by (Mode-F.Ref x) o = head_not m r rest 3 _ e (spelled_ref m x o)
    by (Mode-F.RefArray x) o = head_not m r rest 4 _ e (spelled_ref_array m x o)
    by (Mode-F.Array n x) o = head_not m r rest 5 _ e (spelled_array m x n o)
    by (Mode-F.Record k) o = head_not m r rest 6 _ e (spelled_record m k o)
    by (Mode-F.Proc ps q) o = head_not m r rest 8 _ e (spelled_proc m ps q o)

-- ---- the spelling of PROC, put together from its parts

proc_few : (ps : List Mode) (count : ℕ) → length ps ≡ count → count ≤ 32 → length ps ≤ 32
proc_few ps count e h = rw e h

proc_spelled : (m : Mode) (ps : List Mode) (x : Option Mode) (l t u v r : List ℕ) (b count : ℕ) → out-Mode m ≡ Mode-F.Proc ps x → l ≡ b ∷ t → b ≡ count → t ≡ joined (map spelling ps) ++ u
    → u ≡ result_spelling (option_map spelling x) ++ v → v ≡ r → length ps ≡ count → length ps ≤ 32 → 9 ∷ l ≡ spelling m ++ r
proc_spelled m ps x l t u v r b count o e f g h i k few = rw (spelled_few m ps x o few, e, f, g, h, i, k)
    (sym (ap (λ rest. 9 ∷ (count ∷ rest)) (append_assoc (joined (map spelling ps)) (result_spelling (option_map spelling x)) r)))

-- ---- a mode, where the modes inside it are known

module _ (records : ℕ) (P : Place → ℕ → Format Mode) (S : Place → ℕ → Mode → Type 0)
    (there : (place : Place) (refs : ℕ) (l r : List ℕ) (m : Mode) → AreBytes l → (P place refs).Fits l r m → (l ≡ spelling m ++ r) × S place refs m)
    (back : (place : Place) (refs : ℕ) (r : List ℕ) (m : Mode) → S place refs m → (P place refs).Fits (spelling m ++ r) r m) (levels : ℕ) (place : Place) (refs : ℕ) where
  abbrev Stands : Mode → Type 0
  Stands m = OneMayStand records S levels place refs (out-Mode m)

  opens : ltb 0 levels ≡ true → 0 < levels
  opens e = ltb-true 0 levels e

  rows : (ltb 0 levels && ltb 0 refs) ≡ true → (0 < levels) × (0 < refs)
  rows e = let b = both_true (ltb 0 levels) (ltb 0 refs) e in (ltb-true 0 levels b.0, ltb-true 0 refs b.1)

  length_is : (n : ℕ) → (leb 1 n && leb n 8191) ≡ true → IsLength n
  length_is n e = let b = both_true (leb 1 n) (leb n 8191) e in (leb-true 1 n b.0, leb-true n 8191 b.1)

  length_back : (n : ℕ) → IsLength n → (leb 1 n && leb n 8191) ≡ true
  length_back n h = rw (le-leb 1 n h.0, le-leb n 8191 h.1) refl

  behind_there : (c : Code) (l r : List ℕ) (m : Mode) → may_stand place levels refs c ≡ true → AreBytes l → (behind records P refs c).Fits l r m → (code_byte c ∷ l ≡ spelling m ++ r) × Stands m
  behind_there code.Byte l r m may h (e, f) = let o = out_byte m (sym f) in (rw (spelled_byte m o, e) refl, rw o tt)
  behind_there code.Int l r m may h (e, f) = let o = out_int m (sym f) in (rw (spelled_int m o, e) refl, rw o tt)
  behind_there code.Frac l r m may h (e, f) = let o = out_frac m (sym f) in (rw (spelled_frac m o, e) refl, rw o tt)
  behind_there code.Label l r m may h (e, f) = let o = out_label m (sym f) in (rw (spelled_label m o, e) refl, rw o (alone_is place may))
  behind_there code.Ref l r m may h (t, x, fits, (e, f)) =
      let o = out_ref m x (sym f) in let g = there Inside (refs - 1) l t x h fits in let b = rows may in
      (rw (spelled_ref m x o, g.0, e) refl, rw o (b.0, b.1, g.1))
  behind_there code.RefArray l r m may h (t, x, fits, (e, f)) =
      let o = out_ref_array m x (sym f) in let g = there Inside 8 l t x h fits in let b = rows may in
      (rw (spelled_ref_array m x o, g.0, e) refl, rw o (b.0, b.1, g.1))
  behind_there code.Array l r m may h (t, n, word_fits, (u, x, fits, (e, f))) =
      let o = out_array m x n (sym f) in
      let w = test_there (λ n. leb 1 n && leb n 8191) l t n h word_fits in
      let g = there Inside 8 t u x (bytes_left l (word_bytes n) t w.1 h) fits in
      let b = both_true (is_alone place) (ltb 0 levels) may in
      (rw (spelled_array m x n o, w.1, g.0, e) refl, rw o (alone_is place b.0, opens b.1, length_is n w.0, g.1))
  behind_there code.Record l r m may h (t, k, word_fits, (e, f)) =
      let o = out_record m k (sym f) in
      let w = test_there (λ k. ltb k records) l t k h word_fits in
      (rw (spelled_record m k o, w.1, e) refl, rw o (not_passed place may, ltb-true k records w.0))
  behind_there code.Proc l r m may h (t, count, (b, e, f), (u, ps, turns, (v, x, result, (g, k)))) =
      let o = out_proc m ps x (sym k) in
      let few = true_is (λ n. leb n 32) b count f in
      let q = times_there (P Passed 8) (S Passed 8) (there Passed 8) (back Passed 8) count t u ps (subst AreBytes e h).1 turns in
      let z = result_there (P Passed 8) (S Passed 8) (there Passed 8) (back Passed 8) u v x (bytes_left t (joined (map spelling ps)) u q.spelled (subst AreBytes e h).1) result in
      let small = proc_few ps count q.count (leb-true count 32 few.1) in (
        proc_spelled m ps x l t u v r b count o e few.0 q.spelled z.0 g q.count small,
        rw o (opens may, small, q.stand, z.1),
      )

  mode_there : (l r : List ℕ) (m : Mode) → AreBytes l → (mode_of records P levels place refs).Fits l r m → (l ≡ spelling m ++ r) × Stands m
  mode_there l r m h (t, c, (b, e, f), fits) =
      let g = may_is (may_stand place levels refs) (code_of b) c f in
      let k = behind_there c t r m g.1 (subst AreBytes e h).1 fits in
      (e ∙ rw (code_is b c g.0) (k.0), k.1)

  -- ---- and back

  behind_back : (c : Code) (m : Mode) (r t : List ℕ) → may_stand place levels refs c ≡ true → spelling m ++ r ≡ code_byte c ∷ t → (behind records P refs c).Fits t r m → (mode_of records P levels place refs).Fits (spelling m ++ r) r m
  behind_back c m r t may e fits = (t, c, (code_byte c, e, may_back place levels refs c may), fits)

  mode_back : (m : Mode) (r : List ℕ) → Stands m → (mode_of records P levels place refs).Fits (spelling m ++ r) r m
  mode_back m r h = by (out-Mode m) refl h
    where
      by : (f : Mode-F Mode) → out-Mode m ≡ f → OneMayStand records S levels place refs f → (mode_of records P levels place refs).Fits (spelling m ++ r) r m
      by Mode-F.Byte o k = behind_back code.Byte m r r refl (rw (spelled_byte m o) refl) (refl, made_byte m o)
      by Mode-F.Int o k = behind_back code.Int m r r refl (rw (spelled_int m o) refl) (refl, made_int m o)
      by Mode-F.Frac o k = behind_back code.Frac m r r refl (rw (spelled_frac m o) refl) (refl, made_frac m o)
      by Mode-F.Label o k = behind_back code.Label m r r (rw k refl) (rw (spelled_label m o) refl) (refl, made_label m o)
      by (Mode-F.Ref x) o k = behind_back code.Ref m r (spelling x ++ r) (rw (lt-ltb 0 levels k.0, lt-ltb 0 refs k.1) refl) (rw (spelled_ref m x o) refl) (r, x, back Inside (refs - 1) r x k.2, (refl, made_ref m x o))
      by (Mode-F.RefArray x) o k = behind_back code.RefArray m r (spelling x ++ r) (rw (lt-ltb 0 levels k.0, lt-ltb 0 refs k.1) refl) (rw (spelled_ref_array m x o) refl) (r, x, back Inside 8 r x k.2, (refl, made_ref_array m x o))
      by (Mode-F.Array n x) o k = behind_back code.Array m r (word_bytes n ++ (spelling x ++ r)) (rw (k.0, lt-ltb 0 levels k.1) refl) (rw (spelled_array m x n o) refl)
          (spelling x ++ r, n, test_back (λ n. leb 1 n && leb n 8191) (spelling x ++ r) n (length_back n k.2), (r, x, back Inside 8 r x k.3, (refl, made_array m x n o)))
      by (Mode-F.Record n) o k = behind_back code.Record m r (word_bytes n ++ r) (passed_not place k.0) (rw (spelled_record m n o) refl)
          (r, n, test_back (λ k. ltb k records) r n (lt-ltb n records k.1), (refl, made_record m n o))
      by (Mode-F.Proc ps x) o k = behind_back code.Proc m r (length ps ∷ (joined (map spelling ps) ++ (result_spelling (option_map spelling x) ++ r))) (lt-ltb 0 levels k.0) (rw (spelled_few m ps x o k.1) (simp append_assoc)) (
        joined (map spelling ps) ++ (result_spelling (option_map spelling x) ++ r),
        length ps,
        (length ps, refl, rw (le-leb (length ps) 32 k.1) refl),
        (
          result_spelling (option_map spelling x) ++ r,
          ps,
          times_back (P Passed 8) (S Passed 8) (there Passed 8) (back Passed 8) ps (result_spelling (option_map spelling x) ++ r) k.2,
          (r, x, result_back (P Passed 8) (S Passed 8) (there Passed 8) (back Passed 8) r x (λ y rest g e. begins_else y r rest e) k.3, (refl, made_proc m ps x o)),
        ),
      )

-- ---- every level

-- what fits inside so many levels is the spelling of what may stand there
record Agree (records levels : ℕ) : Type 0 where
  there : (place : Place) (refs : ℕ) (l r : List ℕ) (m : Mode) → AreBytes l → (inside records levels place refs).Fits l r m → (l ≡ spelling m ++ r) × StandsInside records levels place refs m
  back : (place : Place) (refs : ℕ) (r : List ℕ) (m : Mode) → StandsInside records levels place refs m → (inside records levels place refs).Fits (spelling m ++ r) r m

agree : (records levels : ℕ) → Agree records levels
unfolding inside StandsInside
agree records zero = record { there = λ place refs l r m h f. absurd f; back = λ place refs r m h. absurd h }
agree records (suc n) = let a = agree records n in record {
  there = λ place refs l r m h f. mode_there records (inside records n) (StandsInside records n) a.there a.back n place refs l r m h f;
  back = λ place refs r m h. mode_back records (inside records n) (StandsInside records n) a.there a.back n place refs m r h;
}

pub fits_stands : (records : ℕ) (l r : List ℕ) (m : Mode) → AreBytes l → (mode_format records).Fits l r m → (l ≡ spelling m ++ r) × MayStand records m
fits_stands records l r m h f = let a = agree records 100 in mode_there records (inside records 100) (StandsInside records 100) a.there a.back 100 Alone 8 l r m h f

pub stands_fits : (records : ℕ) (r : List ℕ) (m : Mode) → MayStand records m → (mode_format records).Fits (spelling m ++ r) r m
stands_fits records r m h = let a = agree records 100 in mode_back records (inside records 100) (StandsInside records 100) a.there a.back 100 Alone 8 m r h
