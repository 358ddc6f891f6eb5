-- The mode that is written may stand at its place.
use Rattle.std.proofs.Common.{◌≡◌, ◌≢◌, ℕ, suc, ◌-◌, ◌&&◌, Bool, true, false, List, [], ◌∷◌, ◌++◌, length, map, Option, Some, None, option_map, append_assoc, refl, sym, ap, ◌∙◌, subst}
use Rattle.std.specs.Prelude.{nat_lt, nat_le}
use Rattle.std.proofs.lemmas.List.{append-nil}
use Rattle.rt_grammar.specs.declared.at.At.{At}
use Rattle.rt_syntax_exprs.specs.declared.tree.BasicMode.{BasicMode}
use Rattle.rt_syntax_exprs.specs.declared.tree.BasicMode.TheVariants as basic_mode
use Rattle.rt_syntax_exprs.specs.declared.tree.WrittenMode.{WrittenMode, out-WrittenMode, roll-WrittenMode, map-WrittenMode}
use Rattle.rt_syntax_exprs.specs.declared.tree.WrittenMode as written_lemmas
use Rattle.rt_syntax_exprs.specs.declared.tree.WrittenMode.TheFolds.{ind-WrittenMode, fold_out-WrittenMode}
use Rattle.rt_syntax_exprs.specs.declared.tree.WrittenMode.TheOpen.{WrittenMode-F}
use Rattle.rt_modes.specs.declared.mode.Mode.{Mode, out-Mode, map-Mode, the_lemmas}
use Rattle.rt_modes.specs.declared.mode.Mode.TheFolds.{fold_out-Mode}
use Rattle.rt_modes.specs.declared.mode.Mode.TheOpen.{Mode-F}
use Rattle.rt_modes.specs.declared.mode.Mode.TheVariants as mode
use Rattle.rt_check_faults.specs.declared.fault.CheckFault.{CheckFault}
use Rattle.rt_exprs.specs.declared.scope.Meaning.{Meaning}
use Rattle.rt_exprs.specs.declared.scope.Meaning.TheVariants as meaning
use Rattle.rt_tree.specs.declared.standing.Standing.{Standing}
use Rattle.rt_tree.specs.declared.standing.Standing.TheVariants as standing
use Rattle.rt_tree.specs.Modules.{Stands, stands, layer_stands, all_passed, result_passed, is_length}
use Rattle.rt_check_declared.specs.declared.site.Site.{Site}
use Rattle.rt_check_declared.specs.declared.site.Site.TheVariants as site
use Rattle.rt_check_declared.specs.Verdicts.{Verdict, fit, unfit, ◌>>=◌, both, after, all_from}
use Rattle.rt_check_declared.specs.Written.{Names, Anywhere, record_at, named, basic, array_at, argument, judge, judged, length_fits}
use Rattle.rt_bricks_laws.specs.Shallow.{Depth, all_shallow, any_shallow, shallow_layer, shallow}
use Rattle.rt_check_bodies_laws.specs.Standing.{standing_of, AreRecords}

left_of : (a b : Bool) → a && b ≡ true → a ≡ true
left_of true b e = refl
left_of false b e = e

right_of : (a b : Bool) → a && b ≡ true → b ≡ true
right_of true b e = e
right_of false b e = absurd cc

both_true : (a b : Bool) → a ≡ true → b ≡ true → a && b ≡ true
both_true a b e h = rw (e, h) refl

record Then {A B : Type 0} (v : Verdict A) (q : A → Verdict B) (y : B) : Type 0 where
  value : A
  is : v ≡ fit value
  gives : q value ≡ fit y

then_fit : {A B : Type 0} (v : Verdict A) (q : A → Verdict B) (y : B) → (v >>= q) ≡ fit y → Then v q y
then_fit (fit x) q y e = record { value = x; is = refl; gives = e }
then_fit (unfit f fs) q y e = absurd cc

record Two {A B : Type 0} (v : Verdict A) (w : Verdict B) (a : A) (b : B) : Type 0 where
  first : v ≡ fit a
  second : w ≡ fit b

pair_is : {A B : Type 0} (p q : A × B) (v : Verdict (A × B)) → v ≡ fit p → v ≡ fit q → p ≡ q
pair_is p q v e h = cc

first_is : {A B : Type 0} (x a : A) (y b : B) (v : Verdict (A × B)) → v ≡ fit (x, y) → v ≡ fit (a, b) → fit x ≡ fit a
first_is {A = A} {B = B} x a y b v e h = ap (λ (z : A × B). fit z.0) (pair_is (x, y) (a, b) v e h)

second_is : {A B : Type 0} (x a : A) (y b : B) (v : Verdict (A × B)) → v ≡ fit (x, y) → v ≡ fit (a, b) → fit y ≡ fit b
second_is {A = A} {B = B} x a y b v e h = ap (λ (z : A × B). fit z.1) (pair_is (x, y) (a, b) v e h)

both_fit : {A B : Type 0} (v : Verdict A) (w : Verdict B) (a : A) (b : B) → both v w ≡ fit (a, b) → Two v w a b
both_fit (fit x) (fit y) a b e = record { first = first_is x a y b (fit (x, y)) refl e; second = second_is x a y b (fit (x, y)) refl e }
both_fit (fit x) (unfit g gs) a b e = absurd cc
both_fit (unfit f fs) (fit y) a b e = absurd cc
both_fit (unfit f fs) (unfit g gs) a b e = absurd cc

mode_is : (m n : Mode) (v : Verdict Mode) → v ≡ fit m → v ≡ fit n → m ≡ n
mode_is m n v e h = cc

module _ (names : Names) (records : ℕ) (known : AreRecords records names) where
  pub record Holds (w : WrittenMode) (place : Site) (m : Mode) : Type 0 where
    pub may : (levels refs : ℕ) → shallow w levels refs ≡ true → length_fits (out-Mode m) ≡ true → stands records m (standing_of place) levels refs ≡ true
    pub plain : place ≢ site.Item → length_fits (out-Mode m) ≡ true

  abbrev Q : WrittenMode → Type 0
  Q w = (place : Site) (m : Mode) → judged names w place ≡ fit m → Holds w place m

  abbrev Pair : Type 0
  Pair = (w : WrittenMode) × Q w

  judged_at : (w : WrittenMode) (l : WrittenMode-F WrittenMode) → out-WrittenMode w ≡ l → judged names w ≡ judge names (map-WrittenMode WrittenMode Anywhere (judged names) l)
  judged_at w l o = rw (fold_out-WrittenMode, o) refl

  shallow_at : (w : WrittenMode) (l : WrittenMode-F WrittenMode) → out-WrittenMode w ≡ l → shallow w ≡ shallow_layer (map-WrittenMode WrittenMode Depth shallow l)
  unfolding shallow
  shallow_at w l o = rw (fold_out-WrittenMode, o) refl

  judged_here : (w : WrittenMode) (l : WrittenMode-F WrittenMode) (place : Site) (m : Mode) → out-WrittenMode w ≡ l → judged names w place ≡ fit m → judge names (map-WrittenMode WrittenMode Anywhere (judged names) l) place ≡ fit m
  judged_here w l place m o e = sym (ap (λ (f : Anywhere). f place) (judged_at w l o)) ∙ e

  shallow_here : (w : WrittenMode) (l : WrittenMode-F WrittenMode) (levels refs : ℕ) → out-WrittenMode w ≡ l → shallow w levels refs ≡ true → shallow_layer (map-WrittenMode WrittenMode Depth shallow l) levels refs ≡ true
  shallow_here w l levels refs o h = sym (ap (λ (f : Depth). f levels refs) (shallow_at w l o)) ∙ h

  stands_at : (m : Mode) (l : Mode-F Mode) (p : Standing) (levels refs : ℕ) → out-Mode m ≡ l → layer_stands records (map-Mode Mode Stands (stands records) l) p levels refs ≡ true → stands records m p levels refs ≡ true
  stands_at m l p levels refs o h = ap (λ (f : Stands). f p levels refs) (let e : stands records m ≡ layer_stands records (map-Mode Mode Stands (stands records) l) = rw (fold_out-Mode, o) refl in e) ∙ h

  as_mode : (w : WrittenMode) (place : Site) (m n : Mode) → m ≡ n → Holds w place m → Holds w place n
  as_mode w place m n e h = subst (Holds w place) e h

  simple_mode : (w : WrittenMode) (place : Site) (m : Mode) (l : Mode-F Mode) → out-Mode m ≡ l → ((p : Standing) (levels refs : ℕ) → layer_stands records (map-Mode Mode Stands (stands records) l) p levels refs ≡ true) → length_fits l ≡ true → Holds w place m
  simple_mode w place m l o h g = record { may = λ levels refs s f. stands_at m l (standing_of place) levels refs o (h (standing_of place) levels refs); plain = λ n. ap length_fits o ∙ g }

  basic_holds : (w : WrittenMode) (b : BasicMode) (at : At) (place : Site) (m : Mode) → basic at b ≡ fit m → Holds w place m
  basic_holds w basic_mode.Byte at place m e =
      let o : out-Mode mode.Byte ≡ Mode-F.Byte = search the_lemmas in as_mode w place mode.Byte m (mode_is mode.Byte m (fit mode.Byte) refl e) (simple_mode w place mode.Byte Mode-F.Byte o (λ p a b. refl) refl)
  basic_holds w basic_mode.Int at place m e =
      let o : out-Mode mode.Int ≡ Mode-F.Int = search the_lemmas in as_mode w place mode.Int m (mode_is mode.Int m (fit mode.Int) refl e) (simple_mode w place mode.Int Mode-F.Int o (λ p a b. refl) refl)
  basic_holds w basic_mode.Frac at place m e =
      let o : out-Mode mode.Frac ≡ Mode-F.Frac = search the_lemmas in as_mode w place mode.Frac m (mode_is mode.Frac m (fit mode.Frac) refl e) (simple_mode w place mode.Frac Mode-F.Frac o (λ p a b. refl) refl)
  basic_holds w basic_mode.Label at place m e = absurd cc

  record_holds : (w : WrittenMode) (r : ℕ) (at : At) (place : Site) (m : Mode) → nat_lt r records ≡ true → record_at at r place ≡ fit m → Holds w place m
  record_holds w r at site.Item m h e =
      let o : out-Mode (mode.Record r) ≡ Mode-F.Record r = search the_lemmas in
      as_mode w site.Item (mode.Record r) m (mode_is (mode.Record r) m (fit (mode.Record r)) refl e)
      (record { may = λ levels refs s f. stands_at (mode.Record r) (Mode-F.Record r) standing.Alone levels refs o h; plain = λ n. ap length_fits o })
  record_holds w r at site.Inside m h e =
      let o : out-Mode (mode.Record r) ≡ Mode-F.Record r = search the_lemmas in
      as_mode w site.Inside (mode.Record r) m (mode_is (mode.Record r) m (fit (mode.Record r)) refl e)
      (record { may = λ levels refs s f. stands_at (mode.Record r) (Mode-F.Record r) standing.Inside levels refs o h; plain = λ n. ap length_fits o })
  record_holds w r at site.Variable m h e = absurd cc
  record_holds w r at site.Argument m h e = absurd cc

  name_holds : (w : WrittenMode) (at : At) (o : Option Meaning) (place : Site) (m : Mode) → ((r : ℕ) → o ≡ Some (meaning.Mode r) → nat_lt r records ≡ true) → named at o place ≡ fit m → Holds w place m
  name_holds w at (Some (meaning.Mode r)) place m k e = record_holds w r at place m (k r refl) e
  name_holds w at None place m k e = absurd cc
  name_holds w at (Some _) place m k e = absurd cc

  not_item : site.Inside ≢ site.Item
  not_item e = cc

  no_item : site.Argument ≢ site.Item
  no_item e = cc

  -- an inner mode
  inner : (p : Pair) (n : Mode) (levels refs : ℕ) → judged names p.0 site.Inside ≡ fit n → shallow p.0 levels refs ≡ true → stands records n standing.Inside levels refs ≡ true
  inner p n levels refs e s = let h = p.1 site.Inside n e in h.may levels refs s (h.plain not_item)

  -- a parameter or a result
  passed : (p : Pair) (n : Mode) (levels : ℕ) → judged names p.0 site.Argument ≡ fit n → shallow p.0 levels 8 ≡ true → stands records n standing.Passed levels 8 ≡ true
  passed p n levels e s = let h = p.1 site.Argument n e in h.may levels 8 s (h.plain no_item)

  abbrev texts_of : List Pair → List WrittenMode
  texts_of ps = map (λ (e : Pair). e.0) ps

  -- the modes of parameters, behind those before them
  record AllFit (ps : List Pair) (done ms : List Mode) : Type 0 where
    more : List Mode
    is : ms ≡ done ++ more
    as_many : length more ≡ length ps
    stand : (levels : ℕ) → all_shallow levels (map shallow (texts_of ps)) ≡ true → all_passed levels (map (stands records) more) ≡ true

  list_is : (a b : List Mode) (v : Verdict (List Mode)) → v ≡ fit a → v ≡ fit b → a ≡ b
  list_is a b v e h = cc

  after_unfit : (f : CheckFault) (fs : List CheckFault) (v : Verdict Mode) → (gs : List CheckFault) × (after {A = Mode} (unfit f fs) v ≡ unfit f gs)
  after_unfit f fs (fit x) = (fs, refl)
  after_unfit f fs (unfit g gs) = (fs ++ g ∷ gs, refl)

  abbrev rest_of : List Pair → List (Verdict Mode)
  rest_of ps = map argument (map (judged names) (texts_of ps))

  never_fit : (ps : List Pair) (f : CheckFault) (fs : List CheckFault) (ms : List Mode) → all_from (unfit f fs) (rest_of ps) ≡ fit ms → ⊥
  never_fit [] f fs ms e = cc
  never_fit (p ∷ ps) f fs ms e =
      let z = after_unfit f fs (judged names p.0 site.Argument) in
      never_fit ps f z.0 ms (sym (ap (λ (s : Verdict (List Mode)). all_from s (rest_of ps)) z.1) ∙ e)

  one_fit : (p : Pair) (ps : List Pair) (done ms : List Mode) (v : Verdict Mode) → judged names p.0 site.Argument ≡ v → ((x : Mode) → all_from (fit (done ++ x ∷ [])) (rest_of ps) ≡ fit ms → AllFit ps (done ++ x ∷ []) ms)
      → all_from (after (fit done) v) (rest_of ps) ≡ fit ms → AllFit (p ∷ ps) done ms
  one_fit p ps done ms (fit x) q go e =
      let z = go x e in
      record {
        more = x ∷ z.more;
        is = z.is ∙ append_assoc done (x ∷ []) z.more;
        as_many = ap suc z.as_many;
        stand = λ levels h.
            let rest_shallow : Bool = all_shallow levels (map shallow (texts_of ps)) in
            both_true (stands records x standing.Passed levels 8) (all_passed levels (map (stands records) z.more)) (passed p x levels q (left_of (shallow p.0 levels 8) rest_shallow h)) (z.stand levels (right_of (shallow p.0 levels 8) rest_shallow h));
      }
  one_fit p ps done ms (unfit g gs) q go e = absurd (never_fit ps g gs ms e)

  all_fit : (ps : List Pair) (done ms : List Mode) → all_from (fit done) (rest_of ps) ≡ fit ms → AllFit ps done ms
  all_fit [] done ms e = record { more = []; is = list_is ms done (fit done) e refl ∙ sym (append-nil done); as_many = refl; stand = λ levels h. refl }
  all_fit (p ∷ ps) done ms e = one_fit p ps done ms (judged names p.0 site.Argument) refl (λ x h. all_fit ps (done ++ x ∷ []) ms h) (sym (ap (λ (v : Verdict Mode). all_from (after (fit done) v) (rest_of ps)) refl) ∙ e)

  option_is : (a b : Option Mode) (v : Verdict (Option Mode)) → v ≡ fit a → v ≡ fit b → a ≡ b
  option_is a b v e h = cc

  -- the result that is written may be one
  none_stands : (r : Option Mode) (levels : ℕ) → fit None ≡ fit r → result_passed levels (option_map (stands records) r) ≡ true
  none_stands None levels e = refl
  none_stands (Some m) levels e = absurd cc

  some_stands : (p : Pair) (r : Option Mode) (levels : ℕ) → (judged names p.0 site.Argument >>= λ m. fit (Some m)) ≡ fit r → shallow p.0 levels 8 ≡ true → result_passed levels (option_map (stands records) r) ≡ true
  some_stands p r levels e s =
      let z = then_fit (judged names p.0 site.Argument) (λ m. fit (Some m)) r e in
      subst (λ (o : Option Mode). result_passed levels (option_map (stands records) o) ≡ true) (option_is (Some z.value) r (fit (Some z.value)) refl z.gives) (passed p z.value levels z.is s)

  proc_mode : (w : WrittenMode) (place : Site) (m : Mode) (ps : List Mode) (r : Option Mode) → mode.Proc ps r ≡ m
      → ((levels refs : ℕ) → shallow w levels refs ≡ true → nat_lt 0 levels && (nat_le (length ps) 32 && (all_passed (levels - 1) (map (stands records) ps) && result_passed (levels - 1) (option_map (stands records) r))) ≡ true) → Holds w place m
  proc_mode w place m ps None e h =
      let o : out-Mode (mode.Proc ps None) ≡ Mode-F.Proc ps None = search the_lemmas in
      as_mode w place (mode.Proc ps None) m e
      (record { may = λ levels refs s f. stands_at (mode.Proc ps None) (Mode-F.Proc ps None) (standing_of place) levels refs o (many ps None levels (h levels refs s)); plain = λ n. ap length_fits o })
    where
      length_mapped : (xs : List Mode) → length (map (stands records) xs) ≡ length xs
      length_mapped [] = refl
      length_mapped (x ∷ xs) = ap suc (length_mapped xs)

      many : (ps : List Mode) (r : Option Mode) (levels : ℕ) → nat_lt 0 levels && (nat_le (length ps) 32 && (all_passed (levels - 1) (map (stands records) ps) && result_passed (levels - 1) (option_map (stands records) r))) ≡ true
          → nat_lt 0 levels && (nat_le (length (map (stands records) ps)) 32 && (all_passed (levels - 1) (map (stands records) ps) && result_passed (levels - 1) (option_map (stands records) r))) ≡ true
      many ps r levels h = ap (λ (k : ℕ). nat_lt 0 levels && (nat_le k 32 && (all_passed (levels - 1) (map (stands records) ps) && result_passed (levels - 1) (option_map (stands records) r)))) (length_mapped ps) ∙ h
  proc_mode w place m ps (Some q) e h =
      let o : out-Mode (mode.Proc ps (Some q)) ≡ Mode-F.Proc ps (Some q) = search the_lemmas in
      as_mode w place (mode.Proc ps (Some q)) m e
      (record { may = λ levels refs s f. stands_at (mode.Proc ps (Some q)) (Mode-F.Proc ps (Some q)) (standing_of place) levels refs o (many ps (Some q) levels (h levels refs s)); plain = λ n. ap length_fits o })
    where
      length_mapped : (xs : List Mode) → length (map (stands records) xs) ≡ length xs
      length_mapped [] = refl
      length_mapped (x ∷ xs) = ap suc (length_mapped xs)

      many : (ps : List Mode) (r : Option Mode) (levels : ℕ) → nat_lt 0 levels && (nat_le (length ps) 32 && (all_passed (levels - 1) (map (stands records) ps) && result_passed (levels - 1) (option_map (stands records) r))) ≡ true
          → nat_lt 0 levels && (nat_le (length (map (stands records) ps)) 32 && (all_passed (levels - 1) (map (stands records) ps) && result_passed (levels - 1) (option_map (stands records) r))) ≡ true
      many ps r levels h = ap (λ (k : ℕ). nat_lt 0 levels && (nat_le k 32 && (all_passed (levels - 1) (map (stands records) ps) && result_passed (levels - 1) (option_map (stands records) r)))) (length_mapped ps) ∙ h

  -- ---- by the first level

  array_holds : (w : WrittenMode) (n : ℕ) (k : Mode) (at : At) (place : Site) (m : Mode) → array_at at n k place ≡ fit m
      → ((levels refs : ℕ) → shallow w levels refs ≡ true → nat_lt 0 levels && stands records k standing.Inside (levels - 1) 8 ≡ true) → Holds w place m
  array_holds w n k at site.Item m e h =
      let o : out-Mode (mode.Array n k) ≡ Mode-F.Array n k = search the_lemmas in
      as_mode w site.Item (mode.Array n k) m (mode_is (mode.Array n k) m (fit (mode.Array n k)) refl e)
      (record {
        may = λ levels refs s f.
            let z = h levels refs s in
            let len : is_length n ≡ true = sym (ap length_fits o) ∙ f in
            stands_at (mode.Array n k) (Mode-F.Array n k) standing.Alone levels refs o
            (both_true (nat_lt 0 levels) (is_length n && stands records k standing.Inside (levels - 1) 8) (left_of (nat_lt 0 levels) (stands records k standing.Inside (levels - 1) 8) z)
            (both_true (is_length n) (stands records k standing.Inside (levels - 1) 8) len (right_of (nat_lt 0 levels) (stands records k standing.Inside (levels - 1) 8) z)));
        plain = λ no. absurd (no refl);
      })
  array_holds w n k at site.Variable m e h = absurd cc
  array_holds w n k at site.Inside m e h = absurd cc
  array_holds w n k at site.Argument m e h = absurd cc

  ref_holds : (w : WrittenMode) (k : Mode) (place : Site) (m : Mode) → mode.Ref k ≡ m
      → ((levels refs : ℕ) → shallow w levels refs ≡ true → nat_lt 0 levels && (nat_lt 0 refs && stands records k standing.Inside (levels - 1) (refs - 1)) ≡ true) → Holds w place m
  ref_holds w k place m e h =
      let o : out-Mode (mode.Ref k) ≡ Mode-F.Ref k = search the_lemmas in
      as_mode w place (mode.Ref k) m e (record { may = λ levels refs s f. stands_at (mode.Ref k) (Mode-F.Ref k) (standing_of place) levels refs o (h levels refs s); plain = λ n. ap length_fits o })

  row_holds : (w : WrittenMode) (k : Mode) (place : Site) (m : Mode) → mode.RefArray k ≡ m
      → ((levels refs : ℕ) → shallow w levels refs ≡ true → nat_lt 0 levels && (nat_lt 0 refs && stands records k standing.Inside (levels - 1) 8) ≡ true) → Holds w place m
  row_holds w k place m e h =
      let o : out-Mode (mode.RefArray k) ≡ Mode-F.RefArray k = search the_lemmas in
      as_mode w place (mode.RefArray k) m e (record { may = λ levels refs s f. stands_at (mode.RefArray k) (Mode-F.RefArray k) (standing_of place) levels refs o (h levels refs s); plain = λ n. ap length_fits o })

  proc_shallow : (w : WrittenMode) (ps : List Pair) (r : Option Pair) (levels : ℕ) (ms : List Mode) (q : Option Mode)
      → nat_lt 0 levels && (nat_le (length (map shallow (texts_of ps))) 32 && (all_shallow (levels - 1) (map shallow (texts_of ps)) && any_shallow (levels - 1) (option_map shallow (option_map (λ (e : Pair). e.0) r)))) ≡ true
      → length ms ≡ length ps → (all_shallow (levels - 1) (map shallow (texts_of ps)) ≡ true → all_passed (levels - 1) (map (stands records) ms) ≡ true)
      → (any_shallow (levels - 1) (option_map shallow (option_map (λ (e : Pair). e.0) r)) ≡ true → result_passed (levels - 1) (option_map (stands records) q) ≡ true)
      → nat_lt 0 levels && (nat_le (length ms) 32 && (all_passed (levels - 1) (map (stands records) ms) && result_passed (levels - 1) (option_map (stands records) q))) ≡ true
  proc_shallow w ps r levels ms q s n all one =
      let tail : Bool = all_shallow (levels - 1) (map shallow (texts_of ps)) && any_shallow (levels - 1) (option_map shallow (option_map (λ (e : Pair). e.0) r)) in
      let many : Bool = nat_le (length (map shallow (texts_of ps))) 32 in
      let rest = right_of (nat_lt 0 levels) (many && tail) s in
      let t : tail ≡ true = right_of many tail rest in
      let count : nat_le (length ms) 32 ≡ true = ap (λ (k : ℕ). nat_le k 32) (n ∙ sym (length_texts ps)) ∙ left_of many tail rest in
      both_true (nat_lt 0 levels) _ (left_of (nat_lt 0 levels) (many && tail) s)
      (both_true (nat_le (length ms) 32) _ count (both_true (all_passed (levels - 1) (map (stands records) ms)) _ (all (left_of (all_shallow (levels - 1) (map shallow (texts_of ps))) _ t)) (one (right_of (all_shallow (levels - 1) (map shallow (texts_of ps))) _ t))))
    where
      length_texts : (ps : List Pair) → length (map shallow (texts_of ps)) ≡ length ps
      length_texts [] = refl
      length_texts (p ∷ ps) = ap suc (length_texts ps)

  level : (w : WrittenMode) (y : WrittenMode-F Pair) → out-WrittenMode w ≡ map-WrittenMode Pair WrittenMode (λ e. e.0) y → Q w
  level w (WrittenMode-F.Name i) o place m e = name_holds w i.at (names i.name) place m (λ r h. known i.name r h) (judged_here w (WrittenMode-F.Name i) place m o e)
  level w (WrittenMode-F.Basic b at) o place m e = basic_holds w b at place m (judged_here w (WrittenMode-F.Basic b at) place m o e)
  level w (WrittenMode-F.Array n p at) o place m e =
      let z = then_fit (judged names p.0 site.Inside) (λ k. array_at at n k place) m (judged_here w (WrittenMode-F.Array n p.0 at) place m o e) in
      array_holds w n z.value at place m z.gives (λ levels refs s.
      let h = shallow_here w (WrittenMode-F.Array n p.0 at) levels refs o s in
      both_true (nat_lt 0 levels) (stands records z.value standing.Inside (levels - 1) 8) (left_of (nat_lt 0 levels) (shallow p.0 (levels - 1) 8) h) (inner p z.value (levels - 1) 8 z.is (right_of (nat_lt 0 levels) (shallow p.0 (levels - 1) 8) h)))
  level w (WrittenMode-F.Ref p at) o place m e =
      let z = then_fit (judged names p.0 site.Inside) (λ k. fit (mode.Ref k)) m (judged_here w (WrittenMode-F.Ref p.0 at) place m o e) in
      ref_holds w z.value place m (mode_is (mode.Ref z.value) m (fit (mode.Ref z.value)) refl z.gives) (λ levels refs s.
      let h = shallow_here w (WrittenMode-F.Ref p.0 at) levels refs o s in
      let g = right_of (nat_lt 0 levels) (nat_lt 0 refs && shallow p.0 (levels - 1) (refs - 1)) h in
      both_true (nat_lt 0 levels) _ (left_of (nat_lt 0 levels) (nat_lt 0 refs && shallow p.0 (levels - 1) (refs - 1)) h)
      (both_true (nat_lt 0 refs) _ (left_of (nat_lt 0 refs) (shallow p.0 (levels - 1) (refs - 1)) g) (inner p z.value (levels - 1) (refs - 1) z.is (right_of (nat_lt 0 refs) (shallow p.0 (levels - 1) (refs - 1)) g))))
  level w (WrittenMode-F.RefArray p at) o place m e =
      let z = then_fit (judged names p.0 site.Inside) (λ k. fit (mode.RefArray k)) m (judged_here w (WrittenMode-F.RefArray p.0 at) place m o e) in
      row_holds w z.value place m (mode_is (mode.RefArray z.value) m (fit (mode.RefArray z.value)) refl z.gives) (λ levels refs s.
      let h = shallow_here w (WrittenMode-F.RefArray p.0 at) levels refs o s in
      let g = right_of (nat_lt 0 levels) (nat_lt 0 refs && shallow p.0 (levels - 1) 8) h in
      both_true (nat_lt 0 levels) _ (left_of (nat_lt 0 levels) (nat_lt 0 refs && shallow p.0 (levels - 1) 8) h)
      (both_true (nat_lt 0 refs) _ (left_of (nat_lt 0 refs) (shallow p.0 (levels - 1) 8) g) (inner p z.value (levels - 1) 8 z.is (right_of (nat_lt 0 refs) (shallow p.0 (levels - 1) 8) g))))
  level w (WrittenMode-F.Proc ps None at) o place m e =
      let z = then_fit (both (all_from (fit []) (rest_of ps)) (fit None)) (λ x. fit (mode.Proc x.0 x.1)) m (judged_here w (WrittenMode-F.Proc (texts_of ps) None at) place m o e) in
      let two = both_fit (all_from (fit []) (rest_of ps)) (fit None) z.value.0 z.value.1 z.is in
      let all = all_fit ps [] z.value.0 two.first in
      proc_mode w place m z.value.0 z.value.1 (mode_is (mode.Proc z.value.0 z.value.1) m (fit (mode.Proc z.value.0 z.value.1)) refl z.gives) (λ levels refs s.
      proc_shallow w ps None levels z.value.0 z.value.1 (shallow_here w (WrittenMode-F.Proc (texts_of ps) None at) levels refs o s) (ap length all.is ∙ all.as_many)
      (λ h. ap (λ (l : List Mode). all_passed (levels - 1) (map (stands records) l)) all.is ∙ all.stand (levels - 1) h) (λ h. none_stands z.value.1 (levels - 1) two.second))
  level w (WrittenMode-F.Proc ps (Some r) at) o place m e =
      let v : Verdict (Option Mode) = judged names r.0 site.Argument >>= λ k. fit (Some k) in
      let z = then_fit (both (all_from (fit []) (rest_of ps)) v) (λ x. fit (mode.Proc x.0 x.1)) m (judged_here w (WrittenMode-F.Proc (texts_of ps) (Some r.0) at) place m o e) in
      let two = both_fit (all_from (fit []) (rest_of ps)) v z.value.0 z.value.1 z.is in
      let all = all_fit ps [] z.value.0 two.first in
      proc_mode w place m z.value.0 z.value.1 (mode_is (mode.Proc z.value.0 z.value.1) m (fit (mode.Proc z.value.0 z.value.1)) refl z.gives) (λ levels refs s.
      proc_shallow w ps (Some r) levels z.value.0 z.value.1 (shallow_here w (WrittenMode-F.Proc (texts_of ps) (Some r.0) at) levels refs o s) (ap length all.is ∙ all.as_many)
      (λ h. ap (λ (l : List Mode). all_passed (levels - 1) (map (stands records) l)) all.is ∙ all.stand (levels - 1) h) (λ h. some_stands r z.value.1 (levels - 1) two.second h))

  rolled : (l : WrittenMode-F WrittenMode) → out-WrittenMode (roll-WrittenMode l) ≡ l
  rolled l = search written_lemmas.the_lemmas

  pub written_stands : (w : WrittenMode) → Q w
  written_stands = ind-WrittenMode Q (λ x y is. level (roll-WrittenMode x) y (rolled x ∙ sym is))
