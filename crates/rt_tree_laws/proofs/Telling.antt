-- The text of a mode says which mode it is.
use Rattle.std.proofs.Common.{◌≡◌, ℕ, zero, suc, ◌-◌, ◌<◌, ◌≤◌, ◌==◌, ◌&&◌, ◌||◌, not, Bool, true, false, List, [], ◌∷◌, ◌++◌, length, drop, codes, decimal, map, Option, Some, None, option_map, arith, append_assoc, refl, sym, ap, ◌∙◌, subst}
use Rattle.std.specs.Prelude.{nat_lt, nat_le, slice_get, ◌^◌}
use Rattle.std.proofs.lemmas.Bool.Decides.{nat_tests}
use Rattle.std.proofs.lemmas.Fmt.{decimal_injective}
use Rattle.rt_modes.specs.declared.mode.Mode.{Mode, out-Mode, roll-Mode, map-Mode, the_lemmas}
use Rattle.rt_modes.specs.declared.mode.Mode.TheFolds.{ind-Mode, fold_out-Mode}
use Rattle.rt_modes.specs.declared.mode.Mode.TheOpen.{Mode-F}
use Rattle.rt_modes.specs.declared.mode.ModeTable.{ModeTable}
use Rattle.rt_modes.specs.declared.mode.RecordDef.{RecordDef}
use Rattle.rt_modes.specs.FullMode.{Word as TextWord, Says, Mentions, mode_words, after_commas, between_commas, result_words, name_of, name_in, spelled, where_words, reached_by, FullMode}
use Rattle.rt_tree_nodes.proofs.Same.{out_same}
use Rattle.rt_tree.specs.declared.standing.Standing.TheVariants as standing
use Rattle.rt_tree.specs.Modules.{Stands, stands, layer_stands, all_passed, result_passed, is_alone, is_length, is_passed}
use Rattle.rt_modes.specs.ModeWords.{is_word_byte, is_word, Word, word}
use Rattle.rt_tree.specs.FullModes.{AreNames, AreApart, MayStand}
use Rattle.rt_modes.specs.ModeWords as words
use Rattle.rt_tree_laws.proofs.Words.{word_of, after_word, starts_apart, run_word, run_rest, number_word, left_of, right_of}

pub spelled_append : (t : ModeTable) (xs ys : List TextWord) → spelled t (xs ++ ys) ≡ spelled t xs ++ spelled t ys
spelled_append t [] ys = refl
spelled_append t (Says b ∷ xs) ys = rw (spelled_append t xs ys) (sym (append_assoc b (spelled t xs) (spelled t ys)))
spelled_append t (Mentions k ∷ xs) ys = rw (spelled_append t xs ys) (sym (append_assoc (name_of t k) (spelled t xs) (spelled t ys)))

pub behind : (x y : ℕ) (xs ys : List ℕ) → x ∷ xs ≡ y ∷ ys → xs ≡ ys
behind x y xs ys e = ap (λ (z : List ℕ). drop 1 z) e

abbrev pub starts_with : ℕ → List ℕ → Bool
starts_with k [] = false
starts_with k (b ∷ bs) = b == k

abbrev pub is_other : Word → Bool
is_other words.Other = true
is_other _ = false

pub other_is : (w : Word) → is_other w ≡ true → w ≡ words.Other
other_is words.Other e = refl
other_is _ e = absurd cc

-- what may stand behind a mode's text
abbrev pub closes : List ℕ → Bool
closes [] = true
closes (b ∷ bs) = not (is_word_byte b) && (not (b == 32) || is_other (word (word_of bs)))

pub closes_apart : (u : List ℕ) → closes u ≡ true → starts_apart u ≡ true
closes_apart [] h = refl
closes_apart (b ∷ bs) h = left_of (not (is_word_byte b)) (not (b == 32) || is_other (word (word_of bs))) h

-- the word of a mode
abbrev pub layer_word : Mode-F Mode → Word
layer_word Mode-F.Byte = words.Byte
layer_word Mode-F.Int = words.Int
layer_word Mode-F.Frac = words.Frac
layer_word Mode-F.Label = words.Label
layer_word (Mode-F.Ref m) = words.Ref
layer_word (Mode-F.RefArray m) = words.Ref
layer_word (Mode-F.Array n m) = words.Array
layer_word (Mode-F.Record r) = words.Other
layer_word (Mode-F.Proc ps r) = words.Proc

module _ (t : ModeTable) (names : AreNames t) (apart : AreApart t) where
  abbrev pub text : Mode → List ℕ
  text m = spelled t (mode_words m)

  abbrev pub inside : List Mode → Option Mode → List ℕ
  inside ps r = spelled t (between_commas (map mode_words ps) ++ result_words (option_map mode_words r))

  abbrev pub rest : List Mode → Option Mode → List ℕ
  rest ps r = spelled t (after_commas (map mode_words ps) ++ result_words (option_map mode_words r))

  -- the first word of a mode's text, and what is behind it
  abbrev pub head : Mode-F Mode → List ℕ
  head Mode-F.Byte = codes "BYTE"
  head Mode-F.Int = codes "INT"
  head Mode-F.Frac = codes "FRAC"
  head Mode-F.Label = codes "LABEL"
  head (Mode-F.Ref m) = codes "REF"
  head (Mode-F.RefArray m) = codes "REF"
  head (Mode-F.Array n m) = codes "ARRAY"
  head (Mode-F.Record r) = name_of t r
  head (Mode-F.Proc ps r) = codes "PROC"

  abbrev pub tail : Mode-F Mode → List ℕ
  tail (Mode-F.Ref m) = 32 ∷ text m
  tail (Mode-F.RefArray m) = codes " ARRAY " ++ text m
  tail (Mode-F.Array n m) = 40 ∷ (decimal n ++ (41 ∷ 32 ∷ text m))
  tail (Mode-F.Proc ps r) = 40 ∷ inside ps r
  tail _ = []

  pub text_at : (m : Mode) (l : Mode-F Mode) → out-Mode m ≡ l → text m ≡ head l ++ tail l
  text_at m Mode-F.Byte o = rw (fold_out-Mode, o) refl
  text_at m Mode-F.Int o = rw (fold_out-Mode, o) refl
  text_at m Mode-F.Frac o = rw (fold_out-Mode, o) refl
  text_at m Mode-F.Label o = rw (fold_out-Mode, o) refl
  text_at m (Mode-F.Ref k) o = rw (fold_out-Mode, o) refl
  text_at m (Mode-F.RefArray k) o = rw (fold_out-Mode, o) refl
  text_at m (Mode-F.Array n k) o = rw (fold_out-Mode, o) (ap (λ (z : List ℕ). codes "ARRAY(" ++ z) (append_assoc (decimal n) (codes ") ") (text k)))
  text_at m (Mode-F.Record r) o = rw (fold_out-Mode, o) refl
  text_at m (Mode-F.Proc ps None) o = rw (fold_out-Mode, o) refl
  text_at m (Mode-F.Proc ps (Some r)) o = rw (fold_out-Mode, o) refl

  pub split : (m : Mode) (l : Mode-F Mode) (u : List ℕ) → out-Mode m ≡ l → text m ++ u ≡ head l ++ (tail l ++ u)
  split m l u o = ap (λ (z : List ℕ). z ++ u) (text_at m l o) ∙ append_assoc (head l) (tail l) u

  -- ---- where modes stand

  stands_layer : (m : Mode) (l : Mode-F Mode) → out-Mode m ≡ l → stands (length t.records) m ≡ layer_stands (length t.records) (map-Mode Mode Stands (stands (length t.records)) l)
  stands_layer m l o = rw (fold_out-Mode, o) refl

  passes_layer : (m : Mode) (l : Mode-F Mode) (s : MayStand t m) → out-Mode m ≡ l → layer_stands (length t.records) (map-Mode Mode Stands (stands (length t.records)) l) s.place s.levels s.refs ≡ true
  passes_layer m l s o = sym (ap (λ (f : Stands). f s.place s.levels s.refs) (stands_layer m l o)) ∙ s.passes

  abbrev pub InTable : Mode-F Mode → Type 0
  InTable (Mode-F.Record r) = (d : RecordDef) × (slice_get t.records r ≡ Some d)
  InTable _ = Unit {0}

  pub there : (xs : List RecordDef) (r : ℕ) → nat_lt r (length xs) ≡ true → (d : RecordDef) × (slice_get xs r ≡ Some d)
  there [] r h = absurd (let bad : r < 0 = grind (arith, nat_tests) in omega (arith, bad))
  there (x ∷ xs) zero h = (x, refl)
  there (x ∷ xs) (suc r) h = there xs r (let l : r < length xs = grind (arith, nat_tests) in grind (arith, nat_tests))

  pub in_table : (m : Mode) (l : Mode-F Mode) → MayStand t m → out-Mode m ≡ l → InTable l
  in_table m (Mode-F.Record r) s o = there t.records r (right_of (not (is_passed s.place)) (nat_lt r (length t.records)) (passes_layer m (Mode-F.Record r) s o))
  in_table m _ s o = tt

  pub head_word : (l : Mode-F Mode) → InTable l → word (head l) ≡ layer_word l
  unfolding word
  head_word (Mode-F.Record r) h = ap (λ (z : Option RecordDef). word (name_in z)) h.1 ∙ (names r h.0 h.1).1
  head_word Mode-F.Byte h = refl
  head_word Mode-F.Int h = refl
  head_word Mode-F.Frac h = refl
  head_word Mode-F.Label h = refl
  head_word (Mode-F.Ref m) h = refl
  head_word (Mode-F.RefArray m) h = refl
  head_word (Mode-F.Array n m) h = refl
  head_word (Mode-F.Proc ps r) h = refl

  pub head_run : (l : Mode-F Mode) → InTable l → is_word (head l) ≡ true
  head_run (Mode-F.Record r) h = ap (λ (z : Option RecordDef). is_word (name_in z)) h.1 ∙ (names r h.0 h.1).0
  head_run Mode-F.Byte h = refl
  head_run Mode-F.Int h = refl
  head_run Mode-F.Frac h = refl
  head_run Mode-F.Label h = refl
  head_run (Mode-F.Ref m) h = refl
  head_run (Mode-F.RefArray m) h = refl
  head_run (Mode-F.Array n m) h = refl
  head_run (Mode-F.Proc ps r) h = refl

  pub tail_apart : (l : Mode-F Mode) (u : List ℕ) → closes u ≡ true → starts_apart (tail l ++ u) ≡ true
  tail_apart (Mode-F.Ref m) u h = refl
  tail_apart (Mode-F.RefArray m) u h = refl
  tail_apart (Mode-F.Array n m) u h = refl
  tail_apart (Mode-F.Proc ps r) u h = refl
  tail_apart _ u h = closes_apart u h

  -- the first word of a text is that of its mode
  pub first_word : (m : Mode) (u : List ℕ) → MayStand t m → closes u ≡ true → word (word_of (text m ++ u)) ≡ layer_word (out-Mode m)
  first_word m u s h =
      let i = in_table m (out-Mode m) s refl in
      ap word (ap word_of (split m (out-Mode m) u refl) ∙ run_word (head (out-Mode m)) (tail (out-Mode m) ++ u) (head_run (out-Mode m) i) (tail_apart (out-Mode m) u h)) ∙ head_word (out-Mode m) i

  -- ---- modes inside others

  pub ref_stands : (m k : Mode) → out-Mode m ≡ Mode-F.Ref k → MayStand t m → MayStand t k
  ref_stands m k o s = record {
    place = standing.Inside;
    levels = s.levels - 1;
    refs = s.refs - 1;
    passes = right_of (nat_lt 0 s.refs) (stands (length t.records) k standing.Inside (s.levels - 1) (s.refs - 1))
        (right_of (nat_lt 0 s.levels) (nat_lt 0 s.refs && stands (length t.records) k standing.Inside (s.levels - 1) (s.refs - 1)) (passes_layer m (Mode-F.Ref k) s o));
  }

  pub row_stands : (m k : Mode) → out-Mode m ≡ Mode-F.RefArray k → MayStand t m → MayStand t k
  row_stands m k o s = record {
    place = standing.Inside;
    levels = s.levels - 1;
    refs = 8;
    passes = right_of (nat_lt 0 s.refs) (stands (length t.records) k standing.Inside (s.levels - 1) 8)
        (right_of (nat_lt 0 s.levels) (nat_lt 0 s.refs && stands (length t.records) k standing.Inside (s.levels - 1) 8) (passes_layer m (Mode-F.RefArray k) s o));
  }

  array_passes : (m k : Mode) (n : ℕ) (s : MayStand t m) → out-Mode m ≡ Mode-F.Array n k → is_length n && stands (length t.records) k standing.Inside (s.levels - 1) 8 ≡ true
  array_passes m k n s o =
      right_of (nat_lt 0 s.levels) (is_length n && stands (length t.records) k standing.Inside (s.levels - 1) 8)
      (right_of (is_alone s.place) (nat_lt 0 s.levels && (is_length n && stands (length t.records) k standing.Inside (s.levels - 1) 8)) (passes_layer m (Mode-F.Array n k) s o))

  pub array_stands : (m k : Mode) (n : ℕ) → out-Mode m ≡ Mode-F.Array n k → MayStand t m → MayStand t k
  array_stands m k n o s = record { place = standing.Inside; levels = s.levels - 1; refs = 8; passes = right_of (is_length n) (stands (length t.records) k standing.Inside (s.levels - 1) 8) (array_passes m k n s o) }

  pub array_length : (m k : Mode) (n : ℕ) → out-Mode m ≡ Mode-F.Array n k → MayStand t m → n < 2 ^ 64
  array_length m k n o s =
      let h : is_length n ≡ true = left_of (is_length n) (stands (length t.records) k standing.Inside (s.levels - 1) 8) (array_passes m k n s o) in
      let l : nat_le n 8191 ≡ true = right_of (nat_le 1 n) (nat_le n 8191) h in
      let z : n ≤ 8191 = grind (arith, nat_tests) in
      omega (arith, z)

  -- what stands inside another mode is no array
  pub no_array : (m : Mode) (l : Mode-F Mode) (levels refs : ℕ) → out-Mode m ≡ l → stands (length t.records) m standing.Inside levels refs ≡ true → layer_word l ≡ words.Array → ⊥
  no_array m (Mode-F.Array n k) levels refs o h w = let bad : false ≡ true = sym (ap (λ (f : Stands). f standing.Inside levels refs) (stands_layer m (Mode-F.Array n k) o)) ∙ h in cc
  no_array m Mode-F.Byte levels refs o h w = cc
  no_array m Mode-F.Int levels refs o h w = cc
  no_array m Mode-F.Frac levels refs o h w = cc
  no_array m Mode-F.Label levels refs o h w = cc
  no_array m (Mode-F.Ref k) levels refs o h w = cc
  no_array m (Mode-F.RefArray k) levels refs o h w = cc
  no_array m (Mode-F.Record r) levels refs o h w = cc
  no_array m (Mode-F.Proc ps r) levels refs o h w = cc

  -- what is passed is no record
  abbrev pub Passed : Mode → Type 0
  Passed m = (levels : ℕ) × (stands (length t.records) m standing.Passed levels 8 ≡ true)

  pub passed_stands : (m : Mode) → Passed m → MayStand t m
  passed_stands m h = record { place = standing.Passed; levels = h.0; refs = 8; passes = h.1 }

  pub no_record : (m : Mode) (l : Mode-F Mode) → out-Mode m ≡ l → Passed m → layer_word l ≡ words.Other → ⊥
  no_record m (Mode-F.Record r) o h w = let bad : false ≡ true = sym (ap (λ (f : Stands). f standing.Passed h.0 8) (stands_layer m (Mode-F.Record r) o)) ∙ h.1 in cc
  no_record m Mode-F.Byte o h w = cc
  no_record m Mode-F.Int o h w = cc
  no_record m Mode-F.Frac o h w = cc
  no_record m Mode-F.Label o h w = cc
  no_record m (Mode-F.Ref k) o h w = cc
  no_record m (Mode-F.RefArray k) o h w = cc
  no_record m (Mode-F.Array n k) o h w = cc
  no_record m (Mode-F.Proc ps r) o h w = cc

  abbrev pub AllPassed : List Mode → Type 0
  AllPassed [] = Unit {0}
  AllPassed (m ∷ ms) = Passed m × AllPassed ms

  abbrev pub IfPassed : Option Mode → Type 0
  IfPassed None = Unit {0}
  IfPassed (Some m) = Passed m

  each_passed : (levels : ℕ) (ms : List Mode) → all_passed levels (map (stands (length t.records)) ms) ≡ true → AllPassed ms
  each_passed levels [] h = tt
  each_passed levels (m ∷ ms) h =
      let rest_all : Bool = all_passed levels (map (stands (length t.records)) ms) in
      ((levels, left_of (stands (length t.records) m standing.Passed levels 8) rest_all h), each_passed levels ms (right_of (stands (length t.records) m standing.Passed levels 8) rest_all h))

  if_passed : (levels : ℕ) (r : Option Mode) → result_passed levels (option_map (stands (length t.records)) r) ≡ true → IfPassed r
  if_passed levels None h = tt
  if_passed levels (Some m) h = (levels, h)

  proc_split : (m : Mode) (ps : List Mode) (r : Option Mode) (s : MayStand t m) → out-Mode m ≡ Mode-F.Proc ps r
      → all_passed (s.levels - 1) (map (stands (length t.records)) ps) && result_passed (s.levels - 1) (option_map (stands (length t.records)) r) ≡ true
  proc_split m ps None s o = right_of (nat_le (length (map (stands (length t.records)) ps)) 32) _ (right_of (nat_lt 0 s.levels) _ (passes_layer m (Mode-F.Proc ps None) s o))
  proc_split m ps (Some r) s o = right_of (nat_le (length (map (stands (length t.records)) ps)) 32) _ (right_of (nat_lt 0 s.levels) _ (passes_layer m (Mode-F.Proc ps (Some r)) s o))

  pub parameters_passed : (m : Mode) (ps : List Mode) (r : Option Mode) → MayStand t m → out-Mode m ≡ Mode-F.Proc ps r → AllPassed ps
  parameters_passed m ps r s o = each_passed (s.levels - 1) ps (left_of (all_passed (s.levels - 1) (map (stands (length t.records)) ps)) _ (proc_split m ps r s o))

  pub result_is_passed : (m : Mode) (ps : List Mode) (r : Option Mode) → MayStand t m → out-Mode m ≡ Mode-F.Proc ps r → IfPassed r
  result_is_passed m ps r s o = if_passed (s.levels - 1) r (right_of (all_passed (s.levels - 1) (map (stands (length t.records)) ps)) _ (proc_split m ps r s o))

  -- ---- what is known of a mode: another whose text is the same is the same

  abbrev Known : Mode → Type 0
  Known m = (n : Mode) (u v : List ℕ) → MayStand t m → MayStand t n → closes u ≡ true → closes v ≡ true → text m ++ u ≡ text n ++ v → (m ≡ n) × (u ≡ v)

  abbrev Pair : Type 0
  Pair = (m : Mode) × Known m

  abbrev plain : Mode-F Pair → Mode-F Mode
  plain y = map-Mode Pair Mode (λ e. e.0) y

  firsts : List Pair → List Mode
  firsts ps = map (λ (e : Pair). e.0) ps

  -- ---- the parameters and the result of a PROC mode

  pub rest_more : (p : Mode) (ps : List Mode) (r : Option Mode) → rest (p ∷ ps) r ≡ 44 ∷ (text p ++ rest ps r)
  rest_more p ps r =
      ap (λ (z : List ℕ). 44 ∷ z) (ap (spelled t) (append_assoc (mode_words p) (after_commas (map mode_words ps)) (result_words (option_map mode_words r)))
      ∙ spelled_append t (mode_words p) (after_commas (map mode_words ps) ++ result_words (option_map mode_words r)))

  pub inside_more : (p : Mode) (ps : List Mode) (r : Option Mode) → inside (p ∷ ps) r ≡ text p ++ rest ps r
  inside_more p ps r =
      ap (spelled t) (append_assoc (mode_words p) (after_commas (map mode_words ps)) (result_words (option_map mode_words r)))
      ∙ spelled_append t (mode_words p) (after_commas (map mode_words ps) ++ result_words (option_map mode_words r))

  pub rest_closes : (ps : List Mode) (r : Option Mode) (u : List ℕ) → closes (rest ps r ++ u) ≡ true
  rest_closes [] None u = refl
  rest_closes [] (Some r) u = refl
  rest_closes (p ∷ ps) r u = ap (λ (z : List ℕ). closes (z ++ u)) (rest_more p ps r)

  -- a text that closes isn't a space and a mode that is passed
  pub no_result : (m : Mode) (u v : List ℕ) → Passed m → closes v ≡ true → closes u ≡ true → u ≡ 32 ∷ (text m ++ v) → ⊥
  no_result m u v p cv cu e =
      let c : is_other (word (word_of (text m ++ v))) ≡ true = subst (λ (z : List ℕ). closes z ≡ true) e cu in
      no_record m (out-Mode m) refl p (sym (first_word m v (passed_stands m p) cv) ∙ other_is (word (word_of (text m ++ v))) c)

  results : (r : Option Pair) (q : Option Mode) (u v : List ℕ) → IfPassed (option_map (λ (e : Pair). e.0) r) → IfPassed q → closes u ≡ true → closes v ≡ true
      → rest [] (option_map (λ (e : Pair). e.0) r) ++ u ≡ rest [] q ++ v → (option_map (λ (e : Pair). e.0) r ≡ q) × (u ≡ v)
  results None None u v hr hq cu cv e = (refl, behind 41 41 u v e)
  results None (Some q) u v hr hq cu cv e = absurd (no_result q u v hq cv cu (behind 41 41 u (32 ∷ (text q ++ v)) e))
  results (Some p) None u v hr hq cu cv e = absurd (no_result p.0 v u hr cu cv (sym (behind 41 41 (32 ∷ (text p.0 ++ u)) v e)))
  results (Some p) (Some q) u v hr hq cu cv e =
      let k = p.1 q u v (passed_stands p.0 hr) (passed_stands q hq) cu cv (ap (λ (z : List ℕ). drop 2 z) e) in
      (ap (λ (z : Mode). Some z) k.0, k.1)

  -- a result's parenthesis is no comma
  pub no_comma : (r : Option Mode) (u w : List ℕ) → rest [] r ++ u ≡ 44 ∷ w → ⊥
  no_comma None u w e = let bad : false ≡ true = ap (starts_with 44) e in cc
  no_comma (Some r) u w e = let bad : false ≡ true = ap (starts_with 44) e in cc

  more_lists : (p q : Mode) (ps qs : List Mode) (r w : Option Mode) → p ≡ q → ps ≡ qs → p ∷ ps ≡ q ∷ qs
  more_lists p q ps qs r w e h = cc

  rests : (ps : List Pair) (r : Option Pair) (qs : List Mode) (q : Option Mode) (u v : List ℕ) → AllPassed (map (λ (e : Pair). e.0) ps) → AllPassed qs → IfPassed (option_map (λ (e : Pair). e.0) r) → IfPassed q
      → closes u ≡ true → closes v ≡ true → rest (map (λ (e : Pair). e.0) ps) (option_map (λ (e : Pair). e.0) r) ++ u ≡ rest qs q ++ v
      → (map (λ (e : Pair). e.0) ps ≡ qs) × (option_map (λ (e : Pair). e.0) r ≡ q) × (u ≡ v)
  rests [] r [] q u v hp hs hr hq cu cv e = let k = results r q u v hr hq cu cv e in (refl, k.0, k.1)
  rests [] r (s ∷ qs) q u v hp hs hr hq cu cv e =
      absurd (no_comma (option_map (λ (e : Pair). e.0) r) u ((text s ++ rest qs q) ++ v) (e ∙ ap (λ (z : List ℕ). z ++ v) (rest_more s qs q)))
  rests (p ∷ ps) r [] q u v hp hs hr hq cu cv e =
      absurd (no_comma q v ((text p.0 ++ rest (map (λ (e : Pair). e.0) ps) (option_map (λ (e : Pair). e.0) r)) ++ u) (sym e ∙ ap (λ (z : List ℕ). z ++ u) (rest_more p.0 (map (λ (e : Pair). e.0) ps) (option_map (λ (e : Pair). e.0) r))))
  rests (p ∷ ps) r (s ∷ qs) q u v hp hs hr hq cu cv e =
      let ms : List Mode = map (λ (e : Pair). e.0) ps in
      let a : Option Mode = option_map (λ (e : Pair). e.0) r in
      let both : 44 ∷ ((text p.0 ++ rest ms a) ++ u) ≡ 44 ∷ ((text s ++ rest qs q) ++ v) = sym (ap (λ (z : List ℕ). z ++ u) (rest_more p.0 ms a)) ∙ e ∙ ap (λ (z : List ℕ). z ++ v) (rest_more s qs q) in
      let flat : text p.0 ++ (rest ms a ++ u) ≡ text s ++ (rest qs q ++ v) =
      sym (append_assoc (text p.0) (rest ms a) u) ∙ behind 44 44 ((text p.0 ++ rest ms a) ++ u) ((text s ++ rest qs q) ++ v) both ∙ append_assoc (text s) (rest qs q) v in
      let first = p.1 s (rest ms a ++ u) (rest qs q ++ v) (passed_stands p.0 hp.0) (passed_stands s hs.0) (rest_closes ms a u) (rest_closes qs q v) flat in
      let others = rests ps r qs q u v hp.1 hs.1 hr hq cu cv first.1 in
      (more_lists p.0 s ms qs a q first.0 others.0, others.1, others.2)

  -- a parameter's text begins with a word
  pub no_parenthesis : (m : Mode) (r : Option Mode) (u w : List ℕ) → Passed m → closes w ≡ true → rest [] r ++ u ≡ text m ++ w → ⊥
  unfolding word
  no_parenthesis m None u w p c e = no_record m (out-Mode m) refl p (sym (first_word m w (passed_stands m p) c) ∙ sym (ap (λ (z : List ℕ). word (word_of z)) e))
  no_parenthesis m (Some r) u w p c e = no_record m (out-Mode m) refl p (sym (first_word m w (passed_stands m p) c) ∙ sym (ap (λ (z : List ℕ). word (word_of z)) e))

  insides : (ps : List Pair) (r : Option Pair) (qs : List Mode) (q : Option Mode) (u v : List ℕ) → AllPassed (map (λ (e : Pair). e.0) ps) → AllPassed qs → IfPassed (option_map (λ (e : Pair). e.0) r) → IfPassed q
      → closes u ≡ true → closes v ≡ true → inside (map (λ (e : Pair). e.0) ps) (option_map (λ (e : Pair). e.0) r) ++ u ≡ inside qs q ++ v
      → (map (λ (e : Pair). e.0) ps ≡ qs) × (option_map (λ (e : Pair). e.0) r ≡ q) × (u ≡ v)
  insides [] r [] q u v hp hs hr hq cu cv e = let k = results r q u v hr hq cu cv e in (refl, k.0, k.1)
  insides [] r (s ∷ qs) q u v hp hs hr hq cu cv e =
      absurd (no_parenthesis s (option_map (λ (e : Pair). e.0) r) u (rest qs q ++ v) hs.0 (rest_closes qs q v) (e ∙ ap (λ (z : List ℕ). z ++ v) (inside_more s qs q) ∙ append_assoc (text s) (rest qs q) v))
  insides (p ∷ ps) r [] q u v hp hs hr hq cu cv e =
      let ms : List Mode = map (λ (e : Pair). e.0) ps in
      let a : Option Mode = option_map (λ (e : Pair). e.0) r in
      absurd (no_parenthesis p.0 q v (rest ms a ++ u) hp.0 (rest_closes ms a u) (sym e ∙ ap (λ (z : List ℕ). z ++ u) (inside_more p.0 ms a) ∙ append_assoc (text p.0) (rest ms a) u))
  insides (p ∷ ps) r (s ∷ qs) q u v hp hs hr hq cu cv e =
      let ms : List Mode = map (λ (e : Pair). e.0) ps in
      let a : Option Mode = option_map (λ (e : Pair). e.0) r in
      let flat : text p.0 ++ (rest ms a ++ u) ≡ text s ++ (rest qs q ++ v) =
      sym (ap (λ (z : List ℕ). z ++ u) (inside_more p.0 ms a) ∙ append_assoc (text p.0) (rest ms a) u) ∙ e ∙ ap (λ (z : List ℕ). z ++ v) (inside_more s qs q) ∙ append_assoc (text s) (rest qs q) v in
      let first = p.1 s (rest ms a ++ u) (rest qs q ++ v) (passed_stands p.0 hp.0) (passed_stands s hs.0) (rest_closes ms a u) (rest_closes qs q v) flat in
      let others = rests ps r qs q u v hp.1 hs.1 hr hq cu cv first.1 in
      (more_lists p.0 s ms qs a q first.0 others.0, others.1, others.2)

  -- ---- one mode and another whose texts begin with one word

  pub numbers_apart : (m k : Mode) (n : ℕ) (u : List ℕ) → out-Mode m ≡ Mode-F.Array n k → MayStand t m → (word_of (decimal n ++ (41 ∷ u)) ≡ decimal n) × (after_word (decimal n ++ (41 ∷ u)) ≡ 41 ∷ u)
  numbers_apart m k n u o s = (run_word (decimal n) (41 ∷ u) (number_word n (array_length m k n o s)) refl, run_rest (decimal n) (41 ∷ u) (number_word n (array_length m k n o s)) refl)

  arrays : (m n : Mode) (p : Pair) (k : Mode) (a b : ℕ) (u v : List ℕ) → out-Mode m ≡ Mode-F.Array a p.0 → out-Mode n ≡ Mode-F.Array b k → MayStand t m → MayStand t n → closes u ≡ true → closes v ≡ true
      → (40 ∷ (decimal a ++ (41 ∷ 32 ∷ text p.0))) ++ u ≡ (40 ∷ (decimal b ++ (41 ∷ 32 ∷ text k))) ++ v → (m ≡ n) × (u ≡ v)
  arrays m n p k a b u v o q sm sn cu cv e =
      let flat : decimal a ++ (41 ∷ 32 ∷ (text p.0 ++ u)) ≡ decimal b ++ (41 ∷ 32 ∷ (text k ++ v)) =
      sym (append_assoc (decimal a) (41 ∷ 32 ∷ text p.0) u) ∙ behind 40 40 ((decimal a ++ (41 ∷ 32 ∷ text p.0)) ++ u) ((decimal b ++ (41 ∷ 32 ∷ text k)) ++ v) e ∙ append_assoc (decimal b) (41 ∷ 32 ∷ text k) v in
      let left = numbers_apart m p.0 a (32 ∷ (text p.0 ++ u)) o sm in
      let right = numbers_apart n k b (32 ∷ (text k ++ v)) q sn in
      let count : a ≡ b = decimal_injective a b (array_length m p.0 a o sm) (array_length n k b q sn) (sym left.0 ∙ ap word_of flat ∙ right.0) in
      let behind_it : 41 ∷ 32 ∷ (text p.0 ++ u) ≡ 41 ∷ 32 ∷ (text k ++ v) = sym left.1 ∙ ap after_word flat ∙ right.1 in
      let of = p.1 k u v (array_stands m p.0 a o sm) (array_stands n k b q sn) cu cv (ap (λ (z : List ℕ). drop 2 z) behind_it) in
      (out_same m n (o ∙ ap (λ (x : ℕ). Mode-F.Array x p.0) count ∙ ap (λ (x : Mode). Mode-F.Array b x) of.0 ∙ sym q), of.1)

  -- REF is no REF ARRAY
  pub no_row : (m k : Mode) (u w : List ℕ) → out-Mode m ≡ Mode-F.Ref k → MayStand t m → closes u ≡ true → text k ++ u ≡ codes "ARRAY" ++ (32 ∷ w) → ⊥
  unfolding word ref_stands
  no_row m k u w o s c e =
      let z = ref_stands m k o s in
      no_array k (out-Mode k) z.levels z.refs refl z.passes (sym (first_word k u z c) ∙ ap (λ (x : List ℕ). word (word_of x)) e)

  records : (a b : ℕ) → InTable (Mode-F.Record a) → InTable (Mode-F.Record b) → name_of t a ≡ name_of t b → a ≡ b
  records a b h g e = apart a b h.0 g.0 h.1 g.1 (sym (ap name_in h.1) ∙ e ∙ ap name_in g.1)

  paired : (m n : Mode) (y : Mode-F Pair) (l : Mode-F Mode) (u v : List ℕ) → out-Mode m ≡ map-Mode Pair Mode (λ e. e.0) y → out-Mode n ≡ l → MayStand t m → MayStand t n → closes u ≡ true → closes v ≡ true
      → layer_word (map-Mode Pair Mode (λ e. e.0) y) ≡ layer_word l → head (map-Mode Pair Mode (λ e. e.0) y) ≡ head l → tail (map-Mode Pair Mode (λ e. e.0) y) ++ u ≡ tail l ++ v → (m ≡ n) × (u ≡ v)
  paired m n Mode-F.Byte Mode-F.Byte u v o p sm sn cu cv w h e = (out_same m n (o ∙ sym p), e)
  paired m n Mode-F.Byte _ u v o p sm sn cu cv w h e = absurd cc
  paired m n Mode-F.Int Mode-F.Int u v o p sm sn cu cv w h e = (out_same m n (o ∙ sym p), e)
  paired m n Mode-F.Int _ u v o p sm sn cu cv w h e = absurd cc
  paired m n Mode-F.Frac Mode-F.Frac u v o p sm sn cu cv w h e = (out_same m n (o ∙ sym p), e)
  paired m n Mode-F.Frac _ u v o p sm sn cu cv w h e = absurd cc
  paired m n Mode-F.Label Mode-F.Label u v o p sm sn cu cv w h e = (out_same m n (o ∙ sym p), e)
  paired m n Mode-F.Label _ u v o p sm sn cu cv w h e = absurd cc
  paired m n (Mode-F.Ref k) (Mode-F.Ref j) u v o p sm sn cu cv w h e =
      let z = k.1 j u v (ref_stands m k.0 o sm) (ref_stands n j p sn) cu cv (behind 32 32 (text k.0 ++ u) (text j ++ v) e) in
      (out_same m n (o ∙ ap (λ (x : Mode). Mode-F.Ref x) z.0 ∙ sym p), z.1)
  paired m n (Mode-F.Ref k) (Mode-F.RefArray j) u v o p sm sn cu cv w h e = absurd (no_row m k.0 u (text j ++ v) o sm cu (ap (λ (z : List ℕ). drop 1 z) e))
  paired m n (Mode-F.Ref k) _ u v o p sm sn cu cv w h e = absurd cc
  paired m n (Mode-F.RefArray k) (Mode-F.RefArray j) u v o p sm sn cu cv w h e =
      let z = k.1 j u v (row_stands m k.0 o sm) (row_stands n j p sn) cu cv (ap (λ (x : List ℕ). drop 7 x) e) in
      (out_same m n (o ∙ ap (λ (x : Mode). Mode-F.RefArray x) z.0 ∙ sym p), z.1)
  paired m n (Mode-F.RefArray k) (Mode-F.Ref j) u v o p sm sn cu cv w h e = absurd (no_row n j v (text k.0 ++ u) p sn cv (sym (ap (λ (z : List ℕ). drop 1 z) e)))
  paired m n (Mode-F.RefArray k) _ u v o p sm sn cu cv w h e = absurd cc
  paired m n (Mode-F.Array a k) (Mode-F.Array b j) u v o p sm sn cu cv w h e = arrays m n k j a b u v o p sm sn cu cv e
  paired m n (Mode-F.Array a k) _ u v o p sm sn cu cv w h e = absurd cc
  paired m n (Mode-F.Record a) (Mode-F.Record b) u v o p sm sn cu cv w h e =
      (out_same m n (o ∙ ap (λ (x : ℕ). Mode-F.Record x) (records a b (in_table m (Mode-F.Record a) sm o) (in_table n (Mode-F.Record b) sn p) h) ∙ sym p), e)
  paired m n (Mode-F.Record a) _ u v o p sm sn cu cv w h e = absurd cc
  paired m n (Mode-F.Proc ps None) (Mode-F.Proc qs q) u v o p sm sn cu cv w h e =
      let z = insides ps None qs q u v (parameters_passed m (map (λ (e : Pair). e.0) ps) None sm o) (parameters_passed n qs q sn p) tt (result_is_passed n qs q sn p) cu cv (ap (λ (x : List ℕ). drop 1 x) e) in
      (out_same m n (o ∙ ap (λ (x : List Mode). Mode-F.Proc x None) z.0 ∙ ap (λ (x : Option Mode). Mode-F.Proc qs x) z.1 ∙ sym p), z.2)
  paired m n (Mode-F.Proc ps None) _ u v o p sm sn cu cv w h e = absurd cc
  paired m n (Mode-F.Proc ps (Some r)) (Mode-F.Proc qs q) u v o p sm sn cu cv w h e =
      let z = insides ps (Some r) qs q u v (parameters_passed m (map (λ (e : Pair). e.0) ps) (Some r.0) sm o) (parameters_passed n qs q sn p) (result_is_passed m (map (λ (e : Pair). e.0) ps) (Some r.0) sm o) (result_is_passed n qs q sn p) cu cv (ap (λ (x : List ℕ). drop 1 x) e) in
      (out_same m n (o ∙ ap (λ (x : List Mode). Mode-F.Proc x (Some r.0)) z.0 ∙ ap (λ (x : Option Mode). Mode-F.Proc qs x) z.1 ∙ sym p), z.2)
  paired m n (Mode-F.Proc ps (Some r)) _ u v o p sm sn cu cv w h e = absurd cc

  opened : (m : Mode) (y : Mode-F Pair) → out-Mode m ≡ map-Mode Pair Mode (λ e. e.0) y → Known m
  opened m y o n u v sm sn cu cv e =
      let l : Mode-F Mode = map-Mode Pair Mode (λ (e : Pair). e.0) y in
      let k : Mode-F Mode = out-Mode n in
      let il = in_table m l sm o in
      let ik = in_table n k sn refl in
      let a : head l ++ (tail l ++ u) ≡ head k ++ (tail k ++ v) = sym (split m l u o) ∙ e ∙ split n k v refl in
      let h : head l ≡ head k = sym (run_word (head l) (tail l ++ u) (head_run l il) (tail_apart l u cu)) ∙ ap word_of a ∙ run_word (head k) (tail k ++ v) (head_run k ik) (tail_apart k v cv) in
      let r : tail l ++ u ≡ tail k ++ v = sym (run_rest (head l) (tail l ++ u) (head_run l il) (tail_apart l u cu)) ∙ ap after_word a ∙ run_rest (head k) (tail k ++ v) (head_run k ik) (tail_apart k v cv) in
      paired m n y k u v o refl sm sn cu cv (sym (head_word l il) ∙ ap word h ∙ head_word k ik) h r

  out_roll : (l : Mode-F Mode) → out-Mode (roll-Mode l) ≡ l
  out_roll l = search the_lemmas

  texts_tell : (m : Mode) → Known m
  texts_tell = ind-Mode Known (λ x y is. opened (roll-Mode x) y (out_roll x ∙ sym is))

  -- ---- full modes

  pub where_closes : (ks : List ℕ) → closes (spelled t (where_words t ks)) ≡ true
  unfolding word
  where_closes [] = refl
  where_closes (k ∷ ks) = refl

  pub full_split : (m : Mode) → FullMode t m ≡ text m ++ spelled t (where_words t (reached_by t (mode_words m)))
  full_split m = spelled_append t (mode_words m) (where_words t (reached_by t (mode_words m)))

  pub full_modes_tell : (m n : Mode) → MayStand t m → MayStand t n → FullMode t m ≡ FullMode t n → m ≡ n
  full_modes_tell m n sm sn e =
      (texts_tell m n (spelled t (where_words t (reached_by t (mode_words m)))) (spelled t (where_words t (reached_by t (mode_words n)))) sm sn
      (where_closes (reached_by t (mode_words m))) (where_closes (reached_by t (mode_words n))) (sym (full_split m) ∙ e ∙ full_split n)).0
