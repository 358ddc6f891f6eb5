-- Full modes tell modes where the names of records are words that can be told apart.
use Rattle.std.proofs.Common.{◌≡◌, inl, inr, ℕ, ◌<◌, ◌≤◌, ◌==◌, ◌&&◌, nat_le, not, Bool, true, false, if◌then◌else◌, List, [], ◌∷◌, ◌++◌, drop, append_assoc, codes, decimal, Option, Some, None, slice_get, refl, sym, ap, ◌∙◌, subst, arith}
use Rattle.std.proofs.lemmas.Bool.Decides.{nat_tests}
use Rattle.std.proofs.lemmas.Fmt.{digits_decimal, decimal_injective}
use Rattle.std.specs.Str.Parse.{AllDigits, digits_value}
use Rattle.std.specs.Prelude.{◌^◌}
use Rattle.std.proofs.lemmas.Str.Parse.{IsNumeralModel, digit_from_value}
use Rattle.rt_modes.specs.declared.mode.Mode.{Mode, out-Mode}
use Rattle.rt_modes.specs.declared.mode.Mode.TheOpen.{Mode-F}
use Rattle.rt_modes.specs.declared.mode.ModeTable.{ModeTable}
use Rattle.rt_modes.specs.declared.mode.RecordDef.{RecordDef}
use Rattle.rt_modes.specs.FullMode.{Word, Says, Mentions, mode_words, name_in, name_of, spelled, where_words, reached_by, full_text, FullMode}
use Rattle.rt_tree.specs.Modules.{is_length}
use Rattle.rt_tree.specs.Stored.{System}
use Rattle.rt_modes.specs.ModeWords.{is_word_byte, is_word}
use Rattle.rt_tree.specs.FullModes.{MayStand}
use Rattle.rt_tree.specs.Opened.{IsTable, LevelSame, FullModesOpen}
use Rattle.rt_meaning_laws.specs.Levels.{IsTableOf, FullModesTell}
use Rattle.rt_meaning_laws.proofs.Errors.{words_at, said}
use Rattle.rt_meaning_laws.proofs.Places.{array_length}
use Rattle.rt_meaning_laws.proofs.Small.{left_of, right_of}

-- ---- the text of the empty string's mode

abbrev number_text : ℕ → List ℕ
number_text n = codes "ARRAY(" ++ decimal n ++ codes ") "

abbrev empty_text : List ℕ
empty_text = number_text 0 ++ (codes "BYTE" ++ [])

byte_full : (t : ModeTable) (w : Mode) → out-Mode w ≡ Mode-F.Byte → FullMode t w ≡ codes "BYTE"
byte_full t w e = said t w (codes "BYTE" ∷ []) (words_at w Mode-F.Byte e)

empty_full : (t : ModeTable) (m w : Mode) → out-Mode m ≡ Mode-F.Array 0 w → out-Mode w ≡ Mode-F.Byte → FullMode t m ≡ empty_text
empty_full t m w o e =
    said t m (number_text 0 ∷ codes "BYTE" ∷ []) (words_at m (Mode-F.Array 0 w) o ∙ ap (λ (ws : List Word). Says (number_text 0) ∷ ws) (words_at w Mode-F.Byte e))

abbrev first : List ℕ → ℕ
first [] = 0
first (x ∷ xs) = x

-- no word stands before the first byte of a list that is neither of a word nor a blank
abbrev breaks : List ℕ → Bool
breaks [] = false
breaks (y ∷ ys) = if is_word_byte y then breaks ys else not (y == 32)

abbrev blank : List ℕ → Bool
blank [] = true
blank (y ∷ ys) = y == 32

broken : (y : ℕ) (ys : List ℕ) (b : Bool) → is_word_byte y ≡ b → (if b then breaks ys else not (y == 32)) ≡ true → (y == 32) ≡ true → ⊥
broken y ys true w h e = let is : y ≡ 32 = grind (arith, nat_tests) in let no_word : true ≡ false = sym w ∙ ap is_word_byte is in absurd cc
broken y ys false w h e = absurd (by_test (y == 32) h e)
  where
    by_test : (c : Bool) → not c ≡ true → c ≡ true → ⊥
    by_test true h e = absurd cc
    by_test false h e = absurd cc

further : (y : ℕ) (ys : List ℕ) (b : Bool) → is_word_byte y ≡ b → b ≡ true → (if b then breaks ys else not (y == 32)) ≡ true → breaks ys ≡ true
further y ys true w e h = h
further y ys false w e h = absurd cc

no_word : (w rest text : List ℕ) → is_word w ≡ true → breaks text ≡ true → blank rest ≡ true → w ++ rest ≡ text → ⊥
no_word [] [] text w b r e = let none : breaks [] ≡ true = ap breaks e ∙ b in absurd cc
no_word [] (y ∷ ys) text w b r e = broken y ys (is_word_byte y) refl (ap breaks e ∙ b) r
no_word (x ∷ xs) rest [] w b r e = absurd cc
no_word (x ∷ xs) rest (y ∷ ys) w b r e =
    let same : x ≡ y = cc in
    let more : xs ++ rest ≡ ys = cc in
    no_word xs rest ys (right_of (is_word_byte x) (is_word xs) w) (further y ys (is_word_byte y) refl (ap is_word_byte (sym same) ∙ left_of (is_word_byte x) (is_word xs) w) b) r more

where_blank : (t : ModeTable) (ks : List ℕ) → blank (spelled t (where_words t ks)) ≡ true
where_blank t [] = refl
where_blank t (k ∷ ks) = refl

-- ---- numbers

digit_byte : (b : ℕ) → 48 ≤ b → b ≤ 57 → is_word_byte b ≡ true
digit_byte b l h = grind (arith, nat_tests)

both_true : (a b : Bool) → a ≡ true → b ≡ true → a && b ≡ true
both_true true b e h = h
both_true false b e h = absurd cc

digits_word : (ds : List ℕ) → AllDigits 10 ds → is_word ds ≡ true
digits_word [] h = refl
digits_word (d ∷ ds) h =
    let v = digit_from_value d h.0 in
    both_true (is_word_byte d) (is_word ds) (digit_byte d (omega (arith, v)) (omega (arith, v))) (digits_word ds h.1)

-- words before a parenthesis
same_word : (w v a b : List ℕ) → is_word w ≡ true → is_word v ≡ true → w ++ (41 ∷ a) ≡ v ++ (41 ∷ b) → w ≡ v
same_word [] [] a b hw hv e = refl
same_word [] (y ∷ v) a b hw hv e = let is : 41 ≡ y = cc in let bad : false ≡ true = ap is_word_byte is ∙ left_of (is_word_byte y) (is_word v) hv in absurd cc
same_word (x ∷ w) [] a b hw hv e = let is : x ≡ 41 = cc in let bad : true ≡ false = sym (left_of (is_word_byte x) (is_word w) hw) ∙ ap is_word_byte is in absurd cc
same_word (x ∷ w) (y ∷ v) a b hw hv e =
    let is : x ≡ y = cc in
    let more : w ++ (41 ∷ a) ≡ v ++ (41 ∷ b) = cc in
    let rest : w ≡ v = same_word w v a b (right_of (is_word_byte x) (is_word w) hw) (right_of (is_word_byte y) (is_word v) hv) more in
    ap (λ (z : ℕ). z ∷ w) is ∙ ap (λ (z : List ℕ). y ∷ z) rest

number_word : (n : ℕ) → n < 2 ^ 64 → is_word (decimal n) ≡ true
number_word n h =
    let m : IsNumeralModel (AllDigits 10) (digits_value 10) = record { to = λ ds d. d; from = λ ds d. d; same = λ ds d. refl } in
    digits_word (decimal n) (digits_decimal m n h)

-- ---- no other mode has that text

module _ (t : ModeTable) (g : IsTable t) where
  text_of : (k : Mode) (ws : List Word) → mode_words k ≡ ws → FullMode t k ≡ empty_text → full_text t ws ≡ empty_text
  text_of k ws e h = sym (ap (full_text t) e) ∙ h

  name_word : (r : ℕ) (o : Option RecordDef) → slice_get t.records r ≡ o → is_word (name_in o) ≡ true
  name_word r None e = refl
  name_word r (Some d) e = (g.names r d e).0

  other_length : (j : ℕ) (rest : List ℕ) → is_length j ≡ true → number_text j ++ rest ≡ empty_text → ⊥
  other_length j rest l e =
      let low : j < 2 ^ 64 = small j l in
      let zero_low : 0 < 2 ^ 64 = omega arith in
      let flat : (decimal j ++ (41 ∷ 32 ∷ [])) ++ rest ≡ (decimal 0 ++ (41 ∷ 32 ∷ [])) ++ (codes "BYTE" ++ []) = ap (λ (z : List ℕ). drop 6 z) e in
      let apart : decimal j ++ (41 ∷ 32 ∷ rest) ≡ decimal 0 ++ (41 ∷ 32 ∷ (codes "BYTE" ++ [])) = sym (append_assoc (decimal j) (41 ∷ 32 ∷ []) rest) ∙ flat ∙ append_assoc (decimal 0) (41 ∷ 32 ∷ []) (codes "BYTE" ++ []) in
      let is : j ≡ 0 = decimal_injective j 0 low zero_low (same_word (decimal j) (decimal 0) (32 ∷ rest) (32 ∷ (codes "BYTE" ++ [])) (number_word j low) (number_word 0 zero_low) apart) in
      none j l is
    where
      small : (j : ℕ) → is_length j ≡ true → j < 2 ^ 64
      small j l = let a : nat_le j 8191 ≡ true = right_of (nat_le 1 j) (nat_le j 8191) l in let z : j ≤ 8191 = grind (arith, nat_tests) in omega (arith, z)

      none : (j : ℕ) → is_length j ≡ true → j ≡ 0 → ⊥
      none j l is = let a : nat_le 1 j ≡ true = left_of (nat_le 1 j) (nat_le j 8191) l in grind (arith, nat_tests)

  none_standing : (k : Mode) (l : Mode-F Mode) → out-Mode k ≡ l → MayStand t k → FullMode t k ≡ empty_text → ⊥
  none_standing k Mode-F.Byte o s e = let bad : 66 ≡ 65 = ap first (text_of k _ (words_at k Mode-F.Byte o) e) in omega (arith, bad)
  none_standing k Mode-F.Int o s e = let bad : 73 ≡ 65 = ap first (text_of k _ (words_at k Mode-F.Int o) e) in omega (arith, bad)
  none_standing k Mode-F.Frac o s e = let bad : 70 ≡ 65 = ap first (text_of k _ (words_at k Mode-F.Frac o) e) in omega (arith, bad)
  none_standing k Mode-F.Label o s e = let bad : 76 ≡ 65 = ap first (text_of k _ (words_at k Mode-F.Label o) e) in omega (arith, bad)
  none_standing k (Mode-F.Ref m) o s e = let bad : 82 ≡ 65 = ap first (text_of k _ (words_at k (Mode-F.Ref m) o) e) in omega (arith, bad)
  none_standing k (Mode-F.RefArray m) o s e = let bad : 82 ≡ 65 = ap first (text_of k _ (words_at k (Mode-F.RefArray m) o) e) in omega (arith, bad)
  none_standing k (Mode-F.Proc ms r) o s e = let bad : 80 ≡ 65 = ap first (text_of k _ (words_at k (Mode-F.Proc ms r) o) e) in omega (arith, bad)
  none_standing k (Mode-F.Array j m) o s e = other_length j _ (array_length t k m j o s) (text_of k _ (words_at k (Mode-F.Array j m) o) e)
  none_standing k (Mode-F.Record r) o s e =
      no_word (name_of t r) (spelled t (where_words t (reached_by t (Mentions r ∷ [])))) empty_text (name_word r (slice_get t.records r) refl) refl (where_blank t (reached_by t (Mentions r ∷ []))) (text_of k _ (words_at k (Mode-F.Record r) o) e)

-- In a system of modules whose records' names can be told apart full modes tell modes.
pub tables_tell : FullModesOpen → (ps : System) → ((t : ModeTable) → IsTableOf ps t → IsTable t) → FullModesTell ps
tables_tell open_them ps tables t u kt ku m n (inl sm) (inl sn) e = open_them t u m n (tables t kt) (tables u ku) sm sn e
tables_tell open_them ps tables t u kt ku m n (inl sm) (inr h) e = absurd (none_standing t (tables t kt) m (out-Mode m) refl sm (e ∙ empty_full u n h.0 h.1 h.2))
tables_tell open_them ps tables t u kt ku m n (inr h) (inl sn) e = absurd (none_standing u (tables u ku) n (out-Mode n) refl sn (sym e ∙ empty_full t m h.0 h.1 h.2))
tables_tell open_them ps tables t u kt ku m n (inr h) (inr k) e =
    subst (λ (l : Mode-F Mode). LevelSame t u l (out-Mode n)) (sym h.1) (subst (λ (l : Mode-F Mode). LevelSame t u (Mode-F.Array 0 h.0) l) (sym k.1) (refl, byte_full t h.0 h.2 ∙ sym (byte_full u k.0 k.2)))
