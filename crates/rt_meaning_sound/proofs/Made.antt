-- What is made of a start has words alone, where those that are written are words.
use Rattle.std.proofs.Common.{◌≡◌, ℕ, Bool, true, false, if◌then◌else◌, List, [], ◌∷◌, ◌++◌, Option, map, take, drop, arith, refl, sym, ◌∙◌, subst}
use Rattle.std.specs.Prelude.{replicate}
use Rattle.std.specs.List.{AllByRecursion}
use Rattle.std.proofs.lemmas.Bool.Decides.{nat_tests}
use Rattle.rt_bricks.specs.declared.tree.Selector.{Selector}
use Rattle.rt_bricks.specs.declared.tree.Sign.{Sign}
use Rattle.rt_bricks.specs.declared.tree.Start.{Start, out-Start, roll-Start, map-Start, the_lemmas}
use Rattle.rt_bricks.specs.declared.tree.Start.TheFolds.{ind-Start, fold_out-Start}
use Rattle.rt_bricks.specs.declared.tree.Start.TheOpen.{Start-F}
use Rattle.rt_modes.specs.declared.mode.Field.{Field}
use Rattle.rt_modes.specs.declared.mode.Mode.{Mode, out-Mode}
use Rattle.rt_modes.specs.declared.mode.Mode.TheOpen.{Mode-F}
use Rattle.rt_modes.specs.declared.mode.RecordDef.{RecordDef}
use Rattle.rt_tree_nodes.specs.declared.brick.DataStart.{DataStart}
use Rattle.rt_tree_nodes.specs.declared.brick.DataStart.TheVariants as start
use Rattle.rt_items.specs.Ranges.{IsByte}
use Rattle.rt_syntax.specs.Strings.{Texts, Finds, all}
use Rattle.rt_words.specs.Word.{wrap_sub}
use Rattle.rt_check_declared.specs.Written.{Names}
use Rattle.rt_bricks_laws.specs.Bodies.{all as all_so}
use Rattle.rt_bricks_laws.specs.Numbers.{is_word, words_in_copies, start_words, words_in_start}
use Rattle.rt_bricks_laws.specs.Strings.{in_start}
use Rattle.rt_check_module.specs.Places.{Found, procedure, shared, place_made}
use Rattle.rt_check_module.specs.Starts.{Written, Wanted, elements, fields, nothing, wanted, each_made, all_made, fields_made, parts_made, is_negative, word, text_made, number_of, written}
use Rattle.rt_check_module.proofs.Lists.{written_at}
use Rattle.rt_check_module_laws.specs.Starts.{AreBytes}
use Rattle.rt_check_module_laws.proofs.StartTexts.{found_at, all_keep}
use Rattle.rt_bricks_laws.proofs.AllLists.{left_of, right_of, all_joined, all_right, all_mapped}
use Rattle.rt_meaning_sound.proofs.NumberWords.{IsWord, AreWords, a_number, a_text, a_procedure, a_place, a_list, all_copies}
use Rattle.rt_meaning_sound.proofs.Defaults.{zero_words}

-- ---- numbers and strings

below : (n : ℕ) → is_word n ≡ true → IsWord n
below n h = grind (arith, nat_tests)

negated : (n : ℕ) → IsWord (wrap_sub 0 n)
negated n = omega arith

signed : (s : Option Sign) (n : ℕ) → IsWord n → IsWord (word s n)
signed s n h = by_sign (is_negative s) where
  by_sign : (b : Bool) → IsWord (if b then wrap_sub 0 n else n)
  by_sign true = negated n
  by_sign false = h

byte_words : (b : ℕ) → IsByte b → AreWords (start.Number b)
byte_words b h = a_number b (omega (arith, h))

bytes_words : (bytes : List ℕ) → AllByRecursion IsByte bytes → AllByRecursion AreWords (map (λ b. start.Number b) bytes)
bytes_words [] h = tt
bytes_words (b ∷ bs) h = (byte_words b h.0, bytes_words bs h.1)

text_words : (bytes : List ℕ) (k : ℕ) (l : Mode-F Mode) → AllByRecursion IsByte bytes → AreWords (text_made bytes k l)
text_words bytes k (Mode-F.Array n m) h = a_list (map (λ b. start.Number b) bytes) (bytes_words bytes h)
text_words bytes k _ h = a_text k

place_words : (records : List RecordDef) (ss : List Selector) (f : Found) → AreWords (place_made records ss f)
place_words records ss (procedure b m) = a_procedure b
place_words records ss (shared b i from m) = a_place b i _
place_words records ss _ = zero_words

-- ---- what is written, layer by layer

words_at : (x : Start) (l : Start-F Start) → out-Start x ≡ l → words_in_start x ≡ start_words (map-Start Start Bool words_in_start l)
words_at x l o = rw (fold_out-Start, o) refl

module _ (records : List RecordDef) (names : Names) (keys : List ℕ) where
  abbrev seen : Start → Written
  seen = written records names keys

  -- whichever mode is wanted
  abbrev pub Worded : Start → Type 0
  Worded x = (prior : Texts) (m : Mode) → AreBytes (in_start x prior) → words_in_start x ≡ true → AreWords ((seen x).made m)

  abbrev Pair : Type 0
  Pair = (x : Start) × Worded x

  abbrev inner : List Pair → List Start
  inner ps = map (λ p. p.0) ps

  abbrev Bytes : Texts → List Pair → Type 0
  Bytes prior ps = AreBytes (all (map in_start (inner ps)) prior)

  abbrev Words : List Pair → Type 0
  Words ps = all_so (map words_in_start (inner ps)) ≡ true

  first : (p : Pair) (ps : List Pair) (prior : Texts) (m : Mode) → Bytes prior (p ∷ ps) → Words (p ∷ ps) → AreWords ((seen p.0).made m)
  first p ps prior m b w = p.1 prior m (all_keep (inner ps) (in_start p.0 prior) b) (left_of (words_in_start p.0) (all_so (map words_in_start (inner ps))) w)

  others : (p : Pair) (ps : List Pair) → Words (p ∷ ps) → Words ps
  others p ps w = right_of (words_in_start p.0) (all_so (map words_in_start (inner ps))) w

  each_words : (ps : List Pair) (prior : Texts) (e : Mode) → Bytes prior ps → Words ps → AllByRecursion AreWords (each_made (map seen (inner ps)) e)
  each_words [] prior e b w = tt
  each_words (p ∷ ps) prior e b w =
      let x : DataStart = (seen p.0).made e in
      all_joined AreWords (replicate (seen p.0).copies x) (each_made (map seen (inner ps)) e) (all_copies AreWords (seen p.0).copies x (first p ps prior e b w)) (each_words ps (in_start p.0 prior) e b (others p ps w))

  fields_words : (ps : List Pair) (prior : Texts) (fs : List Field) → Bytes prior ps → Words ps → AllByRecursion AreWords (fields_made (map seen (inner ps)) fs)
  fields_words [] prior fs b w = tt
  fields_words (p ∷ ps) prior fs b w =
      let k : ℕ = (seen p.0).copies in
      all_joined AreWords (all_made (seen p.0) (take k fs)) (fields_made (map seen (inner ps)) (drop k fs))
      (all_mapped AreWords (λ (f : Field). (seen p.0).made f.mode) (take k fs) (λ f. first p ps prior f.mode b w)) (fields_words ps (in_start p.0 prior) (drop k fs) b (others p ps w))

  parts_words : (ps : List Pair) (prior : Texts) (v : Wanted) → Bytes prior ps → Words ps → AllByRecursion AreWords (parts_made (map seen (inner ps)) v)
  parts_words ps prior (elements e) b w = each_words ps prior e b w
  parts_words ps prior (fields fs) b w = fields_words ps prior fs b w
  parts_words ps prior nothing b w = tt

  is_made : (x : Start) (m : Mode) (v : Written) → seen x ≡ v → AreWords (v.made m) → AreWords ((seen x).made m)
  is_made x m v e h = subst (λ (z : Written). AreWords (z.made m)) (sym e) h

  opened : (x : Start) (y : Start-F Pair) → out-Start x ≡ map-Start Pair Start (λ p. p.0) y → Worded x
  opened x (Start-F.Number sign n copied at) o prior m b w =
      is_made x m _ (written_at records names keys x (Start-F.Number sign n copied at) o)
      (a_number (word sign n) (signed sign n (below n (left_of (is_word n) (words_in_copies copied) (sym (words_at x (Start-F.Number sign n copied at) o) ∙ w)))))
  opened x (Start-F.Text bytes at) o prior m b w =
      let bs : AreBytes (prior ++ (at.item, bytes) ∷ []) = subst (λ (f : Finds). AreBytes (f prior)) (found_at x (Start-F.Text bytes at) o) b in
      is_made x m _ (written_at records names keys x (Start-F.Text bytes at) o)
      (text_words bytes (number_of keys at.item) (out-Mode m) (all_right (λ (s : ℕ × List ℕ). AllByRecursion IsByte s.1) prior ((at.item, bytes) ∷ []) bs).0)
  opened x (Start-F.Place i ss) o prior m b w = is_made x m _ (written_at records names keys x (Start-F.Place i ss) o) (place_words records ss _)
  opened x (Start-F.List ps copied at) o prior m b w =
      is_made x m _ (written_at records names keys x (Start-F.List (inner ps) copied at) o)
      (a_list _ (parts_words ps prior (wanted records (map (λ (v : Written). v.copies) (map seen (inner ps))) (out-Mode m))
      (subst (λ (f : Finds). AreBytes (f prior)) (found_at x (Start-F.List (inner ps) copied at) o) b)
      (left_of (all_so (map words_in_start (inner ps))) (words_in_copies copied) (sym (words_at x (Start-F.List (inner ps) copied at) o) ∙ w))))

  out_roll : (l : Start-F Start) → out-Start (roll-Start l) ≡ l
  out_roll l = search the_lemmas

  pub made_words : (x : Start) → Worded x
  made_words = ind-Start Worded (λ x y is. opened (roll-Start x) y (out_roll x ∙ sym is))
