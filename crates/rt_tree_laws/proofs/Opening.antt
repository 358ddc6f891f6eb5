-- Texts of two modules that are equal say alike modes.
use Rattle.std.proofs.Common.{◌≡◌, ℕ, true, List, [], ◌∷◌, ◌++◌, drop, codes, decimal, map, Option, Some, None, option_map, append_assoc, refl, sym, ap, ◌∙◌, subst}
use Rattle.std.specs.Prelude.{slice_get}
use Rattle.std.proofs.lemmas.Fmt.{decimal_injective}
use Rattle.rt_modes.specs.declared.mode.Mode.{Mode, out-Mode, roll-Mode, map-Mode, the_lemmas}
use Rattle.rt_modes.specs.declared.mode.Mode.TheFolds.{ind-Mode, fold_out-Mode}
use Rattle.rt_modes.specs.declared.mode.Mode.TheOpen.{Mode-F}
use Rattle.rt_modes.specs.declared.mode.ModeTable.{ModeTable}
use Rattle.rt_modes.specs.declared.mode.RecordDef.{RecordDef}
use Rattle.rt_modes.specs.FullMode.{Word as TextWord, Says, Mentions, one_mode, mode_words, after_commas, between_commas, result_words, name_of, spelled}
use Rattle.rt_modes.specs.ModeWords.{word}
use Rattle.rt_tree.specs.FullModes.{MayStand}
use Rattle.rt_tree.specs.Opened.{IsTable}
use Rattle.rt_tree_laws.proofs.Words.{word_of, after_word, run_word, run_rest}
use Rattle.rt_tree_laws.proofs.Telling as tell
use Rattle.rt_tree_laws.proofs.Telling.{spelled_append, behind, starts_with, is_other, closes, closes_apart, layer_word}

module _ (t u : ModeTable) (gt : IsTable t) (gu : IsTable u) where
  abbrev pub InLeft : ℕ → Type 0
  InLeft k = (d : RecordDef) × (slice_get t.records k ≡ Some d)

  abbrev pub InRight : ℕ → Type 0
  InRight k = (d : RecordDef) × (slice_get u.records k ≡ Some d)

  -- two records of one name
  pub record Namesakes (k j : ℕ) : Type 0 where
    pub name : name_of t k ≡ name_of u j
    pub left : InLeft k
    pub right : InRight j

  -- words that say the same, but for the numbers of records
  abbrev pub AlikeWords : List TextWord → List TextWord → Type 0
  AlikeWords [] [] = Unit {0}
  AlikeWords (Says b ∷ ws) (Says d ∷ vs) = (b ≡ d) × AlikeWords ws vs
  AlikeWords (Mentions k ∷ ws) (Mentions j ∷ vs) = Namesakes k j × AlikeWords ws vs
  AlikeWords _ _ = ⊥

  pub alike_joined : (xs bs cs ds : List TextWord) → AlikeWords xs bs → AlikeWords cs ds → AlikeWords (xs ++ cs) (bs ++ ds)
  alike_joined [] [] cs ds h g = g
  alike_joined (Says b ∷ xs) (Says d ∷ bs) cs ds h g = (h.0, alike_joined xs bs cs ds h.1 g)
  alike_joined (Mentions k ∷ xs) (Mentions j ∷ bs) cs ds h g = (h.0, alike_joined xs bs cs ds h.1 g)
  alike_joined [] (w ∷ bs) cs ds h g = absurd h
  alike_joined (Says b ∷ xs) [] cs ds h g = absurd h
  alike_joined (Mentions k ∷ xs) [] cs ds h g = absurd h
  alike_joined (Says b ∷ xs) (Mentions j ∷ bs) cs ds h g = absurd h
  alike_joined (Mentions k ∷ xs) (Says d ∷ bs) cs ds h g = absurd h

  pub alike_spelled : (xs bs : List TextWord) → AlikeWords xs bs → spelled t xs ≡ spelled u bs
  alike_spelled [] [] h = refl
  alike_spelled (Says b ∷ xs) (Says d ∷ bs) h = ap (λ (z : List ℕ). z ++ spelled t xs) h.0 ∙ ap (λ (z : List ℕ). d ++ z) (alike_spelled xs bs h.1)
  alike_spelled (Mentions k ∷ xs) (Mentions j ∷ bs) h = ap (λ (z : List ℕ). z ++ spelled t xs) h.0.name ∙ ap (λ (z : List ℕ). name_of u j ++ z) (alike_spelled xs bs h.1)
  alike_spelled [] (w ∷ bs) h = absurd h
  alike_spelled (Says b ∷ xs) [] h = absurd h
  alike_spelled (Mentions k ∷ xs) [] h = absurd h
  alike_spelled (Says b ∷ xs) (Mentions j ∷ bs) h = absurd h
  alike_spelled (Mentions k ∷ xs) (Says d ∷ bs) h = absurd h

  abbrev textl : Mode → List ℕ
  textl m = spelled t (mode_words m)

  abbrev textr : Mode → List ℕ
  textr m = spelled u (mode_words m)

  words_at : (m : Mode) (l : Mode-F Mode) → out-Mode m ≡ l → mode_words m ≡ one_mode (map-Mode Mode (List TextWord) mode_words l)
  words_at m l o = rw (fold_out-Mode, o) refl

  -- ---- what is known of a mode

  abbrev pub EachAlike : List Mode → List Mode → Type 0
  EachAlike [] [] = Unit {0}
  EachAlike (m ∷ ms) (n ∷ ns) = AlikeWords (mode_words m) (mode_words n) × EachAlike ms ns
  EachAlike _ _ = ⊥

  abbrev pub AnyAlike : Option Mode → Option Mode → Type 0
  AnyAlike None None = Unit {0}
  AnyAlike (Some m) (Some n) = AlikeWords (mode_words m) (mode_words n)
  AnyAlike _ _ = ⊥

  -- one first level, and inside it alike words
  abbrev pub LevelAlike : Mode-F Mode → Mode-F Mode → Type 0
  LevelAlike Mode-F.Byte Mode-F.Byte = Unit {0}
  LevelAlike Mode-F.Int Mode-F.Int = Unit {0}
  LevelAlike Mode-F.Frac Mode-F.Frac = Unit {0}
  LevelAlike Mode-F.Label Mode-F.Label = Unit {0}
  LevelAlike (Mode-F.Ref m) (Mode-F.Ref n) = AlikeWords (mode_words m) (mode_words n)
  LevelAlike (Mode-F.RefArray m) (Mode-F.RefArray n) = AlikeWords (mode_words m) (mode_words n)
  LevelAlike (Mode-F.Array k m) (Mode-F.Array j n) = (k ≡ j) × AlikeWords (mode_words m) (mode_words n)
  LevelAlike (Mode-F.Record r) (Mode-F.Record q) = Namesakes r q
  LevelAlike (Mode-F.Proc ps r) (Mode-F.Proc qs q) = EachAlike ps qs × AnyAlike r q
  LevelAlike _ _ = ⊥

  abbrev pub Known : Mode → Type 0
  Known m = (n : Mode) (a b : List ℕ) → MayStand t m → MayStand u n → closes a ≡ true → closes b ≡ true → textl m ++ a ≡ textr n ++ b → AlikeWords (mode_words m) (mode_words n) × LevelAlike (out-Mode m) (out-Mode n) × (a ≡ b)

  abbrev Pair : Type 0
  Pair = (m : Mode) × Known m

  abbrev modes_of : List Pair → List Mode
  modes_of ps = map (λ (e : Pair). e.0) ps

  abbrev mode_if : Option Pair → Option Mode
  mode_if r = option_map (λ (e : Pair). e.0) r

  abbrev result_of : Option Mode → List TextWord
  result_of r = result_words (option_map mode_words r)

  results : (r : Option Pair) (q : Option Mode) (a b : List ℕ) → tell.IfPassed t gt.names gt.apart (mode_if r) → tell.IfPassed u gu.names gu.apart q → closes a ≡ true → closes b ≡ true
      → tell.rest t gt.names gt.apart [] (mode_if r) ++ a ≡ tell.rest u gu.names gu.apart [] q ++ b → AlikeWords (result_of (mode_if r)) (result_of q) × AnyAlike (mode_if r) q × (a ≡ b)
  results None None a b hr hq ca cb e = ((refl, tt), tt, behind 41 41 a b e)
  results None (Some q) a b hr hq ca cb e = absurd (tell.no_result u gu.names gu.apart q a b hq cb ca (behind 41 41 a (32 ∷ (textr q ++ b)) e))
  results (Some p) None a b hr hq ca cb e = absurd (tell.no_result t gt.names gt.apart p.0 b a hr ca cb (sym (behind 41 41 (32 ∷ (textl p.0 ++ a)) b e)))
  results (Some p) (Some q) a b hr hq ca cb e =
      let k = p.1 q a b (tell.passed_stands t gt.names gt.apart p.0 hr) (tell.passed_stands u gu.names gu.apart q hq) ca cb (ap (λ (z : List ℕ). drop 2 z) e) in
      ((refl, k.0), k.0, k.2)

  one_more : (p q : Mode) (ps qs rest rest2 : List TextWord) → AlikeWords (mode_words p) (mode_words q) → AlikeWords (ps ++ rest) (qs ++ rest2) → AlikeWords ((mode_words p ++ ps) ++ rest) ((mode_words q ++ qs) ++ rest2)
  one_more p q ps qs rest rest2 h g =
      subst (λ (z : List TextWord). AlikeWords z ((mode_words q ++ qs) ++ rest2)) (sym (append_assoc (mode_words p) ps rest))
      (subst (λ (z : List TextWord). AlikeWords (mode_words p ++ (ps ++ rest)) z) (sym (append_assoc (mode_words q) qs rest2)) (alike_joined (mode_words p) (mode_words q) (ps ++ rest) (qs ++ rest2) h g))

  rests : (ps : List Pair) (r : Option Pair) (qs : List Mode) (q : Option Mode) (a b : List ℕ) → tell.AllPassed t gt.names gt.apart (modes_of ps) → tell.AllPassed u gu.names gu.apart qs
      → tell.IfPassed t gt.names gt.apart (mode_if r) → tell.IfPassed u gu.names gu.apart q → closes a ≡ true → closes b ≡ true
      → tell.rest t gt.names gt.apart (modes_of ps) (mode_if r) ++ a ≡ tell.rest u gu.names gu.apart qs q ++ b
      → AlikeWords (after_commas (map mode_words (modes_of ps)) ++ result_of (mode_if r)) (after_commas (map mode_words qs) ++ result_of q) × EachAlike (modes_of ps) qs × AnyAlike (mode_if r) q × (a ≡ b)
  rests [] r [] q a b hp hs hr hq ca cb e = let k = results r q a b hr hq ca cb e in (k.0, tt, k.1, k.2)
  rests [] r (s ∷ qs) q a b hp hs hr hq ca cb e =
      absurd (tell.no_comma t gt.names gt.apart (mode_if r) a ((textr s ++ tell.rest u gu.names gu.apart qs q) ++ b) (e ∙ ap (λ (z : List ℕ). z ++ b) (tell.rest_more u gu.names gu.apart s qs q)))
  rests (p ∷ ps) r [] q a b hp hs hr hq ca cb e =
      absurd (tell.no_comma u gu.names gu.apart q b ((textl p.0 ++ tell.rest t gt.names gt.apart (modes_of ps) (mode_if r)) ++ a) (sym e ∙ ap (λ (z : List ℕ). z ++ a) (tell.rest_more t gt.names gt.apart p.0 (modes_of ps) (mode_if r))))
  rests (p ∷ ps) r (s ∷ qs) q a b hp hs hr hq ca cb e =
      let ms : List Mode = modes_of ps in
      let k : Option Mode = mode_if r in
      let lt : List ℕ = tell.rest t gt.names gt.apart ms k in
      let rt : List ℕ = tell.rest u gu.names gu.apart qs q in
      let both : 44 ∷ ((textl p.0 ++ lt) ++ a) ≡ 44 ∷ ((textr s ++ rt) ++ b) = sym (ap (λ (z : List ℕ). z ++ a) (tell.rest_more t gt.names gt.apart p.0 ms k)) ∙ e ∙ ap (λ (z : List ℕ). z ++ b) (tell.rest_more u gu.names gu.apart s qs q) in
      let flat : textl p.0 ++ (lt ++ a) ≡ textr s ++ (rt ++ b) = sym (append_assoc (textl p.0) lt a) ∙ behind 44 44 ((textl p.0 ++ lt) ++ a) ((textr s ++ rt) ++ b) both ∙ append_assoc (textr s) rt b in
      let first = p.1 s (lt ++ a) (rt ++ b) (tell.passed_stands t gt.names gt.apart p.0 hp.0) (tell.passed_stands u gu.names gu.apart s hs.0) (tell.rest_closes t gt.names gt.apart ms k a) (tell.rest_closes u gu.names gu.apart qs q b) flat in
      let others = rests ps r qs q a b hp.1 hs.1 hr hq ca cb first.2 in
      ((refl, one_more p.0 s (after_commas (map mode_words ms)) (after_commas (map mode_words qs)) (result_of k) (result_of q) first.0 others.0), (first.0, others.1), others.2, others.3)

  no_startr : (m : Mode) (r : Option Mode) (a w : List ℕ) → tell.Passed u gu.names gu.apart m → closes w ≡ true → tell.rest t gt.names gt.apart [] r ++ a ≡ textr m ++ w → ⊥
  unfolding word
  no_startr m None a w p c e = tell.no_record u gu.names gu.apart m (out-Mode m) refl p (sym (tell.first_word u gu.names gu.apart m w (tell.passed_stands u gu.names gu.apart m p) c) ∙ sym (ap (λ (z : List ℕ). word (word_of z)) e))
  no_startr m (Some r) a w p c e = tell.no_record u gu.names gu.apart m (out-Mode m) refl p (sym (tell.first_word u gu.names gu.apart m w (tell.passed_stands u gu.names gu.apart m p) c) ∙ sym (ap (λ (z : List ℕ). word (word_of z)) e))

  no_startl : (m : Mode) (r : Option Mode) (a w : List ℕ) → tell.Passed t gt.names gt.apart m → closes w ≡ true → tell.rest u gu.names gu.apart [] r ++ a ≡ textl m ++ w → ⊥
  unfolding word
  no_startl m None a w p c e = tell.no_record t gt.names gt.apart m (out-Mode m) refl p (sym (tell.first_word t gt.names gt.apart m w (tell.passed_stands t gt.names gt.apart m p) c) ∙ sym (ap (λ (z : List ℕ). word (word_of z)) e))
  no_startl m (Some r) a w p c e = tell.no_record t gt.names gt.apart m (out-Mode m) refl p (sym (tell.first_word t gt.names gt.apart m w (tell.passed_stands t gt.names gt.apart m p) c) ∙ sym (ap (λ (z : List ℕ). word (word_of z)) e))

  insides : (ps : List Pair) (r : Option Pair) (qs : List Mode) (q : Option Mode) (a b : List ℕ) → tell.AllPassed t gt.names gt.apart (modes_of ps) → tell.AllPassed u gu.names gu.apart qs
      → tell.IfPassed t gt.names gt.apart (mode_if r) → tell.IfPassed u gu.names gu.apart q → closes a ≡ true → closes b ≡ true
      → tell.inside t gt.names gt.apart (modes_of ps) (mode_if r) ++ a ≡ tell.inside u gu.names gu.apart qs q ++ b
      → AlikeWords (between_commas (map mode_words (modes_of ps)) ++ result_of (mode_if r)) (between_commas (map mode_words qs) ++ result_of q) × EachAlike (modes_of ps) qs × AnyAlike (mode_if r) q × (a ≡ b)
  insides [] r [] q a b hp hs hr hq ca cb e = let k = results r q a b hr hq ca cb e in (k.0, tt, k.1, k.2)
  insides [] r (s ∷ qs) q a b hp hs hr hq ca cb e =
      let rt : List ℕ = tell.rest u gu.names gu.apart qs q in
      absurd (no_startr s (mode_if r) a (rt ++ b) hs.0 (tell.rest_closes u gu.names gu.apart qs q b) (e ∙ ap (λ (z : List ℕ). z ++ b) (tell.inside_more u gu.names gu.apart s qs q) ∙ append_assoc (textr s) rt b))
  insides (p ∷ ps) r [] q a b hp hs hr hq ca cb e =
      let lt : List ℕ = tell.rest t gt.names gt.apart (modes_of ps) (mode_if r) in
      absurd (no_startl p.0 q b (lt ++ a) hp.0 (tell.rest_closes t gt.names gt.apart (modes_of ps) (mode_if r) a) (sym e ∙ ap (λ (z : List ℕ). z ++ a) (tell.inside_more t gt.names gt.apart p.0 (modes_of ps) (mode_if r)) ∙ append_assoc (textl p.0) lt a))
  insides (p ∷ ps) r (s ∷ qs) q a b hp hs hr hq ca cb e =
      let ms : List Mode = modes_of ps in
      let k : Option Mode = mode_if r in
      let lt : List ℕ = tell.rest t gt.names gt.apart ms k in
      let rt : List ℕ = tell.rest u gu.names gu.apart qs q in
      let flat : textl p.0 ++ (lt ++ a) ≡ textr s ++ (rt ++ b) =
      sym (ap (λ (z : List ℕ). z ++ a) (tell.inside_more t gt.names gt.apart p.0 ms k) ∙ append_assoc (textl p.0) lt a) ∙ e ∙ ap (λ (z : List ℕ). z ++ b) (tell.inside_more u gu.names gu.apart s qs q) ∙ append_assoc (textr s) rt b in
      let first = p.1 s (lt ++ a) (rt ++ b) (tell.passed_stands t gt.names gt.apart p.0 hp.0) (tell.passed_stands u gu.names gu.apart s hs.0) (tell.rest_closes t gt.names gt.apart ms k a) (tell.rest_closes u gu.names gu.apart qs q b) flat in
      let others = rests ps r qs q a b hp.1 hs.1 hr hq ca cb first.2 in
      (one_more p.0 s (after_commas (map mode_words ms)) (after_commas (map mode_words qs)) (result_of k) (result_of q) first.0 others.0, (first.0, others.1), others.2, others.3)

  -- words by their modes' first levels
  as_words : (m n : Mode) (l k : Mode-F Mode) → out-Mode m ≡ l → out-Mode n ≡ k → AlikeWords (one_mode (map-Mode Mode (List TextWord) mode_words l)) (one_mode (map-Mode Mode (List TextWord) mode_words k)) → AlikeWords (mode_words m) (mode_words n)
  as_words m n l k o p h =
      subst (λ (z : List TextWord). AlikeWords z (mode_words n)) (sym (words_at m l o)) (subst (λ (z : List TextWord). AlikeWords (one_mode (map-Mode Mode (List TextWord) mode_words l)) z) (sym (words_at n k p)) h)

  arrays : (m n : Mode) (p : Pair) (k : Mode) (i j : ℕ) (a b : List ℕ) → out-Mode m ≡ Mode-F.Array i p.0 → out-Mode n ≡ Mode-F.Array j k → MayStand t m → MayStand u n → closes a ≡ true → closes b ≡ true
      → (40 ∷ (decimal i ++ (41 ∷ 32 ∷ textl p.0))) ++ a ≡ (40 ∷ (decimal j ++ (41 ∷ 32 ∷ textr k))) ++ b → (i ≡ j) × AlikeWords (mode_words p.0) (mode_words k) × (a ≡ b)
  arrays m n p k i j a b o q sm sn ca cb e =
      let flat : decimal i ++ (41 ∷ 32 ∷ (textl p.0 ++ a)) ≡ decimal j ++ (41 ∷ 32 ∷ (textr k ++ b)) =
      sym (append_assoc (decimal i) (41 ∷ 32 ∷ textl p.0) a) ∙ behind 40 40 ((decimal i ++ (41 ∷ 32 ∷ textl p.0)) ++ a) ((decimal j ++ (41 ∷ 32 ∷ textr k)) ++ b) e ∙ append_assoc (decimal j) (41 ∷ 32 ∷ textr k) b in
      let left = tell.numbers_apart t gt.names gt.apart m p.0 i (32 ∷ (textl p.0 ++ a)) o sm in
      let right = tell.numbers_apart u gu.names gu.apart n k j (32 ∷ (textr k ++ b)) q sn in
      let count : i ≡ j = decimal_injective i j (tell.array_length t gt.names gt.apart m p.0 i o sm) (tell.array_length u gu.names gu.apart n k j q sn) (sym left.0 ∙ ap word_of flat ∙ right.0) in
      let behind_it : 41 ∷ 32 ∷ (textl p.0 ++ a) ≡ 41 ∷ 32 ∷ (textr k ++ b) = sym left.1 ∙ ap after_word flat ∙ right.1 in
      let of = p.1 k a b (tell.array_stands t gt.names gt.apart m p.0 i o sm) (tell.array_stands u gu.names gu.apart n k j q sn) ca cb (ap (λ (z : List ℕ). drop 2 z) behind_it) in
      (count, of.0, of.2)

  -- REF is no REF ARRAY
  no_rowl : (m k : Mode) (a w : List ℕ) → out-Mode m ≡ Mode-F.Ref k → MayStand t m → closes a ≡ true → textl k ++ a ≡ codes "ARRAY" ++ (32 ∷ w) → ⊥
  no_rowl m k a w o s c e = tell.no_row t gt.names gt.apart m k a w o s c e

  no_rowr : (m k : Mode) (a w : List ℕ) → out-Mode m ≡ Mode-F.Ref k → MayStand u m → closes a ≡ true → textr k ++ a ≡ codes "ARRAY" ++ (32 ∷ w) → ⊥
  no_rowr m k a w o s c e = tell.no_row u gu.names gu.apart m k a w o s c e

  abbrev headl : Mode-F Mode → List ℕ
  headl l = tell.head t gt.names gt.apart l

  abbrev headr : Mode-F Mode → List ℕ
  headr l = tell.head u gu.names gu.apart l

  abbrev taill : Mode-F Mode → List ℕ
  taill l = tell.tail t gt.names gt.apart l

  abbrev tailr : Mode-F Mode → List ℕ
  tailr l = tell.tail u gu.names gu.apart l

  as_level : (m n : Mode) (l k : Mode-F Mode) → out-Mode m ≡ l → out-Mode n ≡ k → LevelAlike l k → LevelAlike (out-Mode m) (out-Mode n)
  as_level m n l k o p h = subst (λ (z : Mode-F Mode). LevelAlike z (out-Mode n)) (sym o) (subst (λ (z : Mode-F Mode). LevelAlike l z) (sym p) h)

  paired : (m n : Mode) (y : Mode-F Pair) (l : Mode-F Mode) (a b : List ℕ) → out-Mode m ≡ map-Mode Pair Mode (λ e. e.0) y → out-Mode n ≡ l → MayStand t m → MayStand u n → closes a ≡ true → closes b ≡ true
      → layer_word (map-Mode Pair Mode (λ e. e.0) y) ≡ layer_word l → headl (map-Mode Pair Mode (λ e. e.0) y) ≡ headr l → taill (map-Mode Pair Mode (λ e. e.0) y) ++ a ≡ tailr l ++ b → AlikeWords (mode_words m) (mode_words n) × LevelAlike (out-Mode m) (out-Mode n) × (a ≡ b)
  paired m n Mode-F.Byte Mode-F.Byte a b o p sm sn ca cb w h e = (as_words m n Mode-F.Byte Mode-F.Byte o p (refl, tt), as_level m n Mode-F.Byte Mode-F.Byte o p tt, e)
  paired m n Mode-F.Byte _ a b o p sm sn ca cb w h e = absurd cc
  paired m n Mode-F.Int Mode-F.Int a b o p sm sn ca cb w h e = (as_words m n Mode-F.Int Mode-F.Int o p (refl, tt), as_level m n Mode-F.Int Mode-F.Int o p tt, e)
  paired m n Mode-F.Int _ a b o p sm sn ca cb w h e = absurd cc
  paired m n Mode-F.Frac Mode-F.Frac a b o p sm sn ca cb w h e = (as_words m n Mode-F.Frac Mode-F.Frac o p (refl, tt), as_level m n Mode-F.Frac Mode-F.Frac o p tt, e)
  paired m n Mode-F.Frac _ a b o p sm sn ca cb w h e = absurd cc
  paired m n Mode-F.Label Mode-F.Label a b o p sm sn ca cb w h e = (as_words m n Mode-F.Label Mode-F.Label o p (refl, tt), as_level m n Mode-F.Label Mode-F.Label o p tt, e)
  paired m n Mode-F.Label _ a b o p sm sn ca cb w h e = absurd cc
  paired m n (Mode-F.Ref k) (Mode-F.Ref j) a b o p sm sn ca cb w h e =
      let z = k.1 j a b (tell.ref_stands t gt.names gt.apart m k.0 o sm) (tell.ref_stands u gu.names gu.apart n j p sn) ca cb (behind 32 32 (textl k.0 ++ a) (textr j ++ b) e) in
      (as_words m n (Mode-F.Ref k.0) (Mode-F.Ref j) o p (refl, z.0), as_level m n (Mode-F.Ref k.0) (Mode-F.Ref j) o p z.0, z.2)
  paired m n (Mode-F.Ref k) (Mode-F.RefArray j) a b o p sm sn ca cb w h e = absurd (no_rowl m k.0 a (textr j ++ b) o sm ca (ap (λ (z : List ℕ). drop 1 z) e))
  paired m n (Mode-F.Ref k) _ a b o p sm sn ca cb w h e = absurd cc
  paired m n (Mode-F.RefArray k) (Mode-F.RefArray j) a b o p sm sn ca cb w h e =
      let z = k.1 j a b (tell.row_stands t gt.names gt.apart m k.0 o sm) (tell.row_stands u gu.names gu.apart n j p sn) ca cb (ap (λ (x : List ℕ). drop 7 x) e) in
      (as_words m n (Mode-F.RefArray k.0) (Mode-F.RefArray j) o p (refl, z.0), as_level m n (Mode-F.RefArray k.0) (Mode-F.RefArray j) o p z.0, z.2)
  paired m n (Mode-F.RefArray k) (Mode-F.Ref j) a b o p sm sn ca cb w h e = absurd (no_rowr n j b (textl k.0 ++ a) p sn cb (sym (ap (λ (z : List ℕ). drop 1 z) e)))
  paired m n (Mode-F.RefArray k) _ a b o p sm sn ca cb w h e = absurd cc
  paired m n (Mode-F.Array i k) (Mode-F.Array j q) a b o p sm sn ca cb w h e =
      let z = arrays m n k q i j a b o p sm sn ca cb e in
      (as_words m n (Mode-F.Array i k.0) (Mode-F.Array j q) o p (ap (λ (x : ℕ). codes "ARRAY(" ++ decimal x ++ codes ") ") z.0, z.1), as_level m n (Mode-F.Array i k.0) (Mode-F.Array j q) o p (z.0, z.1), z.2)
  paired m n (Mode-F.Array i k) _ a b o p sm sn ca cb w h e = absurd cc
  paired m n (Mode-F.Record i) (Mode-F.Record j) a b o p sm sn ca cb w h e =
      let s : Namesakes i j = record { name = h; left = tell.in_table t gt.names gt.apart m (Mode-F.Record i) sm o; right = tell.in_table u gu.names gu.apart n (Mode-F.Record j) sn p } in
      (as_words m n (Mode-F.Record i) (Mode-F.Record j) o p (s, tt), as_level m n (Mode-F.Record i) (Mode-F.Record j) o p s, e)
  paired m n (Mode-F.Record i) _ a b o p sm sn ca cb w h e = absurd cc
  paired m n (Mode-F.Proc ps None) (Mode-F.Proc qs None) a b o p sm sn ca cb w h e =
      let z = insides ps None qs None a b (tell.parameters_passed t gt.names gt.apart m (modes_of ps) None sm o) (tell.parameters_passed u gu.names gu.apart n qs None sn p) tt tt ca cb (ap (λ (x : List ℕ). drop 1 x) e) in
      (as_words m n (Mode-F.Proc (modes_of ps) None) (Mode-F.Proc qs None) o p (refl, z.0), as_level m n (Mode-F.Proc (modes_of ps) None) (Mode-F.Proc qs None) o p (z.1, z.2), z.3)
  paired m n (Mode-F.Proc ps None) (Mode-F.Proc qs (Some q)) a b o p sm sn ca cb w h e =
      let z = insides ps None qs (Some q) a b (tell.parameters_passed t gt.names gt.apart m (modes_of ps) None sm o) (tell.parameters_passed u gu.names gu.apart n qs (Some q) sn p) tt (tell.result_is_passed u gu.names gu.apart n qs (Some q) sn p) ca cb (ap (λ (x : List ℕ). drop 1 x) e) in
      (as_words m n (Mode-F.Proc (modes_of ps) None) (Mode-F.Proc qs (Some q)) o p (refl, z.0), as_level m n (Mode-F.Proc (modes_of ps) None) (Mode-F.Proc qs (Some q)) o p (z.1, z.2), z.3)
  paired m n (Mode-F.Proc ps None) _ a b o p sm sn ca cb w h e = absurd cc
  paired m n (Mode-F.Proc ps (Some r)) (Mode-F.Proc qs None) a b o p sm sn ca cb w h e =
      let z = insides ps (Some r) qs None a b (tell.parameters_passed t gt.names gt.apart m (modes_of ps) (Some r.0) sm o) (tell.parameters_passed u gu.names gu.apart n qs None sn p) (tell.result_is_passed t gt.names gt.apart m (modes_of ps) (Some r.0) sm o) tt ca cb (ap (λ (x : List ℕ). drop 1 x) e) in
      (as_words m n (Mode-F.Proc (modes_of ps) (Some r.0)) (Mode-F.Proc qs None) o p (refl, z.0), as_level m n (Mode-F.Proc (modes_of ps) (Some r.0)) (Mode-F.Proc qs None) o p (z.1, z.2), z.3)
  paired m n (Mode-F.Proc ps (Some r)) (Mode-F.Proc qs (Some q)) a b o p sm sn ca cb w h e =
      let z = insides ps (Some r) qs (Some q) a b (tell.parameters_passed t gt.names gt.apart m (modes_of ps) (Some r.0) sm o) (tell.parameters_passed u gu.names gu.apart n qs (Some q) sn p) (tell.result_is_passed t gt.names gt.apart m (modes_of ps) (Some r.0) sm o) (tell.result_is_passed u gu.names gu.apart n qs (Some q) sn p) ca cb (ap (λ (x : List ℕ). drop 1 x) e) in
      (as_words m n (Mode-F.Proc (modes_of ps) (Some r.0)) (Mode-F.Proc qs (Some q)) o p (refl, z.0), as_level m n (Mode-F.Proc (modes_of ps) (Some r.0)) (Mode-F.Proc qs (Some q)) o p (z.1, z.2), z.3)
  paired m n (Mode-F.Proc ps (Some r)) _ a b o p sm sn ca cb w h e = absurd cc

  opened : (m : Mode) (y : Mode-F Pair) → out-Mode m ≡ map-Mode Pair Mode (λ e. e.0) y → Known m
  opened m y o n a b sm sn ca cb e =
      let l : Mode-F Mode = map-Mode Pair Mode (λ (e : Pair). e.0) y in
      let k : Mode-F Mode = out-Mode n in
      let il = tell.in_table t gt.names gt.apart m l sm o in
      let ik = tell.in_table u gu.names gu.apart n k sn refl in
      let s : headl l ++ (taill l ++ a) ≡ headr k ++ (tailr k ++ b) = sym (tell.split t gt.names gt.apart m l a o) ∙ e ∙ tell.split u gu.names gu.apart n k b refl in
      let hl = tell.head_run t gt.names gt.apart l il in
      let hk = tell.head_run u gu.names gu.apart k ik in
      let al = tell.tail_apart t gt.names gt.apart l a ca in
      let ak = tell.tail_apart u gu.names gu.apart k b cb in
      let h : headl l ≡ headr k = sym (run_word (headl l) (taill l ++ a) hl al) ∙ ap word_of s ∙ run_word (headr k) (tailr k ++ b) hk ak in
      let r : taill l ++ a ≡ tailr k ++ b = sym (run_rest (headl l) (taill l ++ a) hl al) ∙ ap after_word s ∙ run_rest (headr k) (tailr k ++ b) hk ak in
      paired m n y k a b o refl sm sn ca cb (sym (tell.head_word t gt.names gt.apart l il) ∙ ap word h ∙ tell.head_word u gu.names gu.apart k ik) h r

  out_roll : (l : Mode-F Mode) → out-Mode (roll-Mode l) ≡ l
  out_roll l = search the_lemmas

  pub known : (m : Mode) → Known m
  known = ind-Mode Known (λ x y is. opened (roll-Mode x) y (out_roll x ∙ sym is))
