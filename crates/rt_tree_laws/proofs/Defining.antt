-- Equal full modes of two modules define alike records.
use Rattle.std.proofs.Common.{◌≡◌, ◌≢◌, ℕ, true, false, List, [], ◌∷◌, ◌++◌, drop, codes, map, Option, append_assoc, refl, sym, ap, ◌∙◌, subst}
use Rattle.std.specs.List.{AllByRecursion}
use Rattle.rt_modes.specs.declared.mode.Field.{Field}
use Rattle.rt_modes.specs.declared.mode.Mode.{Mode, out-Mode}
use Rattle.rt_modes.specs.declared.mode.Mode.TheOpen.{Mode-F}
use Rattle.rt_modes.specs.declared.mode.ModeTable.{ModeTable}
use Rattle.rt_modes.specs.declared.mode.RecordDef.{RecordDef}
use Rattle.rt_modes.specs.FullMode.{Word as TextWord, Says, mode_words, after_commas, field_words, fields_inside, name_of, fields_of, name_in, fields_in, spelled, where_words, definition}
use Rattle.rt_modes.specs.ModeWords.{is_word_byte, is_word, Word, word}
use Rattle.rt_tree.specs.FullModes.{MayStand}
use Rattle.rt_modes.specs.ModeWords as words
use Rattle.rt_tree.specs.Opened.{IsField, IsTable}
use Rattle.rt_tree_laws.proofs.Words.{word_of, after_word, starts_apart, run_word, run_rest}
use Rattle.rt_tree_laws.proofs.Telling as tell
use Rattle.rt_tree_laws.proofs.Telling.{spelled_append, behind, starts_with, is_other, closes}
use Rattle.rt_tree_laws.proofs.Opening.{InLeft, InRight, AlikeWords, known}

-- ---- the texts of fields and definitions, in one table

module _ (t : ModeTable) where
  abbrev pub rest_words : List Field → List TextWord
  rest_words fs = after_commas (map field_words fs) ++ Says (codes ")") ∷ []

  abbrev pub rest_text : List Field → List ℕ
  rest_text fs = spelled t (rest_words fs)

  field_text : (f : Field) (ws : List TextWord) → spelled t (field_words f ++ ws) ≡ spelled t (mode_words f.mode) ++ (32 ∷ (f.name ++ spelled t ws))
  field_text f ws = ap (spelled t) (append_assoc (mode_words f.mode) (Says (32 ∷ f.name) ∷ []) ws) ∙ spelled_append t (mode_words f.mode) (Says (32 ∷ f.name) ∷ ws)

  pub rest_more : (f : Field) (fs : List Field) → rest_text (f ∷ fs) ≡ 44 ∷ (spelled t (mode_words f.mode) ++ (32 ∷ (f.name ++ rest_text fs)))
  rest_more f fs =
      ap (λ (z : List ℕ). 44 ∷ z) (ap (spelled t) (append_assoc (field_words f) (after_commas (map field_words fs)) (Says (codes ")") ∷ [])) ∙ field_text f (rest_words fs))

  pub inside_more : (f : Field) (fs : List Field) → spelled t (fields_inside (f ∷ fs)) ≡ spelled t (mode_words f.mode) ++ (32 ∷ (f.name ++ rest_text fs))
  inside_more f fs = ap (spelled t) (append_assoc (field_words f) (after_commas (map field_words fs)) (Says (codes ")") ∷ [])) ∙ field_text f (rest_words fs)

  pub rest_apart : (fs : List Field) (a : List ℕ) → starts_apart (rest_text fs ++ a) ≡ true
  rest_apart [] a = refl
  rest_apart (f ∷ fs) a = ap (λ (z : List ℕ). starts_apart (z ++ a)) (rest_more f fs)

  abbrev pub more_definitions : List ℕ → List ℕ
  more_definitions ks = spelled t (after_commas (map (definition t) ks))

  pub definition_text : (k : ℕ) (ws : List TextWord) → spelled t (definition t k ++ ws) ≡ name_of t k ++ (40 ∷ (spelled t (fields_inside (fields_of t k)) ++ spelled t ws))
  definition_text k ws = append_assoc (name_of t k) (40 ∷ []) (spelled t (fields_inside (fields_of t k) ++ ws)) ∙ ap (λ (z : List ℕ). name_of t k ++ (40 ∷ z)) (spelled_append t (fields_inside (fields_of t k)) ws)

-- ---- two tables

name_closes : (name z : List ℕ) → is_word name ≡ true → word name ≡ words.Other → starts_apart z ≡ true → closes (32 ∷ (name ++ z)) ≡ true
name_closes name z w o a = ap (λ (x : List ℕ). is_other (word x)) (run_word name z w a) ∙ ap is_other o

module _ (t u : ModeTable) (gt : IsTable t) (gu : IsTable u) where
  abbrev pub FieldsAlike : List Field → List Field → Type 0
  FieldsAlike [] [] = Unit {0}
  FieldsAlike (f ∷ fs) (g ∷ gs) = (f.name ≡ g.name) × AlikeWords t u gt gu (mode_words f.mode) (mode_words g.mode) × FieldsAlike fs gs
  FieldsAlike _ _ = ⊥

  -- one field, and what is behind it
  field_tells : (f g : Field) (a b : List ℕ) → IsField t f → IsField u g → starts_apart a ≡ true → starts_apart b ≡ true
      → spelled t (mode_words f.mode) ++ (32 ∷ (f.name ++ a)) ≡ spelled u (mode_words g.mode) ++ (32 ∷ (g.name ++ b)) → (f.name ≡ g.name) × AlikeWords t u gt gu (mode_words f.mode) (mode_words g.mode) × (a ≡ b)
  field_tells f g a b hf hg aa ab e =
      let z = known t u gt gu f.mode g.mode (32 ∷ (f.name ++ a)) (32 ∷ (g.name ++ b)) hf.stands hg.stands (name_closes f.name a hf.is_name hf.other aa) (name_closes g.name b hg.is_name hg.other ab) e in
      let n : f.name ++ a ≡ g.name ++ b = behind 32 32 (f.name ++ a) (g.name ++ b) z.2 in
      (sym (run_word f.name a hf.is_name aa) ∙ ap word_of n ∙ run_word g.name b hg.is_name ab, z.0, sym (run_rest f.name a hf.is_name aa) ∙ ap after_word n ∙ run_rest g.name b hg.is_name ab)

  rest_tells : (fs gs : List Field) (a b : List ℕ) → AllByRecursion (IsField t) fs → AllByRecursion (IsField u) gs → rest_text t fs ++ a ≡ rest_text u gs ++ b → FieldsAlike fs gs × (a ≡ b)
  rest_tells [] [] a b hf hg e = (tt, behind 41 41 a b e)
  rest_tells [] (g ∷ gs) a b hf hg e = absurd (let bad : false ≡ true = ap (starts_with 44) (e ∙ ap (λ (z : List ℕ). z ++ b) (rest_more u g gs)) in cc)
  rest_tells (f ∷ fs) [] a b hf hg e = absurd (let bad : true ≡ false = ap (starts_with 44) (sym (ap (λ (z : List ℕ). z ++ a) (rest_more t f fs)) ∙ e) in cc)
  rest_tells (f ∷ fs) (g ∷ gs) a b hf hg e =
      let lt : List ℕ = spelled t (mode_words f.mode) in
      let lu : List ℕ = spelled u (mode_words g.mode) in
      let both : 44 ∷ ((lt ++ (32 ∷ (f.name ++ rest_text t fs))) ++ a) ≡ 44 ∷ ((lu ++ (32 ∷ (g.name ++ rest_text u gs))) ++ b) = sym (ap (λ (z : List ℕ). z ++ a) (rest_more t f fs)) ∙ e ∙ ap (λ (z : List ℕ). z ++ b) (rest_more u g gs) in
      let flat : lt ++ (32 ∷ (f.name ++ (rest_text t fs ++ a))) ≡ lu ++ (32 ∷ (g.name ++ (rest_text u gs ++ b))) =
      sym (append_assoc lt (32 ∷ (f.name ++ rest_text t fs)) a ∙ ap (λ (z : List ℕ). lt ++ (32 ∷ z)) (append_assoc f.name (rest_text t fs) a))
      ∙ behind 44 44 ((lt ++ (32 ∷ (f.name ++ rest_text t fs))) ++ a) ((lu ++ (32 ∷ (g.name ++ rest_text u gs))) ++ b) both
      ∙ append_assoc lu (32 ∷ (g.name ++ rest_text u gs)) b ∙ ap (λ (z : List ℕ). lu ++ (32 ∷ z)) (append_assoc g.name (rest_text u gs) b) in
      let one = field_tells f g (rest_text t fs ++ a) (rest_text u gs ++ b) hf.0 hg.0 (rest_apart t fs a) (rest_apart u gs b) flat in
      let go = rest_tells fs gs a b hf.1 hg.1 one.2 in
      ((one.0, one.1, go.0), go.1)

  some_headl : (l : Mode-F Mode) → tell.InTable t gt.names gt.apart l → tell.head t gt.names gt.apart l ≢ []
  some_headl (Mode-F.Record r) h e = gt.some r h.0 h.1 (sym (ap name_in h.1) ∙ e)
  some_headl Mode-F.Byte h e = cc
  some_headl Mode-F.Int h e = cc
  some_headl Mode-F.Frac h e = cc
  some_headl Mode-F.Label h e = cc
  some_headl (Mode-F.Ref m) h e = cc
  some_headl (Mode-F.RefArray m) h e = cc
  some_headl (Mode-F.Array n m) h e = cc
  some_headl (Mode-F.Proc ps r) h e = cc

  some_headr : (l : Mode-F Mode) → tell.InTable u gu.names gu.apart l → tell.head u gu.names gu.apart l ≢ []
  some_headr (Mode-F.Record r) h e = gu.some r h.0 h.1 (sym (ap name_in h.1) ∙ e)
  some_headr Mode-F.Byte h e = cc
  some_headr Mode-F.Int h e = cc
  some_headr Mode-F.Frac h e = cc
  some_headr Mode-F.Label h e = cc
  some_headr (Mode-F.Ref m) h e = cc
  some_headr (Mode-F.RefArray m) h e = cc
  some_headr (Mode-F.Array n m) h e = cc
  some_headr (Mode-F.Proc ps r) h e = cc

  -- a mode's text begins with a word that isn't empty
  no_model : (m : Mode) (a b : List ℕ) → MayStand t m → closes a ≡ true → spelled t (mode_words m) ++ a ≡ 41 ∷ b → ⊥
  no_model m a b s c e =
      let i = tell.in_table t gt.names gt.apart m (out-Mode m) s refl in
      some_headl (out-Mode m) i
      (sym (run_word (tell.head t gt.names gt.apart (out-Mode m)) (tell.tail t gt.names gt.apart (out-Mode m) ++ a) (tell.head_run t gt.names gt.apart (out-Mode m) i) (tell.tail_apart t gt.names gt.apart (out-Mode m) a c))
      ∙ ap word_of (sym (tell.split t gt.names gt.apart m (out-Mode m) a refl) ∙ e))

  no_moder : (m : Mode) (a b : List ℕ) → MayStand u m → closes a ≡ true → spelled u (mode_words m) ++ a ≡ 41 ∷ b → ⊥
  no_moder m a b s c e =
      let i = tell.in_table u gu.names gu.apart m (out-Mode m) s refl in
      some_headr (out-Mode m) i
      (sym (run_word (tell.head u gu.names gu.apart (out-Mode m)) (tell.tail u gu.names gu.apart (out-Mode m) ++ a) (tell.head_run u gu.names gu.apart (out-Mode m) i) (tell.tail_apart u gu.names gu.apart (out-Mode m) a c))
      ∙ ap word_of (sym (tell.split u gu.names gu.apart m (out-Mode m) a refl) ∙ e))

  pub inside_tells : (fs gs : List Field) (a b : List ℕ) → AllByRecursion (IsField t) fs → AllByRecursion (IsField u) gs → spelled t (fields_inside fs) ++ a ≡ spelled u (fields_inside gs) ++ b → FieldsAlike fs gs × (a ≡ b)
  inside_tells [] [] a b hf hg e = (tt, behind 41 41 a b e)
  inside_tells [] (g ∷ gs) a b hf hg e =
      let lu : List ℕ = spelled u (mode_words g.mode) in
      absurd (no_moder g.mode (32 ∷ (g.name ++ (rest_text u gs ++ b))) a hg.0.stands (name_closes g.name (rest_text u gs ++ b) hg.0.is_name hg.0.other (rest_apart u gs b))
      (sym (e ∙ ap (λ (z : List ℕ). z ++ b) (inside_more u g gs) ∙ append_assoc lu (32 ∷ (g.name ++ rest_text u gs)) b ∙ ap (λ (z : List ℕ). lu ++ (32 ∷ z)) (append_assoc g.name (rest_text u gs) b))))
  inside_tells (f ∷ fs) [] a b hf hg e =
      let lt : List ℕ = spelled t (mode_words f.mode) in
      absurd (no_model f.mode (32 ∷ (f.name ++ (rest_text t fs ++ a))) b hf.0.stands (name_closes f.name (rest_text t fs ++ a) hf.0.is_name hf.0.other (rest_apart t fs a))
      (sym (ap (λ (z : List ℕ). z ++ a) (inside_more t f fs) ∙ append_assoc lt (32 ∷ (f.name ++ rest_text t fs)) a ∙ ap (λ (z : List ℕ). lt ++ (32 ∷ z)) (append_assoc f.name (rest_text t fs) a)) ∙ e))
  inside_tells (f ∷ fs) (g ∷ gs) a b hf hg e =
      let lt : List ℕ = spelled t (mode_words f.mode) in
      let lu : List ℕ = spelled u (mode_words g.mode) in
      let flat : lt ++ (32 ∷ (f.name ++ (rest_text t fs ++ a))) ≡ lu ++ (32 ∷ (g.name ++ (rest_text u gs ++ b))) =
      sym (ap (λ (z : List ℕ). z ++ a) (inside_more t f fs) ∙ append_assoc lt (32 ∷ (f.name ++ rest_text t fs)) a ∙ ap (λ (z : List ℕ). lt ++ (32 ∷ z)) (append_assoc f.name (rest_text t fs) a))
      ∙ e ∙ ap (λ (z : List ℕ). z ++ b) (inside_more u g gs) ∙ append_assoc lu (32 ∷ (g.name ++ rest_text u gs)) b ∙ ap (λ (z : List ℕ). lu ++ (32 ∷ z)) (append_assoc g.name (rest_text u gs) b) in
      let one = field_tells f g (rest_text t fs ++ a) (rest_text u gs ++ b) hf.0 hg.0 (rest_apart t fs a) (rest_apart u gs b) flat in
      let go = rest_tells fs gs a b hf.1 hg.1 one.2 in
      ((one.0, one.1, go.0), go.1)

  -- ---- definitions

  abbrev pub DefinedAlike : ℕ → ℕ → Type 0
  DefinedAlike k j = (name_of t k ≡ name_of u j) × FieldsAlike (fields_of t k) (fields_of u j)

  abbrev pub AllAlike : List ℕ → List ℕ → Type 0
  AllAlike [] [] = Unit {0}
  AllAlike (k ∷ ks) (j ∷ js) = DefinedAlike k j × AllAlike ks js
  AllAlike _ _ = ⊥

  fields_left : (k : ℕ) → InLeft t u gt gu k → AllByRecursion (IsField t) (fields_of t k)
  fields_left k h = subst (λ (o : Option RecordDef). AllByRecursion (IsField t) (fields_in o)) (sym h.1) (gt.fields k h.0 h.1)

  fields_right : (k : ℕ) → InRight t u gt gu k → AllByRecursion (IsField u) (fields_of u k)
  fields_right k h = subst (λ (o : Option RecordDef). AllByRecursion (IsField u) (fields_in o)) (sym h.1) (gu.fields k h.0 h.1)

  name_left : (k : ℕ) → InLeft t u gt gu k → is_word (name_of t k) ≡ true
  name_left k h = ap (λ (o : Option RecordDef). is_word (name_in o)) h.1 ∙ (gt.names k h.0 h.1).0

  name_right : (k : ℕ) → InRight t u gt gu k → is_word (name_of u k) ≡ true
  name_right k h = ap (λ (o : Option RecordDef). is_word (name_in o)) h.1 ∙ (gu.names k h.0 h.1).0

  definition_tells : (k j : ℕ) (ws vs : List TextWord) → InLeft t u gt gu k → InRight t u gt gu j → spelled t (definition t k ++ ws) ≡ spelled u (definition u j ++ vs) → DefinedAlike k j × (spelled t ws ≡ spelled u vs)
  definition_tells k j ws vs hk hj e =
      let a : List ℕ = spelled t (fields_inside (fields_of t k)) ++ spelled t ws in
      let b : List ℕ = spelled u (fields_inside (fields_of u j)) ++ spelled u vs in
      let s : name_of t k ++ (40 ∷ a) ≡ name_of u j ++ (40 ∷ b) = sym (definition_text t k ws) ∙ e ∙ definition_text u j vs in
      let name : name_of t k ≡ name_of u j = sym (run_word (name_of t k) (40 ∷ a) (name_left k hk) refl) ∙ ap word_of s ∙ run_word (name_of u j) (40 ∷ b) (name_right j hj) refl in
      let rest : 40 ∷ a ≡ 40 ∷ b = sym (run_rest (name_of t k) (40 ∷ a) (name_left k hk) refl) ∙ ap after_word s ∙ run_rest (name_of u j) (40 ∷ b) (name_right j hj) refl in
      let z = inside_tells (fields_of t k) (fields_of u j) (spelled t ws) (spelled u vs) (fields_left k hk) (fields_right j hj) (behind 40 40 a b rest) in
      ((name, z.0), z.1)

  more_tell : (ks js : List ℕ) → AllByRecursion (InLeft t u gt gu) ks → AllByRecursion (InRight t u gt gu) js → more_definitions t ks ≡ more_definitions u js → AllAlike ks js
  more_tell [] [] hk hj e = tt
  more_tell [] (j ∷ js) hk hj e = absurd (let bad : false ≡ true = ap (starts_with 44) e in cc)
  more_tell (k ∷ ks) [] hk hj e = absurd (let bad : true ≡ false = ap (starts_with 44) e in cc)
  more_tell (k ∷ ks) (j ∷ js) hk hj e =
      let z = definition_tells k j (after_commas (map (definition t) ks)) (after_commas (map (definition u) js)) hk.0 hj.0 (ap (λ (x : List ℕ). drop 1 x) e) in
      (z.0, more_tell ks js hk.1 hj.1 z.1)

  pub where_tells : (ks js : List ℕ) → AllByRecursion (InLeft t u gt gu) ks → AllByRecursion (InRight t u gt gu) js → spelled t (where_words t ks) ≡ spelled u (where_words u js) → AllAlike ks js
  where_tells [] [] hk hj e = tt
  where_tells [] (j ∷ js) hk hj e = absurd (let bad : false ≡ true = ap (starts_with 32) e in cc)
  where_tells (k ∷ ks) [] hk hj e = absurd (let bad : true ≡ false = ap (starts_with 32) e in cc)
  where_tells (k ∷ ks) (j ∷ js) hk hj e =
      let z = definition_tells k j (after_commas (map (definition t) ks)) (after_commas (map (definition u) js)) hk.0 hj.0 (ap (λ (x : List ℕ). drop 7 x) e) in
      (z.0, more_tell ks js hk.1 hj.1 z.1)
