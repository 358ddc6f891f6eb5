-- Data bricks with one full mode have the same items.
use Rattle.std.proofs.Common.{◌≡◌, ℕ, List, [], ◌∷◌, ◌++◌, codes, drop, map, refl, sym, ap, ◌∙◌}
use Rattle.std.specs.List.{AllByRecursion}
use Rattle.rt_modes.specs.declared.mode.Field.{Field}
use Rattle.rt_modes.specs.declared.mode.ModeTable.{ModeTable}
use Rattle.rt_modes.specs.FullMode.{Says, between_commas, field_words, fields_inside, data_words, spelled, reached_by, where_words, FullData}
use Rattle.rt_tree.specs.Opened.{IsTable, IsField, FieldsSame}
use Rattle.rt_tree_laws.proofs.Telling.{spelled_append}
use Rattle.rt_tree_laws.proofs.Opening.{AlikeWords, alike_joined}
use Rattle.rt_tree_laws.proofs.Defining.{FieldsAlike, inside_tells}
use Rattle.rt_tree_laws.proofs.Reaching.{between_alike, mentions_left, P, shared, first_fields}

-- the definitions behind the items
abbrev behind : ModeTable → List Field → List ℕ
behind t fs = spelled t (where_words t (reached_by t (data_words fs)))

data_split : (t : ModeTable) (fs : List Field) → FullData t fs ≡ codes "DATA(" ++ (spelled t (fields_inside fs) ++ behind t fs)
data_split t fs = ap (λ (z : List ℕ). codes "DATA(" ++ z) (spelled_append t (fields_inside fs) (where_words t (reached_by t (data_words fs))))

module _ (t u : ModeTable) (gt : IsTable t) (gu : IsTable u) where
  -- alike items make alike words
  data_alike : (fs gs : List Field) → FieldsAlike t u gt gu fs gs → AlikeWords t u gt gu (data_words fs) (data_words gs)
  data_alike fs gs h =
      (refl, alike_joined t u gt gu (between_commas (map field_words fs)) (between_commas (map field_words gs)) (Says (codes ")") ∷ []) (Says (codes ")") ∷ []) (between_alike t u gt gu fs gs h) (refl, tt))

  pub full_data_opens : (fs gs : List Field) → AllByRecursion (IsField t) fs → AllByRecursion (IsField u) gs → FullData t fs ≡ FullData u gs → FieldsSame t u fs gs
  full_data_opens fs gs hf hg e =
      let z = inside_tells t u gt gu fs gs (behind t fs) (behind u gs) hf hg (ap (λ (x : List ℕ). drop 5 x) (sym (data_split t fs) ∙ e ∙ data_split u gs)) in
      let s = shared t u gt gu (data_words fs) (data_words gs) (data_alike fs gs z.0) z.1 in
      first_fields t u gt gu (data_words fs) s fs gs z.0 (mentions_left (P t u gt gu (data_words fs) s) (between_commas (map field_words fs)) (Says (codes ")") ∷ []) s.inside)
