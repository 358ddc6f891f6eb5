-- The line of fields mode by mode and the one name by name say the same.
use Rattle.std.proofs.Common.{◌≡◌, List, [], ◌∷◌, Option, Some, None, ◌⊎◌, inl, inr, refl, sym, ap, subst, ◌∙◌}
use Rattle.rt_pieces.specs.declared.item.Item.{Item}
use Rattle.rt_pieces.specs.declared.item.Mark.TheVariants as m
use Rattle.rt_grammar.specs.declared.at.At.{At}
use Rattle.rt_grammar.specs.declared.at.Ident.{Ident}
use Rattle.rt_grammar.specs.Parts.{Part, Turns, stop, turn, BeginsTurns, begun, turned, at_of, push}
use Rattle.rt_grammar.specs.Parts as part
use Rattle.rt_syntax_exprs.specs.declared.limits.Context.{Context}
use Rattle.rt_syntax_exprs.specs.declared.tree.WrittenMode.{WrittenMode}
use Rattle.rt_bricks.specs.declared.tree.Fields.{Fields}
use Rattle.rt_bricks.specs.declared.fields.Field.{Field}
use Rattle.rt_bricks.specs.declared.fields.Collected.{Collected}
use Rattle.rt_bricks.specs.Declarations as line
use Rattle.rt_bricks.specs.FieldGroups.{further_name, further_group, group, groups, SayTheSame}

-- ---- turns

turns_join : {A B : Type 0} {step : A → B → A} {P : Part B} {a b c : A} {l m r : List Item} → Turns step P a l m b → Turns step P b m r c → Turns step P a l r c
turns_join stop t = t
turns_join (turn fit more) t = turn fit (turns_join more t)

turns_before : {A B : Type 0} {step : A → B → A} {P : Part B} {a b : A} {l m r : List Item} → Turns step P a l m b → BeginsTurns P m r → BeginsTurns P l r
turns_before stop t = t
turns_before (turn fit more) t = turned fit (turns_before more t)

-- what a list has where it is equal to another
moved : {A : Type 0} (P : Part A) (l k q r : List Item) (a : A) → l ≡ k → q ≡ r → P.Fits l q a → P.Fits k r a
moved P l k q r a e f x = subst (λ (t : List Item). P.Fits k t a) f (subst (λ (t : List Item). P.Fits t q a) e x)

module _ (c : Context) (mode : Part WrittenMode) where
  abbrev Comma : List Item → List Item → Type 0
  Comma l q = (part.mark m.Comma).Fits l q tt

  abbrev Name : List Item → List Item → Ident → Type 0
  Name l r n = (part.ident c.total).Fits l r n

  abbrev F : Part Field
  F = part.◌>>=◌ (part.mark m.Comma) (λ _. line.next_field c mode)

  abbrev N : Part Ident
  N = further_name c

  abbrev G : Part Fields
  G = further_group c mode

  abbrev fields_as : WrittenMode → List Ident → At → Fields
  fields_as md ns at = record { mode = md; names = ns; at = at }

  abbrev field_as : Option WrittenMode → Ident → At → Field
  field_as md n at = record { mode = md; name = n; at = at }

  abbrev so_far : List Fields → Fields → Collected
  so_far before last = record { before = before; last = last }

  -- ---- one field: a further name, or a mode and a name

  name_field : (l q r : List Item) (n : Ident) → Comma l q → Name q r n → F.Fits l r (field_as None n (at_of c.total q))
  name_field l q r n comma name = (q, tt, comma, (q, at_of c.total q, (refl, refl), (q, None, inr (refl, refl), (r, n, name, (refl, refl)))))

  mode_field : (l q k r : List Item) (md : WrittenMode) (n : Ident) → Comma l q → mode.Fits q k md → Name k r n → F.Fits l r (field_as (Some md) n (at_of c.total q))
  mode_field l q k r md n comma fits name =
      (q, tt, comma, (q, at_of c.total q, (refl, refl), (k, Some md, inl (k, md, fits, (refl, refl)), (r, n, name, (refl, refl)))))

  abbrev IsName : List Item → List Item → Field → Type 0
  IsName l r f = (q : List Item) × (n : Ident) × Comma l q × Name q r n × (f ≡ field_as None n (at_of c.total q))

  abbrev IsMode : List Item → List Item → Field → Type 0
  IsMode l r f = (q k : List Item) × (md : WrittenMode) × (n : Ident) × Comma l q × mode.Fits q k md × Name k r n × (f ≡ field_as (Some md) n (at_of c.total q))

  field_behind : (l q r p k : List Item) (f : Field) (at : At) (omd : Option WrittenMode) (n : Ident) → Comma l q → q ≡ p → at ≡ at_of c.total q → (part.optional mode).Fits p k omd → Name k r n → f ≡ field_as omd n at
      → IsName l r f ⊎ IsMode l r f
  field_behind l q r p k f at omd n comma same there (inl some) name is = inr (
    q,
    some.0,
    some.1,
    n,
    comma,
    moved mode p q some.0 some.0 some.1 (sym same) refl some.2,
    moved (part.ident c.total) k some.0 r r n (sym some.3.0) refl name,
    is ∙ ap (λ (t : Option WrittenMode). field_as t n at) some.3.1 ∙ ap (λ (t : At). field_as (Some some.1) n t) there,
  )
  field_behind l q r p k f at omd n comma same there (inr none) name is = inl (
    q,
    n,
    comma,
    moved (part.ident c.total) k q r r n (sym (same ∙ none.0)) refl name,
    is ∙ ap (λ (t : Option WrittenMode). field_as t n at) none.1 ∙ ap (λ (t : At). field_as None n t) there,
  )

  field_is : (l r : List Item) (f : Field) → F.Fits l r f → IsName l r f ⊎ IsMode l r f
  field_is l r f x =
      let y = x.3 in
      let z = y.3 in
      let w = z.3 in
      let name : Name z.0 r w.1 = moved (part.ident c.total) z.0 z.0 w.0 r w.1 refl w.3.0 w.2 in
      field_behind l x.0 r y.0 z.0 f y.1 z.1 w.1 x.2 y.2.0 y.2.1 z.2 name w.3.1

  -- ---- one group

  -- a group that begins at l, and ends at r
  a_group : (l k q r : List Item) (md : WrittenMode) (n : Ident) (ns : List Ident) → mode.Fits l k md → Name k q n → Turns push N (n ∷ []) q r ns → (group c mode).Fits l r (fields_as md ns (at_of c.total l))
  a_group l k q r md n ns fits name more = (l, at_of c.total l, (refl, refl), (k, md, fits, (q, n, name, (r, ns, more, (refl, refl)))))

  abbrev IsGroup : List Item → List Item → Fields → Type 0
  IsGroup l r g = (k q : List Item) × (md : WrittenMode) × (n : Ident) × (ns : List Ident) × mode.Fits l k md × Name k q n × Turns push N (n ∷ []) q r ns × (g ≡ fields_as md ns (at_of c.total l))

  group_is : (l r : List Item) (g : Fields) → (group c mode).Fits l r g → IsGroup l r g
  group_is l r g x =
      let y = x.3 in
      let z = y.3 in
      let w = z.3 in (
        y.0,
        z.0,
        y.1,
        z.1,
        w.1,
        moved mode x.0 l y.0 y.0 y.1 (sym x.2.0) refl y.2,
        z.2,
        subst (λ (t : List Item). Turns push N (z.1 ∷ []) z.0 t w.1) w.3.0 w.2,
        w.3.1 ∙ ap (λ (t : At). fields_as y.1 w.1 t) x.2.1,
      )

  -- ---- from groups to fields

  names_turns : (before : List Fields) (md : WrittenMode) (at : At) {ns all : List Ident} {l r : List Item} → Turns push N ns l r all → Turns line.with_field F (so_far before (fields_as md ns at)) l r (so_far before (fields_as md all at))
  names_turns before md at stop = stop
  names_turns before md at (turn {b = n} {l = l} {m = q} fit more) = turn (name_field l fit.0 q n fit.2 fit.3) (names_turns before md at more)

  -- a mode, a name and further names, behind a comma
  group_turns : (x : Collected) (l q r : List Item) (g : Fields) → Comma l q → (group c mode).Fits q r g → Turns line.with_field F x l r (so_far (push x.before x.last) g)
  group_turns x l q r g comma fits =
      let s = group_is q r g fits in
      let first = mode_field l q s.0 s.1 s.2 s.3 comma s.5 s.6 in
      subst (λ (t : Fields). Turns line.with_field F x l r (so_far (push x.before x.last) t)) (sym s.8) (turn first (names_turns (push x.before x.last) s.2 (at_of c.total q) s.7))

  groups_turns : {gs all : List Fields} {l r : List Item} → Turns push G gs l r all → (x : Collected) → gs ≡ line.all_fields x → (y : Collected) × Turns line.with_field F x l r y × (all ≡ line.all_fields y)
  groups_turns stop x e = (x, stop, e)
  groups_turns (turn {b = g} {l = l} {m = q} fit more) x e =
      let later = groups_turns more (so_far (push x.before x.last) g) (ap (λ (t : List Fields). push t g) e) in
      (later.0, turns_join (group_turns x l fit.0 q g fit.2 fit.3) later.1, later.2)

  -- the first group
  first_turns : (l r : List Item) (g : Fields) → (group c mode).Fits l r g → (q : List Item) × (x : Collected) × (line.first_field c mode).Fits l q x × Turns line.with_field F x q r (so_far [] g)
  first_turns l r g fits =
      let s = group_is l r g fits in
      let last = fields_as s.2 (s.3 ∷ []) (at_of c.total l) in (
        s.1,
        so_far [] last,
        (l, at_of c.total l, (refl, refl), (s.0, s.2, s.5, (s.1, s.3, s.6, (refl, refl)))),
        subst (λ (t : Fields). Turns line.with_field F (so_far [] last) s.1 r (so_far [] t)) (sym s.8) (names_turns [] s.2 (at_of c.total l) s.7),
      )

  groups_fit : (l r : List Item) (gs : List Fields) → (groups c mode).Fits l r gs → (line.fields c mode).Fits l r gs
  groups_fit l r gs x =
      let first = first_turns l x.0 x.1 x.2 in
      let more = groups_turns x.3 (so_far [] x.1) refl in
      (first.0, first.1, first.2, (r, more.0, turns_join first.3 more.1, (refl, more.2)))

  -- ---- from fields to groups

  -- further names of the last mode, and then groups
  abbrev Grouped : Collected → List Item → List Item → List Fields → Type 0
  Grouped x l r all = (q : List Item) × (ns : List Ident) × Turns push N x.last.names l q ns × Turns push G (push x.before (fields_as x.last.mode ns x.last.at)) q r all

  grouped_by : (x : Collected) (l q r : List Item) (f : Field) (all : List Fields) → IsName l q f ⊎ IsMode l q f → Grouped (line.with_field x f) q r all → Grouped x l r all
  grouped_by x l q r f all (inl s) later =
      let there = subst (λ (t : Field). Grouped (line.with_field x t) q r all) s.4 later in
      (there.0, there.1, turn (s.0, tt, s.2, s.3) there.2, there.3)
  grouped_by x l q r f all (inr s) later =
      let there = subst (λ (t : Field). Grouped (line.with_field x t) q r all) s.7 later in
      (l, x.last.names, stop, turn (s.0, tt, s.4, a_group s.0 s.1 q there.0 s.2 s.3 there.1 s.5 s.6 there.2) there.3)

  grouped : {x y : Collected} {l r : List Item} → Turns line.with_field F x l r y → Grouped x l r (line.all_fields y)
  grouped {x = x} (stop {l = l}) = (l, x.last.names, stop, stop)
  grouped {x = x} {y = y} {r = r} (turn {b = f} {l = l} {m = q} fit more) = grouped_by x l q r f (line.all_fields y) (field_is l q f fit) (grouped more)

  abbrev IsFirst : List Item → List Item → Collected → Type 0
  IsFirst l q x = (k : List Item) × (md : WrittenMode) × (n : Ident) × mode.Fits l k md × Name k q n × (x ≡ so_far [] (fields_as md (n ∷ []) (at_of c.total l)))

  first_is : (l q : List Item) (x : Collected) → (line.first_field c mode).Fits l q x → IsFirst l q x
  first_is l q x y =
      let z = y.3 in
      let w = z.3 in (
        z.0,
        z.1,
        w.1,
        moved mode y.0 l z.0 z.0 z.1 (sym y.2.0) refl z.2,
        moved (part.ident c.total) z.0 z.0 w.0 q w.1 refl w.3.0 w.2,
        w.3.1 ∙ ap (λ (t : At). so_far [] (fields_as z.1 (w.1 ∷ []) t)) y.2.1,
      )

  fields_fit : (l r : List Item) (gs : List Fields) → (line.fields c mode).Fits l r gs → (groups c mode).Fits l r gs
  fields_fit l r gs x =
      let y = x.3 in
      let s = first_is l x.0 x.1 x.2 in
      let found = grouped y.2 in
      let there : Grouped (so_far [] (fields_as s.1 (s.2 ∷ []) (at_of c.total l))) x.0 y.0 (line.all_fields y.1) = subst (λ (t : Collected). Grouped t x.0 y.0 (line.all_fields y.1)) s.5 found in
      let last = fields_as s.1 there.1 (at_of c.total l) in
      let rest : Turns push G (last ∷ []) there.0 r gs =
      subst (λ (t : List Fields). Turns push G (last ∷ []) there.0 r t) (sym y.3.1) (subst (λ (t : List Item). Turns push G (last ∷ []) there.0 t (line.all_fields y.1)) y.3.0 there.3) in
      (there.0, last, a_group l s.0 x.0 there.0 s.1 s.2 there.1 s.3 s.4 there.2, rest)

  -- ---- what begins groups begins fields

  name_begins : (l r : List Item) → N.Begins l r → F.Begins l r
  name_begins l r (inl comma) = inl comma
  name_begins l r (inr x) = inr (x.0, x.1, x.2, inr (x.0, at_of c.total x.0, (refl, refl), inr (x.0, None, inr (refl, refl), inl x.3)))

  names_begun : {l r : List Item} → BeginsTurns N l r → BeginsTurns F l r
  names_begun (begun {l = l} {r = r} b) = begun (name_begins l r b)
  names_begun (turned {b = n} {l = l} {m = q} fit more) = turned (name_field l fit.0 q n fit.2 fit.3) (names_begun more)

  -- behind a mode: what begins a name, or a name and further names
  abbrev Behind : List Item → List Item → Type 0
  Behind k r = (part.ident c.total).Begins k r ⊎ ((q : List Item) × (n : Ident) × Name k q n × BeginsTurns N q r)

  abbrev Begun : List Item → List Item → Type 0
  Begun l r = (l ≡ r) ⊎ (mode.Begins l r ⊎ ((k : List Item) × (md : WrittenMode) × mode.Fits l k md × Behind k r))

  group_begun : (l r : List Item) → (group c mode).Begins l r → Begun l r
  group_begun l r (inl same) = inl same
  group_begun l r (inr x) = inr (elim x.3 [
    | inl b ↦ inl (subst (λ (t : List Item). mode.Begins t r) (sym x.2.0) b)
    | inr y ↦ inr (
      y.0,
      y.1,
      moved mode x.0 l y.0 y.0 y.1 (sym x.2.0) refl y.2,
      elim y.3 [
        | inl b ↦ inl b
        | inr z ↦ inr (
          z.0,
          z.1,
          z.2,
          elim z.3 [
            | inl b ↦ b
            | inr w ↦ turns_before w.2 (begun (inl (inl w.3)))
          ],
        )
      ],
    )
  ])

  behind_comma : (l q r : List Item) → Comma l q → Begun q r → BeginsTurns F l r
  behind_comma l q r comma (inl same) = begun (inr (q, tt, comma, inl same))
  behind_comma l q r comma (inr x) = elim x [
    | inl b ↦ begun (inr (q, tt, comma, inr (q, at_of c.total q, (refl, refl), inl (inl (inl b)))))
    | inr y ↦ elim y.3 [
      | inl b ↦ begun (inr (q, tt, comma, inr (q, at_of c.total q, (refl, refl), inr (y.0, Some y.1, inl (y.0, y.1, y.2, (refl, refl)), inl b))))
      | inr z ↦ turned (mode_field l q y.0 z.0 y.1 z.1 comma y.2 z.2) (names_begun z.3)
    ]
  ]

  first_begun : (l r : List Item) → Begun l r → (line.fields c mode).Begins l r
  first_begun l r (inl same) = inl (inl same)
  first_begun l r (inr x) = elim x [
    | inl b ↦ inl (inr (l, at_of c.total l, (refl, refl), inl b))
    | inr y ↦ elim y.3 [
      | inl b ↦ inl (inr (l, at_of c.total l, (refl, refl), inr (y.0, y.1, y.2, inl b)))
      | inr z ↦ inr (z.0, so_far [] (fields_as y.1 (z.1 ∷ []) (at_of c.total l)), (l, at_of c.total l, (refl, refl), (y.0, y.1, y.2, (z.0, z.1, z.2, (refl, refl)))), inl (names_begun z.3))
    ]
  ]

  group_begins : (l r : List Item) → G.Begins l r → BeginsTurns F l r
  group_begins l r (inl comma) = begun (inl comma)
  group_begins l r (inr x) = behind_comma l x.0 r x.2 (group_begun x.0 r x.3)

  groups_begun : {l r : List Item} → BeginsTurns G l r → BeginsTurns F l r
  groups_begun (begun {l = l} {r = r} b) = group_begins l r b
  groups_begun (turned {b = g} {l = l} {m = q} fit more) = turns_before (group_turns (so_far [] g) l fit.0 q g fit.2 fit.3) (groups_begun more)

  groups_begin : (l r : List Item) → (groups c mode).Begins l r → (line.fields c mode).Begins l r
  groups_begin l r (inl b) = first_begun l r (group_begun l r b)
  groups_begin l r (inr x) = let first = first_turns l x.0 x.1 x.2 in inr (first.0, first.1, first.2, inl (turns_before first.3 (groups_begun x.3)))

  -- ---- what begins fields begins groups

  abbrev Split : List Ident → List Item → List Item → Type 0
  Split names l r = BeginsTurns N l r ⊎ ((q : List Item) × (ns : List Ident) × Turns push N names l q ns × BeginsTurns G q r)

  -- the next group, where it begins behind a comma
  next_group : (names : List Ident) (l q r : List Item) → Comma l q → (group c mode).Begins q r → Split names l r
  next_group names l q r comma b = inr (l, names, stop, begun (inr (q, tt, comma, b)))

  split_mode : (names : List Ident) (l q p r : List Item) (at : At) → Comma l q → (part.here c.total).Fits q p at → (part.optional mode).Begins p r → Split names l r
  split_mode names l q p r at comma there (inl x) = elim x [
    | inl b ↦ next_group names l q r comma (inr (p, at, there, inl b))
    | inr y ↦ next_group names l q r comma (inr (p, at, there, inr (y.0, y.1, y.2, inl (inl y.3))))
  ]
  split_mode names l q p r at comma there (inr same) = inl (begun (inr (q, tt, comma, inl (there.0 ∙ same))))

  abbrev BehindMode : List Item → List Item → Type 0
  BehindMode k r = (part.ident c.total).Begins k r ⊎ ((q : List Item) × (n : Ident) × Name k q n × (q ≡ r))

  split_behind : (names : List Ident) (l q p k r : List Item) (at : At) (omd : Option WrittenMode) → Comma l q → (part.here c.total).Fits q p at → (part.optional mode).Fits p k omd → BehindMode k r → Split names l r
  split_behind names l q p k r at omd comma there (inl some) (inl b) =
      next_group names l q r comma (inr (p, at, there, inr (some.0, some.1, some.2, inl (subst (λ (t : List Item). (part.ident c.total).Begins t r) (sym some.3.0) b))))
  split_behind names l q p k r at omd comma there (inl some) (inr x) =
      next_group names l q r comma (inr (p, at, there, inr (some.0, some.1, some.2, inr (x.0, x.1, moved (part.ident c.total) k some.0 x.0 x.0 x.1 (sym some.3.0) refl x.2, inr (x.0, x.1 ∷ [], stop, x.3)))))
  split_behind names l q p k r at omd comma there (inr none) (inl b) =
      inl (begun (inr (q, tt, comma, subst (λ (t : List Item). (part.ident c.total).Begins t r) (sym (there.0 ∙ none.0)) b)))
  split_behind names l q p k r at omd comma there (inr none) (inr x) =
      inl (turned (q, tt, comma, moved (part.ident c.total) k q x.0 x.0 x.1 (sym (there.0 ∙ none.0)) refl x.2) (begun (inl (inl x.3))))

  split_begun : (names : List Ident) (l r : List Item) → F.Begins l r → Split names l r
  split_begun names l r (inl comma) = inl (begun (inl comma))
  split_begun names l r (inr x) = elim x.3 [
    | inl same ↦ inl (begun (inr (x.0, tt, x.2, inl same)))
    | inr y ↦ elim y.3 [
      | inl b ↦ split_mode names l x.0 y.0 r y.1 x.2 y.2 b
      | inr z ↦ split_behind names l x.0 y.0 z.0 r y.1 z.1 x.2 y.2 z.2 z.3
    ]
  ]

  split_turned : (names : List Ident) (l q r : List Item) (f : Field) → IsName l q f ⊎ IsMode l q f → ((ns : List Ident) → Split ns q r) → Split names l r
  split_turned names l q r f (inl s) later = elim (later (push names s.1)) [
    | inl b ↦ inl (turned (s.0, tt, s.2, s.3) b)
    | inr t ↦ inr (t.0, t.1, turn (s.0, tt, s.2, s.3) t.2, t.3)
  ]
  split_turned names l q r f (inr s) later = elim (later (s.3 ∷ [])) [
    | inl b ↦ next_group names l s.0 r s.4 (inr (s.0, at_of c.total s.0, (refl, refl), inr (s.1, s.2, s.5, inr (q, s.3, s.6, inl b))))
    | inr t ↦ inr (l, names, stop, turned (s.0, tt, s.4, a_group s.0 s.1 q t.0 s.2 s.3 t.1 s.5 s.6 t.2) t.3)
  ]

  split : {l r : List Item} → BeginsTurns F l r → (names : List Ident) → Split names l r
  split (begun {l = l} {r = r} b) names = split_begun names l r b
  split {r = r} (turned {b = f} {l = l} {m = q} fit more) names = split_turned names l q r f (field_is l q f fit) (split more)

  -- the first field, and what begins behind it
  first_split : (l q r : List Item) (x : Collected) → IsFirst l q x → BeginsTurns F q r → (groups c mode).Begins l r
  first_split l q r x s more = elim (split more (s.2 ∷ [])) [
    | inl b ↦ inl (inr (l, at_of c.total l, (refl, refl), inr (s.0, s.1, s.3, inr (q, s.2, s.4, inl b))))
    | inr t ↦ inr (t.0, fields_as s.1 t.1 (at_of c.total l), a_group l s.0 q t.0 s.1 s.2 t.1 s.3 s.4 t.2, t.3)
  ]

  first_begins : (l r : List Item) → (line.first_field c mode).Begins l r → (group c mode).Begins l r
  first_begins l r (inl same) = inl same
  first_begins l r (inr x) = inr (
    x.0,
    x.1,
    x.2,
    elim x.3 [
      | inl b ↦ inl b
      | inr y ↦ inr (
        y.0,
        y.1,
        y.2,
        elim y.3 [
          | inl b ↦ inl b
          | inr z ↦ inr (z.0, z.1, z.2, inr (z.0, z.1 ∷ [], stop, z.3))
        ],
      )
    ],
  )

  fields_begin : (l r : List Item) → (line.fields c mode).Begins l r → (groups c mode).Begins l r
  fields_begin l r (inl b) = inl (first_begins l r b)
  fields_begin l r (inr x) = elim x.3 [
    | inl b ↦ first_split l x.0 r x.1 (first_is l x.0 x.1 x.2) b
    | inr y ↦ let found = fields_fit l r (line.all_fields y.1) (x.0, x.1, x.2, (y.0, y.1, y.2, (y.3, refl))) in inr (found.0, found.1, found.2, turns_before found.3 (begun (inl (inl refl))))
  ]

  pub same_groups : SayTheSame (groups c mode) (line.fields c mode)
  same_groups = record { fits = groups_fit; fits_back = fields_fit; begins = groups_begin; begins_back = fields_begin }
