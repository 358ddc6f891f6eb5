-- A part of a place lies where the place does, and as far on as the part begins.
use Rattle.std.proofs.Common.{◌≡◌, ℕ, ◌+◌, List, [], ◌∷◌, ◌++◌, Option, ap, ◌∙◌, subst, arith}
use Rattle.rt_modes.specs.declared.mode.Mode.{Mode}
use Rattle.rt_modes.specs.declared.mode.ModeTable.{ModeTable}
use Rattle.rt_tree_nodes.specs.declared.store.Location.{Location}
use Rattle.rt_tree_nodes.specs.declared.store.Location.TheVariants.{Shared, Own}
use Rattle.rt_tree_nodes.specs.declared.store.Origin.{Origin}
use Rattle.rt_tree_nodes.specs.declared.store.Origin.TheVariants as origin
use Rattle.rt_tree.specs.Stored.{System, text_mode}
use Rattle.rt_places.specs.Places.{IsPart}
use Rattle.rt_places.specs.Systems.{module_in, offset_at, HasSizes, address}
use Rattle.rt_places.proofs.Along.{joined, one_on}
use Rattle.rt_places.proofs.Standing.{InBrick, InText, Stands, Place, brick_offset, text_offset}

module _ (ps : System) (S : ℕ → ℕ → Option ℕ) (sized : HasSizes ps S) where
  pub offset_of : (o : Origin) (path : List ℕ) (t : ModeTable) (v : Mode) (x : ℕ) → Stands ps S sized (Shared o path) t v x → offset_at ps S o path ≡ x
  offset_of (origin.Brick m b) [] t v x h = absurd h
  offset_of (origin.Brick m b) (j ∷ path) t v x h = brick_offset ps S sized m b j path t v x h
  offset_of (origin.Text m k) path t v x h = text_offset ps S sized m k path t v x h

  in_brick : (m b j : ℕ) (path : List ℕ) (t : ModeTable) (v e : Mode) (x a k : ℕ) → InBrick ps S sized m b j path t v x → IsPart t.records (S m) k v e a → InBrick ps S sized m b j (path ++ k ∷ []) t e (x + a)
  in_brick m b j path t v e x a k h part =
      let own : IsPart h.room.parts.modes.records (S m) k v e a = subst (λ (z : ModeTable). IsPart z.records (S m) k v e a) h.table part in
      let sizes = sized.records m h.room.parts h.room.has.of in
      let on = one_on h.room.parts.modes.records (S m) sizes k v e a own in
      let all = joined h.room.parts.modes.records (S m) sizes path (k ∷ []) h.field.mode v e h.more a h.leads on in
      let is : x ≡ h.begin + h.more = h.is in
      record { total = h.total; room = h.room; field = h.field; begin = h.begin; more = h.more + a; at = h.at; begins = h.begins; leads = all; is = omega arith; table = h.table }

  in_text : (m i : ℕ) (path : List ℕ) (t : ModeTable) (v e : Mode) (x a k : ℕ) → InText ps S sized m i path t v x → IsPart t.records (S m) k v e a → InText ps S sized m i (path ++ k ∷ []) t e (x + a)
  in_text m i path t v e x a k h part =
      let own : IsPart h.room.parts.modes.records (S m) k v e a = subst (λ (z : ModeTable). IsPart z.records (S m) k v e a) h.table part in
      let sizes = sized.records m h.room.parts h.room.of in
      let on = one_on h.room.parts.modes.records (S m) sizes k v e a own in
      record { total = h.total; room = h.room; leads = joined h.room.parts.modes.records (S m) sizes path (k ∷ []) (text_mode h.room.text) v e x a h.leads on; table = h.table }

  pub stands_deeper : (o : Origin) (path : List ℕ) (t : ModeTable) (v e : Mode) (x a k : ℕ) → Stands ps S sized (Shared o path) t v x → IsPart t.records (S (module_in o)) k v e a → Stands ps S sized (Shared o (path ++ k ∷ [])) t e (x + a)
  stands_deeper (origin.Brick m b) [] t v e x a k h part = absurd h
  stands_deeper (origin.Brick m b) (j ∷ path) t v e x a k h part = in_brick m b j path t v e x a k h part
  stands_deeper (origin.Text m i) path t v e x a k h part = in_text m i path t v e x a k h part

  abbrev pub deeper : Location → ℕ → Location
  deeper (Shared o path) k = Shared o (path ++ k ∷ [])
  deeper (Own k) j = Own k

  module _ (base : Origin → ℕ) where
    pub part_lies_at : (l : Location) (t : ModeTable) (v e : Mode) (a k : ℕ) (p : Place ps S sized l t v) → IsPart t.records (S (module_in p.origin)) k v e a → address ps S base (deeper l k) ≡ address ps S base l + a
    part_lies_at l t v e a k p part =
        let next = stands_deeper p.origin p.path t v e p.at a k p.stands part in
        let at : offset_at ps S p.origin (p.path ++ k ∷ []) ≡ p.at + a = offset_of p.origin (p.path ++ k ∷ []) t e (p.at + a) next in
        let one : address ps S base l ≡ base p.origin + p.at = ap (address ps S base) p.is ∙ ap (λ (x : ℕ). base p.origin + x) p.offset in
        let two : address ps S base (deeper l k) ≡ base p.origin + (p.at + a) = ap (λ (x : Location). address ps S base (deeper x k)) p.is ∙ ap (λ (x : ℕ). base p.origin + x) at in omega arith
