-- A location stands at one place, which has one mode.
use Rattle.std.proofs.Common.{◌≡◌, ℕ, List, [], ◌∷◌, Some, slice_get, codes, sym, ap, ◌∙◌}
use Rattle.rt_modes.specs.declared.mode.Field.{Field}
use Rattle.rt_modes.specs.declared.mode.Mode.{Mode}
use Rattle.rt_modes.specs.declared.mode.Mode.TheOpen.{Mode-F}
use Rattle.rt_modes.specs.declared.mode.ModeTable.{ModeTable}
use Rattle.rt_modes.specs.FullMode.{FullMode}
use Rattle.rt_tree_nodes.specs.declared.brick.Brick.{Brick}
use Rattle.rt_tree_nodes.specs.declared.brick.BrickSort.{BrickSort}
use Rattle.rt_tree_nodes.specs.declared.brick.BrickSort.TheVariants as sort
use Rattle.rt_tree_nodes.specs.declared.brick.ModuleParts.{ModuleParts}
use Rattle.rt_tree_nodes.specs.declared.store.Location.{Location}
use Rattle.rt_tree_nodes.specs.Scopes.{field_at}
use Rattle.rt_tree.specs.Modules.{mode_along}
use Rattle.rt_tree.specs.Stored as s
use Rattle.rt_tree.specs.Stored.{System, StandsAt, module_of, text_mode}
use Rattle.rt_meaning_laws.specs.Laws.{OneModeAPlace, OneModeAnOwn}
use Rattle.rt_meaning_laws.specs.Slots.{IsInt, ern, erp, input, output}
use Rattle.rt_meaning_laws.proofs.Errors.{words_at, said}
use Rattle.rt_meaning_laws.proofs.Small.{some_same}

fields_of : BrickSort → List Field
fields_of (sort.Data fs ss) = fs
fields_of _ = []

-- the mode along a path, in modules and from modes that are the same
one_along : (p q : ModuleParts) (v u w x : Mode) (path : List ℕ) → p ≡ q → v ≡ u → mode_along p.modes.records path v ≡ Some w → mode_along q.modes.records path u ≡ Some x → FullMode p.modes w ≡ FullMode q.modes x
one_along p q v u w x path one two a b =
    let same : w ≡ x =
    some_same w x (mode_along q.modes.records path u) (ap (λ (r : ModuleParts). mode_along r.modes.records path u) (sym one) ∙ ap (λ (m : Mode). mode_along p.modes.records path m) (sym two) ∙ a) b in
    ap (λ (r : ModuleParts). FullMode r.modes w) one ∙ ap (λ (m : Mode). FullMode q.modes m) same

one_place : {ps : System} {l : Location} {t u : ModeTable} {m n : Mode} → StandsAt ps l t m → StandsAt ps l u n → FullMode t m ≡ FullMode u n
unfolding fields_of
one_place {ps = ps} (s.in_brick {m = m} {b = b} {j = j} {path = path} {p = p} {d = d} {fs = fs} {v = v} {w = w} h here sd f a) (s.in_brick {p = q} {d = e} {fs = gs} {v = u} {w = x} h2 here2 sd2 f2 a2) =
    let one : p ≡ q = some_same p q (module_of ps m) h.of h2.of in
    let two : d ≡ e = some_same d e (slice_get q.bricks b) (ap (λ (r : ModuleParts). slice_get r.bricks b) (sym one) ∙ h.at) h2.at in
    let fields : fs ≡ gs = ap fields_of (sym sd) ∙ ap (λ (r : Brick). fields_of r.sort) two ∙ ap fields_of sd2 in
    let three : v ≡ u = some_same v u (field_at gs j) (ap (λ (r : List Field). field_at r j) (sym fields) ∙ f) f2 in
    one_along p q v u w x path one three a a2
one_place {ps = ps} (s.in_text {m = m} {k = k} {path = path} {p = p} {s = y} {w = w} of at a) (s.in_text {p = q} {s = z} {w = x} of2 at2 a2) =
    let one : p ≡ q = some_same p q (module_of ps m) of of2 in
    let two : y ≡ z = some_same y z (slice_get q.strings k) (ap (λ (r : ModuleParts). slice_get r.strings k) (sym one) ∙ at) at2 in
    one_along p q (text_mode y) (text_mode z) w x path one (ap text_mode two) a a2

pub one_mode_a_place : OneModeAPlace
one_mode_a_place ps t u m n l h g = sym h.same ∙ one_place h.at g.at ∙ g.same

-- ---- a task's own data

-- an INT has one full mode, whatever the records
int_full : (t : ModeTable) (m : Mode) → IsInt m → FullMode t m ≡ codes "INT"
int_full t m e = said t m (codes "INT" ∷ []) (words_at m Mode-F.Int e)

pub one_mode_an_own : OneModeAnOwn
one_mode_an_own t u k m n (ern h) (ern g) = int_full t m h ∙ sym (int_full u n g)
one_mode_an_own t u k m n (erp out h) (erp out2 g) = h ∙ sym g
one_mode_an_own t u k m n (input out h) (input out2 g) = h ∙ sym g
one_mode_an_own t u k m n (output out h) (output out2 g) = h ∙ sym g
