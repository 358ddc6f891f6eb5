-- The modes that a derived module writes are shallow, each where it stands.
use Rattle.std.proofs.Common.{◌≡◌, ℕ, ◌+◌, ◌≤◌, true, List, [], ◌∷◌, length, Option, Some, None, arith}
use Rattle.std.specs.List.{AllByRecursion}
use Rattle.rt_grammar.specs.declared.at.At.{At}
use Rattle.rt_grammar.specs.declared.at.Ident.{Ident}
use Rattle.rt_grammar.specs.Parts.{Part, push}
use Rattle.rt_syntax_exprs.specs.declared.tree.WrittenMode.{WrittenMode}
use Rattle.rt_syntax_exprs.specs.Tables.{begins_result}
use Rattle.rt_bricks.specs.declared.fields.Collected.{Collected}
use Rattle.rt_bricks.specs.declared.tree.Fields.{Fields}
use Rattle.rt_bricks.specs.Declarations as line
use Rattle.rt_bricks_laws.specs.Modes.{IsShallow, FieldsShallow, LineShallow, ResultShallow, names_in, body_is_shallow, ModesShallow, ModesAreShallow}
use Rattle.rt_bricks_laws.proofs.Yields.{Yields, it, thn, behind, also, or_else, maybe, turned, turned_up, up_to_size, begun, one_more}
use Rattle.rt_bricks_laws.proofs.Declarations.{Bricks, each_declared}
use Rattle.rt_bricks_laws.proofs.Shallow.{here, written_shallow, procedure_shallow}
use Rattle.rt_bricks_laws.proofs.ShallowBodies.{derived_body_shallow}

-- ---- fields

abbrev AllShallow : ℕ → List Fields → Type 0
AllShallow levels gs = AllByRecursion (FieldsShallow levels) gs

record Collects (levels : ℕ) (x : Collected) : Type 0 where
  before : AllShallow levels x.before
  last : IsShallow levels x.last.mode

FieldShallow : ℕ → Option WrittenMode → Type 0
FieldShallow levels None = Unit {0}
FieldShallow levels (Some w) = IsShallow levels w

collects_more : (levels : ℕ) (x : Collected) (m : Option WrittenMode) (n : Ident) (at : At) → Collects levels x → FieldShallow levels m → Collects levels (line.with_name x m n at)
unfolding FieldShallow
collects_more levels x None n at h k = record { before = h.before; last = h.last }
collects_more levels x (Some w) n at h k = record { before = one_more (FieldsShallow levels) x.before x.last h.before h.last; last = k }

-- how many names
names_push : (gs : List Fields) (g : Fields) → names_in (push gs g) ≡ names_in gs + length g.names
names_push [] g = omega arith
names_push (f ∷ gs) g = let e = names_push gs g in omega arith

length_push : (ns : List Ident) (n : Ident) → length (push ns n) ≡ length ns + 1
length_push [] n = omega arith
length_push (m ∷ ns) n = let e = length_push ns n in omega arith

many : Collected → ℕ
many x = names_in (line.all_fields x)

many_more : (x : Collected) (m : Option WrittenMode) (n : Ident) (at : At) → many (line.with_name x m n at) ≤ many x + 1
unfolding many
many_more x None n at =
    let e = names_push x.before (record { mode = x.last.mode; names = push x.last.names n; at = x.last.at }) in
    let g = names_push x.before x.last in
    let h = length_push x.last.names n in omega arith
many_more x (Some w) n at =
    let e = names_push (push x.before x.last) (record { mode = w; names = n ∷ []; at = at }) in omega arith

module _ (total levels : ℕ) (mode : Part WrittenMode) (h : Yields mode (IsShallow levels)) where
  first_shallow : Yields (line.first_field (here total) mode) (λ x. Collects levels x × (many x ≤ 1))
  unfolding many
  first_shallow = behind (λ at. thn h (λ md k. behind (λ n. it (record { before = tt; last = k }, omega arith))))

  next_shallow : Yields (line.next_field (here total) mode) (λ f. FieldShallow levels f.mode)
  unfolding FieldShallow
  next_shallow = behind (λ at. thn {P = FieldShallow levels} (maybe h (λ w k. k) tt) (λ md k. behind (λ n. it k)))

  all_shallow : (x : Collected) → Collects levels x → AllShallow levels (line.all_fields x)
  all_shallow x k = one_more (FieldsShallow levels) x.before x.last k.before k.last

  fields_shallow : Yields (line.fields (here total) mode) (AllShallow levels)
  fields_shallow = thn first_shallow (λ first k. thn (turned line.with_field _ (λ f. FieldShallow levels f.mode) (Collects levels) (behind (λ _. next_shallow)) (λ x f g e. collects_more levels x f.mode f.name f.at g e) k.0)
      (λ all g. it (all_shallow all g)))

  some_shallow : Yields (line.fields_up_to (here total) 32 mode) (λ gs. AllShallow levels gs × (names_in gs ≤ 32))
  unfolding many
  some_shallow = thn first_shallow (λ first k. thn (also
      (turned_up line.with_field _ (λ f. FieldShallow levels f.mode) (Collects levels) (behind (λ _. next_shallow)) (λ x f g e. collects_more levels x f.mode f.name f.at g e) 31 first k.0)
      (up_to_size line.with_field _ many (λ x f. many_more x f.mode f.name f.at) 31 first))
      (λ all g. it (all_shallow all g.0, (let few = k.1 in let more = g.1 in omega arith))))

-- ---- bricks

lines_shallow : (total : ℕ) → Yields (line.data_line (here total)) LineShallow
lines_shallow total = behind (λ at. thn (written_shallow total 100 100) (λ md k. behind (λ all. behind (λ _. it k))))

imported_shallow : (total : ℕ) → Yields (line.imported_line (here total)) (FieldsShallow 100)
imported_shallow total = behind (λ at. thn (written_shallow total 100 100) (λ md k. behind (λ ns. behind (λ _. it k))))

parameters_shallow : (total : ℕ) → Yields (line.parameters (here total)) (λ gs. AllShallow 99 gs × (names_in gs ≤ 32))
parameters_shallow total = behind (λ _. thn (or_else (some_shallow total 99 _ (written_shallow total 99 99)) (it (tt, omega arith))) (λ fs k. behind (λ _. it k)))

answer_shallow : (total : ℕ) → Yields (line.answer (here total)) (IsShallow 99)
answer_shallow total = begun begins_result (written_shallow total 99 100)

closing_shallow : (total : ℕ) → Yields (line.closing (here total)) (λ x. body_is_shallow x.0 ≡ true)
closing_shallow total = behind (λ _. thn (derived_body_shallow total) (λ b h. behind (λ at. behind (λ _. behind (λ _. it h)))))

bricks_shallow : (total : ℕ) → Bricks (here total) ModesShallow
bricks_shallow total = record {
  record_mode = behind (λ at. behind (λ _. behind (λ n. behind (λ _. thn (fields_shallow total 100 _ (written_shallow total 100 99)) (λ fs h. behind (λ _. behind (λ _. it h)))))));
  data_brick = λ x. behind (λ _. behind (λ n. behind (λ _. thn (turned push _ LineShallow (AllByRecursion LineShallow) (lines_shallow total) (λ ls l h k. one_more LineShallow ls l h k) tt) (λ ls h. behind (λ _. behind (λ _. it h))))));
  stack_brick = λ x. behind (λ _. behind (λ n. behind (λ words. behind (λ _. it tt))));
  result_first = λ x at. thn (answer_shallow total) (λ r g. behind (λ n. thn (parameters_shallow total) (λ fs k. thn (closing_shallow total) (λ b h.
      it (record { fields = k.0; few = k.1; result = g; body = h })))));
  name_first = λ x at. behind (λ n. thn (parameters_shallow total) (λ fs k. thn {P = ResultShallow} (maybe (answer_shallow total) (λ w e. e) tt) (λ r g. thn (closing_shallow total) (λ b h.
      it (record { fields = k.0; few = k.1; result = g; body = h })))));
  imported_procedures = λ from at. thn (procedure_shallow total) (λ md h. behind (λ ns. behind (λ _. it h)));
  imported_data = λ from at. behind (λ _. behind (λ n. behind (λ _. thn (turned push _ (FieldsShallow 100) (AllByRecursion (FieldsShallow 100)) (imported_shallow total) (λ ls l h k. one_more (FieldsShallow 100) ls l h k) tt)
      (λ ls h. behind (λ _. behind (λ _. it h))))));
  imported_stacks = λ at. behind (λ _. behind (λ ns. behind (λ _. it tt)));
}

pub modes_shallow : ModesAreShallow
modes_shallow items x derived = each_declared ModesShallow items (bricks_shallow (length items)) x derived
