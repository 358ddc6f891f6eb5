-- Code is too long only of a procedure with many items.
use Rattle.std.proofs.Common.{◌≡◌, ℕ, zero, suc, ◌+◌, ◌*◌, ◌<◌, ◌≤◌, List, [], ◌∷◌, ◌++◌, Some, None, arith, refl, ap, ◌∙◌}
use Rattle.std.specs.Prelude.{slice_get}
use Rattle.rt_bricks_laws.proofs.AllLists.{some_is, no_some, all_get}
use Rattle.rt_modes.specs.declared.mode.Mode.{Mode}
use Rattle.rt_tree_nodes.specs.declared.brick.Brick.{Brick}
use Rattle.rt_tree_nodes.specs.declared.brick.BrickSort.{BrickSort}
use Rattle.rt_tree_nodes.specs.declared.brick.BrickSort.TheVariants as sort
use Rattle.rt_tree_nodes.specs.declared.brick.ModuleParts.{ModuleParts}
use Rattle.rt_tree_nodes.specs.declared.brick.ProcBody.{ProcBody}
use Rattle.rt_icode.specs.declared.procedure.IModule.{IModule}
use Rattle.rt_icode.specs.declared.procedure.IProc.{IProc}
use Rattle.rt_icode.specs.Within.{IsWithin}
use Rattle.rt_lower.specs.declared.layouts.Layouts.{Layouts}
use Rattle.rt_lower.specs.Code.{procedures, procedure_by, intermediate}
use Rattle.rt_lower_laws.specs.Laws.{CodeIsWithin}
use Rattle.rt_templates.specs.Expanded.{most, size_of}
use Rattle.rt_templates_laws.specs.Laws.{SupportIsShort}
use Rattle.rt_text_laws.specs.Trees.{TreesPromise}
use Rattle.rt_compile_laws.specs.Long.{LongCodeIsLarge, LongTextsAreLarge, SupportIsSmall}

-- the brick that a procedure of the intermediate code is
record IsBrick (bs : List Brick) (q : IProc) : Type 0 where
  number : ℕ
  brick : Brick
  mode : Mode
  body : ProcBody
  at : slice_get bs number ≡ Some brick
  named : brick.name ≡ q.name
  sort_is : brick.sort ≡ sort.Proc mode (Some body)
  items : body.items ≡ q.items

one_more : (d : Brick) (bs : List Brick) (q : IProc) → IsBrick bs q → IsBrick (d ∷ bs) q
one_more d bs q h = record { number = suc h.number; brick = h.brick; mode = h.mode; body = h.body; at = h.at; named = h.named; sort_is = h.sort_is; items = h.items }

module _ (l : Layouts) (p : ModuleParts) where
  -- the first of a brick, or one of those behind
  first_or : (d : Brick) (bs : List Brick) (k n : ℕ) (q : IProc) (x : BrickSort) → d.sort ≡ x → ((j : ℕ) → slice_get (procedures l p (k + 1) bs) j ≡ Some q → IsBrick bs q) → slice_get (procedure_by l p k d x ++ procedures l p (k + 1) bs) n ≡ Some q → IsBrick (d ∷ bs) q
  first_or d bs k n q (sort.Proc m None) o rest e = one_more d bs q (rest n e)
  first_or d bs k n q (sort.Data fs ss) o rest e = one_more d bs q (rest n e)
  first_or d bs k n q (sort.Stack w) o rest e = one_more d bs q (rest n e)
  first_or d bs k zero q (sort.Proc m (Some b)) o rest e =
      let same = some_is _ q e in
      record { number = 0; brick = d; mode = m; body = b; at = refl; named = ap (λ (x : IProc). x.name) same; sort_is = o; items = ap (λ (x : IProc). x.items) same }
  first_or d bs k (suc j) q (sort.Proc m (Some b)) o rest e = one_more d bs q (rest j e)

  brick_of : (bs : List Brick) (k n : ℕ) (q : IProc) → slice_get (procedures l p k bs) n ≡ Some q → IsBrick bs q
  brick_of [] k n q e = no_some q e
  brick_of (d ∷ bs) k n q e = first_or d bs k n q d.sort refl (λ j g. brick_of bs (k + 1) j q g) e

pub long_code_is_large : CodeIsWithin → LongCodeIsLarge
long_code_is_large code p name fits within h =
    let m : IModule = intermediate h.layouts p in
    let t = h.long in
    let b = brick_of h.layouts p p.bricks 0 t.number t.proc t.at in
    let light : IsWithin t.proc = all_get IsWithin m.procs t.number t.proc (code p m fits within (record { layouts = h.layouts; right = h.right; code = refl })) t.at in
    record {
      number = b.number;
      brick = b.brick;
      mode = b.mode;
      body = b.body;
      at = b.at;
      named = b.named ∙ t.named;
      sort_is = b.sort_is;
      many = many (size_of t.proc.code) t.proc.items b.body.items t.long light.words b.items;
    } where
      many : (w n i : ℕ) → most < w → w ≤ 12 * n + 16 → i ≡ n → 1363 < i
      many w n i a b e = omega (arith, a, b, e)

pub long_texts_are_large : LongCodeIsLarge → TreesPromise → LongTextsAreLarge
long_texts_are_large large trees text name h =
    let has = trees text h.tree h.is_tree in
    large h.tree name has.nodes_fit has.procedures_are_within h.long

pub support_is_small : SupportIsShort → SupportIsSmall
support_is_small short s is = let few = (short s is).words in omega (arith, few)
