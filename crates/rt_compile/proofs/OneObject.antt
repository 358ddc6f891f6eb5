-- A text has one object, or one procedure that is the first whose code is too long.
use Rattle.std.proofs.Common.{◌≡◌, ℕ, ◌<◌, List, Option, Some, Ok, sym, ap, ◌∙◌, subst, arith, slice_get}
use Rattle.rt_pieces.specs.declared.item.Item.{Item}
use Rattle.rt_items.specs.Lets.{Reading, HaveOneReading}
use Rattle.rt_modes.specs.declared.mode.ModeTable.{ModeTable}
use Rattle.rt_bricks.specs.declared.tree.Module.{Module}
use Rattle.rt_bricks.specs.Derives.{Derives}
use Rattle.rt_sizes_laws.specs.Laws.{TablesTellOnce}
use Rattle.rt_tree_nodes.specs.declared.brick.ModuleParts.{ModuleParts}
use Rattle.rt_check_module.specs.Typed.{IsTyped}
use Rattle.rt_check.specs.Laws.{OneTree}
use Rattle.rt_check.specs.Texts.{IsTree}
use Rattle.rt_object.specs.declared.object.Brick.{Brick as Compiled}
use Rattle.rt_object.specs.declared.object.ObjectParts.{ObjectParts}
use Rattle.rt_icode.specs.declared.procedure.IModule.{IModule}
use Rattle.rt_icode.specs.declared.procedure.IProc.{IProc}
use Rattle.rt_lower.specs.declared.layouts.Layouts.{Layouts}
use Rattle.rt_lower.specs.Code.{intermediate}
use Rattle.rt_templates.specs.Expanded.{IsTooLong}
use Rattle.rt_compile.specs.Objects.{AreShort, IsObjectWith, IsObjectOf, HasLongProc}
use Rattle.rt_compile.specs.Laws.{OneObject, OneOfTree, NoneWithLongCode, OneLongCode}
use Rattle.rt_compile.proofs.Lists.{some_is, same_somes}
use Rattle.rt_compile.proofs.OneLayout.{one_layout}
use Rattle.rt_compile.proofs.OneTaken.{one_taken}

-- ---- the tree of a text

abbrev pub OneModule : Type 0
OneModule = (items : List Item) → (a b : Module) → Derives items a → Derives items b → a ≡ b

abbrev read : List Item → Reading
read xs = Ok xs

items_are : (xs ys : List Item) → read xs ≡ read ys → xs ≡ ys
items_are xs ys e = cc

-- ---- parts that are one

abbrev made : List ℕ → ModeTable → List (List ℕ) → List Compiled → List ℕ → ObjectParts
made title records strings bs taken = record { title = title; records = records; strings = strings; bricks = bs; taken = taken }

parts_are : (o q : ObjectParts) → o.title ≡ q.title → o.records ≡ q.records → o.strings ≡ q.strings → o.bricks ≡ q.bricks → o.taken ≡ q.taken → o ≡ q
parts_are o q a b c d e =
    ap (λ (x : List ℕ). made x o.records o.strings o.bricks o.taken) a
    ∙ ap (λ (x : ModeTable). made q.title x o.strings o.bricks o.taken) b
    ∙ ap (λ (x : List (List ℕ)). made q.title q.records x o.bricks o.taken) c
    ∙ ap (λ (x : List Compiled). made q.title q.records q.strings x o.taken) d
    ∙ ap (λ (x : List ℕ). made q.title q.records q.strings q.bricks x) e

module _ (one_reading : HaveOneReading) (one_module : OneModule) (one_tree : OneTree) (told : TablesTellOnce) where
  same_tree : (text : List ℕ) (t u : ModuleParts) → IsTree text t → IsTree text u → t ≡ u
  same_tree text t u a b =
      let s = a.is_source in
      let r = b.is_source in
      let items : r.items ≡ s.items = items_are r.items s.items (one_reading text (read r.items) (read s.items) r.read s.read) in
      let source = one_module s.items a.source b.source s.derived (subst (λ (xs : List Item). Derives xs b.source) items r.derived) in
      one_tree b.source t u (subst (λ (m : Module). IsTyped m t) source a.typed) b.typed

  -- ---- the object of a tree

  same_with : (l : Layouts) (p : ModuleParts) (o q : ObjectParts) → IsObjectWith l p o → IsObjectWith l p q → o ≡ q
  same_with l p o q a b =
      parts_are o q (a.title ∙ sym b.title) (a.records ∙ sym b.records) (a.strings ∙ sym b.strings)
      (same_somes o.bricks q.bricks (a.bricks ∙ sym b.bricks))
      (one_taken p o.taken q.taken a.taken b.taken)

  same_object : (p : ModuleParts) (o q : ObjectParts) → IsObjectOf p o → IsObjectOf p q → o ≡ q
  same_object p o q a b =
      same_with b.layouts p o q (subst (λ (l : Layouts). IsObjectWith l p o) (one_layout told p a.layouts b.layouts a.right b.right) a.object) b.object

  pub one_object : OneObject
  one_object text o q a b =
      same_object b.tree o q (subst (λ (t : ModuleParts). IsObjectOf t o) (same_tree text a.tree b.tree a.is_tree b.is_tree) a.object) b.object

  pub one_of_tree : OneOfTree
  one_of_tree text other t o a b is = record {
    tree = t;
    is_tree = b;
    object = subst (λ (u : ModuleParts). IsObjectOf u o) (same_tree text is.tree t is.is_tree a) is.object;
  }

  -- ---- code that is too long

  not_both : (m : IModule) (name : List ℕ) → AreShort m → IsTooLong m name → ⊥
  not_both m name short h = let few = short h.number h.proc h.at in let many = h.long in omega arith

  not_in_one : (p : ModuleParts) (o : ObjectParts) (name : List ℕ) → IsObjectOf p o → HasLongProc p name → ⊥
  not_in_one p o name a b =
      not_both (intermediate b.layouts p) name (subst (λ (l : Layouts). AreShort (intermediate l p)) (one_layout told p a.layouts b.layouts a.right b.right) a.object.short) b.long

  pub none_with_long_code : NoneWithLongCode
  none_with_long_code text o name a b =
      not_in_one b.tree o name (subst (λ (t : ModuleParts). IsObjectOf t o) (same_tree text a.tree b.tree a.is_tree b.is_tree) a.object) b.long

  names_are : (p q : IProc) (o : Option IProc) (name other : List ℕ) → o ≡ Some p → o ≡ Some q → p.name ≡ name → q.name ≡ other → name ≡ other
  names_are p q o name other a b c d = sym c ∙ ap (λ (r : IProc). r.name) (some_is p q (sym a ∙ b)) ∙ d

  first_is : (m : IModule) (name other : List ℕ) (a : IsTooLong m name) (b : IsTooLong m other) → (a.number < b.number → ⊥) → (b.number < a.number → ⊥) → name ≡ other
  first_is m name other a b below above =
      let same : b.number ≡ a.number = omega arith in
      names_are a.proc b.proc (slice_get m.procs a.number) name other a.at (subst (λ (k : ℕ). slice_get m.procs k ≡ Some b.proc) same b.at) a.named b.named

  one_long : (m : IModule) (name other : List ℕ) → IsTooLong m name → IsTooLong m other → name ≡ other
  one_long m name other a b =
      first_is m name other a b
      (λ h. let few = b.before a.number a.proc h a.at in let many = a.long in omega arith)
      (λ h. let few = a.before b.number b.proc h b.at in let many = b.long in omega arith)

  one_in_one : (p : ModuleParts) (name other : List ℕ) → HasLongProc p name → HasLongProc p other → name ≡ other
  one_in_one p name other a b =
      one_long (intermediate b.layouts p) name other (subst (λ (l : Layouts). IsTooLong (intermediate l p) name) (one_layout told p a.layouts b.layouts a.right b.right) a.long) b.long

  pub one_long_code : OneLongCode
  one_long_code text name other a b =
      one_in_one b.tree name other (subst (λ (t : ModuleParts). HasLongProc t name) (same_tree text a.tree b.tree a.is_tree b.is_tree) a.long) b.long
