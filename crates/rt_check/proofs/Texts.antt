-- A text read, parsed and checked: what is known behind each of the three, and what a fault of each means.
use Rattle.std.proofs.Common.{◌≡◌, ◌⊎◌, inl, inr, ℕ, ◌≤◌, length, List, Result, Ok, Err, IfErr, arith, refl, sym, ap, ◌∙◌, subst}
use Rattle.std.specs.List.{AllByRecursion}
use Rattle.rt_bricks.specs.declared.tree.Module.{Module}
use Rattle.rt_bricks.specs.Derives.{Derives}
use Rattle.rt_check.specs.Derived.{IsDerived}
use Rattle.rt_items.specs.Lets.{Reading, Items}
use Rattle.rt_tree_nodes.specs.declared.brick.ModuleParts.{ModuleParts}
use Rattle.rt_check_faults.specs.declared.fault.CheckFault.{CheckFault}
use Rattle.rt_check_faults.specs.declared.fault.CheckFault.TheVariants as check
use Rattle.rt_check_faults.specs.Outcomes.{UnlessMemory}
use Rattle.rt_pieces.specs.declared.fault.TextFault.{TextFault}
use Rattle.rt_pieces.specs.declared.fault.TextFault.TheVariants as text
use Rattle.rt_pieces.specs.declared.item.Item.{Item}
use Rattle.rt_items.specs.Ranges.{IsByte}
use Rattle.rt_items.proofs.Expanded.{all_in_range}
use Rattle.rt_syntax.specs.declared.fault.SyntaxFault.{SyntaxFault}
use Rattle.rt_syntax.specs.declared.fault.SyntaxFault.TheVariants as syntax
use Rattle.rt_bricks.specs.Modules.{module_of}
use Rattle.rt_syntax.specs.Derives.{IsOrMemory, Refuses as Unfit}
use Rattle.rt_check_module.specs.Typed.{IsTyped}
use Rattle.rt_check.specs.Whole.{Refuses}
use Rattle.rt_check.specs.declared.fault.ModuleFault.{ModuleFault}
use Rattle.rt_check.specs.declared.fault.ModuleFault.TheVariants.{Memory, Check}
use Rattle.rt_check.specs.Faults.{of_text, of_syntax, of_check, IsAnswered}
use Rattle.rt_check.specs.Texts.{IsSource, IsFaultOf, IsTold, in_lines}

abbrev Answer : Type 0
Answer = Result ModuleParts ModuleFault

abbrev refused : ModuleFault → Answer
refused y = Err y

abbrev answered : ModuleParts → Answer
answered x = Ok x

-- ---- the items

abbrev has_items : List Item → Reading
has_items xs = Ok xs

abbrev has_fault : TextFault → Reading
has_fault f = Err f

pub same_items : (xs ys : List Item) → (has_items xs ≡ Err text.Memory) ⊎ (has_items xs ≡ Ok ys) → xs ≡ ys
same_items xs ys (inl e) = absurd cc
same_items xs ys (inr e) = cc

text_memory : (f : TextFault) → has_fault f ≡ Err text.Memory → f ≡ text.Memory
text_memory f e = cc

pub no_items : (t : ModuleParts) (r : Answer) (y : ModuleFault) (f : TextFault) (xs : List Item) → r ≡ Err y → y ≡ of_text f → (has_fault f ≡ Err text.Memory) ⊎ (has_fault f ≡ Ok xs) → IsAnswered t r
no_items t r y f xs is from (inl e) = inr (is ∙ ap refused (from ∙ ap of_text (text_memory f e)))
no_items t r y f xs is from (inr e) = absurd cc

-- ---- the module

pub no_module : (t : ModuleParts) (r : Answer) (y : ModuleFault) (f : SyntaxFault) (m : Module) → r ≡ Err y → y ≡ of_syntax f → IsOrMemory m (Err f) → IsAnswered t r
no_module t r y syntax.Memory m is from h = inr (is ∙ ap refused from)
no_module t r y (syntax.Syntax item line) m is from h = absurd h

pub no_source : (bytes : List ℕ) (items : List Item) (r : Answer) (y : ModuleFault) (f : SyntaxFault) → Items bytes (Ok items) → r ≡ Err y → y ≡ of_syntax f → Unfit module_of items 0 f → ((m : Module) → Derives items m → IsOrMemory m (Err f)) → IfErr r (IsFaultOf bytes)
no_source bytes items r y f read is from h only = subst (λ (x : Answer). IfErr x (IsFaultOf bytes)) (sym (is ∙ ap refused from)) (told f h only) where
  told : (f : SyntaxFault) → Unfit module_of items 0 f → ((m : Module) → Derives items m → IsOrMemory m (Err f)) → IsFaultOf bytes (of_syntax f)
  told syntax.Memory h only = tt
  told (syntax.Syntax item line) h only = record { items = items; read = read; none = only; refused = h.1 }

module _ (bytes : List ℕ) (small : AllByRecursion IsByte bytes) (items : List Item) (read : Items bytes (Ok items)) (few : length items ≤ 65535) (m : Module) (derived : Derives items m) where
  abbrev pub a_source : IsSource bytes m
  a_source = record { items = items; read = read; derived = derived }

  pub is_derived : IsDerived m
  is_derived = record { items = items; is_text = record { few = omega (arith, few); range = all_in_range bytes items small read; derived = derived } }

-- ---- the tree

abbrev has_tree : ModuleParts → Result ModuleParts CheckFault
has_tree x = Ok x

abbrev has_none : CheckFault → Result ModuleParts CheckFault
has_none f = Err f

same_tree : (x p : ModuleParts) → has_tree x ≡ Ok p → x ≡ p
same_tree x p e = cc

check_memory : (f : CheckFault) → has_none f ≡ Err check.Memory → f ≡ check.Memory
check_memory f e = cc

pub typed_as : (m n : Module) (t : ModuleParts) → m ≡ n → IsTyped n t → IsTyped m t
typed_as m n t e h = subst (λ (x : Module). IsTyped x t) (sym e) h

pub no_tree : (t p : ModuleParts) (r : Answer) (y : ModuleFault) (f : CheckFault) → r ≡ Err y → y ≡ of_check f → (has_none f ≡ Ok p) ⊎ (has_none f ≡ Err check.Memory) → IsAnswered t r
no_tree t p r y f is from (inl e) = absurd cc
no_tree t p r y f is from (inr e) = inr (is ∙ ap refused (from ∙ ap of_check (check_memory f e)))

pub a_tree : (t p x : ModuleParts) → t ≡ p → (has_tree x ≡ Ok p) ⊎ (has_tree x ≡ Err check.Memory) → IsAnswered t (answered x)
a_tree t p x is (inl e) = inl (ap answered (same_tree x p e ∙ sym is))
a_tree t p x is (inr e) = absurd cc

-- want of memory, or a fault of the checker
either_way : (f : CheckFault) (P : Type 0) → UnlessMemory f P → (of_check f ≡ Memory) ⊎ ((of_check f ≡ Check f) × P)
either_way check.Memory P h = inl refl
either_way (check.UnknownName at) P h = inr (refl, h)
either_way (check.WrongMode at) P h = inr (refl, h)
either_way (check.NotAssignable at) P h = inr (refl, h)
either_way (check.WrongCount at) P h = inr (refl, h)
either_way (check.RefOfLocal at) P h = inr (refl, h)
either_way (check.LeftOut form at) P h = inr (refl, h)
either_way (check.DeclaredTwice at) P h = inr (refl, h)
either_way (check.BadStart at) P h = inr (refl, h)
either_way (check.UnknownLabel at) P h = inr (refl, h)
either_way (check.NoResult at) P h = inr (refl, h)
either_way check.Unknown P h = inr (refl, h)

pub unfit : (bytes : List ℕ) (m : Module) (r : Answer) (y : ModuleFault) (f : CheckFault) (source : IsSource bytes m) → r ≡ Err y → y ≡ of_check f → UnlessMemory f (IsTold source.items m f) → IfErr r (IsFaultOf bytes)
unfit bytes m r y f source is from h = subst (λ (x : Answer). IfErr x (IsFaultOf bytes)) (sym (is ∙ ap refused from)) (by_case (either_way f (IsTold source.items m f) h)) where
  by_case : (of_check f ≡ Memory) ⊎ ((of_check f ≡ Check f) × IsTold source.items m f) → IsFaultOf bytes (of_check f)
  by_case (inl e) = subst (IsFaultOf bytes) (sym e) tt
  by_case (inr k) = subst (IsFaultOf bytes) (sym k.0) (record { source = m; is_source = source; refused = k.1 })

-- ---- the line of a fault

told : (items : List Item) (m : Module) (f : CheckFault) → Refuses m.declarations f → IsTold items m (in_lines items f)
told items m f h = record { fault = f; refused = h; is_told = refl }

pub in_its_line : (items : List Item) (m : Module) (f : CheckFault) → UnlessMemory f (Refuses m.declarations f) → UnlessMemory (in_lines items f) (IsTold items m (in_lines items f))
in_its_line items m check.Memory h = tt
in_its_line items m (check.UnknownName at) h = told items m (check.UnknownName at) h
in_its_line items m (check.WrongMode at) h = told items m (check.WrongMode at) h
in_its_line items m (check.NotAssignable at) h = told items m (check.NotAssignable at) h
in_its_line items m (check.WrongCount at) h = told items m (check.WrongCount at) h
in_its_line items m (check.RefOfLocal at) h = told items m (check.RefOfLocal at) h
in_its_line items m (check.LeftOut form at) h = told items m (check.LeftOut form at) h
in_its_line items m (check.DeclaredTwice at) h = told items m (check.DeclaredTwice at) h
in_its_line items m (check.BadStart at) h = told items m (check.BadStart at) h
in_its_line items m (check.UnknownLabel at) h = told items m (check.UnknownLabel at) h
in_its_line items m (check.NoResult at) h = told items m (check.NoResult at) h
in_its_line items m check.Unknown h = told items m check.Unknown h
