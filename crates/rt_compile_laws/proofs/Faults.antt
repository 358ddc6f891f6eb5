-- A text has one fault: of its items, else of the grammar, else of the checker, else of its code.
use Rattle.std.proofs.Common.{◌≡◌, ◌⊎◌, inl, inr, ℕ, ◌+◌, ◌<◌, ◌≤◌, ◌==◌, if◌then◌else◌, arith, List, Option, Some, Ok, Err, length, drop, slice_get, refl, sym, ap, ◌∙◌, subst}
use Rattle.rt_pieces.specs.declared.item.Item.{Item}
use Rattle.rt_pieces.specs.declared.fault.TextFault.{TextFault}
use Rattle.rt_items.specs.Lets.{Reading, Items, HaveOneReading}
use Rattle.rt_grammar.specs.declared.at.At.{At}
use Rattle.rt_grammar.specs.Parts.{Part}
use Rattle.rt_syntax_exprs.specs.declared.limits.Context.{Context}
use Rattle.rt_syntax.specs.Derives.{language_limits, BeginsWithin, IsViable, PassesLimit, IsUnfit, IsRefusedAt, last_line, line_or_one}
use Rattle.rt_bricks.specs.declared.tree.Module.{Module}
use Rattle.rt_bricks.specs.Derives.{Derives}
use Rattle.rt_bricks.specs.Modules.{module_of}
use Rattle.rt_check_faults.specs.declared.fault.CheckFault.{CheckFault}
use Rattle.rt_check_faults.specs.declared.fault.CheckFault.TheVariants as check
use Rattle.rt_check_faults.specs.Outcomes.{number_of, item_of}
use Rattle.rt_tree_nodes.specs.declared.brick.ModuleParts.{ModuleParts}
use Rattle.rt_check_module.specs.Typed.{IsTyped}
use Rattle.rt_check.specs.Whole.{Refuses}
use Rattle.rt_check.specs.Laws.{NoTreeWithFaults}
use Rattle.rt_check.specs.Texts.{IsSource, IsTree, IsNoModule, IsUnfit as IsUnfitText, in_line, in_lines}
use Rattle.rt_check_laws.specs.Laws.{OneFault}
use Rattle.rt_compile.specs.declared.fault.CompileFault.{CompileFault}
use Rattle.rt_compile.specs.declared.fault.CompileFault.TheVariants.{Memory, Text, Syntax, Check, ProcTooLong, Beyond}
use Rattle.rt_compile.specs.Laws.{OneLongCode}
use Rattle.rt_compile.specs.Texts.{IsFault}
use Rattle.rt_compile_laws.specs.Faults.{AreOne, HasPlace, IsOfText, TextsHaveOneFault}

-- ---- the first unfit item

module _ {A : Type 0} (part : Context → Part A) (items : List Item) (at : ℕ) where
  none_sooner : (n m : ℕ) → IsUnfit part items at n → BeginsWithin part language_limits items at (n + 1) → ⊥
  unfolding PassesLimit IsViable
  none_sooner n m h begins = (h.with_it (language_limits, begins)).1 begins

  not_before : (n m : ℕ) → IsUnfit part items at n → IsUnfit part items at m → n < m → ⊥
  not_before n m h k less = none_sooner n m h (k.before (n + 1) (omega (arith, h.from)) (omega (arith, less)))

  either : (n m : ℕ) → (n ≡ m) ⊎ ((n < m) ⊎ (m < n))
  either n m = grind arith

  same_place : (n m : ℕ) → IsUnfit part items at n → IsUnfit part items at m → n ≡ m
  same_place n m h k = by (either n m) where
    by : (n ≡ m) ⊎ ((n < m) ⊎ (m < n)) → n ≡ m
    by (inl e) = e
    by (inr (inl less)) = absurd (not_before n m h k less)
    by (inr (inr less)) = absurd (not_before m n k h less)

  one_line : (l m : ℕ) → IsRefusedAt part items at l → IsRefusedAt part items at m → l ≡ m
  one_line l m (inl h) (inl k) = same_lines (same_place h.0 k.0 h.2 k.2) where
    same_lines : h.0 ≡ k.0 → l ≡ m
    same_lines e =
        let some : Option.Some h.1 ≡ Option.Some k.1 = sym h.3 ∙ ap (slice_get items) e ∙ k.3 in
        let item : h.1 ≡ k.1 = cc in
        h.4 ∙ ap (λ (i : Item). i.line) item ∙ sym k.4
  one_line l m (inl h) (inr k) = absurd (none_sooner h.0 0 h.2 (k.0 (h.0 + 1) (omega (arith, h.2.from)) (omega (arith, h.2.there))))
  one_line l m (inr h) (inl k) = absurd (none_sooner k.0 0 k.2 (h.0 (k.0 + 1) (omega (arith, k.2.from)) (omega (arith, k.2.there))))
  one_line l m (inr h) (inr k) = h.1 ∙ sym k.1

-- ---- the fault of one item and one number

abbrev form_of : CheckFault → ℕ
form_of (check.LeftOut form at) = form
form_of _ = 0

-- the fault of this number, which is told by this form, at this place
abbrev numbered : ℕ → ℕ → At → CheckFault
numbered n form at =
    if n == 20 then check.UnknownName at else if n == 21 then check.WrongMode at else if n == 22 then check.NotAssignable at else if n == 23 then check.WrongCount at
    else if n == 24 then check.RefOfLocal at else if n == 25 then check.LeftOut form at else if n == 26 then check.DeclaredTwice at else if n == 27 then check.BadStart at
    else if n == 28 then check.UnknownLabel at else check.NoResult at

abbrev line_of_item : List Item → ℕ → At
line_of_item items n = in_line items (record { item = n; line = 0 })

renumbered : (items : List Item) (f : CheckFault) → HasPlace (in_lines items f) → in_lines items f ≡ numbered (number_of f) (form_of f) (line_of_item items (item_of f))
renumbered items check.Memory h = absurd h
renumbered items (check.UnknownName at) h = refl
renumbered items (check.WrongMode at) h = refl
renumbered items (check.NotAssignable at) h = refl
renumbered items (check.WrongCount at) h = refl
renumbered items (check.RefOfLocal at) h = refl
renumbered items (check.LeftOut form at) h = refl
renumbered items (check.DeclaredTwice at) h = refl
renumbered items (check.BadStart at) h = refl
renumbered items (check.UnknownLabel at) h = refl
renumbered items (check.NoResult at) h = refl
renumbered items check.Unknown h = absurd h

but_for_the_form : (items : List Item) (f : CheckFault) (form : ℕ) → HasPlace (in_lines items f) → AreOne (Check (in_lines items f)) (Check (numbered (number_of f) form (line_of_item items (item_of f))))
but_for_the_form items check.Memory form h = absurd h
but_for_the_form items (check.UnknownName at) form h = AreOne.same
but_for_the_form items (check.WrongMode at) form h = AreOne.same
but_for_the_form items (check.NotAssignable at) form h = AreOne.same
but_for_the_form items (check.WrongCount at) form h = AreOne.same
but_for_the_form items (check.RefOfLocal at) form h = AreOne.same
but_for_the_form items (check.LeftOut k at) form h = AreOne.forms
but_for_the_form items (check.DeclaredTwice at) form h = AreOne.same
but_for_the_form items (check.BadStart at) form h = AreOne.same
but_for_the_form items (check.UnknownLabel at) form h = AreOne.same
but_for_the_form items (check.NoResult at) form h = AreOne.same
but_for_the_form items check.Unknown form h = absurd h

alike : (items : List Item) (f g : CheckFault) → item_of f ≡ item_of g → number_of f ≡ number_of g → HasPlace (in_lines items f) → HasPlace (in_lines items g) → AreOne (Check (in_lines items f)) (Check (in_lines items g))
alike items f g item number h k =
    let same = ap (λ (n : ℕ). numbered n (form_of g) (line_of_item items (item_of f))) number ∙ ap (λ (i : ℕ). numbered (number_of g) (form_of g) (line_of_item items i)) item ∙ sym (renumbered items g k) in
    subst (λ (x : CheckFault). AreOne (Check (in_lines items f)) (Check x)) same (but_for_the_form items f (form_of g) h)

-- ---- the stages of a text

abbrev OneModule : Type 0
OneModule = (items : List Item) → (a b : Module) → Derives items a → Derives items b → a ≡ b

abbrev read : List Item → Reading
read xs = Ok xs

abbrev cut_short : TextFault → Reading
cut_short f = Err f

module _ (one_reading : HaveOneReading) (one_module : OneModule) (no_tree : NoTreeWithFaults) (one_fault : OneFault) (one_long : OneLongCode) (text : List ℕ) where
  same_items : (xs ys : List Item) → Items text (Ok xs) → Items text (Ok ys) → xs ≡ ys
  same_items xs ys h k = let e : read xs ≡ read ys = one_reading text (read xs) (read ys) h k in cc

  same_fault : (f g : TextFault) → Items text (Err f) → Items text (Err g) → f ≡ g
  same_fault f g h k = let e : cut_short f ≡ cut_short g = one_reading text (cut_short f) (cut_short g) h k in cc

  no_items : (f : TextFault) (xs : List Item) → Items text (Err f) → Items text (Ok xs) → ⊥
  no_items f xs h k = let e : cut_short f ≡ read xs = one_reading text (cut_short f) (read xs) h k in absurd cc

  no_module : (l : ℕ) (m : Module) → IsNoModule text l → IsSource text m → ⊥
  no_module l m h s = h.none m (subst (λ (xs : List Item). Derives xs m) (same_items s.items h.items s.read h.read) s.derived)

  same_line : (l m : ℕ) → IsNoModule text l → IsNoModule text m → l ≡ m
  same_line l m h k = one_line module_of h.items 0 l m h.refused (subst (λ (xs : List Item). IsRefusedAt module_of xs 0 m) (same_items k.items h.items k.read h.read) k.refused)

  same_source : (a b : Module) → IsSource text a → IsSource text b → a ≡ b
  same_source a b s r = one_module s.items a b s.derived (subst (λ (xs : List Item). Derives xs b) (same_items r.items s.items r.read s.read) r.derived)

  unfit_or_typed : (f : CheckFault) (t : ModuleParts) → IsUnfitText text f → IsTree text t → ⊥
  unfit_or_typed f t h k = no_tree h.source t h.refused.fault (subst (λ (m : Module). IsTyped m t) (same_source k.source h.source k.is_source h.is_source) k.typed) h.refused.refused

  same_unfit : (f g : CheckFault) → IsUnfitText text f → IsUnfitText text g → HasPlace f → HasPlace g → AreOne (Check f) (Check g)
  same_unfit f g h k p q =
      let xs = h.is_source.items in
      let items : k.is_source.items ≡ xs = same_items k.is_source.items xs k.is_source.read h.is_source.read in
      let told : g ≡ in_lines xs k.refused.fault = k.refused.is_told ∙ ap (λ (ys : List Item). in_lines ys k.refused.fault) items in
      let refused : Refuses h.source.declarations k.refused.fault = subst (λ (m : Module). Refuses m.declarations k.refused.fault) (same_source k.source h.source k.is_source h.is_source) k.refused.refused in
      let one = one_fault h.source.declarations h.refused.fault k.refused.fault h.refused.refused refused in
      let are = alike xs h.refused.fault k.refused.fault one.0 one.1 (subst HasPlace h.refused.is_told p) (subst HasPlace told q) in
      subst (λ (y : CheckFault). AreOne (Check f) (Check y)) (sym told) (subst (λ (x : CheckFault). AreOne (Check x) (Check (in_lines xs k.refused.fault))) (sym h.refused.is_told) are)

  same : (f g : CompileFault) → f ≡ g → AreOne f g
  same f g e = subst (AreOne f) e AreOne.same

  have_one : (f g : CompileFault) → IsFault text f → IsFault text g → IsOfText f → IsOfText g → AreOne f g
  have_one Memory g h k p q = absurd p
  have_one Beyond g h k p q = absurd p
  have_one (Text f) Memory h k p q = absurd q
  have_one (Text f) Beyond h k p q = absurd q
  have_one (Text f) (Text g) h k p q = same (Text f) (Text g) (ap Text (same_fault f g h k))
  have_one (Text f) (Syntax m) h k p q = absurd (no_items f k.items h k.read)
  have_one (Text f) (Check g) h k p q = absurd (no_items f k.is_source.items h k.is_source.read)
  have_one (Text f) (ProcTooLong n) h k p q = absurd (no_items f k.is_tree.is_source.items h k.is_tree.is_source.read)
  have_one (Syntax l) Memory h k p q = absurd q
  have_one (Syntax l) Beyond h k p q = absurd q
  have_one (Syntax l) (Text g) h k p q = absurd (no_items g h.items k h.read)
  have_one (Syntax l) (Syntax m) h k p q = same (Syntax l) (Syntax m) (ap Syntax (same_line l m h k))
  have_one (Syntax l) (Check g) h k p q = absurd (no_module l k.source h k.is_source)
  have_one (Syntax l) (ProcTooLong n) h k p q = absurd (no_module l k.is_tree.source h k.is_tree.is_source)
  have_one (Check f) Memory h k p q = absurd q
  have_one (Check f) Beyond h k p q = absurd q
  have_one (Check f) (Text g) h k p q = absurd (no_items g h.is_source.items k h.is_source.read)
  have_one (Check f) (Syntax m) h k p q = absurd (no_module m h.source k h.is_source)
  have_one (Check f) (Check g) h k p q = same_unfit f g h k p q
  have_one (Check f) (ProcTooLong n) h k p q = absurd (unfit_or_typed f k.tree h k.is_tree)
  have_one (ProcTooLong n) Memory h k p q = absurd q
  have_one (ProcTooLong n) Beyond h k p q = absurd q
  have_one (ProcTooLong n) (Text g) h k p q = absurd (no_items g h.is_tree.is_source.items k h.is_tree.is_source.read)
  have_one (ProcTooLong n) (Syntax m) h k p q = absurd (no_module m h.is_tree.source k h.is_tree.is_source)
  have_one (ProcTooLong n) (Check g) h k p q = absurd (unfit_or_typed g h.tree k h.is_tree)
  have_one (ProcTooLong n) (ProcTooLong m) h k p q = same (ProcTooLong n) (ProcTooLong m) (ap ProcTooLong (one_long text n m h k))

pub texts_have_one_fault : HaveOneReading → OneModule → NoTreeWithFaults → OneFault → OneLongCode → TextsHaveOneFault
texts_have_one_fault one_reading one_module no_tree one_fault one_long text = have_one one_reading one_module no_tree one_fault one_long text
