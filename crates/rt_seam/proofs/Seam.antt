-- The support code and the procedures of a linked system are as Built asks.
use Rattle.std.specs.Prelude.{max, sum}
use Rattle.std.proofs.Common.{◌==◌, true, false, Bool, ◌≡◌, ℕ, zero, suc, ◌+◌, ◌-◌, ◌*◌, ◌≤◌, nat_le, if◌then◌else◌, List, [], ◌∷◌, length, map, Option, Some, slice_get, slice_set, slice_index, refl, sym, ap, ◌∙◌, subst, arith}
use Rattle.std.proofs.lemmas.Bool.Decides.{nat_tests}
use Rattle.rt_words.specs.Word.{wrap_add}
use Rattle.rt_modes.specs.declared.mode.Mode.{Mode, out-Mode}
use Rattle.rt_modes.specs.declared.mode.Mode.TheOpen.{Mode-F}
use Rattle.rt_tree_nodes.specs.declared.brick.BrickSort.TheVariants as sort
use Rattle.rt_tree_nodes.specs.declared.brick.ProcBody.{ProcBody}
use Rattle.rt_tree_nodes.specs.Typing.{signature_by}
use Rattle.rt_tree_nodes.specs.declared.store.Proc.{Proc}
use Rattle.rt_tree.specs.Stored.{brick}
use Rattle.rt_tree.specs.Within.{parameters_by, parameters_of}
use Rattle.rt_object.specs.declared.object.Brick.{Brick as Compiled}
use Rattle.rt_object.specs.declared.object.Content.TheVariants as content
use Rattle.rt_object.specs.declared.object.ObjectParts.{ObjectParts}
use Rattle.rt_object.specs.declared.object.ProcContent.{ProcContent}
use Rattle.rt_graph.specs.Calls.{numbered, content_of}
use Rattle.rt_icode.specs.Within.{is_enter}
use Rattle.rt_icode.specs.Weights.{unmarked_of}
use Rattle.rt_template_meaning.specs.Picture.{quiet_before}
use Rattle.rt_template_meaning.proofs.Placing.{quiet_total}
use Rattle.rt_imaged.specs.Whole.{items_in, brick_items, most_of, most_items}
use Rattle.rt_seam.proofs.Addresses.{mode_at, addresses_are_those}
use Rattle.rt_object.specs.Ranges.{IsProcLayer}
use Rattle.rt_object.specs.declared.object.Relocation.{Relocation}
use Rattle.rt_match.specs.declared.bindings.Bound.{Bound}
use Rattle.rt_icode.specs.declared.ins.Ins.{Ins}
use Rattle.rt_templates.specs.Supported.{begins, routines}
use Rattle.rt_templates.specs.Expanded as expanded
use Rattle.rt_templates.specs.Layouts.{layout_of}
use Rattle.rt_templates.specs.Templates.{template}
use Rattle.rt_templates_laws.specs.Laws.{relocated, AddressesAreFilled}
use Rattle.rt_link.specs.Named.{routine_address, named_address, relocated_word}
use Rattle.rt_link.specs.Relocated.{patched}
use Rattle.pdp_symbolic.specs.Machine as Machine
use Rattle.rt_follows.specs.Whole.{Whole, Home}
use Rattle.rt_follows.specs.Held.{layout}
use Rattle.rt_template_meaning.specs.Lines.{LinesAt}
use Rattle.rt_template_meaning.proofs.Standing as standing
use Rattle.rt_imaged.specs.Coded.{MarksAt, ProcStands}
use Rattle.rt_imaged.specs.Compiled.{lowered}
use Rattle.rt_imaged.proofs.Seated.{support_does_stand}
use Rattle.rt_imaged.proofs.Compiling.{procs_are_compiled}
use Rattle.rt_imaged.proofs.Seated.{procs_do_stand}
use Rattle.rt_compile.specs.Objects.{procedure_of}
use Rattle.rt_seam.specs.Seam.{SupportIsAt, ProcsAreLowered, SystemsAreBuilt, body_of}

picked : (b : Bool) (x : ℕ) → b ≡ true → (if b then x else 0) ≡ x
picked true x e = refl
picked false x e = absurd cc

entry_of_support : (n : ℕ) → routine_address n ≡ begins 0 routines n
unfolding routine_address
entry_of_support n = refl

pub support_is_at : SupportIsAt
support_is_at laws ps ls os tasks image mapped s h = record {
  code = support_does_stand laws ps ls os tasks image mapped s h;
  entries = λ n some few. entry_of_support n;
  procs = λ n some few. picked (nat_le n 10) (routine_address n) (grind (arith, nat_tests));
}

-- ---- relocations are applied as the laws of templates do

relocated_same : (os : List ObjectParts) (stacks : List Proc) (of : List (List Bound)) (m : ℕ) (rs : List Relocation) (ws : List ℕ) → patched (relocated_word os stacks of m) rs ws ≡ relocated (named_address os stacks of m) rs ws
relocated_same os stacks of m [] ws = refl
relocated_same os stacks of m (r ∷ rs) ws = relocated_same os stacks of m rs (slice_set ws r.place (wrap_add (named_address os stacks of m r.of) r.offset))

marks_same : (w : Whole) (a : ℕ) (ms : List ℕ) → MarksAt w a ms → standing.MarksAt w a ms
marks_same w a [] h = tt
marks_same w a (m ∷ ms) h = (h.0, marks_same w (wrap_add a 2) ms h.1)

lines_of : (fill : AddressesAreFilled) (w : Whole) (h : Home) (os : List ObjectParts) (stacks : List Proc) (of : List (List Bound)) (m b : ℕ) (code : List Ins)
    → ProcStands w h (patched (relocated_word os stacks of m) (expanded.code_of code).relocations (expanded.code_of code).words) (expanded.code_of code).marks m b
    → (k : ℕ) (i : Ins) → slice_get code k ≡ Some i → LinesAt w h (named_address os stacks of m) (wrap_add (w.entry (brick m b)) (slice_index (layout_of code).starts k)) (template (layout_of code) k i)
lines_of fill w h os stacks of m b code s =
    standing.code_stands w h (named_address os stacks of m) fill code (w.entry (brick m b)) s.small
    (subst (λ (ws : List ℕ). Machine.Stands (layout w h) (w.entry (brick m b)) ws) (relocated_same os stacks of m (expanded.code_of code).relocations (expanded.code_of code).words) s.words)
    (marks_same w (w.entry (brick m b)) (expanded.code_of code).marks s.marks_are)

counted : (mode : Mode) (qs : List Mode) (r : Option Mode) → out-Mode mode ≡ Mode-F.Proc qs r → length qs ≡ parameters_of mode
counted mode qs r e = sym (subst (λ (z : Mode-F Mode). by_layer z ≡ length qs) (sym e) refl)
  where
    by_layer : Mode-F Mode → ℕ
    by_layer z = parameters_by (signature_by z)

zero_first : (x y n : ℕ) → x + y ≤ n → 0 + x + y ≤ n
zero_first x y n h = omega arith

-- ---- the bound

most_there : {A : Type 0} (f : A → ℕ) (xs : List A) (i : ℕ) (x : A) → slice_get xs i ≡ Some x → f x ≤ most_of f xs
most_there f [] i x e = absurd cc
most_there f (y ∷ xs) zero x e = let is : y ≡ x = cc in let same : f y ≡ f x = ap f is in omega arith
most_there f (y ∷ xs) (suc i) x e = let rest = most_there f xs i x e in omega arith

at_number : (os : List ObjectParts) (m : ℕ) (o : ObjectParts) → numbered os m ≡ Some o → (i : ℕ) × (slice_get os i ≡ Some o)
at_number os zero o e = absurd cc
at_number os (suc i) o e = (i, e)

all_items : ObjectParts → ℕ
all_items o = most_of brick_items o.bricks

bound_enough : (os : List ObjectParts) (m b : ℕ) (o : ObjectParts) (d : Compiled) (x : ProcContent) → numbered os m ≡ Some o → slice_get o.bricks b ≡ Some d → content_of d.kind ≡ Some (content.Proc x) → x.items ≤ most_items os
unfolding all_items
bound_enough os m b o d x of at is =
    let i = at_number os m o of in
    let mine : brick_items d ≡ x.items = ap items_in is in
    let one = most_there brick_items o.bricks b d at in
    let two = most_there all_items os i.0 o i.1 in
    omega arith

first_of : (k : ℕ) (t : Bool) → t ≡ (k == 0) → t ≡ true → k ≡ 0
first_of k t a b = let c : (k == 0) ≡ true = sym a ∙ b in grind (arith, nat_tests)

opened : (z : Mode-F Mode) → IsProcLayer z → (qs : List Mode) × (r : Option Mode) × (z ≡ Mode-F.Proc qs r)
opened (Mode-F.Proc qs r) h = (qs, r, refl)
opened _ h = absurd h

pub procs_are_lowered : ProcsAreLowered
procs_are_lowered laws fill ps ls os tasks image mapped s so trees bind h m b p d mode body has here is c o =
    let known = s.linked.known in
    let content_is = procedure_of mode c.body.items c.its_frame (expanded.code_of (lowered c.layouts p b mode c.body)) in
    let stood = procs_do_stand laws ps ls os tasks image mapped s h m b c.object c.its content_is c.of c.there c.holds in
    let addresses = addresses_are_those ps ls os tasks image mapped s bind m p has.of in
    let many = o.locals in
    let opens = opened (out-Mode mode) (trees.procs m p b mode has.of (mode_at p.bricks b d mode body has.at is)) in
    let items = bound_enough os m b c.object c.its content_is c.of c.there c.holds in
    let unmarked = o.within.unmarked in
    let quiet = quiet_total (lowered c.layouts p b mode c.body) in
    record {
      brick_is = d;
      mode = mode;
      body = c.body;
      parameters = opens.0;
      answer = opens.1;
      has = has;
      here = here;
      sort_is = is ∙ ap (λ (z : Option ProcBody). sort.Proc mode z) c.has_body;
      opens = opens.2;
      counts = counted mode opens.0 opens.1 opens.2;
      locals = omega (arith, many);
      lowers = o.lowers;
      frame = o.frame;
      at = named_address os known.stacks known.bindings.of m;
      stands = record {
        sound = so;
        of = has.of;
        named = addresses.named;
        enters = refl;
        lines = lines_of fill _ h os known.stacks known.bindings.of m b (lowered c.layouts p b mode c.body) stood;
        own = addresses.own b d mode body has here is;
        fixed = o.fixed;
        routines = λ k x e. (let v = o.routines k x e in addresses.procs x v.0 v.1);
        invoked = λ k x n gives e. (let v = o.invoked k x n gives e in addresses.procs x v.0 v.1);
        texts = addresses.texts;
        support = λ n. refl;
        reports = o.within.reports;
        once = λ k i e f. first_of k (is_enter i) (o.within.enters k i e) f;
        few = few_by (quiet_before (lowered c.layouts p b mode c.body) (length (lowered c.layouts p b mode c.body))) (sum (map unmarked_of (lowered c.layouts p b mode c.body))) c.body.items (most_items os) quiet unmarked items;
        needs = zero_first (length c.body.locals - parameters_of mode) (2 + o.size) _ o.needs;
      };
      no_recovery = o.no_recovery;
    }
  where
    few_by : (q t n k : ℕ) → q ≡ t → t ≤ 24 * n → n ≤ k → q ≤ max 144 (24 * k)
    few_by q t n k a b c = omega arith

pub systems_are_built : SystemsAreBuilt
systems_are_built laws fill compiles ps ls os tasks image mapped s fits so trees bind lays reports owed = record {
  lays = lays;
  support = λ h sits. support_is_at laws ps ls os tasks image mapped s h;
  reports = reports;
  compiled = λ h sits m b p d mode body has here is reached.
      let c = procs_are_compiled ps ls os tasks image mapped s m b p d mode body has here is in
      let o = owed m b p d mode c.body c.layouts has here (is ∙ ap (λ (z : Option ProcBody). sort.Proc mode z) c.has_body) c.at reached in
      (body_of c.layouts m p b mode c.body o.size, refl, compiles _ h (body_of c.layouts m p b mode c.body o.size) fits (procs_are_lowered laws fill ps ls os tasks image mapped s so trees bind h m b p d mode body has here is c o));
}
