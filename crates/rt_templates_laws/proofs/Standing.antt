-- Where the words of instructions stand.
use Rattle.std.proofs.Common.{◌≡◌, ℕ, zero, suc, ◌+◌, ◌*◌, ◌<◌, List, [], ◌∷◌, ◌++◌, length, map, sum, refl, sym, ap, ◌∙◌, append_assoc, arith, length-append, Some}
use Rattle.std.specs.Prelude.{slice_get, slice_index}
use Rattle.rt_icode.specs.declared.ins.Ins.{Ins}
use Rattle.rt_icode.specs.declared.procedure.IProc.{IProc}
use Rattle.rt_icode.specs.Weights.{words_of}
use Rattle.rt_icode.specs.Within.{IsWithin, leads}
use Rattle.rt_templates.specs.declared.layout.Layout.{Layout}
use Rattle.rt_templates.specs.Lines.{words}
use Rattle.rt_templates.specs.Layouts.{layout_of, starts}
use Rattle.rt_templates.specs.Templates.{template, templates}
use Rattle.rt_templates.specs.Expanded.{code_of}
use Rattle.rt_templates_laws.specs.Laws.{StandsAt}
use Rattle.rt_icode.proofs.Weights.{weighs_some, weigh_cons}
use Rattle.rt_templates.proofs.Behind.{words_append, none_some}
use Rattle.rt_templates.proofs.Lengths.{weighs}
use Rattle.rt_templates_laws.proofs.Weighing.{code_weighs}

some_same : {A : Type 0} {x y : A} → Some x ≡ Some y → x ≡ y
some_same e = cc

-- the words of instruction k, of those from number n on, where the first begins at an address
stand : (f : Layout) (n at : ℕ) (is : List Ins) (k : ℕ) (i : Ins) → slice_get is k ≡ Some i → (m : ℕ) → m ≡ n + k → (before : List ℕ) → 2 * length before ≡ at
    → StandsAt (words (template f m i)) (before ++ words (templates f n is)) (slice_index (starts at is) k)
stand f n at [] k i e m p before h = none_some e
stand f n at (j ∷ is) zero i e m p before h =
    let same : i ≡ j = sym (some_same e) in
    let here : m ≡ n = omega arith in
    record {
      before = before;
      behind = words (templates f (n + 1) is);
      is = rw (same, here) (ap (λ v. before ++ v) (words_append (template f n j) (templates f (n + 1) is)));
      place = h;
    }
stand f n at (j ∷ is) (suc k) i e m p before h =
    let first = words (template f n j) in
    let rest = words (templates f (n + 1) is) in
    let far : 2 * length (before ++ first) ≡ at + 2 * words_of j = omega (arith, length-append before first, weighs f n j) in
    let s = stand f (n + 1) (at + 2 * words_of j) is k i e m (omega arith) (before ++ first) far in
    let front : before ++ words (templates f n (j ∷ is)) ≡ (before ++ first) ++ rest = ap (λ v. before ++ v) (words_append (template f n j) (templates f (n + 1) is)) ∙ sym (append_assoc before first rest) in
    record { before = s.before; behind = s.behind; is = front ∙ s.is; place = s.place }

pub templates_stand : (code : List Ins) (k : ℕ) (i : Ins) → slice_get code k ≡ Some i → StandsAt (words (template (layout_of code) k i)) (code_of code).words (slice_index (layout_of code).starts k)
templates_stand code k i e = stand (layout_of code) 0 0 code k i e k (omega arith) [] refl

-- ---- ways

-- an instruction begins before the end
begins : (at : ℕ) (is : List Ins) (k : ℕ) → k < length is → slice_index (starts at is) k < at + 2 * sum (map words_of is)
begins at [] k h = absurd (omega arith)
begins at (i ∷ is) zero h = omega (arith, weighs_some i, weigh_cons i is)
begins at (i ∷ is) (suc k) h = omega (arith, begins (at + 2 * words_of i) is k (omega arith), weigh_cons i is)

pub ways_lead_inside : (p : IProc) → IsWithin p → (k : ℕ) (i : Ins) (to : ℕ) → slice_get p.code k ≡ Some i → leads k i ≡ Some to → slice_index (layout_of p.code).starts to < 2 * length (code_of p.code).words
ways_lead_inside p w k i to e l = omega (arith, begins 0 p.code to (w.ways k i to e l), code_weighs p.code)
