use Rattle.std.proofs.Common.{◌≡◌, ℕ, ◌+◌, ◌<◌, ◌≤◌, List, [], ◌∷◌, ◌++◌, length, map, drop, get_or, sym, ap, ◌∙◌, arith, append_assoc, subst, inl, inr, Some}
use Rattle.std.specs.Prelude.{slice_get}
use Rattle.std.proofs.lemmas.List.{drop_all}
use Rattle.std.proofs.lemmas.Option.{get_or_from_slice_get, slice_get_within}
use Rattle.std.proofs.lemmas.Bool.{cases_lt}
use Rattle.rt_icode.specs.declared.procedure.IProc.{IProc}
use Rattle.rt_templates.specs.Expanded.{most, proc_of, size_of}
use Rattle.rt_templates.proofs.Behind.{drop_next, append_nil}
use Rattle.rt_templates.proofs.expansion.expand.Goals as goal

abbrev AreShort : List IProc → ℕ → Type 0
AreShort ms n = (k : ℕ) (p : IProc) → k < n → slice_get ms k ≡ Some p → size_of p.code ≤ most

-- a procedure more that isn't too long
one_more : (ms : List IProc) (n : ℕ) (q : IProc) → q ≡ get_or ms n q → size_of q.code ≤ most → AreShort ms n → AreShort ms (n + 1)
one_more ms n q is short before k p below at = elim (cases_lt k n) [ inl h ↦ before k p h at | inr h ↦ let same : k ≡ n = omega arith in subst (λ (v : IProc). size_of v.code ≤ most) (is ∙ ap (λ j. get_or ms j q) (sym same) ∙ get_or_from_slice_get ms k p q at) short ]

pub loop-p-preserved : goal.loop-p-preserved
loop-p-preserved c =
    let ms = c.args.m.now.procs in
    let n = c.loop-p.p-index in
    let p = c.p-item.result in
    let same = c.as_slice-p-items.ensures in
    let at : p ≡ get_or ms n p = c.p-item.is ∙ ap (λ v. get_or v n p) same in
    let within : n < length ms = omega (arith, c.loop-p-test.true, ap length same) in
    let here = drop_next ms n p within at in
    let added = c.in_ok-add.ensures.added in
    let front = ap (λ v. v ++ map proc_of (drop (n + 1) ms)) added.0 ∙ append_assoc c.loop-p.procs (proc_of p ∷ []) (map proc_of (drop (n + 1) ms)) ∙ sym (ap (λ v. c.loop-p.procs ++ map proc_of v) here) in
    (front ∙ c.loop-p.invariant.0, one_more ms n p at added.1 c.loop-p.invariant.1)

pub returns-clause-code : goal.returns-clause-code
returns-clause-code c =
    let ms = c.args.m.now.procs in
    let n = c.loop-p.p-index in
    let past : length ms ≤ n = omega (arith, c.loop-p-test.false, ap length c.as_slice-p-items.ensures) in
    record {
      procs = sym (ap (λ v. c.loop-p.procs ++ map proc_of v) (drop_all n ms past) ∙ append_nil c.loop-p.procs) ∙ c.loop-p.invariant.0;
      each = λ k p at. let within = slice_get_within ms k p at in c.loop-p.invariant.1 k p (omega arith) at;
    }
