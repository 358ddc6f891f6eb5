-- How many words code has.
use Rattle.std.proofs.Common.{◌≡◌, ℕ, ◌+◌, ◌*◌, ◌≤◌, List, [], ◌∷◌, length, map, sum, refl, arith}
use Rattle.rt_icode.specs.declared.ins.Ins.{Ins}
use Rattle.rt_icode.specs.declared.procedure.IProc.{IProc}
use Rattle.rt_icode.specs.Weights.{words_of}
use Rattle.rt_icode.specs.Within.{IsWithin}
use Rattle.rt_icode.proofs.Weights.{weighs_some, weigh_cons}
use Rattle.rt_templates.specs.declared.layout.Layout.{Layout}
use Rattle.rt_templates.specs.Lines.{words}
use Rattle.rt_templates.specs.Layouts.{layout_of}
use Rattle.rt_templates.specs.Templates.{template, templates}
use Rattle.rt_templates.specs.Expanded.{most, code_of, size_of}
use Rattle.rt_templates.proofs.Lengths.{long, weighs}

pub has_some : (f : Layout) (k : ℕ) (i : Ins) → 1 ≤ length (words (template f k i))
has_some f k i = omega (arith, weighs f k i, weighs_some i)

pub all_weigh : (f : Layout) (k : ℕ) (is : List Ins) → length (words (templates f k is)) ≡ sum (map words_of is)
all_weigh f k [] = refl
all_weigh f k (i ∷ is) = omega (arith, long (template f k i) (templates f (k + 1) is), weighs f k i, all_weigh f (k + 1) is, weigh_cons i is)

pub code_weighs : (code : List Ins) → length (code_of code).words ≡ size_of code
code_weighs code = all_weigh (layout_of code) 0 code

pub code_is_within : (p : IProc) → IsWithin p → length (code_of p.code).words ≤ 12 * p.items + 16
code_is_within p w = omega (arith, code_weighs p.code, w.words)

pub never_too_long : (p : IProc) → IsWithin p → p.items ≤ 1363 → size_of p.code ≤ most
never_too_long p w few = omega (arith, w.words, few)
