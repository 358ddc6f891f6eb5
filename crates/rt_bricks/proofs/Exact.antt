-- What the parser of a module answers: the one module, or the unfit item.
use Rattle.std.proofs.Common.{◌≡◌, ◌-◌, ◌<◌, ◌≤◌, ℕ, List, [], ◌∷◌, length, Result, Ok, Err, sym, ap, ◌∙◌, arith}
use Rattle.rt_pieces.specs.declared.item.Item.{Item}
use Rattle.rt_grammar.specs.Parsing.{left}
use Rattle.rt_grammar.proofs.Good.{ok_is}
use Rattle.rt_syntax.specs.Derives.{language_limits, in_list, line_left, IsRefusedBy, IsRefusedAt}
use Rattle.rt_syntax.proofs.Exact.{few_left, refused_by, numbered}
use Rattle.rt_bricks.specs.declared.tree.Module.{Module}
use Rattle.rt_bricks.specs.Modules as line
use Rattle.rt_bricks.specs.ModuleParser as reads
use Rattle.rt_bricks.specs.Derives.{Derives}
use Rattle.rt_bricks.proofs.ModuleLines.{good_module}

abbrev pub parsed : List Item → Result (Module × List Item) ℕ
parsed items = reads.module_of (in_list items language_limits) items

pub parsed_derives : (items : List Item) (it : Module) (r : List Item) → length r < 1 → parsed items ≡ Ok (it, r) → Derives items it
unfolding Derives
parsed_derives items it [] none e = (good_module (in_list items language_limits)).sound items [] it e
parsed_derives items it (i ∷ r) none e = absurd (omega arith)

pub derives_parsed : (items : List Item) (it : Module) → Derives items it → parsed items ≡ Ok (it, [])
unfolding Derives
derives_parsed items it d = (good_module (in_list items language_limits)).complete items [] it d (grind arith)

-- at most one module
pub one_module : (items : List Item) (a b : Module) → Derives items a → Derives items b → a ≡ b
one_module items a b d e = ap (λ (t : Module × List Item). t.0) (ok_is (a, []) (b, []) (sym (derives_parsed items a d) ∙ derives_parsed items b e))

pub not_with_rest : (items : List Item) (it other : Module) (r : List Item) → 1 ≤ length r → parsed items ≡ Ok (it, r) → Derives items other → ⊥
not_with_rest items it other r some e d =
    let same : ◌≡◌ {A = Module × List Item} (other, []) (it, r) = ok_is (other, []) (it, r) (sym (derives_parsed items other d) ∙ e) in
    let none : 0 ≡ length r = ap (λ (t : Module × List Item). length t.1) same in omega arith

pub not_derived : (items : List Item) (n : ℕ) (it : Module) → parsed items ≡ Err n → Derives items it → ⊥
not_derived items n it e d = let f = derives_parsed items it d in cc

pub few : (items : List Item) (n : ℕ) → left (parsed items) ≡ n → n ≤ length items
few items n is = few_left reads.module_of line.module_of _ _ _ good_module items 0 n (omega arith) is

pub refused : (items : List Item) (n : ℕ) → left (parsed items) ≡ n → IsRefusedAt line.module_of items 0 (line_left items n)
refused items n is = refused_by reads.module_of line.module_of _ _ _ good_module items 0 n (omega arith) is

pub refused_number : (items : List Item) (n : ℕ) → left (parsed items) ≡ n → IsRefusedBy line.module_of items 0 (length items - n)
refused_number items n is = numbered reads.module_of line.module_of _ _ _ good_module items 0 n (omega arith) is
