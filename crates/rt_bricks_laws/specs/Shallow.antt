-- How deep written modes are.
use Rattle.std.specs.Prelude.{ℕ, ◌-◌, Bool, true, ◌&&◌, nat_lt, nat_le, List, [], ◌∷◌, length, Option, Some, None}
use Rattle.rt_syntax_exprs.specs.declared.tree.WrittenMode.{WrittenMode}
use Rattle.rt_syntax_exprs.specs.declared.tree.WrittenMode.TheFolds.{fold-WrittenMode}
use Rattle.rt_syntax_exprs.specs.declared.tree.WrittenMode.TheOpen.{WrittenMode-F}

-- whether no more modes open, and no more REF stand in a row
abbrev pub Depth : Type 0
Depth = ℕ → ℕ → Bool

abbrev pub all_shallow : ℕ → List Depth → Bool
all_shallow levels [] = true
all_shallow levels (f ∷ fs) = f levels 8 && all_shallow levels fs

abbrev pub any_shallow : ℕ → Option Depth → Bool
any_shallow levels None = true
any_shallow levels (Some f) = f levels 8

abbrev pub shallow_layer : WrittenMode-F Depth → Depth
shallow_layer (WrittenMode-F.Name i) levels refs = true
shallow_layer (WrittenMode-F.Basic b at) levels refs = true
shallow_layer (WrittenMode-F.Array n f at) levels refs = nat_lt 0 levels && f (levels - 1) 8
shallow_layer (WrittenMode-F.Ref f at) levels refs = nat_lt 0 levels && (nat_lt 0 refs && f (levels - 1) (refs - 1))
shallow_layer (WrittenMode-F.RefArray f at) levels refs = nat_lt 0 levels && (nat_lt 0 refs && f (levels - 1) 8)
shallow_layer (WrittenMode-F.Proc fs r at) levels refs = nat_lt 0 levels && (nat_le (length fs) 32 && (all_shallow (levels - 1) fs && any_shallow (levels - 1) r))

unfoldable pub shallow : WrittenMode → Depth
shallow = fold-WrittenMode Depth shallow_layer
