-- Declarations of locals stay within their items.
use Rattle.std.proofs.Common.{◌≡◌, ℕ, ◌+◌, ◌*◌, ◌≤◌, max, not, Bool, true, false, List, [], ◌∷◌, ◌++◌, length, map, Option, Some, None, Ok, Err, append_assoc, arith, refl, sym, ap, ◌∙◌, subst}
use Rattle.std.specs.Prelude.{slice_get}
use Rattle.std.proofs.lemmas.List.{append-nil}
use Rattle.rt_grammar.specs.declared.at.Ident.{Ident}
use Rattle.rt_syntax_exprs.specs.declared.tree.Expr.{Expr}
use Rattle.rt_bricks_laws.specs.Counts.{sum, in_local, in_locals}
use Rattle.rt_modes.specs.declared.mode.Mode.{Mode, out-Mode}
use Rattle.rt_syntax.specs.declared.tree.Local.{Local}
use Rattle.rt_syntax.specs.declared.tree.Locals.{Locals}
use Rattle.rt_tree_nodes.specs.declared.brick.Local.{Local as Made}
use Rattle.rt_tree_nodes.specs.declared.brick.Local.TheVariants as made
use Rattle.rt_tree_nodes.specs.declared.statement.LocalStart.{LocalStart}
use Rattle.rt_tree_nodes.specs.declared.value.Value.{Value}
use Rattle.rt_tree_nodes.specs.declared.value.Value.TheVariants as values
use Rattle.rt_tree_nodes.specs.Scopes.{Scope}
use Rattle.rt_tree_nodes.specs.Tree.{Seq, Then}
use Rattle.rt_check_faults.specs.declared.fault.CheckFault.{CheckFault}
use Rattle.rt_check_faults.specs.declared.fault.CheckFault.TheVariants as fault
use Rattle.rt_exprs.specs.declared.scope.Meaning.TheVariants as meaning
use Rattle.rt_check_faults.specs.Outcomes.{Outcome}
use Rattle.rt_tree.specs.Depth.{sequence_depth}
use Rattle.rt_tree.specs.Statements.{Sight as Seen, starts_at_zero, start_tree, starts_tree}
use Rattle.rt_tree.specs.Weights.{sequence_weight}
use Rattle.rt_check_bodies.specs.declared.tally.Tally.{Tally}
use Rattle.rt_check_bodies.specs.Parts.{noted_if, next_local, mode_or}
use Rattle.rt_exprs.specs.Sights.{Sight, holds, innermost}
use Rattle.rt_check_bodies.specs.Sights.{value_in, alone_in, mode_in}
use Rattle.rt_check_bodies.specs.Statements.{Declared, start_in, start_alone, local_fit, local_more, locals_more, line_more, declarations}
use Rattle.rt_check_bodies_laws.specs.Held.{Holds, EntryHolds}
use Rattle.rt_check_bodies_laws.proofs.Accepted.{local_value}
use Rattle.rt_check_bodies_laws.proofs.Growing.{Pre, pre_then, known_locals, grow_locals, grow_declarations}
use Rattle.rt_check_bodies_laws.proofs.Holding.{holds_named}
use Rattle.rt_check_bodies_laws.proofs.Sequences.{one_longer, pre_get}
use Rattle.rt_check_bodies_laws.specs.Parts.{StatementWithin}
use Rattle.rt_check_bodies_laws.proofs.Good.{Around, found_locals, value_stays}
use Rattle.rt_check_bodies_laws.proofs.Least.{sum_listed}

pub noted_locals : (b : Bool) (g : CheckFault) (t : Tally) → (noted_if b g t).locals ≡ t.locals
noted_locals true g t = refl
noted_locals false g t = refl

pub mode_locals : (o : Outcome Mode) (t : Tally) → (mode_or o t).1.locals ≡ t.locals
mode_locals (Ok m) t = refl
mode_locals (Err g) t = refl

-- ---- how many are added

pub start_locals : (s : Sight) (n : Ident) (m : Mode) (e : Option Expr) (t : Tally) → (start_in s n m e t).1.locals ≡ t.locals
start_locals s n m None t = noted_locals (not (starts_at_zero (out-Mode m))) (fault.BadStart n.at) t
start_locals s n m (Some e) t = found_locals (values.Number 0) (value_in s e m) t

pub alone_locals : (s : Sight) (e : Option Expr) (t : Tally) → (start_alone s e t).locals ≡ t.locals
alone_locals s None t = refl
alone_locals s (Some e) t = known_locals (alone_in s e) t

local_counts : (m : Outcome Mode) (d : Declared) (n : Local) (t : Tally) → length (local_more m d n t).1.locals ≤ length t.locals + in_local n
local_counts (Err g) d n t =
    let u : Tally = start_alone d.sight n.start t in
    omega (arith, ap length (noted_locals (holds (innermost d.sight.levels) n.name.name) (fault.DeclaredTwice n.name.at) u), ap length (alone_locals d.sight n.start t))
local_counts (Ok m) d n t =
    let u : Option Value × Tally = start_in d.sight n.name m n.start t in
    let v : List Made = (noted_if (holds (innermost d.sight.levels) n.name.name) (fault.DeclaredTwice n.name.at) u.1).locals in
    omega (arith, one_longer v (made.Variable m), ap length (noted_locals (holds (innermost d.sight.levels) n.name.name) (fault.DeclaredTwice n.name.at) u.1), ap length (start_locals d.sight n.name m n.start t))

locals_count : (m : Outcome Mode) (d : Declared) (ns : List Local) (t : Tally) → length (locals_more m d ns t).1.locals ≤ length t.locals + sum (map in_local ns)
locals_count m d [] t = omega arith
locals_count m d (n ∷ ns) t = let u : Declared × Tally = local_more m d n t in omega (arith, local_counts m d n t, locals_count m u.0 ns u.1)

line_counts : (d : Declared) (l : Locals) (t : Tally) → length (line_more d l t).1.locals ≤ length t.locals + in_locals l
line_counts d l t =
    let u : Outcome Mode × Tally = mode_or (mode_in d.sight l.at l.mode) t in
    omega (arith, ap length (mode_locals (mode_in d.sight l.at l.mode) t), locals_count u.0 d l.names u.1, sum_listed (map in_local l.names))

pub declarations_count : (d : Declared) (ls : List Locals) (t : Tally) → length (declarations d ls t).1.locals ≤ length t.locals + sum (map in_locals ls)
declarations_count d [] t = omega arith
declarations_count d (l ∷ ls) t = let u : Declared × Tally = line_more d l t in omega (arith, line_counts d l t, declarations_count u.0 ls u.1)

-- ---- what their starts weigh

module _ (c : Scope) where
  -- starts of so many items, in front of other statements
  pub record StartsWithin (n : ℕ) (ds : List LocalStart) : Type 0 where
    pub weight : (q : Seq) → sequence_weight (starts_tree c ds q) ≤ 12 * n + sequence_weight q
    pub depth : (q : Seq) → sequence_depth (starts_tree c ds q) ≤ max n (sequence_depth q)

  no_starts : (n : ℕ) → StartsWithin n []
  no_starts n = record { weight = λ q. omega arith; depth = λ q. omega arith }

  starts_joined : (ds es : List LocalStart) (q : Seq) → starts_tree c (ds ++ es) q ≡ starts_tree c ds (starts_tree c es q)
  starts_joined [] es q = refl
  starts_joined (d ∷ ds) es q = ap (λ (z : Seq). Then (start_tree c d.local d.start) z) (starts_joined ds es q)

  starts_then : (i j n : ℕ) (ds es : List LocalStart) → i + j ≤ n → StartsWithin i ds → StartsWithin j es → StartsWithin n (ds ++ es)
  starts_then i j n ds es l h g = record {
    weight = λ q. rw starts_joined (omega (arith, l, h.weight (starts_tree c es q), g.weight q));
    depth = λ q. rw starts_joined (omega (arith, l, h.depth (starts_tree c es q), g.depth q));
  }

  one_start : (i n : ℕ) (x : Option Value) → StatementWithin n (start_tree c i x) → StartsWithin n (record { local = i; start = x } ∷ [])
  one_start i n x h = record { weight = λ q. omega (arith, h.weight); depth = λ q. omega (arith, h.depth) }

  module _ (a : Around c) where
    start_within : (s : Sight) (seen : Seen) (n : Local) (m : Mode) (i : ℕ) (e : Option Expr) (t : Tally) → Holds c s seen → n.start ≡ e → StatementWithin (in_local n) (start_tree c i (start_in s n.name m e t).0)
    start_within s seen n m i None t k is = record { weight = omega arith; depth = omega arith }
    start_within s seen n m i (Some e) t k is =
        let v = value_stays c a.few s seen k e m t in
        rw is (record { weight = omega (arith, v.weight); depth = omega (arith, v.depth) })

    -- What declarations give: starts of so many items behind those so far, and what is seen.
    pub record DeclaredWithin (n : ℕ) (d : Declared) (seen : Seen) (result : Declared) : Type 0 where
      pub starts : List LocalStart
      pub is : result.starts ≡ d.starts ++ starts
      pub within : StartsWithin n starts
      pub holds : Holds c result.sight seen

    nothing_declared : (n : ℕ) (d : Declared) (seen : Seen) → Holds c d.sight seen → DeclaredWithin n d seen d
    nothing_declared n d seen k = record { starts = []; is = sym (append-nil d.starts); within = no_starts n; holds = k }

    declared_then : (i j n : ℕ) (d e g : Declared) (seen : Seen) → i + j ≤ n → DeclaredWithin i d seen e → DeclaredWithin j e seen g → DeclaredWithin n d seen g
    declared_then i j n d e g seen l h k = record {
      starts = h.starts ++ k.starts;
      is = k.is ∙ ap (λ (z : List LocalStart). z ++ k.starts) h.is ∙ append_assoc d.starts h.starts k.starts;
      within = starts_then i j n h.starts k.starts l h.within k.within;
      holds = k.holds;
    }

    local_within : (m : Outcome Mode) (d : Declared) (n : Local) (seen : Seen) (t : Tally) → Holds c d.sight seen → Pre (local_more m d n t).1.locals c.locals → DeclaredWithin (in_local n) d seen (local_more m d n t).0
    local_within (Err g) d n seen t k f = record { starts = []; is = sym (append-nil d.starts); within = no_starts (in_local n); holds = holds_named c d.sight seen n.name.name meaning.Unknown k (tt, tt) }
    local_within (Ok m) d n seen t k f =
        let u : Option Value × Tally = start_in d.sight n.name m n.start t in
        let here : (local_fit m d n t).1.locals ≡ u.1.locals ++ made.Variable m ∷ [] = ap (λ (l : List Made). l ++ made.Variable m ∷ []) (noted_locals (holds (innermost d.sight.levels) n.name.name) (fault.DeclaredTwice n.name.at) u.1) in
        let known : Pre (u.1.locals ++ made.Variable m ∷ []) c.locals = subst (λ (l : List Made). Pre l c.locals) here f in
        let there : slice_get c.locals (length u.1.locals) ≡ Some (made.Variable m) = pre_get u.1.locals (made.Variable m) c.locals known in
        let entry : EntryHolds c seen (n.name.name, meaning.Local (next_local u.1) m) = ((there, local_value c a.small a.standing (length u.1.locals) m there), tt) in
        record {
          starts = record { local = next_local u.1; start = u.0 } ∷ [];
          is = refl;
          within = one_start (next_local u.1) (in_local n) u.0 (start_within d.sight seen n m (next_local u.1) n.start t k refl);
          holds = holds_named c d.sight seen n.name.name (meaning.Local (next_local u.1) m) k entry;
        }

    locals_within : (m : Outcome Mode) (d : Declared) (ns : List Local) (seen : Seen) (t : Tally) → Holds c d.sight seen → Pre (locals_more m d ns t).1.locals c.locals → DeclaredWithin (sum (map in_local ns)) d seen (locals_more m d ns t).0
    locals_within m d [] seen t k f = nothing_declared 0 d seen k
    locals_within m d (n ∷ ns) seen t k f =
        let u : Declared × Tally = local_more m d n t in
        let one = local_within m d n seen t k (pre_then (grow_locals m u.0 ns u.1).locals f) in
        declared_then (in_local n) (sum (map in_local ns)) (in_local n + sum (map in_local ns)) d u.0 (locals_more m u.0 ns u.1).0 seen (omega arith) one (locals_within m u.0 ns seen u.1 one.holds f)

    line_within : (d : Declared) (l : Locals) (seen : Seen) (t : Tally) → Holds c d.sight seen → Pre (line_more d l t).1.locals c.locals → DeclaredWithin (in_locals l) d seen (line_more d l t).0
    line_within d l seen t k f =
        let u : Outcome Mode × Tally = mode_or (mode_in d.sight l.at l.mode) t in
        let go = locals_within u.0 d l.names seen u.1 k f in
        declared_then (sum (map in_local l.names)) 0 (in_locals l) d (line_more d l t).0 (line_more d l t).0 seen (omega (arith, sum_listed (map in_local l.names))) go (nothing_declared 0 (line_more d l t).0 seen go.holds)

    pub declarations_within : (d : Declared) (ls : List Locals) (seen : Seen) (t : Tally) → Holds c d.sight seen → Pre (declarations d ls t).1.locals c.locals → DeclaredWithin (sum (map in_locals ls)) d seen (declarations d ls t).0
    declarations_within d [] seen t k f = nothing_declared 0 d seen k
    declarations_within d (l ∷ ls) seen t k f =
        let u : Declared × Tally = line_more d l t in
        let one = line_within d l seen t k (pre_then (grow_declarations u.0 ls u.1).locals f) in
        declared_then (in_locals l) (sum (map in_locals ls)) (in_locals l + sum (map in_locals ls)) d u.0 (declarations u.0 ls u.1).0 seen (omega arith) one (declarations_within u.0 ls seen u.1 one.holds f)
