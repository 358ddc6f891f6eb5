-- Declarations of locals name locals where these have a value, and behind a declaration its local has one.
use Rattle.std.proofs.Common.{◌≡◌, ℕ, ◌==◌, not, Bool, true, false, List, [], ◌∷◌, ◌++◌, length, map, Option, Some, None, Ok, Err, append_assoc, arith, refl, sym, ap, ◌∙◌, subst}
use Rattle.std.specs.Prelude.{slice_get}
use Rattle.std.proofs.lemmas.Bool.Decides.{nat_tests}
use Rattle.std.proofs.lemmas.List.{append-nil}
use Rattle.rt_grammar.specs.declared.at.Ident.{Ident}
use Rattle.rt_syntax_exprs.specs.declared.tree.Expr.{Expr}
use Rattle.rt_modes.specs.declared.mode.Mode.{Mode, out-Mode}
use Rattle.rt_syntax.specs.declared.tree.Local.{Local}
use Rattle.rt_syntax.specs.declared.tree.Locals.{Locals}
use Rattle.rt_tree_nodes.specs.declared.brick.Local.{Local as Made}
use Rattle.rt_tree_nodes.specs.declared.brick.Local.TheVariants as made
use Rattle.rt_tree_nodes.specs.declared.statement.LocalStart.{LocalStart}
use Rattle.rt_tree_nodes.specs.declared.value.Value.{Value}
use Rattle.rt_tree_nodes.specs.declared.value.Value.TheVariants as values
use Rattle.rt_tree_nodes.specs.Scopes.{Scope}
use Rattle.rt_tree_nodes.specs.Tree.{Seq, Then}
use Rattle.rt_check_faults.specs.declared.fault.CheckFault.TheVariants as fault
use Rattle.rt_exprs.specs.declared.scope.Meaning.TheVariants as meaning
use Rattle.rt_check_faults.specs.Outcomes.{Outcome}
use Rattle.rt_tree.specs.Statements.{starts_at_zero, start_tree, starts_tree}
use Rattle.rt_check_bodies.specs.declared.tally.Tally.{Tally}
use Rattle.rt_check_bodies.specs.Parts.{noted_if, next_local, mode_or}
use Rattle.rt_exprs.specs.Sights.{Sight, holds, innermost}
use Rattle.rt_check_bodies.specs.Sights.{value_in, mode_in, alone_in}
use Rattle.rt_check_bodies.specs.Statements.{Declared, start_alone, start_in, local_fit, local_more, locals_more, line_more, declarations}
use Rattle.rt_bricks_laws.specs.Bodies.{all}
use Rattle.rt_check_bodies_laws.proofs.Accepted.{local_value}
use Rattle.rt_check_bodies_laws.proofs.Growing.{Pre, grow_placed, grow_locals, grow_declarations}
use Rattle.rt_check_bodies_laws.proofs.Sequences.{one_is_there, pre_get, Fine, fine_before}
use Rattle.rt_bricks_laws.specs.Numbers.{words_in_any, words_in_mode, words_in_local, words_in_locals}
use Rattle.rt_check_bodies_laws.proofs.Locals.{noted_locals}
use Rattle.rt_bricks_laws.proofs.AllLists.{left_of, right_of}
use Rattle.rt_meaning_laws.specs.Trees.{Started, Within, and_local}
use Rattle.rt_meaning_laws.specs.Named.{any_name, SeqNamed}
use Rattle.rt_meaning_laws.proofs.Locals.{within_self, within_all, within_more}
use Rattle.rt_meaning_sound.proofs.Good.{Zeroed, found_labels, known_labels, value_named, noted_labels}
use Rattle.rt_meaning_sound.proofs.Judged.{Around}
use Rattle.rt_meaning_sound.proofs.Seen.{Sees, sees_named, sees_more}
use Rattle.rt_meaning_sound.proofs.Sets.{Sets}

pub mode_labels : (o : Outcome Mode) (t : Tally) → (mode_or o t).1.labels ≡ t.labels
mode_labels (Ok m) t = refl
mode_labels (Err g) t = refl

-- a local has a value once it has been given one
given : (v : Started) (i : ℕ) → and_local v i i ≡ true
given v i = let e : (i == i) ≡ true = grind (arith, nat_tests) in rw e refl

pub zeroed_more : (c : Scope) (v w : Started) → Within v w → Zeroed c v → Zeroed c w
zeroed_more c v w h z i l e p = h i (z i l e p)

module _ (c : Scope) (a : Around c) where
  -- ---- one start

  -- the start of local i in front of others
  record StartMade (v : Started) (s : Sight) (i : ℕ) (x : Option Value) : Type 0 where
    after : Started
    more : Within v after
    here : after i ≡ true
    named : (at : Sets) (q : Seq) → Sees at c v s → SeqNamed any_name at after q → SeqNamed any_name at v (Then (start_tree c i x) q)

  zero_start : (n : Ident) (t : Tally) (b : Bool) → (noted_if (not b) (fault.BadStart n.at) t).faults ≡ [] → b ≡ true
  zero_start n t true f = refl
  zero_start n t false f = absurd (one_is_there t.faults (fault.BadStart n.at) f)

  start_made : (s : Sight) (n : Ident) (m : Mode) (e : Option Expr) (t : Tally) (v : Started) (i : ℕ) → words_in_any e ≡ true → (start_in s n m e t).1.faults ≡ [] → slice_get c.locals i ≡ Some (made.Variable m) → Zeroed c v
      → StartMade v s i (start_in s n m e t).0
  start_made s n m None t v i w f there z = record {
    after = v;
    more = within_self v;
    here = z i (made.Variable m) there (zero_start n t (starts_at_zero (out-Mode m)) f);
    named = λ at q k g. (tt, (v, within_self v, within_self v, g));
  }
  start_made s n m (Some e) t v i w f there z = record {
    after = and_local v i;
    more = within_more v i;
    here = given v i;
    named = λ at q k g. (value_named c a at v s k e w m t, (and_local v i, within_more v i, within_self (and_local v i), g));
  }

  start_labels : (s : Sight) (n : Ident) (m : Mode) (e : Option Expr) (t : Tally) → (start_in s n m e t).1.labels ≡ t.labels
  start_labels s n m None t = noted_labels (not (starts_at_zero (out-Mode m))) (fault.BadStart n.at) t
  start_labels s n m (Some e) t = found_labels (values.Number 0) (value_in s e m) t

  -- ---- declarations

  starts_joined : (ds es : List LocalStart) (q : Seq) → starts_tree c (ds ++ es) q ≡ starts_tree c ds (starts_tree c es q)
  starts_joined [] es q = refl
  starts_joined (d ∷ ds) es q = ap (λ (z : Seq). Then (start_tree c d.local d.start) z) (starts_joined ds es q)

  -- What declarations give: starts behind those so far, what has a value behind them, and what is seen.
  pub record DeclaredMade (v : Started) (d : Declared) (t : Tally) (result : Declared × Tally) : Type 0 where
    pub starts : List LocalStart
    pub is : result.0.starts ≡ d.starts ++ starts
    pub labels : result.1.labels ≡ t.labels
    pub after : Started
    pub more : Within v after
    pub named : (at : Sets) (q : Seq) → Sees at c v d.sight → SeqNamed any_name at after q → SeqNamed any_name at v (starts_tree c starts q)
    pub sees : (at : Sets) → Sees at c v d.sight → Sees at c after result.0.sight

  nothing_declared : (v : Started) (d : Declared) (t u : Tally) → u.labels ≡ t.labels → DeclaredMade v d t (d, u)
  nothing_declared v d t u e = record { starts = []; is = sym (append-nil d.starts); labels = e; after = v; more = within_self v; named = λ at q k g. g; sees = λ at k. k }

  declared_then : (v : Started) (d : Declared) (t : Tally) (x y : Declared × Tally) (h : DeclaredMade v d t x) → DeclaredMade h.after x.0 x.1 y → DeclaredMade v d t y
  declared_then v d t x y h g = record {
    starts = h.starts ++ g.starts;
    is = g.is ∙ ap (λ (z : List LocalStart). z ++ g.starts) h.is ∙ append_assoc d.starts h.starts g.starts;
    labels = g.labels ∙ h.labels;
    after = g.after;
    more = within_all v h.after g.after h.more g.more;
    named = λ at q k p. subst (SeqNamed any_name at v) (sym (starts_joined h.starts g.starts q)) (h.named at (starts_tree c g.starts q) k (g.named at q (h.sees at k) p));
    sees = λ at k. g.sees at (h.sees at k);
  }

  alone_labels : (s : Sight) (e : Option Expr) (t : Tally) → (start_alone s e t).labels ≡ t.labels
  alone_labels s None t = refl
  alone_labels s (Some e) t = known_labels (alone_in s e) t

  local_made : (m : Outcome Mode) (d : Declared) (n : Local) (t : Tally) (v : Started) → words_in_local n ≡ true → Fine c (local_more m d n t).1 → Zeroed c v → DeclaredMade v d t (local_more m d n t)
  local_made (Err g) d n t v w f z = record {
    starts = [];
    is = sym (append-nil d.starts);
    labels = noted_labels (holds (innermost d.sight.levels) n.name.name) (fault.DeclaredTwice n.name.at) (start_alone d.sight n.start t) ∙ alone_labels d.sight n.start t;
    after = v;
    more = within_self v;
    named = λ at q k p. p;
    sees = λ at k. sees_named at c v d.sight n.name.name meaning.Unknown k (tt, tt);
  }
  local_made (Ok m) d n t v w f z =
      let u : Option Value × Tally = start_in d.sight n.name m n.start t in
      let i : ℕ = next_local u.1 in
      let here : (local_fit m d n t).1.locals ≡ u.1.locals ++ made.Variable m ∷ [] = ap (λ (l : List Made). l ++ made.Variable m ∷ []) (noted_locals (holds (innermost d.sight.levels) n.name.name) (fault.DeclaredTwice n.name.at) u.1) in
      let known : Pre (u.1.locals ++ made.Variable m ∷ []) c.locals = subst (λ (l : List Made). Pre l c.locals) here f.known in
      let there : slice_get c.locals i ≡ Some (made.Variable m) = pre_get u.1.locals (made.Variable m) c.locals known in
      let fine : Fine c u.1 = fine_before c (grow_placed i m u.0 d n u.1) f in
      let go = start_made d.sight n.name m n.start t v i w fine.none there z in
      record {
        starts = record { local = i; start = u.0 } ∷ [];
        is = refl;
        labels = noted_labels (holds (innermost d.sight.levels) n.name.name) (fault.DeclaredTwice n.name.at) u.1 ∙ start_labels d.sight n.name m n.start t;
        after = go.after;
        more = go.more;
        named = λ at q k p. go.named at q k p;
        sees = λ at k. sees_named at c go.after d.sight n.name.name (meaning.Local i m) (sees_more at c v go.after d.sight go.more k) ((there, local_value c a.small a.standing (length u.1.locals) m there), go.here);
      }

  locals_made : (m : Outcome Mode) (d : Declared) (ns : List Local) (t : Tally) (v : Started) → all (map words_in_local ns) ≡ true → Fine c (locals_more m d ns t).1 → Zeroed c v → DeclaredMade v d t (locals_more m d ns t)
  locals_made m d [] t v w f z = nothing_declared v d t t refl
  locals_made m d (n ∷ ns) t v w f z =
      let u : Declared × Tally = local_more m d n t in
      let one = local_made m d n t v (left_of (words_in_local n) (all (map words_in_local ns)) w) (fine_before c (grow_locals m u.0 ns u.1) f) z in
      let go = locals_made m u.0 ns u.1 one.after (right_of (words_in_local n) (all (map words_in_local ns)) w) f (zeroed_more c v one.after one.more z) in
      declared_then v d t u (locals_more m u.0 ns u.1) one go

  line_made : (d : Declared) (l : Locals) (t : Tally) (v : Started) → words_in_locals l ≡ true → Fine c (line_more d l t).1 → Zeroed c v → DeclaredMade v d t (line_more d l t)
  unfolding nothing_declared
  line_made d l t v w f z =
      let u : Outcome Mode × Tally = mode_or (mode_in d.sight l.at l.mode) t in
      declared_then v d t (d, u.1) (line_more d l t) (nothing_declared v d t u.1 (mode_labels (mode_in d.sight l.at l.mode) t))
      (locals_made u.0 d l.names u.1 v (right_of (words_in_mode l.mode) (all (map words_in_local l.names)) w) f z)

  pub declarations_made : (d : Declared) (ls : List Locals) (t : Tally) (v : Started) → all (map words_in_locals ls) ≡ true → Fine c (declarations d ls t).1 → Zeroed c v → DeclaredMade v d t (declarations d ls t)
  declarations_made d [] t v w f z = nothing_declared v d t t refl
  declarations_made d (l ∷ ls) t v w f z =
      let u : Declared × Tally = line_more d l t in
      let one = line_made d l t v (left_of (words_in_locals l) (all (map words_in_locals ls)) w) (fine_before c (grow_declarations u.0 ls u.1) f) z in
      let go = declarations_made u.0 ls u.1 one.after (right_of (words_in_locals l) (all (map words_in_locals ls)) w) f (zeroed_more c v one.after one.more z) in
      declared_then v d t u (declarations u.0 ls u.1) one go
