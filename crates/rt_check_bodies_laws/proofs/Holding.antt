-- What the nodes of a body see is there in the tree.
use Rattle.std.proofs.Common.{◌≡◌, ℕ, ◌<◌, ◌≤◌, ◌==◌, ◌||◌, ◌&&◌, Bool, true, false, List, [], ◌∷◌, ◌++◌, drop, Option, Some, None, Ok, Err, arith, refl, ◌∙◌, subst, if◌then◌else◌}
use Rattle.std.specs.Prelude.{nat_lt, nat_le}
use Rattle.std.specs.Str.{bytes_eq}
use Rattle.std.specs.Map.{lookup}
use Rattle.std.proofs.lemmas.Bool.Decides.{nat_tests}
use Rattle.rt_grammar.specs.declared.at.Ident.{Ident}
use Rattle.rt_grammar.specs.declared.at.At.{At}
use Rattle.rt_tree_nodes.specs.Scopes.{Scope}
use Rattle.rt_check_faults.specs.declared.fault.CheckFault.TheVariants as fault
use Rattle.rt_exprs.specs.declared.scope.Meaning.{Meaning}
use Rattle.rt_exprs.specs.declared.scope.Meaning.TheVariants as meaning
use Rattle.rt_exprs.specs.Names.{find, find_in}
use Rattle.rt_exprs.specs.Operands.{or_else}
use Rattle.rt_check_faults.specs.Outcomes.{Outcome}
use Rattle.rt_tree.specs.Statements.{Sight as Seen, sees, labels_from, sight_with}
use Rattle.rt_exprs_laws.specs.Agreeing.{Agree, IsThere}
use Rattle.rt_check_bodies_laws.specs.Held.{LabelSeen, EntryHolds, LevelHolds, LevelsHold, Holds, IsKnown, LevelKnown, AllKnown}
use Rattle.rt_check_bodies_laws.proofs.Knowing.{Knows}
use Rattle.rt_check_bodies_laws.proofs.Certain.{sight_knows}
use Rattle.rt_check_bodies_laws.proofs.Each.{one_more_each}
use Rattle.rt_exprs.specs.Sights.{Names, Sight, holds, declared, within, innermost, with_name}
use Rattle.rt_check_bodies.specs.Sights.{label_in, label_by}

left_or : (a b : Bool) → a ≡ true → a || b ≡ true
left_or true b e = refl
left_or false b e = absurd cc

right_or : (a b : Bool) → b ≡ true → a || b ≡ true
right_or true b e = refl
right_or false b e = e

label_weakened : (first end : ℕ) (seen : Seen) (m : Meaning) → LabelSeen seen m → LabelSeen (sight_with seen (labels_from first end)) m
label_weakened first end seen (meaning.Label k) h = right_or (nat_le first k && nat_lt k end) (sees seen.seen k) h
label_weakened first end seen (meaning.Mode k) h = tt
label_weakened first end seen (meaning.Proc k m) h = tt
label_weakened first end seen (meaning.Data k) h = tt
label_weakened first end seen (meaning.Stack k) h = tt
label_weakened first end seen (meaning.Item b i m) h = tt
label_weakened first end seen (meaning.SvcItem b i m) h = tt
label_weakened first end seen (meaning.Svc k m) h = tt
label_weakened first end seen (meaning.Local k m) h = tt
label_weakened first end seen (meaning.Loop k) h = tt
label_weakened first end seen meaning.UnknownProc h = tt
label_weakened first end seen meaning.Unknown h = tt

module _ (c : Scope) where
  level_weakened : (first end : ℕ) (seen : Seen) (l : Names) → LevelHolds c seen l → LevelHolds c (sight_with seen (labels_from first end)) l
  level_weakened first end seen [] h = tt
  level_weakened first end seen (x ∷ xs) h = ((h.0.0, label_weakened first end seen x.1 h.0.1), level_weakened first end seen xs h.1)

  levels_weakened : (first end : ℕ) (seen : Seen) (ls : List Names) → LevelsHold c seen ls → LevelsHold c (sight_with seen (labels_from first end)) ls
  levels_weakened first end seen [] h = tt
  levels_weakened first end seen (l ∷ ls) h = (level_weakened first end seen l h.0, levels_weakened first end seen ls h.1)

  pub holds_within : (s : Sight) (seen : Seen) (l : Names) → Holds c s seen → LevelHolds c seen l → Holds c (within l s) seen
  holds_within s seen l h k = record { records = h.records; fields = h.fields; strings = h.strings; levels = (k, h.levels) }

  -- inside a sequence whose labels are these
  pub holds_labelled : (s : Sight) (seen : Seen) (first end : ℕ) (l : Names) → Holds c s seen → LevelHolds c (sight_with seen (labels_from first end)) l → Holds c (within l s) (sight_with seen (labels_from first end))
  holds_labelled s seen first end l h k = record { records = h.records; fields = h.fields; strings = h.strings; levels = (k, levels_weakened first end seen s.levels h.levels) }

  added : (seen : Seen) (l : Names) (x : List ℕ × Meaning) → LevelHolds c seen l → EntryHolds c seen x → LevelHolds c seen (l ++ x ∷ [])
  added seen [] x h e = (e, tt)
  added seen (y ∷ ys) x h e = (h.0, added seen ys x h.1 e)

  declared_split : (seen : Seen) (n : List ℕ) (m : Meaning) (l : Names) (b : Bool) → LevelHolds c seen l → EntryHolds c seen (n, m) → LevelHolds c seen (if b then l else l ++ (n, m) ∷ [])
  declared_split seen n m l true h e = h
  declared_split seen n m l false h e = added seen l (n, m) h e

  pub declared_holds : (seen : Seen) (n : List ℕ) (m : Meaning) (l : Names) → LevelHolds c seen l → EntryHolds c seen (n, m) → LevelHolds c seen (declared n m l)
  declared_holds seen n m l h e = declared_split seen n m l (holds l n) h e

  innermost_holds : (seen : Seen) (ls : List Names) → LevelsHold c seen ls → LevelHolds c seen (innermost ls)
  innermost_holds seen [] h = tt
  innermost_holds seen (l ∷ ls) h = h.0

  outer_hold : (seen : Seen) (ls : List Names) → LevelsHold c seen ls → LevelsHold c seen (drop 1 ls)
  outer_hold seen [] h = tt
  outer_hold seen (l ∷ ls) h = h.1

  -- one name more in the innermost level
  pub holds_named : (s : Sight) (seen : Seen) (n : List ℕ) (m : Meaning) → Holds c s seen → EntryHolds c seen (n, m) → Holds c (with_name n m s) seen
  holds_named s seen n m h e = record {
    records = h.records;
    fields = h.fields;
    strings = h.strings;
    levels = (declared_holds seen n m (innermost s.levels) (innermost_holds seen s.levels h.levels) e, outer_hold seen s.levels h.levels);
  }

  -- ---- what is there, and can be known

  pub record Shown (s : Sight) (seen : Seen) : Type 0 where
    pub holds : Holds c s seen
    pub known : AllKnown s

  pub shown_within : (s : Sight) (seen : Seen) (l : Names) → Shown s seen → LevelHolds c seen l → LevelKnown l → Shown (within l s) seen
  shown_within s seen l h k known = record { holds = holds_within s seen l h.holds k; known = (known, h.known) }

  pub shown_labelled : (s : Sight) (seen : Seen) (first end : ℕ) (l : Names) → Shown s seen → LevelHolds c (sight_with seen (labels_from first end)) l → LevelKnown l → Shown (within l s) (sight_with seen (labels_from first end))
  shown_labelled s seen first end l h k known = record { holds = holds_labelled s seen first end l h.holds k; known = (known, h.known) }

  pub shown_named : (s : Sight) (seen : Seen) (n : List ℕ) (m : Meaning) → Shown s seen → EntryHolds c seen (n, m) → IsKnown m → Shown (with_name n m s) seen
  shown_named s seen n m h e known = record { holds = holds_named s seen n m h.holds e; known = one_more_each IsKnown s n m h.known known }

  pub shown_knows : (s : Sight) (seen : Seen) → Shown s seen → Knows s
  shown_knows s seen h = sight_knows c s h.holds.records h.holds.fields h.known

  -- ---- what a name stands for

  abbrev Found : Seen → Meaning → Type 0
  Found seen m = IsThere c m × LabelSeen seen m

  some_is : (a b : Meaning) → Some a ≡ Some b → a ≡ b
  some_is a b q = cc

  by_name : (seen : Seen) (x o : Meaning) (rest : Option Meaning) (b : Bool) → Found seen x → (rest ≡ Some o → Found seen o) → (if b then Some x else rest) ≡ Some o → Found seen o
  by_name seen x o rest true h go q = subst (Found seen) (some_is x o q) h
  by_name seen x o rest false h go q = go q

  looked_up : (seen : Seen) (n : List ℕ) (l : Names) (m : Meaning) → LevelHolds c seen l → lookup (bytes_eq n) l ≡ Some m → Found seen m
  looked_up seen n [] m h e = absurd cc
  looked_up seen n (x ∷ xs) m h e = by_name seen x.1 m (lookup (bytes_eq n) xs) (bytes_eq n x.0) h.0 (looked_up seen n xs m h.1) e

  found_split : (seen : Seen) (n : List ℕ) (l : Names) (ls : List Names) (m : Meaning) (o : Option Meaning) → lookup (bytes_eq n) l ≡ o → LevelHolds c seen l
      → or_else o (find_in ls n) ≡ Some m → (find_in ls n ≡ Some m → Found seen m) → Found seen m
  found_split seen n l ls m (Some x) p h e go = looked_up seen n l m h (p ∙ e)
  found_split seen n l ls m None p h e go = go e

  found_holds : (seen : Seen) (n : List ℕ) (ls : List Names) (m : Meaning) → LevelsHold c seen ls → find_in ls n ≡ Some m → Found seen m
  unfolding find_in
  found_holds seen n [] m h e = absurd cc
  found_holds seen n (l ∷ ls) m h e = found_split seen n l ls m (lookup (bytes_eq n) l) refl h.0 e (found_holds seen n ls m h.1)

  pub agrees : (s : Sight) (seen : Seen) → Holds c s seen → Agree s c
  agrees s seen h = record { records = h.records; fields = h.fields; strings = h.strings; names = λ n m e. (found_holds seen n s.levels m h.levels e).0 }

  -- ---- labels

  label_is : (at : At) (seen : Seen) (o : Option Meaning) (k : ℕ) → ((m : Meaning) → o ≡ Some m → Found seen m) → label_by at o ≡ Ok k → sees seen.seen k ≡ true
  label_is at seen None k h e = absurd cc
  label_is at seen (Some (meaning.Label j)) k h e = subst (λ (z : ℕ). sees seen.seen z ≡ true) (ok_is (label_by at (Some (meaning.Label j))) j k refl e) (h (meaning.Label j) refl).1 where
    ok_is : (o : Outcome ℕ) (a b : ℕ) → o ≡ Ok a → o ≡ Ok b → a ≡ b
    ok_is o a b p q = cc
  label_is at seen (Some (meaning.Svc j m)) k h e = no_svc (j == 0) e where
    no_svc : (b : Bool) → (if b then Err (fault.LeftOut 2 at) else Err (fault.UnknownLabel at)) ≡ Ok k → sees seen.seen k ≡ true
    no_svc true q = absurd cc
    no_svc false q = absurd cc
  label_is at seen (Some _) k h e = absurd cc

  pub label_seen : (s : Sight) (seen : Seen) (n : Ident) (k : ℕ) → Holds c s seen → label_in s n ≡ Ok k → sees seen.seen k ≡ true
  label_seen s seen n k h e = label_is n.at seen (find s n.name) k (λ m q. found_holds seen n.name s.levels m h.levels q) e

  -- a label of the sequence is seen in it
  pub label_of : (first end k : ℕ) (seen : Seen) (n : List ℕ) → first ≤ k → k < end → EntryHolds c (sight_with seen (labels_from first end)) (n, meaning.Label k)
  label_of first end k seen n l h = (tt, left_or (nat_le first k && nat_lt k end) (sees seen.seen k) (between first k end l h)) where
    between : (a b d : ℕ) → a ≤ b → b < d → nat_le a b && nat_lt b d ≡ true
    between a b d x y = grind (arith, nat_tests)
