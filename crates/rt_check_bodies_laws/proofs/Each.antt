-- What holds of each name that is seen.
use Rattle.std.proofs.Common.{◌≡◌, ℕ, Bool, true, false, List, [], ◌∷◌, ◌++◌, drop, Option, Some, None, if◌then◌else◌, refl, ◌∙◌, subst}
use Rattle.std.specs.List.{AllByRecursion}
use Rattle.std.specs.Str.{bytes_eq}
use Rattle.std.specs.Map.{lookup}
use Rattle.rt_grammar.specs.declared.at.Ident.{Ident}
use Rattle.rt_exprs.specs.declared.scope.Meaning.{Meaning}
use Rattle.rt_exprs.specs.declared.scope.Meaning.TheVariants as meaning
use Rattle.rt_exprs.specs.Names.{find_in}
use Rattle.rt_exprs.specs.Operands.{or_else}
use Rattle.rt_check_bodies.specs.declared.tally.Tally.{Tally}
use Rattle.rt_check_bodies.specs.Parts.{label_more, labels_more}
use Rattle.rt_exprs.specs.Sights.{Names, Sight, holds, declared, innermost, with_name}
use Rattle.rt_check_bodies.specs.Statements.{labels_of}

some_is : (a b : Meaning) → Some a ≡ Some b → a ≡ b
some_is a b q = cc

module _ (P : Meaning → Type 0) where
  -- of each name of a level
  abbrev pub EachOf : Names → Type 0
  EachOf = AllByRecursion (λ x. P x.1)

  -- of each that is seen
  abbrev pub EachSeen : List Names → Type 0
  EachSeen = AllByRecursion EachOf

  -- ---- what names stand for

  by_name : (x o : Meaning) (rest : Option Meaning) (b : Bool) → P x → (rest ≡ Some o → P o) → (if b then Some x else rest) ≡ Some o → P o
  by_name x o rest true h go q = subst P (some_is x o q) h
  by_name x o rest false h go q = go q

  looked_up : (w : List ℕ) (l : Names) (m : Meaning) → EachOf l → lookup (bytes_eq w) l ≡ Some m → P m
  looked_up w [] m h e = absurd cc
  looked_up w (x ∷ xs) m h e = by_name x.1 m (lookup (bytes_eq w) xs) (bytes_eq w x.0) h.0 (looked_up w xs m h.1) e

  found_split : (w : List ℕ) (l : Names) (ls : List Names) (m : Meaning) (o : Option Meaning) → lookup (bytes_eq w) l ≡ o → EachOf l → or_else o (find_in ls w) ≡ Some m
      → (find_in ls w ≡ Some m → P m) → P m
  found_split w l ls m (Some x) p h e go = looked_up w l m h (p ∙ e)
  found_split w l ls m None p h e go = go e

  pub found_each : (w : List ℕ) (ls : List Names) (m : Meaning) → EachSeen ls → find_in ls w ≡ Some m → P m
  unfolding find_in
  found_each w [] m h e = absurd cc
  found_each w (l ∷ ls) m h e = found_split w l ls m (lookup (bytes_eq w) l) refl h.0 e (found_each w ls m h.1)

  -- ---- more names

  added : (l : Names) (x : List ℕ × Meaning) → EachOf l → P x.1 → EachOf (l ++ x ∷ [])
  added [] x h e = (e, tt)
  added (y ∷ ys) x h e = (h.0, added ys x h.1 e)

  declared_split : (w : List ℕ) (m : Meaning) (l : Names) (b : Bool) → EachOf l → P m → EachOf (if b then l else l ++ (w, m) ∷ [])
  declared_split w m l true h e = h
  declared_split w m l false h e = added l (w, m) h e

  pub declared_each : (w : List ℕ) (m : Meaning) (l : Names) → EachOf l → P m → EachOf (declared w m l)
  declared_each w m l h e = declared_split w m l (holds l w) h e

  innermost_each : (ls : List Names) → EachSeen ls → EachOf (innermost ls)
  innermost_each [] h = tt
  innermost_each (l ∷ ls) h = h.0

  outer_each : (ls : List Names) → EachSeen ls → EachSeen (drop 1 ls)
  outer_each [] h = tt
  outer_each (l ∷ ls) h = h.1

  pub one_more_each : (s : Sight) (w : List ℕ) (m : Meaning) → EachSeen s.levels → P m → EachSeen (with_name w m s).levels
  one_more_each s w m h e = (declared_each w m (innermost s.levels) (innermost_each s.levels h) e, outer_each s.levels h)

  -- ---- labels

  module _ (labels : (k : ℕ) → P (meaning.Label k)) where
    labels_each : (l : Names) (ns : List Ident) (t : Tally) → EachOf l → EachOf (labels_more l ns t).0
    labels_each l [] t h = h
    labels_each l (i ∷ is) t h = let u : Names × Tally = label_more l i t in labels_each u.0 is u.1 (declared_each i.name (meaning.Label t.labels) l h (labels t.labels))

    pub all_labels_each : (l : Names) (nss : List (List Ident)) (t : Tally) → EachOf l → EachOf (labels_of l nss t).0
    all_labels_each l [] t h = h
    all_labels_each l (ns ∷ nss) t h = let u : Names × Tally = labels_more l ns t in all_labels_each u.0 nss u.1 (labels_each l ns t h)
