-- What the nodes of a body see: each name stands for what is there in the tree, a local for one that has a value, and a label for
-- one at which no more has a value than here.
use Rattle.std.proofs.Common.{◌≡◌, ℕ, Bool, true, false, List, [], ◌∷◌, ◌++◌, drop, length, Option, Some, None, refl, ◌∙◌, subst, if◌then◌else◌}
use Rattle.std.specs.Prelude.{slice_get}
use Rattle.std.specs.List.{AllByRecursion}
use Rattle.std.specs.Map.{lookup}
use Rattle.std.specs.Str.{bytes_eq}
use Rattle.rt_modes.specs.declared.mode.RecordDef.{RecordDef}
use Rattle.rt_tree_nodes.specs.Scopes.{Scope}
use Rattle.rt_exprs.specs.declared.scope.Meaning.{Meaning}
use Rattle.rt_exprs.specs.declared.scope.Meaning.TheVariants as meaning
use Rattle.rt_exprs.specs.Names.{find, find_in}
use Rattle.rt_exprs.specs.Operands.{or_else}
use Rattle.rt_exprs_laws.specs.Agreeing.{Agree, IsThere, HasItems}
use Rattle.rt_exprs.specs.Sights.{Names, Sight, holds, declared, within, innermost, with_name}
use Rattle.rt_meaning_laws.specs.Trees.{Started, Within}
use Rattle.rt_meaning_laws.proofs.Locals.{within_all}
use Rattle.rt_meaning_sound.specs.Seen.{LocalSeen, LocalsSeen}
use Rattle.rt_meaning_sound.proofs.Sets.{Sets}

abbrev pub Entry : Type 0
Entry = List ℕ × Meaning

-- ---- names and levels of which something is so

module _ (P : Meaning → Type 0) where
  abbrev pub LevelHas : Names → Type 0
  LevelHas = AllByRecursion (λ (x : Entry). P x.1)

  abbrev pub LevelsHave : List Names → Type 0
  LevelsHave = AllByRecursion LevelHas

  added : (l : Names) (x : Entry) → LevelHas l → P x.1 → LevelHas (l ++ x ∷ [])
  added [] x h e = (e, tt)
  added (y ∷ ys) x h e = (h.0, added ys x h.1 e)

  declared_split : (n : List ℕ) (m : Meaning) (l : Names) (b : Bool) → LevelHas l → P m → LevelHas (if b then l else l ++ (n, m) ∷ [])
  declared_split n m l true h e = h
  declared_split n m l false h e = added l (n, m) h e

  pub declared_has : (n : List ℕ) (m : Meaning) (l : Names) → LevelHas l → P m → LevelHas (declared n m l)
  declared_has n m l h e = declared_split n m l (holds l n) h e

  pub innermost_has : (ls : List Names) → LevelsHave ls → LevelHas (innermost ls)
  innermost_has [] h = tt
  innermost_has (l ∷ ls) h = h.0

  pub outer_have : (ls : List Names) → LevelsHave ls → LevelsHave (drop 1 ls)
  outer_have [] h = tt
  outer_have (l ∷ ls) h = h.1

  some_is : (a b : Meaning) → Some a ≡ Some b → a ≡ b
  some_is a b q = cc

  by_name : (x o : Meaning) (rest : Option Meaning) (b : Bool) → P x → (rest ≡ Some o → P o) → (if b then Some x else rest) ≡ Some o → P o
  by_name x o rest true h go q = subst P (some_is x o q) h
  by_name x o rest false h go q = go q

  looked_up : (n : List ℕ) (l : Names) (m : Meaning) → LevelHas l → lookup (bytes_eq n) l ≡ Some m → P m
  looked_up n [] m h e = absurd cc
  looked_up n (x ∷ xs) m h e = by_name x.1 m (lookup (bytes_eq n) xs) (bytes_eq n x.0) h.0 (looked_up n xs m h.1) e

  found_split : (n : List ℕ) (l : Names) (ls : List Names) (m : Meaning) (o : Option Meaning) → lookup (bytes_eq n) l ≡ o → LevelHas l
      → or_else o (find_in ls n) ≡ Some m → (find_in ls n ≡ Some m → P m) → P m
  found_split n l ls m (Some x) p h e go = looked_up n l m h (p ∙ e)
  found_split n l ls m None p h e go = go e

  found_in : (n : List ℕ) (ls : List Names) (m : Meaning) → LevelsHave ls → find_in ls n ≡ Some m → P m
  unfolding find_in
  found_in n [] m h e = absurd cc
  found_in n (l ∷ ls) m h e = found_split n l ls m (lookup (bytes_eq n) l) refl h.0 e (found_in n ls m h.1)

  -- what a name stands for is one of these
  pub found_has : (s : Sight) (n : List ℕ) (m : Meaning) → LevelsHave s.levels → find s n ≡ Some m → P m
  found_has s n m h e = found_in n s.levels m h e

level_so : (P Q : Meaning → Type 0) → ((m : Meaning) → P m → Q m) → (l : Names) → LevelHas P l → LevelHas Q l
level_so P Q f [] h = tt
level_so P Q f (x ∷ xs) h = (f x.1 h.0, level_so P Q f xs h.1)

pub levels_so : (P Q : Meaning → Type 0) → ((m : Meaning) → P m → Q m) → (ls : List Names) → LevelsHave P ls → LevelsHave Q ls
levels_so P Q f [] h = tt
levels_so P Q f (l ∷ ls) h = (level_so P Q f l h.0, levels_so P Q f ls h.1)

-- ---- what is seen

module _ (at : Sets) where
  abbrev pub MeaningSeen : Started → Meaning → Type 0
  MeaningSeen v (meaning.Local i m) = v i ≡ true
  MeaningSeen v (meaning.Loop i) = v i ≡ true
  MeaningSeen v (meaning.Label l) = (k : Started) × (at l ≡ Some k) × Within k v
  MeaningSeen v _ = Unit {0}

  more_seen : (v w : Started) → Within v w → (m : Meaning) → MeaningSeen v m → MeaningSeen w m
  more_seen v w h (meaning.Local i m) e = h i e
  more_seen v w h (meaning.Loop i) e = h i e
  more_seen v w h (meaning.Label l) e = (e.0, e.1, within_all e.0 v w e.2 h)
  more_seen v w h (meaning.Mode k) e = tt
  more_seen v w h (meaning.Proc k m) e = tt
  more_seen v w h (meaning.Data k) e = tt
  more_seen v w h (meaning.Stack k) e = tt
  more_seen v w h (meaning.Item b i m) e = tt
  more_seen v w h (meaning.SvcItem b i m) e = tt
  more_seen v w h (meaning.Svc k m) e = tt
  more_seen v w h meaning.UnknownProc e = tt
  more_seen v w h meaning.Unknown e = tt

  module _ (c : Scope) where
    abbrev pub IsSeen : Started → Meaning → Type 0
    IsSeen v m = IsThere c m × MeaningSeen v m

    pub record Sees (v : Started) (s : Sight) : Type 0 where
      pub records : s.records ≡ c.records
      pub fields : (r : ℕ) (d : RecordDef) → slice_get c.records r ≡ Some d → HasItems d
      pub strings : length s.strings ≡ c.strings
      pub levels : LevelsHave (IsSeen v) s.levels

    pub sees_within : (v : Started) (s : Sight) (l : Names) → Sees v s → LevelHas (IsSeen v) l → Sees v (within l s)
    sees_within v s l h k = record { records = h.records; fields = h.fields; strings = h.strings; levels = (k, h.levels) }

    -- one name more in the innermost level
    pub sees_named : (v : Started) (s : Sight) (n : List ℕ) (m : Meaning) → Sees v s → IsSeen v m → Sees v (with_name n m s)
    sees_named v s n m h e = record {
      records = h.records;
      fields = h.fields;
      strings = h.strings;
      levels = (declared_has (IsSeen v) n m (innermost s.levels) (innermost_has (IsSeen v) s.levels h.levels) e, outer_have (IsSeen v) s.levels h.levels);
    }

    -- where more has a value
    pub sees_more : (v w : Started) (s : Sight) → Within v w → Sees v s → Sees w s
    sees_more v w s k h = record {
      records = h.records;
      fields = h.fields;
      strings = h.strings;
      levels = levels_so (IsSeen v) (IsSeen w) (λ m e. (e.0, more_seen v w k m e.1)) s.levels h.levels;
    }

    pub agrees : (v : Started) (s : Sight) → Sees v s → Agree s c
    agrees v s h = record { records = h.records; fields = h.fields; strings = h.strings; names = λ n m e. (found_has (IsSeen v) s n m h.levels e).0 }

    pub is_seen : (v : Started) (s : Sight) → Sees v s → (n : List ℕ) (m : Meaning) → find s n ≡ Some m → MeaningSeen v m
    is_seen v s h n m e = (found_has (IsSeen v) s n m h.levels e).1

    local_seen : (v : Started) (m : Meaning) → MeaningSeen v m → LocalSeen v m
    local_seen v (meaning.Local i m) e = e
    local_seen v (meaning.Loop i) e = e
    local_seen v (meaning.Label l) e = tt
    local_seen v (meaning.Mode k) e = tt
    local_seen v (meaning.Proc k m) e = tt
    local_seen v (meaning.Data k) e = tt
    local_seen v (meaning.Stack k) e = tt
    local_seen v (meaning.Item b i m) e = tt
    local_seen v (meaning.SvcItem b i m) e = tt
    local_seen v (meaning.Svc k m) e = tt
    local_seen v meaning.UnknownProc e = tt
    local_seen v meaning.Unknown e = tt

    pub locals_seen : (v : Started) (s : Sight) → Sees v s → LocalsSeen s v
    locals_seen v s h n m e = local_seen v m (is_seen v s h n m e)
