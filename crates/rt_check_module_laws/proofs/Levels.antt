-- What a name stands for in the level of a module's names, and the modes that are written with it.
use Rattle.std.proofs.Common.{◌≡◌, ℕ, Bool, true, false, List, [], ◌∷◌, ◌++◌, map, Option, Some, None, option_map, if◌then◌else◌, ◌||◌, refl, sym, ap, ◌∙◌}
use Rattle.std.specs.Prelude.{nat_lt, slice_get}
use Rattle.std.specs.List.{AllByRecursion}
use Rattle.std.specs.Str.{bytes_eq}
use Rattle.std.specs.Map.{lookup}
use Rattle.rt_grammar.specs.declared.at.At.{At}
use Rattle.rt_syntax_exprs.specs.declared.tree.WrittenMode.{WrittenMode, out-WrittenMode, roll-WrittenMode, map-WrittenMode}
use Rattle.rt_syntax_exprs.specs.declared.tree.WrittenMode as written_lemmas
use Rattle.rt_syntax_exprs.specs.declared.tree.WrittenMode.TheFolds.{ind-WrittenMode, fold_out-WrittenMode}
use Rattle.rt_syntax_exprs.specs.declared.tree.WrittenMode.TheOpen.{WrittenMode-F}
use Rattle.rt_modes.specs.declared.mode.Mode.{Mode, out-Mode}
use Rattle.rt_modes.specs.declared.mode.Mode.TheOpen.{Mode-F}
use Rattle.rt_tree_nodes.specs.declared.brick.Kind.{Kind}
use Rattle.rt_tree_nodes.specs.Scopes.{with, is_svc}
use Rattle.rt_exprs.specs.declared.scope.Meaning.{Meaning}
use Rattle.rt_exprs.specs.declared.scope.Meaning.TheVariants as meaning
use Rattle.rt_exprs.specs.Names.{find_in}
use Rattle.rt_exprs.specs.Operands.{or_else}
use Rattle.rt_check_declared.specs.declared.site.Site.{Site}
use Rattle.rt_check_declared.specs.Verdicts.{fit, ◌>>=◌}
use Rattle.rt_check_declared.specs.Written.{Names, Anywhere, named, judge, judged, counted, written}
use Rattle.rt_exprs.specs.Sights.{holds, declared, Names as Level}
use Rattle.rt_check_declared.specs.declared.names.Declared.{Declared}
use Rattle.rt_check_declared.specs.declared.names.Declared.TheVariants as what
use Rattle.rt_check_declared.specs.Names.{Known, find}
use Rattle.rt_check_declared.specs.declared.bricks.Heading.{Heading}
use Rattle.rt_check_declared.specs.declared.bricks.Sort.{Sort}
use Rattle.rt_check_declared.specs.declared.bricks.Sort.TheVariants as sort
use Rattle.rt_check_declared.specs.declared.parts.Given.{Given}
use Rattle.rt_check_declared.specs.declared.parts.Given.TheVariants as given
use Rattle.rt_check_declared.specs.declared.parts.Part.{Part}
use Rattle.rt_check_module.specs.declared.supplied.Own.{Own}
use Rattle.rt_check_module.specs.Levels.{with_mode, with_modes, mode_names, own_of, brick_by, brick_in, other_item, item_with, given_as, item_by, part_in, item_in, means, with_one, with_all, module_names}
use Rattle.rt_check_module.specs.Tree.{seen}
use Rattle.rt_check_module_laws.proofs.Known.{same_text, Once, find_first, find_next, find_nothing, IsBelow, KnownBelow}

-- ---- what a name of one level stands for

abbrev pub look : Level → List ℕ → Option Meaning
look [] n = None
look (x ∷ xs) n = if bytes_eq n x.0 then Some x.1 else look xs n

or_nothing : {A : Type 0} (o : Option A) → or_else o None ≡ o
or_nothing None = refl
or_nothing (Some x) = refl

or_same : {A : Type 0} (o p q : Option A) → or_else (or_else o p) q ≡ or_else o (or_else p q)
or_same None p q = refl
or_same (Some x) p q = refl

looked : (l : Level) (n : List ℕ) → lookup (bytes_eq n) l ≡ look l n
looked [] n = refl
looked (x ∷ xs) n = ap (λ (o : Option Meaning). if bytes_eq n x.0 then Some x.1 else o) (looked xs n)

pub seen_look : (l : Level) (n : List ℕ) → seen l n ≡ look l n
unfolding find_in
seen_look l n = or_nothing _ ∙ looked l n

look_joined : (l m : Level) (n : List ℕ) → look (l ++ m) n ≡ or_else (look l n) (look m n)
look_joined [] m n = refl
look_joined (x ∷ xs) m n = by_test (bytes_eq n x.0) (look_joined xs m n) where
  by_test : (t : Bool) → look (xs ++ m) n ≡ or_else (look xs n) (look m n) → (if t then Some x.1 else look (xs ++ m) n) ≡ or_else (if t then Some x.1 else look xs n) (look m n)
  by_test true e = refl
  by_test false e = e

held_looked : (l : Level) (n : List ℕ) → holds l n ≡ true → (m : Meaning) × (look l n ≡ Some m)
held_looked [] n e = absurd cc
held_looked (x ∷ xs) n e = by_test (bytes_eq n x.0) (held_looked xs n) e where
  by_test : (t : Bool) → (holds xs n ≡ true → (m : Meaning) × (look xs n ≡ Some m)) → t || holds xs n ≡ true → (m : Meaning) × ((if t then Some x.1 else look xs n) ≡ Some m)
  by_test true go h = (x.1, refl)
  by_test false go h = go h

-- what a name alone stands for
abbrev alone : List ℕ → Meaning → List ℕ → Option Meaning
alone n m q = if bytes_eq q n then Some m else None

look_declared : (n : List ℕ) (m : Meaning) (l : Level) (q : List ℕ) → look (declared n m l) q ≡ or_else (look l q) (alone n m q)
look_declared n m l q = by_held (holds l n) refl where
  by_held : (t : Bool) → holds l n ≡ t → look (if t then l else l ++ (n, m) ∷ []) q ≡ or_else (look l q) (alone n m q)
  by_held false e = look_joined l ((n, m) ∷ []) q
  by_held true e = by_test (bytes_eq q n) refl where
    by_test : (t : Bool) → bytes_eq q n ≡ t → look l q ≡ or_else (look l q) (if t then Some m else None)
    by_test false h = sym (or_nothing (look l q))
    by_test true h =
        let there = held_looked l n e in
        let found : look l q ≡ Some there.0 = ap (look l) (same_text q n h) ∙ there.1 in
        rw found refl

-- ---- the names of MODEs, and of all

abbrev mode_by : Declared → Option Meaning
mode_by (what.Record r) = Some (meaning.Mode r)
mode_by _ = None

-- the first MODE of a name
abbrev first_mode : Known → List ℕ → Option Meaning
first_mode [] n = None
first_mode (k ∷ ks) n = or_else (if bytes_eq n k.0 then mode_by k.1 else None) (first_mode ks n)

one_mode : (l : Level) (k : List ℕ × Declared) (n : List ℕ) → look (with_mode l k) n ≡ or_else (look l n) (if bytes_eq n k.0 then mode_by k.1 else None)
one_mode l (m, what.Record r) n = look_declared m (meaning.Mode r) l n
one_mode l (m, what.Brick b) n = none_more (bytes_eq n m) where
  none_more : (t : Bool) → look l n ≡ or_else (look l n) (if t then None else None)
  none_more true = sym (or_nothing (look l n))
  none_more false = sym (or_nothing (look l n))
one_mode l (m, what.Item b j) n = none_more (bytes_eq n m) where
  none_more : (t : Bool) → look l n ≡ or_else (look l n) (if t then None else None)
  none_more true = sym (or_nothing (look l n))
  none_more false = sym (or_nothing (look l n))

modes_look : (l : Level) (ks : Known) (n : List ℕ) → look (with_modes l ks) n ≡ or_else (look l n) (first_mode ks n)
modes_look l [] n = sym (or_nothing (look l n))
modes_look l (k ∷ ks) n =
    modes_look (with_mode l k) ks n ∙ ap (λ (o : Option Meaning). or_else o (first_mode ks n)) (one_mode l k n) ∙ or_same (look l n) (if bytes_eq n k.0 then mode_by k.1 else None) (first_mode ks n)

first_is : (ks : Known) (n : List ℕ) → Once ks → first_mode ks n ≡ with (find ks n) mode_by
first_is [] n h = rw (find_nothing n) refl
first_is (k ∷ ks) n h = by_test (bytes_eq n k.0) refl (first_is ks n h.1) where
  by_test : (t : Bool) → bytes_eq n k.0 ≡ t → first_mode ks n ≡ with (find ks n) mode_by → or_else (if t then mode_by k.1 else None) (first_mode ks n) ≡ with (find (k ∷ ks) n) mode_by
  by_test true e go =
      let gone : find ks n ≡ None = ap (find ks) (same_text n k.0 e) ∙ h.0 in
      let rest : first_mode ks n ≡ None = go ∙ ap (λ (o : Option Declared). with o mode_by) gone in
      ap (or_else (mode_by k.1)) rest ∙ or_nothing (mode_by k.1) ∙ sym (ap (λ (o : Option Declared). with o mode_by) (find_first k ks n e))
  by_test false e go = go ∙ sym (ap (λ (o : Option Declared). with o mode_by) (find_next k ks n e))

-- what a name is as a MODE
pub mode_seen : (ks : Known) (n : List ℕ) → Once ks → seen (mode_names ks) n ≡ with (find ks n) mode_by
mode_seen ks n h = seen_look (mode_names ks) n ∙ modes_look [] ks n ∙ first_is ks n h

module _ (owns : List (Option Own)) (bricks : List Heading) where
  all_look : (l : Level) (ks : Known) (n : List ℕ) → look (with_all owns bricks l ks) n ≡ or_else (look l n) (option_map (means owns bricks) (find ks n))
  all_look l [] n = rw (find_nothing n) (sym (or_nothing (look l n)))
  all_look l (k ∷ ks) n =
      all_look (with_one owns bricks l k) ks n ∙ ap (λ (o : Option Meaning). or_else o (option_map (means owns bricks) (find ks n))) (look_declared k.0 (means owns bricks k.1) l n)
      ∙ or_same (look l n) (alone k.0 (means owns bricks k.1) n) (option_map (means owns bricks) (find ks n)) ∙ ap (or_else (look l n)) (one (bytes_eq n k.0) refl) where
        one : (t : Bool) → bytes_eq n k.0 ≡ t → or_else (if t then Some (means owns bricks k.1) else None) (option_map (means owns bricks) (find ks n)) ≡ option_map (means owns bricks) (find (k ∷ ks) n)
        one true e = sym (ap (option_map (means owns bricks)) (find_first k ks n e))
        one false e = sym (ap (option_map (means owns bricks)) (find_next k ks n e))

-- ---- the same modes are written with both

abbrev pub NoMode : Meaning → Type 0
NoMode (meaning.Mode r) = ⊥
NoMode _ = Unit {0}

named_nothing : (at : At) (m : Meaning) → NoMode m → named at None ≡ named at (Some m)
named_nothing at (meaning.Mode r) h = absurd h
named_nothing at (meaning.Proc k m) h = refl
named_nothing at (meaning.Data k) h = refl
named_nothing at (meaning.Stack k) h = refl
named_nothing at (meaning.Item b i m) h = refl
named_nothing at (meaning.SvcItem b i m) h = refl
named_nothing at (meaning.Svc k m) h = refl
named_nothing at (meaning.Local k m) h = refl
named_nothing at (meaning.Loop k) h = refl
named_nothing at (meaning.Label k) h = refl
named_nothing at meaning.UnknownProc h = refl
named_nothing at meaning.Unknown h = refl

pub brick_no_mode : (b : ℕ) (o : Option Heading) → NoMode (brick_in b o)
brick_no_mode b None = tt
brick_no_mode b (Some h) = by_sort h.sort where
  by_sort : (s : Sort) → NoMode (brick_by b s)
  by_sort (sort.Procedure (given.Mode m)) = tt
  by_sort (sort.Procedure given.Unknown) = tt
  by_sort (sort.Items ps) = tt
  by_sort (sort.Stack n) = tt

module _ (k : Kind) (b j : ℕ) where
  other_no_mode : (m : Mode) (l : Mode-F Mode) → NoMode (other_item b j m l)
  other_no_mode m Mode-F.Label = tt
  other_no_mode m Mode-F.Byte = tt
  other_no_mode m Mode-F.Int = tt
  other_no_mode m Mode-F.Frac = tt
  other_no_mode m (Mode-F.Ref x) = tt
  other_no_mode m (Mode-F.RefArray x) = tt
  other_no_mode m (Mode-F.Array i x) = tt
  other_no_mode m (Mode-F.Record r) = tt
  other_no_mode m (Mode-F.Proc xs r) = tt

  shared_no_mode : (t : Bool) (m : Mode) → NoMode (if t then other_item b j m (out-Mode m) else meaning.Item b j m)
  shared_no_mode true m = other_no_mode m (out-Mode m)
  shared_no_mode false m = tt

  with_no_mode : (o : Option (Option Own)) (m : Mode) → NoMode (item_with k o b j m)
  with_no_mode (Some (Some o)) m = tt
  with_no_mode (Some None) m = shared_no_mode (is_svc k) m
  with_no_mode None m = shared_no_mode (is_svc k) m

  given_no_mode : (o : Option (Option Own)) (g : Given) → NoMode (given_as k o b j g)
  given_no_mode o given.Unknown = tt
  given_no_mode o (given.Mode m) = with_no_mode o m

  part_no_mode : (o : Option (Option Own)) (p : Option Part) → NoMode (item_by k o b j p)
  part_no_mode o None = tt
  part_no_mode o (Some p) = given_no_mode o p.has

pub item_no_mode : (o : Option (Option Own)) (b j : ℕ) (h : Option Heading) → NoMode (item_in o b j h)
item_no_mode o b j None = tt
item_no_mode o b j (Some h) = part_no_mode h.kind b j o (part_in h.sort j)

-- two kinds of names that stand for the same MODEs
abbrev pub SameModes : Names → Names → Type 0
SameModes a b = (n : List ℕ) (at : At) → named at (a n) ≡ named at (b n)

pub same_modes : (hs : List Heading) (ks : Known) → Once ks → SameModes (seen (mode_names ks)) (seen (module_names hs ks))
same_modes hs ks once n at =
    let owns : List (Option Own) = map own_of hs in
    let all : seen (module_names hs ks) n ≡ option_map (means owns hs) (find ks n) = seen_look (module_names hs ks) n ∙ all_look owns hs [] ks n in
    ap (named at) (mode_seen ks n once) ∙ by_find (find ks n) ∙ sym (ap (named at) all) where
      by_find : (o : Option Declared) → named at (with o mode_by) ≡ named at (option_map (means (map own_of hs) hs) o)
      by_find None = refl
      by_find (Some (what.Record r)) = refl
      by_find (Some (what.Brick b)) = named_nothing at (brick_in b (slice_get hs b)) (brick_no_mode b (slice_get hs b))
      by_find (Some (what.Item b j)) = named_nothing at (item_in (slice_get (map own_of hs) b) b j (slice_get hs b)) (item_no_mode (slice_get (map own_of hs) b) b j (slice_get hs b))

module _ (a b : Names) (same : SameModes a b) where
  abbrev Q : WrittenMode → Type 0
  Q w = judged a w ≡ judged b w

  abbrev Pair : Type 0
  Pair = (w : WrittenMode) × Q w

  judged_at : (names : Names) (w : WrittenMode) (l : WrittenMode-F WrittenMode) → out-WrittenMode w ≡ l → judged names w ≡ judge names (map-WrittenMode WrittenMode Anywhere (judged names) l)
  judged_at names w l o = rw (fold_out-WrittenMode, o) refl

  all_judged : (ps : List Pair) → map (judged a) (map (λ (e : Pair). e.0) ps) ≡ map (judged b) (map (λ (e : Pair). e.0) ps)
  all_judged [] = refl
  all_judged (p ∷ ps) = ap (λ (f : Anywhere). f ∷ map (judged a) (map (λ (e : Pair). e.0) ps)) p.1 ∙ ap (λ (fs : List Anywhere). judged b p.0 ∷ fs) (all_judged ps)

  one_level : (w : WrittenMode) (l : WrittenMode-F WrittenMode) → out-WrittenMode w ≡ l → judge a (map-WrittenMode WrittenMode Anywhere (judged a) l) ≡ judge b (map-WrittenMode WrittenMode Anywhere (judged b) l) → Q w
  one_level w l o e = judged_at a w l o ∙ e ∙ sym (judged_at b w l o)

  opened : (w : WrittenMode) (y : WrittenMode-F Pair) → out-WrittenMode w ≡ map-WrittenMode Pair WrittenMode (λ e. e.0) y → Q w
  opened w (WrittenMode-F.Name i) o = one_level w (WrittenMode-F.Name i) o (same i.name i.at)
  opened w (WrittenMode-F.Basic m at) o = one_level w (WrittenMode-F.Basic m at) o refl
  opened w (WrittenMode-F.Array n p at) o = one_level w (WrittenMode-F.Array n p.0 at) o (ap (λ (f : Anywhere). judge a (WrittenMode-F.Array n f at)) p.1)
  opened w (WrittenMode-F.Ref p at) o = one_level w (WrittenMode-F.Ref p.0 at) o (ap (λ (f : Anywhere). judge a (WrittenMode-F.Ref f at)) p.1)
  opened w (WrittenMode-F.RefArray p at) o = one_level w (WrittenMode-F.RefArray p.0 at) o (ap (λ (f : Anywhere). judge a (WrittenMode-F.RefArray f at)) p.1)
  opened w (WrittenMode-F.Proc ps None at) o = one_level w (WrittenMode-F.Proc (map (λ (e : Pair). e.0) ps) None at) o (ap (λ (fs : List Anywhere). judge a (WrittenMode-F.Proc fs None at)) (all_judged ps))
  opened w (WrittenMode-F.Proc ps (Some r) at) o =
      one_level w (WrittenMode-F.Proc (map (λ (e : Pair). e.0) ps) (Some r.0) at) o
      (ap (λ (fs : List Anywhere). judge a (WrittenMode-F.Proc fs (Some (judged a r.0)) at)) (all_judged ps) ∙ ap (λ (f : Anywhere). judge a (WrittenMode-F.Proc (map (judged b) (map (λ (e : Pair). e.0) ps)) (Some f) at)) r.1)

  out_roll : (l : WrittenMode-F WrittenMode) → out-WrittenMode (roll-WrittenMode l) ≡ l
  out_roll l = search written_lemmas.the_lemmas

  same_judged : (w : WrittenMode) → judged a w ≡ judged b w
  same_judged = ind-WrittenMode Q (λ x y is. opened (roll-WrittenMode x) y (out_roll x ∙ sym is))

  pub same_written : (w : WrittenMode) (place : Site) → written a w place ≡ written b w place
  same_written w place = ap (λ (f : Anywhere). f place >>= λ m. fit (counted m)) (same_judged w)

-- ---- a MODE is a record

module _ (n : ℕ) (name : List ℕ) (r : ℕ) where
  mode_is : (a b : ℕ) → Some (meaning.Mode a) ≡ Some (meaning.Mode b) → nat_lt b n ≡ nat_lt a n
  mode_is a b q = cc

  no_mode : None ≡ Some (meaning.Mode r) → ⊥
  no_mode z = cc

  one_below : (d : Declared) → IsBelow n d → mode_by d ≡ Some (meaning.Mode r) → nat_lt r n ≡ true
  one_below (what.Record k) h q = mode_is k r q ∙ h
  one_below (what.Brick b) h q = absurd cc
  one_below (what.Item b j) h q = absurd cc

  found_below : (ks : Known) → AllByRecursion (KnownBelow n) ks → with (find ks name) mode_by ≡ Some (meaning.Mode r) → nat_lt r n ≡ true
  found_below [] h q = absurd (no_mode (sym (ap (λ (o : Option Declared). with o mode_by) (find_nothing name)) ∙ q))
  found_below (k ∷ ks) h q = by_test (bytes_eq name k.0) refl (found_below ks h.1) where
    by_test : (t : Bool) → bytes_eq name k.0 ≡ t → (with (find ks name) mode_by ≡ Some (meaning.Mode r) → nat_lt r n ≡ true) → nat_lt r n ≡ true
    by_test true z go = one_below k.1 h.0 (sym (ap (λ (o : Option Declared). with o mode_by) (find_first k ks name z)) ∙ q)
    by_test false z go = go (sym (ap (λ (o : Option Declared). with o mode_by) (find_next k ks name z)) ∙ q)

  pub mode_below : (ks : Known) → Once ks → AllByRecursion (KnownBelow n) ks → seen (mode_names ks) name ≡ Some (meaning.Mode r) → nat_lt r n ≡ true
  mode_below ks once below e = found_below ks below (sym (mode_seen ks name once) ∙ e)
