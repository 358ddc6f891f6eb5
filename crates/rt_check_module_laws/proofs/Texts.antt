-- The strings of a module: those of its bodies and of the starts of its data.
use Rattle.std.proofs.Common.{◌≡◌, ℕ, ◌==◌, ◌||◌, Bool, true, false, List, [], ◌∷◌, ◌++◌, length, map, drop, Option, Some, None, if◌then◌else◌, append_assoc, refl, sym, ap, ◌∙◌, subst, arith}
use Rattle.std.specs.List.{list_all, AllByRecursion}
use Rattle.std.proofs.lemmas.Bool.Decides.{nat_tests}
use Rattle.std.proofs.lemmas.List.{append-nil}
use Rattle.rt_bricks.specs.declared.tree.DataItem.{DataItem}
use Rattle.rt_bricks.specs.declared.tree.DataLine.{DataLine}
use Rattle.rt_bricks.specs.declared.tree.Declaration.{Declaration}
use Rattle.rt_bricks.specs.declared.tree.Declaration.TheVariants as declares
use Rattle.rt_bricks.specs.declared.tree.Module.{Module}
use Rattle.rt_bricks.specs.declared.tree.Start.{Start, out-Start, roll-Start, map-Start}
use Rattle.rt_bricks.specs.declared.tree.Start as start_lemmas
use Rattle.rt_bricks.specs.declared.tree.Start.TheFolds.{ind-Start}
use Rattle.rt_bricks.specs.declared.tree.Start.TheOpen.{Start-F}
use Rattle.rt_modes.specs.declared.mode.RecordDef.{RecordDef}
use Rattle.rt_pieces.specs.declared.item.Item.{Item}
use Rattle.rt_items.specs.Ranges.{IsByte}
use Rattle.rt_syntax.specs.Strings.{Texts, Finds, all, in_body}
use Rattle.rt_tree.specs.Modules.{is_short}
use Rattle.rt_check_declared.specs.Written.{Names}
use Rattle.rt_check_declared.specs.Names.{bricks_in as brick_count}
use Rattle.rt_check_declared.specs.declared.bricks.Heading.{Heading}
use Rattle.rt_check_declared.specs.declared.parts.Given.{Given}
use Rattle.rt_check_declared.specs.declared.parts.Given.TheVariants as given
use Rattle.rt_check_declared.specs.declared.parts.Part.{Part}
use Rattle.rt_check_declared.specs.Bricks.{bricks_in, bricks}
use Rattle.rt_check_declared.specs.Parts.{item_parts}
use Rattle.rt_check_module.specs.Strings.{used, is_in, texts, start_texts, items_texts, brick_texts}
use Rattle.rt_check_module.specs.Strings.{all as all_texts}
use Rattle.rt_bricks_laws.specs.Strings.{in_start, in_any, in_items, in_lines, in_declaration, in_declarations, IsShortText}
use Rattle.rt_bricks_laws.proofs.StringBricks.{strings_are_short}
use Rattle.rt_check_module_laws.proofs.StartTexts.{found_at, texts_at}
use Rattle.rt_check_module_laws.specs.Starts.{AreBytes, BeginAt}
use Rattle.rt_check_module.specs.Tree.{first, items_in, texts_in, texts_from}
use Rattle.rt_check_module_laws.specs.Modules.{IsText}
use Rattle.rt_check_module_laws.proofs.Adding.{Adds, add_none, add_then, add_all, body_adds, start_adds, items_add, data_lines_add}
use Rattle.rt_check_module_laws.proofs.Bricks.{headings_counted, drop_joined}
use Rattle.rt_bricks_laws.proofs.AllLists.{all_joined, all_so, all_true, all_left, all_right, or_left, or_right, at_most}

abbrev pub AllShort : Texts → Type 0
AllShort ts = AllByRecursion IsShortText ts

-- ---- what is short behind others is short by itself

record Parted (f : Finds) (found : Texts) : Type 0 where
  before : AllShort found
  alone : AllShort (f [])

parted : (f : Finds) (found : Texts) → Adds f → AllShort (f found) → Parted f found
parted f found a h =
    let whole : AllShort (found ++ a.more) = subst AllShort (a.is found) h in
    record { before = all_left IsShortText found a.more whole; alone = subst AllShort (sym (a.is [])) (all_right IsShortText found a.more whole) }

-- and behind others again
behind_short : (f : Finds) (found : Texts) → Adds f → AllShort found → AllShort (f []) → AllShort (f found)
behind_short f found a h g = subst AllShort (sym (a.is found)) (all_joined IsShortText found a.more h (subst AllShort (a.is []) g))

declaration_adds : (d : Declaration) → Adds (in_declaration d)
declaration_adds (declares.Data d) = data_lines_add d.lines
declaration_adds (declares.Procedure p) = body_adds p.body
declaration_adds (declares.Record r) = add_none
declaration_adds (declares.Stack x) = add_none
declaration_adds (declares.ImportedProcedures p) = add_none
declaration_adds (declares.ImportedData d) = add_none
declaration_adds (declares.ImportedStacks x) = add_none

declarations_add : (ds : List Declaration) → Adds (in_declarations ds)
declarations_add [] = add_none
declarations_add (d ∷ ds) = add_then (in_declaration d) (in_declarations ds) (declaration_adds d) (declarations_add ds)

abbrev pub ShortIn : Declaration → Type 0
ShortIn d = AllShort (in_declaration d [])

each_short : (ds : List Declaration) (found : Texts) → AllShort (in_declarations ds found) → AllByRecursion ShortIn ds
each_short [] found h = tt
each_short (d ∷ ds) found h =
    let rest = parted (in_declarations ds) (in_declaration d found) (declarations_add ds) h in
    let one = parted (in_declaration d) found (declaration_adds d) rest.before in
    (one.alone, each_short ds (in_declaration d found) h)

pub texts_short : (items : List Item) (m : Module) → IsText items m → AllByRecursion ShortIn m.declarations
texts_short items m t = each_short m.declarations [] (strings_are_short items m t.few t.range t.derived)

pub short_bytes : (ts : Texts) → AllShort ts → AreBytes ts
short_bytes ts h = all_so IsShortText (λ t. AllByRecursion IsByte t.1) ts (λ t k. k.1) h

-- ---- the strings of starts

module _ (keys : List ℕ) where
  abbrev Kept : Start → Type 0
  Kept x = AllShort (in_start x []) → AllShort (texts keys x)

  abbrev Pair : Type 0
  Pair = (x : Start) × Kept x

  start_finds_add : (ps : List Pair) → AllByRecursion Adds (map in_start (map (λ (e : Pair). e.0) ps))
  start_finds_add [] = tt
  start_finds_add (p ∷ ps) = (start_adds p.0, start_finds_add ps)

  all_kept : (ps : List Pair) → AllShort (all (map in_start (map (λ (e : Pair). e.0) ps)) []) → AllShort (all_texts (map (texts keys) (map (λ (e : Pair). e.0) ps)))
  all_kept [] h = tt
  all_kept (p ∷ ps) h =
      let z = parted (all (map in_start (map (λ (e : Pair). e.0) ps))) (in_start p.0 []) (add_all (map in_start (map (λ (e : Pair). e.0) ps)) (start_finds_add ps)) h in
      all_joined IsShortText (texts keys p.0) (all_texts (map (texts keys) (map (λ (e : Pair). e.0) ps))) (p.1 z.before) (all_kept ps z.alone)

  as_texts : (x : Start) (ts : Texts) → texts keys x ≡ ts → AllShort ts → AllShort (texts keys x)
  as_texts x ts e h = subst AllShort (sym e) h

  opened : (x : Start) (y : Start-F Pair) → out-Start x ≡ map-Start Pair Start (λ (e : Pair). e.0) y → Kept x
  opened x (Start-F.Number sign n copies at) o h = as_texts x [] (texts_at keys x (Start-F.Number sign n copies at) o) tt
  opened x (Start-F.Text bytes at) o h = as_texts x _ (texts_at keys x (Start-F.Text bytes at) o) (by_use (is_in keys at.item)) where
    by_use : (t : Bool) → AllShort (if t then (at.item, bytes) ∷ [] else [])
    by_use true = subst (λ (f : Finds). AllShort (f [])) (found_at x (Start-F.Text bytes at) o) h
    by_use false = tt
  opened x (Start-F.Place i ss) o h = as_texts x [] (texts_at keys x (Start-F.Place i ss) o) tt
  opened x (Start-F.List ps copies at) o h =
      as_texts x _ (texts_at keys x (Start-F.List (map (λ (e : Pair). e.0) ps) copies at) o) (all_kept ps (subst (λ (f : Finds). AllShort (f [])) (found_at x (Start-F.List (map (λ (e : Pair). e.0) ps) copies at) o) h))

  rolled : (x : Start-F Start) → out-Start (roll-Start x) ≡ x
  rolled x = search start_lemmas.the_lemmas

  start_kept : (x : Start) → Kept x
  start_kept = ind-Start Kept (λ x y is. opened (roll-Start x) y (rolled x ∙ sym is))

module _ (records : List RecordDef) where
  given_short : (o : Option Start) (g : Given) → AllShort (in_any o []) → AllShort (start_texts records o g)
  given_short None g h = tt
  given_short (Some x) (given.Mode m) h = start_kept (used records x m) x h
  given_short (Some x) given.Unknown h = tt

  items_short : (is : List DataItem) (ps : List Part) → AllShort (in_items is []) → AllShort (items_texts records is ps)
  items_short [] ps h = tt
  items_short (i ∷ is) [] h = tt
  items_short (i ∷ is) (p ∷ ps) h =
      let z = parted (in_items is) (in_any i.start []) (items_add is) h in
      all_joined IsShortText (start_texts records i.start p.has) (items_texts records is ps) (given_short i.start p.has z.before) (items_short is ps z.alone)

  pub lines_short : (ls : List DataLine) (ps : List Part) → AllShort (in_lines ls []) → AllShort (brick_texts records ls ps)
  lines_short [] ps h = tt
  lines_short (l ∷ ls) ps h =
      let z = parted (in_lines ls) (in_items l.items []) (data_lines_add ls) h in
      all_joined IsShortText (items_texts records l.items ps) (brick_texts records ls (drop (length l.items) ps)) (items_short l.items ps z.before) (lines_short ls (drop (length l.items) ps) z.alone)

-- ---- the strings of a module

module _ (rs : List RecordDef) where
  one_short : (h : Option Heading) (d : Declaration) (found : Texts) → ShortIn d → AllShort found → AllShort (texts_in rs h d found)
  one_short h (declares.Data d) found s k = all_joined IsShortText found (brick_texts rs d.lines (items_in h)) k (lines_short rs d.lines (items_in h) s)
  one_short h (declares.Procedure p) found s k = behind_short (in_body p.body) found (body_adds p.body) k s
  one_short h (declares.Record r) found s k = k
  one_short h (declares.Stack x) found s k = k
  one_short h (declares.ImportedProcedures p) found s k = k
  one_short h (declares.ImportedData d) found s k = k
  one_short h (declares.ImportedStacks x) found s k = k

  pub all_short : (found : Texts) (hs : List Heading) (ds : List Declaration) → AllByRecursion ShortIn ds → AllShort found → AllShort (texts_from rs found hs ds)
  all_short found hs [] s k = k
  all_short found hs (d ∷ ds) s k = all_short (texts_in rs (first hs) d found) (drop (brick_count d) hs) ds s.1 (one_short (first hs) d found s.0 k)

  short_texts : (ts : Texts) → AllShort ts → list_all is_short (map (λ x. x.1) ts) ≡ true
  short_texts ts h = all_true is_short (map (λ x. x.1) ts) (each ts h) where
    each : (ts : Texts) → AllShort ts → AllByRecursion (λ s. is_short s ≡ true) (map (λ x. x.1) ts)
    each [] h = tt
    each (x ∷ xs) h = (at_most (length x.1) 8191 h.0.0, each xs h.1)

  pub module_short : (hs : List Heading) (ds : List Declaration) → AllByRecursion ShortIn ds → list_all is_short (map (λ x. x.1) (texts_from rs [] hs ds)) ≡ true
  module_short hs ds h = short_texts (texts_from rs [] hs ds) (all_short [] hs ds h tt)

  -- ---- each string of a start that is one of the module's is there

  record Goes (found result : Texts) : Type 0 where
    more : Texts
    is : result ≡ found ++ more

  goes_on : (found middle result : Texts) → Goes found middle → Goes middle result → Goes found result
  goes_on found middle result a b = record { more = a.more ++ b.more; is = b.is ∙ ap (λ (ts : Texts). ts ++ b.more) a.is ∙ append_assoc found a.more b.more }

  stays : (found : Texts) → Goes found found
  stays found = record { more = []; is = sym (append-nil found) }

  one_goes : (h : Option Heading) (d : Declaration) (found : Texts) → Goes found (texts_in rs h d found)
  one_goes h (declares.Data d) found = record { more = brick_texts rs d.lines (items_in h); is = refl }
  one_goes h (declares.Procedure p) found = let a = body_adds p.body in record { more = a.more; is = a.is found }
  one_goes h (declares.Record r) found = stays found
  one_goes h (declares.Stack x) found = stays found
  one_goes h (declares.ImportedProcedures p) found = stays found
  one_goes h (declares.ImportedData d) found = stays found
  one_goes h (declares.ImportedStacks x) found = stays found

  all_go : (found : Texts) (hs : List Heading) (ds : List Declaration) → Goes found (texts_from rs found hs ds)
  all_go found hs [] = stays found
  all_go found hs (d ∷ ds) =
      let middle : Texts = texts_in rs (first hs) d found in
      goes_on found middle (texts_from rs middle (drop (brick_count d) hs) ds) (one_goes (first hs) d found) (all_go middle (drop (brick_count d) hs) ds)

  abbrev keys_of : Texts → List ℕ
  keys_of ts = map (λ x. x.0) ts

  in_front : (xs ys : Texts) (k : ℕ) → is_in (keys_of xs) k ≡ true → is_in (keys_of (xs ++ ys)) k ≡ true
  in_front [] ys k e = absurd cc
  in_front (x ∷ xs) ys k e = by_test (x.0 == k) refl e (in_front xs ys k) where
    by_test : (t : Bool) → x.0 == k ≡ t → t || is_in (keys_of xs) k ≡ true → (is_in (keys_of xs) k ≡ true → is_in (keys_of (xs ++ ys)) k ≡ true) → x.0 == k || is_in (keys_of (xs ++ ys)) k ≡ true
    by_test true q h go = or_left (x.0 == k) _ q
    by_test false q h go = or_right (x.0 == k) _ (go h)

  in_back : (xs ys : Texts) (k : ℕ) → is_in (keys_of ys) k ≡ true → is_in (keys_of (xs ++ ys)) k ≡ true
  in_back [] ys k e = e
  in_back (x ∷ xs) ys k e = or_right (x.0 == k) (is_in (keys_of (xs ++ ys)) k) (in_back xs ys k e)

  same_number : (k : ℕ) → (k == k) ≡ true
  same_number k = grind (arith, nat_tests)

  there_from : (xs ys : Texts) → BeginAt (keys_of (xs ++ ys)) ys
  there_from xs [] = tt
  there_from xs (y ∷ ys) = (
    in_back xs (y ∷ ys) y.0 (or_left (y.0 == y.0) (is_in (keys_of ys) y.0) (same_number y.0)),
    subst (λ (ts : Texts). BeginAt (keys_of ts) ys) (append_assoc xs (y ∷ []) ys) (there_from (xs ++ y ∷ []) ys),
  )

  there_in : (found more : Texts) (ts : Texts) → BeginAt (keys_of found) ts → BeginAt (keys_of (found ++ more)) ts
  there_in found more ts h = all_so (λ x. is_in (keys_of found) x.0 ≡ true) (λ x. is_in (keys_of (found ++ more)) x.0 ≡ true) ts (λ x e. in_front found more x.0 e) h

  module _ (names : Names) where
    abbrev pub TextsThere : Texts → Declaration → Type 0
    TextsThere ts (declares.Data d) = BeginAt (keys_of ts) (brick_texts rs d.lines (item_parts names d.lines))
    TextsThere ts _ = Unit {0}

    one_there : (hs : List Heading) (d : Declaration) (found result : Texts) → Goes (texts_in rs (first (bricks_in names d ++ hs)) d found) result → TextsThere result d
    one_there hs (declares.Data d) found result g =
        let ts : Texts = brick_texts rs d.lines (item_parts names d.lines) in
        subst (λ (all : Texts). BeginAt (keys_of all) ts) (sym g.is) (there_in (found ++ ts) g.more ts (there_from found ts))
    one_there hs (declares.Procedure p) found result g = tt
    one_there hs (declares.Record r) found result g = tt
    one_there hs (declares.Stack x) found result g = tt
    one_there hs (declares.ImportedProcedures p) found result g = tt
    one_there hs (declares.ImportedData d) found result g = tt
    one_there hs (declares.ImportedStacks x) found result g = tt

    pub all_there : (found : Texts) (ds : List Declaration) (result : Texts) → result ≡ texts_from rs found (bricks names ds) ds → AllByRecursion (TextsThere result) ds
    all_there found [] result e = tt
    all_there found (d ∷ ds) result e =
        let xs : List Heading = bricks_in names d in
        let ys : List Heading = bricks names ds in
        let middle : Texts = texts_in rs (first (xs ++ ys)) d found in
        let rest : texts_from rs middle (drop (brick_count d) (xs ++ ys)) ds ≡ texts_from rs middle ys ds = ap (λ (hs : List Heading). texts_from rs middle hs ds) (drop_joined xs ys (brick_count d) (headings_counted names d)) in
        let goes = subst (Goes middle) (sym (e ∙ rest)) (all_go middle ys ds) in
        (one_there ys d found result goes, all_there middle ds result (e ∙ rest))
