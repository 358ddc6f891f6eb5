-- The starts of a module's data bricks have words alone.
use Rattle.std.proofs.Common.{◌≡◌, true, List, [], ◌∷◌, length, map, drop, Option, Some, None, subst}
use Rattle.std.specs.List.{AllByRecursion}
use Rattle.rt_bricks.specs.declared.tree.DataItem.{DataItem}
use Rattle.rt_bricks.specs.declared.tree.DataLine.{DataLine}
use Rattle.rt_bricks.specs.declared.tree.Declaration.{Declaration}
use Rattle.rt_bricks.specs.declared.tree.Declaration.TheVariants as declares
use Rattle.rt_bricks.specs.declared.tree.Start.{Start}
use Rattle.rt_modes.specs.declared.mode.Field.{Field}
use Rattle.rt_tree_nodes.specs.declared.brick.Brick.{Brick}
use Rattle.rt_tree_nodes.specs.declared.brick.BrickSort.TheVariants as brick_sort
use Rattle.rt_tree_nodes.specs.declared.brick.DataStart.{DataStart}
use Rattle.rt_exprs.specs.Sights.{Sight}
use Rattle.rt_exprs.specs.Names.{find}
use Rattle.rt_syntax.specs.Strings.{Texts}
use Rattle.rt_bricks_laws.specs.Bodies.{all as all_so}
use Rattle.rt_bricks_laws.specs.Numbers.{words_in_mode, words_if_started, words_in_item, words_in_line, words_in_declaration}
use Rattle.rt_bricks_laws.specs.Strings.{in_any, in_items, in_lines}
use Rattle.rt_check_declared.specs.Names.{bricks_in}
use Rattle.rt_check_declared.specs.declared.bricks.Heading.{Heading}
use Rattle.rt_check_declared.specs.declared.bricks.Sort.{Sort}
use Rattle.rt_check_declared.specs.declared.bricks.Sort.TheVariants as sort
use Rattle.rt_check_declared.specs.declared.parts.Given.{Given}
use Rattle.rt_check_declared.specs.declared.parts.Given.TheVariants as given
use Rattle.rt_check_declared.specs.declared.parts.Part.{Part}
use Rattle.rt_check_module.specs.Items.{records, start_by, items_starts, brick_starts}
use Rattle.rt_check_module_laws.specs.Starts.{AreBytes}
use Rattle.rt_check_module_laws.proofs.StartTexts.{items_keep, lines_keep}
use Rattle.rt_check_module.specs.declared.filling.Filling.{Filling}
use Rattle.rt_check_module.specs.Tree.{first, items_in, nothing, sort_by, filled, gathered, fillings_in}
use Rattle.rt_bricks_laws.proofs.AllLists.{left_of, right_of, all_joined}
use Rattle.rt_check_module_laws.proofs.Texts.{ShortIn, short_bytes}
use Rattle.rt_meaning_sound.proofs.NumberWords.{AreWords, all_copies}
use Rattle.rt_meaning_sound.proofs.Defaults.{zero_words, default_words}
use Rattle.rt_meaning_sound.proofs.Made.{made_words}

-- ---- the starts of a brick

module _ (s : Sight) where
  start_words : (o : Option Start) (g : Given) (prior : Texts) → AreBytes (in_any o prior) → words_if_started o ≡ true → AreWords (start_by s o g)
  start_words None (given.Mode m) prior b w = default_words (records s) m
  start_words None given.Unknown prior b w = zero_words
  start_words (Some x) (given.Mode m) prior b w = made_words (records s) (find s) s.strings x prior m b w
  start_words (Some x) given.Unknown prior b w = zero_words

  items_words : (is : List DataItem) (ps : List Part) (prior : Texts) → AreBytes (in_items is prior) → all_so (map words_in_item is) ≡ true → AllByRecursion AreWords (items_starts s is ps)
  items_words [] ps prior b w = tt
  items_words (i ∷ is) [] prior b w = tt
  items_words (i ∷ is) (p ∷ ps) prior b w = (
    start_words i.start p.has prior (items_keep is (in_any i.start prior) b) (left_of (words_in_item i) (all_so (map words_in_item is)) w),
    items_words is ps (in_any i.start prior) b (right_of (words_in_item i) (all_so (map words_in_item is)) w),
  )

  lines_words : (ls : List DataLine) (ps : List Part) (prior : Texts) → AreBytes (in_lines ls prior) → all_so (map words_in_line ls) ≡ true → AllByRecursion AreWords (brick_starts s ls ps)
  lines_words [] ps prior b w = tt
  lines_words (l ∷ ls) ps prior b w =
      all_joined AreWords (items_starts s l.items ps) (brick_starts s ls (drop (length l.items) ps))
      (items_words l.items ps prior (lines_keep ls (in_items l.items prior) b) (right_of (words_in_mode l.mode) (all_so (map words_in_item l.items)) (left_of (words_in_line l) (all_so (map words_in_line ls)) w)))
      (lines_words ls (drop (length l.items) ps) (in_items l.items prior) b (right_of (words_in_line l) (all_so (map words_in_line ls)) w))

-- ---- what the bricks of declarations hold

abbrev FillingWords : Filling → Type 0
FillingWords f = AllByRecursion AreWords f.starts

abbrev pub NumbersIn : Declaration → Type 0
NumbersIn d = words_in_declaration d ≡ true

module _ (s : Sight) where
  one_words : (h : Option Heading) (d : Declaration) → ShortIn d → NumbersIn d → AllByRecursion FillingWords (fillings_in s h d)
  one_words h (declares.Data d) b w = (lines_words s d.lines (items_in h) [] (short_bytes (in_lines d.lines []) b) w, tt)
  one_words h (declares.Procedure p) b w = (tt, tt)
  one_words h (declares.Record r) b w = all_copies FillingWords (bricks_in (declares.Record r)) nothing tt
  one_words h (declares.Stack x) b w = all_copies FillingWords (bricks_in (declares.Stack x)) nothing tt
  one_words h (declares.ImportedProcedures p) b w = all_copies FillingWords (bricks_in (declares.ImportedProcedures p)) nothing tt
  one_words h (declares.ImportedData d) b w = all_copies FillingWords (bricks_in (declares.ImportedData d)) nothing tt
  one_words h (declares.ImportedStacks x) b w = all_copies FillingWords (bricks_in (declares.ImportedStacks x)) nothing tt

  pub gathered_words : (hs : List Heading) (ds : List Declaration) → AllByRecursion ShortIn ds → AllByRecursion NumbersIn ds → AllByRecursion FillingWords (gathered (fillings_in s) hs ds)
  gathered_words hs [] b w = tt
  gathered_words hs (d ∷ ds) b w =
      all_joined FillingWords (fillings_in s (first hs) d) (gathered (fillings_in s) (drop (bricks_in d) hs) ds) (one_words (first hs) d b.0 w.0) (gathered_words (drop (bricks_in d) hs) ds b.1 w.1)

-- ---- bricks

abbrev pub BrickWords : Brick → Type 0
BrickWords d = (fs : List Field) (ss : List DataStart) → d.sort ≡ brick_sort.Data fs ss → AllByRecursion AreWords ss

sort_words : (s : Sort) (f : Filling) (fs : List Field) (ss : List DataStart) → FillingWords f → sort_by s f ≡ brick_sort.Data fs ss → AllByRecursion AreWords ss
sort_words (sort.Items ps) f fs ss h e = let same : f.starts ≡ ss = cc in subst (AllByRecursion AreWords) same h
sort_words (sort.Procedure (given.Mode m)) f fs ss h e = absurd cc
sort_words (sort.Procedure given.Unknown) f fs ss h e = absurd cc
sort_words (sort.Stack n) f fs ss h e = absurd cc

pub filled_words : (hs : List Heading) (fs : List Filling) → AllByRecursion FillingWords fs → AllByRecursion BrickWords (filled hs fs)
filled_words [] fs h = tt
filled_words (k ∷ hs) [] h = tt
filled_words (k ∷ hs) (f ∷ fs) h = (λ gs ss e. sort_words k.sort f gs ss h.0 e, filled_words hs fs h.1)
