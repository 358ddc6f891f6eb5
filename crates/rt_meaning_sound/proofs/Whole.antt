-- The numbers of the tree of a module are those of its types.
use Rattle.std.proofs.Common.{List, [], map}
use Rattle.std.specs.List.{AllByRecursion}
use Rattle.rt_bricks.specs.declared.tree.Declaration.{Declaration}
use Rattle.rt_modes.specs.FullMode.{joined}
use Rattle.rt_items.specs.Ranges.{IsByte}
use Rattle.rt_bricks_laws.proofs.RangedBricks.{numbers_are_words}
use Rattle.rt_check_module.specs.Tree.{records, headings, texts, sight, fillings, tree_bricks}
use Rattle.rt_meaning_laws.specs.Starting.{numbers_in}
use Rattle.rt_bricks_laws.proofs.AllLists.{all_get}
use Rattle.rt_check_module_laws.proofs.Texts.{ShortIn, texts_short, all_short}
use Rattle.rt_meaning_sound.specs.Numbers.{StartsAreWords, StringsAreBytes}
use Rattle.rt_meaning_sound.proofs.Bricks.{NumbersIn, BrickWords, gathered_words, filled_words}
use Rattle.rt_meaning_sound.proofs.Strings.{strings_bytes}
use Rattle.rt_meaning_sound.proofs.NumberWords.{IsWord, all_words, of_one}

pub starts_are_words : StartsAreWords
starts_are_words items m t b d fs ss is sort n c =
    let ds : List Declaration = m.declarations in
    let short : AllByRecursion ShortIn ds = texts_short items m t in
    let words : AllByRecursion NumbersIn ds = numbers_are_words items m t.range t.derived in
    let bricks : AllByRecursion BrickWords (tree_bricks ds) = filled_words (headings ds) (fillings ds) (gathered_words (sight ds) (headings ds) ds short words) in
    of_one IsWord (joined (map numbers_in ss)) n (all_words ss (all_get BrickWords (tree_bricks ds) b d bricks is fs ss sort)) c

pub strings_are_bytes : StringsAreBytes
strings_are_bytes items m t k text is =
    let ds : List Declaration = m.declarations in
    let short : AllByRecursion ShortIn ds = texts_short items m t in
    all_get (AllByRecursion IsByte) (map (λ x. x.1) (texts ds)) k text (strings_bytes (texts ds) (all_short (records ds).records [] (headings ds) ds short tt)) is
