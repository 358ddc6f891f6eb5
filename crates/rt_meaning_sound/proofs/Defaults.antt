-- The start of an item for which nothing is written has words alone.
use Rattle.std.proofs.Common.{ℕ, zero, suc, List, Option, Some, None, length, map, slice_get, arith}
use Rattle.std.specs.Prelude.{replicate}
use Rattle.rt_modes.specs.declared.mode.Field.{Field}
use Rattle.rt_modes.specs.declared.mode.Mode.{Mode, out-Mode}
use Rattle.rt_modes.specs.declared.mode.Mode.TheOpen.{Mode-F}
use Rattle.rt_modes.specs.declared.mode.RecordDef.{RecordDef}
use Rattle.rt_tree_nodes.specs.declared.brick.DataStart.{DataStart}
use Rattle.rt_tree_nodes.specs.declared.brick.DataStart.TheVariants as start
use Rattle.rt_check_module.specs.Defaults.{element_made, default_by, fields_made, record_made, default}
use Rattle.rt_bricks_laws.proofs.AllLists.{all_mapped}
use Rattle.rt_meaning_sound.proofs.NumberWords.{AreWords, a_number, a_list, all_copies}

pub zero_words : AreWords (start.Number 0)
zero_words = a_number 0 (omega arith)

-- where it is so of records
module _ (made : ℕ → DataStart) (known : (r : ℕ) → AreWords (made r)) where
  element_words : (l : Mode-F Mode) → AreWords (element_made made l)
  element_words (Mode-F.Record r) = known r
  element_words _ = zero_words

  mode_words : (l : Mode-F Mode) → AreWords (default_by made l)
  mode_words (Mode-F.Array n e) = a_list (replicate n (element_made made (out-Mode e))) (all_copies AreWords n (element_made made (out-Mode e)) (element_words (out-Mode e)))
  mode_words (Mode-F.Record r) = known r
  mode_words _ = zero_words

  fields_words : (d : Option RecordDef) → AreWords (fields_made made d)
  fields_words None = zero_words
  fields_words (Some d) = a_list (map (λ f. default_by made (out-Mode f.mode)) d.fields) (all_mapped AreWords (λ (f : Field). default_by made (out-Mode f.mode)) d.fields (λ f. mode_words (out-Mode f.mode)))

module _ (records : List RecordDef) where
  record_words : (levels r : ℕ) → AreWords (record_made records levels r)
  unfolding record_made
  record_words zero r = zero_words
  record_words (suc levels) r = fields_words (record_made records levels) (record_words levels) (slice_get records r)

  pub default_words : (m : Mode) → AreWords (default records m)
  default_words m = mode_words (record_made records (length records)) (record_words (length records)) (out-Mode m)
