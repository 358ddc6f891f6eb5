use Rattle.rt_check_module_laws.proofs.Fields.{all_are_fields}
use Rattle.rt_check_module_laws.proofs.StartBricks.{starts_fit, read_starts_fit, each_item_has_a_part}
use Rattle.rt_check_module_laws.proofs.laws.what_is_made_fits.Goals as goal

pub returns-clause-made : goal.returns-clause-made
returns-clause-made g s c ls ps fs ready fields e = starts_fit s c ls ps fs ready fields e

pub returns-clause-read : goal.returns-clause-read
returns-clause-read g t s c ls ps fs ss ready fields h = read_starts_fit t s c ls ps fs ss ready fields h

pub returns-clause-parts : goal.returns-clause-parts
returns-clause-parts g names ls = each_item_has_a_part names ls

pub returns-clause-fields : goal.returns-clause-fields
returns-clause-fields g names ls e = all_are_fields names ls e
