use Rattle.rt_match.proofs.Verdicts.{all_have_one, exts_are_entries, svcs_are_supplied, lead_to_entries, have_one_table}
use Rattle.rt_match.proofs.laws.bindings_lead.Goals as goal

pub returns-clause-all : goal.returns-clause-all
returns-clause-all c = all_have_one

pub returns-clause-entries : goal.returns-clause-entries
returns-clause-entries c = exts_are_entries

pub returns-clause-supplied : goal.returns-clause-supplied
returns-clause-supplied c = svcs_are_supplied

pub returns-clause-there : goal.returns-clause-there
returns-clause-there c = lead_to_entries

pub returns-clause-one : goal.returns-clause-one
returns-clause-one c = have_one_table
