use Rattle.rt_resolve_laws.proofs.Resolved.{environments_are_bindings, names_lead, names_lead_alone}
use Rattle.rt_resolve_laws.proofs.laws.names_lead.Goals as goal

pub returns-clause-bindings : goal.returns-clause-bindings
returns-clause-bindings c = environments_are_bindings

pub returns-clause-lead : goal.returns-clause-lead
returns-clause-lead c = names_lead

pub returns-clause-alone : goal.returns-clause-alone
returns-clause-alone c = names_lead_alone
