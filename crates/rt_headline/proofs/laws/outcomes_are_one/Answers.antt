use Rattle.rt_headline.proofs.Layers.{Layers, layers, lines}
use Rattle.rt_headline.proofs.One.{never_both, where_accepted, where_refused}
use Rattle.rt_headline.proofs.Cause.{one_refusal}
use Rattle.rt_headline.proofs.laws.outcomes_are_one.Goals.{After-one_verdict}
use Rattle.rt_headline.proofs.laws.outcomes_are_one.Goals as goal

the_layers : After-one_verdict → Layers
the_layers c = layers c.texts_have_one_reading.ensures.one c.tick_texts_have_one_reading.ensures.one c.one_object.ensures.one c.one_object.ensures.none c.one_verdict.ensures.linked c.one_verdict.ensures.apart

pub returns-clause-both : goal.returns-clause-both
returns-clause-both c = never_both (the_layers (goal.at.returns-clause-both c).After-one_verdict)

pub returns-clause-accepted : goal.returns-clause-accepted
returns-clause-accepted c = where_accepted (the_layers (goal.at.returns-clause-accepted c).After-one_verdict)

pub returns-clause-refused : goal.returns-clause-refused
returns-clause-refused c = where_refused (the_layers (goal.at.returns-clause-refused c).After-one_verdict)

pub returns-clause-cause : goal.returns-clause-cause
returns-clause-cause c =
    one_refusal (the_layers (goal.at.returns-clause-cause c).After-one_verdict) (lines c.texts_have_one_reading.ensures.one c.tick_texts_have_one_reading.ensures.one c.texts_have_one_fault.ensures)
