use Rattle.rt_compile.proofs.Answered.{answered, told}
use Rattle.rt_compile.proofs.text.compile.Goals as goal

pub returns-clause-answered : goal.returns-clause-answered
returns-clause-answered c = λ o small is ranges.
    answered c.one_object.ensures.one c.one_object.ensures.none c.args.text.now o c.object_of.result
    (record { object = c.object_of.ensures.object small; fault = c.object_of.ensures.fault small; only = λ t. c.object_of.ensures.only t small }) is ranges

pub returns-clause-long : goal.returns-clause-long
returns-clause-long c = λ name small is.
    told c.one_object.ensures.none c.one_object.ensures.long c.args.text.now name c.object_of.result
    (record { object = c.object_of.ensures.object small; fault = c.object_of.ensures.fault small; only = λ t. c.object_of.ensures.only t small }) is
