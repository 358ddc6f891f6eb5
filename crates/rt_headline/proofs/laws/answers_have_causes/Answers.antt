use Rattle.rt_headline.proofs.Caused.{only_these, others_kept, twenty, twenty_one, thirty, images_stay, told_inputs}
use Rattle.rt_headline.proofs.laws.answers_have_causes.Goals as goal

pub returns-clause-answers : goal.returns-clause-answers
returns-clause-answers c = only_these

pub returns-clause-files : goal.returns-clause-files
returns-clause-files c = others_kept

pub returns-clause-twenty : goal.returns-clause-twenty
returns-clause-twenty c = twenty

pub returns-clause-twenty_one : goal.returns-clause-twenty_one
returns-clause-twenty_one c = twenty_one

pub returns-clause-thirty : goal.returns-clause-thirty
returns-clause-thirty c = thirty

pub returns-clause-image : goal.returns-clause-image
returns-clause-image c = images_stay

pub returns-clause-told : goal.returns-clause-told
returns-clause-told c = told_inputs
