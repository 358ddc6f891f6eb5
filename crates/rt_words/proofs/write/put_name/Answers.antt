use Rattle.std.proofs.Common.{◌++◌, ap}
use Rattle.rt_words.specs.Spelling.{name_bytes}
use Rattle.rt_words.proofs.Growing.{grown}
use Rattle.rt_words.proofs.write.put_name.Goals as goal

pub returns-in_err-push-clause-err : goal.returns-in_err-push-clause-err
returns-in_err-push-clause-err c = grown _ (name_bytes c.args.name.now) (name_bytes c.args.name.now) c.args.out.now.items _ (ap (λ t. t ++ name_bytes c.args.name.now) c.in_err-push.ensures.err)
