use Rattle.std.proofs.Common.{ap, arith}
use Rattle.rt_generated.specs.declared.store.Texts.{Texts}
use Rattle.rt_generated.specs.Stores.{files_in}
use Rattle.rt_generated.proofs.Written.{same_files, none_done}
use Rattle.rt_generated.proofs.store.TextStoreStore.TheImpl.Goals as goal

pub read-tells : goal.read-tells
read-tells g c = record {
  bytes = c.ensures.bytes;
  short = c.ensures.short;
  missing = c.ensures.missing;
  too_long = c.ensures.too_long;
  failed = λ e. absurd (c.ensures.not_failed e);
  unchanged = same_files _ _ c.ensures.kept;
  reads_later = λ other. omega arith;
  writes_later = λ other. c.ensures.later;
}

pub write-tells : goal.write-tells
write-tells g c = record {
  bytes = none_done c.result _ c.ensures.fails;
  others = λ other ne. ap (λ (t : Texts). files_in t other) c.ensures.kept;
  failed = λ e. c.ensures.counted;
  reads_later = λ other. omega arith;
  writes_later = λ other. c.ensures.later;
}
