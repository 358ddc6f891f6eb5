use Rattle.rt_meaning_laws.proofs.Stores.{read_leads}
use Rattle.rt_meaning_laws.proofs.Writing.{typed_written}
use Rattle.rt_meaning_laws.proofs.laws.reads_and_writes_fit.Goals as goal

pub returns : goal.returns
returns c = record {
  reads = λ ps t S own m l so k g h v. read_leads c.parts_suit_their_modes.ensures ps so t k S own m l g h v;
  writes = λ ps S l u w d at g h. typed_written c.writes_keep_modes.ensures at S d g h;
}
