use Rattle.std.proofs.Common.{refl, arith}
use Rattle.rt_templates.specs.Supported.{all_lines}
use Rattle.rt_templates_laws.proofs.Marking.{one_each, lines_small}
use Rattle.rt_templates_laws.proofs.laws.support_is_short.Goals as goal

pub returns : goal.returns
returns c s is = record {
  words = rw is.words (omega arith);
  one_each = rw (is.words, is.marks) (one_each all_lines);
  small = rw is.marks (lines_small all_lines refl);
  entries = rw is.entries refl;
}
