use Rattle.std.proofs.Common.{◌≡◌, ◌++◌, drop}
use Rattle.rt_link.specs.Imaged.{strings_data}
use Rattle.rt_link.proofs.data.put_strings.Given as goal

abbrev pub invariant-loop-string : goal.invariant-loop-string
invariant-loop-string l = l.out.items ++ strings_data (drop l.string-index l.strings) ≡ l.fn.out.items ++ strings_data l.strings
