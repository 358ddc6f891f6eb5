use Rattle.std.proofs.Common.{rules}
use Rattle.std.proofs.lemmas.Str.{IsUtf8-from_ascii}
use Rattle.rt_accept.proofs.Lines.{ascii}
use Rattle.rt_accept.proofs.entries.name_in.Goals as goal

pub unwrap-requires : goal.unwrap-requires
unwrap-requires c =
    let utf8 = IsUtf8-from_ascii c.args.file.now (ascii c.args.file.now c.requires.bytes) in search rules
