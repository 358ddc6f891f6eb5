use Rattle.rt_accept.proofs.LibraryText as text
use Rattle.rt_accept.proofs.entries.library_is_short.Goals as goal

pub returns-clause-bytes : goal.returns-clause-bytes
returns-clause-bytes c = text.bytes

pub returns-clause-short : goal.returns-clause-short
returns-clause-short c = text.short
