use Rattle.std.proofs.Common.{sym, subst}
use Rattle.std.specs.List.{AllByRecursion}
use Rattle.rt_check.specs.Texts.{IsTree}
use Rattle.rt_compile.specs.Texts.{IsObjectOfText, IsFault}
use Rattle.rt_items.specs.Ranges.{IsByte}
use Rattle.rt_system.specs.declared.parts.Entry.TheVariants as entry
use Rattle.rt_accept.specs.Faulting.{line_of}
use Rattle.rt_accept.specs.Systems.{library_name, IsFileOf, RefusesLibrary}
use Rattle.rt_accept.proofs.Declined.{told}
use Rattle.rt_accept.proofs.entries.accept_library.Goals as goal

pub returns-in-Ok-clause-ok : goal.returns-in-Ok-clause-ok
returns-in-Ok-clause-ok c =
    subst (λ bs. IsObjectOfText bs c.in-Ok.object) c.library.ensures
    (c.in-Ok.ensures.object (subst (AllByRecursion IsByte) (sym c.library.ensures) c.library_is_short.ensures.bytes))

pub returns-in-Err-clause-err : goal.returns-in-Err-clause-err
returns-in-Err-clause-err c = λ reads reads_after.
    told (IsFileOf entry.Library) RefusesLibrary reads reads_after (line_of library_name c.in-Err.fault) c.not_compiled.result
    (λ f is. record {
      why = c.in-Err.fault;
      fault = subst (λ bs. IsFault bs c.in-Err.fault) c.library.ensures (c.in-Err.ensures.fault (subst (AllByRecursion IsByte) (sym c.library.ensures) c.library_is_short.ensures.bytes));
      code = λ tree is. c.in-Err.ensures.only tree (subst (AllByRecursion IsByte) (sym c.library.ensures) c.library_is_short.ensures.bytes) (subst (λ bs. IsTree bs tree) (sym c.library.ensures) is);
      line = is;
    }) c.not_compiled.ensures
