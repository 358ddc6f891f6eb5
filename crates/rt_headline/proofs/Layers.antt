-- What the layers say of texts and of systems of objects.
use Rattle.std.proofs.Common.{◌≡◌, ℕ, false, List, Some}
use Rattle.rt_object.specs.declared.object.ObjectParts.{ObjectParts}
use Rattle.rt_compile.specs.declared.fault.CompileFault.{CompileFault}
use Rattle.rt_compile.specs.declared.fault.CompileFault.TheVariants as compile
use Rattle.rt_compile.specs.Texts.{IsObjectOfText, IsFault}
use Rattle.rt_compile.specs.Laws.{OneObject, NoneWithLongCode}
use Rattle.rt_compile_laws.specs.Faults.{TextsHaveOneFault}
use Rattle.rt_graph.specs.declared.fault.GraphFault.{GraphFault}
use Rattle.rt_graph.specs.declared.fault.GraphFault.TheVariants as graph
use Rattle.rt_link.specs.declared.fault.LinkFault.{LinkFault}
use Rattle.rt_link.specs.declared.fault.LinkFault.TheVariants as link
use Rattle.rt_link.specs.declared.judged.Judged.{Judged}
use Rattle.rt_link.specs.Laws.{IsGraphRefusal, IsRefusal, EachIsLinked, NeverBoth}
use Rattle.rt_link.specs.Verdict.{IsJudged}
use Rattle.rt_link.specs.Verdict.{IsFault as IsFaultOfSystem}
use Rattle.rt_match.specs.declared.fault.MatchFault.{MatchFault}
use Rattle.rt_match.specs.declared.fault.MatchFault.TheVariants as matching
use Rattle.rt_match.specs.Laws.{IsRefusal as IsMatchRefusal}
use Rattle.rt_report.specs.declared.fault.FaultLine.{FaultLine}
use Rattle.rt_system.specs.declared.parts.Entry.{Entry}
use Rattle.rt_system.specs.declared.parts.SystemParts.{SystemParts}
use Rattle.rt_system.specs.declared.parts.Task.{Task}
use Rattle.rt_system.specs.Laws.{HaveOneReading, HaveOneTickReading}
use Rattle.rt_system.specs.Laws as reading
use Rattle.rt_system.specs.Systems.{IsSystem, IsBadSystemLine, IsObjectLine}
use Rattle.rt_system.specs.Ticks.{IsTicks, IsBadTickLine}
use Rattle.rt_accept.specs.Faulting.{IsForItsCode, line_of}
use Rattle.rt_accept.specs.Verdicts.{file_at, module_in, match_line, graph_line}
use Rattle.rt_accept.specs.Verdicts.{line_of as verdict_line}
use Rattle.rt_headline.specs.Determined.{SameLine}
use Rattle.rt_headline.proofs.SameLines.{is_of_text, one_line}

-- each text, and each system of objects, is one thing
pub record Layers : Type 0 where
  pub one_system : (bytes : List ℕ) (s t : SystemParts) → IsSystem false bytes s → IsSystem false bytes t → s ≡ t
  pub no_bad_line : (bytes : List ℕ) (s : SystemParts) (n : ℕ) → IsSystem false bytes s → IsBadSystemLine false bytes n → ⊥
  pub no_object_line : (bytes : List ℕ) (s : SystemParts) (n : ℕ) → IsSystem false bytes s → IsObjectLine false bytes n → ⊥
  pub no_bad_tick : (bytes gaps : List ℕ) (n : ℕ) → IsTicks bytes gaps → IsBadTickLine bytes n → ⊥
  pub one_object : (text : List ℕ) (o p : ObjectParts) → IsObjectOfText text o → IsObjectOfText text p → o ≡ p
  pub no_fault : (text name : List ℕ) (o : ObjectParts) (why : CompileFault) (f : FaultLine) → IsObjectOfText text o → IsFault text why → IsForItsCode text why → line_of name why ≡ Some f → ⊥
  pub no_verdict : (objects : List ObjectParts) (entries : List Entry) (tasks : List Task) (known : Judged) (why : LinkFault) (f : FaultLine) → IsJudged objects tasks known → IsFaultOfSystem objects tasks why → verdict_line objects entries why ≡ Some f → ⊥

-- a text has one fault line
pub record Lines : Type 0 where
  pub one_bad_line : (bytes : List ℕ) (n m : ℕ) → IsBadSystemLine false bytes n → IsBadSystemLine false bytes m → n ≡ m
  pub one_object_line : (bytes : List ℕ) (n m : ℕ) → IsObjectLine false bytes n → IsObjectLine false bytes m → n ≡ m
  pub not_both : (bytes : List ℕ) (n m : ℕ) → IsBadSystemLine false bytes n → IsObjectLine false bytes m → ⊥
  pub one_bad_tick : (bytes : List ℕ) (n m : ℕ) → IsBadTickLine bytes n → IsBadTickLine bytes m → n ≡ m
  pub one_fault : (text name : List ℕ) (why why2 : CompileFault) (f f2 : FaultLine) → IsFault text why → IsFault text why2 → line_of name why ≡ Some f → line_of name why2 ≡ Some f2 → SameLine f f2

-- ---- systems

match_refusal : (file : List ℕ) (why : MatchFault) (f : FaultLine) → match_line file why ≡ Some f → IsMatchRefusal why
match_refusal file matching.Memory f e = absurd cc
match_refusal file (matching.Duplicate b) f e = tt
match_refusal file (matching.Missing m b) f e = tt
match_refusal file (matching.Mismatch m b w found) f e = tt
match_refusal file (matching.NotSupplied m b) f e = tt

graph_refusal : (objects : List ObjectParts) (why : GraphFault) (f : FaultLine) → graph_line objects why ≡ Some f → IsGraphRefusal why
graph_refusal objects graph.Memory f e = absurd cc
graph_refusal objects (graph.Recursion cycle) f e = tt
graph_refusal objects (graph.SmallStack task need has) f e = tt
graph_refusal objects (graph.BadTask line) f e = tt

refusal : (objects : List ObjectParts) (entries : List Entry) (why : LinkFault) (f : FaultLine) → verdict_line objects entries why ≡ Some f → IsRefusal why
refusal objects entries link.Memory f e = absurd cc
refusal objects entries (link.Unmatched m) f e = match_refusal (file_at entries (module_in m)) m f e
refusal objects entries (link.Refused g) f e = graph_refusal objects g f e
refusal objects entries (link.NoRoom bytes) f e = tt

-- ---- texts

no_fault : NoneWithLongCode → (text name : List ℕ) (o : ObjectParts) (why : CompileFault) (f : FaultLine) → IsObjectOfText text o → IsFault text why → IsForItsCode text why → line_of name why ≡ Some f → ⊥
no_fault none text name o compile.Memory f h k code e = absurd cc
no_fault none text name o (compile.Text t) f h k code e = code h.tree h.is_tree
no_fault none text name o (compile.Syntax l) f h k code e = code h.tree h.is_tree
no_fault none text name o (compile.Check t) f h k code e = code h.tree h.is_tree
no_fault none text name o (compile.ProcTooLong p) f h k code e = none text o p h k
no_fault none text name o compile.Beyond f h k code e = absurd cc

pub layers : HaveOneReading → HaveOneTickReading → OneObject → NoneWithLongCode → EachIsLinked → NeverBoth → Layers
layers one one_tick object none linked apart = record {
  one_system = λ bytes s t h k. let e : reading.System s ≡ reading.System t = one false bytes (reading.System s) (reading.System t) h k in cc;
  no_bad_line = λ bytes s n h k. let e : reading.System s ≡ reading.Bad n = one false bytes (reading.System s) (reading.Bad n) h k in absurd cc;
  no_object_line = λ bytes s n h k. let e : reading.System s ≡ reading.Object n = one false bytes (reading.System s) (reading.Object n) h k in absurd cc;
  no_bad_tick = λ bytes gaps n h k. let e : reading.Ticks gaps ≡ reading.BadTicks n = one_tick bytes (reading.Ticks gaps) (reading.BadTicks n) h k in absurd cc;
  one_object = object;
  no_fault = no_fault none;
  no_verdict = λ objects entries tasks known why f h k e. let l = linked objects tasks known h in apart objects tasks l.0 l.1 why l.2 (refusal objects entries why f e) k;
}

pub lines : HaveOneReading → HaveOneTickReading → TextsHaveOneFault → Lines
lines one one_tick fault = record {
  one_bad_line = λ bytes n m h k. let e : reading.Bad n ≡ reading.Bad m = one false bytes (reading.Bad n) (reading.Bad m) h k in cc;
  one_object_line = λ bytes n m h k. let e : reading.Object n ≡ reading.Object m = one false bytes (reading.Object n) (reading.Object m) h k in cc;
  not_both = λ bytes n m h k. let e : reading.Bad n ≡ reading.Object m = one false bytes (reading.Bad n) (reading.Object m) h k in absurd cc;
  one_bad_tick = λ bytes n m h k. let e : reading.BadTicks n ≡ reading.BadTicks m = one_tick bytes (reading.BadTicks n) (reading.BadTicks m) h k in cc;
  one_fault = λ text name why why2 f f2 h k e i. one_line name why why2 f f2 (fault text why why2 h k (is_of_text name why f e) (is_of_text name why2 f2 i)) e i;
}
