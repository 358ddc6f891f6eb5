use Rattle.std.proofs.Common.{◌≡◌, length, drop}
use Rattle.rt_link.specs.Named.{relocated_word}
use Rattle.rt_link.specs.Relocated.{padded, patched_bytes}
use Rattle.rt_link.proofs.patches.patched_bytes.Given as goal

abbrev pub invariant-loop-relocation : goal.invariant-loop-relocation
invariant-loop-relocation l = record {
  long : length l.made ≡ length (padded l.bytes);
  rest : patched_bytes (relocated_word l.linking.objects.now l.linking.stacks.now l.linking.bindings.now.of l.«module») (drop l.relocation-index l.relocations) l.made ≡ patched_bytes (relocated_word l.linking.objects.now l.linking.stacks.now l.linking.bindings.now.of l.«module») l.relocations (padded l.bytes);
}
