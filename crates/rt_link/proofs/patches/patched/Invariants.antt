use Rattle.std.proofs.Common.{◌≡◌, length, drop}
use Rattle.rt_link.specs.Named.{relocated_word}
use Rattle.rt_link.specs.Relocated.{patched}
use Rattle.rt_link.proofs.patches.patched.Given as goal

abbrev pub invariant-loop-relocation : goal.invariant-loop-relocation
invariant-loop-relocation l = record {
  long : length l.made ≡ length l.words;
  rest : patched (relocated_word l.linking.objects.now l.linking.stacks.now l.linking.bindings.now.of l.«module») (drop l.relocation-index l.relocations) l.made ≡ patched (relocated_word l.linking.objects.now l.linking.stacks.now l.linking.bindings.now.of l.«module») l.relocations l.words;
}
