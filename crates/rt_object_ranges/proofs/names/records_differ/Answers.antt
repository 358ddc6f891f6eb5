use Rattle.std.proofs.Common.{sym, ◌∙◌, arith, refl, map, take}
use Rattle.rt_modes.specs.declared.mode.RecordDef.{RecordDef}
use Rattle.rt_object_ranges.proofs.NamesDiffer.{known_more, differ_more, not_differ, all_differ}
use Rattle.rt_object_ranges.proofs.names.records_differ.Goals as goal

pub returns-then-not-branch : goal.returns-then-not-branch
returns-then-not-branch c =
    let old = sym (c.in_ok-note.ensures.new (take c.loop-definition.definition-index (map (λ (x : RecordDef). x.name) c.args.records.now)) c.loop-definition.invariant.known) ∙ c.if-not-branch.true in
    (λ e. absurd cc, λ h. absurd (not_differ (λ (x : RecordDef). x.name) c.args.records.now c.loop-definition.definition-index c.definition-item.result c.as_slice.result.now (omega arith) c.definition-item.is c.as_slice.ensures.bytes old h))

pub loop-definition-preserved : goal.loop-definition-preserved
loop-definition-preserved c =
    let before = take c.loop-definition.definition-index (map (λ (x : RecordDef). x.name) c.args.records.now) in
    let new = sym (c.in_ok-note.ensures.new before c.loop-definition.invariant.known) ∙ c.if-not-branch.false in
    record {
      known = known_more (λ (x : RecordDef). x.name) c.args.records.now c.loop-definition.definition-index c.definition-item.result c.as_slice.result.now (omega arith) c.definition-item.is c.as_slice.ensures.bytes c.note.new.names
          (c.in_ok-note.ensures.known before c.loop-definition.invariant.known);
      differ = differ_more (λ (x : RecordDef). x.name) c.args.records.now c.loop-definition.definition-index c.definition-item.result c.as_slice.result.now (omega arith) c.definition-item.is c.as_slice.ensures.bytes c.loop-definition.invariant.differ new;
    }

pub returns : goal.returns
returns c = (λ e. all_differ (λ (x : RecordDef). x.name) c.args.records.now c.loop-definition.definition-index (omega arith) c.loop-definition.invariant.differ, λ h. refl)
