use Rattle.rt_lower.specs.Drafts.{place_in, lead_in}
use Rattle.rt_lower.proofs.Laying.{laid_more, longer}
use Rattle.rt_lower.proofs.laid.lay.Goals as goal

pub loop-piece-preserved : goal.loop-piece-preserved
loop-piece-preserved c = record {
  made = laid_more (place_in c.args.places.now) (lead_in c.args.labels.now) c.loop-piece.made c.push.new.self c.loop-piece.yielded c.in-Some.piece c.in_ok-laid.field-0 c.len-k.result c.loop-piece.invariant.made c.loop-piece.invariant.count c.len-k.ensures c.in_ok-laid.ensures c.in_ok-push.ensures.ok;
  count = longer c.loop-piece.made c.push.new.self c.loop-piece.yielded c.in-Some.piece c.in_ok-laid.field-0 c.loop-piece.invariant.count c.in_ok-push.ensures.ok;
}
