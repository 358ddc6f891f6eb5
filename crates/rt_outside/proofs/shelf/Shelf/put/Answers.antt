use Rattle.std.proofs.Common.{◌≡◌, [], ◌∷◌, ◌++◌}
use Rattle.std.proofs.lemmas.Result.{IfOk-at_ok}
use Rattle.rt_outside.proofs.Puts.{puts_short, puts_long}
use Rattle.rt_outside.proofs.shelf.Shelf.put.Goals as goal
use Rattle.rt_outside.proofs.shelf.Shelf.put.Goals.{then-is_empty, else-is_empty}

pub returns-clause-files : goal.returns-clause-files
returns-clause-files c = elim c.if-is_empty.branch [
  | then-is_empty w ↦ rw (w.self-inside-is, ← c.self.view_is)
      (puts_short c.self.inside.log.items c.self.inside.unnamed c.self.inside.named.items c.self.inside.given c.self.invariant.no_name
      c.args.name.now c.args.bytes.now c.append-place.result c.self.invariant.unnamed_place c.self.invariant.named_place
      c.append-place.ensures.from c.append-place.ensures.middle c.append-place.ensures.to
      c.append-place.new.log.items c.append-place.ensures.log w.if-is_empty.ensures)
  | else-is_empty w ↦
      let pushed = IfOk-at_ok (λ _. w.push.new.self.items ≡ c.self.inside.named.items ++ c.append-place.result ∷ []) w.unwrap.ensures w.push.ensures.ok in
      rw (w.self-inside-is, ← c.self.view_is, pushed)
      (puts_long c.self.inside.log.items c.self.inside.unnamed c.self.inside.named.items c.self.inside.given c.self.invariant.no_name
      c.args.name.now c.args.bytes.now c.append-place.result c.self.invariant.unnamed_place c.self.invariant.named_place
      c.append-place.ensures.from c.append-place.ensures.middle c.append-place.ensures.to
      c.append-place.new.log.items c.append-place.ensures.log w.if-is_empty.ensures)
]
