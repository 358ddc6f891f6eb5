use Rattle.std.specs.Option.{option_to_list}
use Rattle.rt_outside.specs.Places.{kept}
use Rattle.rt_outside.proofs.Kept.{first_of-second, first_of-third}
use Rattle.rt_outside.proofs.shelf.Shelf.find.Goals as goal

pub returns-in-Some-latest : goal.returns-in-Some-latest
returns-in-Some-latest c =
    let s = c.self.inside in
    let none = rw (c.as_slice-log.ensures) at (c.in-None.ensures) in
    let some = rw (c.as_slice-log.ensures, c.as_slice.ensures) at (c.in-Some-latest.ensures) in
    rw (← c.self.view_is)
    (first_of-second (kept s.log.items (option_to_list s.unnamed)) (kept s.log.items s.named.items) s.given c.args.name.now c.in-Some-latest.bytes.now none some)

pub returns-in-None-latest : goal.returns-in-None-latest
returns-in-None-latest c =
    let s = c.self.inside in
    let none = rw (c.as_slice-log.ensures) at (c.in-None.ensures) in
    let also = rw (c.as_slice-log.ensures, c.as_slice.ensures) at (c.in-None-latest.ensures) in
    rw (c.first_given.ensures, c.as_slice-in-None-latest.ensures, ← c.self.view_is)
    (first_of-third (kept s.log.items (option_to_list s.unnamed)) (kept s.log.items s.named.items) s.given c.args.name.now none also)
