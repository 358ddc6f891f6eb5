use Rattle.std.proofs.Common.{ℕ, List, refl, ap, sym, take, ◌∙◌}
use Rattle.rt_pieces.specs.Cutting.{piece_at, digits_of}
use Rattle.rt_pieces.proofs.Fronts.{tail_is}
use Rattle.rt_pieces.proofs.Looking.{base_goes, piece_goes, digits_go}
use Rattle.rt_pieces.proofs.cut.cut_piece.Goals as goal

pub returns-in-Some : goal.returns-in-Some
returns-in-Some c =
    let bytes = c.args.cursor.rest.now in
    digits_go c.args.total c.args.cursor.opened c.in-Some.opened c.args.cursor.line bytes c.args.len _ _ c.in-Some.is c.requires.step c.requires.within c.requires.inside
    (ap (λ (t : List ℕ). digits_of c.args.total c.in-Some.opened (take c.args.len bytes) t) (tail_is bytes c.args.len)) (tail_is bytes c.args.len)

pub returns-in-Some-base_of : goal.returns-in-Some-base_of
returns-in-Some-base_of c =
    let bytes = c.args.cursor.rest.now in
    base_goes c.args.total c.args.cursor.opened c.args.cursor.line bytes c.args.len c.in-Some-base_of.base _ _ c.in-None.is c.requires.step c.requires.within c.requires.inside (sym c.base_of.ensures ∙ c.in-Some-base_of.is) refl (tail_is bytes c.args.len)

pub returns-in-None-base_of : goal.returns-in-None-base_of
returns-in-None-base_of c =
    let bytes = c.args.cursor.rest.now in
    piece_goes c.args.total c.args.cursor.opened c.args.cursor.line bytes c.args.len _ _ c.in-None.is c.requires.step c.requires.within c.requires.inside (sym c.base_of.ensures ∙ c.in-None-base_of.is)
    (ap (λ (t : List ℕ). piece_at c.args.total c.args.cursor.line bytes (take c.args.len bytes) t) (tail_is bytes c.args.len)) (tail_is bytes c.args.len)
