-- What the pieces of a text come to is in range.
use Rattle.std.proofs.Common.{ℕ, List, [], ◌∷◌, ◌++◌, Option, subst}
use Rattle.std.specs.List.{AllByRecursion}
use Rattle.rt_pieces.specs.declared.number.Opened.{Opened}
use Rattle.rt_pieces.specs.Cutting.{Piece, End, Cut, finish, blank, comment, open_comment, base, digits, piece, bad}
use Rattle.rt_items.specs.Ranges.{IsByte, KindInRange, ItemsAreInRange}
use Rattle.rt_items.proofs.Meanings.{meaning_in_range}
use Rattle.rt_items.proofs.Throughout.{items_are_so}

-- ---- the pieces hold bytes

abbrev Bytes : List ℕ → Type 0
Bytes bs = AllByRecursion IsByte bs

abbrev HasBytes : Piece → Type 0
HasBytes p = Bytes p.text

abbrev Pieces : List Piece → Type 0
Pieces ps = AllByRecursion HasBytes ps

front : (xs ys : List ℕ) → Bytes (xs ++ ys) → Bytes xs
front [] ys h = tt
front (x ∷ xs) ys h = (h.0, front xs ys h.1)

back : (xs ys : List ℕ) → Bytes (xs ++ ys) → Bytes ys
back [] ys h = h
back (x ∷ xs) ys h = back xs ys h.1

cut_pieces : {total : ℕ} {o : Option Opened} {n : ℕ} {bytes : List ℕ} {ps : List Piece} {e : End} → Cut total o n bytes ps e → Bytes bytes → Pieces ps
cut_pieces finish h = tt
cut_pieces (blank is more) h = cut_pieces more h.1
cut_pieces (comment body {rest = rest} same each more) h = cut_pieces more (back body (37 ∷ rest) (subst Bytes same h.1)).1
cut_pieces (open_comment each) h = tt
cut_pieces (base text {rest = rest} same is names more) h = cut_pieces more (back text rest (subst Bytes same h))
cut_pieces (digits run {rest = rest} same gap each ends more) h = (front run rest (subst Bytes same h), cut_pieces more (back run rest (subst Bytes same h)))
cut_pieces (piece text {rest = rest} same is none more) h = (front text rest (subst Bytes same h), cut_pieces more (back text rest (subst Bytes same h)))
cut_pieces (bad not_blank not_comment none) h = tt

pub all_in_range : ItemsAreInRange
all_in_range bytes items small (ps, e, cut, reads) = items_are_so KindInRange HasBytes meaning_in_range reads (cut_pieces cut small)
