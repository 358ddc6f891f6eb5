-- A text has fewer items than 65,536.
use Rattle.std.proofs.Common.{◌≡◌, ℕ, ◌+◌, ◌<◌, ◌≤◌, List, length, ◌++◌, Ok, Err, arith}
use Rattle.std.proofs.lemmas.List.{length-append, length-map}
use Rattle.rt_pieces.specs.declared.item.Item.{Item}
use Rattle.rt_pieces.specs.Cutting.{Piece, End, Clean, Stops}
use Rattle.rt_items.specs.Lets.{replaced, item_at, items_at, Reading, with_items, at_end, Items, Expands, ended, spoiled, item, too_many, declared, undeclared}
use Rattle.rt_items.specs.Texts.{Lets}

-- so many items stand before those of a reading
abbrev FewBehind : ℕ → Reading → Type 0
FewBehind count (Ok items) = count + length items ≤ 65535
FewBehind count (Err f) = Unit {0}

end_few : (e : End) (count : ℕ) → count ≤ 65535 → FewBehind count (at_end e)
end_few Clean count h = omega (arith, h)
end_few (Stops f) count h = tt

counted : (count n : ℕ) (items others : List Item) → length items ≡ n → (count + n) + length others ≤ 65535 → count + length (items ++ others) ≤ 65535
counted count n items others same h = omega (arith, same, h, length-append items others)

with_few : (count n : ℕ) (items : List Item) (r : Reading) → length items ≡ n → FewBehind (count + n) r → FewBehind count (with_items items r)
with_few count n items (Ok others) same h = counted count n items others same h
with_few count n items (Err f) same h = tt

few_behind : {e : End} {lets : Lets} {count : ℕ} {ps : List Piece} {r : Reading} → Expands e lets count ps r → count ≤ 65535 → FewBehind count r
few_behind {e = e} {count = count} ended h = end_few e count h
few_behind (spoiled is) h = tt
few_behind (item {lets = lets} {count = count} {p = p} {r = r} k means plain small more) h =
    with_few count (length (replaced lets k)) (items_at p.line p.from p.to (replaced lets k)) r (length-map (replaced lets k) (item_at p.line p.from p.to)) (few_behind more small)
few_behind (too_many k means plain many) h = tt
few_behind (declared k d means is says more) h = few_behind more h
few_behind (undeclared k means is says) h = tt

pub few_items : (bytes : List ℕ) (items : List Item) → Items bytes (Ok items) → length items < 65536
few_items bytes items (ps, e, cut, reads) = let start : 0 ≤ 65535 = omega arith in omega (arith, few_behind reads start)
