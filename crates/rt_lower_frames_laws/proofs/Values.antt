-- The code of a value leaves one value more, that of a place's address one where the place takes a word, with the points of the plain
-- tree and within its depth.
use Rattle.std.proofs.Common.{◌≡◌, ℕ, zero, suc, ◌+◌, ◌-◌, ◌≤◌, ◌==◌, Bool, true, false, ◌&&◌, ◌||◌, not, if◌then◌else◌, List, [], ◌∷◌, ◌++◌, max, refl, sym, ap, ◌∙◌, subst, arith}
use Rattle.std.proofs.lemmas.List.{append-nil}
use Rattle.rt_modes.specs.declared.mode.Mode.{Mode}
use Rattle.rt_tree_nodes.specs.declared.operators.Op1.{Op1}
use Rattle.rt_tree_nodes.specs.declared.operators.Op1.TheVariants as one
use Rattle.rt_tree_nodes.specs.declared.operators.Op2.{Op2}
use Rattle.rt_tree_nodes.specs.declared.operators.Op2.TheVariants as two
use Rattle.rt_tree_nodes.specs.Tree.{Term, Num, Str, Name, Own, Get, Ref, RefRow, Count, CountRow, One, Two, Over, Apply, ApplyBy, Path, ItemAt, Svc, FieldOf, Elem, ElemRow, Past, Terms, NoTerm, MoreTerms}
use Rattle.rt_tree.specs.Depth.{depth, address_depth, arguments_depth, behind}
use Rattle.rt_work_state.specs.Items as items
use Rattle.rt_frames.specs.declared.frame.CallPoint.{CallPoint}
use Rattle.rt_frames.specs.declared.frame.Target.TheVariants as target
use Rattle.rt_frames.specs.Points.{point, waits, is_division, is_safe, error_points}
use Rattle.rt_frames.proofs.Under.{depth_some}
use Rattle.rt_frames_laws.specs.Plain.{number_of, how_many, term_points, path_points, terms_points}
use Rattle.rt_icode.specs.declared.ins.OwnItem.TheVariants as item
use Rattle.rt_icode.specs.declared.ins.Width.{Width}
use Rattle.rt_icode.specs.declared.ins.Ins.{Ins}
use Rattle.rt_icode.specs.declared.ins.Ins.TheVariants as ins
use Rattle.rt_lower.specs.declared.layouts.Layouts.{Layouts}
use Rattle.rt_lower.specs.Layouts.{field_offset, bytes}
use Rattle.rt_lower.specs.declared.site.Site.{Site}
use Rattle.rt_lower.specs.declared.site.Site.TheVariants as site
use Rattle.rt_lower.specs.Values.{width_of, site_of, field_site, wanted, read, written, reached, row_reached, told, element, altered, merged, is_sure, divided, division_of, value, address, values, alone}
use Rattle.rt_lower_frames_laws.specs.Heights.{takes, leaves, points_at}
use Rattle.rt_lower_frames_laws.specs.Heights as heights
use Rattle.rt_lower_frames_laws.proofs.Held.{Held, held_more, held_to, held_both, held_none, held_one, held_call, held_then, held_first}
use Rattle.rt_lower_frames_laws.proofs.Sound.{TermSound, PathSound, TermsSound, PlaceSound}

-- ---- small facts

waits_one : (n : ℕ) → 1 ≤ n → waits n ≡ 1
waits_one zero l = absurd (omega arith)
waits_one (suc n) l = refl

many_same : (vs : Terms) → items.how_many vs ≡ how_many vs
many_same NoTerm = refl
many_same (MoreTerms v vs) = ap suc (many_same vs)

safe_same : (a b : Bool) → not (a || b) ≡ not a && not b
safe_same true b = refl
safe_same false b = refl

sure_same : (b : Term) → is_sure b ≡ is_safe (number_of b)
sure_same (Num n) = safe_same (n == 0) (n == 65535)
sure_same _ = refl

-- ---- what a place is, and the words that it takes

abbrev Sited : Site → ℕ → Type 0
Sited (site.Own k) n = n ≡ 0
Sited (site.Fixed f) n = n ≡ 0
Sited site.Stacked n = 1 ≤ n

abbrev Shared : Site → Type 0
Shared (site.Own k) = ⊥
Shared (site.Fixed f) = Unit {0}
Shared site.Stacked = Unit {0}

field_sited : (l : Layouts) (r k n : ℕ) (s : Site) → Shared s → Sited s n → Shared (field_site l r k s) × Sited (field_site l r k s) n
field_sited l r k n (site.Own j) h g = absurd h
field_sited l r k n (site.Fixed f) h g = (tt, g)
field_sited l r k n site.Stacked h g = (tt, g)

element_deep : (a d : ℕ) → 1 ≤ d → 1 ≤ behind a d
element_deep zero d l = l
element_deep (suc a) d l = grind arith

module _ (l : Layouts) where
  path_sited : (q : Path) → PathSound q → Shared (site_of l q) × Sited (site_of l q) (address_depth q)
  path_sited (ItemAt b i) h = (tt, refl)
  path_sited (Svc k) h = absurd h
  path_sited (FieldOf q r k) h = let s = path_sited q h in field_sited l r k (address_depth q) (site_of l q) s.0 s.1
  path_sited (Elem q v n m) h = (tt, element_deep (address_depth q) (depth v) (depth_some v))
  path_sited (ElemRow a v m) h = (tt, grind arith)
  path_sited (Past v) h = (tt, depth_some v)

-- ---- what is done with a place, behind its address

read_held : (s : Site) (n h : ℕ) (z : Width) (code : List Ins) (ps : List CallPoint) → Sited s n → Held h (h + waits n) (h + n) (wanted s code) ps → Held h (h + 1) (h + max 1 n) (wanted s code ++ read z s ∷ []) ps
read_held (site.Own k) n h z code ps g e = held_then h (h + waits n) (h + 1) (h + n) (h + max 1 n) [] (ins.LoadOwn k) ps e (grind arith) refl (omega arith) (let same : waits n ≡ 0 = ap waits g in omega (arith, same)) (grind arith)
read_held (site.Fixed f) n h z code ps g e = held_then h (h + waits n) (h + 1) (h + n) (h + max 1 n) [] (ins.Load z f) ps e (grind arith) refl (omega arith) (let same : waits n ≡ 0 = ap waits g in omega (arith, same)) (grind arith)
read_held site.Stacked n h z code ps g e =
    let same = waits_one n g in
    held_then h (h + waits n) (h + 1) (h + n) (h + max 1 n) code (ins.Fetch z) ps e (grind arith) refl (omega (arith, same)) (omega (arith, same)) (grind arith)

reached_held : (s : Site) (n h : ℕ) (code : List Ins) (ps : List CallPoint) → Shared s → Sited s n → Held h (h + waits n) (h + n) (wanted s code) ps → Held h (h + 1) (h + max 1 n) (wanted s code ++ reached s) ps
reached_held (site.Own k) n h code ps k0 g e = absurd k0
reached_held (site.Fixed f) n h code ps k0 g e = held_then h (h + waits n) (h + 1) (h + n) (h + max 1 n) [] (ins.Reach f) ps e (grind arith) refl (omega arith) (let same : waits n ≡ 0 = ap waits g in omega (arith, same)) (grind arith)
reached_held site.Stacked n h code ps k0 g e =
    let same = waits_one n g in
    subst (λ c. Held h (h + 1) (h + max 1 n) c ps) (sym (append-nil code)) (held_more h (h + 1) (h + n) (h + max 1 n) code ps (grind arith) (held_to h (h + waits n) (h + 1) (h + n) code ps (omega (arith, same)) e))

told_held : (s : Site) (n h count : ℕ) (code : List Ins) (ps : List CallPoint) → Shared s → Sited s n → Held h (h + waits n) (h + n) (wanted s code) ps → Held h (h + 1) (h + max 1 n) (wanted s code ++ told count s ∷ []) ps
told_held (site.Own k) n h count code ps k0 g e = absurd k0
told_held (site.Fixed f) n h count code ps k0 g e = held_then h (h + waits n) (h + 1) (h + n) (h + max 1 n) [] (ins.Const count) ps e (grind arith) refl (omega arith) (let same : waits n ≡ 0 = ap waits g in omega (arith, same)) (grind arith)
told_held site.Stacked n h count code ps k0 g e =
    let same = waits_one n g in
    held_then h (h + waits n) (h + 1) (h + n) (h + max 1 n) code (ins.Tell count) ps e (grind arith) refl (omega (arith, same)) (omega (arith, same)) (grind arith)

-- a row that is its address already
row_held : (s : Site) (n h count : ℕ) (code : List Ins) (ps : List CallPoint) → Shared s → Sited s n → Held h (h + waits n) (h + n) (wanted s code) ps → Held h (h + 1) (h + max 1 n) (wanted s code ++ row_reached count [] s) ps
row_held (site.Own k) n h count code ps k0 g e = absurd k0
row_held (site.Fixed f) n h count code ps k0 g e = held_then h (h + waits n) (h + 1) (h + n) (h + max 1 n) [] (ins.ReachRow f count) ps e (grind arith) refl (omega arith) (let same : waits n ≡ 0 = ap waits g in omega (arith, same)) (grind arith)
row_held site.Stacked n h count code ps k0 g e = reached_held site.Stacked n h code ps k0 g e

-- the row of a field, made of the address of its record
field_row_held : (l : Layouts) (r k o : ℕ) (s : Site) (n h count : ℕ) (code : List Ins) (ps : List CallPoint) → Shared s → Sited s n → Held h (h + waits n) (h + n) (wanted s code) ps
    → Held h (h + 1) (h + max 1 n) (wanted (field_site l r k s) code ++ row_reached count (ins.IntoRow k o count ∷ []) (field_site l r k s)) ps
field_row_held l r k o (site.Own j) n h count code ps k0 g e = absurd k0
field_row_held l r k o (site.Fixed f) n h count code ps k0 g e =
    held_then h (h + waits n) (h + 1) (h + n) (h + max 1 n) [] (ins.ReachRow _ count) ps e (grind arith) refl (omega arith) (let same : waits n ≡ 0 = ap waits g in omega (arith, same)) (grind arith)
field_row_held l r k o site.Stacked n h count code ps k0 g e =
    let same = waits_one n g in
    held_then h (h + waits n) (h + 1) (h + n) (h + max 1 n) code (ins.IntoRow k o count) ps e (grind arith) refl (omega (arith, same)) (omega (arith, same)) (grind arith)

-- the address of a field
field_held : (l : Layouts) (r k o : ℕ) (s : Site) (n h : ℕ) (code : List Ins) (ps : List CallPoint) → Shared s → Sited s n → Held h (h + waits n) (h + n) (wanted s code) ps → Held h (h + waits n) (h + n) (wanted (field_site l r k s) (code ++ ins.Into k o ∷ [])) ps
field_held l r k o (site.Own j) n h code ps k0 g e = absurd k0
field_held l r k o (site.Fixed f) n h code ps k0 g e = e
field_held l r k o site.Stacked n h code ps k0 g e =
    let same = waits_one n g in
    held_then h (h + waits n) (h + waits n) (h + n) (h + n) code (ins.Into k o) ps e (omega arith) refl (omega (arith, same)) (omega (arith, same)) e.small

-- an instruction that makes two words one
record Merges (i : Ins) : Type 0 where
  calls : (h : ℕ) → points_at i h ≡ []
  two : takes i ≡ 2
  one : leaves i ≡ 1

-- behind what is below and a subscript
indexed_held : (i : Ins) (a d h : ℕ) (xs ys : List Ins) (ps qs : List CallPoint) → Merges i → 1 ≤ d → Held h (h + 1) (h + a) xs ps → Held (h + 1) (h + 1 + 1) (h + 1 + d) ys qs → Held h (h + waits (max a (suc d))) (h + max a (suc d)) (xs ++ (ys ++ i ∷ [])) (ps ++ qs)
indexed_held i a d h xs ys ps qs m l e f =
    let low : h + a ≤ h + max a (suc d) = grind arith in
    let high : h + 1 + d ≤ h + max a (suc d) = grind arith in
    let same : waits (max a (suc d)) ≡ 1 = waits_one (max a (suc d)) (grind arith) in
    let goal : h + 1 + 1 - takes i + leaves i ≡ h + waits (max a (suc d)) = omega (arith, m.two, m.one, same) in
    let small : h + waits (max a (suc d)) ≤ h + max a (suc d) = omega (arith, same, l, high) in
    held_both h (h + 1) (h + 1) (h + waits (max a (suc d))) (h + a) (h + max a (suc d)) (h + max a (suc d)) xs (ys ++ i ∷ []) ps qs refl low (omega arith) e
    (held_then (h + 1) (h + 1 + 1) (h + waits (max a (suc d))) (h + 1 + d) (h + max a (suc d)) ys i qs f high (m.calls (h + 1 + 1)) (omega (arith, m.two)) goal small)

-- an element behind the address of its array and its subscript
element_held : (s : Site) (n d h count size : ℕ) (code sub : List Ins) (ps qs : List CallPoint) → Shared s → Sited s n → 1 ≤ d → Held h (h + waits n) (h + n) (wanted s code) ps → Held (h + waits n) (h + waits n + 1) (h + waits n + d) sub qs
    → Held h (h + waits (behind n d)) (h + behind n d) (wanted s code ++ (sub ++ element count size s ∷ [])) (ps ++ qs)
element_held (site.Own j) n d h count size code sub ps qs k0 g m e f = absurd k0
element_held (site.Fixed x) zero d h count size code sub ps qs k0 g m e f =
    let same = waits_one d m in
    held_both h (h + 0) (h + 0) (h + waits d) (h + 0) (h + d) (h + d) [] (sub ++ ins.ElementAt x count size ∷ []) ps qs refl (omega arith) (omega arith) e
    (held_then (h + 0) (h + 0 + 1) (h + waits d) (h + 0 + d) (h + d) sub (ins.ElementAt x count size) qs f (omega arith) refl (omega arith) (omega (arith, same)) (omega (arith, same, m)))
element_held (site.Fixed x) (suc n) d h count size code sub ps qs k0 g m e f = absurd (omega (arith, g))
element_held site.Stacked zero d h count size code sub ps qs k0 g m e f = absurd (omega (arith, g))
element_held site.Stacked (suc n) d h count size code sub ps qs k0 g m e f = indexed_held (ins.Element count size) (suc n) d h code sub ps qs (record { calls = λ k. refl; two = refl; one = refl }) m e f

-- ---- operators

altered_held : (o : Op1) (h most : ℕ) (code : List Ins) (ps : List CallPoint) → Held h (h + 1) most code ps → Held h (h + 1) most (code ++ altered o) ps
altered_held one.Plus h most code ps e = subst (λ c. Held h (h + 1) most c ps) (sym (append-nil code)) e
altered_held one.Int h most code ps e = subst (λ c. Held h (h + 1) most c ps) (sym (append-nil code)) e
altered_held one.Frac h most code ps e = subst (λ c. Held h (h + 1) most c ps) (sym (append-nil code)) e
altered_held one.Minus h most code ps e = held_then h (h + 1) (h + 1) most most code (ins.Alter _) ps e (omega arith) refl (omega arith) (omega arith) e.small
altered_held one.Abs h most code ps e = held_then h (h + 1) (h + 1) most most code (ins.Alter _) ps e (omega arith) refl (omega arith) (omega arith) e.small
altered_held one.Not h most code ps e = held_then h (h + 1) (h + 1) most most code (ins.Alter _) ps e (omega arith) refl (omega arith) (omega arith) e.small
altered_held one.Byte h most code ps e = held_then h (h + 1) (h + 1) most most code (ins.Alter _) ps e (omega arith) refl (omega arith) (omega arith) e.small

merged_merges : (o : Op2) → Merges (merged o)
merged_merges two.Sll = record { calls = λ h. refl; two = refl; one = refl }
merged_merges two.Srl = record { calls = λ h. refl; two = refl; one = refl }
merged_merges two.Sla = record { calls = λ h. refl; two = refl; one = refl }
merged_merges two.Sra = record { calls = λ h. refl; two = refl; one = refl }
merged_merges two.Times = record { calls = λ h. refl; two = refl; one = refl }
merged_merges two.FracTimes = record { calls = λ h. refl; two = refl; one = refl }
merged_merges two.Land = record { calls = λ h. refl; two = refl; one = refl }
merged_merges two.Plus = record { calls = λ h. refl; two = refl; one = refl }
merged_merges two.Minus = record { calls = λ h. refl; two = refl; one = refl }
merged_merges two.Lor = record { calls = λ h. refl; two = refl; one = refl }
merged_merges two.Nev = record { calls = λ h. refl; two = refl; one = refl }
merged_merges two.Divide = record { calls = λ h. refl; two = refl; one = refl }
merged_merges two.Mod = record { calls = λ h. refl; two = refl; one = refl }

merged_held : (o : Op2) (h most : ℕ) → h + 2 ≤ most → Held (h + 2) (h + 1) most (merged o ∷ []) []
merged_held o h most l =
    let m = merged_merges o in
    held_one (h + 2) (h + 1) most (merged o) (m.calls (h + 2)) (omega (arith, m.two)) (omega (arith, m.two, m.one)) l (omega (arith, l))

-- A division that may fail holds the error's number and what ERP holds before its report.
divided_held : (o : Op2) (sure : Bool) (h most : ℕ) → is_division o ≡ true → h + 2 ≤ most → Held (h + 2) (h + 1) most (divided o sure) (if is_division o && not sure then point h 1 target.Error ∷ [] else [])
divided_held o true h most e l = rw e (held_one (h + 2) (h + 1) most (ins.Divide (division_of o)) refl (omega arith) (omega arith) l (omega (arith, l)))
divided_held o false h most e l =
    let below : h + 2 - 2 ≡ h = omega arith in
    rw e
    (held_first (h + 2) (h + 1) (h + 1) most most (ins.DivideOr (division_of o)) (ins.LoadOwn item.Erp ∷ ins.Report ∷ []) (point h 1 target.Error ∷ []) refl (omega arith) (omega arith) l (omega (arith, l)) (omega arith)
    (held_first (h + 1) (h + 2) (h + 1) most most (ins.LoadOwn item.Erp) (ins.Report ∷ []) (point h 1 target.Error ∷ []) refl (omega arith) (omega arith) (omega (arith, l)) l (omega arith)
    (held_call (h + 2) (h + 1) most ins.Report (point h 1 target.Error) (ap (λ n. heights.point n 1 heights.Error ∷ []) below) (omega arith) (omega arith) l (omega (arith, l)))))

-- two operands, and what is done with them
operands_held : (a b h : ℕ) (xs ys op : List Ins) (ps qs rs : List CallPoint) → Held h (h + 1) (h + a) xs ps → Held (suc h) (suc h + 1) (suc h + b) ys qs → Held (h + 2) (h + 1) (h + max a (suc b)) op rs → Held h (h + 1) (h + max a (suc b)) (xs ++ (ys ++ op)) (ps ++ (qs ++ rs))
operands_held a b h xs ys op ps qs rs e f g =
    let low : h + a ≤ h + max a (suc b) = grind arith in
    let high : suc h + b ≤ h + max a (suc b) = grind arith in
    held_both h (h + 1) (suc h) (h + 1) (h + a) (h + max a (suc b)) (h + max a (suc b)) xs (ys ++ op) ps (qs ++ rs) (omega arith) low (omega arith) e
    (held_both (suc h) (suc h + 1) (h + 2) (h + 1) (suc h + b) (h + max a (suc b)) (h + max a (suc b)) ys op qs rs (omega arith) high (omega arith) f g)

-- there is room for both
room : (a b h : ℕ) → 1 ≤ b → h + 2 ≤ h + max a (suc b)
room a b h l = grind arith

-- ---- calls

kept_low : (gives : Bool) (h most : ℕ) → h + 1 ≤ most → h + heights.kept gives ≤ most
kept_low true h most l = l
kept_low false h most l = omega (arith, l)

invoked_held : (b n m h most : ℕ) (gives : Bool) (code : List Ins) (ps : List CallPoint) → n ≡ m → h + 1 ≤ most → Held h (h + n) most code ps → Held h (h + heights.kept gives) most (code ++ ins.Invoke b n gives ∷ []) (ps ++ point h m (target.Brick b) ∷ [])
invoked_held b n m h most gives code ps same l e =
    let below : h + n - n ≡ h = omega arith in
    let told_so = ap (λ d. heights.point d n (heights.Brick b) ∷ []) below ∙ ap (λ c. heights.point h c (heights.Brick b) ∷ []) same in
    held_both h (h + n) (h + n) (h + heights.kept gives) most most most code (ins.Invoke b n gives ∷ []) ps (point h m (target.Brick b) ∷ []) refl (omega arith) (omega arith) e
    (held_call (h + n) (h + heights.kept gives) most (ins.Invoke b n gives) (point h m (target.Brick b)) told_so (omega arith) (ap (λ d. d + heights.kept gives) below) e.small (kept_low gives h most l))

invoked_by_held : (w : Mode) (n m h most : ℕ) (gives : Bool) (callee code : List Ins) (ps qs : List CallPoint) → n ≡ m → Held h (h + 1) most callee ps → Held (h + 1) (h + 1 + n) most code qs
    → Held h (h + heights.kept gives) most (callee ++ (code ++ ins.InvokeBy n gives ∷ [])) (ps ++ (qs ++ point h m (target.Variable w) ∷ []))
invoked_by_held w n m h most gives callee code ps qs same e f =
    let below : h + 1 + n - n - 1 ≡ h = omega arith in
    let above : h + 1 + n - (n + 1) ≡ h = omega arith in
    let told_so = ap (λ d. heights.point d n heights.Variable ∷ []) below ∙ ap (λ c. heights.point h c heights.Variable ∷ []) same in
    held_both h (h + 1) (h + 1) (h + heights.kept gives) most most most callee (code ++ ins.InvokeBy n gives ∷ []) ps (qs ++ point h m (target.Variable w) ∷ []) refl (omega arith) (omega arith) e
    (held_both (h + 1) (h + 1 + n) (h + 1 + n) (h + heights.kept gives) most most most code (ins.InvokeBy n gives ∷ []) qs (point h m (target.Variable w) ∷ []) refl (omega arith) (omega arith) f
    (held_call (h + 1 + n) (h + heights.kept gives) most (ins.InvokeBy n gives) (point h m (target.Variable w)) told_so (omega arith) (ap (λ d. d + heights.kept gives) above) f.small (kept_low gives h most e.small)))

-- one argument more
argument_held : (d n k most : ℕ) (xs ys : List Ins) (ps qs : List CallPoint) → k + d ≤ most → Held k (k + 1) (k + d) xs ps → Held (suc k) (suc k + n) most ys qs → Held k (k + suc n) most (xs ++ ys) (ps ++ qs)
argument_held d n k most xs ys ps qs l e f = held_both k (k + 1) (suc k) (k + suc n) (k + d) most most xs ys ps qs (omega arith) l (omega arith) e (held_to (suc k) (suc k + n) (k + suc n) most ys qs (omega arith) f)

-- what stands above so many words
arguments_first : (k h below d rest most : ℕ) → k ≡ h + below → h + max (below + d) rest ≤ most → k + d ≤ most
arguments_first k h below d rest most e g = grind arith

arguments_rest : (h below d rest most : ℕ) → h + max (below + d) rest ≤ most → h + rest ≤ most
arguments_rest h below d rest most g = grind arith

module _ (l : Layouts) where
  mutual
    pub value_held : (v : Term) → TermSound v → (h : ℕ) → Held h (h + 1) (h + depth v) (value l v) (term_points v h)
    value_held (Num n) s h = held_one h (h + 1) (h + 1) _ refl (omega arith) (omega arith) (omega arith) (omega arith)
    value_held (Str n) s h = held_one h (h + 1) (h + 1) _ refl (omega arith) (omega arith) (omega arith) (omega arith)
    value_held (Name b) s h = held_one h (h + 1) (h + 1) _ refl (omega arith) (omega arith) (omega arith) (omega arith)
    value_held (Own i) s h = held_one h (h + 1) (h + 1) _ refl (omega arith) (omega arith) (omega arith) (omega arith)
    value_held (Get m (Svc k)) s h = held_one h (h + 1) (h + 1) _ refl (omega arith) (omega arith) (omega arith) (omega arith)
    value_held (Get m q) s h = read_held (site_of l q) (address_depth q) h (width_of m) (address l q) (path_points q h) (path_sited l q s).1 (path_held q s h)
    value_held (Ref q) s h = let c = path_sited l q s in reached_held (site_of l q) (address_depth q) h (address l q) (path_points q h) c.0 c.1 (path_held q s h)
    value_held (RefRow (FieldOf q r k) n) s h =
        let c = path_sited l q s in
        field_row_held l r k (field_offset l r k) (site_of l q) (address_depth q) h n (address l q) (path_points q h) c.0 c.1 (path_held q s h)
    value_held (RefRow q n) s h = let c = path_sited l q s in row_held (site_of l q) (address_depth q) h n (address l q) (path_points q h) c.0 c.1 (path_held q s h)
    value_held (Count q n) s h = let c = path_sited l q s in told_held (site_of l q) (address_depth q) h n (address l q) (path_points q h) c.0 c.1 (path_held q s h)
    value_held (CountRow v) s h =
        let e = value_held v s h in
        held_then h (h + 1) (h + 1) (h + depth v) (h + depth v) (value l v) ins.Length (term_points v h) e (omega arith) refl (omega arith) (omega arith) e.small
    value_held (One o v) s h = altered_held o h (h + depth v) (value l v) (term_points v h) (value_held v s h)
    value_held (Two o a b) s h =
        subst (λ ps. Held h (h + 1) (h + max (depth a) (suc (depth b))) (value l a ++ (value l b ++ merged o ∷ [])) (term_points a h ++ ps)) (append-nil (term_points b (suc h)))
        (operands_held (depth a) (depth b) h (value l a) (value l b) (merged o ∷ []) (term_points a h) (term_points b (suc h)) [] (value_held a s.0 h) (value_held b s.1 (suc h)) (merged_held o h (h + max (depth a) (suc (depth b))) (room (depth a) (depth b) h (depth_some b))))
    value_held (Over o a b) s h =
        operands_held (depth a) (depth b) h (value l a) (value l b) (divided o (is_sure b)) (term_points a h) (term_points b (suc h)) (error_points o (number_of b) h) (value_held a s.1 h) (value_held b s.2 (suc h))
        (subst (λ (c : Bool). Held (h + 2) (h + 1) (h + max (depth a) (suc (depth b))) (divided o (is_sure b)) (if is_division o && not c then point h 1 target.Error ∷ [] else [])) (sure_same b)
        (divided_held o (is_sure b) h (h + max (depth a) (suc (depth b))) s.0 (room (depth a) (depth b) h (depth_some b))))
    value_held (Apply b vs) s h =
        let most = h + max 1 (arguments_depth 0 vs) in
        invoked_held b (items.how_many vs) (how_many vs) h most true (values l vs) (terms_points vs h) (many_same vs) (grind arith) (values_held vs s h h 0 most (omega arith) (grind arith) (grind arith))
    value_held (ApplyBy m f vs) s h =
        let most = h + max (max 1 (depth f)) (arguments_depth 1 vs) in
        invoked_by_held m (items.how_many vs) (how_many vs) h most true (value l f) (values l vs) (term_points f h) (terms_points vs (h + 1)) (many_same vs) (held_more h (h + 1) (h + depth f) most (value l f) (term_points f h) (grind arith) (value_held f s.0 h))
        (values_held vs s.1 (h + 1) h 1 most refl (grind arith) (grind arith))

    pub path_held : (q : Path) → PathSound q → (h : ℕ) → Held h (h + waits (address_depth q)) (h + address_depth q) (wanted (site_of l q) (address l q)) (path_points q h)
    path_held (ItemAt b i) s h = held_to h h (h + 0) (h + 0) [] [] (omega arith) (held_none h (h + 0) (omega arith))
    path_held (Svc k) s h = absurd s
    path_held (FieldOf q r k) s h = let c = path_sited l q s in field_held l r k (field_offset l r k) (site_of l q) (address_depth q) h (address l q) (path_points q h) c.0 c.1 (path_held q s h)
    path_held (Elem q v n m) s h =
        let c = path_sited l q s.0 in
        element_held (site_of l q) (address_depth q) (depth v) h n (bytes l m) (address l q) (value l v) (path_points q h) (term_points v (h + waits (address_depth q))) c.0 c.1 (depth_some v) (path_held q s.0 h) (value_held v s.1 (h + waits (address_depth q)))
    path_held (ElemRow a v m) s h =
        indexed_held (ins.ElementRow (bytes l m)) (depth a) (depth v) h (value l a) (value l v) (term_points a h) (term_points v (h + 1)) (record { calls = λ k. refl; two = refl; one = refl }) (depth_some v) (value_held a s.0 h) (value_held v s.1 (h + 1))
    path_held (Past v) s h = held_to h (h + 1) (h + waits (depth v)) (h + depth v) (value l v) (term_points v h) (let same = waits_one (depth v) (depth_some v) in omega (arith, same)) (value_held v s h)

    pub values_held : (vs : Terms) → TermsSound vs → (k h below most : ℕ) → k ≡ h + below → k ≤ most → h + arguments_depth below vs ≤ most → Held k (k + items.how_many vs) most (values l vs) (terms_points vs k)
    values_held NoTerm s k h below most e f g = held_to k k (k + 0) most [] [] (omega arith) (held_none k most f)
    values_held (MoreTerms v vs) s k h below most e f g =
        let first : k + depth v ≤ most = arguments_first k h below (depth v) (arguments_depth (suc below) vs) most e g in
        let rest : h + arguments_depth (suc below) vs ≤ most = arguments_rest h below (depth v) (arguments_depth (suc below) vs) most g in
        let next : suc k ≤ most = omega (arith, first, depth_some v) in
        argument_held (depth v) (items.how_many vs) k most (value l v) (values l vs) (term_points v k) (terms_points vs (suc k)) first (value_held v s.0 k) (values_held vs s.1 (suc k) h (suc below) most (omega (arith, e)) next rest)

  -- ---- places that are read or written, and calls that stand alone

  pub place_sited : (q : Path) → PlaceSound q → Sited (site_of l q) (address_depth q)
  place_sited (Svc k) s = refl
  place_sited q s = (path_sited l q s).1

  pub place_held : (q : Path) → PlaceSound q → (h : ℕ) → Held h (h + waits (address_depth q)) (h + address_depth q) (wanted (site_of l q) (address l q)) (path_points q h)
  place_held (Svc k) s h = held_to h h (h + 0) (h + 0) [] [] (omega arith) (held_none h (h + 0) (omega arith))
  place_held q s h = path_held q s h

  pub alone_held : (v : Term) → TermSound v → Held 0 0 (depth v) (alone l v) (term_points v 0)
  alone_held (Apply b vs) s =
      let most = max 1 (arguments_depth 0 vs) in
      invoked_held b (items.how_many vs) (how_many vs) 0 most false (values l vs) (terms_points vs 0) (many_same vs) (grind arith) (values_held vs s 0 0 0 most (omega arith) (grind arith) (grind arith))
  alone_held (ApplyBy m f vs) s =
      let most = max (max 1 (depth f)) (arguments_depth 1 vs) in
      invoked_by_held m (items.how_many vs) (how_many vs) 0 most false (value l f) (values l vs) (term_points f 0) (terms_points vs 1) (many_same vs) (held_more 0 1 (0 + depth f) most (value l f) (term_points f 0) (grind arith) (value_held f s.0 0))
      (values_held vs s.1 1 0 1 most refl (grind arith) (grind arith))
  alone_held v s = held_then 0 1 0 (0 + depth v) (depth v) (value l v) ins.Discard (term_points v 0) (value_held v s 0) (omega arith) refl (omega arith) refl (omega arith)

  -- an assignment: a value behind the address of its place, if that takes a word
  pub assigned_held : (s : Site) (n d : ℕ) (z : Width) (code more : List Ins) (ps qs : List CallPoint) → Sited s n → 1 ≤ d → Held 0 (0 + waits n) (0 + n) (wanted s code) ps → Held (waits n) (waits n + 1) (waits n + d) more qs
      → Held 0 0 (behind n d) (wanted s code ++ (more ++ written z s ∷ [])) (ps ++ qs)
  assigned_held (site.Own k) zero d z code more ps qs g m e f =
      held_both 0 0 0 0 0 d d [] (more ++ ins.SaveOwn k ∷ []) ps qs refl (omega arith) (omega arith) e (held_then 0 1 0 (0 + d) d more (ins.SaveOwn k) qs f (omega arith) refl (omega arith) refl (omega arith))
  assigned_held (site.Fixed x) zero d z code more ps qs g m e f =
      held_both 0 0 0 0 0 d d [] (more ++ ins.Save z x ∷ []) ps qs refl (omega arith) (omega arith) e (held_then 0 1 0 (0 + d) d more (ins.Save z x) qs f (omega arith) refl (omega arith) refl (omega arith))
  assigned_held site.Stacked (suc n) d z code more ps qs g m e f =
      let low : 0 + suc n ≤ max (suc n) (suc d) = grind arith in
      let high : 1 + d ≤ max (suc n) (suc d) = grind arith in
      held_both 0 1 1 0 (0 + suc n) (max (suc n) (suc d)) (max (suc n) (suc d)) code (more ++ ins.Store z ∷ []) ps qs refl low (omega arith) e
      (held_then 1 2 0 (1 + d) (max (suc n) (suc d)) more (ins.Store z) qs f high refl (omega arith) refl (omega arith))
  assigned_held (site.Own k) (suc n) d z code more ps qs g m e f = absurd (omega (arith, g))
  assigned_held (site.Fixed x) (suc n) d z code more ps qs g m e f = absurd (omega (arith, g))
  assigned_held site.Stacked zero d z code more ps qs g m e f = absurd (omega (arith, g))
