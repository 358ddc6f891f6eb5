-- Where more modes may open, a mode is shallow as well.
use Rattle.std.proofs.Common.{◌≡◌, ℕ, ◌-◌, ◌≤◌, Bool, true, ◌&&◌, List, [], ◌∷◌, length, map, Some, None, refl, sym, ap, ◌∙◌, arith}
use Rattle.std.specs.Prelude.{nat_lt, nat_le}
use Rattle.std.proofs.lemmas.Bool.{le-leb, leb-true}
use Rattle.rt_syntax_exprs.specs.declared.tree.WrittenMode.{WrittenMode, out-WrittenMode, roll-WrittenMode, map-WrittenMode}
use Rattle.rt_syntax_exprs.specs.declared.tree.WrittenMode as written_lemmas
use Rattle.rt_syntax_exprs.specs.declared.tree.WrittenMode.TheFolds.{ind-WrittenMode}
use Rattle.rt_syntax_exprs.specs.declared.tree.WrittenMode.TheOpen.{WrittenMode-F}
use Rattle.rt_bricks_laws.specs.Shallow.{Depth, all_shallow, shallow_layer, shallow}
use Rattle.rt_bricks_laws.specs.Modes.{DeeperIsShallow}
use Rattle.rt_bricks_laws.proofs.Truths.{both, left_of, right_of}
use Rattle.rt_bricks_laws.proofs.Shallow.{ShallowAt, shallow_at, shallow_here}

abbrev Deeper : WrittenMode → Type 0
Deeper w = (levels more refs : ℕ) → levels ≤ more → ShallowAt levels refs w → ShallowAt more refs w

abbrev Pair : Type 0
Pair = (w : WrittenMode) × Deeper w

abbrev texts_of : List Pair → List WrittenMode
texts_of ps = map (λ (e : Pair). e.0) ps

layer_of : (w : WrittenMode) (l : WrittenMode-F WrittenMode) (levels refs : ℕ) → out-WrittenMode w ≡ l → ShallowAt levels refs w → shallow_layer (map-WrittenMode WrittenMode Depth shallow l) levels refs ≡ true
layer_of w l levels refs o h = sym (ap (λ (f : Depth). f levels refs) (shallow_at w l o)) ∙ h

one_more_opens : (levels more : ℕ) → levels ≤ more → nat_lt 0 levels ≡ true → nat_lt 0 more ≡ true
one_more_opens levels more le h = let e = leb-true 1 levels h in le-leb 1 more (omega arith)

-- a mode that opens one and holds another
opens_one : (levels more : ℕ) (a b : Bool) → levels ≤ more → (a ≡ true → b ≡ true) → nat_lt 0 levels && a ≡ true → nat_lt 0 more && b ≡ true
opens_one levels more a b le f h = both (nat_lt 0 more) b (one_more_opens levels more le (left_of (nat_lt 0 levels) a h)) (f (right_of (nat_lt 0 levels) a h))

behind_test : (t a b : Bool) → (a ≡ true → b ≡ true) → t && a ≡ true → t && b ≡ true
behind_test t a b f h = both t b (left_of t a h) (f (right_of t a h))

each : (ps : List Pair) (levels more : ℕ) → levels ≤ more → all_shallow levels (map shallow (texts_of ps)) ≡ true → all_shallow more (map shallow (texts_of ps)) ≡ true
each [] levels more le h = refl
each (p ∷ ps) levels more le h =
    let rest : Bool = all_shallow levels (map shallow (texts_of ps)) in
    both (shallow p.0 more 8) (all_shallow more (map shallow (texts_of ps))) (p.1 levels more 8 le (left_of (shallow p.0 levels 8) rest h)) (each ps levels more le (right_of (shallow p.0 levels 8) rest h))

both_of : (a b c d : Bool) → (a ≡ true → c ≡ true) → (b ≡ true → d ≡ true) → a && b ≡ true → c && d ≡ true
both_of a b c d f g h = both c d (f (left_of a b h)) (g (right_of a b h))

less : (levels more : ℕ) → levels ≤ more → levels - 1 ≤ more - 1
less levels more le = omega arith

level : (w : WrittenMode) (y : WrittenMode-F Pair) → out-WrittenMode w ≡ map-WrittenMode Pair WrittenMode (λ e. e.0) y → Deeper w
level w (WrittenMode-F.Name i) o levels more refs le h = shallow_here w (WrittenMode-F.Name i) more refs o refl
level w (WrittenMode-F.Basic b at) o levels more refs le h = shallow_here w (WrittenMode-F.Basic b at) more refs o refl
level w (WrittenMode-F.Array n p at) o levels more refs le h =
    shallow_here w (WrittenMode-F.Array n p.0 at) more refs o (opens_one levels more (shallow p.0 (levels - 1) 8) (shallow p.0 (more - 1) 8) le (p.1 (levels - 1) (more - 1) 8 (less levels more le)) (layer_of w (WrittenMode-F.Array n p.0 at) levels refs o h))
level w (WrittenMode-F.Ref p at) o levels more refs le h =
    shallow_here w (WrittenMode-F.Ref p.0 at) more refs o
    (opens_one levels more (nat_lt 0 refs && shallow p.0 (levels - 1) (refs - 1)) (nat_lt 0 refs && shallow p.0 (more - 1) (refs - 1)) le
    (behind_test (nat_lt 0 refs) (shallow p.0 (levels - 1) (refs - 1)) (shallow p.0 (more - 1) (refs - 1)) (p.1 (levels - 1) (more - 1) (refs - 1) (less levels more le))) (layer_of w (WrittenMode-F.Ref p.0 at) levels refs o h))
level w (WrittenMode-F.RefArray p at) o levels more refs le h =
    shallow_here w (WrittenMode-F.RefArray p.0 at) more refs o
    (opens_one levels more (nat_lt 0 refs && shallow p.0 (levels - 1) 8) (nat_lt 0 refs && shallow p.0 (more - 1) 8) le
    (behind_test (nat_lt 0 refs) (shallow p.0 (levels - 1) 8) (shallow p.0 (more - 1) 8) (p.1 (levels - 1) (more - 1) 8 (less levels more le))) (layer_of w (WrittenMode-F.RefArray p.0 at) levels refs o h))
level w (WrittenMode-F.Proc ps None at) o levels more refs le h =
    let many : Bool = nat_le (length (map shallow (texts_of ps))) 32 in
    let now : Bool = all_shallow (levels - 1) (map shallow (texts_of ps)) in
    let then : Bool = all_shallow (more - 1) (map shallow (texts_of ps)) in
    shallow_here w (WrittenMode-F.Proc (texts_of ps) None at) more refs o
    (opens_one levels more (many && (now && true)) (many && (then && true)) le
    (behind_test many (now && true) (then && true) (both_of now true then true (each ps (levels - 1) (more - 1) (less levels more le)) (λ e. e))) (layer_of w (WrittenMode-F.Proc (texts_of ps) None at) levels refs o h))
level w (WrittenMode-F.Proc ps (Some r) at) o levels more refs le h =
    let many : Bool = nat_le (length (map shallow (texts_of ps))) 32 in
    let now : Bool = all_shallow (levels - 1) (map shallow (texts_of ps)) in
    let then : Bool = all_shallow (more - 1) (map shallow (texts_of ps)) in
    let one : Bool = shallow r.0 (levels - 1) 8 in
    let other : Bool = shallow r.0 (more - 1) 8 in
    shallow_here w (WrittenMode-F.Proc (texts_of ps) (Some r.0) at) more refs o
    (opens_one levels more (many && (now && one)) (many && (then && other)) le
    (behind_test many (now && one) (then && other) (both_of now one then other (each ps (levels - 1) (more - 1) (less levels more le)) (r.1 (levels - 1) (more - 1) 8 (less levels more le)))) (layer_of w (WrittenMode-F.Proc (texts_of ps) (Some r.0) at) levels refs o h))

rolled : (l : WrittenMode-F WrittenMode) → out-WrittenMode (roll-WrittenMode l) ≡ l
rolled l = search written_lemmas.the_lemmas

pub deeper_shallow : DeeperIsShallow
deeper_shallow = ind-WrittenMode Deeper (λ x y is. level (roll-WrittenMode x) y (rolled x ∙ sym is))
