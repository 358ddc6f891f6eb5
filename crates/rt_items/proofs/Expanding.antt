-- Piece by piece comes to the same as the whole list.
use Rattle.std.proofs.Common.{◌≡◌, ℕ, zero, suc, ◌+◌, ◌<◌, ◌≤◌, Bool, true, false, cond, leb, List, [], ◌∷◌, ◌++◌, length, Option, Some, None, Result, Ok, Err, refl, sym, ap, subst, ◌∙◌, arith, length-append, append_assoc, add-zero}
use Rattle.std.proofs.lemmas.Bool.Decides.{nat_tests}
use Rattle.std.proofs.lemmas.List.{append-nil, length-map}
use Rattle.std.proofs.Math.Path.{fun_ext}
use Rattle.rt_pieces.specs.declared.item.Item.{Item}
use Rattle.rt_pieces.specs.declared.item.ItemKind.{ItemKind}
use Rattle.rt_pieces.specs.declared.fault.TextFault.{TextFault}
use Rattle.rt_pieces.specs.declared.fault.TextFault.TheVariants.{Memory, BadLet, TooManyItems}
use Rattle.rt_items.specs.declared.expand.State.{State as Code}
use Rattle.rt_items.specs.Texts.{Lets}
use Rattle.rt_pieces.specs.Cutting.{Piece, End, Clean, Stops}
use Rattle.rt_items.specs.Meaning.{Meant, meaning}
use Rattle.rt_items.specs.Lets.{Reading, with_let, replaced, item_at, items_at, is_let, is_semicolon, is_equal, name_of, with_items, at_end, Declared, LetText, with_text, text_goes_on, text_piece, let_text, declares, behind_equal, behind_name, if_named, named_by, declaration, Expands, ended, spoiled, item, too_many, declared, undeclared}
use Rattle.rt_items.specs.Table.{Known, lets_of}
use Rattle.rt_pieces.specs.Steps.{Cuts, before}
use Rattle.rt_items.specs.Reading.{State, Plain, Behind, Named, Within, state_of, Next, Goes, Fails, turn, turn_meant, within, after_turn, expand, Answers, Turns, reading_from}

pub with_none : (r : Reading) → with_items [] r ≡ r
with_none (Ok is) = refl
with_none (Err f) = refl

-- a turn that gives no item
nothing_out : (go : State → Lets → ℕ → Reading) (count : ℕ) (state : State) (lets : Lets) → after_turn go count (Goes state lets []) ≡ go state lets count
nothing_out go count state lets = with_none (go state lets (count + 0)) ∙ ap (go state lets) (add-zero count)

le_true : (a b : ℕ) → a ≤ b → leb a b ≡ true
le_true a b h = grind (arith, nat_tests)

lt_false : (a b : ℕ) → b < a → leb a b ≡ false
lt_false a b h = grind (arith, nat_tests)

le_by : (a b : ℕ) → leb a b ≡ true → a ≤ b
le_by a b h = grind (arith, nat_tests)

lt_by : (a b : ℕ) → leb a b ≡ false → b < a
lt_by a b h = grind (arith, nat_tests)

-- ---- one declaration

abbrev text_reading : End → Lets → ℕ → List ℕ → List ItemKind → LetText → Reading
text_reading e lets count name text (Ok others) = expand e others.1 Plain (with_let name (text ++ others.0) lets) count
text_reading e lets count name text (Err f) = Err f

abbrev declared_reading : End → Lets → ℕ → Result Declared TextFault → Reading
declared_reading e lets count (Ok d) = expand e d.rest Plain (with_let d.name d.text lets) count
declared_reading e lets count (Err f) = Err f

longer_text : (e : End) (lets : Lets) (count : ℕ) (name : List ℕ) (text new : List ItemKind) (r : LetText) → text_reading e lets count name (text ++ new) r ≡ text_reading e lets count name text (with_text new r)
longer_text e lets count name text new (Ok others) = ap (λ (t : List ItemKind). expand e others.1 Plain (with_let name t lets) count) (append_assoc text new others.0)
longer_text e lets count name text new (Err f) = refl

expand_text : (e : End) (ps : List Piece) (n : ℕ) (name : List ℕ) (text : List ItemKind) (lets : Lets) (count : ℕ) → expand e ps (Within n name text) lets count ≡ text_reading e lets count name text (let_text lets e n ps (length text))
unfolding expand let_text
expand_text e [] n name text lets count = refl
expand_text e (p ∷ ps) n name text lets count = by_meaning (λ longer. expand_text e ps n name longer lets count) (meaning lets p)
  where
    by_room : ((longer : List ItemKind) → expand e ps (Within n name longer) lets count ≡ text_reading e lets count name longer (let_text lets e n ps (length longer))) → (k : ItemKind) (t : Bool) → leb (length text + length (replaced lets k)) 65535 ≡ t
        → after_turn (expand e ps) count (cond t (Goes (Within n name (text ++ replaced lets k)) lets []) (Fails (TooManyItems p.line)))
        ≡ text_reading e lets count name text (cond t (with_text (replaced lets k) (let_text lets e n ps (length text + length (replaced lets k)))) (Err (TooManyItems p.line)))
    by_room later k true fits =
        nothing_out (expand e ps) count (Within n name (text ++ replaced lets k)) lets ∙ later (text ++ replaced lets k)
        ∙ longer_text e lets count name text (replaced lets k) (let_text lets e n ps (length (text ++ replaced lets k)))
        ∙ ap (λ (c : ℕ). text_reading e lets count name text (with_text (replaced lets k) (let_text lets e n ps c))) (length-append text (replaced lets k))
    by_room later k false fits = refl

    by_end : ((longer : List ItemKind) → expand e ps (Within n name longer) lets count ≡ text_reading e lets count name longer (let_text lets e n ps (length longer))) → (k : ItemKind) (t : Bool) → is_semicolon k ≡ t → after_turn (expand e ps) count (within lets p.line n name text k) ≡ text_reading e lets count name text (text_piece lets (let_text lets e n ps) (length text) p.line ps (Ok k))
    by_end later k true is = rw is (nothing_out (expand e ps) count Plain (with_let name text lets) ∙ ap (λ (t : List ItemKind). expand e ps Plain (with_let name t lets) count) (sym (append-nil text)))
    by_end later k false is = rw is (by_room later k (leb (length text + length (replaced lets k)) 65535) refl)

    by_meaning : ((longer : List ItemKind) → expand e ps (Within n name longer) lets count ≡ text_reading e lets count name longer (let_text lets e n ps (length longer))) → (m : Meant) → after_turn (expand e ps) count (turn_meant (Within n name text) lets count p.line p.from p.to m) ≡ text_reading e lets count name text (text_piece lets (let_text lets e n ps) (length text) p.line ps m)
    by_meaning later (Err f) = refl
    by_meaning later (Ok k) = by_end later k (is_semicolon k) refl

declares_it : (e : End) (lets : Lets) (count : ℕ) (name : List ℕ) (r : LetText) → text_reading e lets count name [] r ≡ declared_reading e lets count (declares name r)
declares_it e lets count name (Ok others) = refl
declares_it e lets count name (Err f) = refl

expand_named : (e : End) (ps : List Piece) (n : ℕ) (name : List ℕ) (lets : Lets) (count : ℕ) → expand e ps (Named n name) lets count ≡ declared_reading e lets count (behind_name lets e n name ps)
unfolding expand
expand_named e [] n name lets count = refl
expand_named e (p ∷ ps) n name lets count = by_meaning (meaning lets p)
  where
    by_equal : (k : ItemKind) (t : Bool) → is_equal k ≡ t → after_turn (expand e ps) count (turn (Named n name) lets count p.line p.from p.to k) ≡ declared_reading e lets count (behind_equal lets e n name ps (Ok k))
    by_equal k true is = rw is (nothing_out (expand e ps) count (Within n name []) lets ∙ expand_text e ps n name [] lets count ∙ declares_it e lets count name (let_text lets e n ps 0))
    by_equal k false is = rw is refl

    by_meaning : (m : Meant) → after_turn (expand e ps) count (turn_meant (Named n name) lets count p.line p.from p.to m) ≡ declared_reading e lets count (behind_equal lets e n name ps m)
    by_meaning (Err f) = refl
    by_meaning (Ok k) = by_equal k (is_equal k) refl

expand_behind : (e : End) (ps : List Piece) (n : ℕ) (lets : Lets) (count : ℕ) → expand e ps (Behind n) lets count ≡ declared_reading e lets count (declaration lets e n ps)
unfolding expand
expand_behind e [] n lets count = refl
expand_behind e (p ∷ ps) n lets count = by_meaning (meaning lets p)
  where
    by_name : (k : ItemKind) (o : Option (List ℕ)) → name_of k ≡ o → after_turn (expand e ps) count (turn (Behind n) lets count p.line p.from p.to k) ≡ declared_reading e lets count (if_named lets e n ps (name_of k))
    by_name k (Some name) is = rw is (nothing_out (expand e ps) count (Named n name) lets ∙ expand_named e ps n name lets count)
    by_name k None is = rw is refl

    by_meaning : (m : Meant) → after_turn (expand e ps) count (turn_meant (Behind n) lets count p.line p.from p.to m) ≡ declared_reading e lets count (named_by lets e n ps m)
    by_meaning (Err f) = refl
    by_meaning (Ok k) = by_name k (name_of k) refl

-- ---- the whole list

expand_piece : (e : End) (p : Piece) (ps : List Piece) (lets : Lets) (count : ℕ) (m : Meant) → meaning lets p ≡ m → expand e (p ∷ ps) Plain lets count ≡ after_turn (expand e ps) count (turn_meant Plain lets count p.line p.from p.to m)
unfolding expand
expand_piece e p ps lets count m h = ap (λ (t : Meant). after_turn (expand e ps) count (turn_meant Plain lets count p.line p.from p.to t)) h

expand_let : (e : End) (p : Piece) (ps : List Piece) (lets : Lets) (count : ℕ) (k : ItemKind) → meaning lets p ≡ Ok k → is_let k ≡ true → expand e (p ∷ ps) Plain lets count ≡ declared_reading e lets count (declaration lets e p.line ps)
expand_let e p ps lets count k h known = expand_piece e p ps lets count (Ok k) h ∙ rw known (nothing_out (expand e ps) count (Behind p.line) lets ∙ expand_behind e ps p.line lets count)

pub expand_complete : {e : End} {lets : Lets} {count : ℕ} {ps : List Piece} {r : Reading} → Expands e lets count ps r → expand e ps Plain lets count ≡ r
unfolding expand
expand_complete ended = refl
expand_complete {e = e} {lets = lets} {count = count} (spoiled {p = p} {ps = ps} h) = expand_piece e p ps lets count _ h
expand_complete {e = e} {lets = lets} {count = count} (item {p = p} {ps = ps} k h other fits x) =
    let size : length (items_at p.line p.from p.to (replaced lets k)) ≡ length (replaced lets k) = length-map (replaced lets k) (item_at p.line p.from p.to) in
    expand_piece e p ps lets count (Ok k) h ∙ rw (other, le_true (count + length (replaced lets k)) 65535 fits) (ap (λ (c : ℕ). with_items (items_at p.line p.from p.to (replaced lets k)) (expand e ps Plain lets (count + c))) size
    ∙ ap (with_items (items_at p.line p.from p.to (replaced lets k))) (expand_complete x))
expand_complete {e = e} {lets = lets} {count = count} (too_many {p = p} {ps = ps} k h other more) =
    expand_piece e p ps lets count (Ok k) h ∙ rw (other, lt_false (count + length (replaced lets k)) 65535 more) refl
expand_complete {e = e} {lets = lets} {count = count} (declared {p = p} {ps = ps} k d h known is x) = expand_let e p ps lets count k h known ∙ ap (declared_reading e lets count) is ∙ expand_complete x
expand_complete {e = e} {lets = lets} {count = count} (undeclared {p = p} {ps = ps} k h known is) = expand_let e p ps lets count k h known ∙ ap (declared_reading e lets count) is

-- ---- every list has a reading

abbrev IsShortText : List Piece → LetText → Type 0
IsShortText ps (Ok others) = length others.1 ≤ length ps
IsShortText ps (Err f) = Unit {0}

with_text_short : (p : Piece) (ps : List Piece) (new : List ItemKind) (r : LetText) → IsShortText ps r → IsShortText (p ∷ ps) (with_text new r)
with_text_short p ps new (Ok others) h = omega arith
with_text_short p ps new (Err f) h = tt

text_short : (lets : Lets) (e : End) (n : ℕ) (ps : List Piece) (count : ℕ) → IsShortText ps (let_text lets e n ps count)
unfolding let_text
text_short lets e n [] count = tt
text_short lets e n (p ∷ ps) count = by_meaning (λ more. text_short lets e n ps more) (meaning lets p)
  where
    by_room : ((more : ℕ) → IsShortText ps (let_text lets e n ps more)) → (new : List ItemKind) (t : Bool) → IsShortText (p ∷ ps) (cond t (with_text new (let_text lets e n ps (count + length new))) (Err (TooManyItems p.line)))
    by_room later new true = with_text_short p ps new (let_text lets e n ps (count + length new)) (later (count + length new))
    by_room later new false = tt

    by_end : ((more : ℕ) → IsShortText ps (let_text lets e n ps more)) → (k : ItemKind) (t : Bool) → IsShortText (p ∷ ps) (cond t (Ok ([], ps)) (text_goes_on (let_text lets e n ps) count p.line (replaced lets k)))
    by_end later k true = omega arith
    by_end later k false = by_room later (replaced lets k) (leb (count + length (replaced lets k)) 65535)

    by_meaning : ((more : ℕ) → IsShortText ps (let_text lets e n ps more)) → (m : Meant) → IsShortText (p ∷ ps) (text_piece lets (let_text lets e n ps) count p.line ps m)
    by_meaning later (Err f) = tt
    by_meaning later (Ok k) = by_end later k (is_semicolon k)

abbrev IsShort : List Piece → Result Declared TextFault → Type 0
IsShort ps (Ok d) = length d.rest ≤ length ps
IsShort ps (Err f) = Unit {0}

declares_short : (name : List ℕ) (ps more : List Piece) (r : LetText) → IsShortText ps r → length ps ≤ length more → IsShort more (declares name r)
declares_short name ps more (Ok others) h le = omega arith
declares_short name ps more (Err f) h le = tt

behind_short : (lets : Lets) (e : End) (n : ℕ) (name : List ℕ) (p : Piece) (ps : List Piece) → IsShort (p ∷ ps) (behind_name lets e n name ps)
behind_short lets e n name p [] = tt
behind_short lets e n name p (q ∷ ps) = by_meaning (meaning lets q)
  where
    by_equal : (t : Bool) → IsShort (p ∷ q ∷ ps) (cond t (declares name (let_text lets e n ps 0)) (Err (BadLet n)))
    by_equal true = declares_short name ps (p ∷ q ∷ ps) (let_text lets e n ps 0) (text_short lets e n ps 0) (omega arith)
    by_equal false = tt

    by_meaning : (m : Meant) → IsShort (p ∷ q ∷ ps) (behind_equal lets e n name ps m)
    by_meaning (Err f) = tt
    by_meaning (Ok k) = by_equal (is_equal k)

declaration_short : (lets : Lets) (e : End) (n : ℕ) (ps : List Piece) → IsShort ps (declaration lets e n ps)
declaration_short lets e n [] = tt
declaration_short lets e n (p ∷ ps) = by_meaning (meaning lets p)
  where
    by_name : (o : Option (List ℕ)) → IsShort (p ∷ ps) (if_named lets e n ps o)
    by_name (Some name) = behind_short lets e n name p ps
    by_name None = tt

    by_meaning : (m : Meant) → IsShort (p ∷ ps) (named_by lets e n ps m)
    by_meaning (Err f) = tt
    by_meaning (Ok k) = by_name (name_of k)

abbrev Some_reading : End → Lets → ℕ → List Piece → Type 0
Some_reading e lets count ps = (r : Reading) × Expands e lets count ps r

module _ (e : End) (lets : Lets) (count : ℕ) (p : Piece) (ps : List Piece) (later : (lets : Lets) (count : ℕ) (rest : List Piece) → length rest ≤ length ps → Some_reading e lets count rest) where
  read_let : (k : ItemKind) → meaning lets p ≡ Ok k → is_let k ≡ true → (d : Result Declared TextFault) → declaration lets e p.line ps ≡ d → Some_reading e lets count (p ∷ ps)
  read_let k h known (Ok d) is =
      let short : IsShort ps (Ok d) = subst (λ (t : Result Declared TextFault). IsShort ps t) is (declaration_short lets e p.line ps) in
      let x = later (with_let d.name d.text lets) count d.rest short in (x.0, declared k d h known is x.1)
  read_let k h known (Err f) is = (Err f, undeclared k h known is)

  read_room : (k : ItemKind) → meaning lets p ≡ Ok k → is_let k ≡ false → (t : Bool) → leb (count + length (replaced lets k)) 65535 ≡ t → Some_reading e lets count (p ∷ ps)
  read_room k h other true fits =
      let x = later lets (count + length (replaced lets k)) ps (omega arith) in
      (with_items (items_at p.line p.from p.to (replaced lets k)) x.0, item k h other (le_by (count + length (replaced lets k)) 65535 fits) x.1)
  read_room k h other false fits = (Err (TooManyItems p.line), too_many k h other (lt_by (count + length (replaced lets k)) 65535 fits))

  read_kind : (k : ItemKind) → meaning lets p ≡ Ok k → (t : Bool) → is_let k ≡ t → Some_reading e lets count (p ∷ ps)
  read_kind k h true known = read_let k h known (declaration lets e p.line ps) refl
  read_kind k h false other = read_room k h other (leb (count + length (replaced lets k)) 65535) refl

  read_meaning : (m : Meant) → meaning lets p ≡ m → Some_reading e lets count (p ∷ ps)
  read_meaning (Err f) h = (Err f, spoiled h)
  read_meaning (Ok k) h = read_kind k h (is_let k) refl

some_reading : (fuel : ℕ) (e : End) (lets : Lets) (count : ℕ) (ps : List Piece) → length ps ≤ fuel → Some_reading e lets count ps
some_reading fuel e lets count [] le = (at_end e, ended)
some_reading zero e lets count (p ∷ ps) le = absurd (omega arith)
some_reading (suc fuel) e lets count (p ∷ ps) le = read_meaning e lets count p ps (λ lets2 count2 rest short. some_reading fuel e lets2 count2 rest (omega arith)) (meaning lets p) refl

pub expand_sound : (e : End) (lets : Lets) (count : ℕ) (ps : List Piece) → Expands e lets count ps (expand e ps Plain lets count)
expand_sound e lets count ps = let x = some_reading (length ps) e lets count ps (omega arith) in subst (λ (r : Reading). Expands e lets count ps r) (sym (expand_complete x.1)) x.1

-- ---- a reading has at most 65,535 items

abbrev IsBounded : ℕ → Reading → Type 0
IsBounded count (Ok is) = count + length is ≤ 65535
IsBounded count (Err f) = Unit {0}

end_bounded : (e : End) (count : ℕ) → count ≤ 65535 → IsBounded count (at_end e)
end_bounded Clean count le = omega arith
end_bounded (Stops f) count le = tt

more_bounded : (count more : ℕ) (new : List Item) (r : Reading) → length new ≡ more → IsBounded (count + more) r → IsBounded count (with_items new r)
more_bounded count more new (Ok is) size h = omega (arith, length-append new is)
more_bounded count more new (Err f) size h = tt

bounded : {e : End} {lets : Lets} {count : ℕ} {ps : List Piece} {r : Reading} → Expands e lets count ps r → count ≤ 65535 → IsBounded count r
bounded {e = e} {count = count} ended le = end_bounded e count le
bounded (spoiled h) le = tt
bounded {lets = lets} {count = count} (item {p = p} {r = r} k h other fits x) le =
    more_bounded count (length (replaced lets k)) (items_at p.line p.from p.to (replaced lets k)) r (length-map (replaced lets k) (item_at p.line p.from p.to)) (bounded x fits)
bounded (too_many k h other more) le = tt
bounded (declared k d h known is x) le = bounded x le
bounded (undeclared k h known is) le = tt

pub at_most_limit : {e : End} {lets : Lets} {ps : List Piece} {is : List Item} → Expands e lets 0 ps (Ok is) → length is ≤ 65535
at_most_limit x = let h = bounded x (omega arith) in omega arith

-- ---- the loop over the pieces

with_both : (a b : List Item) (r : Reading) → with_items (a ++ b) r ≡ with_items a (with_items b r)
with_both a b (Ok is) = ap (λ (t : List Item). let whole : Reading = Ok t in whole) (append_assoc a b is)
with_both a b (Err f) = refl

pub answers_same : (r answer : Reading) → r ≡ answer → Answers r answer
answers_same r (Ok is) e = e
answers_same r (Err Memory) e = tt
answers_same r (Err f) e = e

module _ (total : Reading) (out : List Item) (cuts : Cuts) (p : Piece) (others : Cuts) (state : State) (lets : Lets) (so_far : total ≡ with_items out (reading_from cuts state lets (length out))) (cut : cuts ≡ before p others) where
  one_turn : total ≡ with_items out (after_turn (expand others.1 others.0) (length out) (turn_meant state lets (length out) p.line p.from p.to (meaning lets p)))
  unfolding expand
  one_turn = so_far ∙ ap (λ (c : Cuts). with_items out (reading_from c state lets (length out))) cut

  pub turn_goes : (next : Code) (table : Known) (out2 : List Item) → Turns (turn_meant state lets (length out) p.line p.from p.to (meaning lets p)) out table out2 (Ok next) → total ≡ with_items out2 (reading_from others (state_of table.text next) (lets_of table) (length out2))
  turn_goes next table out2 h = one_turn ∙ by_next (turn_meant state lets (length out) p.line p.from p.to (meaning lets p)) h
    where
      by_next : (t : Next) → Turns t out table out2 (Ok next) → with_items out (after_turn (expand others.1 others.0) (length out) t) ≡ with_items out2 (reading_from others (state_of table.text next) (lets_of table) (length out2))
      by_next (Goes s l o) h =
          let same : lets_of table ≡ l = fun_ext h.1 in
          let size : length out2 ≡ length out + length o = ap length h.2 ∙ length-append out o in
          sym (with_both out o (expand others.1 others.0 s l (length out + length o))) ∙ ap (λ (t : List Item). with_items t (expand others.1 others.0 s l (length out + length o))) (sym h.2)
          ∙ ap (λ (t : ℕ). with_items out2 (expand others.1 others.0 s l t)) (sym size) ∙ ap (λ (t : State). with_items out2 (expand others.1 others.0 t l (length out2))) (sym h.0)
          ∙ ap (λ (t : Lets). with_items out2 (expand others.1 others.0 (state_of table.text next) t (length out2))) (sym same)
      by_next (Fails g) h = absurd h

  pub turn_fails : (f : TextFault) (table : Known) (out2 : List Item) → Turns (turn_meant state lets (length out) p.line p.from p.to (meaning lets p)) out table out2 (Err f) → Answers total (Err f)
  turn_fails Memory table out2 h = tt
  turn_fails f table out2 h = one_turn ∙ by_next (turn_meant state lets (length out) p.line p.from p.to (meaning lets p)) h
    where
      by_next : (t : Next) → Turns t out table out2 (Err f) → with_items out (after_turn (expand others.1 others.0) (length out) t) ≡ Err f
      by_next (Goes s l o) h = absurd h
      by_next (Fails g) h = ap (λ (t : TextFault). let failed : Reading = Err t in failed) (sym h)
