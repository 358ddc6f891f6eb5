-- What calls of an input gave, one after another.
use Rattle.std.proofs.Common.{◌≡◌, ◌<◌, ℕ, zero, suc, ◌+◌, Bool, true, false, ◌||◌, List, [], ◌∷◌, ◌++◌, length, drop, Option, Some, None, refl, sym, ap, ◌∙◌, subst, arith, append_assoc, append-nil}
use Rattle.std.specs.Prelude.{slice_index}
use Rattle.std.specs.Io.KnownBytes.{Keeps, Appends, Consumes, IsAtEnd}
use Rattle.std.proofs.lemmas.List.{drop-drop}
use Rattle.std.proofs.Math.Seq.{drop-append_seam}
use Rattle.rt_run.specs.Inputs.{Feed, feed, Gives, Ahead}

not_true : {A : Type 0} → false ≡ true → A
not_true e = absurd cc

-- ---- bytes

none_small : (k : ℕ) → slice_index [] k < 256
none_small k = omega arith

one_small : (b : ℕ) → b < 256 → (k : ℕ) → slice_index (b ∷ []) k < 256
one_small b low zero = low
one_small b low (suc k) = omega arith

both_small : (x y : List ℕ) → ((k : ℕ) → slice_index x k < 256) → ((k : ℕ) → slice_index y k < 256) → (k : ℕ) → slice_index (x ++ y) k < 256
both_small [] y f g k = g k
both_small (b ∷ x) y f g zero = f 0
both_small (b ∷ x) y f g (suc k) = both_small x y (λ j. f (suc j)) g k

-- ---- one call

pub gives_nothing : (f : Feed) → Gives f [] false f
gives_nothing f = record { told = λ xs q. (xs, refl, q, λ e. not_true e); small = none_small; none = λ e. (refl, e); shut = λ e. not_true e }

pub gives_byte : (left left2 : Option (List ℕ)) (ended ended2 : Bool) (b : ℕ) → b < 256 → Consumes left left2 (b ∷ []) → (ended ≡ true → ⊥) → Gives (feed left ended) (b ∷ []) false (feed left2 ended2)
gives_byte left left2 ended ended2 b low h more = record { told = λ xs q. by xs left left2 q h; small = one_small b low; none = λ e. absurd (more e); shut = λ e. not_true e }
  where
    by : (xs : List ℕ) (o u : Option (List ℕ)) → o ≡ Some xs → Consumes o u (b ∷ []) → (rest : List ℕ) × (xs ≡ (b ∷ []) ++ rest) × (u ≡ Some rest) × (false ≡ true → rest ≡ [])
    by xs None u q k = absurd (let no : None ≡ Some xs = q in cc)
    by xs (Some ys) None q k = absurd k
    by xs (Some ys) (Some zs) q k = let same : ys ≡ xs = cc in (zs, sym same ∙ k, refl, λ e. not_true e)

pub gives_end : (left left2 : Option (List ℕ)) (ended ended2 : Bool) → IsAtEnd left → Keeps left left2 → ended2 ≡ true → Gives (feed left ended) [] true (feed left2 ended2)
gives_end left left2 ended ended2 h kept over = record { told = λ xs q. by xs left left2 q h kept; small = none_small; none = λ e. (refl, over); shut = λ e. over }
  where
    by : (xs : List ℕ) (o u : Option (List ℕ)) → o ≡ Some xs → IsAtEnd o → Keeps o u → (rest : List ℕ) × (xs ≡ [] ++ rest) × (u ≡ Some rest) × (true ≡ true → rest ≡ [])
    by xs None u q k l = absurd (let no : None ≡ Some xs = q in cc)
    by xs (Some ys) None q k l = absurd l
    by xs (Some ys) (Some zs) q k l = let same : ys ≡ xs = cc in ([], sym same ∙ k, ap Some (l ∙ k), λ e. refl)

pub gives_no_answer : (left left2 : Option (List ℕ)) (ended ended2 : Bool) → Keeps left left2 → (ended ≡ true → ended2 ≡ true) → Gives (feed left ended) [] false (feed left2 ended2)
gives_no_answer left left2 ended ended2 kept stays = record { told = λ xs q. by xs left left2 q kept; small = none_small; none = λ e. (refl, stays e); shut = λ e. not_true e }
  where
    by : (xs : List ℕ) (o u : Option (List ℕ)) → o ≡ Some xs → Keeps o u → (rest : List ℕ) × (xs ≡ [] ++ rest) × (u ≡ Some rest) × (false ≡ true → rest ≡ [])
    by xs None u q l = absurd (let no : None ≡ Some xs = q in cc)
    by xs (Some ys) None q l = absurd l
    by xs (Some ys) (Some zs) q l = let same : ys ≡ xs = cc in (zs, sym same ∙ sym l, refl, λ e. not_true e)

-- ---- several calls

either_true : (o p : Bool) (A : Type 0) → (o ≡ true → A) → (p ≡ true → A) → (o || p) ≡ true → A
either_true true p A f g e = f refl
either_true false p A f g e = g e

left_true : (o p : Bool) → o ≡ true → (o || p) ≡ true
left_true true p e = refl
left_true false p e = not_true e

right_true : (o p : Bool) → p ≡ true → (o || p) ≡ true
right_true true p e = refl
right_true false p e = e

both_empty : (x y : List ℕ) → x ≡ [] → y ≡ [] → x ++ y ≡ []
both_empty x y a b = ap (λ (z : List ℕ). z ++ y) a ∙ b

back_empty : (x y : List ℕ) → x ++ y ≡ [] → y ≡ []
back_empty [] y h = h
back_empty (z ∷ zs) y h = absurd cc

pub gives_more : (a b c : Feed) (x y : List ℕ) (o p : Bool) → Gives a x o b → Gives b y p c → Gives a (x ++ y) (o || p) c
gives_more a b c x y o p h k = record {
  told = λ xs q.
      let m = h.told xs q in
      let n = k.told m.0 m.2 in
      (n.0, m.1 ∙ ap (λ (z : List ℕ). x ++ z) n.1 ∙ sym (append_assoc x y n.0), n.2, λ e. either_true o p (n.0 ≡ []) (λ d. back_empty y n.0 (sym n.1 ∙ m.3 d)) n.3 e);
  small = both_small x y h.small k.small;
  none = λ e. let m = h.none e in let n = k.none m.1 in (both_empty x y m.0 n.0, n.1);
  shut = λ e. either_true o p (c.ended ≡ true) (λ d. (k.none (h.shut d)).1) k.shut e;
}

-- a call that gave no answer changes nothing of it
pub gives_still : (a b c : Feed) (x : List ℕ) (o : Bool) → Gives a x o b → Gives b [] false c → Gives a x o c
gives_still a b c x o h k = record {
  told = λ xs q.
      let m = h.told xs q in
      let n = k.told m.0 m.2 in
      (n.0, m.1 ∙ ap (λ (z : List ℕ). x ++ z) n.1, n.2, λ e. sym n.1 ∙ m.3 e);
  small = h.small;
  none = λ e. let m = h.none e in (m.0, (k.none m.1).1);
  shut = λ e. (k.none (h.shut e)).1;
}

-- ---- what comes next

pub ahead_first : (all : List ℕ) (n : ℕ) (x y rest : List ℕ) (o p : Bool) → Ahead all n (x ++ y) (o || p) rest → (o ≡ true → y ≡ []) → Ahead all n x o (y ++ rest)
ahead_first all n x y rest o p a none = record { next = a.next ∙ append_assoc x y rest; last = λ e. both_empty y rest (none e) (a.last (left_true o p e)) }

drop_past : (all : List ℕ) (n : ℕ) (x r : List ℕ) → drop n all ≡ x ++ r → drop (n + length x) all ≡ r
drop_past all n x r h = sym (drop-drop (length x) n all) ∙ ap (drop (length x)) h ∙ drop-append_seam x r

pub ahead_then : (all : List ℕ) (n m : ℕ) (x y rest : List ℕ) (o p : Bool) → Ahead all n (x ++ y) (o || p) rest → m ≡ n + length x → Ahead all m y p rest
ahead_then all n m x y rest o p a e = record {
  next = ap (λ (j : ℕ). drop j all) e ∙ drop_past all n x (y ++ rest) (a.next ∙ append_assoc x y rest);
  last = λ d. a.last (right_true o p d);
}

pub ahead_rest : (all : List ℕ) (n m : ℕ) (x rest : List ℕ) (o : Bool) → Ahead all n x o rest → m ≡ n + length x → drop m all ≡ rest
ahead_rest all n m x rest o a e = ap (λ (j : ℕ). drop j all) e ∙ drop_past all n x rest a.next

-- ---- what was put

pub appends : (a b c : Option (List ℕ)) (x y : List ℕ) → Appends a b x → Appends b c y → Appends a c (x ++ y)
appends None b c x y h k = tt
appends (Some a) None c x y h k = absurd h
appends (Some a) (Some b) None x y h k = absurd k
appends (Some a) (Some b) (Some c) x y h k = k ∙ ap (λ (z : List ℕ). z ++ y) h ∙ append_assoc a x y

pub appends_nothing : (a : Option (List ℕ)) → Appends a a []
appends_nothing None = tt
appends_nothing (Some a) = sym (append-nil a)

pub appends_still : (a b c : Option (List ℕ)) (x : List ℕ) → Appends a b x → Keeps b c → Appends a c x
appends_still None b c x h k = tt
appends_still (Some a) None c x h k = absurd h
appends_still (Some a) (Some b) None x h k = absurd k
appends_still (Some a) (Some b) (Some c) x h k = k ∙ h

pub keeps_same : (a : Option (List ℕ)) → Keeps a a
keeps_same None = tt
keeps_same (Some a) = refl

pub kept_same : (a b : Option (List ℕ)) → b ≡ a → Keeps a b
kept_same a b e = subst (λ (o : Option (List ℕ)). Keeps a o) (sym e) (keeps_same a)
