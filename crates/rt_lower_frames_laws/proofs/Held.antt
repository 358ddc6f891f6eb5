-- Code that begins with so many values held and ends with so many, with the points in it and the greatest number.
use Rattle.std.proofs.Common.{◌≡◌, ℕ, ◌+◌, ◌-◌, ◌≤◌, List, [], ◌∷◌, ◌++◌, map, refl, sym, ap, ◌∙◌, subst, arith}
use Rattle.std.proofs.lemmas.List.{append-nil, append_assoc, map-append}
use Rattle.rt_frames.specs.declared.frame.CallPoint.{CallPoint}
use Rattle.rt_icode.specs.declared.ins.Ins.{Ins}
use Rattle.rt_lower_frames_laws.specs.Heights.{takes, leaves, behind, heights, Point, points_at, points_of, told}

-- how many are held behind all of them
abbrev pub after : ℕ → List Ins → ℕ
after h [] = h
after h (i ∷ is) = after (behind i h) is

-- each finds as many as it takes
abbrev pub Enough : ℕ → List Ins → Type 0
Enough h [] = Unit {0}
Enough h (i ∷ is) = (takes i ≤ h) × Enough (behind i h) is

-- never more than so many
abbrev pub Low : ℕ → ℕ → List Ins → Type 0
Low most h [] = Unit {0}
Low most h (i ∷ is) = (h ≤ most) × Low most (behind i h) is

abbrev pub points_from : ℕ → List Ins → List Point
points_from h [] = []
points_from h (i ∷ is) = points_at i h ++ points_from (behind i h) is

pub record Held (h to most : ℕ) (is : List Ins) (ps : List CallPoint) : Type 0 where
  pub enough : Enough h is
  pub low : Low most h is
  pub ends : after h is ≡ to
  pub small : to ≤ most
  pub points : points_from h is ≡ map told ps

-- ---- one behind the other

after_append : (h : ℕ) (xs ys : List Ins) → after h (xs ++ ys) ≡ after (after h xs) ys
after_append h [] ys = refl
after_append h (x ∷ xs) ys = after_append (behind x h) xs ys

enough_append : (h : ℕ) (xs ys : List Ins) → Enough h xs → Enough (after h xs) ys → Enough h (xs ++ ys)
enough_append h [] ys e f = f
enough_append h (x ∷ xs) ys e f = (e.0, enough_append (behind x h) xs ys e.1 f)

low_append : (most h : ℕ) (xs ys : List Ins) → Low most h xs → Low most (after h xs) ys → Low most h (xs ++ ys)
low_append most h [] ys e f = f
low_append most h (x ∷ xs) ys e f = (e.0, low_append most (behind x h) xs ys e.1 f)

low_more : (a b h : ℕ) (is : List Ins) → a ≤ b → Low a h is → Low b h is
low_more a b h [] l e = tt
low_more a b h (i ∷ is) l e = (omega (arith, l, e.0), low_more a b (behind i h) is l e.1)

points_append : (h : ℕ) (xs ys : List Ins) → points_from h (xs ++ ys) ≡ points_from h xs ++ points_from (after h xs) ys
points_append h [] ys = refl
points_append h (x ∷ xs) ys = ap (λ ps. points_at x h ++ ps) (points_append (behind x h) xs ys) ∙ sym (append_assoc (points_at x h) (points_from (behind x h) xs) (points_from (after (behind x h) xs) ys))

pub held_more : (h to a b : ℕ) (is : List Ins) (ps : List CallPoint) → a ≤ b → Held h to a is ps → Held h to b is ps
held_more h to a b is ps l e = record { enough = e.enough; low = low_more a b h is l e.low; ends = e.ends; small = omega (arith, l, e.small); points = e.points }

pub held_to : (h to at most : ℕ) (is : List Ins) (ps : List CallPoint) → to ≡ at → Held h to most is ps → Held h at most is ps
held_to h to at most is ps same e = subst (λ n. Held h n most is ps) same e

pub held_from : (h g to most : ℕ) (is : List Ins) (ps : List CallPoint) → h ≡ g → Held h to most is ps → Held g to most is ps
held_from h g to most is ps same e = subst (λ n. Held n to most is ps) same e

joined : (h m to most : ℕ) (xs ys : List Ins) (ps qs : List CallPoint) → Held h m most xs ps → Held m to most ys qs → Held h to most (xs ++ ys) (ps ++ qs)
joined h m to most xs ys ps qs e f =
    let at : m ≡ after h xs = sym e.ends in
    record {
      enough = enough_append h xs ys e.enough (subst (λ n. Enough n ys) at f.enough);
      low = low_append most h xs ys e.low (subst (λ n. Low most n ys) at f.low);
      ends = after_append h xs ys ∙ ap (λ n. after n ys) e.ends ∙ f.ends;
      small = f.small;
      points = points_append h xs ys ∙ ap (λ n. points_from h xs ++ points_from n ys) e.ends ∙ ap (λ zs. zs ++ points_from m ys) e.points ∙ ap (λ zs. map told ps ++ zs) f.points ∙ sym (map-append told ps qs);
    }

pub held_both : (h m g to a b most : ℕ) (xs ys : List Ins) (ps qs : List CallPoint) → m ≡ g → a ≤ most → b ≤ most → Held h m a xs ps → Held g to b ys qs → Held h to most (xs ++ ys) (ps ++ qs)
held_both h m g to a b most xs ys ps qs same l k e f = joined h m to most xs ys ps qs (held_more h m a most xs ps l e) (held_from g m to most ys qs (sym same) (held_more g to b most ys qs k f))

-- ---- little code

pub held_none : (h most : ℕ) → h ≤ most → Held h h most [] []
held_none h most l = record { enough = tt; low = tt; ends = refl; small = l; points = refl }

-- an instruction that calls nothing
pub held_one : (h to most : ℕ) (i : Ins) → points_at i h ≡ [] → takes i ≤ h → h - takes i + leaves i ≡ to → h ≤ most → to ≤ most → Held h to most (i ∷ []) []
held_one h to most i none enough same l k = record { enough = (enough, tt); low = (l, tt); ends = same; small = k; points = append-nil (points_at i h) ∙ none }

-- one that calls
pub held_call : (h to most : ℕ) (i : Ins) (c : CallPoint) → points_at i h ≡ told c ∷ [] → takes i ≤ h → h - takes i + leaves i ≡ to → h ≤ most → to ≤ most → Held h to most (i ∷ []) (c ∷ [])
held_call h to most i c is enough same l k = record { enough = (enough, tt); low = (l, tt); ends = same; small = k; points = append-nil (points_at i h) ∙ is }

-- code, and behind it an instruction that calls nothing
pub held_then : (h m to a most : ℕ) (xs : List Ins) (i : Ins) (ps : List CallPoint) → Held h m a xs ps → a ≤ most → points_at i m ≡ [] → takes i ≤ m → m - takes i + leaves i ≡ to → to ≤ most → Held h to most (xs ++ i ∷ []) ps
held_then h m to a most xs i ps e l none enough same k =
    subst (λ qs. Held h to most (xs ++ i ∷ []) qs) (append-nil ps)
    (held_both h m m to a most most xs (i ∷ []) ps [] refl l (omega arith) e (held_one m to most i none enough same (omega (arith, l, e.small)) k))

-- an instruction that calls nothing, and code behind it
pub held_first : (h m to a most : ℕ) (i : Ins) (ys : List Ins) (ps : List CallPoint) → points_at i h ≡ [] → takes i ≤ h → h - takes i + leaves i ≡ m → h ≤ most → m ≤ most → a ≤ most → Held m to a ys ps → Held h to most (i ∷ ys) ps
held_first h m to a most i ys ps none enough same l k j e = held_both h m m to most a most (i ∷ []) ys [] ps refl (omega arith) j (held_one h m most i none enough same l k) e

-- ---- the points, with the values before each instruction

pub points_are : (h : ℕ) (is : List Ins) → points_of is (heights h is) ≡ points_from h is
points_are h [] = refl
points_are h (i ∷ is) = ap (λ ps. points_at i h ++ ps) (points_are (behind i h) is)
