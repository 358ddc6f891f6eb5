-- Files by name, and the log in which a store's own files stand.
use Rattle.std.proofs.Common.{suc, ◌≡◌, ℕ, ◌+◌, ◌-◌, ◌≤◌, ◌<◌, List, [], ◌∷◌, ◌++◌, length, take, drop, get_or, slice_range, Bool, true, false, if◌then◌else◌, Option, Some, None, All, refl, sym, ap, ◌∙◌, arith, append_assoc, length-append}
use Rattle.std.specs.Option.{option_to_list}
use Rattle.std.specs.Str.{bytes_eq}
use Rattle.std.proofs.lemmas.List.{take_more, take-append-le, drop-append-le, drop_at, take_at, take_all, length-drop}
use Rattle.rt_outside.specs.declared.shelf.Place.{Place}
use Rattle.rt_outside.specs.Held.{first_of}
use Rattle.rt_outside.specs.Places.{file_at, kept, IsPlace, HasNoName}

-- one more place is the first of the kept files
pub kept-push : (log : List ℕ) (ps : List Place) (p : Place) → kept log (ps ++ p ∷ []) ≡ file_at log p ∷ kept log ps
kept-push log [] p = refl
kept-push log (q ∷ ps) p = ap (λ files. files ++ file_at log q ∷ []) (kept-push log ps p)

pub kept-take_more : (log : List ℕ) (ps : List Place) (i : ℕ) (d : Place) → i < length ps → kept log (take (i + 1) ps) ≡ file_at log (get_or ps i d) ∷ kept log (take i ps)
kept-take_more log ps i d h = ap (kept log) (take_more ps i d h) ∙ kept-push log (take i ps) (get_or ps i d)

same_pair : {f g : List ℕ × List ℕ} → f.0 ≡ g.0 → f.1 ≡ g.1 → f ≡ g
same_pair {f} {g} p q = ap (λ a. (a, f.1)) p ∙ ap (λ b. (g.0, b)) q

-- a part of the log stays where more is appended
pub part-append : (log more : List ℕ) (a b : ℕ) → a ≤ b → b ≤ length log → slice_range (log ++ more) a b ≡ slice_range log a b
part-append log more a b h k =
    let within : a ≤ length log = omega arith in
    let short : b - a ≤ length (drop a log) = omega (arith, length-drop a log) in
    ap (take (b - a)) (drop-append-le a log more within) ∙ take-append-le (b - a) (drop a log) more short

pub file_at-append : (log more : List ℕ) (p : Place) → IsPlace (length log) p → file_at (log ++ more) p ≡ file_at log p
file_at-append log more p h =
    let name = part-append log more p.from p.middle h.name (omega (arith, h.bytes, h.within)) in
    let bytes = part-append log more p.middle p.to h.bytes h.within in
    same_pair name bytes

pub kept-append : (log more : List ℕ) (ps : List Place) → All (IsPlace (length log)) ps → kept (log ++ more) ps ≡ kept log ps
kept-append log more [] h = refl
kept-append log more (p ∷ ps) h =
    ap (λ files. files ++ file_at (log ++ more) p ∷ []) (kept-append log more ps (λ k d lt. h (suc k) d (omega arith)))
    ∙ ap (λ file. kept log ps ++ file ∷ []) (file_at-append log more p (h 0 p (omega arith)))

-- the first file of a name in two lists, one behind the other
pub first_of-skip : (files rest : List (List ℕ × List ℕ)) (name : List ℕ) → first_of files name ≡ None → first_of (files ++ rest) name ≡ first_of rest name
first_of-skip [] rest name h = refl
first_of-skip (f ∷ files) rest name h = skip (bytes_eq f.0 name) (λ e. first_of-skip files rest name e) h where
  skip : (b : Bool) → (first_of files name ≡ None → first_of (files ++ rest) name ≡ first_of rest name)
      → (if b then Some f.1 else first_of files name) ≡ None → (if b then Some f.1 else first_of (files ++ rest) name) ≡ first_of rest name
  skip true more e = cc
  skip false more e = more e

pub first_of-front : (files rest : List (List ℕ × List ℕ)) (name bytes : List ℕ) → first_of files name ≡ Some bytes → first_of (files ++ rest) name ≡ Some bytes
first_of-front [] rest name bytes h = cc
first_of-front (f ∷ files) rest name bytes h = found (bytes_eq f.0 name) (λ e. first_of-front files rest name bytes e) h where
  found : (b : Bool) → (first_of files name ≡ Some bytes → first_of (files ++ rest) name ≡ Some bytes)
      → (if b then Some f.1 else first_of files name) ≡ Some bytes → (if b then Some f.1 else first_of (files ++ rest) name) ≡ Some bytes
  found true more e = e
  found false more e = more e

-- the first file of a name in the second of three lists, or in the third
pub first_of-second : (a b c : List (List ℕ × List ℕ)) (name bytes : List ℕ) → None ≡ first_of a name → Some bytes ≡ first_of b name → Some bytes ≡ first_of (a ++ (b ++ c)) name
first_of-second a b c name bytes none some = sym (first_of-skip a (b ++ c) name (sym none) ∙ first_of-front b c name bytes (sym some))

pub first_of-third : (a b c : List (List ℕ × List ℕ)) (name : List ℕ) → None ≡ first_of a name → None ≡ first_of b name → first_of c name ≡ first_of (a ++ (b ++ c)) name
first_of-third a b c name none also = sym (first_of-skip a (b ++ c) name (sym none) ∙ first_of-skip b c name (sym also))

-- a file without a name is no file of another name
pub first_of-unnamed : (log : List ℕ) (unnamed : Option Place) (rest : List (List ℕ × List ℕ)) (c : ℕ) (name : List ℕ) → All HasNoName (option_to_list unnamed)
    → first_of (kept log (option_to_list unnamed) ++ rest) (c ∷ name) ≡ first_of rest (c ∷ name)
first_of-unnamed log None rest c name h = refl
first_of-unnamed log (Some p) rest c name h =
    let same = h 0 p (omega arith) in
    let none : slice_range log p.from p.middle ≡ [] = ap (λ n. take n (drop p.from log)) (let zero_long : p.middle - p.from ≡ 0 = omega (arith, same) in zero_long) in
    ap (λ n. if bytes_eq n (c ∷ name) then Some (slice_range log p.middle p.to) else first_of rest (c ∷ name)) none

-- the new file stands where its place says
pub file_at-new : (log name bytes : List ℕ) (p : Place) → p.from ≡ length log → p.middle ≡ length log + length name → p.to ≡ length log + length name + length bytes
    → file_at (log ++ (name ++ bytes)) p ≡ (name, bytes)
file_at-new log name bytes p from middle to =
    let first : slice_range (log ++ (name ++ bytes)) p.from p.middle ≡ name = part log (name ++ bytes) name p.from p.middle from (omega (arith, from, middle)) (take_at name bytes (length name) refl) in
    let second : slice_range (log ++ (name ++ bytes)) p.middle p.to ≡ bytes =
    ap (λ l. slice_range l p.middle p.to) (sym (append_assoc log name bytes))
    ∙ part (log ++ name) bytes bytes p.middle p.to (middle ∙ sym (length-append log name)) (omega (arith, middle, to)) (take_all (length bytes) bytes (omega arith)) in
    same_pair first second
  where
    part : (front rest wanted : List ℕ) (a b : ℕ) → a ≡ length front → b - a ≡ length wanted → take (length wanted) rest ≡ wanted → slice_range (front ++ rest) a b ≡ wanted
    part front rest wanted a b at long all = ap (λ n. take n (drop a (front ++ rest))) long ∙ ap (take (length wanted)) (drop_at front rest a (sym at)) ∙ all

-- the places stand in a log that grew
pub All-within : (n m : ℕ) (ps : List Place) → All (IsPlace n) ps → n ≤ m → All (IsPlace m) ps
All-within n m ps all h = λ k d lt. let old = all k d lt in record { name = old.name; bytes = old.bytes; within = omega (arith, old.within, h) }
