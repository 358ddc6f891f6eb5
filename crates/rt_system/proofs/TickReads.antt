-- A tick text is read line by line.
use Rattle.std.proofs.Common.{◌≡◌, ℕ, zero, suc, ◌+◌, ◌-◌, ◌⊎◌, inl, inr, ◌≤◌, List, [], ◌∷◌, ◌++◌, length, take, drop, replicate, Result, Ok, Err, IfOk, IfErr, Some, refl, sym, ap, subst, ◌∙◌, add-one, arith}
use Rattle.std.specs.Prelude.{flat_map}
use Rattle.std.specs.List.{AllByRecursion}
use Rattle.std.proofs.lemmas.List.{length-append, flat_map_more}
use Rattle.rt_system.specs.Lines.{lines, Say}
use Rattle.rt_system.specs.TickRanges.{HasTickRanges}
use Rattle.rt_system.specs.Reading.{first_line, after_line}
use Rattle.rt_system.specs.Ticks.{IsTickLine, ticks_of, AreTicks, IsTicks, IsBadTickLine, RefusesTicks}
use Rattle.rt_system.specs.ReadingTicks.{tick_line, Adds, Refuses}
use Rattle.rt_system.specs.declared.ticks.TickLine.{TickLine}
use Rattle.rt_system.specs.declared.ticks.TickLine.TheVariants.{Blank, Gap, Gaps}
use Rattle.rt_system.specs.declared.fault.LineFault.{LineFault}
use Rattle.rt_system.specs.declared.fault.LineFault.TheVariants.{Memory, BadLine, ObjectLine}
use Rattle.rt_system.proofs.LineReads.{first_of_lines, no_lines}
use Rattle.rt_system.proofs.Says.{flat_map_append, says_more, says_split, says_one, takes_next, takes_all, HasGoodFronts, one_bad, none_bad}
use Rattle.rt_system.proofs.TickLineReads.{tick_line_means, tick_line_is, one_kind}

abbrev pub HasTicks : List (List ℕ) → Type 0
HasTicks ls = (gaps : List ℕ) × AreTicks ls gaps

shorter : (a b c : List ℕ) → a ≡ b ++ c → length a ≤ 200000 → length b ≤ 200000
shorter a b c e le = omega (arith, ap length e, length-append b c)

pub fronts : HasGoodFronts HasTicks
fronts a b h =
    let s = says_split IsTickLine a b h.1.kinds h.1.each in
    let e = h.1.are ∙ ap (flat_map ticks_of) s.parts ∙ flat_map_append ticks_of s.left s.right in (
      flat_map ticks_of s.left,
      record {
        kinds = s.left;
        each = s.first;
        are = refl;
        few = shorter h.0 (flat_map ticks_of s.left) (flat_map ticks_of s.right) e h.1.few;
      },
    )

pub one_gaps : (ls : List (List ℕ)) (a b : List ℕ) → AreTicks ls a → AreTicks ls b → a ≡ b
one_gaps ls a b h i = h.are ∙ ap (flat_map ticks_of) (says_one IsTickLine one_kind ls h.kinds i.kinds h.each i.each) ∙ sym i.are

-- ---- the lines that are read

-- so many lines are read, and have these ticks
pub record IsRead (bytes rest : List ℕ) (number : ℕ) (gaps : List ℕ) : Type 0 where
  pub left : drop number (lines bytes) ≡ lines rest
  pub read : AreTicks (take number (lines bytes)) gaps

pub starts : (bytes : List ℕ) → IsRead bytes bytes 0 []
starts bytes = record { left = refl; read = record { kinds = []; each = tt; are = refl; few = omega arith } }

ticks_more : (ls : List (List ℕ)) (gaps l : List ℕ) (kind : TickLine) → AreTicks ls gaps → IsTickLine l kind → length (gaps ++ ticks_of kind) ≤ 200000 → AreTicks (ls ++ l ∷ []) (gaps ++ ticks_of kind)
ticks_more ls gaps l kind h is few = record {
  kinds = h.kinds ++ kind ∷ [];
  each = says_more IsTickLine ls h.kinds l kind h.each is;
  are = ap (λ (t : List ℕ). t ++ ticks_of kind) h.are ∙ flat_map_more ticks_of [] h.kinds kind;
  few = few;
}

next : (bytes rest : List ℕ) (n : ℕ) (gaps more : List ℕ) → IsRead bytes rest n gaps → 1 ≤ length rest → Adds gaps (first_line rest) more → IsRead bytes (after_line rest) (suc n) more
next bytes rest n gaps more r some a =
    let t = takes_next n (lines bytes) (first_line rest) (lines (after_line rest)) (r.left ∙ first_of_lines rest some) in
    let few = subst (λ (g : List ℕ). length g ≤ 200000) a.added a.few in
    let all = ticks_more (take n (lines bytes)) gaps (first_line rest) a.kind r.read (tick_line_means (first_line rest) a.kind a.is) few in
    record {
      left = t.left;
      read = subst (λ (ls : List (List ℕ)). AreTicks ls more) (sym t.taken) (subst (λ (g : List ℕ). AreTicks (take n (lines bytes) ++ first_line rest ∷ []) g) (sym a.added) all);
    }

pub goes_on : (bytes rest line after : List ℕ) (n : ℕ) (gaps more : List ℕ) → IsRead bytes rest n gaps → 1 ≤ length rest → line ≡ first_line rest → after ≡ after_line rest → Adds gaps line more → IsRead bytes after (n + 1) more
goes_on bytes rest line after n gaps more r some is rests a =
    rw (add-one, rests) (next bytes rest n gaps more r some (subst (λ (l : List ℕ). Adds gaps l more) is a))

pub finds_end : (bytes rest : List ℕ) (n : ℕ) (gaps : List ℕ) → IsRead bytes rest n gaps → length rest ≡ 0 → IsTicks bytes gaps
finds_end bytes rest n gaps r none =
    subst (λ (ls : List (List ℕ)). AreTicks ls gaps) (takes_all n (lines bytes) (r.left ∙ no_lines rest none)) r.read

-- ---- the line that is refused

last_kind : (l : List ℕ) (ks : List TickLine) → Say IsTickLine (l ∷ []) ks → (kind : TickLine) × (ks ≡ kind ∷ []) × IsTickLine l kind
last_kind l [] h = absurd h
last_kind l (k ∷ []) h = (k, refl, h.0)
last_kind l (k ∷ m ∷ ks) h = absurd h.1

no_more : (ls : List (List ℕ)) (gaps l : List ℕ) → AreTicks ls gaps → ((kind : TickLine) → tick_line l ≡ Some kind → length (gaps ++ ticks_of kind) ≤ 200000 → ⊥) → HasTicks (ls ++ l ∷ []) → ⊥
no_more ls gaps l h refused g =
    let s = says_split IsTickLine ls (l ∷ []) g.1.kinds g.1.each in
    let last = last_kind l s.right s.second in
    let same = says_one IsTickLine one_kind ls s.left h.kinds s.first h.each in
    let kinds : g.1.kinds ≡ h.kinds ++ last.0 ∷ [] = s.parts ∙ ap (λ (t : List TickLine). t ++ s.right) same ∙ ap (λ (t : List TickLine). h.kinds ++ t) last.1 in
    let more = sym (flat_map_more ticks_of [] h.kinds last.0) in
    let is : g.0 ≡ gaps ++ ticks_of last.0 = g.1.are ∙ ap (flat_map ticks_of) kinds ∙ more ∙ ap (λ (t : List ℕ). t ++ ticks_of last.0) (sym h.are) in
    refused last.0 (tick_line_is l last.0 last.2) (subst (λ (t : List ℕ). length t ≤ 200000) is g.1.few)

pub finds_bad : (bytes rest line : List ℕ) (n : ℕ) (gaps : List ℕ) → IsRead bytes rest n gaps → 1 ≤ length rest → line ≡ first_line rest → ((kind : TickLine) → tick_line line ≡ Some kind → length (gaps ++ ticks_of kind) ≤ 200000 → ⊥) → IsBadTickLine bytes (n + 1)
finds_bad bytes rest line n gaps r some is refused =
    let t = takes_next n (lines bytes) (first_line rest) (lines (after_line rest)) (r.left ∙ first_of_lines rest some) in
    let back : n + 1 - 1 ≡ n = omega arith in
    let taken : take (n + 1) (lines bytes) ≡ take n (lines bytes) ++ line ∷ [] = rw (add-one, is) t.taken in
    record {
      before = rw back (gaps, r.read);
      with_it = λ g. no_more (take n (lines bytes)) gaps line r.read refused (subst HasTicks taken g);
    }

pub refuses : (bytes rest line : List ℕ) (n : ℕ) (gaps : List ℕ) (f : LineFault) → IsRead bytes rest n gaps → 1 ≤ length rest → line ≡ first_line rest → Refuses gaps line (n + 1) f → RefusesTicks bytes f
refuses bytes rest line n gaps Memory r some is bad = tt
refuses bytes rest line n gaps (BadLine m) r some is bad = subst (λ (k : ℕ). IsBadTickLine bytes k) (sym bad.0) (finds_bad bytes rest line n gaps r some is bad.1)
refuses bytes rest line n gaps (ObjectLine m) r some is bad = absurd bad

-- ---- the answer

pub only_ticks : (bytes : List ℕ) (r : Result (List ℕ) LineFault) → IfOk r (IsTicks bytes) → IfErr r (RefusesTicks bytes) → (gaps : List ℕ) → IsTicks bytes gaps → (r ≡ Ok gaps) ⊎ (r ≡ Err Memory)
only_ticks bytes (Ok ticks) ok err gaps is = inl (ap (λ (t : List ℕ). Ok t) (one_gaps (lines bytes) ticks gaps ok is))
only_ticks bytes (Err Memory) ok err gaps is = inr refl
only_ticks bytes (Err (BadLine n)) ok err gaps is = absurd (none_bad HasTicks fronts bytes n (gaps, is) err)
only_ticks bytes (Err (ObjectLine n)) ok err gaps is = absurd err

pub only_line : (bytes : List ℕ) (r : Result (List ℕ) LineFault) → IfOk r (IsTicks bytes) → IfErr r (RefusesTicks bytes) → (n : ℕ) → IsBadTickLine bytes n → (r ≡ Err (BadLine n)) ⊎ (r ≡ Err Memory)
only_line bytes (Ok ticks) ok err n bad = absurd (none_bad HasTicks fronts bytes n (ticks, ok) bad)
only_line bytes (Err Memory) ok err n bad = inr refl
only_line bytes (Err (BadLine m)) ok err n bad = inl (ap (λ (k : ℕ). Err (BadLine k)) (one_bad HasTicks fronts bytes m n err bad))
only_line bytes (Err (ObjectLine m)) ok err n bad = absurd err

-- ---- the ranges

abbrev IsShort : ℕ → Type 0
IsShort gap = gap ≤ 4000000000

all_append : (a b : List ℕ) → AllByRecursion IsShort a → AllByRecursion IsShort b → AllByRecursion IsShort (a ++ b)
all_append [] b h k = k
all_append (x ∷ a) b h k = (h.0, all_append a b h.1 k)

all_same : (n gap : ℕ) → IsShort gap → AllByRecursion IsShort (replicate n gap)
all_same zero gap h = tt
all_same (suc n) gap h = (h, all_same n gap h)

line_short : (l : List ℕ) (kind : TickLine) → IsTickLine l kind → AllByRecursion IsShort (ticks_of kind)
line_short l Blank h = tt
line_short l (Gap gap) h = (h.most, tt)
line_short l (Gaps gap n) h = all_same n gap h.gap_is.most

lines_short : (ls : List (List ℕ)) (ks : List TickLine) → Say IsTickLine ls ks → AllByRecursion IsShort (flat_map ticks_of ks)
lines_short [] [] h = tt
lines_short [] (k ∷ ks) h = absurd h
lines_short (l ∷ ls) [] h = absurd h
lines_short (l ∷ ls) (k ∷ ks) h = all_append (ticks_of k) (flat_map ticks_of ks) (line_short l k h.0) (lines_short ls ks h.1)

pub ranges : (ls : List (List ℕ)) (gaps : List ℕ) → AreTicks ls gaps → HasTickRanges gaps
ranges ls gaps h = record { few = h.few; short = subst (λ (g : List ℕ). AllByRecursion IsShort g) (sym h.are) (lines_short ls h.kinds h.each) }
