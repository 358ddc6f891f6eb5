-- A system text is read line by line.
use Rattle.std.proofs.Common.{◌≡◌, ℕ, zero, suc, ◌+◌, ◌-◌, ◌⊎◌, inl, inr, ◌≤◌, Bool, true, false, List, [], ◌∷◌, ◌++◌, length, take, drop, Result, Ok, Err, IfOk, IfErr, Some, refl, sym, ap, subst, ◌∙◌, append_assoc, add-one, arith}
use Rattle.std.specs.Prelude.{flat_map}
use Rattle.std.specs.List.{AllByRecursion}
use Rattle.std.proofs.lemmas.List.{length-append, append-nil, flat_map_more}
use Rattle.rt_system.specs.Lines.{lines, Say, IsFirstBad}
use Rattle.rt_system.specs.Reading.{first_line, after_line}
use Rattle.rt_system.specs.SystemRanges.{IsWithinLimits}
use Rattle.rt_system.specs.Systems.{Line, Blank, Module, Object, Library, Task, IsSystemLine, entries_of, tasks_of, tasks_from, IsTaken, AreParts, IsSystem, AreGood, IsObjectLine, BreaksRule, LacksTask, IsBadSystemLine, RefusesSystem}
use Rattle.rt_system.specs.ReadingSystems.{system_line, is_taken, has_room, with_line, Adds, IsBad, Refuses}
use Rattle.rt_system.specs.Laws as laws
use Rattle.rt_system.specs.Laws.{Reading, Reads}
use Rattle.rt_system.specs.declared.parts.Entry.{Entry}
use Rattle.rt_system.specs.declared.parts.Task as parts
use Rattle.rt_system.specs.declared.parts.SystemParts.{SystemParts}
use Rattle.rt_system.specs.declared.fault.LineFault.{LineFault}
use Rattle.rt_system.specs.declared.fault.LineFault.TheVariants.{Memory, BadLine, ObjectLine}
use Rattle.rt_system.proofs.Tests.{true_false, some_inj}
use Rattle.rt_system.proofs.LineReads.{first_of_lines, no_lines}
use Rattle.rt_system.proofs.Says.{flat_map_append, says_more, says_split, says_one, says_length, takes_next, takes_all, HasGoodFronts, one_bad, none_bad}
use Rattle.rt_system.proofs.SystemLineReads.{system_line_means, system_line_is, one_system_line}
use Rattle.rt_system.proofs.SystemLimits.{all_front, all_back, all_append, limits_front, room_means, room_is}

abbrev parts_of : List Entry → List parts.Task → SystemParts
parts_of es ts = record { entries = es; tasks = ts }

same_parts : (a b : List Entry) (c d : List parts.Task) → a ≡ b → c ≡ d → parts_of a c ≡ parts_of b d
same_parts a b c d e k = ap (λ (es : List Entry). parts_of es c) e ∙ ap (λ (ts : List parts.Task). parts_of b ts) k

tasks_append : (n : ℕ) (a b : List Line) → tasks_from n (a ++ b) ≡ tasks_from n a ++ tasks_from (n + length a) b
tasks_append n [] b = let e : n + 0 ≡ n = omega arith in rw e refl
tasks_append n (k ∷ a) b =
    let e : n + 1 + length a ≡ n + length (k ∷ a) = omega arith in
    ap (λ (ts : List parts.Task). tasks_of n k ++ ts) (tasks_append (n + 1) a b) ∙ sym (append_assoc (tasks_of n k) (tasks_from (n + 1) a) (tasks_from (n + 1 + length a) b))
    ∙ ap (λ (m : ℕ). tasks_from n (k ∷ a) ++ tasks_from m b) e

-- ---- good lines

fronts : (objects : Bool) → HasGoodFronts (AreGood objects)
fronts objects a b h =
    let s = says_split IsSystemLine a b h.1.kinds h.1.each in
    let entries = h.1.entries ∙ ap (flat_map entries_of) s.parts ∙ flat_map_append entries_of s.left s.right in
    let tasks = h.1.tasks ∙ ap (tasks_from 1) s.parts ∙ tasks_append 1 s.left s.right in (
      parts_of (flat_map entries_of s.left) (tasks_from 1 s.left),
      record {
        kinds = s.left;
        each = s.first;
        entries = refl;
        tasks = refl;
        limits = limits_front h.0 (flat_map entries_of s.left) (flat_map entries_of s.right) (tasks_from 1 s.left) (tasks_from (1 + length s.left) s.right) entries tasks h.1.limits;
        taken = all_front (IsTaken objects) (flat_map entries_of s.left) (flat_map entries_of s.right) (subst (λ (es : List Entry). AllByRecursion (IsTaken objects) es) entries h.1.taken);
      },
    )

one_parts : (objects : Bool) (ls : List (List ℕ)) (s t : SystemParts) → AreParts objects ls s → AreParts objects ls t → s ≡ t
one_parts objects ls s t h i =
    let kinds = says_one IsSystemLine one_system_line ls h.kinds i.kinds h.each i.each in
    same_parts s.entries t.entries s.tasks t.tasks (h.entries ∙ ap (flat_map entries_of) kinds ∙ sym i.entries) (h.tasks ∙ ap (tasks_from 1) kinds ∙ sym i.tasks)

-- ---- one line more

kind_taken : (objects : Bool) (k : Line) → is_taken objects k ≡ true → AllByRecursion (IsTaken objects) (entries_of k)
kind_taken objects Blank h = tt
kind_taken objects (Module file) h = (tt, tt)
kind_taken objects (Object file) h = (h, tt)
kind_taken objects Library h = (tt, tt)
kind_taken objects (Task t) h = tt

tasks_more : (n : ℕ) (ks : List Line) (k : Line) → tasks_from n (ks ++ k ∷ []) ≡ tasks_from n ks ++ tasks_of (n + length ks) k
tasks_more n ks k = tasks_append n ks (k ∷ []) ∙ ap (λ (ts : List parts.Task). tasks_from n ks ++ ts) (append-nil (tasks_of (n + length ks) k))

line_number : (n : ℕ) (ls : List (List ℕ)) (ks : List Line) → Say IsSystemLine ls ks → n ≡ length ls + 1 → 1 + length ks ≡ n
line_number n ls ks each e = omega (arith, says_length IsSystemLine ls ks each)

parts_more : (objects : Bool) (ls : List (List ℕ)) (s : SystemParts) (l : List ℕ) (k : Line) (n : ℕ) → AreParts objects ls s → IsSystemLine l k → n ≡ length ls + 1 → IsWithinLimits (with_line n s k) → is_taken objects k ≡ true
    → AreParts objects (ls ++ l ∷ []) (with_line n s k)
parts_more objects ls s l k n h is number limits taken = record {
  kinds = h.kinds ++ k ∷ [];
  each = says_more IsSystemLine ls h.kinds l k h.each is;
  entries = ap (λ (es : List Entry). es ++ entries_of k) h.entries ∙ flat_map_more entries_of [] h.kinds k;
  tasks = ap (λ (ts : List parts.Task). ts ++ tasks_of n k) h.tasks ∙ ap (λ (m : ℕ). tasks_from 1 h.kinds ++ tasks_of m k) (sym (line_number n ls h.kinds h.each number)) ∙ sym (tasks_more 1 h.kinds k);
  limits = limits;
  taken = all_append (IsTaken objects) s.entries (entries_of k) h.taken (kind_taken objects k taken);
}

-- what the last of some lines says
record Last (objects : Bool) (ls : List (List ℕ)) (s : SystemParts) (l : List ℕ) (n : ℕ) (t : SystemParts) : Type 0 where
  kind : Line
  is : IsSystemLine l kind
  with_it : t ≡ with_line n s kind
  taken : AllByRecursion (IsTaken objects) (entries_of kind)

last_kind : (l : List ℕ) (ks : List Line) → Say IsSystemLine (l ∷ []) ks → (kind : Line) × (ks ≡ kind ∷ []) × IsSystemLine l kind
last_kind l [] h = absurd h
last_kind l (k ∷ []) h = (k, refl, h.0)
last_kind l (k ∷ m ∷ ks) h = absurd h.1

last : (objects : Bool) (ls : List (List ℕ)) (s : SystemParts) (l : List ℕ) (n : ℕ) (t : SystemParts) → AreParts objects ls s → n ≡ length ls + 1 → AreParts objects (ls ++ l ∷ []) t → Last objects ls s l n t
last objects ls s l n t h number g =
    let split = says_split IsSystemLine ls (l ∷ []) g.kinds g.each in
    let kind = last_kind l split.right split.second in
    let same = says_one IsSystemLine one_system_line ls split.left h.kinds split.first h.each in
    let kinds : g.kinds ≡ h.kinds ++ kind.0 ∷ [] = split.parts ∙ ap (λ (ks : List Line). ks ++ split.right) same ∙ ap (λ (ks : List Line). h.kinds ++ ks) kind.1 in
    let entries : t.entries ≡ s.entries ++ entries_of kind.0 =
    g.entries ∙ ap (flat_map entries_of) kinds ∙ sym (flat_map_more entries_of [] h.kinds kind.0) ∙ ap (λ (es : List Entry). es ++ entries_of kind.0) (sym h.entries) in
    let tasks : t.tasks ≡ s.tasks ++ tasks_of n kind.0 =
    g.tasks ∙ ap (tasks_from 1) kinds ∙ tasks_more 1 h.kinds kind.0 ∙ ap (λ (m : ℕ). tasks_from 1 h.kinds ++ tasks_of m kind.0) (line_number n ls h.kinds h.each number)
    ∙ ap (λ (ts : List parts.Task). ts ++ tasks_of n kind.0) (sym h.tasks) in
    record {
      kind = kind.0;
      is = kind.2;
      with_it = same_parts t.entries (s.entries ++ entries_of kind.0) t.tasks (s.tasks ++ tasks_of n kind.0) entries tasks;
      taken = all_back (IsTaken objects) s.entries (entries_of kind.0) (subst (λ (es : List Entry). AllByRecursion (IsTaken objects) es) entries g.taken);
    }

-- ---- the line that is added or refused

pub no_room : (objects : Bool) (s : SystemParts) (l : List ℕ) (n : ℕ) (k : Line) → system_line l ≡ Some k → is_taken objects k ≡ true → has_room s k ≡ false → IsBad objects s l n
no_room objects s l n k e taken full kind is =
    let same : kind ≡ k = some_inj (sym is ∙ e) in (
      subst (λ (m : Line). is_taken objects m ≡ true) (sym same) taken,
      λ limits. true_false (has_room s k) (subst (λ (m : Line). has_room s m ≡ true) same (room_is n s kind limits)) full,
    )

pub adds : (objects : Bool) (s : SystemParts) (l : List ℕ) (n : ℕ) (k : Line) (now : SystemParts) → IsWithinLimits s → system_line l ≡ Some k → is_taken objects k ≡ true → has_room s k ≡ true → now ≡ with_line n s k → Adds objects s l n now
adds objects s l n k now h e taken room added = record {
  kind = k;
  is = e;
  added = added;
  limits = subst IsWithinLimits (sym added) (room_means n s k h room);
  taken = taken;
}

-- ---- the lines that are read

-- so many lines are read, and say these entries and tasks
pub record IsRead (objects : Bool) (bytes rest : List ℕ) (number : ℕ) (s : SystemParts) : Type 0 where
  pub left : drop number (lines bytes) ≡ lines rest
  pub read : AreParts objects (take number (lines bytes)) s
  pub counted : length (take number (lines bytes)) ≡ number

pub starts : (objects : Bool) (bytes : List ℕ) (s : SystemParts) → s.entries ≡ [] → s.tasks ≡ [] → IsRead objects bytes bytes 0 s
starts objects bytes s e k = subst (λ (t : SystemParts). IsRead objects bytes bytes 0 t) (same_parts [] s.entries [] s.tasks (sym e) (sym k)) (record {
  left = refl;
  read = record {
    kinds = [];
    each = tt;
    entries = refl;
    tasks = refl;
    limits = record { few_entries = omega arith; one_library = omega arith; few_tasks = omega arith; different = tt };
    taken = tt;
  };
  counted = refl;
})

one_longer : (n : ℕ) (a b : List (List ℕ)) (l : List ℕ) → a ≡ b ++ l ∷ [] → length b ≡ n → length a ≡ n + 1
one_longer n a b l e k = omega (arith, ap length e, length-append b (l ∷ []))

pub next : (objects : Bool) (bytes rest : List ℕ) (n : ℕ) (s more : SystemParts) → IsRead objects bytes rest n s → 1 ≤ length rest → Adds objects s (first_line rest) (n + 1) more → IsRead objects bytes (after_line rest) (n + 1) more
next objects bytes rest n s more r some a =
    let t = takes_next n (lines bytes) (first_line rest) (lines (after_line rest)) (r.left ∙ first_of_lines rest some) in
    let limits = subst IsWithinLimits a.added a.limits in
    let number : n + 1 ≡ length (take n (lines bytes)) + 1 = ap (λ (m : ℕ). m + 1) (sym r.counted) in
    let all = parts_more objects (take n (lines bytes)) s (first_line rest) a.kind (n + 1) r.read (system_line_means (first_line rest) a.kind a.is) number limits a.taken in
    let taken : take (n + 1) (lines bytes) ≡ take n (lines bytes) ++ first_line rest ∷ [] = rw add-one t.taken in
    record {
      left = rw add-one t.left;
      read = subst (λ (ls : List (List ℕ)). AreParts objects ls more) (sym taken) (subst (λ (p : SystemParts). AreParts objects (take n (lines bytes) ++ first_line rest ∷ []) p) (sym a.added) all);
      counted = one_longer n (take (n + 1) (lines bytes)) (take n (lines bytes)) (first_line rest) taken r.counted;
    }

pub goes_on : (objects : Bool) (bytes rest line after : List ℕ) (n : ℕ) (s more : SystemParts) → IsRead objects bytes rest n s → 1 ≤ length rest → line ≡ first_line rest → after ≡ after_line rest → Adds objects s line (n + 1) more → IsRead objects bytes after (n + 1) more
goes_on objects bytes rest line after n s more r some is rests a =
    subst (λ (t : List ℕ). IsRead objects bytes t (n + 1) more) (sym rests) (next objects bytes rest n s more r some (subst (λ (l : List ℕ). Adds objects s l (n + 1) more) is a))

-- ---- the end of the text

all_read : (objects : Bool) (bytes rest : List ℕ) (n : ℕ) (s : SystemParts) → IsRead objects bytes rest n s → length rest ≡ 0 → take n (lines bytes) ≡ lines bytes
all_read objects bytes rest n s r none = takes_all n (lines bytes) (r.left ∙ no_lines rest none)

pub finds_end : (objects : Bool) (bytes rest : List ℕ) (n : ℕ) (s : SystemParts) → IsRead objects bytes rest n s → length rest ≡ 0 → 1 ≤ length s.tasks → IsSystem objects bytes s
finds_end objects bytes rest n s r none some =
    record { parts = subst (λ (ls : List (List ℕ)). AreParts objects ls s) (all_read objects bytes rest n s r none) r.read; some_task = some }

no_tasks : (ts : List parts.Task) → length ts ≡ 0 → ts ≡ []
no_tasks [] h = refl
no_tasks (t ∷ ts) h = absurd (omega arith)

pub lacks_task : (objects : Bool) (bytes rest : List ℕ) (n : ℕ) (s : SystemParts) → IsRead objects bytes rest n s → length rest ≡ 0 → length s.tasks ≡ 0 → LacksTask objects bytes (n + 1)
lacks_task objects bytes rest n s r none few =
    let all = all_read objects bytes rest n s r none in
    record {
      s = s;
      parts = subst (λ (ls : List (List ℕ)). AreParts objects ls s) all r.read;
      none = no_tasks s.tasks few;
      past = ap (λ (m : ℕ). m + 1) (sym r.counted ∙ ap length all);
    }

-- ---- the line that is refused

no_more : (objects : Bool) (ls : List (List ℕ)) (s : SystemParts) (l : List ℕ) (n : ℕ) → AreParts objects ls s → n ≡ length ls + 1 → IsBad objects s l n → AreGood objects (ls ++ l ∷ []) → ⊥
no_more objects ls s l n h number bad g =
    let k = last objects ls s l n g.0 h number g.1 in
    (bad k.kind (system_line_is l k.kind k.is)).1 (subst IsWithinLimits k.with_it g.1.limits)

same_first : (a b : List ℕ) (xs bs ls : List (List ℕ)) → ls ≡ a ∷ xs → ls ≡ b ∷ bs → a ≡ b
same_first a b xs bs ls e k = cc

pub finds_bad : (objects : Bool) (bytes rest : List ℕ) (n : ℕ) (s : SystemParts) → IsRead objects bytes rest n s → 1 ≤ length rest → IsBad objects s (first_line rest) (n + 1) → BreaksRule objects bytes (n + 1)
finds_bad objects bytes rest n s r some bad =
    let left = r.left ∙ first_of_lines rest some in
    let t = takes_next n (lines bytes) (first_line rest) (lines (after_line rest)) left in
    let back : n + 1 - 1 ≡ n = omega arith in
    let taken : take (n + 1) (lines bytes) ≡ take n (lines bytes) ++ first_line rest ∷ [] = rw add-one t.taken in
    let number : n + 1 ≡ length (take n (lines bytes)) + 1 = ap (λ (m : ℕ). m + 1) (sym r.counted) in
    record {
      first = record {
        before = rw back (s, r.read);
        with_it = λ g. no_more objects (take n (lines bytes)) s (first_line rest) (n + 1) r.read number bad (subst (AreGood objects) taken g);
      };
      no_object = λ o.
          let at : drop n (lines bytes) ≡ o.object.line ∷ o.object.after = rw back at o.object.at in
          let same = same_first (first_line rest) o.object.line (lines (after_line rest)) o.object.after (drop n (lines bytes)) left at in
          let object = subst (λ (l : List ℕ). IsSystemLine l (Object o.object.file)) (sym same) o.object.object in
          true_false objects (bad (Object o.object.file) (system_line_is (first_line rest) (Object o.object.file) object)).0 o.refused;
    }

pub finds_object : (objects : Bool) (bytes rest file : List ℕ) (n : ℕ) (s : SystemParts) → IsRead objects bytes rest n s → 1 ≤ length rest → objects ≡ false → system_line (first_line rest) ≡ Some (Object file) → IsObjectLine objects bytes (n + 1)
finds_object objects bytes rest file n s r some refused is =
    let back : n + 1 - 1 ≡ n = omega arith in
    record {
      refused = refused;
      before = rw back (s, r.read);
      object = record {
        line = first_line rest;
        file = file;
        after = lines (after_line rest);
        at = rw back (r.left ∙ first_of_lines rest some);
        object = system_line_means (first_line rest) (Object file) is;
        counted = omega arith;
      };
    }

refuses_first : (objects : Bool) (bytes rest : List ℕ) (n : ℕ) (s : SystemParts) (f : LineFault) → IsRead objects bytes rest n s → 1 ≤ length rest → Refuses objects s (first_line rest) (n + 1) f → RefusesSystem objects bytes f
refuses_first objects bytes rest n s Memory r some bad = tt
refuses_first objects bytes rest n s (BadLine m) r some bad = subst (λ (k : ℕ). IsBadSystemLine objects bytes k) (sym bad.0) (inl (finds_bad objects bytes rest n s r some bad.1))
refuses_first objects bytes rest n s (ObjectLine m) r some bad = subst (λ (k : ℕ). IsObjectLine objects bytes k) (sym bad.0) (finds_object objects bytes rest bad.2.0 n s r some bad.1 bad.2.1)

pub refuses : (objects : Bool) (bytes rest line : List ℕ) (n : ℕ) (s : SystemParts) (f : LineFault) → IsRead objects bytes rest n s → 1 ≤ length rest → line ≡ first_line rest → Refuses objects s line (n + 1) f → RefusesSystem objects bytes f
refuses objects bytes rest line n s f r some is bad = refuses_first objects bytes rest n s f r some (subst (λ (l : List ℕ). Refuses objects s l (n + 1) f) is bad)

-- ---- one reading

taken_object : (objects : Bool) (k : Line) (file : List ℕ) → k ≡ Object file → AllByRecursion (IsTaken objects) (entries_of k) → objects ≡ true
taken_object objects k file e h = (subst (λ (m : Line). AllByRecursion (IsTaken objects) (entries_of m)) e h).0

object_with : (objects : Bool) (bytes : List ℕ) (m : ℕ) (s : SystemParts) (l file : List ℕ) (after : List (List ℕ)) → AreParts objects (take m (lines bytes)) s → drop m (lines bytes) ≡ l ∷ after → IsSystemLine l (Object file) → AreGood objects (take (suc m) (lines bytes)) → objects ≡ true
object_with objects bytes m s l file after h at is g =
    let t = takes_next m (lines bytes) l after at in
    let k = last objects (take m (lines bytes)) s l (length (take m (lines bytes)) + 1) g.0 h refl (subst (λ (ls : List (List ℕ)). AreParts objects ls g.0) t.taken g.1) in
    taken_object objects k.kind file (one_system_line l k.kind (Object file) k.is is) k.taken

object_first : (objects : Bool) (bytes : List ℕ) (n : ℕ) → IsObjectLine objects bytes n → IsFirstBad (AreGood objects) bytes n
object_first objects bytes zero h = let counted = h.object.counted in absurd (omega arith)
object_first objects bytes (suc m) h =
    let back : suc m - 1 ≡ m = omega arith in
    let before : AreGood objects (take m (lines bytes)) = rw back at h.before in
    let at : drop m (lines bytes) ≡ h.object.line ∷ h.object.after = rw back at h.object.at in
    record {
      before = h.before;
      with_it = λ g. true_false objects (object_with objects bytes m before.0 h.object.line h.object.file h.object.after before.1 at h.object.object g) h.refused;
    }

no_system : (objects : Bool) (bytes : List ℕ) (n : ℕ) (s : SystemParts) → AreParts objects (lines bytes) s → IsFirstBad (AreGood objects) bytes n → ⊥
no_system objects bytes n s h bad = none_bad (AreGood objects) (fronts objects) bytes n (s, h) bad

some_none : (objects : Bool) (bytes : List ℕ) (n : ℕ) (s : SystemParts) → IsSystem objects bytes s → LacksTask objects bytes n → ⊥
some_none objects bytes n s h k =
    let same = one_parts objects (lines bytes) s k.s h.parts k.parts in
    let some = h.some_task in
    omega (arith, ap (λ (p : SystemParts). length p.tasks) same, ap length k.none)

system_bad : (objects : Bool) (bytes : List ℕ) (n : ℕ) (s : SystemParts) → IsSystem objects bytes s → IsBadSystemLine objects bytes n → ⊥
system_bad objects bytes n s h (inl k) = no_system objects bytes n s h.parts k.first
system_bad objects bytes n s h (inr k) = some_none objects bytes n s h k

bad_bad : (objects : Bool) (bytes : List ℕ) (n m : ℕ) → IsBadSystemLine objects bytes n → IsBadSystemLine objects bytes m → n ≡ m
bad_bad objects bytes n m (inl h) (inl k) = one_bad (AreGood objects) (fronts objects) bytes n m h.first k.first
bad_bad objects bytes n m (inl h) (inr k) = absurd (no_system objects bytes n k.s k.parts h.first)
bad_bad objects bytes n m (inr h) (inl k) = absurd (no_system objects bytes m h.s h.parts k.first)
bad_bad objects bytes n m (inr h) (inr k) = h.past ∙ sym k.past

bad_object : (objects : Bool) (bytes : List ℕ) (n m : ℕ) → IsBadSystemLine objects bytes n → IsObjectLine objects bytes m → ⊥
bad_object objects bytes n m (inl h) k =
    let same = one_bad (AreGood objects) (fronts objects) bytes n m h.first (object_first objects bytes m k) in
    h.no_object (subst (λ (i : ℕ). IsObjectLine objects bytes i) (sym same) k)
bad_object objects bytes n m (inr h) k = no_system objects bytes m h.s h.parts (object_first objects bytes m k)

pub one_reading : (objects : Bool) (bytes : List ℕ) (r q : Reading) → Reads objects bytes r → Reads objects bytes q → r ≡ q
one_reading objects bytes (laws.System s) (laws.System t) h k = ap (λ (p : SystemParts). laws.System p) (one_parts objects (lines bytes) s t h.parts k.parts)
one_reading objects bytes (laws.System s) (laws.Bad n) h k = absurd (system_bad objects bytes n s h k)
one_reading objects bytes (laws.System s) (laws.Object n) h k = absurd (no_system objects bytes n s h.parts (object_first objects bytes n k))
one_reading objects bytes (laws.Bad n) (laws.System s) h k = absurd (system_bad objects bytes n s k h)
one_reading objects bytes (laws.Bad n) (laws.Bad m) h k = ap (λ (i : ℕ). laws.Bad i) (bad_bad objects bytes n m h k)
one_reading objects bytes (laws.Bad n) (laws.Object m) h k = absurd (bad_object objects bytes n m h k)
one_reading objects bytes (laws.Object n) (laws.System s) h k = absurd (no_system objects bytes n s k.parts (object_first objects bytes n h))
one_reading objects bytes (laws.Object n) (laws.Bad m) h k = absurd (bad_object objects bytes m n k h)
one_reading objects bytes (laws.Object n) (laws.Object m) h k =
    ap (λ (i : ℕ). laws.Object i) (one_bad (AreGood objects) (fronts objects) bytes n m (object_first objects bytes n h) (object_first objects bytes m k))

-- the answer of a reading
abbrev pub answer : Reading → Result SystemParts LineFault
answer (laws.System s) = Ok s
answer (laws.Bad n) = Err (BadLine n)
answer (laws.Object n) = Err (ObjectLine n)

pub only : (objects : Bool) (bytes : List ℕ) (r : Result SystemParts LineFault) → IfOk r (IsSystem objects bytes) → IfErr r (RefusesSystem objects bytes) → (q : Reading) → Reads objects bytes q → (r ≡ answer q) ⊎ (r ≡ Err Memory)
only objects bytes (Ok s) ok err q is = inl (ap answer (one_reading objects bytes (laws.System s) q ok is))
only objects bytes (Err Memory) ok err q is = inr refl
only objects bytes (Err (BadLine n)) ok err q is = inl (ap answer (one_reading objects bytes (laws.Bad n) q err is))
only objects bytes (Err (ObjectLine n)) ok err q is = inl (ap answer (one_reading objects bytes (laws.Object n) q err is))
