-- The limits and ranges of a system.
use Rattle.std.proofs.Common.{◌≡◌, ◌≢◌, ℕ, ◌+◌, ◌-◌, ◌*◌, ◌≤◌, ◌<◌, Bool, true, false, not, ◌||◌, cond, nat_lt, List, [], ◌∷◌, ◌++◌, length, map, fold, refl, sym, ap, subst, ◌∙◌, arith}
use Rattle.std.specs.Prelude.{count_by, flat_map}
use Rattle.std.specs.List.{AllByRecursion, list_any}
use Rattle.std.specs.Str.{bytes_eq}
use Rattle.std.proofs.lemmas.Bool.Decides.{nat_tests}
use Rattle.std.proofs.lemmas.List.{length-append, length-map, append-nil}
use Rattle.std.proofs.lemmas.List.Sums.{sum_by-append}
use Rattle.rt_words.specs.Named.{IsNameLength}
use Rattle.rt_pieces.specs.Bytes.{Each, upper, is_letter, is_letter_or_digit}
use Rattle.rt_pieces.specs.Pieces.{IsName}
use Rattle.rt_system.specs.Lines.{Say}
use Rattle.rt_system.specs.Numbers.{IsPlainNumber}
use Rattle.rt_system.specs.Fields.{IsNamed}
use Rattle.rt_system.specs.SystemRanges.{is_library, AreDifferent, IsWithinLimits, HasFile, HasTaskRanges, HasSystemRanges}
use Rattle.rt_system.specs.Systems.{TaskWords, Line, Blank, Module, Object, Library, Task, IsSystemLine, entries_of, tasks_of, tasks_from, AreParts}
use Rattle.rt_system.specs.ReadingSystems.{has_task, has_room, with_line, HasNames}
use Rattle.rt_system.specs.declared.parts.Entry.{Entry}
use Rattle.rt_system.specs.declared.parts.Entry.TheVariants as entry
use Rattle.rt_system.specs.declared.parts.Task as parts
use Rattle.rt_system.specs.declared.parts.SystemParts.{SystemParts}
use Rattle.rt_system.proofs.Tests.{and_parts, and_both, true_false}
use Rattle.rt_system.proofs.Words.{same_is, other_word}

-- ---- lists

pub all_front : {X : Type 0} (P : X → Type 0) (a b : List X) → AllByRecursion P (a ++ b) → AllByRecursion P a
all_front P [] b h = tt
all_front P (x ∷ a) b h = (h.0, all_front P a b h.1)

pub all_back : {X : Type 0} (P : X → Type 0) (a b : List X) → AllByRecursion P (a ++ b) → AllByRecursion P b
all_back P [] b h = h
all_back P (x ∷ a) b h = all_back P a b h.1

pub all_append : {X : Type 0} (P : X → Type 0) (a b : List X) → AllByRecursion P a → AllByRecursion P b → AllByRecursion P (a ++ b)
all_append P [] b h k = k
all_append P (x ∷ a) b h k = (h.0, all_append P a b h.1 k)

different_front : (xs ys : List (List ℕ)) → AreDifferent (xs ++ ys) → AreDifferent xs
different_front [] ys h = tt
different_front (x ∷ xs) ys h = (all_front (λ (other : List ℕ). x ≢ other) xs ys h.0, different_front xs ys h.1)

different_more : (xs : List (List ℕ)) (y : List ℕ) → AreDifferent xs → AllByRecursion (λ (x : List ℕ). x ≢ y) xs → AreDifferent (xs ++ y ∷ [])
different_more [] y h k = (tt, tt)
different_more (x ∷ xs) y h k = (all_append (λ (other : List ℕ). x ≢ other) xs (y ∷ []) h.0 (k.0, tt), different_more xs y h.1 k.1)

different_last : (xs : List (List ℕ)) (y : List ℕ) → AreDifferent (xs ++ y ∷ []) → AllByRecursion (λ (x : List ℕ). x ≢ y) xs
different_last [] y h = tt
different_last (x ∷ xs) y h = ((all_back (λ (other : List ℕ). x ≢ other) xs (y ∷ []) h.0).0, different_last xs y h.1)

-- ---- names of tasks

abbrev names_of : List parts.Task → List (List ℕ)
names_of ts = map (λ (t : parts.Task). t.name) ts

names_append : (a b : List parts.Task) → names_of (a ++ b) ≡ names_of a ++ names_of b
names_append [] b = refl
names_append (t ∷ a) b = ap (λ (ns : List (List ℕ)). t.name ∷ ns) (names_append a b)

abbrev among : List parts.Task → List ℕ → Bool
among ts name = list_any (λ (t : parts.Task). bytes_eq t.name name) ts

or_parts : (a b : Bool) → (a || b) ≡ false → (a ≡ false) × (b ≡ false)
or_parts true b h = absurd cc
or_parts false b h = (refl, h)

or_false : (a b : Bool) → a ≡ false → b ≡ false → (a || b) ≡ false
or_false a b h k = rw (h, k) refl

not_same : (a b : List ℕ) → bytes_eq a b ≡ false → a ≢ b
not_same a b h e = true_false (bytes_eq a b) (same_is a b e) h

none_among : (ts : List parts.Task) (name : List ℕ) → among ts name ≡ false → AllByRecursion (λ (x : List ℕ). x ≢ name) (names_of ts)
none_among [] name h = tt
none_among (t ∷ ts) name h = let k = or_parts (bytes_eq t.name name) (among ts name) h in (not_same t.name name k.0, none_among ts name k.1)

among_none : (ts : List parts.Task) (name : List ℕ) → AllByRecursion (λ (x : List ℕ). x ≢ name) (names_of ts) → among ts name ≡ false
among_none [] name h = refl
among_none (t ∷ ts) name h = or_false (bytes_eq t.name name) (among ts name) (other_word t.name name h.0) (among_none ts name h.1)

-- ---- the library

abbrev libraries : List Entry → ℕ
libraries es = count_by is_library es

libraries_append : (a b : List Entry) → libraries (a ++ b) ≡ libraries a + libraries b
libraries_append a b = sum_by-append (λ (e : Entry). cond (is_library e) 1 0) a b

libraries_cons : (e : Entry) (es : List Entry) → libraries (e ∷ es) ≡ cond (is_library e) 1 0 + libraries es
libraries_cons e es = libraries_append (e ∷ []) es ∙ ap (λ (n : ℕ). n + libraries es) (first (cond (is_library e) 1 0))
  where
    first : (n : ℕ) → 0 + n ≡ n
    first n = omega arith

count_none : (b : Bool) (n : ℕ) → b ≡ false → n ≡ 0 → cond b 1 0 + n ≡ 0
count_none b n h k = rw (h, k) refl

no_library : (es : List Entry) → list_any is_library es ≡ false → libraries es ≡ 0
no_library [] h = refl
no_library (e ∷ es) h = let k = or_parts (is_library e) (list_any is_library es) h in libraries_cons e es ∙ count_none (is_library e) (libraries es) k.0 (no_library es k.1)

library_none : (es : List Entry) → libraries es ≡ 0 → list_any is_library es ≡ false
library_none [] h = refl
library_none (e ∷ es) h =
    let k = sym (libraries_cons e es) ∙ h in
    or_false (is_library e) (list_any is_library es) (none_by (is_library e) (libraries es) k) (library_none es (rest_by (is_library e) (libraries es) k))
  where
    none_by : (b : Bool) (n : ℕ) → cond b 1 0 + n ≡ 0 → b ≡ false
    none_by true n k = absurd (omega arith)
    none_by false n k = refl

    rest_by : (b : Bool) (n : ℕ) → cond b 1 0 + n ≡ 0 → n ≡ 0
    rest_by true n k = absurd (omega arith)
    rest_by false n k = omega arith

-- ---- what is within the limits

pub limits_front : (s : SystemParts) (a b : List Entry) (c d : List parts.Task) → s.entries ≡ a ++ b → s.tasks ≡ c ++ d → IsWithinLimits s → IsWithinLimits (record { entries = a; tasks = c })
limits_front s a b c d e k h =
    let few = h.few_entries in
    let one = h.one_library in
    let tasks = h.few_tasks in
    record {
      few_entries = omega (arith, ap length e, length-append a b);
      one_library = omega (arith, ap libraries e, libraries_append a b);
      few_tasks = omega (arith, ap length k, length-append c d);
      different = different_front (names_of c) (names_of d) (subst AreDifferent (ap names_of k ∙ names_append c d) h.different);
    }

lt_means : (n m : ℕ) → nat_lt n m ≡ true → n < m
lt_means n m h = grind (arith, nat_tests)

lt_is : (n m : ℕ) → n < m → nat_lt n m ≡ true
lt_is n m h = grind (arith, nat_tests)

not_means : (b : Bool) → not b ≡ true → b ≡ false
not_means true h = absurd cc
not_means false h = refl

not_is : (b : Bool) → b ≡ false → not b ≡ true
not_is b h = rw h refl

names_kept : (ts : List parts.Task) → AreDifferent (names_of ts) → AreDifferent (names_of (ts ++ []))
names_kept ts h = subst (λ (t : List parts.Task). AreDifferent (names_of t)) (sym (append-nil ts)) h

-- one entry more
entry_fits : (n : ℕ) (s : SystemParts) (k : Line) (e : Entry) → entries_of k ≡ e ∷ [] → tasks_of n k ≡ [] → length s.entries < 64 → libraries s.entries + libraries (e ∷ []) ≤ 1 → IsWithinLimits s → IsWithinLimits (with_line n s k)
entry_fits n s k e is none few one h =
    let tasks = h.few_tasks in
    rw (is, none) (record {
      few_entries = omega (arith, length-append s.entries (e ∷ []));
      one_library = omega (arith, libraries_append s.entries (e ∷ []));
      few_tasks = omega (arith, length-append {A = parts.Task} s.tasks []);
      different = names_kept s.tasks h.different;
    })

blank_fits : (n : ℕ) (s : SystemParts) → IsWithinLimits s → IsWithinLimits (with_line n s Blank)
blank_fits n s h =
    let few = h.few_entries in
    let one = h.one_library in
    let tasks = h.few_tasks in
    record {
      few_entries = omega (arith, length-append {A = Entry} s.entries []);
      one_library = omega (arith, libraries_append s.entries []);
      few_tasks = omega (arith, length-append {A = parts.Task} s.tasks []);
      different = names_kept s.tasks h.different;
    }

task_fits : (n : ℕ) (s : SystemParts) (t : TaskWords) → length s.tasks < 32 → has_task s t.name ≡ false → IsWithinLimits s → IsWithinLimits (with_line n s (Task t))
task_fits n s t few other h =
    let entries = h.few_entries in
    let one = h.one_library in
    let more = tasks_of n (Task t) in
    record {
      few_entries = omega (arith, length-append {A = Entry} s.entries []);
      one_library = omega (arith, libraries_append s.entries []);
      few_tasks = omega (arith, length-append s.tasks more);
      different = subst AreDifferent (sym (names_append s.tasks more)) (different_more (names_of s.tasks) t.name h.different (none_among s.tasks t.name other));
    }

pub room_means : (n : ℕ) (s : SystemParts) (k : Line) → IsWithinLimits s → has_room s k ≡ true → IsWithinLimits (with_line n s k)
room_means n s Blank h room = blank_fits n s h
room_means n s (Module file) h room =
    let few = lt_means (length s.entries) 64 room in
    let one = h.one_library in
    entry_fits n s (Module file) (entry.Module file) refl refl few (omega arith) h
room_means n s (Object file) h room =
    let few = lt_means (length s.entries) 64 room in
    let one = h.one_library in
    entry_fits n s (Object file) (entry.Object file) refl refl few (omega arith) h
room_means n s Library h room =
    let k = and_parts (nat_lt (length s.entries) 64) (not (list_any is_library s.entries)) room in
    let none = no_library s.entries (not_means (list_any is_library s.entries) k.1) in
    entry_fits n s Library entry.Library refl refl (lt_means (length s.entries) 64 k.0) (omega arith) h
room_means n s (Task t) h room =
    let k = and_parts (nat_lt (length s.tasks) 32) (not (has_task s t.name)) room in
    task_fits n s t (lt_means (length s.tasks) 32 k.0) (not_means (has_task s t.name) k.1) h

pub room_is : (n : ℕ) (s : SystemParts) (k : Line) → IsWithinLimits (with_line n s k) → has_room s k ≡ true
room_is n s Blank h = refl
room_is n s (Module file) h = let few = h.few_entries in lt_is (length s.entries) 64 (omega (arith, length-append s.entries (entry.Module file ∷ [])))
room_is n s (Object file) h = let few = h.few_entries in lt_is (length s.entries) 64 (omega (arith, length-append s.entries (entry.Object file ∷ [])))
room_is n s Library h =
    let few = h.few_entries in
    let one = h.one_library in
    let none : libraries s.entries ≡ 0 = omega (arith, libraries_append s.entries (entry.Library ∷ [])) in
    and_both (nat_lt (length s.entries) 64) (not (list_any is_library s.entries)) (lt_is (length s.entries) 64 (omega (arith, length-append s.entries (entry.Library ∷ []))))
    (not_is (list_any is_library s.entries) (library_none s.entries none))
room_is n s (Task t) h =
    let few = h.few_tasks in
    let more = tasks_of n (Task t) in
    let other = different_last (names_of s.tasks) t.name (subst AreDifferent (names_append s.tasks more) h.different) in
    and_both (nat_lt (length s.tasks) 32) (not (has_task s t.name)) (lt_is (length s.tasks) 32 (omega (arith, length-append s.tasks more))) (not_is (has_task s t.name) (among_none s.tasks t.name other))

-- ---- the ranges

upper_letter : (c : ℕ) → is_letter c ≡ true → is_letter (upper c) ≡ true
upper_letter c h = grind (arith, nat_tests)

upper_letter_or_digit : (c : ℕ) → is_letter_or_digit c ≡ true → is_letter_or_digit (upper c) ≡ true
upper_letter_or_digit c h = grind (arith, nat_tests)

upper_upper : (c : ℕ) → upper (upper c) ≡ upper c
upper_upper c = grind (arith, nat_tests)

each_upper : (t : List ℕ) → Each is_letter_or_digit t → Each is_letter_or_digit (map upper t)
each_upper [] h = tt
each_upper (c ∷ cs) h = (upper_letter_or_digit c h.0, each_upper cs h.1)

all_upper : (t : List ℕ) → map upper t ≡ map upper (map upper t)
all_upper [] = refl
all_upper (c ∷ cs) = let first = upper_upper c in let rest = all_upper cs in cc

upper_form : (t : List ℕ) → IsName t [] → IsName (map upper t) []
upper_form [] h = absurd h
upper_form (c ∷ cs) h = (upper_letter c h.0, each_upper cs h.1, tt)

-- a name is read as itself
named_upper : (t name : List ℕ) → IsNamed t name → IsNamed name name
named_upper t name h =
    let short = h.short in
    record {
      form = subst (λ (n : List ℕ). IsName n []) (sym h.upper_case) (upper_form t h.form);
      short = omega (arith, ap length h.upper_case, length-map t upper);
      upper_case = h.upper_case ∙ all_upper t ∙ ap (map upper) (sym h.upper_case);
      free = h.free;
    }

name_some : (t : List ℕ) → IsName t [] → 1 ≤ length t
name_some [] h = absurd h
name_some (c ∷ cs) h = omega arith

named_length : (t name : List ℕ) → IsNamed t name → IsNameLength (length name)
named_length t name h =
    let short = h.short in
    let some = name_some t h.form in
    (omega (arith, ap length h.upper_case, length-map t upper), omega (arith, ap length h.upper_case, length-map t upper))

pub has_names : (l : List ℕ) (k : Line) → IsSystemLine l k → HasNames k
has_names l Blank h = tt
has_names l (Module file) h = tt
has_names l (Object file) h = tt
has_names l Library h = tt
has_names l (Task t) h = (named_length h.name t.name h.name_is, (named_length h.root t.root h.root_is, named_length h.stack t.stack h.stack_is))

abbrev with_digit : ℕ → ℕ → ℕ
with_digit n c = 10 * n + (c - 48)

value_grows : (t : List ℕ) (a b : ℕ) → b ≤ a → b ≤ fold with_digit a t
value_grows [] a b h = h
value_grows (c ∷ cs) a b h = value_grows cs (with_digit a c) b (omega arith)

plain_least : (t : List ℕ) (n : ℕ) → IsPlainNumber t n → 1 ≤ n
plain_least [] n h = let some : 1 ≤ length {A = ℕ} [] = h.number.some in absurd (omega arith)
plain_least (c ∷ cs) n h =
    let plain = h.plain in
    let digit = h.number.digits.0 in
    let first : 1 ≤ with_digit 0 c = grind (arith, nat_tests) in
    subst (λ (v : ℕ). 1 ≤ v) h.number.value (value_grows cs (with_digit 0 c) 1 first)

line_files : (l : List ℕ) (k : Line) → IsSystemLine l k → AllByRecursion HasFile (entries_of k)
line_files l Blank h = tt
line_files l (Module file) h = (h.1, tt)
line_files l (Object file) h = (h.1, tt)
line_files l Library h = (tt, tt)
line_files l (Task t) h = tt

line_tasks : (n : ℕ) (l : List ℕ) (k : Line) → IsSystemLine l k → AllByRecursion HasTaskRanges (tasks_of n k)
line_tasks n l Blank h = tt
line_tasks n l (Module file) h = tt
line_tasks n l (Object file) h = tt
line_tasks n l Library h = tt
line_tasks n l (Task t) h =
    let task : parts.Task = record { name = t.name; root = t.root; stack = t.stack; priority = t.priority; line = n } in
    let ranges : HasTaskRanges task = record {
      name = named_upper h.name t.name h.name_is;
      root = named_upper h.root t.root h.root_is;
      stack = named_upper h.stack t.stack h.stack_is;
      least = plain_least h.priority t.priority h.priority_is.number;
      most = h.priority_is.most;
    } in (ranges, tt)

files : (ls : List (List ℕ)) (ks : List Line) → Say IsSystemLine ls ks → AllByRecursion HasFile (flat_map entries_of ks)
files [] [] h = tt
files [] (k ∷ ks) h = absurd h
files (l ∷ ls) [] h = absurd h
files (l ∷ ls) (k ∷ ks) h = all_append HasFile (entries_of k) (flat_map entries_of ks) (line_files l k h.0) (files ls ks h.1)

tasks : (n : ℕ) (ls : List (List ℕ)) (ks : List Line) → Say IsSystemLine ls ks → AllByRecursion HasTaskRanges (tasks_from n ks)
tasks n [] [] h = tt
tasks n [] (k ∷ ks) h = absurd h
tasks n (l ∷ ls) [] h = absurd h
tasks n (l ∷ ls) (k ∷ ks) h = all_append HasTaskRanges (tasks_of n k) (tasks_from (n + 1) ks) (line_tasks n l k h.0) (tasks (n + 1) ls ks h.1)

pub ranges : (objects : Bool) (ls : List (List ℕ)) (s : SystemParts) → AreParts objects ls s → 1 ≤ length s.tasks → HasSystemRanges s
ranges objects ls s h some = record {
  limits = h.limits;
  files = subst (λ (es : List Entry). AllByRecursion HasFile es) (sym h.entries) (files ls h.kinds h.each);
  some_task = some;
  each_task = subst (λ (ts : List parts.Task). AllByRecursion HasTaskRanges ts) (sym h.tasks) (tasks 1 ls h.kinds h.each);
}
