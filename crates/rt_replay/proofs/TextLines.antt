-- The lines of a text that was printed line by line.
use Rattle.std.proofs.Common.{◌≡◌, ℕ, suc, ◌+◌, ◌-◌, ◌/◌, ◌%◌, ◌≤◌, Bool, true, false, eqb, ltb, List, [], ◌∷◌, ◌++◌, length, take, drop, map, codes, decimal, append_assoc, append-nil, refl, sym, ap, subst, ◌∙◌, add-one, arith}
use Rattle.std.specs.List.{AllByRecursion, prefix_len}
use Rattle.std.proofs.lemmas.Bool.Decides.{nat_tests}
use Rattle.std.proofs.lemmas.List.{length-append, length-take, length-drop, take-append-drop}
use Rattle.pdp_core.specs.declared.cpu.Kind.{Kind}
use Rattle.pdp_core.specs.declared.cpu.Kind.TheVariants as kind
use Rattle.rt_words.specs.Operators.{octal6}
use Rattle.rt_rules.specs.declared.task.State.{State}
use Rattle.rt_rules.specs.declared.task.State.TheVariants as state
use Rattle.rt_pieces.specs.Bytes.{Each, Ends}
use Rattle.rt_report.specs.Faults.{kind_text}
use Rattle.rt_report.specs.Lines.{behind, line, lines}
use Rattle.rt_report.specs.Reports.{signed_text, task_words}
use Rattle.rt_system.specs.Reading.{is_inside, inside, is_digit, after_line}
use Rattle.rt_system.proofs.Runs.{run_sound, list_each}
use Rattle.rt_system.proofs.Says.{takes_next, takes_all}
use Rattle.rt_replay.specs.Texts.{lines_of}
use Rattle.rt_replay.specs.Reading.{first_line}
use Rattle.rt_replay.specs.Reports.{Line, Status, Instructions, Steps, Task, Ticks, Tick, MachineFault, InputFault, OutputFault, words, printed, HasTaskRange, HasStateRange, IsReportName, IsInsideName}
use Rattle.rt_replay.proofs.Pieces.{less_differs, other_byte}
use Rattle.rt_replay.proofs.DecimalReads.{digits_are, signed_low, signed_high}

no_feed : (c : ℕ) → is_inside c ≡ true → eqb c 10 ≡ false
no_feed c h = grind (arith, nat_tests)

lines_of_line : (body rest : List ℕ) → Each is_inside body → lines_of (body ++ 10 ∷ rest) ≡ (body ++ 10 ∷ []) ∷ lines_of rest
unfolding lines_of
lines_of_line [] rest h = refl
lines_of_line (c ∷ body) rest h = rw (no_feed c h.0, lines_of_line body rest h.1) refl

lines_of_open : (text : List ℕ) → Each is_inside text → lines_of text ≡ text ∷ []
unfolding lines_of
lines_of_open [] h = refl
lines_of_open (c ∷ cs) h = rw (no_feed c h.0, lines_of_open cs h.1) refl

pub no_lines : lines_of [] ≡ [] ∷ []
unfolding lines_of
no_lines = refl

-- ---- the first line

pub record IsFirstLine (text line after : List ℕ) : Type 0 where
  pub parts : text ≡ line ++ after
  pub more : List (List ℕ)
  pub head : lines_of text ≡ line ∷ more
  pub some : 1 ≤ length line

empty_of : (l : List ℕ) → length l ≡ 0 → l ≡ []
empty_of [] h = refl
empty_of (c ∷ cs) h = absurd (omega (arith, h))

same_number : (n m : ℕ) → n ≤ m → m ≤ n → eqb n m ≡ true
same_number n m h k = grind (arith, nat_tests)

feed_is : (c : ℕ) → is_inside c ≡ false → c ≡ 10
feed_is c h = grind (arith, nat_tests)

first_is_all : (text : List ℕ) → eqb (inside text) (length text) ≡ true → first_line text ≡ text
unfolding first_line
first_is_all text h = rw h refl

first_is_front : (text a : List ℕ) → eqb (inside text) (length text) ≡ false → take (inside text + 1) text ≡ a → first_line text ≡ a
unfolding first_line
first_is_front text a h e = rw h e

after_is : (text a : List ℕ) → drop (inside text + 1) text ≡ a → after_line text ≡ a
unfolding after_line
after_is text a e = e

is_first : (text line after : List ℕ) → first_line text ≡ line → after_line text ≡ after → IsFirstLine text line after → IsFirstLine text (first_line text) (after_line text)
is_first text line after e f h =
    subst (λ (l : List ℕ). IsFirstLine text l (after_line text)) (sym e) (subst (λ (a : List ℕ). IsFirstLine text line a) (sym f) h)

inside_within : (text : List ℕ) → inside text ≤ length text
inside_within text = omega (arith, length-take (prefix_len is_inside text) text)

first_by : (text b : List ℕ) → 1 ≤ length text → drop (inside text) text ≡ b → Ends is_inside b → Each is_inside (take (inside text) text) → IsFirstLine text (first_line text) (after_line text)
first_by text [] some e ends each =
    let n = inside text in
    let le : n ≤ length text = inside_within text in
    let long : length text ≤ n = omega (arith, length-drop n text, ap length e) in
    let none : drop (n + 1) text ≡ [] = empty_of (drop (n + 1) text) (omega (arith, length-drop (n + 1) text, long)) in
    let whole : IsFirstLine text text [] = record {
      parts = sym (append-nil text);
      more = [];
      head = lines_of_open text (subst (λ (t : List ℕ). Each is_inside t) (takes_all n text e) each);
      some = some;
    } in
    is_first text text [] (first_is_all text (same_number n (length text) le long)) (after_is text [] none) whole
first_by text (c ∷ cs) some e ends each =
    let n = inside text in
    let t = takes_next n text c cs e in
    let a = take n text in
    let feed : c ≡ 10 = feed_is c ends in
    let long : suc n ≤ length text = omega (arith, length-drop n text, ap length e) in
    let front : take (n + 1) text ≡ a ++ 10 ∷ [] = rw add-one (t.taken ∙ ap (λ (x : ℕ). a ++ x ∷ []) feed) in
    let left : drop (n + 1) text ≡ cs = rw add-one t.left in
    let parts : text ≡ a ++ 10 ∷ cs = sym (take-append-drop n text) ∙ ap (λ (x : List ℕ). a ++ x) e ∙ ap (λ (x : ℕ). a ++ x ∷ cs) feed in
    let whole : IsFirstLine text (a ++ 10 ∷ []) cs = record {
      parts = parts ∙ sym (append_assoc a (10 ∷ []) cs);
      more = lines_of cs;
      head = ap lines_of parts ∙ lines_of_line a cs each;
      some = omega (arith, length-append a (10 ∷ []));
    } in
    is_first text (a ++ 10 ∷ []) cs (first_is_front text (a ++ 10 ∷ []) (less_differs n (length text) long) front) (after_is text cs left) whole

pub first_is : (text : List ℕ) → 1 ≤ length text → IsFirstLine text (first_line text) (after_line text)
first_is text some =
    let n = inside text in
    let r = run_sound is_inside text (take n text) (drop n text) refl in
    first_by text (drop n text) some refl r.ends r.each

-- ---- lines without line feeds inside

-- each word behind a space
abbrev after_words : List (List ℕ) → List ℕ
after_words [] = []
after_words (w ∷ ws) = 32 ∷ (w ++ after_words ws)

-- words with one space between them
abbrev spaced : List (List ℕ) → List ℕ
spaced [] = []
spaced (w ∷ ws) = w ++ after_words ws

behind_parts : (ws : List (List ℕ)) → behind ws ≡ after_words ws ++ 10 ∷ []
behind_parts [] = refl
behind_parts (w ∷ ws) = ap (λ (t : List ℕ). 32 ∷ t) (ap (λ (t : List ℕ). w ++ t) (behind_parts ws) ∙ sym (append_assoc w (after_words ws) (10 ∷ [])))

line_parts : (ws : List (List ℕ)) → line ws ≡ spaced ws ++ 10 ∷ []
line_parts [] = refl
line_parts (w ∷ ws) = ap (λ (t : List ℕ). w ++ t) (behind_parts ws) ∙ sym (append_assoc w (after_words ws) (10 ∷ []))

each_append : (p : ℕ → Bool) (a b : List ℕ) → Each p a → Each p b → Each p (a ++ b)
each_append p [] b h k = k
each_append p (c ∷ a) b h k = (h.0, each_append p a b h.1 k)

abbrev IsInside : List ℕ → Type 0
IsInside = Each is_inside

after_inside : (ws : List (List ℕ)) → AllByRecursion IsInside ws → IsInside (after_words ws)
after_inside [] h = tt
after_inside (w ∷ ws) h = (refl, each_append is_inside w (after_words ws) h.0 (after_inside ws h.1))

spaced_inside : (ws : List (List ℕ)) → AllByRecursion IsInside ws → IsInside (spaced ws)
spaced_inside [] h = tt
spaced_inside (w ∷ ws) h = each_append is_inside w (after_words ws) h.0 (after_inside ws h.1)

-- ---- the words of lines

digit_inside : (c : ℕ) → is_digit c ≡ true → is_inside c ≡ true
digit_inside c h = grind (arith, nat_tests)

digits_inside : (text : List ℕ) → Each is_digit text → IsInside text
digits_inside [] h = tt
digits_inside (c ∷ cs) h = (digit_inside c h.0, digits_inside cs h.1)

number_inside : (n : ℕ) → n ≤ 8000000000 → IsInside (decimal n)
number_inside n h = digits_inside (decimal n) (list_each is_digit (decimal n) (digits_are n (omega (arith, h))))

signed_inside_by : (n : ℕ) → n ≤ 65535 → (b : Bool) → ltb n 32768 ≡ b → IsInside (signed_text n)
signed_inside_by n h true t =
    let low : n ≤ 32767 = grind (arith, nat_tests) in
    subst IsInside (sym (signed_low n low)) (number_inside n (omega (arith, h)))
signed_inside_by n h false t =
    let high : 32768 ≤ n = grind (arith, nat_tests) in
    let sum : n + (65536 - n) ≡ 65536 = omega (arith, h) in
    subst IsInside (sym (signed_high n (65536 - n) sum (omega (arith, high)))) (refl, number_inside (65536 - n) (omega (arith, h)))

signed_inside : (n : ℕ) → n ≤ 65535 → IsInside (signed_text n)
signed_inside n h = signed_inside_by n h (ltb n 32768) refl

name_inside : (name : List ℕ) → AllByRecursion IsInsideName name → IsInside name
name_inside [] h = tt
name_inside (c ∷ cs) h = (other_byte c 10 h.0.1, name_inside cs h.1)

octal_inside : (x : ℕ) → is_inside (48 + x) ≡ true
octal_inside x = other_byte (48 + x) 10 (λ e. absurd (omega (arith, e)))

place_inside : (a : ℕ) → IsInside (octal6 a)
place_inside a =
    (octal_inside (a / 32768 % 8), (octal_inside (a / 4096 % 8), (octal_inside (a / 512 % 8), (octal_inside (a / 64 % 8), (octal_inside (a / 8 % 8), (octal_inside (a / 1 % 8), tt))))))

kind_inside : (k : Kind) → IsInside (kind_text k)
kind_inside kind.Odd = list_each is_inside (codes "ODD") refl
kind_inside kind.Reserved = list_each is_inside (codes "RESERVED") refl
kind_inside kind.Access = list_each is_inside (codes "ACCESS") refl
kind_inside kind.BadJump = list_each is_inside (codes "BADJUMP") refl

task_inside : (name : List ℕ) (s : State) → IsReportName name → HasStateRange s → AllByRecursion IsInside (task_words name s)
task_inside name state.Ready n h = (list_each is_inside (codes "TASK") refl, (name_inside name n.inside, (list_each is_inside (codes "READY") refl, tt)))
task_inside name (state.Delayed k) n h = (list_each is_inside (codes "TASK") refl, (name_inside name n.inside, (list_each is_inside (codes "DELAYED") refl, (number_inside k (omega (arith, h)), tt))))
task_inside name (state.Event k) n h = (list_each is_inside (codes "TASK") refl, (name_inside name n.inside, (list_each is_inside (codes "EVENT") refl, (number_inside k (omega (arith, h)), tt))))
task_inside name (state.Facility k) n h = (list_each is_inside (codes "TASK") refl, (name_inside name n.inside, (list_each is_inside (codes "FACILITY") refl, (number_inside k (omega (arith, h)), tt))))
task_inside name state.Ended n h = (list_each is_inside (codes "TASK") refl, (name_inside name n.inside, (list_each is_inside (codes "ENDED") refl, tt)))
task_inside name (state.Failed k) n h = (list_each is_inside (codes "TASK") refl, (name_inside name n.inside, (list_each is_inside (codes "ERROR") refl, (signed_inside k h, tt))))

-- what holds of each line of a report
abbrev pub IsRanged : Line → Type 0
IsRanged (Status n) = n ≤ 8000000000
IsRanged (Instructions n) = n ≤ 8000000000
IsRanged (Steps n) = n ≤ 8000000000
IsRanged (Task t) = HasTaskRange t
IsRanged (Ticks n) = n ≤ 8000000000
IsRanged (Tick n) = n ≤ 8000000000
IsRanged (MachineFault task kind at) = IsReportName task
IsRanged InputFault = Unit {0}
IsRanged OutputFault = Unit {0}

counted_inside : (word : List ℕ) (n : ℕ) → IsInside word → n ≤ 8000000000 → AllByRecursion IsInside (word ∷ decimal n ∷ [])
counted_inside word n h k = (h, (number_inside n k, tt))

words_inside : (l : Line) → IsRanged l → AllByRecursion IsInside (words l)
words_inside (Status n) h = counted_inside (codes "STATUS") n (list_each is_inside (codes "STATUS") refl) h
words_inside (Instructions n) h = counted_inside (codes "INSTRUCTIONS") n (list_each is_inside (codes "INSTRUCTIONS") refl) h
words_inside (Steps n) h = counted_inside (codes "STEPS") n (list_each is_inside (codes "STEPS") refl) h
words_inside (Task t) h = task_inside t.name t.state h.name h.state
words_inside (Ticks n) h = counted_inside (codes "TICKS") n (list_each is_inside (codes "TICKS") refl) h
words_inside (Tick n) h = counted_inside (codes "TICK") n (list_each is_inside (codes "TICK") refl) h
words_inside (MachineFault task k at) h =
    (list_each is_inside (codes "FAULT") refl, (number_inside 4 (omega arith), (name_inside task h.inside, (kind_inside k, (place_inside at, tt)))))
words_inside InputFault h = (list_each is_inside (codes "FAULT") refl, (number_inside 20 (omega arith), (list_each is_inside (codes "INPUT") refl, tt)))
words_inside OutputFault h = (list_each is_inside (codes "FAULT") refl, (number_inside 21 (omega arith), (list_each is_inside (codes "OUTPUT") refl, tt)))

-- ---- a printed text

abbrev pub print : List Line → List ℕ
print ls = lines (map words ls)

line_printed : (l : Line) (rest : List ℕ) → IsRanged l → lines_of (printed l ++ rest) ≡ printed l ∷ lines_of rest
line_printed l rest h =
    let body = spaced (words l) in
    let is : printed l ≡ body ++ 10 ∷ [] = line_parts (words l) in
    ap (λ (t : List ℕ). lines_of (t ++ rest)) is ∙ ap lines_of (append_assoc body (10 ∷ []) rest)
    ∙ lines_of_line body rest (spaced_inside (words l) (words_inside l h)) ∙ ap (λ (t : List ℕ). t ∷ lines_of rest) (sym is)

pub lines_printed : (ls : List Line) (rest : List ℕ) → AllByRecursion IsRanged ls → lines_of (print ls ++ rest) ≡ map printed ls ++ lines_of rest
lines_printed [] rest h = refl
lines_printed (l ∷ ls) rest h =
    ap lines_of (append_assoc (printed l) (print ls) rest) ∙ line_printed l (print ls ++ rest) h.0 ∙ ap (λ (t : List (List ℕ)). printed l ∷ t) (lines_printed ls rest h.1)

some_bytes : (ws : List (List ℕ)) → 1 ≤ length (line ws)
some_bytes ws = omega (arith, ap length (line_parts ws), length-append (spaced ws) (10 ∷ []))

-- a printed line has bytes
pub printed_some : (l : Line) → printed l ≡ [] → ⊥
printed_some l e = absurd (omega (arith, some_bytes (words l), ap length e))

pub print_append : (ls ms : List Line) → print (ls ++ ms) ≡ print ls ++ print ms
print_append [] ms = refl
print_append (l ∷ ls) ms = ap (λ (t : List ℕ). printed l ++ t) (print_append ls ms) ∙ sym (append_assoc (printed l) (print ls) (print ms))
