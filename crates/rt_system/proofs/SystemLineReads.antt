-- A line of a system text is read as it is defined.
use Rattle.std.proofs.Common.{◌≡◌, ◌⊎◌, inl, inr, ℕ, Bool, true, false, ◌&&◌, cond, List, [], ◌∷◌, map, Option, Some, None, refl, sym, ap, subst, ◌∙◌}
use Rattle.std.specs.Prelude.{codes}
use Rattle.std.specs.List.{AllByRecursion, list_all}
use Rattle.rt_pieces.specs.Bytes.{upper}
use Rattle.rt_system.specs.Lines.{IsBlank}
use Rattle.rt_system.specs.Fields.{IsCut, HasFields, Names, IsFile, IsNamed, IsPriority}
use Rattle.rt_system.specs.Reading.{is_blank, plain_number}
use Rattle.rt_system.specs.Systems.{TaskWords, Line, Blank, Module, Object, Library, Task, IsTaskLine, IsSystemLine}
use Rattle.rt_system.specs.ReadingSystems.{next_field, is_spelled, is_name, and_then, Fields, task_fields, task_words, are_names, task_of, task_line, file, line_of, system_line}
use Rattle.rt_system.proofs.Tests.{none_some, some_inj, and_parts, and_both, all_means, all_is}
use Rattle.rt_system.proofs.Words.{same_means, same_is, other_word}
use Rattle.rt_system.proofs.NumberReads.{plain_means, plain_is}
use Rattle.rt_system.proofs.TickLineReads.{blank_is, blank_means, gap_by}
use Rattle.rt_system.proofs.FieldReads.{IsWord, next_field_means, next_field_is, fields_end, fields_no_blank, cut_no_word, spelled_each, spelled_word, word_by, file_word, named_word, priority_word, file_means, file_is, name_means, name_is}

pub record Found {A B : Type 0} (o : Option A) (f : A → Option B) (b : B) : Type 0 where
  pub value : A
  pub first : o ≡ Some value
  pub second : f value ≡ Some b

pub found : {A B : Type 0} (o : Option A) (f : A → Option B) (b : B) → and_then o f ≡ Some b → Found o f b
found None f b e = none_some e
found (Some a) f b e = record { value = a; first = refl; second = e }

-- ---- the line of a task

abbrev list_of : Fields → List (List ℕ)
list_of f = f.0 ∷ f.1.0 ∷ f.1.1.0 ∷ f.1.1.1 ∷ []

task_fields_means : (text : List ℕ) (f : Fields) → task_fields text ≡ Some f → HasFields text (list_of f)
unfolding task_fields
task_fields_means text f e =
    let a = found (next_field text) (λ (name : List ℕ × List ℕ). and_then (next_field name.1) (λ (root : List ℕ × List ℕ). and_then (next_field root.1) (λ (stack : List ℕ × List ℕ). Some (name.0, (root.0, (stack.0, stack.1)))))) f e in
    let b = found (next_field a.value.1) (λ (root : List ℕ × List ℕ). and_then (next_field root.1) (λ (stack : List ℕ × List ℕ). Some (a.value.0, (root.0, (stack.0, stack.1))))) f a.second in
    let c = found (next_field b.value.1) (λ (stack : List ℕ × List ℕ). Some (a.value.0, (b.value.0, (stack.0, stack.1)))) f b.second in
    subst (λ (g : Fields). HasFields text (list_of g)) (some_inj c.second)
    (a.value.1, next_field_means text a.value.0 a.value.1 a.first, (b.value.1, next_field_means a.value.1 b.value.0 b.value.1 b.first, (c.value.1, next_field_means b.value.1 c.value.0 c.value.1 c.first, refl)))

task_fields_is : (text : List ℕ) (f : Fields) → HasFields text (list_of f) → IsWord f.0 → IsWord f.1.0 → IsWord f.1.1.0 → IsWord f.1.1.1 → task_fields text ≡ Some f
unfolding task_fields
task_fields_is text f h name root stack priority =
    let a = next_field_is text f.0 h.0 h.1 name.each (fields_end h.0 f.1.0 (f.1.1.0 ∷ f.1.1.1 ∷ []) h.2 root) in
    let b = next_field_is h.0 f.1.0 h.2.0 h.2.1 root.each (fields_end h.2.0 f.1.1.0 (f.1.1.1 ∷ []) h.2.2 stack) in
    let c = next_field_is h.2.0 f.1.1.0 h.2.2.0 h.2.2.1 stack.each (fields_end h.2.2.0 f.1.1.1 [] h.2.2.2 priority) in
    rw (a, b, c) (ap (λ (t : List ℕ). Some (f.0, (f.1.0, (f.1.1.0, t)))) h.2.2.2)

record IsTask (f : Fields) (t : TaskWords) : Type 0 where
  name : IsNamed f.0 t.name
  root : IsNamed f.1.0 t.root
  stack : IsNamed f.1.1.0 t.stack
  priority : IsPriority f.1.1.1 t.priority

task_of_means : (f : Fields) (t : TaskWords) → task_of f ≡ Some t → IsTask f t
unfolding task_of
task_of_means f t e =
    let h = gap_by (are_names f) (and_then (plain_number 255 f.1.1.1) (λ (p : ℕ). Some (task_words f p))) t e in
    let p = found (plain_number 255 f.1.1.1) (λ (p : ℕ). Some (task_words f p)) t h.1 in
    let a = and_parts (is_name f.0) (is_name f.1.0 && is_name f.1.1.0) h.0 in
    let b = and_parts (is_name f.1.0) (is_name f.1.1.0) a.1 in
    let number = plain_means 255 f.1.1.1 p.value p.first in
    subst (λ (u : TaskWords). IsTask f u) (some_inj p.second) (record {
      name = name_means f.0 a.0;
      root = name_means f.1.0 b.0;
      stack = name_means f.1.1.0 b.1;
      priority = record { number = number.0; most = number.1 };
    })

abbrev words : List ℕ → List ℕ → List ℕ → ℕ → TaskWords
words name root stack priority = record { name = name; root = root; stack = stack; priority = priority }

same_parts : (a b c d e f : List ℕ) (p : ℕ) → d ≡ a → e ≡ b → f ≡ c → words a b c p ≡ words d e f p
same_parts a b c d e f p h i j =
    ap (λ (x : List ℕ). words x b c p) (sym h) ∙ ap (λ (x : List ℕ). words d x c p) (sym i) ∙ ap (λ (x : List ℕ). words d e x p) (sym j)

same_words : (f : Fields) (t : TaskWords) → t.name ≡ map upper f.0 → t.root ≡ map upper f.1.0 → t.stack ≡ map upper f.1.1.0 → task_words f t.priority ≡ t
same_words f t a b c = same_parts (map upper f.0) (map upper f.1.0) (map upper f.1.1.0) t.name t.root t.stack t.priority a b c

task_of_is : (f : Fields) (t : TaskWords) → IsTask f t → task_of f ≡ Some t
unfolding task_of
task_of_is f t h =
    let names : are_names f ≡ true = and_both (is_name f.0) (is_name f.1.0 && is_name f.1.1.0) (name_is f.0 t.name h.name) (and_both (is_name f.1.0) (is_name f.1.1.0) (name_is f.1.0 t.root h.root) (name_is f.1.1.0 t.stack h.stack)) in
    let number = plain_is 255 f.1.1.1 t.priority h.priority.number h.priority.most in
    let same = same_words f t h.name.upper_case h.root.upper_case h.stack.upper_case in
    ap (λ (b : Bool). cond b (and_then (plain_number 255 f.1.1.1) (λ (p : ℕ). Some (task_words f p))) None) names
    ∙ ap (λ (o : Option ℕ). and_then o (λ (p : ℕ). Some (task_words f p))) number
    ∙ ap (λ (u : TaskWords). Some u) same

-- ---- a line behind its first word

two_ways : (b : Bool) (o p : Option Line) (k : Line) → cond b o p ≡ Some k → ((b ≡ true) × (o ≡ Some k)) ⊎ (p ≡ Some k)
two_ways true o p k e = inl (refl, e)
two_ways false o p k e = inr e

abbrev of_task : List ℕ → List ℕ → Option Line
of_task word text = cond (is_spelled (codes "TASK") word) (and_then (task_line text) (λ (it : TaskWords). Some (Task it))) None

abbrev of_object : List ℕ → List ℕ → Option Line
of_object word text = cond (is_spelled (codes "OBJECT") word) (and_then (file text) (λ (it : List ℕ). Some (Object it))) (of_task word text)

spelled : (name word : List ℕ) → is_spelled name word ≡ true → map upper word ≡ name
spelled name word h = sym (same_means name (map upper word) h)

module_means : (line word text : List ℕ) (k : Line) → IsCut line word text → is_spelled (codes "MODULE") word ≡ true → and_then (file text) (λ (it : List ℕ). Some (Module it)) ≡ Some k → IsSystemLine line k
module_means line word text k cut h e =
    let f = found (file text) (λ (it : List ℕ). Some (Module it)) k e in
    let is = file_means text f.value f.first in
    subst (λ (l : Line). IsSystemLine line l) (some_inj f.second)
    (record { first = word; spelled = spelled (codes "MODULE") word h; are = (text, cut, is.1) }, subst IsFile is.1 is.0)

object_means : (line word text : List ℕ) (k : Line) → IsCut line word text → is_spelled (codes "OBJECT") word ≡ true → and_then (file text) (λ (it : List ℕ). Some (Object it)) ≡ Some k → IsSystemLine line k
object_means line word text k cut h e =
    let f = found (file text) (λ (it : List ℕ). Some (Object it)) k e in
    let is = file_means text f.value f.first in
    subst (λ (l : Line). IsSystemLine line l) (some_inj f.second)
    (record { first = word; spelled = spelled (codes "OBJECT") word h; are = (text, cut, is.1) }, subst IsFile is.1 is.0)

task_line_means : (line word text : List ℕ) (t : TaskWords) → IsCut line word text → is_spelled (codes "TASK") word ≡ true → task_line text ≡ Some t → IsTaskLine line t
unfolding task_line
task_line_means line word text t cut h e =
    let f = found (task_fields text) task_of t e in
    let is = task_of_means f.value t f.second in
    record {
      name = f.value.0;
      root = f.value.1.0;
      stack = f.value.1.1.0;
      priority = f.value.1.1.1;
      names = record { first = word; spelled = spelled (codes "TASK") word h; are = (text, cut, task_fields_means text f.value f.first) };
      name_is = is.name;
      root_is = is.root;
      stack_is = is.stack;
      priority_is = is.priority;
    }

task_means : (line word text : List ℕ) (k : Line) → IsCut line word text → is_spelled (codes "TASK") word ≡ true → and_then (task_line text) (λ (it : TaskWords). Some (Task it)) ≡ Some k → IsSystemLine line k
task_means line word text k cut h e =
    let f = found (task_line text) (λ (it : TaskWords). Some (Task it)) k e in
    subst (λ (l : Line). IsSystemLine line l) (some_inj f.second) (task_line_means line word text f.value cut h f.first)

of_task_means : (line word text : List ℕ) (k : Line) → IsCut line word text → of_task word text ≡ Some k → IsSystemLine line k
of_task_means line word text k cut e =
    elim (two_ways (is_spelled (codes "TASK") word) (and_then (task_line text) (λ (it : TaskWords). Some (Task it))) None k e) [
      | inl h ↦ task_means line word text k cut h.0 h.1
      | inr h ↦ none_some h
    ]

of_object_means : (line word text : List ℕ) (k : Line) → IsCut line word text → of_object word text ≡ Some k → IsSystemLine line k
of_object_means line word text k cut e =
    elim (two_ways (is_spelled (codes "OBJECT") word) (and_then (file text) (λ (it : List ℕ). Some (Object it))) (of_task word text) k e) [
      | inl h ↦ object_means line word text k cut h.0 h.1
      | inr h ↦ of_task_means line word text k cut h
    ]

line_of_means : (line word text : List ℕ) (k : Line) → IsCut line word text → line_of word text ≡ Some k → IsSystemLine line k
unfolding line_of
line_of_means line word text k cut e =
    elim (two_ways (is_spelled (codes "MODULE") word) (and_then (file text) (λ (it : List ℕ). Some (Module it))) (of_object word text) k e) [
      | inl h ↦ module_means line word text k cut h.0 h.1
      | inr h ↦ of_object_means line word text k cut h
    ]

-- ---- a line

abbrev of_word : List ℕ → Option Line
of_word line = and_then (next_field line) (λ (it : List ℕ × List ℕ). line_of it.0 it.1)

abbrev of_library : List ℕ → Option Line
of_library line = cond (is_spelled (codes "LIBRARY") line) (Some Library) (of_word line)

of_word_means : (line : List ℕ) (k : Line) → of_word line ≡ Some k → IsSystemLine line k
of_word_means line k e =
    let f = found (next_field line) (λ (it : List ℕ × List ℕ). line_of it.0 it.1) k e in
    line_of_means line f.value.0 f.value.1 k (next_field_means line f.value.0 f.value.1 f.first) f.second

of_library_means : (line : List ℕ) (k : Line) → of_library line ≡ Some k → IsSystemLine line k
of_library_means line k e =
    elim (two_ways (is_spelled (codes "LIBRARY") line) (Some Library) (of_word line) k e) [
      | inl h ↦ subst (λ (l : Line). IsSystemLine line l) (some_inj h.1) (record { first = line; spelled = spelled (codes "LIBRARY") line h.0; are = refl })
      | inr h ↦ of_word_means line k h
    ]

pub system_line_means : (line : List ℕ) (k : Line) → system_line line ≡ Some k → IsSystemLine line k
unfolding system_line
system_line_means line k e =
    elim (two_ways (list_all is_blank line) (Some Blank) (of_library line) k e) [
      | inl h ↦ subst (λ (l : Line). IsSystemLine line l) (some_inj h.1) (all_means is_blank IsBlank blank_means line h.0)
      | inr h ↦ of_library_means line k h
    ]

-- ---- a line of a right form is found

library_word : IsWord (codes "LIBRARY")
library_word = word_by (codes "LIBRARY") refl refl

behind_word : (name line next : List ℕ) (more : List (List ℕ)) (k : Line) → (n : Names name line (next ∷ more)) → IsWord name → IsWord next → line_of n.first n.are.0 ≡ Some k → system_line line ≡ Some k
unfolding system_line
behind_word name line next more k n word after e =
    let first = spelled_word name n.first n.spelled word in
    let no_blank = fields_no_blank line n.first (next ∷ more) n.are first in
    let no_library : is_spelled (codes "LIBRARY") line ≡ false = other_word (codes "LIBRARY") (map upper line) (λ s. cut_no_word line n.first n.are.0 n.are.1 (spelled_each (codes "LIBRARY") line (sym s) library_word.each)) in
    let cut = next_field_is line n.first n.are.0 n.are.1 first.each (fields_end n.are.0 next more n.are.2 after) in
    ap (λ (b : Bool). cond b (Some Blank) (of_library line)) no_blank
    ∙ ap (λ (b : Bool). cond b (Some Library) (of_word line)) no_library
    ∙ ap (λ (o : Option (List ℕ × List ℕ)). and_then o (λ (it : List ℕ × List ℕ). line_of it.0 it.1)) cut
    ∙ e

library_is : (line : List ℕ) → Names (codes "LIBRARY") line [] → system_line line ≡ Some Library
unfolding system_line
library_is line n =
    let first = spelled_word (codes "LIBRARY") n.first n.spelled library_word in
    let no_blank = fields_no_blank line n.first [] n.are first in
    let is : is_spelled (codes "LIBRARY") line ≡ true = same_is (codes "LIBRARY") (map upper line) (sym n.spelled ∙ ap (map upper) (sym n.are)) in
    ap (λ (b : Bool). cond b (Some Blank) (of_library line)) no_blank
    ∙ ap (λ (b : Bool). cond b (Some Library) (of_word line)) is

module_is : (word text it : List ℕ) → map upper word ≡ codes "MODULE" → text ≡ it → IsFile it → line_of word text ≡ Some (Module it)
unfolding line_of
module_is word text it s e h = rw (s, e, file_is it h) refl

object_is : (word text it : List ℕ) → map upper word ≡ codes "OBJECT" → text ≡ it → IsFile it → line_of word text ≡ Some (Object it)
unfolding line_of
object_is word text it s e h = rw (s, e, file_is it h) refl

task_is : (word text : List ℕ) (t : TaskWords) → map upper word ≡ codes "TASK" → task_line text ≡ Some t → line_of word text ≡ Some (Task t)
unfolding line_of
task_is word text t s e = rw (s, e) refl

task_line_is : (line : List ℕ) (t : TaskWords) → (h : IsTaskLine line t) → task_line h.names.are.0 ≡ Some t
unfolding task_line
task_line_is line t h =
    let f : Fields = (h.name, (h.root, (h.stack, h.priority))) in
    let fields = task_fields_is h.names.are.0 f h.names.are.2 (named_word h.name t.name h.name_is) (named_word h.root t.root h.root_is) (named_word h.stack t.stack h.stack_is) (priority_word h.priority t.priority h.priority_is) in
    ap (λ (o : Option Fields). and_then o task_of) fields ∙ task_of_is f t (record { name = h.name_is; root = h.root_is; stack = h.stack_is; priority = h.priority_is })

blank_line_is : (line : List ℕ) → AllByRecursion IsBlank line → system_line line ≡ Some Blank
unfolding system_line
blank_line_is line h = ap (λ (b : Bool). cond b (Some Blank) (of_library line)) (all_is is_blank IsBlank blank_is line h)

pub system_line_is : (line : List ℕ) (k : Line) → IsSystemLine line k → system_line line ≡ Some k
system_line_is line Blank h = blank_line_is line h
system_line_is line (Module it) h =
    behind_word (codes "MODULE") line it [] (Module it) h.0 (word_by (codes "MODULE") refl refl) (file_word it h.1) (module_is h.0.first h.0.are.0 it h.0.spelled h.0.are.2 h.1)
system_line_is line (Object it) h =
    behind_word (codes "OBJECT") line it [] (Object it) h.0 (word_by (codes "OBJECT") refl refl) (file_word it h.1) (object_is h.0.first h.0.are.0 it h.0.spelled h.0.are.2 h.1)
system_line_is line Library h = library_is line h
system_line_is line (Task t) h =
    behind_word (codes "TASK") line h.name (h.root ∷ h.stack ∷ h.priority ∷ []) (Task t) h.names (word_by (codes "TASK") refl refl) (named_word h.name t.name h.name_is) (task_is h.names.first h.names.are.0 t h.names.spelled (task_line_is line t h))

-- a line says one thing
pub one_system_line : (line : List ℕ) (k m : Line) → IsSystemLine line k → IsSystemLine line m → k ≡ m
one_system_line line k m h i = some_inj (sym (system_line_is line k h) ∙ system_line_is line m i)
