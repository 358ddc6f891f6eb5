-- The fields of a line are read as they are defined.
use Rattle.std.proofs.Common.{◌≡◌, ℕ, ◌≤◌, Bool, true, false, not, ◌&&◌, cond, eqb, nat_le, List, [], ◌∷◌, ◌++◌, length, map, Option, Some, None, refl, sym, ap, subst, ◌∙◌, arith}
use Rattle.std.specs.Prelude.{is_some}
use Rattle.std.specs.List.{AllByRecursion, list_all}
use Rattle.std.proofs.lemmas.Bool.Decides.{nat_tests}
use Rattle.std.proofs.lemmas.List.{length-map}
use Rattle.rt_pieces.specs.declared.item.Word.{Word}
use Rattle.rt_pieces.specs.Bytes.{Each, Ends, upper, is_letter, is_letter_or_digit}
use Rattle.rt_pieces.specs.Pieces.{word_of}
use Rattle.rt_system.specs.Lines.{IsBlank}
use Rattle.rt_system.specs.Numbers.{IsDigit}
use Rattle.rt_system.specs.Fields.{IsCut, HasFields, IsFileByte, IsFile, IsNamed, IsPriority}
use Rattle.rt_system.specs.Reading.{is_blank, run}
use Rattle.rt_system.specs.ReadingSystems.{in_field, is_file_byte, next_field, is_file, is_reserved, is_name, file}
use Rattle.rt_system.proofs.Tests.{true_false, some_inj, passes, and_parts, and_both}
use Rattle.rt_system.proofs.Runs.{run_sound, run_complete, each_of, all_of, list_each, each_list, each_behind}
use Rattle.rt_system.proofs.NumberReads.{plain_by}
use Rattle.rt_system.proofs.TickLineReads.{blank_is, blank_means, le_means, le_is}

field_no_blank : (c : ℕ) → in_field c ≡ true → is_blank c ≡ false
field_no_blank c h = grind (arith, nat_tests)

blank_no_field : (c : ℕ) → is_blank c ≡ true → in_field c ≡ false
blank_no_field c h = grind (arith, nat_tests)

-- one or more bytes that are no blanks
pub record IsWord (text : List ℕ) : Type 0 where
  pub some : 1 ≤ length text
  pub each : Each in_field text

some_by : (n : ℕ) → eqb n 0 ≡ false → 1 ≤ n
some_by n h = grind (arith, nat_tests)

some_is : (n : ℕ) → 1 ≤ n → eqb n 0 ≡ false
some_is n h = grind (arith, nat_tests)

-- ---- the first field

pub next_field_means : (line f r : List ℕ) → next_field line ≡ Some (f, r) → IsCut line f r
unfolding next_field
next_field_means line f r e =
    let field = run in_field line in
    let blanks = run is_blank field.1 in
    let h = plain_by (eqb (length blanks.0) 0) (Some (field.0, blanks.1)) (f, r) e in
    let pair = some_inj h.1 in
    let a = run_sound in_field line field.0 field.1 refl in
    let b = run_sound is_blank field.1 blanks.0 blanks.1 refl in
    let first : field.0 ≡ f = ap (λ (x : List ℕ × List ℕ). x.0) pair in
    let rest : blanks.1 ≡ r = ap (λ (x : List ℕ × List ℕ). x.1) pair in
    record {
      blanks = blanks.0;
      are = record { some = some_by (length blanks.0) h.0; blank = all_of is_blank IsBlank blank_means blanks.0 b.each };
      parts = a.parts ∙ ap (λ (t : List ℕ). field.0 ++ t) b.parts ∙ ap (λ (t : List ℕ). t ++ (blanks.0 ++ blanks.1)) first ∙ ap (λ (t : List ℕ). f ++ (blanks.0 ++ t)) rest;
    }

abbrev pair_of : List ℕ → List ℕ → List ℕ × List ℕ
pair_of a b = (a, b)

-- what is found, with this field and these blanks and the rest
abbrev cut_of : List ℕ → List ℕ × List ℕ → Option (List ℕ × List ℕ)
cut_of field blanks = cond (eqb (length blanks.0) 0) None (Some (pair_of field blanks.1))

cut_is : (field : List ℕ × List ℕ) (f bs r : List ℕ) → field ≡ pair_of f (bs ++ r) → run is_blank (bs ++ r) ≡ pair_of bs r → 1 ≤ length bs
    → cut_of field.0 (run is_blank field.1) ≡ Some (pair_of f r)
cut_is field f bs r e k some =
    ap (λ (x : List ℕ × List ℕ). cut_of x.0 (run is_blank x.1)) e
    ∙ ap (λ (y : List ℕ × List ℕ). cut_of f y) k
    ∙ ap (λ (b : Bool). cond b None (Some (pair_of f r))) (some_is (length bs) some)

blanks_end : (bs r : List ℕ) → 1 ≤ length bs → Each is_blank bs → Ends in_field (bs ++ r)
blanks_end [] r some h = absurd (omega arith)
blanks_end (c ∷ cs) r some h = blank_no_field c h.0

pub next_field_is : (line f r : List ℕ) → IsCut line f r → Each in_field f → Ends is_blank r → next_field line ≡ Some (f, r)
unfolding next_field
next_field_is line f r h each ends =
    let blank = each_of is_blank IsBlank blank_is h.blanks h.are.blank in
    let first : run in_field line ≡ (f, h.blanks ++ r) = ap (run in_field) h.parts ∙ run_complete in_field f (h.blanks ++ r) each (blanks_end h.blanks r h.are.some blank) in
    cut_is (run in_field line) f h.blanks r first (run_complete is_blank h.blanks r blank ends) h.are.some

word_ends : (t r : List ℕ) → IsWord t → Ends is_blank (t ++ r)
word_ends [] r h = let some : 1 ≤ length {A = ℕ} [] = h.some in absurd (omega arith)
word_ends (c ∷ cs) r h = field_no_blank c h.each.0

word_end : (t : List ℕ) → IsWord t → Ends is_blank t
word_end [] h = tt
word_end (c ∷ cs) h = field_no_blank c h.each.0

pub fields_end : (line g : List ℕ) (more : List (List ℕ)) → HasFields line (g ∷ more) → IsWord g → Ends is_blank line
fields_end line g [] e h = subst (λ (t : List ℕ). Ends is_blank t) (sym e) (word_end g h)
fields_end line g (next ∷ more) c h = subst (λ (t : List ℕ). Ends is_blank t) (sym c.1.parts) (word_ends g (c.1.blanks ++ c.0) h)

word_front : (t r : List ℕ) → IsWord t → list_all is_blank (t ++ r) ≡ false
word_front [] r h = let some : 1 ≤ length {A = ℕ} [] = h.some in absurd (omega arith)
word_front (c ∷ cs) r h = rw (field_no_blank c h.each.0) refl

word_alone : (t : List ℕ) → IsWord t → list_all is_blank t ≡ false
word_alone [] h = let some : 1 ≤ length {A = ℕ} [] = h.some in absurd (omega arith)
word_alone (c ∷ cs) h = rw (field_no_blank c h.each.0) refl

-- a line of fields isn't blank
pub fields_no_blank : (line g : List ℕ) (more : List (List ℕ)) → HasFields line (g ∷ more) → IsWord g → list_all is_blank line ≡ false
fields_no_blank line g [] e h = ap (list_all is_blank) e ∙ word_alone g h
fields_no_blank line g (next ∷ more) c h = ap (list_all is_blank) c.1.parts ∙ word_front g (c.1.blanks ++ c.0) h

blank_stands : (bs r : List ℕ) → 1 ≤ length bs → AllByRecursion IsBlank bs → Each in_field (bs ++ r) → ⊥
blank_stands [] r some h k = absurd (omega arith)
blank_stands (c ∷ cs) r some h k = true_false (is_blank c) (blank_is c h.0) (field_no_blank c k.0)

-- a line that is cut is no single word
pub cut_no_word : (line f r : List ℕ) → IsCut line f r → Each in_field line → ⊥
cut_no_word line f r h each =
    blank_stands h.blanks r h.are.some h.are.blank (each_behind in_field f (h.blanks ++ r) (subst (λ (t : List ℕ). Each in_field t) h.parts each))

-- ---- what is a word

upper_field : (c : ℕ) → in_field (upper c) ≡ true → in_field c ≡ true
upper_field c h = grind (arith, nat_tests)

each_upper : (t : List ℕ) → Each in_field (map upper t) → Each in_field t
each_upper [] h = tt
each_upper (c ∷ cs) h = (upper_field c h.0, each_upper cs h.1)

pub spelled_each : (w t : List ℕ) → map upper t ≡ w → Each in_field w → Each in_field t
spelled_each w t e h = each_upper t (subst (λ (u : List ℕ). Each in_field u) (sym e) h)

pub spelled_word : (w t : List ℕ) → map upper t ≡ w → IsWord w → IsWord t
spelled_word w t e h = let some = h.some in record { some = omega (arith, length-map t upper, ap length e); each = spelled_each w t e h.each }

pub word_by : (w : List ℕ) → nat_le 1 (length w) ≡ true → list_all in_field w ≡ true → IsWord w
word_by w h k = record { some = le_means 1 (length w) h; each = list_each in_field w k }

file_byte_field : (c : ℕ) → IsFileByte c → in_field c ≡ true
file_byte_field c h = grind (arith, nat_tests)

pub file_word : (t : List ℕ) → IsFile t → IsWord t
file_word t h = record { some = h.some; each = each_of in_field IsFileByte file_byte_field t h.bytes }

letter_field : (c : ℕ) → is_letter c ≡ true → in_field c ≡ true
letter_field c h = grind (arith, nat_tests)

letter_or_digit_field : (c : ℕ) → is_letter_or_digit c ≡ true → in_field c ≡ true
letter_or_digit_field c h = grind (arith, nat_tests)

letters_each : (t : List ℕ) → Each is_letter_or_digit t → Each in_field t
letters_each [] h = tt
letters_each (c ∷ cs) h = (letter_or_digit_field c h.0, letters_each cs h.1)

pub named_word : (t name : List ℕ) → IsNamed t name → IsWord t
named_word [] name h = absurd h.form
named_word (c ∷ cs) name h = record { some = omega arith; each = (letter_field c h.form.0, letters_each cs h.form.1) }

digit_field : (c : ℕ) → IsDigit c → in_field c ≡ true
digit_field c h = grind (arith, nat_tests)

pub priority_word : (t : List ℕ) (n : ℕ) → IsPriority t n → IsWord t
priority_word t n h = record { some = h.number.number.some; each = each_of in_field IsDigit digit_field t h.number.number.digits }

-- ---- files and names

file_byte_is : (c : ℕ) → IsFileByte c → is_file_byte c ≡ true
file_byte_is c h = grind (arith, nat_tests)

file_byte_means : (c : ℕ) → is_file_byte c ≡ true → IsFileByte c
file_byte_means c h = grind (arith, nat_tests)

some_test : (n : ℕ) → not (eqb n 0) ≡ true → 1 ≤ n
some_test n h = grind (arith, nat_tests)

some_passes : (n : ℕ) → 1 ≤ n → not (eqb n 0) ≡ true
some_passes n h = grind (arith, nat_tests)

pub is_file_means : (t : List ℕ) → is_file t ≡ true → IsFile t
is_file_means t h =
    let k = and_parts (not (eqb (length t) 0)) (list_all is_file_byte t) h in
    record { some = some_test (length t) k.0; bytes = all_of is_file_byte IsFileByte file_byte_means t (list_each is_file_byte t k.1) }

pub is_file_is : (t : List ℕ) → IsFile t → is_file t ≡ true
is_file_is t h = and_both (not (eqb (length t) 0)) (list_all is_file_byte t) (some_passes (length t) h.some) (each_list is_file_byte t (each_of is_file_byte IsFileByte file_byte_is t h.bytes))

pub file_means : (t it : List ℕ) → file t ≡ Some it → IsFile t × (t ≡ it)
unfolding file
file_means t it e = let h = passes (is_file t) t it e in (is_file_means t h.0, h.1)

pub file_is : (t : List ℕ) → IsFile t → file t ≡ Some t
unfolding file
file_is t h = ap (λ (b : Bool). cond b (Some t) None) (is_file_is t h)

none_means : (o : Option Word) → not (is_some o) ≡ true → o ≡ None
none_means None h = refl
none_means (Some x) h = absurd cc

none_is : (o : Option Word) → o ≡ None → not (is_some o) ≡ true
none_is o e = rw e refl

pub name_means : (t : List ℕ) → is_name t ≡ true → IsNamed t (map upper t)
unfolding is_name
name_means [] h = absurd cc
name_means (c ∷ cs) h =
    let a = and_parts (is_letter c) (list_all is_letter_or_digit cs && (nat_le (length (c ∷ cs)) 32 && not (is_reserved (c ∷ cs)))) h in
    let b = and_parts (list_all is_letter_or_digit cs) (nat_le (length (c ∷ cs)) 32 && not (is_reserved (c ∷ cs))) a.1 in
    let d = and_parts (nat_le (length (c ∷ cs)) 32) (not (is_reserved (c ∷ cs))) b.1 in
    record {
      form = (a.0, list_each is_letter_or_digit cs b.0, tt);
      short = le_means (length (c ∷ cs)) 32 d.0;
      upper_case = refl;
      free = none_means (word_of (map upper (c ∷ cs))) d.1;
    }

pub name_is : (t name : List ℕ) → IsNamed t name → is_name t ≡ true
unfolding is_name
name_is [] name h = absurd h.form
name_is (c ∷ cs) name h =
    let free : word_of (map upper (c ∷ cs)) ≡ None = ap word_of (sym h.upper_case) ∙ h.free in
    let last = and_both (nat_le (length (c ∷ cs)) 32) (not (is_reserved (c ∷ cs))) (le_is (length (c ∷ cs)) 32 h.short) (none_is (word_of (map upper (c ∷ cs))) free) in
    and_both (is_letter c) (list_all is_letter_or_digit cs && (nat_le (length (c ∷ cs)) 32 && not (is_reserved (c ∷ cs)))) h.form.0
    (and_both (list_all is_letter_or_digit cs) (nat_le (length (c ∷ cs)) 32 && not (is_reserved (c ∷ cs))) (each_list is_letter_or_digit cs h.form.1) last)
