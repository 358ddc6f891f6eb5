-- A number for what comes next, by which arithmetic tells items apart. Those that stand together in a
-- line of the grammar have numbers that stand together.
use Rattle.std.proofs.Common.{◌≡◌, ℕ, ◌≤◌, Bool, true, false, if◌then◌else◌, eqb, leb, List, Option, Some, None, ◌⊎◌, inl, inr, refl, sym, ap, ◌∙◌, arith}
use Rattle.std.proofs.lemmas.Bool.{leb-true, leb-false}
use denote.Enum.Bare.{same_true}
use Rattle.rt_pieces.specs.declared.item.Item.{Item}
use Rattle.rt_pieces.specs.declared.item.Mark.{Mark}
use Rattle.rt_pieces.specs.declared.item.Mark.TheVariants as m
use Rattle.rt_pieces.specs.declared.item.Word.{Word}
use Rattle.rt_pieces.specs.declared.item.Word.TheVariants as w
use Rattle.rt_pieces.specs.contracts.item.Mark as mark_type
use Rattle.rt_pieces.specs.contracts.item.Word as word_type
use Rattle.rt_grammar.specs.declared.next.Next.{Next}
use Rattle.rt_grammar.specs.declared.next.Next.TheVariants as next
use Rattle.rt_grammar.specs.Parts.{next_of}
use Rattle.rt_grammar.specs.Parsing.{same_mark, same_word, is_mark, is_word, is_name, is_number, is_text, is_some, in_table}

abbrev pub mark_no : Mark → ℕ
mark_no m.Semicolon = 1
mark_no m.Close = 8
mark_no m.Comma = 9
mark_no m.Dot = 10
mark_no m.Open = 11
mark_no m.Plus = 22
mark_no m.Minus = 23
mark_no m.Times = 27
mark_no m.Divide = 28
mark_no m.Becomes = 34
mark_no m.Colon = 35
mark_no m.Equal = 40
mark_no m.Unequal = 41
mark_no m.Less = 42
mark_no m.LessOrEqual = 43
mark_no m.Greater = 44
mark_no m.GreaterOrEqual = 45
mark_no m.Same = 46
mark_no m.Different = 47

abbrev pub word_no : Word → ℕ
word_no w.End = 2
word_no w.Else = 3
word_no w.ElseIf = 4
word_no w.Rep = 5
word_no w.EndBlock = 6
word_no w.EndProc = 7
word_no w.Val = 15
word_no w.Abs = 16
word_no w.Not = 17
word_no w.Length = 18
word_no w.Byte = 19
word_no w.Int = 20
word_no w.Frac = 21
word_no w.Lor = 24
word_no w.Nev = 25
word_no w.Land = 26
word_no w.Mod = 29
word_no w.Sll = 30
word_no w.Srl = 31
word_no w.Sla = 32
word_no w.Sra = 33
word_no w.Goto = 50
word_no w.Return = 51
word_no w.Switch = 52
word_no w.Block = 53
word_no w.If = 54
word_no w.For = 55
word_no w.To = 56
word_no w.While = 57
word_no w.Ref = 60
word_no w.Proc = 61
word_no w.Array = 62
word_no w.Label = 63
word_no w.Then = 70
word_no w.Of = 71
word_no w.By = 72
word_no w.Do = 73
word_no w.And = 74
word_no w.Or = 75
word_no w.Title = 80
word_no w.Option = 81
word_no w.Mode = 82
word_no w.Data = 83
word_no w.EndData = 84
word_no w.Stack = 85
word_no w.Ent = 86
word_no w.Ext = 87
word_no w.Svc = 88
word_no w.Let = 89
word_no w.Bin = 90
word_no w.Oct = 91
word_no w.Hex = 92
word_no w.Real = 93
word_no w.Code = 94

abbrev pub next_no : Next → ℕ
next_no next.End = 0
next_no next.Name = 12
next_no next.Number = 13
next_no next.Text = 14
next_no (next.Word w) = word_no w
next_no (next.Mark m) = mark_no m

abbrev pub no : List Item → ℕ
no l = next_no (next_of l)

-- ---- no two have one number

next_at : ℕ → Option Next
next_at n = if eqb n 0 then Some next.End else (if eqb n 1 then Some (next.Mark m.Semicolon) else (if eqb n 2 then Some (next.Word w.End) else (if eqb n 3 then Some (next.Word w.Else) else (if eqb n 4 then Some (next.Word w.ElseIf) else (if eqb n 5 then Some (next.Word w.Rep) else (if eqb n 6 then Some (next.Word w.EndBlock) else (if eqb n 7 then Some (next.Word w.EndProc) else (if eqb n 8 then Some (next.Mark m.Close) else (if eqb n 9 then Some (next.Mark m.Comma) else (if eqb n 10 then Some (next.Mark m.Dot) else (if eqb n 11 then Some (next.Mark m.Open) else (if eqb n 12 then Some next.Name else (if eqb n 13 then Some next.Number else (if eqb n 14 then Some next.Text else (if eqb n 15 then Some (next.Word w.Val) else (if eqb n 16 then Some (next.Word w.Abs) else (if eqb n 17 then Some (next.Word w.Not) else (if eqb n 18 then Some (next.Word w.Length) else (if eqb n 19 then Some (next.Word w.Byte) else (if eqb n 20 then Some (next.Word w.Int) else (if eqb n 21 then Some (next.Word w.Frac) else (if eqb n 22 then Some (next.Mark m.Plus) else (if eqb n 23 then Some (next.Mark m.Minus) else (if eqb n 24 then Some (next.Word w.Lor) else (if eqb n 25 then Some (next.Word w.Nev) else (if eqb n 26 then Some (next.Word w.Land) else (if eqb n 27 then Some (next.Mark m.Times) else (if eqb n 28 then Some (next.Mark m.Divide) else (if eqb n 29 then Some (next.Word w.Mod) else (if eqb n 30 then Some (next.Word w.Sll) else (if eqb n 31 then Some (next.Word w.Srl) else (if eqb n 32 then Some (next.Word w.Sla) else (if eqb n 33 then Some (next.Word w.Sra) else (if eqb n 34 then Some (next.Mark m.Becomes) else (if eqb n 35 then Some (next.Mark m.Colon) else (if eqb n 40 then Some (next.Mark m.Equal) else (if eqb n 41 then Some (next.Mark m.Unequal) else (if eqb n 42 then Some (next.Mark m.Less) else (if eqb n 43 then Some (next.Mark m.LessOrEqual) else (if eqb n 44 then Some (next.Mark m.Greater) else (if eqb n 45 then Some (next.Mark m.GreaterOrEqual) else (if eqb n 46 then Some (next.Mark m.Same) else (if eqb n 47 then Some (next.Mark m.Different) else (if eqb n 50 then Some (next.Word w.Goto) else (if eqb n 51 then Some (next.Word w.Return) else (if eqb n 52 then Some (next.Word w.Switch) else (if eqb n 53 then Some (next.Word w.Block) else (if eqb n 54 then Some (next.Word w.If) else (if eqb n 55 then Some (next.Word w.For) else (if eqb n 56 then Some (next.Word w.To) else (if eqb n 57 then Some (next.Word w.While) else (if eqb n 60 then Some (next.Word w.Ref) else (if eqb n 61 then Some (next.Word w.Proc) else (if eqb n 62 then Some (next.Word w.Array) else (if eqb n 63 then Some (next.Word w.Label) else (if eqb n 70 then Some (next.Word w.Then) else (if eqb n 71 then Some (next.Word w.Of) else (if eqb n 72 then Some (next.Word w.By) else (if eqb n 73 then Some (next.Word w.Do) else (if eqb n 74 then Some (next.Word w.And) else (if eqb n 75 then Some (next.Word w.Or) else (if eqb n 80 then Some (next.Word w.Title) else (if eqb n 81 then Some (next.Word w.Option) else (if eqb n 82 then Some (next.Word w.Mode) else (if eqb n 83 then Some (next.Word w.Data) else (if eqb n 84 then Some (next.Word w.EndData) else (if eqb n 85 then Some (next.Word w.Stack) else (if eqb n 86 then Some (next.Word w.Ent) else (if eqb n 87 then Some (next.Word w.Ext) else (if eqb n 88 then Some (next.Word w.Svc) else (if eqb n 89 then Some (next.Word w.Let) else (if eqb n 90 then Some (next.Word w.Bin) else (if eqb n 91 then Some (next.Word w.Oct) else (if eqb n 92 then Some (next.Word w.Hex) else (if eqb n 93 then Some (next.Word w.Real) else (if eqb n 94 then Some (next.Word w.Code) else (None)))))))))))))))))))))))))))))))))))))))))))))))))))))))))))))))))))))))))))))

next_again : (n : Next) → next_at (next_no n) ≡ Some n
unfolding next_at
next_again next.Name = refl
next_again (next.Word w.If) = refl
next_again (next.Mark m.Dot) = refl
next_again _ = refl

some_is : {A : Type 0} (x y : A) → Some x ≡ Some y → x ≡ y
some_is x y e = cc

pub nexts_apart : (n k : Next) → next_no n ≡ next_no k → n ≡ k
nexts_apart n k e = some_is n k (sym (next_again n) ∙ ap next_at e ∙ next_again k)

-- ---- equal marks and words, by the test

pub mark_itself : (k : Mark) → same_mark k k ≡ true
unfolding same_mark
mark_itself m.Semicolon = refl
mark_itself _ = refl

pub word_itself : (k : Word) → same_word k k ≡ true
unfolding same_word
word_itself w.If = refl
word_itself _ = refl

pub marks_same : (k j : Mark) → same_mark k j ≡ true → k ≡ j
unfolding same_mark
marks_same k j e = same_true mark_type.the_type (search) k j e

pub words_same : (k j : Word) → same_word k j ≡ true → k ≡ j
unfolding same_word
words_same k j e = same_true word_type.the_type (search) k j e

-- ---- a test of what comes next is a test of its number

-- a test is true of what has this number alone
abbrev pub Goes : (Next → Bool) → (ℕ → Type 0) → Next → Type 0
Goes test first n = ((test n ≡ true) × first (next_no n)) ⊎ ((test n ≡ false) × (first (next_no n) → ⊥))

pub mark_is : (k : Mark) (n : Next) → is_mark k n ≡ true → n ≡ next.Mark k
mark_is k (next.Mark j) e = ap (λ x. next.Mark x) (sym (marks_same k j e))
mark_is k next.Name e = absurd cc
mark_is k next.Number e = absurd cc
mark_is k next.Text e = absurd cc
mark_is k next.End e = absurd cc
mark_is k (next.Word j) e = absurd cc

pub word_is : (k : Word) (n : Next) → is_word k n ≡ true → n ≡ next.Word k
word_is k (next.Word j) e = ap (λ x. next.Word x) (sym (words_same k j e))
word_is k next.Name e = absurd cc
word_is k next.Number e = absurd cc
word_is k next.Text e = absurd cc
word_is k next.End e = absurd cc
word_is k (next.Mark j) e = absurd cc

differ : (b : Bool) → b ≡ true → b ≡ false → ⊥
differ b e f = cc

goes_by : (test : Next → Bool) (k n : Next) → test k ≡ true → (test n ≡ true → n ≡ k) → (b : Bool) → test n ≡ b → Goes test (λ c. c ≡ next_no k) n
goes_by test k n itself only true e = inl (e, ap next_no (only e))
goes_by test k n itself only false e = inr (e, λ same. differ (test n) (ap test (nexts_apart n k same) ∙ itself) e)

pub mark_goes : (k : Mark) (n : Next) → Goes (is_mark k) (λ c. c ≡ mark_no k) n
mark_goes k n = goes_by (is_mark k) (next.Mark k) n (mark_itself k) (mark_is k n) (is_mark k n) refl

pub word_goes : (k : Word) (n : Next) → Goes (is_word k) (λ c. c ≡ word_no k) n
word_goes k n = goes_by (is_word k) (next.Word k) n (word_itself k) (word_is k n) (is_word k n) refl

-- ---- tests that are ranges of numbers

abbrev pub Tells : (ℕ → Bool) → (ℕ → Type 0) → Type 0
Tells test first = (c : ℕ) → ((test c ≡ true) × first c) ⊎ ((test c ≡ false) × (first c → ⊥))

abbrev pub in_range : ℕ → ℕ → ℕ → Bool
in_range low high c = if leb low c then leb c high else false

abbrev pub In : ℕ → ℕ → ℕ → Type 0
In low high c = (low ≤ c) × (c ≤ high)

range_by : (low high c : ℕ) (a b : Bool) → leb low c ≡ a → leb c high ≡ b → ((in_range low high c ≡ true) × In low high c) ⊎ ((in_range low high c ≡ false) × (In low high c → ⊥))
range_by low high c true true e f = inl (rw (e, f) refl, (leb-true low c e, leb-true c high f))
range_by low high c true false e f = inr (rw (e, f) refl, λ h. let lt = leb-false c high f in let le = h.1 in omega arith)
range_by low high c false b e f = inr (rw e refl, λ h. let lt = leb-false low c e in let le = h.0 in omega arith)

pub range_tells : (low high : ℕ) → Tells (in_range low high) (In low high)
range_tells low high c = range_by low high c (leb low c) (leb c high) refl refl

abbrev pub or_in : (ℕ → Bool) → (ℕ → Bool) → ℕ → Bool
or_in p q c = if p c then true else q c

pub or_tells : (p q : ℕ → Bool) (f g : ℕ → Type 0) → Tells p f → Tells q g → Tells (or_in p q) (λ c. f c ⊎ g c)
or_tells p q f g h k c = elim (h c) [
  | inl x ↦ inl (rw (x.0) refl, inl x.1)
  | inr x ↦ elim (k c) [
    | inl y ↦ inl (rw (x.0, y.0) refl, inr y.1)
    | inr y ↦ inr (rw (x.0, y.0) refl, λ e. elim e [ inl a ↦ x.1 a | inr b ↦ y.1 b ])
  ]
]

-- a test on what comes next that is a test on its number
pub told : (test : Next → Bool) (by : ℕ → Bool) (first : ℕ → Type 0) → Tells by first → ((n : Next) → test n ≡ by (next_no n)) → (n : Next) → Goes test first n
told test by first tells same n = elim (tells (next_no n)) [ inl h ↦ inl (same n ∙ h.0, h.1) | inr h ↦ inr (same n ∙ h.0, h.1) ]

pub range_goes : (test : Next → Bool) (low high : ℕ) → ((n : Next) → test n ≡ in_range low high (next_no n)) → (n : Next) → Goes test (In low high) n
range_goes test low high same = told test (in_range low high) (In low high) (range_tells low high) same

-- what the test takes has a number of first
pub goes_true : (test : Next → Bool) (first : ℕ → Type 0) → ((n : Next) → Goes test first n) → (n : Next) → test n ≡ true → first (next_no n)
goes_true test first goes n e = elim (goes n) [ inl h ↦ h.1 | inr h ↦ absurd (differ (test n) e h.0) ]

pub table_true : {A : Type 0} (table : Next → Option A) (first : ℕ → Type 0) → ((n : Next) → Goes (in_table table) first n) → (n : Next) (a : A) → table n ≡ Some a → first (next_no n)
table_true table first goes n a e = goes_true (in_table table) first goes n (ap is_some e)

-- ---- names, numbers and strings

pub name_goes : (n : Next) → Goes is_name (λ c. c ≡ 12) n
name_goes n = goes_by is_name next.Name n refl (only n) (is_name n) refl
  where
    only : (n : Next) → is_name n ≡ true → n ≡ next.Name
    only next.Name e = refl
    only _ e = absurd cc

pub number_goes : (n : Next) → Goes is_number (λ c. c ≡ 13) n
number_goes n = goes_by is_number next.Number n refl (only n) (is_number n) refl
  where
    only : (n : Next) → is_number n ≡ true → n ≡ next.Number
    only next.Number e = refl
    only _ e = absurd cc

pub text_goes : (n : Next) → Goes is_text (λ c. c ≡ 14) n
text_goes n = goes_by is_text next.Text n refl (only n) (is_text n) refl
  where
    only : (n : Next) → is_text n ≡ true → n ≡ next.Text
    only next.Text e = refl
    only _ e = absurd cc
