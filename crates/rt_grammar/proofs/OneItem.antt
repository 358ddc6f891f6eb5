-- The parsers of one item are right.
use Rattle.std.proofs.Common.{◌≡◌, ℕ, Bool, true, false, List, [], ◌∷◌, Option, Some, refl, sym, ap, arith}
use Rattle.rt_grammar.specs.declared.next.Next.{Next}
use Rattle.rt_pieces.specs.declared.item.Item.{Item}
use Rattle.rt_pieces.specs.declared.item.ItemKind.{ItemKind}
use Rattle.rt_pieces.specs.declared.item.ItemKind.TheVariants as kind
use Rattle.rt_pieces.specs.declared.item.Mark.{Mark}
use Rattle.rt_pieces.specs.declared.item.Word.{Word}
use Rattle.rt_grammar.specs.Parts.{next_by}
use Rattle.rt_grammar.specs.Parts as part
use Rattle.rt_grammar.specs.Parsing.{same_mark, same_word, some_if, mark_in, word_in, name_in, number_in, text_in}
use Rattle.rt_grammar.specs.Parsing as parse
use Rattle.rt_grammar.proofs.Numbers.{mark_no, word_no, next_no, mark_itself, word_itself, marks_same, words_same}
use Rattle.rt_grammar.proofs.Good.{Good, good_one, good_equal, weaken, seq, good_here, good_nothing}

mark_takes : (k : Mark) (i : ItemKind) (a : Unit {0}) → mark_in k i ≡ Some a → i ≡ kind.Mark k
mark_takes k (kind.Mark j) a e = go (same_mark k j) refl e
  where
    go : (b : Bool) → same_mark k j ≡ b → some_if b ≡ Some a → kind.Mark j ≡ kind.Mark k
    go true is e = ap (λ (x : Mark). kind.Mark x) (sym (marks_same k j is))
    go false is e = absurd cc
mark_takes k (kind.Word j) a e = absurd cc
mark_takes k (kind.Name j) a e = absurd cc
mark_takes k (kind.Number j) a e = absurd cc
mark_takes k (kind.Text j) a e = absurd cc

word_takes : (k : Word) (i : ItemKind) (a : Unit {0}) → word_in k i ≡ Some a → i ≡ kind.Word k
word_takes k (kind.Word j) a e = go (same_word k j) refl e
  where
    go : (b : Bool) → same_word k j ≡ b → some_if b ≡ Some a → kind.Word j ≡ kind.Word k
    go true is e = ap (λ (x : Word). kind.Word x) (sym (words_same k j is))
    go false is e = absurd cc
word_takes k (kind.Mark j) a e = absurd cc
word_takes k (kind.Name j) a e = absurd cc
word_takes k (kind.Number j) a e = absurd cc
word_takes k (kind.Text j) a e = absurd cc

name_takes : (i : ItemKind) (a : List ℕ) → name_in i ≡ Some a → i ≡ kind.Name a
name_takes (kind.Name s) a e = cc
name_takes (kind.Mark j) a e = absurd cc
name_takes (kind.Word j) a e = absurd cc
name_takes (kind.Number j) a e = absurd cc
name_takes (kind.Text j) a e = absurd cc

number_takes : (i : ItemKind) (a : ℕ) → number_in i ≡ Some a → i ≡ kind.Number a
number_takes (kind.Number n) a e = cc
number_takes (kind.Mark j) a e = absurd cc
number_takes (kind.Word j) a e = absurd cc
number_takes (kind.Name j) a e = absurd cc
number_takes (kind.Text j) a e = absurd cc

text_takes : (i : ItemKind) (a : List ℕ) → text_in i ≡ Some a → i ≡ kind.Text a
text_takes (kind.Text s) a e = cc
text_takes (kind.Mark j) a e = absurd cc
text_takes (kind.Word j) a e = absurd cc
text_takes (kind.Name j) a e = absurd cc
text_takes (kind.Number j) a e = absurd cc

pub good_mark : (k : Mark) → Good (parse.mark k) (part.mark k) (λ c. c ≡ mark_no k) (λ _. Unit {0}) ⊥
unfolding parse.mark
good_mark k = good_one (λ i. mark_in k i.kind) (λ i _. i.kind ≡ kind.Mark k) (λ c. c ≡ mark_no k) (λ i a e. mark_takes k i.kind a e)
    (λ i a is. (rw is (ap some_if (mark_itself k)), ap (λ (x : ItemKind). next_no (next_by x)) is))

pub good_word : (k : Word) → Good (parse.word k) (part.word k) (λ c. c ≡ word_no k) (λ _. Unit {0}) ⊥
unfolding parse.word
good_word k = good_one (λ i. word_in k i.kind) (λ i _. i.kind ≡ kind.Word k) (λ c. c ≡ word_no k) (λ i a e. word_takes k i.kind a e)
    (λ i a is. (rw is (ap some_if (word_itself k)), ap (λ (x : ItemKind). next_no (next_by x)) is))

pub good_name : Good parse.name part.name (λ c. c ≡ 12) (λ _. Unit {0}) ⊥
unfolding parse.name
good_name = good_one (λ i. name_in i.kind) (λ i s. i.kind ≡ kind.Name s) (λ c. c ≡ 12) (λ i a e. name_takes i.kind a e)
    (λ i a is. (rw is refl, ap (λ (x : ItemKind). next_no (next_by x)) is))

pub good_number : Good parse.number part.number (λ c. c ≡ 13) (λ _. Unit {0}) ⊥
unfolding parse.number
good_number = good_one (λ i. number_in i.kind) (λ i n. i.kind ≡ kind.Number n) (λ c. c ≡ 13) (λ i a e. number_takes i.kind a e)
    (λ i a is. (rw is refl, ap (λ (x : ItemKind). next_no (next_by x)) is))

pub good_text : Good parse.text part.text (λ c. c ≡ 14) (λ _. Unit {0}) ⊥
unfolding parse.text
good_text = good_one (λ i. text_in i.kind) (λ i s. i.kind ≡ kind.Text s) (λ c. c ≡ 14) (λ i a e. text_takes i.kind a e)
    (λ i a is. (rw is refl, ap (λ (x : ItemKind). next_no (next_by x)) is))

pub good_ident : (total : ℕ) → Good (parse.ident total) (part.ident total) (λ c. c ≡ 12) (λ _. Unit {0}) ⊥
unfolding parse.ident
good_ident total = weaken (λ c. c ≡ 12) (λ _. Unit {0}) ⊥
    (seq (good_here total) (λ at. seq good_name (λ n. good_nothing _) (λ c h. tt)) (λ c h. tt))
    (λ c h. grind arith) (λ c h. grind arith) (λ h. h.1.0)

-- an item of a table whose items all have numbers of first
pub good_listed_in : {A : Type 0} (table : Next → Option A) (first : ℕ → Type 0) → ((n : Next) (a : A) → table n ≡ Some a → first (next_no n))
    → Good (parse.listed_in table) (part.listed_in table) first (λ _. Unit {0}) ⊥
good_listed_in table first numbered = good_equal (λ l. same l)
    (good_one (λ i. table (next_by i.kind)) (λ i a. table (next_by i.kind) ≡ Some a) first (λ i a e. e) (λ i a is. (is, numbered (next_by i.kind) a is)))
  where
    same : (l : List Item) → parse.listed_in table l ≡ parse.item (λ i. table (next_by i.kind)) l
    same [] = refl
    same (i ∷ l) = refl
