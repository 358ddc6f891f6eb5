-- The parser of each line of modules is right for its line.
use Rattle.std.proofs.Common.{◌≡◌, ◌≢◌, ℕ, [], refl, arith}
use Rattle.rt_pieces.specs.declared.item.Mark.TheVariants as m
use Rattle.rt_pieces.specs.declared.item.Word.TheVariants as w
use Rattle.rt_grammar.specs.declared.next.Next.{Next}
use Rattle.rt_grammar.specs.declared.next.Next.TheVariants as next
use Rattle.rt_grammar.specs.Parts.{next_of}
use Rattle.rt_grammar.specs.Parts as part
use Rattle.rt_grammar.specs.Parsing.{in_table}
use Rattle.rt_grammar.specs.Parsing as parse
use Rattle.rt_grammar.proofs.Numbers.{next_no, Goes, In, in_range, range_goes, table_true, mark_goes, word_goes}
use Rattle.rt_grammar.proofs.Good.{Good, weaken, seq, good_nothing, good_here, good_within}
use Rattle.rt_grammar.proofs.OneItem.{good_mark, good_word, good_number, good_ident, good_listed_in}
use Rattle.rt_grammar.proofs.Choices.{good_turns}
use Rattle.rt_syntax_exprs.specs.declared.limits.Context.{Context}
use Rattle.rt_bricks.specs.Tables.{but_semicolon}
use Rattle.rt_bricks.specs.Declarations.{declaration}
use Rattle.rt_bricks.specs.Modules as line
use Rattle.rt_bricks.specs.ModuleParser as reads
use Rattle.rt_bricks.proofs.DeclarationLines.{First, declaration_goes, good_declaration}

but_semicolon_same : (n : Next) → in_table but_semicolon n ≡ in_range 2 94 (next_no n)
unfolding but_semicolon
but_semicolon_same (next.Mark m.Plus) = refl
but_semicolon_same (next.Word w.Abs) = refl
but_semicolon_same _ = refl

but_semicolon_goes : (n : Next) → Goes (in_table but_semicolon) (In 2 94) n
but_semicolon_goes = range_goes (in_table but_semicolon) 2 94 but_semicolon_same

good_to_semicolon : Good reads.to_semicolon line.to_semicolon (In 1 94) (λ _. Unit {0}) ⊥
unfolding reads.to_semicolon
good_to_semicolon = weaken (In 1 94) (λ _. Unit {0}) ⊥
    (seq (good_turns reads.but_semicolon_comes _ _ _ _ _ (good_listed_in but_semicolon (In 2 94) (table_true but_semicolon (In 2 94) but_semicolon_goes)) (λ l. but_semicolon_goes (next_of l)) (λ n h. tt) (λ h. grind arith) tt)
    (λ _. good_mark m.Semicolon) (λ n h. grind arith))
    (λ n h. grind arith) (λ n h. grind arith) (λ h. h.1)

good_next_number : Good reads.next_number (part.◌>>=◌ (part.mark m.Comma) (λ _. part.◌>>=◌ part.number (λ _. part.nothing tt))) (λ n. n ≡ 9) (λ _. Unit {0}) ⊥
unfolding reads.next_number
good_next_number = weaken (λ n. n ≡ 9) (λ _. Unit {0}) ⊥
    (seq (good_mark m.Comma) (λ _. seq good_number (λ _. good_nothing tt) (λ n h. tt)) (λ n h. tt))
    (λ n h. grind arith) (λ n h. grind arith) (λ h. h.0)

good_numbers : Good reads.numbers line.numbers (λ n. n ≡ 13) (λ n. n ≢ 9) ⊥
unfolding reads.numbers
good_numbers = weaken (λ n. n ≡ 13) (λ n. n ≢ 9) ⊥
    (seq good_number (λ _. good_turns (parse.mark_comes m.Comma) _ _ _ _ _ good_next_number (λ l. mark_goes m.Comma (next_of l)) (λ n h. tt) (λ h. omega arith) tt) (λ n h. tt))
    (λ n h. grind arith) (λ n h. grind arith) (λ h. h.0)

good_option : (c : Context) → Good (reads.option c) (line.option c) (λ n. n ≡ 81) (λ _. Unit {0}) ⊥
unfolding reads.option
good_option c = weaken (λ n. n ≡ 81) (λ _. Unit {0}) ⊥
    (seq (good_word w.Option) (λ _. seq (good_within c.limits.parentheses (good_mark m.Open)) (λ _. seq good_numbers (λ _. seq (good_mark m.Close) (λ _. good_to_semicolon) (λ n h. tt)) (λ n h. grind arith)) (λ n h. tt)) (λ n h. tt))
    (λ n h. grind arith) (λ n h. grind arith) (λ h. h.0)

good_options : (c : Context) → Good (reads.options c) (line.skipped (line.option c)) (λ n. n ≡ 81) (λ n. n ≢ 81) (Unit {0})
unfolding reads.options
good_options c = weaken (λ n. n ≡ 81) (λ n. n ≢ 81) (Unit {0})
    (good_turns (parse.word_comes w.Option) _ _ _ _ _ (good_option c) (λ l. word_goes w.Option (next_of l)) (λ n h. tt) (λ h. omega arith) tt)
    (λ n h. h) (λ n h. (tt, h)) (λ h. h)

good_declarations : (c : Context) → Good (reads.declarations c) (part.turns part.push [] (declaration c)) First (λ n. First n → ⊥) (Unit {0})
unfolding reads.declarations
good_declarations c = weaken First (λ n. First n → ⊥) (Unit {0})
    (good_turns reads.declaration_comes part.push _ _ _ _ (good_declaration c) (λ l. declaration_goes (next_of l)) (λ n h. tt) (λ h. grind arith) [])
    (λ n h. h) (λ n h. (tt, h)) (λ h. h)

-- what may follow a module: neither an option nor a declaration
abbrev pub After : ℕ → Type 0
After c = (c ≢ 81) × (First c → ⊥)

pub good_module : (c : Context) → Good (reads.module_of c) (line.module_of c) (λ n. n ≡ 80) After ⊥
unfolding reads.module_of
good_module c = weaken (λ n. n ≡ 80) After ⊥
    (seq (good_here c.total) (λ at. seq (good_word w.Title) (λ _. seq (good_ident c.total) (λ n. seq good_to_semicolon (λ _. seq (good_options c) (λ _. seq (good_declarations c) (λ ds. good_nothing _) (λ n h. absurd h)) (λ n h. grind arith)) (λ n h. tt)) (λ n h. tt)) (λ n h. tt)) (λ n h. tt))
    (λ n h. grind arith) (λ n h. grind arith) (λ h. h.1.0)
