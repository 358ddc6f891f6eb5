-- The words of the commands are read as they are defined.
use Rattle.std.proofs.Common.{◌≡◌, ◌⊎◌, inl, inr, ℕ, ◌≤◌, Bool, true, false, not, ◌&&◌, cond, eqb, nat_le, List, [], ◌∷◌, length, Option, Some, None, refl, sym, ap, subst, ◌∙◌, arith}
use Rattle.std.specs.Prelude.{codes, IfSome, IfNone}
use Rattle.std.specs.Str.{bytes_eq}
use Rattle.std.proofs.lemmas.Bool.Decides.{nat_tests}
use Rattle.rt_system.specs.Reading.{number, Gives}
use Rattle.rt_system.specs.ReadingSystems.{is_file, and_then}
use Rattle.rt_system.proofs.Tests.{none_some, some_inj, passes, and_parts, and_both}
use Rattle.rt_system.proofs.Words.{same_means}
use Rattle.rt_system.proofs.NumberReads.{number_means, number_is}
use Rattle.rt_system.proofs.TickLineReads.{gap_by, le_means, le_is}
use Rattle.rt_system.proofs.FieldReads.{is_file_means, is_file_is}
use Rattle.rt_system.proofs.SystemLineReads.{found}
use Rattle.rt_commands.specs.Commands.{IsLimit, IsCount, IsNamed, HasLimit, IsCommand}
use Rattle.rt_commands.specs.Reading.{is_named, limit, positive, count, with_one, generate, compile, with_two, with_three, timed, with_four, command_of, said}
use Rattle.rt_commands.specs.declared.lent.CommandWords.{CommandWords}
use Rattle.rt_commands.specs.declared.command.Command.{Command}
use Rattle.rt_commands.specs.declared.command.Command.TheVariants.{Go, Compile, Link, Stacks, Run, Show, Gen}

some_by : (n : ℕ) → not (eqb n 0) ≡ true → 1 ≤ n
some_by n h = grind (arith, nat_tests)

some_is : (n : ℕ) → 1 ≤ n → not (eqb n 0) ≡ true
some_is n h = grind (arith, nat_tests)

named_means : (w : List ℕ) → is_named w ≡ true → IsNamed w
named_means w h = some_by (length w) h

named_is : (w : List ℕ) → IsNamed w → is_named w ≡ true
named_is w h = some_is (length w) h

two_ways : (b : Bool) (o p : Option Command) (c : Command) → cond b o p ≡ Some c → ((b ≡ true) × (o ≡ Some c)) ⊎ (p ≡ Some c)
two_ways true o p c e = inl (refl, e)
two_ways false o p c e = inr e

-- ---- numbers

limit_means : (digits : List ℕ) (n : ℕ) → limit digits ≡ Some n → IsLimit digits n
unfolding limit
limit_means digits n e =
    let h = gap_by (nat_le (length digits) 10) (number 4000000000 digits) n e in
    let k = number_means 4000000000 digits n h.1 in
    record { number = k.0; short = le_means (length digits) 10 h.0; most = k.1 }

limit_is : (digits : List ℕ) (n : ℕ) → IsLimit digits n → limit digits ≡ Some n
unfolding limit
limit_is digits n h = rw (le_is (length digits) 10 h.short) (number_is 4000000000 digits n h.number h.most)

count_means : (digits : List ℕ) (n : ℕ) → count digits ≡ Some n → IsCount digits n
unfolding count
count_means digits n e =
    let h = gap_by (nat_le (length digits) 5) (and_then (number 10000 digits) positive) n e in
    let f = found (number 10000 digits) positive n h.1 in
    let least = passes (nat_le 1 f.value) f.value n f.second in
    let k = number_means 10000 digits f.value f.first in
    subst (λ (m : ℕ). IsCount digits m) least.1 (record { number = k.0; short = le_means (length digits) 5 h.0; least = le_means 1 f.value least.0; most = k.1 })

count_is : (digits : List ℕ) (n : ℕ) → IsCount digits n → count digits ≡ Some n
unfolding count
count_is digits n h =
    let test = le_is 1 n h.least in
    rw (le_is (length digits) 5 h.short, number_is 10000 digits n h.number h.most, test) refl

-- ---- what is read is the command

stacks_means : (w a : List ℕ) (c : Command) → is_named a ≡ true → bytes_eq w (codes "stacks") ≡ true → Some (Stacks a) ≡ Some c → IsCommand (w ∷ a ∷ []) c
stacks_means w a c named word e =
    subst (λ (d : Command). IsCommand (w ∷ a ∷ []) d) (some_inj e)
    (record { are = ap (λ (t : List ℕ). t ∷ a ∷ []) (same_means w (codes "stacks") word); named = (named_means a named, tt) })

show_means : (w a : List ℕ) (c : Command) → is_named a ≡ true → cond (bytes_eq w (codes "show")) (Some (Show a)) None ≡ Some c → IsCommand (w ∷ a ∷ []) c
show_means w a c named e =
    let h = passes (bytes_eq w (codes "show")) (Show a) c e in
    subst (λ (d : Command). IsCommand (w ∷ a ∷ []) d) h.1
    (record { are = ap (λ (t : List ℕ). t ∷ a ∷ []) (same_means w (codes "show") h.0); named = (named_means a named, tt) })

one_means : (w a : List ℕ) (c : Command) → with_one w a ≡ Some c → IsCommand (w ∷ a ∷ []) c
unfolding with_one
one_means w a c e =
    let h = gap_by (is_named a) (cond (bytes_eq w (codes "stacks")) (Some (Stacks a)) (cond (bytes_eq w (codes "show")) (Some (Show a)) None)) c e in
    elim (two_ways (bytes_eq w (codes "stacks")) (Some (Stacks a)) (cond (bytes_eq w (codes "show")) (Some (Show a)) None) c h.1) [
      | inl k ↦ stacks_means w a c h.0 k.0 k.1
      | inr k ↦ show_means w a c h.0 k
    ]

compile_means : (w a b : List ℕ) (c : Command) → bytes_eq w (codes "compile") ≡ true → compile a b ≡ Some c → IsCommand (w ∷ a ∷ b ∷ []) c
unfolding compile
compile_means w a b c word e =
    let h = passes (is_named a && is_named b) (Compile a b) c e in
    let k = and_parts (is_named a) (is_named b) h.0 in
    subst (λ (d : Command). IsCommand (w ∷ a ∷ b ∷ []) d) h.1
    (record { are = ap (λ (t : List ℕ). t ∷ a ∷ b ∷ []) (same_means w (codes "compile") word); named = (named_means a k.0, (named_means b k.1, tt)) })

gen_means : (w a b : List ℕ) (c : Command) → bytes_eq w (codes "gen") ≡ true → generate a b ≡ Some c → IsCommand (w ∷ a ∷ b ∷ []) c
unfolding generate
gen_means w a b c word e =
    let f = found (count a) (λ (n : ℕ). cond (is_file b) (Some (Gen n b)) None) c e in
    let h = passes (is_file b) (Gen f.value b) c f.second in
    subst (λ (d : Command). IsCommand (w ∷ a ∷ b ∷ []) d) h.1
    (record { digits = a; are = ap (λ (t : List ℕ). t ∷ a ∷ b ∷ []) (same_means w (codes "gen") word); count_is = count_means a f.value f.first; file = is_file_means b h.0 })

two_means : (w a b : List ℕ) (c : Command) → with_two w a b ≡ Some c → IsCommand (w ∷ a ∷ b ∷ []) c
unfolding with_two
two_means w a b c e =
    elim (two_ways (bytes_eq w (codes "compile")) (compile a b) (cond (bytes_eq w (codes "gen")) (generate a b) None) c e) [
      | inl h ↦ compile_means w a b c h.0 h.1
      | inr h ↦ let k = gap_by (bytes_eq w (codes "gen")) (generate a b) c h in gen_means w a b c k.0 k.1
    ]

three_means : (w x y z : List ℕ) (c : Command) → with_three w x y z ≡ Some c → IsCommand (w ∷ x ∷ y ∷ z ∷ []) c
unfolding with_three
three_means w x y z c e =
    let h = passes (bytes_eq w (codes "link") && (is_named x && (is_named y && is_named z))) (Link x y z) c e in
    let word = and_parts (bytes_eq w (codes "link")) (is_named x && (is_named y && is_named z)) h.0 in
    let first = and_parts (is_named x) (is_named y && is_named z) word.1 in
    let others = and_parts (is_named y) (is_named z) first.1 in
    subst (λ (d : Command). IsCommand (w ∷ x ∷ y ∷ z ∷ []) d) h.1 (record {
      are = ap (λ (t : List ℕ). t ∷ x ∷ y ∷ z ∷ []) (same_means w (codes "link") word.0);
      named = (named_means x first.0, (named_means y others.0, (named_means z others.1, tt)));
    })

-- the words of `go` or `run`
limited : (name w x y d z : List ℕ) (n : ℕ) → bytes_eq w name ≡ true → (is_named x && (is_named y && is_named z)) ≡ true → limit d ≡ Some n → HasLimit name x y n z (w ∷ x ∷ y ∷ d ∷ z ∷ [])
limited name w x y d z n word named e =
    let first = and_parts (is_named x) (is_named y && is_named z) named in
    let others = and_parts (is_named y) (is_named z) first.1 in
    record {
      digits = d;
      are = ap (λ (t : List ℕ). t ∷ x ∷ y ∷ d ∷ z ∷ []) (same_means w name word);
      named = (named_means x first.0, (named_means y others.0, (named_means z others.1, tt)));
      limit_is = limit_means d n e;
    }

timed_means : (w x y d z : List ℕ) (n : ℕ) (c : Command) → (is_named x && (is_named y && is_named z)) ≡ true → limit d ≡ Some n → timed w x y z n ≡ Some c → IsCommand (w ∷ x ∷ y ∷ d ∷ z ∷ []) c
timed_means w x y d z n c named e k =
    elim (two_ways (bytes_eq w (codes "go")) (Some (Go x y n z)) (cond (bytes_eq w (codes "run")) (Some (Run x y n z)) None) c k) [
      | inl h ↦ subst (λ (t : Command). IsCommand (w ∷ x ∷ y ∷ d ∷ z ∷ []) t) (some_inj h.1) (limited (codes "go") w x y d z n h.0 named e)
      | inr h ↦
          let p = passes (bytes_eq w (codes "run")) (Run x y n z) c h in
          subst (λ (t : Command). IsCommand (w ∷ x ∷ y ∷ d ∷ z ∷ []) t) p.1 (limited (codes "run") w x y d z n p.0 named e)
    ]

four_means : (w x y d z : List ℕ) (c : Command) → with_four w x y d z ≡ Some c → IsCommand (w ∷ x ∷ y ∷ d ∷ z ∷ []) c
unfolding with_four
four_means w x y d z c e =
    let h = gap_by (is_named x && (is_named y && is_named z)) (and_then (limit d) (timed w x y z)) c e in
    let f = found (limit d) (timed w x y z) c h.1 in
    timed_means w x y d z f.value c h.0 f.first f.second

pub command_means : (words : List (List ℕ)) (c : Command) → command_of words ≡ Some c → IsCommand words c
unfolding command_of
command_means [] c e = none_some e
command_means (w ∷ []) c e = none_some e
command_means (w ∷ a ∷ []) c e = one_means w a c e
command_means (w ∷ a ∷ b ∷ []) c e = two_means w a b c e
command_means (w ∷ x ∷ y ∷ z ∷ []) c e = three_means w x y z c e
command_means (w ∷ x ∷ y ∷ d ∷ z ∷ []) c e = four_means w x y d z c e
command_means (w ∷ x ∷ y ∷ d ∷ z ∷ v ∷ more) c e = none_some e

-- ---- a command is read

stacks_is : (a : List ℕ) → IsNamed a → command_of (codes "stacks" ∷ a ∷ []) ≡ Some (Stacks a)
unfolding command_of with_one
stacks_is a h = rw (named_is a h) refl

show_is : (a : List ℕ) → IsNamed a → command_of (codes "show" ∷ a ∷ []) ≡ Some (Show a)
unfolding command_of with_one
show_is a h = rw (named_is a h) refl

compile_is : (a b : List ℕ) → IsNamed a → IsNamed b → command_of (codes "compile" ∷ a ∷ b ∷ []) ≡ Some (Compile a b)
unfolding command_of with_two compile
compile_is a b h k = rw (named_is a h, named_is b k) refl

gen_is : (digits name : List ℕ) (n : ℕ) → count digits ≡ Some n → is_file name ≡ true → command_of (codes "gen" ∷ digits ∷ name ∷ []) ≡ Some (Gen n name)
unfolding command_of with_two generate
gen_is digits name n e file = ap (λ (o : Option ℕ). and_then o (λ (m : ℕ). cond (is_file name) (Some (Gen m name)) None)) e ∙ ap (λ (b : Bool). cond b (Some (Gen n name)) None) file

link_is : (x y z : List ℕ) → IsNamed x → IsNamed y → IsNamed z → command_of (codes "link" ∷ x ∷ y ∷ z ∷ []) ≡ Some (Link x y z)
unfolding command_of with_three
link_is x y z h k l = rw (named_is x h, named_is y k, named_is z l) refl

limited_is : (name x y d z : List ℕ) (n : ℕ) (c : Command) → IsNamed x → IsNamed y → IsNamed z → IsLimit d n → timed name x y z n ≡ Some c → command_of (name ∷ x ∷ y ∷ d ∷ z ∷ []) ≡ Some c
unfolding command_of with_four
limited_is name x y d z n c h k l is e =
    let named = and_both (is_named x) (is_named y && is_named z) (named_is x h) (and_both (is_named y) (is_named z) (named_is y k) (named_is z l)) in
    ap (λ (b : Bool). cond b (and_then (limit d) (timed name x y z)) None) named
    ∙ ap (λ (o : Option ℕ). and_then o (timed name x y z)) (limit_is d n is)
    ∙ e

pub command_is : (words : List (List ℕ)) (c : Command) → IsCommand words c → command_of words ≡ Some c
command_is words (Go x y n z) h = ap command_of h.are ∙ limited_is (codes "go") x y h.digits z n (Go x y n z) h.named.0 h.named.1.0 h.named.1.1.0 h.limit_is refl
command_is words (Compile a b) h = ap command_of h.are ∙ compile_is a b h.named.0 h.named.1.0
command_is words (Link x y z) h = ap command_of h.are ∙ link_is x y z h.named.0 h.named.1.0 h.named.1.1.0
command_is words (Stacks a) h = ap command_of h.are ∙ stacks_is a h.named.0
command_is words (Run x y n z) h = ap command_of h.are ∙ limited_is (codes "run") x y h.digits z n (Run x y n z) h.named.0 h.named.1.0 h.named.1.1.0 h.limit_is refl
command_is words (Show a) h = ap command_of h.are ∙ show_is a h.named.0
command_is words (Gen n name) h = ap command_of h.are ∙ gen_is h.digits name n (count_is h.digits n h.count_is) (is_file_is name h.file)

pub one_command : (words : List (List ℕ)) (c d : Command) → IsCommand words c → IsCommand words d → c ≡ d
one_command words c d h k = some_inj (sym (command_is words c h) ∙ command_is words d k)

pub no_command : (words : List (List ℕ)) → command_of words ≡ None → (c : Command) → IsCommand words c → ⊥
no_command words e c h = none_some (sym e ∙ command_is words c h)

-- ---- the words that are lent

pub lent_means : (words : List (List ℕ)) (lent : Option CommandWords) → Gives said lent (command_of words) → IfSome lent (λ it. IsCommand words (said it))
lent_means words (Some it) h = command_means words (said it) h
lent_means words None h = tt

pub lent_none : (words : List (List ℕ)) (lent : Option CommandWords) → Gives said lent (command_of words) → IfNone lent ((c : Command) → IsCommand words c → ⊥)
lent_none words (Some it) h = tt
lent_none words None h = no_command words h
