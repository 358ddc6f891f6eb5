-- Which value an expression is where a mode is wanted, and where its faults stand: one case for each rule.
use Rattle.std.specs.Prelude.{◌≡◌, ◌≢◌, ℕ, ◌==◌, Bool, true, false, List, [], ◌∷◌, length, Option, Some, None, Result, Ok, Err, position}
use Rattle.rt_grammar.specs.declared.at.At.{At}
use Rattle.rt_grammar.specs.declared.at.Ident.{Ident}
use Rattle.rt_syntax_exprs.specs.declared.tree.Op1.{Op1}
use Rattle.rt_syntax_exprs.specs.declared.tree.Op2.{Op2}
use Rattle.rt_syntax_exprs.specs.declared.tree.Expr.{Expr, out-Expr}
use Rattle.rt_syntax_exprs.specs.declared.tree.Expr.TheOpen.{Expr-F, Link-F}
use Rattle.rt_syntax_exprs.specs.declared.tree.Chain.{Chain, out-Chain}
use Rattle.rt_syntax_exprs.specs.declared.tree.Link.{Link, out-Link}
use Rattle.rt_syntax_exprs.specs.declared.tree.Cond.{Cond, out-Cond}
use Rattle.rt_syntax_exprs.specs.declared.tree.Cond.TheOpen.{Cond-F}
use Rattle.rt_syntax_exprs.specs.declared.tree.Rel.{Rel}
use Rattle.rt_modes.specs.declared.mode.Mode.{Mode, out-Mode}
use Rattle.rt_tree_nodes.specs.declared.statement.Test.{Test}
use Rattle.rt_tree_nodes.specs.declared.statement.Test.TheVariants as tests
use Rattle.rt_tree_nodes.specs.declared.operators.Op1.{Op1 as Made1}
use Rattle.rt_tree_nodes.specs.declared.value.Callee.{Callee}
use Rattle.rt_tree_nodes.specs.declared.value.Place.{Place}
use Rattle.rt_tree_nodes.specs.declared.value.Place.TheVariants as places
use Rattle.rt_tree_nodes.specs.declared.value.Value.{Value}
use Rattle.rt_tree_nodes.specs.declared.value.Value.TheVariants as values
use Rattle.rt_check_faults.specs.declared.fault.CheckFault.{CheckFault}
use Rattle.rt_check_faults.specs.declared.fault.CheckFault.TheVariants as fault
use Rattle.rt_exprs.specs.declared.operand.Base.{Base}
use Rattle.rt_exprs.specs.declared.operand.Base.TheVariants as base
use Rattle.rt_exprs.specs.declared.operand.Standing.{Standing}
use Rattle.rt_exprs.specs.declared.operand.Standing.TheVariants as standing
use Rattle.rt_exprs.specs.Sights.{Sight}
use Rattle.rt_exprs.specs.Modes.{Want, basic, want}
use Rattle.rt_exprs.specs.Operands.{Is, number, text, place, computed, done, Found, Judged, named, field_of, first_field, is_label, suits, suits_as, alone_is}
use Rattle.rt_exprs.specs.Names.{find}
use Rattle.rt_check_faults.specs.Outcomes.{unknown, is_unknown, pair_of, told, or_any}
use Rattle.rt_exprs.specs.Judging.{found, seen_as, record_in, field_with, rows, calls, neither, reach, called, target_of, array_in, base_in, frac_or_int, takes, gives, gives_always, made_monadic, of_int, is_shift, right_takes, made_dyadic, is_brick, ends_in_apply, assigned, called_is, compares, made_rel}

-- the number of the string that begins at an item
abbrev pub string_at : Sight → At → Option ℕ
string_at s at = position (λ x. x == at.item) s.strings

-- what the name of a chain stands for, by itself
abbrev pub Names : Sight → Chain → Result Is CheckFault → Type 0
Names s c r = named (out-Chain c).at (find s (out-Chain c).name) ≡ r

abbrev pub begins : Chain → Is → Found
begins c is = found (out-Chain c).at is

-- all of what is found is known
abbrev pub known : Found → Judged
known f = record { found = f; known = true }

mutual
  -- Expression e is f by itself.
  pub data IsBy (s : Sight) : Expr → Found → Type 0 where
    is_number : {e : Expr} {n : ℕ} {at : At} → out-Expr e ≡ Expr-F.Number n at → IsBy s e (found at (number n))
    is_text : {e : Expr} {t : List ℕ} {n : ℕ} {at : At} → out-Expr e ≡ Expr-F.Text t at → string_at s at ≡ Some n → IsBy s e (found at (text n))
    is_chain : {e : Expr} {c : Chain} {f : Found} → out-Expr e ≡ Expr-F.Chain c → ChainIs s c f → IsBy s e f
    -- VAL: the place to which a REF leads
    is_val : {e : Expr} {c : Chain} {at : At} {f : Found} {p : Place} {m : Mode} → out-Expr e ≡ Expr-F.Val c at → ChainIs s c f → target_of f.is ≡ Some (p, m)
        → IsBy s e (found at (place p m standing.Shared))
    is_length : {e a : Expr} {op : Op1} {at : At} {f : Found} {p : Place} → out-Expr e ≡ Expr-F.Monadic op a at → made_monadic op ≡ None → IsBy s a f → array_in f.is ≡ Some p
        → IsBy s e (found at (computed (values.Length p) base.Int))
    is_monadic : {e a : Expr} {op : Op1} {o : Made1} {at : At} {f : Found} {x : Value} → out-Expr e ≡ Expr-F.Monadic op a at → made_monadic op ≡ Some o → IsBy s a f
        → suits f (basic (takes op (base_in f.is))) ≡ Ok x → IsBy s e (found at (computed (values.Monadic o x) (gives op (base_in f.is))))
    -- an operator of INT alone
    is_of_int : {e a b : Expr} {op : Op2} {at : At} {x y : Value} → out-Expr e ≡ Expr-F.Dyadic op a b at → of_int op ≡ true → FitsBy s a (basic base.Int) x → FitsBy s b (basic base.Int) y
        → IsBy s e (found at (computed (values.Dyadic (made_dyadic op base.Int) x y) base.Int))
    -- FRAC where the left operand is FRAC, else INT
    is_by_left : {e a b : Expr} {op : Op2} {at : At} {f : Found} {x y : Value} → out-Expr e ≡ Expr-F.Dyadic op a b at → of_int op ≡ false → IsBy s a f
        → suits f (basic (frac_or_int (base_in f.is))) ≡ Ok x → FitsBy s b (basic (right_takes op (frac_or_int (base_in f.is)))) y
        → IsBy s e (found at (computed (values.Dyadic (made_dyadic op (frac_or_int (base_in f.is))) x y) (frac_or_int (base_in f.is))))

  -- Chain c is f by itself: its name, and where its links lead.
  pub data ChainIs (s : Sight) : Chain → Found → Type 0 where
    led : {c : Chain} {is : Is} {f : Found} → Names s c (Ok is) → Leads s (begins c is) (out-Chain c).links f → ChainIs s c f

  pub data Leads (s : Sight) : Found → List Link → Found → Type 0 where
    here : {f : Found} → Leads s f [] f
    onward : {f g h : Found} {l : Link} {ls : List Link} → Follows s l f g → Leads s g ls h → Leads s f (l ∷ ls) h

  -- A link leads from one to the other.
  pub data Follows (s : Sight) : Link → Found → Found → Type 0 where
    to_field : {l : Link} {n : Ident} {at : At} {f : Found} {p : Place} {r k : ℕ} {st : Standing} {m : Mode} → out-Link l ≡ Link-F.Dot n at → record_in f.is ≡ Some (p, r, st)
        → field_of s.records r n.name ≡ Some (k, m) → Follows s l f (found f.at (place (places.Field p k) m st))
    to_element : {l : Link} {e : Expr} {at : At} {f : Found} {p : Place} {m : Mode} {st : Standing} {i : Value} → out-Link l ≡ Link-F.Apply (e ∷ []) at → reach f.is ≡ rows p m st
        → FitsBy s e (basic base.Int) i → Follows s l f (found f.at (place (places.Element p i) m st))
    to_call : {l : Link} {es : List Expr} {at : At} {f : Found} {c : Callee} {ps : List Mode} {r : Option Mode} {xs : List Value} → out-Link l ≡ Link-F.Apply es at → reach f.is ≡ calls c ps r
        → FitEach s es ps xs → length es ≡ length ps → Follows s l f (found f.at (called c r xs))

  -- Expression e is the value x where w is wanted.
  pub data FitsBy (s : Sight) : Expr → Want → Value → Type 0 where
    fits_by : {e : Expr} {w : Want} {f : Found} {x : Value} → IsBy s e f → suits f w ≡ Ok x → FitsBy s e w x

  -- The same of arguments that have a parameter, each where the parameter's mode is wanted.
  pub data FitEach (s : Sight) : List Expr → List Mode → List Value → Type 0 where
    no_argument : {ms : List Mode} → FitEach s [] ms []
    no_parameter : {es : List Expr} → FitEach s es [] []
    one_more : {e : Expr} {es : List Expr} {m : Mode} {ms : List Mode} {x : Value} {xs : List Value} → FitsBy s e (want m) x → FitEach s es ms xs → FitEach s (e ∷ es) (m ∷ ms) (x ∷ xs)

-- ---- what can be known

-- Where a part can't be known another stands for it; nothing looks at that.
abbrev pub any_value : Value
any_value = values.Number 0

-- all, where all are known
abbrev pub pushed : {A : Type 0} → Option A → Option (List A) → Option (List A)
pushed (Some a) (Some rest) = Some (a ∷ rest)
pushed _ _ = None

abbrev pub with_operand : At → Made1 → Base → Option Value → Judged
with_operand at o b x = let y = or_any any_value true x in seen_as y.1 at (computed (values.Monadic o y.0) b)

abbrev pub with_operands : At → Op2 → Base → Option (Value × Value) → Judged
with_operands at op b x = let y = or_any (any_value, any_value) true x in seen_as y.1 at (computed (values.Dyadic (made_dyadic op b) y.0.0 y.0.1) b)

abbrev pub with_subscript : At → Place → Mode → Standing → Bool → Option Value → Judged
with_subscript at p m st known i = let y = or_any any_value known i in seen_as y.1 at (place (places.Element p y.0) m st)

abbrev pub with_arguments : At → Callee → Option Mode → Bool → Option (List Value) → Judged
with_arguments at c r known xs = let y = or_any [] known xs in seen_as y.1 at (called c r y.0)

abbrev pub of_mode : At → Base → Judged
of_mode at b = seen_as false at (computed any_value b)

mutual
  -- Expression e is fit, and this can be known of it: what it is by itself, or nothing.
  pub data Shows (s : Sight) : Expr → Option Judged → Type 0 where
    shows_number : {e : Expr} {n : ℕ} {at : At} → out-Expr e ≡ Expr-F.Number n at → Shows s e (Some (seen_as true at (number n)))
    shows_text : {e : Expr} {t : List ℕ} {n : ℕ} {at : At} → out-Expr e ≡ Expr-F.Text t at → string_at s at ≡ Some n → Shows s e (Some (seen_as true at (text n)))
    shows_chain : {e : Expr} {c : Chain} {o : Option Judged} → out-Expr e ≡ Expr-F.Chain c → ShowsChain s c o → Shows s e o
    shows_val : {e : Expr} {c : Chain} {at : At} {j : Judged} {p : Place} {m : Mode} → out-Expr e ≡ Expr-F.Val c at → ShowsChain s c (Some j) → target_of j.found.is ≡ Some (p, m)
        → Shows s e (Some (seen_as j.known at (place p m standing.Shared)))
    hides_val : {e : Expr} {c : Chain} {at : At} → out-Expr e ≡ Expr-F.Val c at → ShowsChain s c None → Shows s e None
    shows_length : {e a : Expr} {op : Op1} {at : At} {j : Judged} {p : Place} → out-Expr e ≡ Expr-F.Monadic op a at → made_monadic op ≡ None → Shows s a (Some j) → array_in j.found.is ≡ Some p
        → Shows s e (Some (seen_as j.known at (computed (values.Length p) base.Int)))
    shows_monadic : {e a : Expr} {op : Op1} {o : Made1} {at : At} {j : Judged} (x : Option Value) → out-Expr e ≡ Expr-F.Monadic op a at → made_monadic op ≡ Some o → Shows s a (Some j)
        → suits_as j (basic (takes op (base_in j.found.is))) ≡ told x → Shows s e (Some (with_operand at o (gives op (base_in j.found.is)) x))
    -- Some operators give one mode, whatever their operand is.
    shows_always : {e a : Expr} {op : Op1} {at : At} {b : Base} → out-Expr e ≡ Expr-F.Monadic op a at → Shows s a None → gives_always op ≡ Some b → Shows s e (Some (of_mode at b))
    hides_monadic : {e a : Expr} {op : Op1} {at : At} → out-Expr e ≡ Expr-F.Monadic op a at → Shows s a None → gives_always op ≡ None → Shows s e None
    shows_of_int : {e a b : Expr} {op : Op2} {at : At} {x y : Option Value} → out-Expr e ≡ Expr-F.Dyadic op a b at → of_int op ≡ true → Takes s a (basic base.Int) x → Takes s b (basic base.Int) y
        → Shows s e (Some (with_operands at op base.Int (pair_of x y)))
    shows_by_left : {e a b : Expr} {op : Op2} {at : At} {j : Judged} (x : Option Value) {y : Option Value} → out-Expr e ≡ Expr-F.Dyadic op a b at → of_int op ≡ false → Shows s a (Some j)
        → suits_as j (basic (frac_or_int (base_in j.found.is))) ≡ told x → Takes s b (basic (right_takes op (frac_or_int (base_in j.found.is)))) y
        → Shows s e (Some (with_operands at op (frac_or_int (base_in j.found.is)) (pair_of x y)))
    hides_by_left : {e a b : Expr} {op : Op2} {at : At} → out-Expr e ≡ Expr-F.Dyadic op a b at → of_int op ≡ false → Shows s a None → RightAlone s op b → Shows s e None

  pub data ShowsChain (s : Sight) : Chain → Option Judged → Type 0 where
    shows_named : {c : Chain} {is : Is} {o : Option Judged} → Names s c (Ok is) → ShowsLinks s (Some (seen_as true (out-Chain c).at is)) (out-Chain c).links o → ShowsChain s c o
    hides_named : {c : Chain} {o : Option Judged} → Names s c unknown → ShowsLinks s None (out-Chain c).links o → ShowsChain s c o

  pub data ShowsLinks (s : Sight) : Option Judged → List Link → Option Judged → Type 0 where
    shows_here : {o : Option Judged} → ShowsLinks s o [] o
    shows_onward : {o p q : Option Judged} {l : Link} {ls : List Link} → ShowsLink s l o p → ShowsLinks s p ls q → ShowsLinks s o (l ∷ ls) q

  -- A link leads from one to the other, as far as they can be known.
  pub data ShowsLink (s : Sight) : Link → Option Judged → Option Judged → Type 0 where
    shows_field : {l : Link} {n : Ident} {at : At} {j : Judged} {p : Place} {r k : ℕ} {st : Standing} {m : Mode} {o : Option Judged} → out-Link l ≡ Link-F.Dot n at → record_in j.found.is ≡ Some (p, r, st)
        → first_field s.records r n.name ≡ Some (k, m) → field_with (is_label (out-Mode m)) j p st k m ≡ told o → ShowsLink s l (Some j) o
    shows_element : {l : Link} {e : Expr} {at : At} {j : Judged} {p : Place} {m : Mode} {st : Standing} {i : Option Value} → out-Link l ≡ Link-F.Apply (e ∷ []) at → reach j.found.is ≡ rows p m st
        → Takes s e (basic base.Int) i → ShowsLink s l (Some j) (Some (with_subscript j.found.at p m st j.known i))
    shows_call : {l : Link} {es : List Expr} {at : At} {j : Judged} {c : Callee} {ps : List Mode} {r : Option Mode} {xs : Option (List Value)} → out-Link l ≡ Link-F.Apply es at → reach j.found.is ≡ calls c ps r
        → TakeEach s es ps xs → length es ≡ length ps → ShowsLink s l (Some j) (Some (with_arguments j.found.at c r j.known xs))
    hides_field : {l : Link} {n : Ident} {at : At} → out-Link l ≡ Link-F.Dot n at → ShowsLink s l None None
    hides_apply : {l : Link} {es : List Expr} {at : At} → out-Link l ≡ Link-F.Apply es at → AllAlone s es → ShowsLink s l None None

  -- Expression e is fit where w is wanted, and is this value, or one that can't be known.
  pub data Takes (s : Sight) : Expr → Want → Option Value → Type 0 where
    is_taken : {e : Expr} {w : Want} {j : Judged} {x : Option Value} → Shows s e (Some j) → suits_as j w ≡ told x → Takes s e w x
    taken_hidden : {e : Expr} {w : Want} → Shows s e None → Takes s e w None

  -- The same of arguments that have a parameter.
  pub data TakeEach (s : Sight) : List Expr → List Mode → Option (List Value) → Type 0 where
    none_taken : {ms : List Mode} → TakeEach s [] ms (Some [])
    no_more_taken : {e : Expr} {es : List Expr} → TakeEach s (e ∷ es) [] (Some [])
    one_taken : {e : Expr} {es : List Expr} {m : Mode} {ms : List Mode} {x : Option Value} {xs : Option (List Value)} → Takes s e (want m) x → TakeEach s es ms xs → TakeEach s (e ∷ es) (m ∷ ms) (pushed x xs)

  -- Expression e is fit by itself, where no mode is known to be wanted.
  pub data Alone (s : Sight) : Expr → Type 0 where
    alone : {e : Expr} {j : Judged} → Shows s e (Some j) → alone_is j.found.at j.found.is ≡ fault.Unknown → Alone s e
    alone_hidden : {e : Expr} → Shows s e None → Alone s e

  pub data AllAlone (s : Sight) : List Expr → Type 0 where
    none_alone : AllAlone s []
    one_alone : {e : Expr} {es : List Expr} → Alone s e → AllAlone s es → AllAlone s (e ∷ es)

  -- The right operand is fit, where nothing is known of the left one: the count of a shift is INT.
  pub data RightAlone (s : Sight) : Op2 → Expr → Type 0 where
    alone_count : {op : Op2} {b : Expr} {y : Option Value} → is_shift op ≡ true → Takes s b (basic base.Int) y → RightAlone s op b
    alone_right : {op : Op2} {b : Expr} → is_shift op ≡ false → Alone s b → RightAlone s op b

-- ---- faults

mutual
  -- Fault g stands in expression e, whatever is wanted of it. A node that holds an unfit one isn't judged itself, and what needs what
  -- can't be known isn't; every other part is.
  pub data FaultIn (s : Sight) : Expr → CheckFault → Type 0 where
    no_string : {e : Expr} {t : List ℕ} {at : At} → out-Expr e ≡ Expr-F.Text t at → string_at s at ≡ None → FaultIn s e (fault.WrongMode at)
    in_chain : {e : Expr} {c : Chain} {g : CheckFault} → out-Expr e ≡ Expr-F.Chain c → FaultInChain s c g → FaultIn s e g
    in_val : {e : Expr} {c : Chain} {at : At} {g : CheckFault} → out-Expr e ≡ Expr-F.Val c at → FaultInChain s c g → FaultIn s e g
    no_ref : {e : Expr} {c : Chain} {at : At} {j : Judged} → out-Expr e ≡ Expr-F.Val c at → ShowsChain s c (Some j) → target_of j.found.is ≡ None → FaultIn s e (fault.WrongMode j.found.at)
    in_operand : {e a : Expr} {op : Op1} {at : At} {g : CheckFault} → out-Expr e ≡ Expr-F.Monadic op a at → FaultIn s a g → FaultIn s e g
    no_array : {e a : Expr} {op : Op1} {at : At} {j : Judged} → out-Expr e ≡ Expr-F.Monadic op a at → made_monadic op ≡ None → Shows s a (Some j) → array_in j.found.is ≡ None → FaultIn s e (fault.WrongMode j.found.at)
    unfit_operand : {e a : Expr} {op : Op1} {o : Made1} {at : At} {j : Judged} {g : CheckFault} → out-Expr e ≡ Expr-F.Monadic op a at → made_monadic op ≡ Some o → Shows s a (Some j)
        → suits j.found (basic (takes op (base_in j.found.is))) ≡ Err g → FaultIn s e g
    left_of_int : {e a b : Expr} {op : Op2} {at : At} {g : CheckFault} → out-Expr e ≡ Expr-F.Dyadic op a b at → of_int op ≡ true → Unfit s a (basic base.Int) g → FaultIn s e g
    right_of_int : {e a b : Expr} {op : Op2} {at : At} {g : CheckFault} → out-Expr e ≡ Expr-F.Dyadic op a b at → of_int op ≡ true → Unfit s b (basic base.Int) g → FaultIn s e g
    in_left : {e a b : Expr} {op : Op2} {at : At} {g : CheckFault} → out-Expr e ≡ Expr-F.Dyadic op a b at → of_int op ≡ false → FaultIn s a g → FaultIn s e g
    unfit_left : {e a b : Expr} {op : Op2} {at : At} {j : Judged} {g : CheckFault} → out-Expr e ≡ Expr-F.Dyadic op a b at → of_int op ≡ false → Shows s a (Some j)
        → suits j.found (basic (frac_or_int (base_in j.found.is))) ≡ Err g → FaultIn s e g
    unfit_right : {e a b : Expr} {op : Op2} {at : At} {j : Judged} {g : CheckFault} → out-Expr e ≡ Expr-F.Dyadic op a b at → of_int op ≡ false → Shows s a (Some j)
        → Unfit s b (basic (right_takes op (frac_or_int (base_in j.found.is)))) g → FaultIn s e g
    unfit_count : {e a b : Expr} {op : Op2} {at : At} {g : CheckFault} → out-Expr e ≡ Expr-F.Dyadic op a b at → of_int op ≡ false → Nothing s a → is_shift op ≡ true → Unfit s b (basic base.Int) g → FaultIn s e g
    right_by_itself : {e a b : Expr} {op : Op2} {at : At} {g : CheckFault} → out-Expr e ≡ Expr-F.Dyadic op a b at → of_int op ≡ false → Nothing s a → is_shift op ≡ false → UnfitAlone s b g → FaultIn s e g

  pub data FaultInChain (s : Sight) : Chain → CheckFault → Type 0 where
    in_name : {c : Chain} {g : CheckFault} → Names s c (Err g) → is_unknown g ≡ false → FaultInChain s c g
    in_links : {c : Chain} {is : Is} {g : CheckFault} → Names s c (Ok is) → FaultInLinks s (Some (seen_as true (out-Chain c).at is)) (out-Chain c).links g → FaultInChain s c g
    behind_name : {c : Chain} {f g : CheckFault} → Names s c (Err f) → FaultInLinks s None (out-Chain c).links g → FaultInChain s c g

  -- The same in links behind what this is known of. Behind a link that is unfit nothing is known.
  pub data FaultInLinks (s : Sight) : Option Judged → List Link → CheckFault → Type 0 where
    at_first : {o : Option Judged} {l : Link} {ls : List Link} {g : CheckFault} → FaultInLink s l o g → FaultInLinks s o (l ∷ ls) g
    at_later : {o p : Option Judged} {l : Link} {ls : List Link} {g : CheckFault} → ShowsLink s l o p → FaultInLinks s p ls g → FaultInLinks s o (l ∷ ls) g
    behind_unfit : {o : Option Judged} {l : Link} {ls : List Link} {f g : CheckFault} → FaultInLink s l o f → FaultInLinks s None ls g → FaultInLinks s o (l ∷ ls) g

  pub data FaultInLink (s : Sight) : Link → Option Judged → CheckFault → Type 0 where
    no_record : {l : Link} {n : Ident} {at : At} {j : Judged} → out-Link l ≡ Link-F.Dot n at → record_in j.found.is ≡ None → FaultInLink s l (Some j) (fault.WrongMode at)
    no_field : {l : Link} {n : Ident} {at : At} {j : Judged} {p : Place} {r : ℕ} {st : Standing} → out-Link l ≡ Link-F.Dot n at → record_in j.found.is ≡ Some (p, r, st)
        → first_field s.records r n.name ≡ None → FaultInLink s l (Some j) (fault.UnknownName n.at)
    no_call : {l : Link} {es : List Expr} {at : At} {j : Judged} → out-Link l ≡ Link-F.Apply es at → reach j.found.is ≡ neither → FaultInLink s l (Some j) (fault.WrongMode at)
    not_one : {l : Link} {es : List Expr} {at : At} {j : Judged} {p : Place} {m : Mode} {st : Standing} → out-Link l ≡ Link-F.Apply es at → reach j.found.is ≡ rows p m st → length es ≢ 1
        → FaultInLink s l (Some j) (fault.WrongMode at)
    in_subscript : {l : Link} {e : Expr} {at : At} {j : Judged} {p : Place} {m : Mode} {st : Standing} {g : CheckFault} → out-Link l ≡ Link-F.Apply (e ∷ []) at → reach j.found.is ≡ rows p m st
        → Unfit s e (basic base.Int) g → FaultInLink s l (Some j) g
    in_argument : {l : Link} {es : List Expr} {at : At} {j : Judged} {c : Callee} {ps : List Mode} {r : Option Mode} {g : CheckFault} → out-Link l ≡ Link-F.Apply es at → reach j.found.is ≡ calls c ps r
        → UnfitAmong s es ps g → FaultInLink s l (Some j) g
    in_count : {l : Link} {es : List Expr} {at : At} {j : Judged} {c : Callee} {ps : List Mode} {r : Option Mode} {xs : Option (List Value)} → out-Link l ≡ Link-F.Apply es at → reach j.found.is ≡ calls c ps r
        → TakeEach s es ps xs → length es ≢ length ps → FaultInLink s l (Some j) (fault.WrongCount j.found.at)
    by_itself : {l : Link} {es : List Expr} {at : At} {g : CheckFault} → out-Link l ≡ Link-F.Apply es at → UnfitSomewhere s es g → FaultInLink s l None g

  -- Fault g stands in expression e where w is wanted.
  pub data Unfit (s : Sight) : Expr → Want → CheckFault → Type 0 where
    unfit_inside : {e : Expr} {w : Want} {g : CheckFault} → FaultIn s e g → Unfit s e w g
    unfit_here : {e : Expr} {w : Want} {j : Judged} {g : CheckFault} → Shows s e (Some j) → suits j.found w ≡ Err g → Unfit s e w g

  -- It stands in an argument that has a parameter.
  pub data UnfitAmong (s : Sight) : List Expr → List Mode → CheckFault → Type 0 where
    unfit_first : {e : Expr} {es : List Expr} {m : Mode} {ms : List Mode} {g : CheckFault} → Unfit s e (want m) g → UnfitAmong s (e ∷ es) (m ∷ ms) g
    unfit_rest : {e : Expr} {es : List Expr} {m : Mode} {ms : List Mode} {g : CheckFault} → UnfitAmong s es ms g → UnfitAmong s (e ∷ es) (m ∷ ms) g

  -- It stands in expression e by itself, where no mode is known to be wanted: a call without result fits no mode.
  pub data UnfitAlone (s : Sight) : Expr → CheckFault → Type 0 where
    alone_inside : {e : Expr} {g : CheckFault} → FaultIn s e g → UnfitAlone s e g
    alone_done : {e : Expr} {j : Judged} {v : Value} → Shows s e (Some j) → j.found.is ≡ done v → UnfitAlone s e (fault.WrongMode j.found.at)

  pub data UnfitSomewhere (s : Sight) : List Expr → CheckFault → Type 0 where
    somewhere_first : {e : Expr} {es : List Expr} {g : CheckFault} → UnfitAlone s e g → UnfitSomewhere s (e ∷ es) g
    somewhere_later : {e : Expr} {es : List Expr} {g : CheckFault} → UnfitSomewhere s es g → UnfitSomewhere s (e ∷ es) g

  -- Nothing is known of expression e: it can't be, or a fault stands in it.
  pub data Nothing (s : Sight) : Expr → Type 0 where
    hidden : {e : Expr} → Shows s e None → Nothing s e
    unfit : {e : Expr} {g : CheckFault} → FaultIn s e g → Nothing s e

-- the value that an expression is where a mode is wanted
abbrev pub Fits : Sight → Expr → Mode → Value → Type 0
Fits s e m x = FitsBy s e (want m) x

-- a fault that stands in an expression where a mode is wanted
abbrev pub Faulty : Sight → Expr → Mode → CheckFault → Type 0
Faulty s e m g = Unfit s e (want m) g

-- ---- places that are assigned, and calls that stand alone

-- the name of a data or stack brick alone
abbrev pub IsBrickName : Sight → Chain → Bool → Type 0
IsBrickName s c b = is_brick (find s (out-Chain c).name) (out-Chain c).links ≡ b

-- A chain assigns the place, which has the mode.
pub data Assigns (s : Sight) : Chain → Place × Mode → Type 0 where
  assigns : {c : Chain} {f : Found} {p : Place} {m : Mode} → IsBrickName s c false → ChainIs s c f → assigned (known f) ≡ Ok (Some p, m) → Assigns s c (p, m)

pub data NotAssigned (s : Sight) : Chain → CheckFault → Type 0 where
  to_brick : {c : Chain} → IsBrickName s c true → NotAssigned s c (fault.NotAssignable (out-Chain c).at)
  in_target : {c : Chain} {g : CheckFault} → IsBrickName s c false → FaultInChain s c g → NotAssigned s c g
  no_target : {c : Chain} {j : Judged} {g : CheckFault} → IsBrickName s c false → ShowsChain s c (Some j) → assigned j ≡ Err g → NotAssigned s c g

-- A chain assigns a place that can't be known, but of the mode.
pub data AssignsMode (s : Sight) : Chain → Mode → Type 0 where
  assigns_of_mode : {c : Chain} {j : Judged} {m : Mode} → IsBrickName s c false → ShowsChain s c (Some j) → assigned j ≡ Ok (None, m) → AssignsMode s c m

-- It assigns the place, or one that can't be known, of the mode.
abbrev pub AssignsAs : Sight → Chain → Option Place × Mode → Type 0
AssignsAs s c (Some p, m) = Assigns s c (p, m)
AssignsAs s c (None, m) = AssignsMode s c m

-- VAL, which stands at an item, and a chain assign the place, which has the mode.
pub data AssignsVal (s : Sight) (at : At) : Chain → Place × Mode → Type 0 where
  assigns_val : {c : Chain} {f : Found} {p q : Place} {m n : Mode} → ChainIs s c f → target_of f.is ≡ Some (p, m) → assigned (seen_as true at (place p m standing.Shared)) ≡ Ok (Some q, n) → AssignsVal s at c (q, n)

pub data NotAssignedVal (s : Sight) (at : At) : Chain → CheckFault → Type 0 where
  in_val_target : {c : Chain} {g : CheckFault} → FaultInChain s c g → NotAssignedVal s at c g
  no_ref_target : {c : Chain} {j : Judged} → ShowsChain s c (Some j) → target_of j.found.is ≡ None → NotAssignedVal s at c (fault.WrongMode j.found.at)
  no_val_target : {c : Chain} {j : Judged} {p : Place} {m : Mode} {g : CheckFault} → ShowsChain s c (Some j) → target_of j.found.is ≡ Some (p, m) → assigned (seen_as j.known at (place p m standing.Shared)) ≡ Err g → NotAssignedVal s at c g

pub data AssignsValMode (s : Sight) (at : At) : Chain → Mode → Type 0 where
  assigns_val_of_mode : {c : Chain} {j : Judged} {p : Place} {m n : Mode} → ShowsChain s c (Some j) → target_of j.found.is ≡ Some (p, m) → assigned (seen_as j.known at (place p m standing.Shared)) ≡ Ok (None, n) → AssignsValMode s at c n

abbrev pub AssignsValAs : Sight → At → Chain → Option Place × Mode → Type 0
AssignsValAs s at c (Some p, m) = AssignsVal s at c (p, m)
AssignsValAs s at c (None, m) = AssignsValMode s at c m

-- A chain that stands alone is the call.
pub data CallIs (s : Sight) : Chain → Value → Type 0 where
  call_is : {c : Chain} {f : Found} {x : Value} → ChainIs s c f → called_is f.at f.is ≡ Ok x → CallIs s c x

pub data NoCall (s : Sight) : Chain → CheckFault → Type 0 where
  in_call : {c : Chain} {g : CheckFault} → FaultInChain s c g → NoCall s c g
  no_call_is : {c : Chain} {j : Judged} {g : CheckFault} → ShowsChain s c (Some j) → called_is j.found.at j.found.is ≡ Err g → NoCall s c g
  -- what doesn't end in parentheses is no call, whatever it is
  ends_in_no_call : {c : Chain} → ShowsChain s c None → ends_in_apply (out-Chain c).links ≡ false → NoCall s c (fault.WrongMode (out-Chain c).at)

-- ---- conditions

mutual
  -- Condition c is the test t.
  pub data TestIs (s : Sight) : Cond → Test → Type 0 where
    is_or : {c : Cond} {cs : List Cond} {at : At} {ts : List Test} → out-Cond c ≡ Cond-F.Or cs at → TestsAre s cs ts → TestIs s c (tests.Or ts)
    is_and : {c : Cond} {cs : List Cond} {at : At} {ts : List Test} → out-Cond c ≡ Cond-F.And cs at → TestsAre s cs ts → TestIs s c (tests.And ts)
    -- what is wanted of both sides is said by the left one
    is_comparison : {c : Cond} {r : Rel} {a b : Expr} {at : At} {f : Found} {w : Want} {x y : Value} → out-Cond c ≡ Cond-F.Compare r a b at → IsBy s a f → compares r f.is ≡ Some w
        → suits f w ≡ Ok x → FitsBy s b w y → TestIs s c (tests.Compare (made_rel r) x y)

  pub data TestsAre (s : Sight) : List Cond → List Test → Type 0 where
    no_test : TestsAre s [] []
    one_test : {c : Cond} {cs : List Cond} {t : Test} {ts : List Test} → TestIs s c t → TestsAre s cs ts → TestsAre s (c ∷ cs) (t ∷ ts)

mutual
  -- Fault g stands in condition c.
  pub data FaultInTest (s : Sight) : Cond → CheckFault → Type 0 where
    in_or : {c : Cond} {cs : List Cond} {at : At} {g : CheckFault} → out-Cond c ≡ Cond-F.Or cs at → FaultAmong s cs g → FaultInTest s c g
    in_and : {c : Cond} {cs : List Cond} {at : At} {g : CheckFault} → out-Cond c ≡ Cond-F.And cs at → FaultAmong s cs g → FaultInTest s c g
    in_left_side : {c : Cond} {r : Rel} {a b : Expr} {at : At} {g : CheckFault} → out-Cond c ≡ Cond-F.Compare r a b at → FaultIn s a g → FaultInTest s c g
    no_reference : {c : Cond} {r : Rel} {a b : Expr} {at : At} {j : Judged} → out-Cond c ≡ Cond-F.Compare r a b at → Shows s a (Some j) → compares r j.found.is ≡ None → FaultInTest s c (fault.WrongMode j.found.at)
    unfit_left_side : {c : Cond} {r : Rel} {a b : Expr} {at : At} {j : Judged} {w : Want} {g : CheckFault} → out-Cond c ≡ Cond-F.Compare r a b at → Shows s a (Some j) → compares r j.found.is ≡ Some w
        → suits j.found w ≡ Err g → FaultInTest s c g
    unfit_right_side : {c : Cond} {r : Rel} {a b : Expr} {at : At} {j : Judged} {w : Want} {g : CheckFault} → out-Cond c ≡ Cond-F.Compare r a b at → Shows s a (Some j) → compares r j.found.is ≡ Some w
        → Unfit s b w g → FaultInTest s c g
    -- Where what is wanted can't be known the right side is judged by itself.
    unfit_by_itself : {c : Cond} {r : Rel} {a b : Expr} {at : At} {g : CheckFault} → out-Cond c ≡ Cond-F.Compare r a b at → Nothing s a → UnfitAlone s b g → FaultInTest s c g
    unfit_unwanted : {c : Cond} {r : Rel} {a b : Expr} {at : At} {j : Judged} {g : CheckFault} → out-Cond c ≡ Cond-F.Compare r a b at → Shows s a (Some j) → compares r j.found.is ≡ None → UnfitAlone s b g → FaultInTest s c g

  pub data FaultAmong (s : Sight) : List Cond → CheckFault → Type 0 where
    first_test : {c : Cond} {cs : List Cond} {g : CheckFault} → FaultInTest s c g → FaultAmong s (c ∷ cs) g
    later_test : {c : Cond} {cs : List Cond} {g : CheckFault} → FaultAmong s cs g → FaultAmong s (c ∷ cs) g
