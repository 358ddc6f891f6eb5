-- What the address of an operand changes of the registers is given back.
use Rattle.std.proofs.Common.{◌≡◌, ℕ, zero, suc, ◌<◌, ◌/◌, ◌%◌, List, [], ◌∷◌, Bool, true, false, ◌==◌, if◌then◌else◌, Result, Ok, Err, refl, sym, ap, subst, ◌∙◌, arith}
use Rattle.std.specs.Prelude.{slice_index, slice_set}
use Rattle.std.proofs.Math.Seq.{set-set}
use Rattle.std.proofs.lemmas.List.{set-get_or}
use Rattle.rt_words.specs.Word.{wrap_add, wrap_sub}
use Rattle.pdp_code.specs.Code.{reg_code}
use Rattle.pdp_code.specs.First.{reg_of, pointer_of, operand_at, operand_of}
use Rattle.pdp_code.specs.declared.instruction.Reg.{Reg}
use Rattle.pdp_code.specs.declared.instruction.Reg.TheVariants.{Pc}
use Rattle.pdp_code.specs.declared.instruction.Operand.{Operand}
use Rattle.pdp_code.specs.declared.instruction.Operand.TheVariants.{Register, Deferred, Increment, IncrementDeferred, Decrement, DecrementDeferred, Index, IndexDeferred, Immediate, Absolute}
use Rattle.pdp_code.specs.declared.instruction.Size.{Size}
use Rattle.pdp_core.specs.declared.cpu.Regs.{Regs}
use Rattle.pdp_core.specs.declared.cpu.Failure.{Failure}
use Rattle.pdp_core.specs.declared.cpu.Place.{Place}
use Rattle.pdp_core.specs.declared.cpu.Place.TheVariants.{InMemory, InCode}
use Rattle.pdp_core.specs.World.{World}
use Rattle.pdp_core.specs.Kept.{AllButCounter}
use Rattle.pdp_core.specs.Execute.{and_then, reg, with_reg, pointer_reg, stride, fetch, load_word, past_word, next_word, address, load, operand}

-- one word of a list given back, and two
once : (l : List ℕ) (i a : ℕ) → slice_set (slice_set l i a) i (slice_index l i) ≡ l
once l i a = set-set l i a (slice_index l i) ∙ set-get_or l i 0

twice : (l : List ℕ) (i j a : ℕ) → slice_set (slice_set (slice_set l j a) i (slice_index l i)) j (slice_index l j) ≡ l
twice [] i j a = refl
twice (x ∷ xs) zero zero a = refl
twice (x ∷ xs) zero (suc j) a = ap (λ (r : List ℕ). x ∷ r) (once xs j a)
twice (x ∷ xs) (suc i) zero a = ap (λ (r : List ℕ). x ∷ r) (set-get_or xs i 0)
twice (x ∷ xs) (suc i) (suc j) a = ap (λ (r : List ℕ). x ∷ r) (twice xs i j a)

-- a word that is put where another one was put before
over : (l : List ℕ) (i j a b c : ℕ) → slice_set (slice_set (slice_set l j a) i b) j c ≡ slice_set (slice_set l i b) j c
over [] i j a b c = refl
over (x ∷ xs) zero zero a b c = refl
over (x ∷ xs) zero (suc j) a b c = ap (λ (r : List ℕ). b ∷ r) (set-set xs j a c)
over (x ∷ xs) (suc i) zero a b c = refl
over (x ∷ xs) (suc i) (suc j) a b c = ap (λ (r : List ℕ). x ∷ r) (over xs i j a b c)

-- the registers h with the words that a register and the program counter have in g
abbrev pub given_back : Regs → Regs → Reg → Regs
given_back g h r = with_reg (with_reg h r (reg g r)) Pc (reg g Pc)

pub counter_itself : (g : Regs) → AllButCounter g g
counter_itself g = ap (λ (l : List ℕ). record g { r = l }) (set-get_or g.r 7 0)

counter_back : (g : Regs) (a : ℕ) → AllButCounter g (with_reg g Pc a)
counter_back g a = ap (λ (l : List ℕ). record g { r = l }) (once g.r 7 a)

-- with registers that differ from those that were stepped on in the program counter alone
pub counter_stepped : (g k : Regs) (a : ℕ) → AllButCounter (with_reg g Pc a) k → AllButCounter g k
counter_stepped g k a near =
    sym (ap (λ (l : List ℕ). record k { r = l }) (set-set k.r 7 (reg (with_reg g Pc a) Pc) (reg g Pc))) ∙ ap (λ (m : Regs). with_reg m Pc (reg g Pc)) near ∙ counter_back g a

after_none : (g : Regs) (r : Reg) → given_back g g r ≡ g
after_none g r = ap (λ (l : List ℕ). record g { r = slice_set l 7 (slice_index g.r 7) }) (set-get_or g.r (reg_code r) 0) ∙ counter_itself g

after_one : (g : Regs) (r : Reg) (a : ℕ) → given_back g (with_reg g r a) r ≡ g
after_one g r a = ap (λ (l : List ℕ). record g { r = slice_set l 7 (slice_index g.r 7) }) (once g.r (reg_code r) a) ∙ counter_itself g

after_counter : (g : Regs) (r : Reg) (a : ℕ) → given_back g (with_reg g Pc a) r ≡ g
after_counter g r a = ap (λ (l : List ℕ). record g { r = l }) (twice g.r (reg_code r) 7 a)

-- the register of an operand
abbrev of_operand : Operand → Reg
of_operand (Register r) = r
of_operand (Deferred r) = r
of_operand (Increment p) = pointer_reg p
of_operand (IncrementDeferred p) = pointer_reg p
of_operand (Decrement r) = r
of_operand (DecrementDeferred r) = r
of_operand (Index r x) = r
of_operand (IndexDeferred r x) = r
of_operand (Immediate x) = Pc
of_operand (Absolute x) = Pc

-- where something was found with registers, these can be given back
abbrev Back : {A : Type 0} → Regs → Reg → Result (A × Regs) Failure → Type 0
Back g r (Ok p) = given_back g p.1 r ≡ g
Back g r (Err e) = Unit {0}

back_with : {A B : Type 0} (g : Regs) (r : Reg) (h : Regs) (m : Result A Failure) (f : A → B) → given_back g h r ≡ g → Back g r (and_then m (λ x. Ok (f x, h)))
back_with g r h (Ok x) f e = e
back_with g r h (Err x) f e = tt

back_by_word : {B : Type 0} (w : World) (g : Regs) (r : Reg) (f : ℕ × Regs → B) → Back g r (and_then (next_word w g) (λ n. Ok (f n, n.1)))
back_by_word w g r f = elim (fetch w (reg g Pc)) as (λ (m : Result ℕ Failure). Back g r (and_then (and_then m (λ x. Ok (x, past_word g))) (λ n. Ok (f n, n.1)))) [ Ok x ↦ after_counter g r (wrap_add (reg g Pc) 2) | Err e ↦ tt ]

back_by_read : {A B : Type 0} (w : World) (g : Regs) (r : Reg) (m : ℕ × Regs → Result A Failure) (f : A → B) → Back g r (and_then (next_word w g) (λ n. and_then (m n) (λ a. Ok (f a, n.1))))
back_by_read w g r m f = elim (fetch w (reg g Pc)) as (λ (v : Result ℕ Failure). Back g r (and_then (and_then v (λ x. Ok (x, past_word g))) (λ n. and_then (m n) (λ a. Ok (f a, n.1))))) [ Ok x ↦ back_with g r (past_word g) (m (x, past_word g)) f (after_counter g r (wrap_add (reg g Pc) 2)) | Err e ↦ tt ]

address_back : (w : World) (z : Size) (g : Regs) (o : Operand) → Back g (of_operand o) (address w z g o)
address_back w z g (Register r) = after_none g r
address_back w z g (Deferred r) = after_none g r
address_back w z g (Increment p) = after_one g (pointer_reg p) (wrap_add (reg g (pointer_reg p)) (stride z (pointer_reg p)))
address_back w z g (IncrementDeferred p) = back_with g (pointer_reg p) (with_reg g (pointer_reg p) (wrap_add (reg g (pointer_reg p)) 2)) (load_word w (reg g (pointer_reg p))) (λ a. InMemory a) (after_one g (pointer_reg p) (wrap_add (reg g (pointer_reg p)) 2))
address_back w z g (Decrement r) = after_one g r (wrap_sub (reg g r) (stride z r))
address_back w z g (DecrementDeferred r) = back_with g r (with_reg g r (wrap_sub (reg g r) 2)) (load_word w (wrap_sub (reg g r) 2)) (λ a. InMemory a) (after_one g r (wrap_sub (reg g r) 2))
address_back w z g (Index r x) = back_by_word w g r (λ n. InMemory (wrap_add n.0 (reg n.1 r)))
address_back w z g (IndexDeferred r x) = back_by_read w g r (λ n. load_word w (wrap_add n.0 (reg n.1 r))) (λ a. InMemory a)
address_back w z g (Immediate x) = back_by_word w g Pc (λ n. InCode (reg g Pc) n.0)
address_back w z g (Absolute x) = back_by_word w g Pc (λ n. InMemory n.0)

operand_back : (w : World) (z : Size) (g : Regs) (r : Reg) (m : Result (Place × Regs) Failure) → Back g r m → Back g r (and_then m (λ p. and_then (load w z p.1 p.0) (λ x. Ok (x, p.1))))
operand_back w z g r (Ok p) b = back_with g r p.1 (load w z p.1 p.0) (λ x. x) b
operand_back w z g r (Err e) b = tt

counted : (r : ℕ) → r < 8 → (if r == 7 then Pc else pointer_reg (pointer_of r)) ≡ reg_of r
counted zero h = refl
counted (suc zero) h = refl
counted (suc (suc zero)) h = refl
counted (suc (suc (suc zero))) h = refl
counted (suc (suc (suc (suc zero)))) h = refl
counted (suc (suc (suc (suc (suc zero))))) h = refl
counted (suc (suc (suc (suc (suc (suc zero)))))) h = refl
counted (suc (suc (suc (suc (suc (suc (suc zero))))))) h = refl
counted (suc (suc (suc (suc (suc (suc (suc (suc r)))))))) h = absurd (omega arith)

-- by what is tested of the mode, and whether the register is the program counter
by_mode : (a b c d e f g i : Bool) (r : ℕ) → (if i then Pc else pointer_reg (pointer_of r)) ≡ reg_of r → of_operand (if a then Register (reg_of r) else if b then Deferred (reg_of r) else if c then (if i then Immediate 0 else Increment (pointer_of r)) else if d then (if i then Absolute 0 else IncrementDeferred (pointer_of r)) else if e then Decrement (reg_of r) else if f then DecrementDeferred (reg_of r) else if g then Index (reg_of r) 0 else IndexDeferred (reg_of r) 0) ≡ reg_of r
by_mode true b c d e f g i r q = refl
by_mode false true c d e f g i r q = refl
by_mode false false true d e f g true r q = q
by_mode false false true d e f g false r q = q
by_mode false false false true e f g true r q = q
by_mode false false false true e f g false r q = q
by_mode false false false false true f g i r q = refl
by_mode false false false false false true g i r q = refl
by_mode false false false false false false true i r q = refl
by_mode false false false false false false false i r q = refl

register_at : (m r : ℕ) → r < 8 → of_operand (operand_at m r) ≡ reg_of r
register_at m r h = by_mode (m == 0) (m == 1) (m == 2) (m == 3) (m == 4) (m == 5) (m == 6) (r == 7) r (counted r h)

-- what an operand was found with, and what it was read with
pub found_given_back : (w : World) (z : Size) (g : Regs) (n : ℕ) (p : Place) (h : Regs) → address w z g (operand_of n) ≡ Ok (p, h) → given_back g h (reg_of (n % 8)) ≡ g
found_given_back w z g n p h e = subst (λ (r : Reg). given_back g h r ≡ g) (register_at (n / 8) (n % 8) (omega arith)) (subst (λ (m : Result (Place × Regs) Failure). Back g (of_operand (operand_of n)) m) e (address_back w z g (operand_of n)))

pub read_given_back : (w : World) (z : Size) (g : Regs) (n x : ℕ) (h : Regs) → operand w z g (operand_of n) ≡ Ok (x, h) → given_back g h (reg_of (n % 8)) ≡ g
read_given_back w z g n x h e = subst (λ (r : Reg). given_back g h r ≡ g) (register_at (n / 8) (n % 8) (omega arith)) (subst (λ (m : Result (ℕ × Regs) Failure). Back g (of_operand (operand_of n)) m) e (operand_back w z g (of_operand (operand_of n)) (address w z g (operand_of n)) (address_back w z g (operand_of n))))

-- what the next word was fetched with
abbrev Behind : Regs → Result (ℕ × Regs) Failure → Type 0
Behind g (Ok p) = AllButCounter g p.1
Behind g (Err e) = Unit {0}

pub word_given_back : (w : World) (g : Regs) (x : ℕ) (h : Regs) → next_word w g ≡ Ok (x, h) → AllButCounter g h
word_given_back w g x h e = subst (λ (m : Result (ℕ × Regs) Failure). Behind g m) e (elim (fetch w (reg g Pc)) as (λ (m : Result ℕ Failure). Behind g (and_then m (λ v. Ok (v, past_word g)))) [ Ok v ↦ counter_back g (wrap_add (reg g Pc) 2) | Err f ↦ tt ])

-- a word that was put back, where what followed has changed the program counter at most
pub undone : (g h k m : Regs) (r : Reg) (x : ℕ) → given_back g h r ≡ g → AllButCounter h k → x ≡ reg g r → m ≡ with_reg k r x → AllButCounter g m
undone g h k m r x back near first put =
    ap (λ (v : Regs). with_reg v Pc (reg g Pc)) put
    ∙ ap (λ (v : ℕ). with_reg (with_reg k r v) Pc (reg g Pc)) first
    ∙ sym (ap (λ (l : List ℕ). record k { r = l }) (over k.r (reg_code r) 7 (reg h Pc) (reg g r) (reg g Pc)))
    ∙ ap (λ (v : Regs). with_reg (with_reg v r (reg g r)) Pc (reg g Pc)) near
    ∙ back
