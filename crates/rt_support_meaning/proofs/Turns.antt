-- The routine that counts the turns of a FOR.
use Rattle.std.proofs.Common.{◌≡◌, ℕ, zero, suc, ◌+◌, ◌-◌, ◌*◌, ◌/◌, ◌%◌, ◌<◌, ◌≤◌, ◌==◌, ◌&&◌, Bool, true, false, not, List, [], ◌∷◌, length, map, drop, refl, sym, ap, ◌∙◌, subst, arith, eqb-true}
use Rattle.std.specs.Prelude.{nat_lt}
use Rattle.std.proofs.lemmas.Bool.{leb-true, leb-false}
use Rattle.rt_words.specs.Word.{wrap_add, wrap_sub, is_negative, differ}
use Rattle.rt_tree_nodes.specs.declared.store.Datum.{Datum}
use Rattle.rt_work.specs.Numbers.{turns, is_less, distance}
use Rattle.rt_meaning.specs.Step.{Act}
use Rattle.pdp_code.specs.declared.instruction.Reg.TheVariants.{R0, R1, R2, R3, Pc}
use Rattle.pdp_code.specs.declared.instruction.Operand.TheVariants.{Register}
use Rattle.pdp_code.specs.declared.instruction.Size.TheVariants.{Word as AsWord}
use Rattle.pdp_code.specs.declared.instruction.Condition.TheVariants.{Always, Equal, Less, Greater, Plus, Minus, NoOverflow}
use Rattle.pdp_code.specs.declared.instruction.DoubleOp.TheVariants.{Mov, Cmp}
use Rattle.pdp_code.specs.declared.instruction.SumOp.TheVariants.{Sub}
use Rattle.pdp_code.specs.declared.instruction.SingleOp.TheVariants.{Clr, Dec, Neg, Tst}
use Rattle.pdp_code.specs.declared.instruction.RegisterOp.TheVariants.{Div}
use Rattle.pdp_code.specs.declared.instruction.Instr.{Instr}
use Rattle.pdp_code.specs.declared.instruction.Instr.TheVariants.{Double, Sum, Single, OnRegister, Branch, Return, Flags}
use Rattle.pdp_code.specs.Code.{words_of, IsCodable}
use Rattle.pdp_code.specs.Values.{too_large, quotient_word, remainder_word}
use Rattle.pdp_symbolic.specs.Machine.{Machine, Stands}
use Rattle.pdp_symbolic.specs.Acts.{act}
use Rattle.pdp_symbolic.specs.Plans.{Asked}
use Rattle.rt_templates.specs.Supported.{turns as turns_lines}
use Rattle.rt_follows.specs.Whole.{Whole, Home, Lays, Sits}
use Rattle.rt_follows.specs.Held.{layout, CodeAt, Holds}
use Rattle.rt_follows.specs.Runs.{Tracks, Counts, CountIs}
use Rattle.rt_follows.proofs.Step.{stays, quietly}
use Rattle.rt_support_meaning.specs.Support.{marked, support_code, SupportAt}
use Rattle.rt_follows.specs.Runs.{Serves, AnyStack}
use Rattle.rt_support_meaning.proofs.Pieces.{code_drop, code_take}
use Rattle.rt_support_meaning.proofs.Numbers.{less_is, greater_is, up_distance, down_distance, near, turns_up, none_up, turns_down, none_down, up_divides, up_too_large, down_divides, down_too_large, none_divides, none_too_large, back_again, no_distance, some_distance, by_one, none_by}

never : true ≡ false → ⊥
never e = absurd cc

positive : (b : ℕ) → (b == 0) ≡ false → 0 < b
positive zero e = absurd cc
positive (suc b) e = omega arith

not_true : (b : Bool) → not b ≡ true → b ≡ false
not_true true e = absurd (never (sym e))
not_true false e = refl

not_false : (b : Bool) → not b ≡ false → b ≡ true
not_false true e = refl
not_false false e = absurd (never e)

not_zero : (n : ℕ) → (n == 0) ≡ false → n ≡ 0 → ⊥
not_zero n e f = never (sym (ap (λ i. i == 0) f) ∙ e)

module _ (w : Whole) (lays : Lays w) (h : Home) (sits : Sits w h) (code : CodeAt w h 184 (map marked turns_lines)) (k : ℕ) (u : Machine) (back : ℕ) (stack : List ℕ) (a : Act) (cs : List Act) (own : List Datum) (most : ℕ) (enough : most ≤ w.bound)
    (done : (j r : ℕ) (v : Machine) → j < k → r ≤ most → v.pc ≡ back → v.stack ≡ stack → v.r5 ≡ u.r5 → CountIs (turns u.r2 u.r3 u.r1) v → Tracks w h j r v a cs own) where
  abbrev count : ℕ
  count = turns u.r2 u.r3 u.r1

  -- the machine at an address of the routine: R2 and R3 stay
  abbrev pub at : ℕ → ℕ → ℕ → Bool → Bool → Bool → Bool → Machine
  at p r0 r1 n z v c = record u { pc = p; r0 = r0; r1 = r1; n = n; z = z; v = v; c = c; stack = back ∷ stack }

  -- it goes on so, for up to k instructions, where so many unmarked ones may come yet
  abbrev Goes : ℕ → Machine → Type 0
  Goes need v = (j q : ℕ) → j ≤ k → q + need ≤ most → Tracks w h j q v a cs own

  -- one instruction
  quiet_step : (i : Instr) (v : Machine) (need : ℕ) → IsCodable i → Stands (layout w h) v.pc (words_of i) → w.marks v.pc ≡ 0
      → ((m : ℕ → ℕ) → Holds w h v own m → (j q : ℕ) → suc j ≤ k → q + suc need ≤ most → Asked (layout w h) (act i v) (λ e y. (e ≡ []) × (y.block ≡ v.block) × Tracks w h j (suc q) y a cs own)) → Goes (suc need) v
  quiet_step i v need codable here mark asked zero q less few = λ m s. stays w h q v a cs own m (omega (arith, few, enough)) s
  quiet_step i v need codable here mark asked (suc j) q less few = quietly w lays h sits i v a cs own j q codable here mark (omega (arith, few, enough)) (λ m s. asked m s j q less few)

  -- ---- the ends

  comes_back : (p r0 r1 : ℕ) (n z v c : Bool) → Stands (layout w h) p (words_of (Return Pc)) → w.marks p ≡ 0 → ((y : Machine) → y.r0 ≡ r0 → y.c ≡ c → CountIs count y) → Goes 1 (at p r0 r1 n z v c)
  comes_back p r0 r1 n z v c here mark counts =
      quiet_step (Return Pc) (at p r0 r1 n z v c) 0 tt here mark
      (λ m s j q less few. (refl, refl, (let y : Machine = record (at p r0 r1 n z v c) { pc = back; sp = wrap_add u.sp 2; stack = stack } in done j (suc q) y (omega (arith, less)) (omega (arith, few)) refl refl refl (counts y refl refl))))

  none : count ≡ 0 → (r0 r1 : ℕ) (n z v c : Bool) → Goes 2 (at 226 r0 r1 n z v c)
  none is r0 r1 n z v c =
      quiet_step (Flags false false false false true) (at 226 r0 r1 n z v c) 1 tt (code_drop w h 21 184 (map marked turns_lines) code).0 (code_drop w h 21 184 (map marked turns_lines) code).1
      (λ m s j q less few. (refl, refl, comes_back 228 r0 r1 n z v false (code_drop w h 22 184 (map marked turns_lines) code).0 (code_drop w h 22 184 (map marked turns_lines) code).1 (λ y r carry. subst (λ i. CountIs i y) (sym is) carry) j (suc q) (omega (arith, less)) (omega (arith, few))))

  some : (r0 r1 : ℕ) → count ≡ suc r0 → (n z v c : Bool) → Goes 2 (at 222 r0 r1 n z v c)
  some r0 r1 is n z v c =
      quiet_step (Flags true false false false true) (at 222 r0 r1 n z v c) 1 tt (code_drop w h 19 184 (map marked turns_lines) code).0 (code_drop w h 19 184 (map marked turns_lines) code).1
      (λ m s j q less few. (refl, refl, comes_back 224 r0 r1 n z v true (code_drop w h 20 184 (map marked turns_lines) code).0 (code_drop w h 20 184 (map marked turns_lines) code).1 (λ y r carry. subst (λ i. CountIs i y) (sym is) (carry, r)) j (suc q) (omega (arith, less)) (omega (arith, few))))

  -- ---- a quotient that is too large: the step is 1 or -1

  abbrev negated : ℕ → ℕ
  negated r = (0 + (65536 - r)) % 65536

  negates : (r0 r1 : ℕ) → count ≡ suc (negated r0) → (n z v c : Bool) → Goes 3 (at 220 r0 r1 n z v c)
  negates r0 r1 is n z v c =
      quiet_step (Single Neg AsWord (Register R0)) (at 220 r0 r1 n z v c) 2 tt (code_drop w h 18 184 (map marked turns_lines) code).0 (code_drop w h 18 184 (map marked turns_lines) code).1
      (λ m s j q less few. (refl, refl, some (negated r0) r1 is (is_negative (negated r0)) (negated r0 == 0) (negated r0 == 32768) (not (negated r0 == 0)) j (suc q) (omega (arith, less)) (omega (arith, few))))

  by_sign : (r0 r1 : ℕ) → (is_negative u.r3 ≡ false → count ≡ suc r0) → (is_negative u.r3 ≡ true → count ≡ suc (negated r0)) → (z v c : Bool) → Goes 4 (at 218 r0 r1 (is_negative u.r3) z v c)
  by_sign r0 r1 up down z v c =
      quiet_step (Branch Plus 1) (at 218 r0 r1 (is_negative u.r3) z v c) 3 (omega arith) (code_drop w h 17 184 (map marked turns_lines) code).0 (code_drop w h 17 184 (map marked turns_lines) code).1
      (λ m s j q less few. (
        (λ e. (refl, refl, some r0 r1 (up (not_true (is_negative u.r3) e)) (is_negative u.r3) z v c j (suc q) (omega (arith, less)) (omega (arith, few)))),
        (λ e. (refl, refl, negates r0 r1 (down (not_false (is_negative u.r3) e)) (is_negative u.r3) z v c j (suc q) (omega (arith, less)) (omega (arith, few)))),
      ))

  tests : (r0 r1 : ℕ) → (is_negative u.r3 ≡ false → count ≡ suc r0) → (is_negative u.r3 ≡ true → count ≡ suc (negated r0)) → (n z v c : Bool) → Goes 5 (at 216 r0 r1 n z v c)
  tests r0 r1 up down n z v c =
      quiet_step (Single Tst AsWord (Register R3)) (at 216 r0 r1 n z v c) 4 tt (code_drop w h 16 184 (map marked turns_lines) code).0 (code_drop w h 16 184 (map marked turns_lines) code).1
      (λ m s j q less few. (refl, refl, by_sign r0 r1 up down (u.r3 == 0) false false j (suc q) (omega (arith, less)) (omega (arith, few))))

  large : (r0 r1 : ℕ) → (is_negative u.r3 ≡ false → count ≡ suc r1) → (is_negative u.r3 ≡ true → count ≡ suc (negated r1)) → (n z v c : Bool) → Goes 6 (at 214 r0 r1 n z v c)
  large r0 r1 up down n z v c =
      quiet_step (Double Mov AsWord (Register R1) (Register R0)) (at 214 r0 r1 n z v c) 5 tt (code_drop w h 15 184 (map marked turns_lines) code).0 (code_drop w h 15 184 (map marked turns_lines) code).1
      (λ m s j q less few. (refl, refl, tests r1 r1 up down (is_negative r1) (r1 == 0) false c j (suc q) (omega (arith, less)) (omega (arith, few))))

  goes_large : (r0 r1 : ℕ) → (is_negative u.r3 ≡ false → count ≡ suc r1) → (is_negative u.r3 ≡ true → count ≡ suc (negated r1)) → (n z c : Bool) → Goes 7 (at 212 r0 r1 n z true c)
  goes_large r0 r1 up down n z c =
      quiet_step (Branch NoOverflow 4) (at 212 r0 r1 n z true c) 6 (omega arith) (code_drop w h 14 184 (map marked turns_lines) code).0 (code_drop w h 14 184 (map marked turns_lines) code).1
      (λ m s j q less few. ((λ e. absurd (never (sym e))), (λ e. (refl, refl, large r0 r1 up down n z true c j (suc q) (omega (arith, less)) (omega (arith, few))))))

  goes_small : (r0 r1 : ℕ) → count ≡ suc r0 → (n z c : Bool) → Goes 3 (at 212 r0 r1 n z false c)
  goes_small r0 r1 is n z c =
      quiet_step (Branch NoOverflow 4) (at 212 r0 r1 n z false c) 2 (omega arith) (code_drop w h 14 184 (map marked turns_lines) code).0 (code_drop w h 14 184 (map marked turns_lines) code).1
      (λ m s j q less few. ((λ e. (refl, refl, some r0 r1 is n z false c j (suc q) (omega (arith, less)) (omega (arith, few)))), (λ e. absurd (never e))))

  divides : (r0 r1 : ℕ) → 0 < u.r3 → (too_large (r0 * 65536 + r1) u.r3 ≡ false → count ≡ suc (quotient_word (r0 * 65536 + r1) u.r3)) → (too_large (r0 * 65536 + r1) u.r3 ≡ true → is_negative u.r3 ≡ false → count ≡ suc r1)
      → (too_large (r0 * 65536 + r1) u.r3 ≡ true → is_negative u.r3 ≡ true → count ≡ suc (negated r1)) → (n z v c : Bool) → Goes 8 (at 210 r0 r1 n z v c)
  divides r0 r1 some_step fine up down n z v c =
      quiet_step (OnRegister Div R0 (Register R3)) (at 210 r0 r1 n z v c) 7 tt (code_drop w h 13 184 (map marked turns_lines) code).0 (code_drop w h 13 184 (map marked turns_lines) code).1
      (λ m s j q less few. (
        (λ e. absurd (let i : u.r3 ≡ 0 = eqb-true u.r3 0 e in omega (arith, i, some_step))),
        (λ e. (
          (λ f. (refl, refl, goes_large r0 r1 (up f) (down f) false false false j (suc q) (omega (arith, less)) (omega (arith, few)))),
          (λ f. (refl, refl, (let y : ℕ = quotient_word (r0 * 65536 + r1) u.r3 in goes_small y (remainder_word (r0 * 65536 + r1) u.r3) (fine f) (is_negative y) (y == 0) false j (suc q) (omega (arith, less)) (omega (arith, few))))),
        )),
      ))

  -- ---- upwards

  abbrev far : ℕ
  far = wrap_sub u.r1 u.r2

  abbrev overflow : ℕ → ℕ → Bool
  overflow x y = differ (is_negative x) (is_negative y) && not (differ (is_negative (wrap_sub x y)) (is_negative y))

  module _ (some_step : 0 < u.r3) (low : u.r3 < 32768) where
    up_counted : u.r1 < 65536 → u.r2 < 65536 → is_less u.r1 u.r2 ≡ false → (n z v c : Bool) → Goes 9 (at 198 0 far n z v c)
    up_counted p1 p2 not_before n z v c =
        let d : far ≡ distance u.r2 u.r1 = up_distance u.r2 u.r1 p2 p1 not_before in
        let less_d : far < 65536 = omega arith in
        let is : count ≡ suc (far / u.r3) = turns_up u.r2 u.r3 u.r1 some_step low not_before ∙ ap (λ i. suc (i / u.r3)) (sym d) in
        quiet_step (Branch Always 5) (at 198 0 far n z v c) 8 (omega arith) (code_drop w h 7 184 (map marked turns_lines) code).0 (code_drop w h 7 184 (map marked turns_lines) code).1
        (λ m s j q less few. (
          (λ e. (
            refl,
            refl,
            divides 0 far some_step
                (λ f. is ∙ ap suc (sym (up_divides far u.r3 less_d some_step low f)))
                (λ f g. is ∙ ap suc (ap (λ i. far / i) (up_too_large far u.r3 less_d some_step low f) ∙ by_one far))
                (λ f g. absurd (let b = leb-true 32768 u.r3 g in omega (arith, b, low)))
                n z v c j (suc q) (omega (arith, less)) (omega (arith, few)),
          )),
          (λ e. absurd (never e)),
        ))

    up_far : u.r1 < 65536 → u.r2 < 65536 → is_less u.r1 u.r2 ≡ false → (n z v c : Bool) → Goes 10 (at 196 0 u.r1 n z v c)
    up_far p1 p2 not_before n z v c =
        quiet_step (Sum Sub (Register R2) (Register R1)) (at 196 0 u.r1 n z v c) 9 tt (code_drop w h 6 184 (map marked turns_lines) code).0 (code_drop w h 6 184 (map marked turns_lines) code).1
        (λ m s j q less few. (refl, refl, up_counted p1 p2 not_before (is_negative far) (far == 0) (overflow u.r1 u.r2) (nat_lt u.r1 u.r2) j (suc q) (omega (arith, less)) (omega (arith, few))))

    up_branch : u.r1 < 65536 → u.r2 < 65536 → Goes 11 (at 194 0 u.r1 (is_negative far) (far == 0) (overflow u.r1 u.r2) (nat_lt u.r1 u.r2))
    up_branch p1 p2 =
        quiet_step (Branch Less 15) (at 194 0 u.r1 (is_negative far) (far == 0) (overflow u.r1 u.r2) (nat_lt u.r1 u.r2)) 10 (omega arith) (code_drop w h 5 184 (map marked turns_lines) code).0 (code_drop w h 5 184 (map marked turns_lines) code).1
        (λ m s j q less few. (
          (λ e. (refl, refl, none (none_up u.r2 u.r3 u.r1 some_step low (sym (less_is u.r1 u.r2 p1 p2) ∙ e)) 0 u.r1 (is_negative far) (far == 0) (overflow u.r1 u.r2) (nat_lt u.r1 u.r2) j (suc q) (omega (arith, less)) (omega (arith, few)))),
          (λ e. (refl, refl, up_far p1 p2 (sym (less_is u.r1 u.r2 p1 p2) ∙ e) (is_negative far) (far == 0) (overflow u.r1 u.r2) (nat_lt u.r1 u.r2) j (suc q) (omega (arith, less)) (omega (arith, few)))),
        ))

    up : (n z v c : Bool) → Goes 12 (at 192 0 u.r1 n z v c)
    up n z v c =
        quiet_step (Double Cmp AsWord (Register R1) (Register R2)) (at 192 0 u.r1 n z v c) 11 tt (code_drop w h 4 184 (map marked turns_lines) code).0 (code_drop w h 4 184 (map marked turns_lines) code).1
        (λ m s j q less few. (refl, refl, up_branch s.task.r1 s.task.r2 j (suc q) (omega (arith, less)) (omega (arith, few))))

  -- ---- downwards

  module _ (high : 32768 ≤ u.r3) (below : u.r3 < 65536) where
    abbrev dist : ℕ
    dist = distance u.r2 u.r1

    some_step : 0 < u.r3
    some_step = omega (arith, high)

    -- the distance is 0
    down_same : dist < 65536 → count ≡ suc (dist / (65536 - u.r3)) → far ≡ (65536 - dist) % 65536 → (z : Bool) → far ≡ 0 → (n v c : Bool) → Goes 8 (at 210 0 far n z v c)
    down_same less_d is d z same n v c =
        let none_far : dist ≡ 0 = no_distance dist less_d (sym d ∙ same) in
        let one : count ≡ 1 = is ∙ ap (λ i. suc (i / (65536 - u.r3))) none_far ∙ ap suc (none_by (65536 - u.r3)) in
        subst (λ i. Goes 8 (at 210 0 i n z v c)) (sym same)
        (divides 0 0 some_step (λ f. one ∙ ap suc (sym (none_divides u.r3 high below))) (λ f g. absurd (none_too_large u.r3 f)) (λ f g. absurd (none_too_large u.r3 f)) n z v c)

    -- it is more
    down_far : 0 < dist → dist < 65536 → count ≡ suc (dist / (65536 - u.r3)) → far ≡ 65536 - dist → (n z v c : Bool) → Goes 8 (at 210 65535 far n z v c)
    down_far more less_d is d n z v c =
        subst (λ i. Goes 8 (at 210 65535 i n z v c)) (sym d)
        (divides 65535 (65536 - dist) some_step
        (λ f. is ∙ ap suc (sym (down_divides dist u.r3 more less_d high below)))
        (λ f g. absurd (let b = leb-false 32768 u.r3 g in omega (arith, b, high)))
        (λ f g. is ∙ ap suc (ap (λ i. dist / i) (down_too_large dist u.r3 more less_d high below f) ∙ by_one dist ∙ sym (back_again dist more less_d)))
        n z v c)

    down_more : 0 < dist → dist < 65536 → count ≡ suc (dist / (65536 - u.r3)) → far ≡ 65536 - dist → (n z v c : Bool) → Goes 9 (at 208 0 far n z v c)
    down_more more less_d is d n z v c =
        quiet_step (Single Dec AsWord (Register R0)) (at 208 0 far n z v c) 8 tt (code_drop w h 12 184 (map marked turns_lines) code).0 (code_drop w h 12 184 (map marked turns_lines) code).1
        (λ m s j q less few. (refl, refl, down_far more less_d is d (is_negative 65535) (65535 == 0) (0 == 32768) c j (suc q) (omega (arith, less)) (omega (arith, few))))

    down_branch : dist < 65536 → count ≡ suc (dist / (65536 - u.r3)) → far ≡ (65536 - dist) % 65536 → (n v c : Bool) → Goes 10 (at 206 0 far n (far == 0) v c)
    down_branch less_d is d n v c =
        quiet_step (Branch Equal 1) (at 206 0 far n (far == 0) v c) 9 (omega arith) (code_drop w h 11 184 (map marked turns_lines) code).0 (code_drop w h 11 184 (map marked turns_lines) code).1
        (λ m s j q less few. (
          (λ e. (refl, refl, down_same less_d is d (far == 0) (eqb-true far 0 e) n v c j (suc q) (omega (arith, less)) (omega (arith, few)))),
          (λ e. (refl, refl, (let p = some_distance dist less_d (λ f. not_zero far e (d ∙ f)) in down_more p.0 less_d is (d ∙ p.1) n (far == 0) v c j (suc q) (omega (arith, less)) (omega (arith, few))))),
        ))

    down_counted : u.r1 < 65536 → u.r2 < 65536 → is_less u.r2 u.r1 ≡ false → (n z v c : Bool) → Goes 11 (at 204 0 u.r1 n z v c)
    down_counted p1 p2 not_before n z v c =
        quiet_step (Sum Sub (Register R2) (Register R1)) (at 204 0 u.r1 n z v c) 10 tt (code_drop w h 10 184 (map marked turns_lines) code).0 (code_drop w h 10 184 (map marked turns_lines) code).1
        (λ m s j q less few. (refl, refl, down_branch (near u.r2 u.r1 p2 p1) (turns_down u.r2 u.r3 u.r1 high below not_before) (down_distance u.r2 u.r1 p2 p1 not_before) (is_negative far) (overflow u.r1 u.r2) (nat_lt u.r1 u.r2) j (suc q) (omega (arith, less)) (omega (arith, few))))

    down_ends : u.r1 < 65536 → u.r2 < 65536 → Goes 12 (at 202 0 u.r1 (is_negative far) (far == 0) (overflow u.r1 u.r2) (nat_lt u.r1 u.r2))
    down_ends p1 p2 =
        quiet_step (Branch Greater 11) (at 202 0 u.r1 (is_negative far) (far == 0) (overflow u.r1 u.r2) (nat_lt u.r1 u.r2)) 11 (omega arith) (code_drop w h 9 184 (map marked turns_lines) code).0 (code_drop w h 9 184 (map marked turns_lines) code).1
        (λ m s j q less few. (
          (λ e. (refl, refl, none (none_down u.r2 u.r3 u.r1 high below (sym (greater_is u.r1 u.r2 p1 p2) ∙ e)) 0 u.r1 (is_negative far) (far == 0) (overflow u.r1 u.r2) (nat_lt u.r1 u.r2) j (suc q) (omega (arith, less)) (omega (arith, few)))),
          (λ e. (refl, refl, down_counted p1 p2 (sym (greater_is u.r1 u.r2 p1 p2) ∙ e) (is_negative far) (far == 0) (overflow u.r1 u.r2) (nat_lt u.r1 u.r2) j (suc q) (omega (arith, less)) (omega (arith, few)))),
        ))

    down : (n z v c : Bool) → Goes 13 (at 200 0 u.r1 n z v c)
    down n z v c =
        quiet_step (Double Cmp AsWord (Register R1) (Register R2)) (at 200 0 u.r1 n z v c) 12 tt (code_drop w h 8 184 (map marked turns_lines) code).0 (code_drop w h 8 184 (map marked turns_lines) code).1
        (λ m s j q less few. (refl, refl, down_ends s.task.r1 s.task.r2 j (suc q) (omega (arith, less)) (omega (arith, few))))

  -- ---- the start

  by_step : 0 < u.r3 → (z v c : Bool) → Goes 14 (at 190 0 u.r1 (is_negative u.r3) z v c)
  by_step some_step z v c =
      quiet_step (Branch Minus 4) (at 190 0 u.r1 (is_negative u.r3) z v c) 13 (omega arith) (code_drop w h 3 184 (map marked turns_lines) code).0 (code_drop w h 3 184 (map marked turns_lines) code).1
      (λ m s j q less few. (
        (λ e. (refl, refl, down (leb-true 32768 u.r3 e) s.task.r3 (is_negative u.r3) z v c j (suc q) (omega (arith, less)) (omega (arith, few)))),
        (λ e. (refl, refl, up some_step (leb-false 32768 u.r3 e) (is_negative u.r3) z v c j (suc q) (omega (arith, less)) (omega (arith, few)))),
      ))

  stepped : (v c : Bool) → Goes 15 (at 188 0 u.r1 (is_negative u.r3) (u.r3 == 0) v c)
  stepped v c =
      quiet_step (Branch Equal 18) (at 188 0 u.r1 (is_negative u.r3) (u.r3 == 0) v c) 14 (omega arith) (code_drop w h 2 184 (map marked turns_lines) code).0 (code_drop w h 2 184 (map marked turns_lines) code).1
      (λ m s j q less few. (
        (λ e. (refl, refl, none (ap (λ i. turns u.r2 i u.r1) (eqb-true u.r3 0 e)) 0 u.r1 (is_negative u.r3) (u.r3 == 0) v c j (suc q) (omega (arith, less)) (omega (arith, few)))),
        (λ e. (refl, refl, by_step (positive u.r3 e) (u.r3 == 0) v c j (suc q) (omega (arith, less)) (omega (arith, few)))),
      ))

  begins : (n z v c : Bool) → Goes 16 (at 186 0 u.r1 n z v c)
  begins n z v c =
      quiet_step (Single Tst AsWord (Register R3)) (at 186 0 u.r1 n z v c) 15 tt (code_drop w h 1 184 (map marked turns_lines) code).0 (code_drop w h 1 184 (map marked turns_lines) code).1
      (λ m s j q less few. (refl, refl, stepped false false j (suc q) (omega (arith, less)) (omega (arith, few))))

  pub turns_serve : Goes 17 (record u { pc = 184; stack = back ∷ stack })
  turns_serve =
      quiet_step (Single Clr AsWord (Register R0)) (record u { pc = 184; stack = back ∷ stack }) 16 tt (code_drop w h 0 184 (map marked turns_lines) code).0 (code_drop w h 0 184 (map marked turns_lines) code).1
      (λ m s j q less few. (refl, refl, begins false true false false j (suc q) (omega (arith, less)) (omega (arith, few))))

module _ (w : Whole) (lays : Lays w) (h : Home) (sits : Sits w h) (support : SupportAt w h) (k : ℕ) where
  turns_code : CodeAt w h 184 (map marked turns_lines)
  turns_code = code_take w h 23 184 (drop 69 support_code) (code_drop w h 69 0 support_code support.code)

  pub turns_routine_serves : Serves w h k 15 17 AnyStack Counts
  turns_routine_serves u q back stack a cs own pc has any room goes =
      subst (λ (s : List ℕ). Tracks w h k q (record u { stack = s }) a cs own) (sym has)
      (subst (λ z. Tracks w h k q (record u { pc = z; stack = back ∷ stack }) a cs own) (sym (pc ∙ support.entries 15 (omega arith) (omega arith)))
      (turns_serve w lays h sits turns_code k u back stack a cs own (q + 17) room (λ j r v less few at_back stack_is r5 counts. goes j r v less few at_back (ap length stack_is) r5 (counts, stack_is)) k q (omega arith) (omega arith)))
