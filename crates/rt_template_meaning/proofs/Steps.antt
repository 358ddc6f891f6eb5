-- Instructions of a task that follows, in the form in which templates need them: what comes after is known for fewer instructions than n,
-- and the task then follows for n and for fewer.
use Rattle.std.proofs.Common.{◌≡◌, ℕ, zero, suc, ◌+◌, ◌<◌, ◌≤◌, List, [], ◌∷◌, length, refl, sym, ap, ◌∙◌, subst, arith}
use Rattle.rt_tree_nodes.specs.declared.store.Datum.{Datum}
use Rattle.rt_work_state.specs.Stores.{Store}
use Rattle.rt_work_state.specs.declared.request.Request.{Request}
use Rattle.rt_work_state.specs.declared.request.Request.TheVariants.{Nothing}
use Rattle.rt_work_state.specs.Items.{Item, Next, Jumps, Leaps}
use Rattle.rt_rules.specs.declared.service.Outcome as rules
use Rattle.rt_meaning.specs.Step.{Act, Doing, Task, with_todo, leapt, task_step, request, next_of, asked}
use Rattle.rt_meaning.specs.Step as meant
use Rattle.pdp_code.specs.declared.instruction.Instr.{Instr}
use Rattle.pdp_code.specs.Code.{words_of, IsCodable}
use Rattle.pdp_core.specs.World.{word_at}
use Rattle.pdp_symbolic.specs.Machine.{Machine, regs, Stands}
use Rattle.pdp_symbolic.specs.Acts.{act}
use Rattle.pdp_symbolic.specs.Plans.{Access, Read, Asked, Shows, done}
use Rattle.rt_follows.specs.Whole.{Whole, Home, meaning, Lies, OwnLies, Lays, Sits}
use Rattle.rt_follows.specs.Held.{layout, Holds}
use Rattle.rt_follows.specs.Follows.{Agreed, Follows}
use Rattle.rt_follows.specs.Runs.{Tracks}
use Rattle.rt_follows.proofs.Once.{one}
use Rattle.rt_follows.proofs.Step.{SameShared, lies_same, stays}

-- how many unmarked instructions came then
abbrev pub after : List Instr → ℕ → ℕ
after [] q = q
after (i ∷ is) q = after is (suc q)

pub after_is : (is : List Instr) (q : ℕ) → after is q ≡ q + length is
after_is [] q = omega arith
after_is (i ∷ is) q = omega (arith, after_is is (suc q))

-- Unmarked instructions, one after the other: each is possible, touches nothing that is shared, and leaves the block; and this holds of the
-- task behind the last one, which is never written out.
abbrev pub Plan : Whole → Home → List Datum → (Machine → Type 0) → List Instr → Machine → Type 0
Plan w h own E [] u = E u
Plan w h own E (i ∷ is) u = IsCodable i × Stands (layout w h) u.pc (words_of i) × (w.marks u.pc ≡ 0) × ((m : ℕ → ℕ) → Holds w h u own m → Asked (layout w h) (act i u) (λ e v. (e ≡ []) × (v.block ≡ u.block) × Plan w h own E is v))

module _ (w : Whole) (lays : Lays w) (h : Home) (sits : Sits w h) where
  -- ---- unmarked instructions, one after the other

  -- each is possible, touches nothing that is shared, and leaves the block; behind the last one the task follows for fewer than n
  abbrev pub Quiets : ℕ → List Instr → ℕ → Machine → Act → List Act → List Datum → Type 0
  Quiets n [] q u a cs own = (j : ℕ) → j < n → Tracks w h j q u a cs own
  Quiets n (i ∷ is) q u a cs own =
      IsCodable i × Stands (layout w h) u.pc (words_of i) × (w.marks u.pc ≡ 0) × ((m : ℕ → ℕ) → Holds w h u own m → Asked (layout w h) (act i u) (λ e v. (e ≡ []) × (v.block ≡ u.block) × Quiets n is (suc q) v a cs own))

  -- an unmarked instruction, by what comes after it
  quiet_one : (i : Instr) (n q k : ℕ) (u : Machine) (a : Act) (cs : List Act) (own : List Datum) (P : Machine → Type 0) → q + 1 ≤ w.bound → IsCodable i → Stands (layout w h) u.pc (words_of i) → w.marks u.pc ≡ 0
      → ((m : ℕ → ℕ) → Holds w h u own m → Asked (layout w h) (act i u) (λ e v. (e ≡ []) × (v.block ≡ u.block) × P v)) → ((v : Machine) → P v → Tracks w h k (suc q) v a cs own) → Tracks w h (suc k) q u a cs own
  quiet_one i n q k u a cs own P few codable code mark asked goes =
      one w lays h sits i u a cs own k q codable code 0 (λ e v. (e ≡ []) × (v.block ≡ u.block) × P v) mark (omega (arith, few)) asked
      (λ S m0 m' o e v typed fits lies shows matches own_lies p.
      let same : SameShared w m0 m' = subst (λ (d : List Access). Shows (layout w h) m0 m' d) p.0 shows in
      let own_data : OwnLies w own v.block = subst (λ b. OwnLies w own b) (sym p.1) own_lies in
      record { fine = tt; asks = refl; goes_on = λ f. tt; world = refl; lies = lies_same w lays S m0 m' same lies; next = goes v p.2 m' (record { task = matches; own_data = own_data }) })

  pub quiets : (is : List Instr) (i : Instr) (n q : ℕ) (u : Machine) (a : Act) (cs : List Act) (own : List Datum) → q + length (i ∷ is) ≤ w.bound → Quiets n (i ∷ is) q u a cs own → (j : ℕ) → j ≤ n → Tracks w h j q u a cs own
  quiets is i n q u a cs own few p zero less = λ m s. stays w h q u a cs own m (omega (arith, few)) s
  quiets [] i n q u a cs own few p (suc j) less =
      quiet_one i n q j u a cs own (λ v. Quiets n [] (suc q) v a cs own) (omega (arith, few)) p.0 p.1 p.2 p.3 (λ v f. f j (omega (arith, less)))
  quiets (i2 ∷ is) i n q u a cs own few p (suc j) less =
      quiet_one i n q j u a cs own (λ v. Quiets n (i2 ∷ is) (suc q) v a cs own) (omega (arith, few)) p.0 p.1 p.2 p.3 (λ v f. quiets is i2 n (suc q) v a cs own (omega (arith, few)) f j (omega (arith, less)))

  pub chain : (is : List Instr) (i : Instr) (n q : ℕ) (u : Machine) (a : Act) (cs : List Act) (own : List Datum) (E : Machine → Type 0) → after (i ∷ is) q ≤ w.bound → Plan w h own E (i ∷ is) u → ((v : Machine) → E v → (j : ℕ) → j < n → Tracks w h j (after (i ∷ is) q) v a cs own) → (j : ℕ) → j ≤ n → Tracks w h j q u a cs own
  chain is i n q u a cs own E few p ends zero less = λ m s. stays w h q u a cs own m (omega (arith, few, after_is is (suc q))) s
  chain [] i n q u a cs own E few p ends (suc j) less =
      quiet_one i n q j u a cs own E (omega (arith, few)) p.0 p.1 p.2 p.3 (λ v f. ends v f j (omega (arith, less)))
  chain (i2 ∷ is) i n q u a cs own E few p ends (suc j) less =
      quiet_one i n q j u a cs own (λ v. Plan w h own E (i2 ∷ is) v) (omega (arith, few, after_is is (suc (suc q)))) p.0 p.1 p.2 p.3 (λ v f. chain is i2 n (suc q) v a cs own E few f ends j (omega (arith, less)))

  -- ---- an unmarked instruction that reads the length of an array

  pub peeks : (i : Instr) (x len n q : ℕ) (u : Machine) (a : Act) (cs : List Act) (own : List Datum) → q + 1 ≤ w.bound → ((S : Store) (m : ℕ → ℕ) → Lies w S m → word_at m x ≡ len) → IsCodable i → Stands (layout w h) u.pc (words_of i) → w.marks u.pc ≡ 0
      → ((m : ℕ → ℕ) → Holds w h u own m → Asked (layout w h) (act i u) (λ e v. (y : ℕ) × (e ≡ Read x y ∷ []) × (v.block ≡ u.block) × (y ≡ len → (j : ℕ) → j < n → Tracks w h j (suc q) v a cs own))) → (j : ℕ) → j ≤ n → Tracks w h j q u a cs own
  peeks i x len n q u a cs own few length_is codable code mark asked zero less = λ m s. stays w h q u a cs own m (omega (arith, few)) s
  peeks i x len n q u a cs own few length_is codable code mark asked (suc j) less =
      one w lays h sits i u a cs own j q codable code 0 (λ e v. (y : ℕ) × (e ≡ Read x y ∷ []) × (v.block ≡ u.block) × (y ≡ len → (j : ℕ) → j < n → Tracks w h j (suc q) v a cs own)) mark (omega (arith, few)) asked
      (λ S m0 m' o e v typed fits lies shows matches own_lies p.
      let seen : Shows (layout w h) m0 m' (Read x p.0 ∷ []) = subst (λ (d : List Access). Shows (layout w h) m0 m' d) p.1 shows in
      let own_data : OwnLies w own v.block = subst (λ b. OwnLies w own b) (sym p.2) own_lies in
      record { fine = tt; asks = refl; goes_on = λ f. tt; world = refl; lies = lies_same w lays S m0 m' seen.2 lies; next = p.3 (sym seen.1 ∙ length_is S m0 lies) j (omega (arith, less)) m' (record { task = matches; own_data = own_data }) })

  -- ---- a visible step that uses no store

  module _ (i : Instr) (n q : ℕ) (u : Machine) (a : Act) (cs : List Act) (own : List Datum) (b : Act) (ds : List Act) where
    pub shows : q ≤ w.bound → ((S : Store) (o : rules.Outcome) → (task_step (meaning w) (Doing a cs own) S o).task ≡ Doing b ds own) → ((S : Store) (o : rules.Outcome) → (task_step (meaning w) (Doing a cs own) S o).store ≡ S) → request (meaning w) (Doing a cs own) ≡ Nothing
        → IsCodable i → Stands (layout w h) u.pc (words_of i) → w.marks u.pc ≡ 1 → ((m : ℕ → ℕ) → Holds w h u own m → Asked (layout w h) (act i u) (λ e v. (e ≡ []) × (v.block ≡ u.block) × ((j : ℕ) → j < n → Tracks w h j 0 v b ds own))) → (j : ℕ) → j ≤ n → Tracks w h j q u a cs own
    shows few task store asks codable code mark asked zero less = λ m s. stays w h q u a cs own m few s
    shows few task store asks codable code mark asked (suc j) less =
        one w lays h sits i u a cs own j q codable code 1 (λ e v. (e ≡ []) × (v.block ≡ u.block) × ((j : ℕ) → j < n → Tracks w h j 0 v b ds own)) mark few asked
        (λ S m0 m' o e v typed fits lies shows matches own_lies p.
        let same : SameShared w m0 m' = subst (λ (d : List Access). Shows (layout w h) m0 m' d) p.0 shows in
        let own_data : OwnLies w own v.block = subst (λ b. OwnLies w own b) (sym p.1) own_lies in
        let Q : Request → Task → Store → Type 0 = λ r t' S'. Agreed w h (done (layout w h) v m') o r t' S' (Follows w h j 0 (regs v) m' t') in
        subst (λ r. Q r (task_step (meaning w) (Doing a cs own) S o).task (task_step (meaning w) (Doing a cs own) S o).store) (sym asks)
        (subst (λ t. Q Nothing t (task_step (meaning w) (Doing a cs own) S o).store) (sym (task S o))
        (subst (λ R. Q Nothing (Doing b ds own) R) (sym (store S o))
        (record { fine = tt; asks = refl; goes_on = λ f. tt; world = refl; lies = lies_same w lays S m0 m' same lies; next = p.2 j (omega (arith, less)) m' (record { task = matches; own_data = own_data }) }))))

  -- a jump that the source makes too
  pub jumps : (i : Instr) (n q : ℕ) (u : Machine) (a : Act) (cs : List Act) (own : List Datum) (todo : List Item) (vs ls : List Datum) → q ≤ w.bound → next_of (meaning w) a ≡ Jumps todo vs ls → IsCodable i → Stands (layout w h) u.pc (words_of i) → w.marks u.pc ≡ 1
      → ((m : ℕ → ℕ) → Holds w h u own m → Asked (layout w h) (act i u) (λ e v. (e ≡ []) × (v.block ≡ u.block) × ((j : ℕ) → j < n → Tracks w h j 0 v (with_todo a todo vs ls) cs own))) → (j : ℕ) → j ≤ n → Tracks w h j q u a cs own
  jumps i n q u a cs own todo vs ls few is codable code mark asked =
      shows i n q u a cs own (with_todo a todo vs ls) cs few (λ S o. ap (λ (z : Next). (meant.act (meaning w) z a cs own S o).task) is) (λ S o. ap (λ (z : Next). (meant.act (meaning w) z a cs own S o).store) is) (ap meant.asked is) codable code mark asked

  -- to a label
  pub leaps : (i : Instr) (n q : ℕ) (u : Machine) (a : Act) (cs : List Act) (own : List Datum) (l : ℕ) (ls : List Datum) → q ≤ w.bound → next_of (meaning w) a ≡ Leaps l ls → IsCodable i → Stands (layout w h) u.pc (words_of i) → w.marks u.pc ≡ 1
      → ((m : ℕ → ℕ) → Holds w h u own m → Asked (layout w h) (act i u) (λ e v. (e ≡ []) × (v.block ≡ u.block) × ((j : ℕ) → j < n → Tracks w h j 0 v (with_todo a (leapt ((meaning w).code a.proc) l) [] ls) cs own))) → (j : ℕ) → j ≤ n → Tracks w h j q u a cs own
  leaps i n q u a cs own l ls few is codable code mark asked =
      shows i n q u a cs own (with_todo a (leapt ((meaning w).code a.proc) l) [] ls) cs few (λ S o. ap (λ (z : Next). (meant.act (meaning w) z a cs own S o).task) is) (λ S o. ap (λ (z : Next). (meant.act (meaning w) z a cs own S o).store) is) (ap meant.asked is) codable code mark asked
