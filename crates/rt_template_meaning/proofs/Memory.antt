-- Visible instructions that read or write a place.
use Rattle.std.proofs.Common.{◌≡◌, ℕ, zero, suc, ◌<◌, ◌≤◌, true, List, [], ◌∷◌, refl, sym, ap, ◌∙◌, subst, arith}
use Rattle.std.specs.Prelude.{slice_set}
use Rattle.rt_modes.specs.declared.mode.Mode.{Mode, out-Mode}
use Rattle.rt_modes.specs.declared.mode.ModeTable.{ModeTable}
use Rattle.rt_tree_nodes.specs.declared.store.Datum.{Datum}
use Rattle.rt_tree_nodes.specs.declared.store.Location.{Location}
use Rattle.rt_tree_nodes.specs.declared.store.Location.TheVariants.{Own}
use Rattle.rt_tree_nodes.specs.Typing.{is_value}
use Rattle.rt_tree.specs.Stored.{StandsAt, TypedOwn, HoldsInside}
use Rattle.rt_work_state.specs.Stores.{Store, read, write}
use Rattle.rt_work_state.specs.Items.{Item, Next, Reads, Writes}
use Rattle.rt_rules.specs.declared.service.Outcome as rules
use Rattle.rt_meaning.specs.Step.{Act, Doing, with_todo, next_of}
use Rattle.rt_meaning.specs.Step as meant
use Rattle.rt_meaning_laws.specs.Slots.{IsByte}
use Rattle.rt_meaning_laws.specs.Tasks.{TypedStore}
use Rattle.pdp_code.specs.declared.instruction.Instr.{Instr}
use Rattle.pdp_code.specs.Code.{words_of, IsCodable}
use Rattle.pdp_symbolic.specs.Machine.{Machine, regs, Stands}
use Rattle.pdp_symbolic.specs.Acts.{act}
use Rattle.pdp_symbolic.specs.Plans.{Access, Read, ReadByte, Wrote, WroteByte, Asked, Shows, done}
use Rattle.rt_follows.specs.Whole.{Whole, Home, meaning, word_of, OwnLies, Lays, Sits, own_at}
use Rattle.rt_follows.specs.Held.{layout, Holds}
use Rattle.rt_follows.specs.Follows.{Agreed, Follows}
use Rattle.rt_follows.specs.Runs.{Tracks}
use Rattle.rt_follows.proofs.Step.{SameShared, lies_same, stays}
use Rattle.rt_follows.proofs.Once.{one}
use Rattle.rt_template_meaning.proofs.Written.{shared_read, own_kept, word_written, byte_written}

module _ (w : Whole) (lays : Lays w) (h : Home) (sits : Sits w h) (inside : HoldsInside) (i : Instr) (n q : ℕ) (u : Machine) (a : Act) (cs : List Act) (own : List Datum) (few : q ≤ w.bound) (codable : IsCodable i) (code : Stands (layout w h) u.pc (words_of i)) (mark : w.marks u.pc ≡ 1) (todo : List Item) (vs ls : List Datum) where
  -- after one step of the source that asks nothing
  abbrev After : ℕ → Machine → (ℕ → ℕ) → rules.Outcome → Store → Next → Type 0
  After j v m' o S z =
      Agreed w h (done (layout w h) v m') o (meant.asked z) (meant.act (meaning w) z a cs own S o).task (meant.act (meaning w) z a cs own S o).store (Follows w h j 0 (regs v) m' (meant.act (meaning w) z a cs own S o).task)

  module _ (l : Location) (t : ModeTable) (k : Mode) (P : Datum → Type 0) (is : next_of (meaning w) a ≡ Reads l todo vs ls) (there : StandsAt w.ps l t k) (value : is_value (out-Mode k) ≡ true) (typed_as : (S : Store) → TypedStore w.ps S → P (read S own l)) where
    abbrev pub GivesWord : Machine → ℕ → Type 0
    GivesWord v y = (d : Datum) → P d → y ≡ word_of w d → (j : ℕ) → j < n → Tracks w h j 0 v (with_todo a todo (d ∷ vs) ls) cs own

    -- a word is read
    pub reads : (IsByte k → ⊥) → ((m : ℕ → ℕ) → Holds w h u own m → Asked (layout w h) (act i u) (λ e v. (y : ℕ) × (e ≡ Read (w.address l) y ∷ []) × (v.block ≡ u.block) × GivesWord v y)) → (j : ℕ) → j ≤ n → Tracks w h j q u a cs own
    reads wide asked zero less = λ m s. stays w h q u a cs own m few s
    reads wide asked (suc j) less =
        one w lays h sits i u a cs own j q codable code 1 (λ e v. (y : ℕ) × (e ≡ Read (w.address l) y ∷ []) × (v.block ≡ u.block) × GivesWord v y) mark few asked
        (λ S m0 m' o e v typed fits lies shows matches own_lies p.
        let seen : Shows (layout w h) m0 m' (Read (w.address l) p.0 ∷ []) = subst (λ (d : List Access). Shows (layout w h) m0 m' d) p.1 shows in
        let own_data : OwnLies w own v.block = subst (λ b. OwnLies w own b) (sym p.2) own_lies in
        let same : p.0 ≡ word_of w (read S own l) = sym seen.1 ∙ lies.words there value wide ∙ ap (word_of w) (sym (shared_read there S own)) in
        subst (λ z. After j v m' o S z) (sym is)
        (record { fine = tt; asks = refl; goes_on = λ f. tt; world = refl; lies = lies_same w lays S m0 m' seen.2 lies; next = p.3 (read S own l) (typed_as S typed) same j (omega (arith, less)) m' (record { task = matches; own_data = own_data }) }))

    -- a byte is read
    pub reads_byte : IsByte k → ((m : ℕ → ℕ) → Holds w h u own m → Asked (layout w h) (act i u) (λ e v. (y : ℕ) × (e ≡ ReadByte (w.address l) y ∷ []) × (v.block ≡ u.block) × GivesWord v y)) → (j : ℕ) → j ≤ n → Tracks w h j q u a cs own
    reads_byte narrow asked zero less = λ m s. stays w h q u a cs own m few s
    reads_byte narrow asked (suc j) less =
        one w lays h sits i u a cs own j q codable code 1 (λ e v. (y : ℕ) × (e ≡ ReadByte (w.address l) y ∷ []) × (v.block ≡ u.block) × GivesWord v y) mark few asked
        (λ S m0 m' o e v typed fits lies shows matches own_lies p.
        let seen : Shows (layout w h) m0 m' (ReadByte (w.address l) p.0 ∷ []) = subst (λ (d : List Access). Shows (layout w h) m0 m' d) p.1 shows in
        let own_data : OwnLies w own v.block = subst (λ b. OwnLies w own b) (sym p.2) own_lies in
        let same : p.0 ≡ word_of w (read S own l) = sym seen.1 ∙ lies.bytes there narrow ∙ ap (word_of w) (sym (shared_read there S own)) in
        subst (λ z. After j v m' o S z) (sym is)
        (record { fine = tt; asks = refl; goes_on = λ f. tt; world = refl; lies = lies_same w lays S m0 m' seen.2 lies; next = p.3 (read S own l) (typed_as S typed) same j (omega (arith, less)) m' (record { task = matches; own_data = own_data }) }))

  -- an item of the task's own data is read
  pub reads_own : (k : ℕ) (P : Datum → Type 0) → next_of (meaning w) a ≡ Reads (Own k) todo vs ls → (TypedOwn w.ps own → P (own_at own k)) → ((m : ℕ → ℕ) → Holds w h u own m → Asked (layout w h) (act i u) (λ e v. (e ≡ []) × (v.block ≡ u.block) × (P (own_at own k) → (j : ℕ) → j < n → Tracks w h j 0 v (with_todo a todo (own_at own k ∷ vs) ls) cs own)))
      → (j : ℕ) → j ≤ n → Tracks w h j q u a cs own
  reads_own k P is typed_as asked zero less = λ m s. stays w h q u a cs own m few s
  reads_own k P is typed_as asked (suc j) less =
      one w lays h sits i u a cs own j q codable code 1 (λ e v. (e ≡ []) × (v.block ≡ u.block) × (P (own_at own k) → (j : ℕ) → j < n → Tracks w h j 0 v (with_todo a todo (own_at own k ∷ vs) ls) cs own)) mark few asked
      (λ S m0 m' o e v typed fits lies shows matches own_lies p.
      let same : SameShared w m0 m' = subst (λ (d : List Access). Shows (layout w h) m0 m' d) p.0 shows in
      let own_data : OwnLies w own v.block = subst (λ b. OwnLies w own b) (sym p.1) own_lies in
      subst (λ z. After j v m' o S z) (sym is)
      (record { fine = tt; asks = refl; goes_on = λ f. tt; world = refl; lies = lies_same w lays S m0 m' same lies; next = p.2 (typed_as fits.1) j (omega (arith, less)) m' (record { task = matches; own_data = own_data }) }))

  module _ (l : Location) (t : ModeTable) (k : Mode) (d : Datum) (is : next_of (meaning w) a ≡ Writes l d todo vs ls) (there : StandsAt w.ps l t k) (value : is_value (out-Mode k) ≡ true) where
    abbrev pub GoesOn : Machine → Type 0
    GoesOn v = (j : ℕ) → j < n → Tracks w h j 0 v (with_todo a todo vs ls) cs own

    -- a word is written
    pub writes : (IsByte k → ⊥) → word_of w d < 65536 → ((m : ℕ → ℕ) → Holds w h u own m → Asked (layout w h) (act i u) (λ e v. (e ≡ Wrote (w.address l) (word_of w d) ∷ []) × (v.block ≡ u.block) × GoesOn v)) → (j : ℕ) → j ≤ n → Tracks w h j q u a cs own
    writes wide small asked zero less = λ m s. stays w h q u a cs own m few s
    writes wide small asked (suc j) less =
        one w lays h sits i u a cs own j q codable code 1 (λ e v. (e ≡ Wrote (w.address l) (word_of w d) ∷ []) × (v.block ≡ u.block) × GoesOn v) mark few asked
        (λ S m0 m' o e v typed fits lies shows matches own_lies p.
        let seen : Shows (layout w h) m0 m' (Wrote (w.address l) (word_of w d) ∷ []) = subst (λ (d : List Access). Shows (layout w h) m0 m' d) p.0 shows in
        let own_data : OwnLies w own v.block = subst (λ b. OwnLies w own b) (sym p.1) own_lies in
        subst (λ z. After j v m' o S z) (sym is)
        (subst (λ x. Agreed w h (done (layout w h) v m') o (meant.asked (Writes l d todo vs ls)) (Doing (with_todo a todo vs ls) cs x) (write S l d) (Follows w h j 0 (regs v) m' (Doing (with_todo a todo vs ls) cs x))) (sym (own_kept there own d))
        (record { fine = tt; asks = refl; goes_on = λ f. tt; world = refl; lies = word_written w lays inside S typed l t k d there value m0 m' lies wide small seen.1; next = p.2 j (omega (arith, less)) m' (record { task = matches; own_data = own_data }) })))

    -- a byte is written
    pub writes_byte : IsByte k → word_of w d < 256 → ((m : ℕ → ℕ) → Holds w h u own m → Asked (layout w h) (act i u) (λ e v. (e ≡ WroteByte (w.address l) (word_of w d) ∷ []) × (v.block ≡ u.block) × GoesOn v)) → (j : ℕ) → j ≤ n → Tracks w h j q u a cs own
    writes_byte narrow small asked zero less = λ m s. stays w h q u a cs own m few s
    writes_byte narrow small asked (suc j) less =
        one w lays h sits i u a cs own j q codable code 1 (λ e v. (e ≡ WroteByte (w.address l) (word_of w d) ∷ []) × (v.block ≡ u.block) × GoesOn v) mark few asked
        (λ S m0 m' o e v typed fits lies shows matches own_lies p.
        let seen : Shows (layout w h) m0 m' (WroteByte (w.address l) (word_of w d) ∷ []) = subst (λ (d : List Access). Shows (layout w h) m0 m' d) p.0 shows in
        let own_data : OwnLies w own v.block = subst (λ b. OwnLies w own b) (sym p.1) own_lies in
        subst (λ z. After j v m' o S z) (sym is)
        (subst (λ x. Agreed w h (done (layout w h) v m') o (meant.asked (Writes l d todo vs ls)) (Doing (with_todo a todo vs ls) cs x) (write S l d) (Follows w h j 0 (regs v) m' (Doing (with_todo a todo vs ls) cs x))) (sym (own_kept there own d))
        (record { fine = tt; asks = refl; goes_on = λ f. tt; world = refl; lies = byte_written w lays inside S typed l t k d there value m0 m' lies narrow small seen.1; next = p.2 j (omega (arith, less)) m' (record { task = matches; own_data = own_data }) })))

  -- an item of the task's own data is written
  pub writes_own : (k : ℕ) (d : Datum) → next_of (meaning w) a ≡ Writes (Own k) d todo vs ls → ((m : ℕ → ℕ) → Holds w h u own m → Asked (layout w h) (act i u) (λ e v. (e ≡ []) × (OwnLies w own u.block → TypedOwn w.ps own → OwnLies w (slice_set own k d) v.block) × ((j : ℕ) → j < n → Tracks w h j 0 v (with_todo a todo vs ls) cs (slice_set own k d))))
      → (j : ℕ) → j ≤ n → Tracks w h j q u a cs own
  writes_own k d is asked zero less = λ m s. stays w h q u a cs own m few s
  writes_own k d is asked (suc j) less =
      one w lays h sits i u a cs own j q codable code 1 (λ e v. (e ≡ []) × (OwnLies w own u.block → TypedOwn w.ps own → OwnLies w (slice_set own k d) v.block) × ((j : ℕ) → j < n → Tracks w h j 0 v (with_todo a todo vs ls) cs (slice_set own k d))) mark few asked
      (λ S m0 m' o e v typed fits lies shows matches own_lies p.
      let same : SameShared w m0 m' = subst (λ (d : List Access). Shows (layout w h) m0 m' d) p.0 shows in
      subst (λ z. After j v m' o S z) (sym is)
      (record { fine = tt; asks = refl; goes_on = λ f. tt; world = refl; lies = lies_same w lays S m0 m' same lies; next = p.2 j (omega (arith, less)) m' (record { task = matches; own_data = p.1 own_lies fits.1 }) }))
