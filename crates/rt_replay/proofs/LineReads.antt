-- The lines of tasks and the fault line are read as they are printed.
use Rattle.std.proofs.Common.{◌≡◌, ℕ, ◌≤◌, ◌⊎◌, inl, inr, Bool, true, false, not, ◌&&◌, cond, eqb, leb, List, [], ◌∷◌, ◌++◌, length, codes, decimal, Option, Some, None, option_map, refl, sym, ap, subst, ◌∙◌, arith}
use Rattle.std.specs.List.{list_all, AllByRecursion}
use Rattle.std.specs.Str.{bytes_eq}
use Rattle.std.proofs.lemmas.Bool.{leb-true, le-leb}
use Rattle.rt_rules.specs.declared.task.State.{State}
use Rattle.rt_rules.specs.declared.task.State.TheVariants as state
use Rattle.rt_report.specs.Reports.{signed_text}
use Rattle.rt_pieces.specs.Bytes.{Each}
use Rattle.rt_system.specs.ReadingSystems.{and_then}
use Rattle.rt_system.proofs.Tests.{none_some, some_inj, true_false, and_parts, and_both, all_means, all_is}
use Rattle.rt_system.proofs.TickLineReads.{gap_by}
use Rattle.rt_system.proofs.Words.{same_means, other_word}
use Rattle.rt_replay.specs.declared.report.ReportedTask.{ReportedTask}
use Rattle.rt_replay.specs.Reports.{Task, printed, HasStateRange, HasTaskRange, IsReportName, IsInsideName}
use Rattle.rt_replay.specs.Reading.{behind, unended, is_in_word, cut, is_inside_name, is_name, counted_in, signed_number, or_else, signed_in, numbered, state_in, task_of, with_state, task_in}
use Rattle.rt_replay.proofs.Pieces.{found, other_byte, differ, behind_means, behind_is, behind_none, unended_means, unended_is, cut_means, cut_is}
use Rattle.rt_replay.proofs.DecimalReads.{counted_means, counted_is, counted_none, signed_means, signed_is}

-- ---- choices

pub chosen : {A : Type 0} (b : Bool) (x y : A) (o : Option A) → cond b (Some x) o ≡ Some y → ((b ≡ true) × (x ≡ y)) ⊎ (o ≡ Some y)
chosen true x y o e = inl (refl, some_inj e)
chosen false x y o e = inr e

pub record FoundFirst {A B : Type 0} (o : Option A) (f : A → B) (b : B) : Type 0 where
  pub value : A
  pub is : o ≡ Some value
  pub gives : f value ≡ b

pub first_found : {A B : Type 0} (o : Option A) (f : A → B) (p : Option B) (b : B) → or_else (option_map f o) p ≡ Some b → FoundFirst o f b ⊎ (p ≡ Some b)
first_found (Some a) f p b e = inl (record { value = a; is = refl; gives = some_inj e })
first_found None f p b e = inr e

pub found_only : {A B : Type 0} (o : Option A) (f : A → B) (b : B) → option_map f o ≡ Some b → FoundFirst o f b
found_only (Some a) f b e = record { value = a; is = refl; gives = some_inj e }
found_only None f b e = none_some e

pub either : {A : Type 0} (o p : Option A) (x : A) → or_else o p ≡ Some x → (o ≡ Some x) ⊎ (p ≡ Some x)
either (Some a) p x e = inl e
either None p x e = inr e

-- ---- names

no_space : (c : ℕ) → c ≡ 32 → is_inside_name c ≡ false
no_space c e = rw e refl

no_feed : (c : ℕ) → c ≡ 10 → is_inside_name c ≡ false
no_feed c e = rw e refl

inside_means : (c : ℕ) → is_inside_name c ≡ true → IsInsideName c
inside_means c h = (λ e. true_false (is_inside_name c) h (no_space c e), λ e. true_false (is_inside_name c) h (no_feed c e))

inside_is : (c : ℕ) → IsInsideName c → is_inside_name c ≡ true
inside_is c h = and_both (not (eqb c 32)) (not (eqb c 10)) (other_byte c 32 h.0) (other_byte c 10 h.1)

pub name_means : (name : List ℕ) → is_name name ≡ true → IsReportName name
unfolding is_name
name_means name h =
    let k = and_parts (leb 1 (length name)) (leb (length name) 32 && list_all is_inside_name name) h in
    let l = and_parts (leb (length name) 32) (list_all is_inside_name name) k.1 in
    record { short = (leb-true 1 (length name) k.0, leb-true (length name) 32 l.0); inside = all_means is_inside_name IsInsideName inside_means name l.1 }

pub name_is : (name : List ℕ) → IsReportName name → is_name name ≡ true
unfolding is_name
name_is name h =
    and_both (leb 1 (length name)) (leb (length name) 32 && list_all is_inside_name name) (le-leb 1 (length name) h.short.0)
    (and_both (leb (length name) 32) (list_all is_inside_name name) (le-leb (length name) 32 h.short.1) (all_is is_inside_name IsInsideName inside_is name h.inside))

pub name_word : (name : List ℕ) → AllByRecursion IsInsideName name → Each is_in_word name
name_word [] h = tt
name_word (c ∷ cs) h = (other_byte c 32 h.0.0, name_word cs h.1)

-- ---- conditions

-- a condition, up to the line's end
abbrev pub state_text : State → List ℕ
state_text state.Ready = codes "READY\n"
state_text (state.Delayed n) = codes "DELAYED " ++ (decimal n ++ 10 ∷ [])
state_text (state.Event n) = codes "EVENT " ++ (decimal n ++ 10 ∷ [])
state_text (state.Facility n) = codes "FACILITY " ++ (decimal n ++ 10 ∷ [])
state_text state.Ended = codes "ENDED\n"
state_text (state.Failed n) = codes "ERROR " ++ (signed_text n ++ 10 ∷ [])

pub record IsState (text : List ℕ) (s : State) : Type 0 where
  pub spelled : text ≡ state_text s
  pub range : HasStateRange s

signed_in_means : (text : List ℕ) (n : ℕ) → signed_in text ≡ Some n → IsState text (state.Failed n)
unfolding signed_in
signed_in_means text n e =
    let t = found (and_then (behind (codes "ERROR ") text) unended) signed_number n e in
    let u = found (behind (codes "ERROR ") text) unended t.value t.is in
    let k = signed_means t.value n t.rest in
    record {
      spelled = behind_means (codes "ERROR ") text u.value u.is ∙ ap (λ (x : List ℕ). codes "ERROR " ++ x) (unended_means u.value t.value u.rest ∙ ap (λ (x : List ℕ). x ++ 10 ∷ []) k.text_is);
      range = k.low;
    }

signed_in_is : (n : ℕ) → n ≤ 65535 → signed_in (state_text (state.Failed n)) ≡ Some n
unfolding signed_in
signed_in_is n low =
    ap (λ (o : Option (List ℕ)). and_then (and_then o unended) signed_number) (behind_is (codes "ERROR ") (signed_text n ++ 10 ∷ []))
    ∙ ap (λ (o : Option (List ℕ)). and_then o signed_number) (unended_is (signed_text n))
    ∙ signed_is n low

abbrev delayed : List ℕ → Option ℕ
delayed text = counted_in (codes "DELAYED ") 65535 text

abbrev event : List ℕ → Option ℕ
event text = counted_in (codes "EVENT ") 255 text

abbrev facility : List ℕ → Option ℕ
facility text = counted_in (codes "FACILITY ") 255 text

abbrev last_by : List ℕ → Option State
last_by text = option_map (λ n. state.Failed n) (signed_in text)

abbrev facility_by : List ℕ → Option State
facility_by text = or_else (option_map (λ n. state.Facility n) (facility text)) (last_by text)

abbrev event_by : List ℕ → Option State
event_by text = or_else (option_map (λ n. state.Event n) (event text)) (facility_by text)

abbrev Says : List ℕ → State → Type 0
Says text s = IsState text s

says_last : (text : List ℕ) (s : State) → last_by text ≡ Some s → IsState text s
says_last text s e =
    let f = found_only (signed_in text) (λ (n : ℕ). state.Failed n) s e in
    subst (λ (x : State). IsState text x) f.gives (signed_in_means text f.value f.is)

says_facility : (text : List ℕ) (s : State) → facility_by text ≡ Some s → IsState text s
says_facility text s e =
    elim (first_found (facility text) (λ (n : ℕ). state.Facility n) (last_by text) s e) [
      | inl f ↦ let k = counted_means (codes "FACILITY ") 255 text f.value (omega arith) f.is in subst (λ (x : State). IsState text x) f.gives (record { spelled = k.0; range = k.1 })
      | inr r ↦ says_last text s r
    ]

says_event : (text : List ℕ) (s : State) → event_by text ≡ Some s → IsState text s
says_event text s e =
    elim (first_found (event text) (λ (n : ℕ). state.Event n) (facility_by text) s e) [
      | inl f ↦ let k = counted_means (codes "EVENT ") 255 text f.value (omega arith) f.is in subst (λ (x : State). IsState text x) f.gives (record { spelled = k.0; range = k.1 })
      | inr r ↦ says_facility text s r
    ]

says_numbered : (text : List ℕ) (s : State) → numbered text ≡ Some s → IsState text s
unfolding numbered
says_numbered text s e =
    elim (first_found (delayed text) (λ (n : ℕ). state.Delayed n) (event_by text) s e) [
      | inl f ↦ let k = counted_means (codes "DELAYED ") 65535 text f.value (omega arith) f.is in subst (λ (x : State). IsState text x) f.gives (record { spelled = k.0; range = k.1 })
      | inr r ↦ says_event text s r
    ]

pub state_means : (text : List ℕ) (s : State) → state_in text ≡ Some s → IsState text s
unfolding state_in
state_means text s e =
    elim (chosen (bytes_eq text (codes "READY\n")) state.Ready s (cond (bytes_eq text (codes "ENDED\n")) (Some state.Ended) (numbered text)) e) [
      | inl h ↦ subst (λ (x : State). IsState text x) h.1 (record { spelled = same_means text (codes "READY\n") h.0; range = tt })
      | inr r ↦ elim (chosen (bytes_eq text (codes "ENDED\n")) state.Ended s (numbered text) r) [
        | inl h ↦ subst (λ (x : State). IsState text x) h.1 (record { spelled = same_means text (codes "ENDED\n") h.0; range = tt })
        | inr q ↦ says_numbered text s q
      ]
    ]

-- a text that is neither of the conditions without a number
neither : (text : List ℕ) → (text ≡ codes "READY\n" → ⊥) → (text ≡ codes "ENDED\n" → ⊥) → state_in text ≡ numbered text
unfolding state_in
neither text h k = rw (other_word text (codes "READY\n") h, other_word text (codes "ENDED\n") k) refl

is_delayed : (n : ℕ) → n ≤ 65535 → state_in (state_text (state.Delayed n)) ≡ Some (state.Delayed n)
unfolding numbered
is_delayed n h =
    let text = state_text (state.Delayed n) in
    neither text (λ e. differ 0 text (codes "READY\n") refl e) (λ e. differ 0 text (codes "ENDED\n") refl e)
    ∙ ap (λ (o : Option ℕ). or_else (option_map (λ n. state.Delayed n) o) (event_by text)) (counted_is (codes "DELAYED ") 65535 n h (omega arith))

is_event : (n : ℕ) → n ≤ 255 → state_in (state_text (state.Event n)) ≡ Some (state.Event n)
unfolding numbered
is_event n h =
    let text = state_text (state.Event n) in
    neither text (λ e. differ 0 text (codes "READY\n") refl e) (λ e. differ 1 text (codes "ENDED\n") refl e)
    ∙ ap (λ (o : Option ℕ). or_else (option_map (λ n. state.Delayed n) o) (event_by text)) (counted_none (codes "DELAYED ") 65535 text (λ r e. differ 0 text (codes "DELAYED " ++ r) refl e))
    ∙ ap (λ (o : Option ℕ). or_else (option_map (λ n. state.Event n) o) (facility_by text)) (counted_is (codes "EVENT ") 255 n h (omega arith))

is_facility : (n : ℕ) → n ≤ 255 → state_in (state_text (state.Facility n)) ≡ Some (state.Facility n)
unfolding numbered
is_facility n h =
    let text = state_text (state.Facility n) in
    neither text (λ e. differ 0 text (codes "READY\n") refl e) (λ e. differ 0 text (codes "ENDED\n") refl e)
    ∙ ap (λ (o : Option ℕ). or_else (option_map (λ n. state.Delayed n) o) (event_by text)) (counted_none (codes "DELAYED ") 65535 text (λ r e. differ 0 text (codes "DELAYED " ++ r) refl e))
    ∙ ap (λ (o : Option ℕ). or_else (option_map (λ n. state.Event n) o) (facility_by text)) (counted_none (codes "EVENT ") 255 text (λ r e. differ 0 text (codes "EVENT " ++ r) refl e))
    ∙ ap (λ (o : Option ℕ). or_else (option_map (λ n. state.Facility n) o) (last_by text)) (counted_is (codes "FACILITY ") 255 n h (omega arith))

is_failed : (n : ℕ) → n ≤ 65535 → state_in (state_text (state.Failed n)) ≡ Some (state.Failed n)
unfolding numbered
is_failed n h =
    let text = state_text (state.Failed n) in
    neither text (λ e. differ 0 text (codes "READY\n") refl e) (λ e. differ 1 text (codes "ENDED\n") refl e)
    ∙ ap (λ (o : Option ℕ). or_else (option_map (λ n. state.Delayed n) o) (event_by text)) (counted_none (codes "DELAYED ") 65535 text (λ r e. differ 0 text (codes "DELAYED " ++ r) refl e))
    ∙ ap (λ (o : Option ℕ). or_else (option_map (λ n. state.Event n) o) (facility_by text)) (counted_none (codes "EVENT ") 255 text (λ r e. differ 1 text (codes "EVENT " ++ r) refl e))
    ∙ ap (λ (o : Option ℕ). or_else (option_map (λ n. state.Facility n) o) (last_by text)) (counted_none (codes "FACILITY ") 255 text (λ r e. differ 0 text (codes "FACILITY " ++ r) refl e))
    ∙ ap (λ (o : Option ℕ). option_map (λ n. state.Failed n) o) (signed_in_is n h)

pub state_is : (s : State) → HasStateRange s → state_in (state_text s) ≡ Some s
unfolding state_in
state_is state.Ready h = refl
state_is (state.Delayed n) h = is_delayed n h
state_is (state.Event n) h = is_event n h
state_is (state.Facility n) h = is_facility n h
state_is state.Ended h = refl
state_is (state.Failed n) h = is_failed n h

-- ---- the line of a task

pub task_printed : (name : List ℕ) (s : State) → printed (Task (task_of name s)) ≡ codes "TASK " ++ (name ++ 32 ∷ state_text s)
task_printed name state.Ready = refl
task_printed name (state.Delayed n) = refl
task_printed name (state.Event n) = refl
task_printed name (state.Facility n) = refl
task_printed name state.Ended = refl
task_printed name (state.Failed n) = refl

pub record IsTaskLine (line : List ℕ) (t : ReportedTask) : Type 0 where
  pub line_is : line ≡ printed (Task t)
  pub range : HasTaskRange t

with_state_means : (line first rest : List ℕ) (t : ReportedTask) → line ≡ codes "TASK " ++ (first ++ 32 ∷ rest) → with_state (first, rest) ≡ Some t → IsTaskLine line t
with_state_means line first rest t parts e =
    let h = gap_by (is_name first) (option_map (λ s. task_of first s) (state_in rest)) t e in
    let f = found_only (state_in rest) (λ (s : State). task_of first s) t h.1 in
    let k = state_means rest f.value f.is in
    subst (λ (x : ReportedTask). IsTaskLine line x) f.gives (record {
      line_is = parts ∙ ap (λ (x : List ℕ). codes "TASK " ++ (first ++ 32 ∷ x)) k.spelled ∙ sym (task_printed first f.value);
      range = record { name = name_means first h.0; state = k.range };
    })

pub task_means : (line : List ℕ) (t : ReportedTask) → task_in line ≡ Some t → IsTaskLine line t
unfolding task_in
task_means line t e =
    let a = found (and_then (behind (codes "TASK ") line) cut) with_state t e in
    let b = found (behind (codes "TASK ") line) cut a.value a.is in
    let k = cut_means b.value a.value.0 a.value.1 b.rest in
    with_state_means line a.value.0 a.value.1 t (behind_means (codes "TASK ") line b.value b.is ∙ ap (λ (x : List ℕ). codes "TASK " ++ x) k.parts) a.rest

with_state_is : (name : List ℕ) (s : State) → IsReportName name → HasStateRange s → with_state (name, state_text s) ≡ Some (task_of name s)
with_state_is name s n h =
    ap (λ (b : Bool). cond b (option_map (λ s. task_of name s) (state_in (state_text s))) None) (name_is name n)
    ∙ ap (λ (o : Option State). option_map (λ s. task_of name s) o) (state_is s h)

pub task_is : (t : ReportedTask) → HasTaskRange t → task_in (printed (Task t)) ≡ Some t
unfolding task_in
task_is t h =
    let rest = t.name ++ 32 ∷ state_text t.state in
    ap (λ (l : List ℕ). and_then (and_then (behind (codes "TASK ") l) cut) with_state) (task_printed t.name t.state)
    ∙ ap (λ (o : Option (List ℕ)). and_then (and_then o cut) with_state) (behind_is (codes "TASK ") rest)
    ∙ ap (λ (o : Option (List ℕ × List ℕ)). and_then o with_state) (cut_is t.name (state_text t.state) (name_word t.name h.name.inside))
    ∙ with_state_is t.name t.state h.name h.state

pub no_task : (line : List ℕ) → ((rest : List ℕ) → line ≡ codes "TASK " ++ rest → ⊥) → task_in line ≡ None
unfolding task_in
no_task line h = ap (λ (o : Option (List ℕ)). and_then (and_then o cut) with_state) (behind_none (codes "TASK ") line h)
