-- What all is known of is what an expression is, by the rules of what fits.
use Rattle.std.proofs.Common.{◌≡◌, ℕ, Bool, true, false, List, [], ◌∷◌, Option, Some, None, Ok, Err, refl, sym, ap, ◌∙◌, subst}
use Rattle.rt_syntax_exprs.specs.declared.tree.Expr.{Expr}
use Rattle.rt_syntax_exprs.specs.declared.tree.Chain.{Chain}
use Rattle.rt_syntax_exprs.specs.declared.tree.Link.{Link}
use Rattle.rt_modes.specs.declared.mode.Mode.{Mode, out-Mode}
use Rattle.rt_modes.specs.declared.mode.RecordDef.{RecordDef}
use Rattle.rt_tree_nodes.specs.declared.value.Value.{Value}
use Rattle.rt_tree_nodes.specs.declared.value.Place.{Place}
use Rattle.rt_tree_nodes.specs.declared.value.Place.TheVariants as places
use Rattle.rt_exprs.specs.declared.operand.Standing.{Standing}
use Rattle.rt_exprs.specs.Sights.{Sight}
use Rattle.rt_exprs.specs.Modes.{Want}
use Rattle.rt_check_faults.specs.Outcomes.{Outcome, unknown, told, or_any}
use Rattle.rt_exprs.specs.Operands.{Found, Judged, place, if_known, first_field, field_of, is_label, unless_label, if_known_mode}
use Rattle.rt_exprs.specs.Judging.{found, seen_as, field_with}
use Rattle.rt_exprs.specs.Fitting as f
use Rattle.rt_exprs.specs.Fitting.{IsBy, ChainIs, Leads, Follows, FitsBy, FitEach, Shows, ShowsChain, ShowsLinks, ShowsLink, Takes, TakeEach, known, pushed}

-- ---- fields whose mode is known

record KnownField (records : List RecordDef) (r : ℕ) (name : List ℕ) (k : ℕ) (m : Mode) : Type 0 where
  pub first : first_field records r name ≡ Some (k, m)
  pub no_label : is_label (out-Mode m) ≡ false

chosen : (b : Bool) (x y : ℕ × Mode) → unless_label b x ≡ Some y → b ≡ false × (x ≡ y)
chosen true x y e = absurd cc
chosen false x y e = (refl, cc)

known_by : (o : Option (ℕ × Mode)) (k : ℕ) (m : Mode) → if_known_mode o ≡ Some (k, m) → (o ≡ Some (k, m)) × (is_label (out-Mode m) ≡ false)
known_by None k m e = absurd cc
known_by (Some x) k m e = let c = chosen (is_label (out-Mode x.1)) x (k, m) e in let same : x ≡ (k, m) = c.1 in (ap (λ (y : ℕ × Mode). Some y) same, subst (λ (y : ℕ × Mode). is_label (out-Mode y.1) ≡ false) same c.0)

known_field : (records : List RecordDef) (r : ℕ) (name : List ℕ) (k : ℕ) (m : Mode) → field_of records r name ≡ Some (k, m) → KnownField records r name k m
known_field records r name k m e = let b = known_by (first_field records r name) k m e in record { first = b.0; no_label = b.1 }

field_known : (records : List RecordDef) (r : ℕ) (name : List ℕ) (k : ℕ) (m : Mode) → first_field records r name ≡ Some (k, m) → is_label (out-Mode m) ≡ false → field_of records r name ≡ Some (k, m)
field_known records r name k m e n = rw (e, n) refl

mutual
  pub shows_known : {s : Sight} {e : Expr} {y : Found} → IsBy s e y → Shows s e (Some (known y))
  shows_known (f.is_number o) = f.shows_number o
  shows_known (f.is_text o i) = f.shows_text o i
  shows_known (f.is_chain o h) = f.shows_chain o (chain_known h)
  shows_known (f.is_val o h t) = f.shows_val o (chain_known h) t
  shows_known (f.is_length o m h t) = f.shows_length o m (shows_known h) t
  shows_known (f.is_monadic {x = x} o m h e) = f.shows_monadic (Some x) o m (shows_known h) e
  shows_known (f.is_of_int o i h k) = f.shows_of_int o i (takes_known h) (takes_known k)
  shows_known (f.is_by_left {x = x} o i h e k) = f.shows_by_left (Some x) o i (shows_known h) e (takes_known k)

  pub chain_known : {s : Sight} {c : Chain} {y : Found} → ChainIs s c y → ShowsChain s c (Some (known y))
  chain_known (f.led n h) = f.shows_named n (links_known h)

  links_known : {s : Sight} {x y : Found} {ls : List Link} → Leads s x ls y → ShowsLinks s (Some (known x)) ls (Some (known y))
  links_known f.here = f.shows_here
  links_known (f.onward h hs) = f.shows_onward (link_known h) (links_known hs)

  link_known : {s : Sight} {l : Link} {x y : Found} → Follows s l x y → ShowsLink s l (Some (known x)) (Some (known y))
  link_known {s = s} (f.to_field {n = n} {r = r} {k = k} {m = m} o is field) = let b = known_field s.records r n.name k m field in f.shows_field o is b.first (rw b.no_label refl)
  link_known (f.to_element o r i) = f.shows_element o r (takes_known i)
  link_known (f.to_call o r h n) = f.shows_call o r (each_known h) n

  pub takes_known : {s : Sight} {e : Expr} {w : Want} {x : Value} → FitsBy s e w x → Takes s e w (Some x)
  takes_known (f.fits_by h e) = f.is_taken (shows_known h) e

  each_known : {s : Sight} {es : List Expr} {ms : List Mode} {xs : List Value} → FitEach s es ms xs → TakeEach s es ms (Some xs)
  each_known f.no_argument = f.none_taken
  each_known (f.no_parameter {es = []}) = f.none_taken
  each_known (f.no_parameter {es = e ∷ es}) = f.no_more_taken
  each_known (f.one_more h hs) = f.one_taken (takes_known h) (each_known hs)

-- ---- and back

suits_known : (b : Bool) (t : Outcome Value) (x : Value) → if_known b t ≡ Ok x → (b ≡ true) × (t ≡ Ok x)
suits_known true t x e = (refl, e)
suits_known false (Ok y) x e = absurd cc
suits_known false (Err g) x e = absurd cc

abbrev none_of : {A : Type 0} → Option A
none_of = None

same_judged : (a b : Judged) → Some a ≡ Some b → a ≡ b
same_judged a b e = cc

found_same : (a : Judged) (y : Found) → Some a ≡ Some (known y) → a.found ≡ y
found_same a y e = ap (λ (j : Judged). j.found) (same_judged a (known y) e)

known_same : (a : Judged) (y : Found) → Some a ≡ Some (known y) → a.known ≡ true
known_same a y e = ap (λ (j : Judged). j.known) (same_judged a (known y) e)

all_known : (j : Judged) → j.known ≡ true → Some j ≡ Some (known j.found)
all_known j e = rw (← e) refl

never : (y : Found) → none_of {A = Judged} ≡ Some (known y) → ⊥
never y e = cc

or_known : {A : Type 0} (other : A) (k : Bool) (o : Option A) → (or_any other k o).1 ≡ true → k ≡ true
or_known other k None e = absurd cc
or_known other k (Some a) e = e

field_stays : (b : Bool) (j i : Judged) (p : Place) (st : Standing) (k : ℕ) (m : Mode) (o : Option Judged) → field_with b j p st k m ≡ told o → o ≡ Some i → (b ≡ false) × (seen_as j.known j.found.at (place (places.Field p k) m st) ≡ i)
field_stays true j i p st k m o w e = absurd (let bad : unknown {A = Judged} ≡ Ok i = w ∙ ap (λ (q : Option Judged). told q) e in cc)
field_stays false j i p st k m o w e = (refl, let same : Ok (seen_as j.known j.found.at (place (places.Field p k) m st)) ≡ Ok i = w ∙ ap (λ (q : Option Judged). told q) e in cc)

mutual
  pub is_by : {s : Sight} {e : Expr} {o : Option Judged} (y : Found) → Shows s e o → o ≡ Some (known y) → IsBy s e y
  is_by {s = s} {e = d} y (f.shows_number {n = n} {at = at} o) e = subst (IsBy s d) (found_same _ y e) (f.is_number o)
  is_by {s = s} {e = d} y (f.shows_text o i) e = subst (IsBy s d) (found_same _ y e) (f.is_text o i)
  is_by y (f.shows_chain o h) e = f.is_chain o (chain_is y h e)
  is_by {s = s} {e = d} y (f.shows_val {j = j} o h t) e = subst (IsBy s d) (found_same _ y e) (f.is_val o (chain_is j.found h (all_known j (known_same _ y e))) t)
  is_by y (f.hides_val o h) e = absurd (never y e)
  is_by {s = s} {e = d} y (f.shows_length {j = j} o m h t) e = subst (IsBy s d) (found_same _ y e) (f.is_length o m (is_by j.found h (all_known j (known_same _ y e))) t)
  is_by y (f.shows_monadic None o m h x) e = absurd (let bad : false ≡ true = known_same _ y e in cc)
  is_by {s = s} {e = d} y (f.shows_monadic {j = j} (Some v) o m h x) e = let k = suits_known j.known _ v x in subst (IsBy s d) (found_same _ y e) (f.is_monadic o m (is_by j.found h (all_known j k.0)) k.1)
  is_by y (f.shows_always o h g) e = absurd (let bad : false ≡ true = known_same _ y e in cc)
  is_by y (f.hides_monadic o h g) e = absurd (never y e)
  is_by y (f.shows_of_int {x = None} o i h k) e = absurd (let bad : false ≡ true = known_same _ y e in cc)
  is_by y (f.shows_of_int {x = Some a} {y = None} o i h k) e = absurd (let bad : false ≡ true = known_same _ y e in cc)
  is_by {s = s} {e = d} y (f.shows_of_int {x = Some a} {y = Some b} o i h k) e = subst (IsBy s d) (found_same _ y e) (f.is_of_int o i (fits_known a h refl) (fits_known b k refl))
  is_by y (f.shows_by_left None o i h x k) e = absurd (let bad : false ≡ true = known_same _ y e in cc)
  is_by y (f.shows_by_left (Some a) {y = None} o i h x k) e = absurd (let bad : false ≡ true = known_same _ y e in cc)
  is_by {s = s} {e = d} y (f.shows_by_left {j = j} (Some a) {y = Some b} o i h x k) e = let q = suits_known j.known _ a x in subst (IsBy s d) (found_same _ y e) (f.is_by_left o i (is_by j.found h (all_known j q.0)) q.1 (fits_known b k refl))
  is_by y (f.hides_by_left o i h k) e = absurd (never y e)

  pub chain_is : {s : Sight} {c : Chain} {o : Option Judged} (y : Found) → ShowsChain s c o → o ≡ Some (known y) → ChainIs s c y
  chain_is {c = c} y (f.shows_named {is = is} n h) e = f.led n (leads_known (f.begins c is) y h refl e)
  chain_is y (f.hides_named n h) e = absurd (none_leads y h refl e)

  none_leads : {s : Sight} {o p : Option Judged} {ls : List Link} (y : Found) → ShowsLinks s o ls p → o ≡ None → p ≡ Some (known y) → ⊥
  none_leads y f.shows_here e d = never y (sym e ∙ d)
  none_leads y (f.shows_onward h hs) e d = none_leads y hs (none_on h e) d

  none_on : {s : Sight} {l : Link} {o p : Option Judged} → ShowsLink s l o p → o ≡ None → p ≡ None
  none_on (f.shows_field {j = j} o is field w) e = absurd (let bad : Some j ≡ None = e in cc)
  none_on (f.shows_element {j = j} o r i) e = absurd (let bad : Some j ≡ None = e in cc)
  none_on (f.shows_call {j = j} o r h n) e = absurd (let bad : Some j ≡ None = e in cc)
  none_on (f.hides_field o) e = refl
  none_on (f.hides_apply o h) e = refl

  -- what is known behind some links was known before them
  leads_to_known : {s : Sight} {o p : Option Judged} {ls : List Link} (j : Judged) (y : Found) → ShowsLinks s o ls p → o ≡ Some j → p ≡ Some (known y) → j.known ≡ true
  leads_to_known j y f.shows_here e d = known_same j y (sym e ∙ d)
  leads_to_known j y (f.shows_onward {p = None} h hs) e d = absurd (none_leads y hs refl d)
  leads_to_known j y (f.shows_onward {p = Some k} h hs) e d = stays_known j k h e refl (leads_to_known k y hs refl d)

  stays_known : {s : Sight} {l : Link} {o p : Option Judged} (j k : Judged) → ShowsLink s l o p → o ≡ Some j → p ≡ Some k → k.known ≡ true → j.known ≡ true
  stays_known j k (f.shows_field {j = i} {p = p} {k = n} {st = st} {m = m} {o = q} o is field w) e d n' =
      let same : i ≡ j = same_judged i j e in let c = field_stays (is_label (out-Mode m)) i k p st n m q w d in ap (λ (x : Judged). x.known) (sym same) ∙ ap (λ (x : Judged). x.known) c.1 ∙ n'
  stays_known j k (f.shows_element {j = i} {i = x} o r h) e d n =
      let same : i ≡ j = same_judged i j e in let here = same_judged _ k d in ap (λ (x : Judged). x.known) (sym same) ∙ or_known f.any_value i.known x (ap (λ (q : Judged). q.known) here ∙ n)
  stays_known j k (f.shows_call {j = i} {xs = xs} o r h m) e d n =
      let same : i ≡ j = same_judged i j e in let here = same_judged _ k d in ap (λ (x : Judged). x.known) (sym same) ∙ or_known [] i.known xs (ap (λ (q : Judged). q.known) here ∙ n)
  stays_known j k (f.hides_field o) e d n = absurd (let bad : none_of {A = Judged} ≡ Some j = e in cc)
  stays_known j k (f.hides_apply o h) e d n = absurd (let bad : none_of {A = Judged} ≡ Some j = e in cc)

  leads_known : {s : Sight} {o p : Option Judged} {ls : List Link} (x y : Found) → ShowsLinks s o ls p → o ≡ Some (known x) → p ≡ Some (known y) → Leads s x ls y
  leads_known {s = s} x y f.shows_here e d = let same : known x ≡ known y = same_judged (known x) (known y) (sym e ∙ d) in subst (Leads s x []) (ap (λ (j : Judged). j.found) same) f.here
  leads_known x y (f.shows_onward {p = None} h hs) e d = absurd (none_leads y hs refl d)
  leads_known x y (f.shows_onward {p = Some j} h hs) e d = let k = leads_to_known j y hs refl d in f.onward (follows_known x j.found h e (all_known j k)) (leads_known j.found y hs (all_known j k) d)

  follows_known : {s : Sight} {l : Link} {o p : Option Judged} (x y : Found) → ShowsLink s l o p → o ≡ Some (known x) → p ≡ Some (known y) → Follows s l x y
  follows_known {s = s} {l = l} x y (f.shows_field {n = name} {j = i} {p = p} {r = r} {k = n} {st = st} {m = m} {o = q} o is field w) e d =
      let c = field_stays (is_label (out-Mode m)) i (known y) p st n m q w d in
      let step : Follows s l i.found (found i.found.at (place (places.Field p n) m st)) = f.to_field o is (field_known s.records r name.name n m field c.0) in
      subst (λ (z : Found). Follows s l z y) (found_same i x e) (subst (Follows s l i.found) (ap (λ (j : Judged). j.found) c.1) step)
  follows_known x y (f.shows_element {i = None} o r h) e d = absurd (let bad : false ≡ true = known_same _ y d in cc)
  follows_known {s = s} {l = l} x y (f.shows_element {j = i} {i = Some v} o r h) e d = subst (λ (z : Found). Follows s l z y) (found_same i x e) (subst (Follows s l i.found) (found_same _ y d) (f.to_element o r (fits_known v h refl)))
  follows_known x y (f.shows_call {xs = None} o r h n) e d = absurd (let bad : false ≡ true = known_same _ y d in cc)
  follows_known {s = s} {l = l} x y (f.shows_call {j = i} {xs = Some vs} o r h n) e d = subst (λ (z : Found). Follows s l z y) (found_same i x e) (subst (Follows s l i.found) (found_same _ y d) (f.to_call o r (each_is vs h refl) n))
  follows_known x y (f.hides_field o) e d = absurd (never x e)
  follows_known x y (f.hides_apply o h) e d = absurd (never x e)

  pub fits_known : {s : Sight} {e : Expr} {w : Want} {o : Option Value} (x : Value) → Takes s e w o → o ≡ Some x → FitsBy s e w x
  fits_known x (f.is_taken {j = j} h is) e = let k = suits_known j.known _ x (is ∙ ap (λ (q : Option Value). told q) e) in f.fits_by (is_by j.found h (all_known j k.0)) k.1
  fits_known x (f.taken_hidden h) e = absurd (let bad : none_of {A = Value} ≡ Some x = e in cc)

  each_is : {s : Sight} {es : List Expr} {ms : List Mode} {o : Option (List Value)} (xs : List Value) → TakeEach s es ms o → o ≡ Some xs → FitEach s es ms xs
  each_is {s = s} xs (f.none_taken {ms = ms}) e = let same : [] ≡ xs = cc in subst (FitEach s [] ms) same f.no_argument
  each_is {s = s} xs (f.no_more_taken {e = d} {es = es}) e = let same : [] ≡ xs = cc in subst (FitEach s (d ∷ es) []) same f.no_parameter
  each_is xs (f.one_taken {x = None} h hs) e = absurd (let bad : none_of {A = List Value} ≡ Some xs = e in cc)
  each_is xs (f.one_taken {x = Some v} {xs = None} h hs) e = absurd (let bad : none_of {A = List Value} ≡ Some xs = e in cc)
  each_is {s = s} xs (f.one_taken {e = d} {es = es} {m = m} {ms = ms} {x = Some v} {xs = Some vs} h hs) e = let same : v ∷ vs ≡ xs = cc in subst (FitEach s (d ∷ es) (m ∷ ms)) same (f.one_more (fits_known v h refl) (each_is vs hs refl))
