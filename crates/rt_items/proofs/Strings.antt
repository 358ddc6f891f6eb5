-- The parts of a string, and what they give.
use Rattle.std.proofs.Common.{◌≡◌, ℕ, ◌+◌, ◌<◌, Bool, true, false, not, eqb, List, [], ◌∷◌, ◌++◌, length, take, drop, Option, Some, None, Result, Ok, Err, refl, sym, ap, subst, ◌∙◌, arith, length-append, length-drop, append_assoc}
use Rattle.std.specs.Prelude.{take_while, nat_lt}
use Rattle.std.proofs.lemmas.Bool.{eqb-true, eq-eqb}
use Rattle.std.proofs.lemmas.List.{take_at, drop_at}
use Rattle.rt_pieces.specs.declared.fault.TextFault.{TextFault}
use Rattle.rt_pieces.specs.declared.fault.TextFault.TheVariants.{Memory, BadCharacter}
use Rattle.rt_pieces.specs.Bytes.{is_printable, in_string, Each, Ends}
use Rattle.rt_items.specs.Texts.{Lets, Given, followed, behind_fault, with_bytes, Gives, parts, onto_first, characters, value, values, in_turn, from_insert, closing, failing, unfinished, result_map, PairGives, InsertGives, limited, string_of}
use Rattle.rt_items.specs.Reading.{Answers}
use Rattle.rt_pieces.proofs.Fronts.{front, front_is, front_length, each_front, ends_front, parts_front, whole_front, neq_eqb}

abbrev given : List ℕ → Option TextFault → Given
given bytes fault = record { bytes = bytes; fault = fault }

module _ (old new : List ℕ) (a b : Given) where
  pub goes_on : with_bytes old a ≡ record { bytes = new; fault = None } → with_bytes old (followed a b) ≡ with_bytes new b
  goes_on h =
      let bytes : old ++ a.bytes ≡ new = ap (λ (g : Given). g.bytes) h in
      let fault : a.fault ≡ None = ap (λ (g : Given). g.fault) h in
      ap (λ (t : Option TextFault). with_bytes old (behind_fault t a.bytes b)) fault ∙ ap (λ (t : List ℕ). given t b.fault) (sym (append_assoc old a.bytes b.bytes) ∙ ap (λ (t : List ℕ). t ++ b.bytes) bytes)

  stops : (f : TextFault) → with_bytes old a ≡ record { bytes = new; fault = Some f } → with_bytes old (followed a b) ≡ record { bytes = new; fault = Some f }
  stops f h =
      let bytes : old ++ a.bytes ≡ new = ap (λ (g : Given). g.bytes) h in
      let fault : a.fault ≡ Some f = ap (λ (g : Given). g.fault) h in
      ap (λ (t : Option TextFault). with_bytes old (behind_fault t a.bytes b)) fault ∙ ap (λ (t : List ℕ). given t (Some f)) bytes

  pub stops_there : (f : TextFault) → Gives (with_bytes old a) new (Err f) → Gives (with_bytes old (followed a b)) new (Err f)
  stops_there Memory h = tt
  stops_there f h = stops f h

pub same_given : (g h : Given) (new : List ℕ) (r : Result (Unit {0}) TextFault) → g ≡ h → Gives h new r → Gives g new r
same_given g h new r e x = subst (λ (t : Given). Gives t new r) (sym e) x

-- ---- characters

while_taken : (p : ℕ → Bool) (xs : List ℕ) (len : ℕ) → len ≡ length (take_while p xs) → take len xs ≡ take_while p xs
while_taken p xs len is = ap (λ (k : ℕ). take k xs) is ∙ taken p xs
  where
    taken : (p : ℕ → Bool) (xs : List ℕ) → take (length (take_while p xs)) xs ≡ take_while p xs
    taken p xs =
        ap (λ (k : ℕ). take k xs) (front_length p xs) ∙ ap (take (length (front p xs))) (sym (parts_front p xs)) ∙ take_at (front p xs) (drop (length (front p xs)) xs) (length (front p xs)) refl ∙ sym (front_is p xs)

module _ (n : ℕ) (old part new : List ℕ) (len : ℕ) (len-is : len ≡ length (take_while is_printable part)) (now : new ≡ old ++ take len part) where
  pub all_printable : len ≡ length part → with_bytes old (characters n part) ≡ record { bytes = new; fault = None }
  all_printable all =
      let whole : eqb (length (take_while is_printable part)) (length part) ≡ true = eq-eqb (length (take_while is_printable part)) (length part) (sym len-is ∙ all) in
      rw whole (ap (λ (t : List ℕ). given t None) (ap (λ (t : List ℕ). old ++ t) (sym (while_taken is_printable part len len-is)) ∙ sym now))

  pub some_printable : (len ≡ length part → ⊥) → with_bytes old (characters n part) ≡ record { bytes = new; fault = Some (BadCharacter n) }
  some_printable not_all =
      let some : eqb (length (take_while is_printable part)) (length part) ≡ false = neq_eqb (length (take_while is_printable part)) (length part) (λ e. not_all (len-is ∙ e)) in
      rw some (ap (λ (t : List ℕ). given t (Some (BadCharacter n))) (ap (λ (t : List ℕ). old ++ t) (sym (while_taken is_printable part len len-is)) ∙ sym now))

-- ---- parts

abbrev no_separator : ℕ → ℕ → Bool
no_separator separator b = not (eqb b separator)

false_by_not : (t : Bool) → not t ≡ true → t ≡ false
false_by_not true h = absurd cc
false_by_not false h = refl

parts_at : (separator : ℕ) (body rest : List ℕ) → Each (no_separator separator) body → parts separator (body ++ separator ∷ rest) ≡ body ∷ parts separator rest
parts_at separator [] rest h = rw (eq-eqb separator separator refl) refl
parts_at separator (b ∷ bs) rest h = rw (false_by_not (eqb b separator) h.0) (ap (onto_first b) (parts_at separator bs rest h.1))

parts_none : (separator : ℕ) (body : List ℕ) → Each (no_separator separator) body → parts separator body ≡ body ∷ []
parts_none separator [] h = refl
parts_none separator (b ∷ bs) h = rw (false_by_not (eqb b separator) h.0) (ap (onto_first b) (parts_none separator bs h.1))

pub parts_all : (separator : ℕ) (xs : List ℕ) (len : ℕ) → len ≡ length (take_while (λ b. not (eqb b separator)) xs) → len ≡ length xs → parts separator xs ≡ xs ∷ []
parts_all separator xs len is all =
    let whole : front (no_separator separator) xs ≡ xs = whole_front (front (no_separator separator) xs) xs (parts_front (no_separator separator) xs) (sym (front_length (no_separator separator) xs) ∙ sym is ∙ all) in
    parts_none separator xs (subst (λ (t : List ℕ). Each (no_separator separator) t) whole (each_front (no_separator separator) xs))

at_separator : (separator : ℕ) (xs : List ℕ) → Ends (no_separator separator) xs → 0 < length xs → (rest : List ℕ) × (xs ≡ separator ∷ rest)
at_separator separator [] h some = absurd (omega arith)
at_separator separator (x ∷ xs) h some = (xs, ap (λ (t : ℕ). t ∷ xs) (is_it (eqb x separator) refl h))
  where
    is_it : (t : Bool) → eqb x separator ≡ t → not t ≡ false → x ≡ separator
    is_it true e h = eqb-true x separator e
    is_it false e h = absurd cc

pub parts_more : (separator : ℕ) (xs : List ℕ) (len : ℕ) → len ≡ length (take_while (λ b. not (eqb b separator)) xs) → (len ≡ length xs → ⊥) → (parts separator xs ≡ take len xs ∷ parts separator (drop (len + 1) xs)) × (len < length xs)
parts_more separator xs len is some =
    let p = no_separator separator in
    let body = front p xs in
    let size : len ≡ length body = is ∙ front_length p xs in
    let sum = ap length (parts_front p xs) in
    let lengths : length body + length (drop (length body) xs) ≡ length xs = simp length-append at sum in
    let short : length body < length xs = shorter (length body) (length (drop (length body) xs)) (length xs) lengths (λ e. some (size ∙ e)) in
    let rest = at_separator separator (drop (length body) xs) (ends_front p xs) (omega arith) in
    let whole : xs ≡ body ++ separator ∷ rest.0 = sym (parts_front p xs) ∙ ap (λ (t : List ℕ). body ++ t) rest.1 in
    let first : take len xs ≡ body = ap (λ (k : ℕ). take k xs) size ∙ ap (take (length body)) whole ∙ take_at body (separator ∷ rest.0) (length body) refl in
    let last : drop (len + 1) xs ≡ rest.0 = ap (λ (k : ℕ). drop (k + 1) xs) size ∙ ap (drop (length body + 1)) whole ∙ behind body rest.0 in
    (ap (parts separator) whole ∙ parts_at separator body rest.0 (each_front p xs) ∙ ap (λ (t : List ℕ). t ∷ parts separator rest.0) (sym first) ∙ ap (λ (t : List ℕ). take len xs ∷ parts separator t) (sym last), omega arith)
  where
    shorter : (a b c : ℕ) → a + b ≡ c → (a ≡ c → ⊥) → a < c
    shorter a b c e h = omega arith

    behind : (body rest : List ℕ) → drop (length body + 1) (body ++ separator ∷ rest) ≡ rest
    behind body rest =
        let one : length body + 1 ≡ length (body ++ separator ∷ []) = omega (arith, length-append body (separator ∷ [])) in
        ap (drop (length body + 1)) (sym (append_assoc body (separator ∷ []) rest)) ∙ drop_at (body ++ separator ∷ []) rest (length body + 1) (sym one)

parts_some : (separator : ℕ) (xs : List ℕ) → (p : List ℕ) × (ps : List (List ℕ)) × (parts separator xs ≡ p ∷ ps)
parts_some separator [] = ([], [], refl)
parts_some separator (b ∷ bs) = by_test (eqb b separator) refl (parts_some separator bs)
  where
    by_test : (t : Bool) → eqb b separator ≡ t → (p : List ℕ) × (ps : List (List ℕ)) × (parts separator bs ≡ p ∷ ps) → (p : List ℕ) × (ps : List (List ℕ)) × (parts separator (b ∷ bs) ≡ p ∷ ps)
    by_test true e (p, ps, is) = ([], parts separator bs, rw e refl)
    by_test false e (p, ps, is) = (b ∷ p, ps, rw e (ap (onto_first b) is))

-- ---- values, and inserts and characters in turn

pub values_more : (lets : Lets) (n : ℕ) (closed : Bool) (field xs : List ℕ) → values lets n closed (field ∷ parts 44 xs) ≡ followed (value lets n true field) (values lets n closed (parts 44 xs))
unfolding values
values_more lets n closed field xs =
    let some = parts_some 44 xs in
    ap (λ (t : List (List ℕ)). values lets n closed (field ∷ t)) some.2 ∙ ap (λ (t : List (List ℕ)). followed (value lets n true field) (values lets n closed t)) (sym some.2)

pub values_last : (lets : Lets) (n : ℕ) (closed : Bool) (field : List ℕ) → values lets n closed (field ∷ []) ≡ value lets n closed field
unfolding values
values_last lets n closed field = refl

pub turn_more : (lets : Lets) (n : ℕ) (closed : Bool) (outside xs : List ℕ) → in_turn lets n closed (outside ∷ parts 35 xs) ≡ followed (characters n outside) (from_insert lets n closed (parts 35 xs))
unfolding in_turn
turn_more lets n closed outside xs =
    let some = parts_some 35 xs in
    ap (λ (t : List (List ℕ)). in_turn lets n closed (outside ∷ t)) some.2 ∙ by_rest some.0 some.1 ∙ ap (λ (t : List (List ℕ)). followed (characters n outside) (from_insert lets n closed t)) (sym some.2)
  where
    by_rest : (inside : List ℕ) (rest : List (List ℕ)) → in_turn lets n closed (outside ∷ inside ∷ rest) ≡ followed (characters n outside) (from_insert lets n closed (inside ∷ rest))
    by_rest inside [] = refl
    by_rest inside (next ∷ rest) = refl

turn_last : (lets : Lets) (n : ℕ) (closed : Bool) (outside : List ℕ) → in_turn lets n closed (outside ∷ []) ≡ followed (characters n outside) (closing n closed)
unfolding in_turn
turn_last lets n closed outside = refl

pub insert_more : (lets : Lets) (n : ℕ) (closed : Bool) (inside xs : List ℕ) → from_insert lets n closed (inside ∷ parts 35 xs) ≡ followed (values lets n true (parts 44 inside)) (in_turn lets n closed (parts 35 xs))
insert_more lets n closed inside xs =
    let some = parts_some 35 xs in
    ap (λ (t : List (List ℕ)). from_insert lets n closed (inside ∷ t)) some.2 ∙ ap (λ (t : List (List ℕ)). followed (values lets n true (parts 44 inside)) (in_turn lets n closed t)) (sym some.2)

module _ (lets : Lets) (n : ℕ) (closed : Bool) (old out new inside rest : List ℕ) (len : ℕ) (len-is : len ≡ length (take_while (λ b. not (eqb b 44)) rest)) (so_far : with_bytes old (values lets n closed (parts 44 inside)) ≡ with_bytes out (values lets n closed (parts 44 rest))) where
  pub values_end : (r : Result (Unit {0}) TextFault) → len ≡ length rest → Gives (with_bytes out (value lets n closed rest)) new r → Gives (with_bytes old (values lets n closed (parts 44 inside))) new r
  values_end r all h =
      same_given _ _ new r (so_far ∙ ap (λ (t : List (List ℕ)). with_bytes out (values lets n closed t)) (parts_all 44 rest len len-is all) ∙ ap (with_bytes out) (values_last lets n closed rest)) h

  one_more : (len ≡ length rest → ⊥) → with_bytes old (values lets n closed (parts 44 inside)) ≡ with_bytes out (followed (value lets n true (take len rest)) (values lets n closed (parts 44 (drop (len + 1) rest))))
  one_more some = so_far ∙ ap (λ (t : List (List ℕ)). with_bytes out (values lets n closed t)) (parts_more 44 rest len len-is some).0 ∙ ap (with_bytes out) (values_more lets n closed (take len rest) (drop (len + 1) rest))

  pub values_stop : (f : TextFault) → (len ≡ length rest → ⊥) → Gives (with_bytes out (value lets n true (take len rest))) new (Err f) → Gives (with_bytes old (values lets n closed (parts 44 inside))) new (Err f)
  values_stop f some h = same_given _ _ new (Err f) (one_more some) (stops_there out new (value lets n true (take len rest)) (values lets n closed (parts 44 (drop (len + 1) rest))) f h)

  pub values_go : (after : List ℕ) → after ≡ drop (len + 1) rest → (len ≡ length rest → ⊥) → Gives (with_bytes out (value lets n true (take len rest))) new (Ok tt) → with_bytes old (values lets n closed (parts 44 inside)) ≡ with_bytes new (values lets n closed (parts 44 after))
  values_go after is some h =
      one_more some ∙ goes_on out new (value lets n true (take len rest)) (values lets n closed (parts 44 (drop (len + 1) rest))) h ∙ ap (λ (t : List ℕ). with_bytes new (values lets n closed (parts 44 t))) (sym is)

module _ (lets : Lets) (n : ℕ) (closed : Bool) (bytes old new : List ℕ) (len : ℕ) (len-is : len ≡ length (take_while (λ b. not (eqb b 35)) bytes)) where
  pub pair_ends : (done : Result (Unit {0}) TextFault) (r : Result (Option (List ℕ)) TextFault) → len ≡ length bytes → Gives (with_bytes old (followed (characters n bytes) (closing n closed))) new done → r ≡ result_map (λ u. None) done → PairGives lets n closed bytes old new r
  pair_ends done r all h is = subst (λ (t : Result (Option (List ℕ)) TextFault). PairGives lets n closed bytes old new t) (sym is) (by_case done (same_given _ _ new done (ap (with_bytes old) (ap (in_turn lets n closed) (parts_all 35 bytes len len-is all) ∙ turn_last lets n closed bytes)) h))
    where
      by_case : (done : Result (Unit {0}) TextFault) → Gives (with_bytes old (in_turn lets n closed (parts 35 bytes))) new done → PairGives lets n closed bytes old new (result_map (λ u. None) done)
      by_case (Ok u) h = h
      by_case (Err Memory) h = tt
      by_case (Err f) h = h

  pub insert_ends : (done : Result (Unit {0}) TextFault) (r : Result (Option (List ℕ)) TextFault) → len ≡ length bytes → Gives (with_bytes old (followed (values lets n closed (parts 44 bytes)) (failing (unfinished n closed)))) new done → r ≡ result_map (λ u. None) done → InsertGives lets n closed bytes old new r
  insert_ends done r all h is = subst (λ (t : Result (Option (List ℕ)) TextFault). InsertGives lets n closed bytes old new t) (sym is) (by_case done (same_given _ _ new done (ap (λ (t : List (List ℕ)). with_bytes old (from_insert lets n closed t)) (parts_all 35 bytes len len-is all)) h))
    where
      by_case : (done : Result (Unit {0}) TextFault) → Gives (with_bytes old (from_insert lets n closed (parts 35 bytes))) new done → InsertGives lets n closed bytes old new (result_map (λ u. None) done)
      by_case (Ok u) h = h
      by_case (Err Memory) h = tt
      by_case (Err f) h = h

  shorter : (len ≡ length bytes → ⊥) → length (drop (len + 1) bytes) < length bytes
  shorter some = let less = (parts_more 35 bytes len len-is some).1 in omega (arith, length-drop (len + 1) bytes)

  pair_is : (len ≡ length bytes → ⊥) → with_bytes old (in_turn lets n closed (parts 35 bytes)) ≡ with_bytes old (followed (characters n (take len bytes)) (from_insert lets n closed (parts 35 (drop (len + 1) bytes))))
  pair_is some = ap (with_bytes old) (ap (in_turn lets n closed) (parts_more 35 bytes len len-is some).0 ∙ turn_more lets n closed (take len bytes) (drop (len + 1) bytes))

  insert_is : (len ≡ length bytes → ⊥) → with_bytes old (from_insert lets n closed (parts 35 bytes)) ≡ with_bytes old (followed (values lets n true (parts 44 (take len bytes))) (in_turn lets n closed (parts 35 (drop (len + 1) bytes))))
  insert_is some = ap (with_bytes old) (ap (from_insert lets n closed) (parts_more 35 bytes len len-is some).0 ∙ insert_more lets n closed (take len bytes) (drop (len + 1) bytes))

  pub pair_stops : (f : TextFault) → (len ≡ length bytes → ⊥) → Gives (with_bytes old (characters n (take len bytes))) new (Err f) → PairGives lets n closed bytes old new (Err f)
  pair_stops f some h = as_pair f (same_given _ _ new (Err f) (pair_is some) (stops_there old new (characters n (take len bytes)) (from_insert lets n closed (parts 35 (drop (len + 1) bytes))) f h))
    where
      as_pair : (f : TextFault) → Gives (with_bytes old (in_turn lets n closed (parts 35 bytes))) new (Err f) → PairGives lets n closed bytes old new (Err f)
      as_pair Memory h = tt
      as_pair f h = h

  pub insert_stops : (f : TextFault) → (len ≡ length bytes → ⊥) → Gives (with_bytes old (values lets n true (parts 44 (take len bytes)))) new (Err f) → InsertGives lets n closed bytes old new (Err f)
  insert_stops f some h = as_insert f (same_given _ _ new (Err f) (insert_is some) (stops_there old new (values lets n true (parts 44 (take len bytes))) (in_turn lets n closed (parts 35 (drop (len + 1) bytes))) f h))
    where
      as_insert : (f : TextFault) → Gives (with_bytes old (from_insert lets n closed (parts 35 bytes))) new (Err f) → InsertGives lets n closed bytes old new (Err f)
      as_insert Memory h = tt
      as_insert f h = h

  pub insert_goes : (after : List ℕ) → after ≡ drop (len + 1) bytes → (len ≡ length bytes → ⊥) → Gives (with_bytes old (values lets n true (parts 44 (take len bytes)))) new (Ok tt) → InsertGives lets n closed bytes old new (Ok (Some after))
  insert_goes after is some h = (
    insert_is some ∙ goes_on old new (values lets n true (parts 44 (take len bytes))) (in_turn lets n closed (parts 35 (drop (len + 1) bytes))) h ∙ ap (λ (t : List ℕ). with_bytes new (in_turn lets n closed (parts 35 t))) (sym is),
    subst (λ (t : List ℕ). length t < length bytes) (sym is) (shorter some),
  )

module _ (lets : Lets) (n : ℕ) (closed : Bool) (bytes old middle new : List ℕ) (len : ℕ) (len-is : len ≡ length (take_while (λ b. not (eqb b 35)) bytes)) (some : len ≡ length bytes → ⊥) where
  pub pair_goes : (after : List ℕ) (r : Result (Option (List ℕ)) TextFault) → after ≡ drop (len + 1) bytes → Gives (with_bytes old (characters n (take len bytes))) middle (Ok tt) → InsertGives lets n closed after middle new r → PairGives lets n closed bytes old new r
  pair_goes after r is h x =
      by_case r (pair_is lets n closed bytes old new len len-is some ∙ goes_on old middle (characters n (take len bytes)) (from_insert lets n closed (parts 35 (drop (len + 1) bytes))) h ∙ ap (λ (t : List ℕ). with_bytes middle (from_insert lets n closed (parts 35 t))) (sym is)) x
    where
      by_case : (r : Result (Option (List ℕ)) TextFault) → with_bytes old (in_turn lets n closed (parts 35 bytes)) ≡ with_bytes middle (from_insert lets n closed (parts 35 after)) → InsertGives lets n closed after middle new r → PairGives lets n closed bytes old new r
      by_case (Ok None) e x = e ∙ x
      by_case (Ok (Some rest)) e x = let less = x.1 in let least = shorter lets n closed bytes old new len len-is some in (e ∙ x.0, omega (arith, ap length is))
      by_case (Err Memory) e x = tt
      by_case (Err f) e x = e ∙ x

pub string_is : (lets : Lets) (n : ℕ) (bs : List ℕ) (len : ℕ) (closed : Bool) (start new : List ℕ) (done : Result (Unit {0}) TextFault) (r : Result (List ℕ) TextFault) → len ≡ length (take_while in_string bs) → closed ≡ nat_lt len (length bs) → start ≡ []
    → Gives (with_bytes start (in_turn lets n closed (parts 35 (take len bs)))) new done → ((given : Given) → Gives given new done → Answers (limited n given) r) → Answers (string_of lets n bs) r
string_is lets n bs len closed start new done r len-is closed-is empty h answers =
    let body : take len bs ≡ take_while in_string bs = while_taken in_string bs len len-is in
    let is_closed : closed ≡ nat_lt (length (take_while in_string bs)) (length bs) = closed-is ∙ ap (λ (k : ℕ). nat_lt k (length bs)) len-is in
    answers (in_turn lets n (nat_lt (length (take_while in_string bs)) (length bs)) (parts 35 (take_while in_string bs)))
    (subst (λ (g : Given). Gives g new done) (ap (λ (t : List ℕ). with_bytes t (in_turn lets n closed (parts 35 (take len bs)))) empty ∙ ap (λ (t : Bool). in_turn lets n t (parts 35 (take len bs))) is_closed
    ∙ ap (λ (t : List ℕ). in_turn lets n (nat_lt (length (take_while in_string bs)) (length bs)) (parts 35 t)) body) h)
