-- What is read at a place of many bytes.
use Rattle.std.proofs.Common.{◌≡◌, ℕ, ◌+◌, ◌-◌, ◌≤◌, List, [], ◌++◌, length, take, drop, Ok, Err, ◌⊎◌, inl, inr, refl, sym, ap, subst, ◌∙◌, arith, append_assoc}
use Rattle.std.proofs.lemmas.List.{length-append, length-drop, take_rest, take-append-drop, drop_at, append-nil}
use Rattle.rt_modes.specs.declared.code.Place.TheVariants.{Alone}
use Rattle.rt_modes.specs.declared.mode.Mode.{Mode}
use Rattle.rt_words.specs.Reading.{Outcome}
use Rattle.rt_modes.specs.Reading as reads
use Rattle.rt_modes.specs.Spelling.{mode_format, spelling, MayStand, IsMode, StandsAt, RefusedAt}
use Rattle.rt_modes.proofs.ModeReads.{right_mode}
use Rattle.rt_words.proofs.Right.{ok, err, read_same, same_err}
use Rattle.rt_words.proofs.Spelled.{AreBytes, bytes_after}
use Rattle.rt_modes.proofs.Spelled.{fits_stands, stands_fits}
use Rattle.rt_modes.proofs.Within.{in_mode}

module _ (records : ℕ) (bytes : List ℕ) (at : ℕ) (within : at ≤ length bytes) where
  abbrev here : List ℕ
  here = drop at bytes

  -- what the function of the definitions answers at the place
  abbrev pub read : Outcome Mode
  read = reads.mode_of records (reads.inside records 100) 100 Alone 8 (take (length bytes - at) here)

  is_read : read ≡ reads.mode_of records (reads.inside records 100) 100 Alone 8 here
  is_read = rw (take_rest bytes at) refl

  here_short : length here ≤ length bytes
  here_short = let e = length-drop at bytes in omega arith

  pub rest_short : (m : Mode) (rest : List ℕ) → read ≡ Ok (m, rest) → length rest ≤ length bytes
  rest_short m rest e = let g = (in_mode records).left here rest m ((right_mode records).sound here rest m (sym is_read ∙ e)) in let h = here_short in omega arith

  refused_is : (n : ℕ) → read ≡ Err n → (mode_format records).Refuses here n
  refused_is n e = (right_mode records).refuses here n (sym is_read ∙ e)

  pub field_short : (n : ℕ) → read ≡ Err n → n ≤ length bytes
  field_short n e = let g = (in_mode records).field here n (refused_is n e) in let h = here_short in omega arith

  pub found : AreBytes bytes → (m : Mode) (rest : List ℕ) → read ≡ Ok (m, rest) → StandsAt records bytes at m (length bytes - length rest)
  found h m rest e =
      let k = fits_stands records here rest m (bytes_after (take at bytes) here (subst AreBytes (sym (take-append-drop at bytes)) h)) ((right_mode records).sound here rest m (sym is_read ∙ e)) in
      let whole : bytes ≡ (take at bytes ++ spelling m) ++ rest = sym (take-append-drop at bytes) ∙ rw (k.0) (sym (append_assoc (take at bytes) (spelling m) rest)) in
      let size : length bytes ≡ length (take at bytes ++ spelling m) + length rest = ap length whole ∙ length-append (take at bytes ++ spelling m) rest in
      let left : drop (length bytes - length rest) bytes ≡ rest = subst (λ t. drop (length bytes - length rest) t ≡ rest) (sym whole) (drop_at (take at bytes ++ spelling m) rest (length bytes - length rest) (omega arith)) in
      record { within = omega arith; spelled = rw left (k.0); stands = k.1 }

  stood : (m : Mode) (p : ℕ) → StandsAt records bytes at m p → read ≡ Ok (m, drop p bytes)
  stood m p h = is_read ∙ (right_mode records).complete here (drop p bytes) m (rw (h.spelled) (stands_fits records (drop p bytes) m h.stands))

  pub refused : (n : ℕ) → read ≡ Err n → RefusedAt records bytes at (length bytes - n)
  refused n e = let g = field_short n e in let k : length bytes - (length bytes - n) ≡ n = omega arith in record { within = omega arith; refused = rw k (refused_is n e) }

  was_refused : (p : ℕ) → RefusedAt records bytes at p → read ≡ Err (length bytes - p)
  was_refused p h = is_read ∙ (right_mode records).refused here (length bytes - p) h.refused

  -- what is read is the one mode that stands there, and no field is refused
  pub same_mode : (x : Mode) (rest : List ℕ) → read ≡ Ok (x, rest) → (m : Mode) (p : ℕ) → StandsAt records bytes at m p → (x ≡ m) × (length bytes - length rest ≡ p)
  same_mode x rest e m p h =
      let g = read_same x rest m (drop p bytes) (sym e ∙ stood m p h) in
      let k : length rest ≡ length bytes - p = ap length g.1 ∙ length-drop p bytes in
      let w = h.within in (g.0, omega arith)

  pub not_refused : (x : Mode) (rest : List ℕ) → read ≡ Ok (x, rest) → (p : ℕ) → RefusedAt records bytes at p → ⊥
  not_refused x rest e p h = let g : ok (x, rest) ≡ err (length bytes - p) = sym e ∙ was_refused p h in absurd cc

  -- the field that is refused is the one, and no mode stands there
  pub same_field : (n : ℕ) → read ≡ Err n → (p : ℕ) → RefusedAt records bytes at p → length bytes - n ≡ p
  same_field n e p h = let g = same_err {A = Mode} n (length bytes - p) (sym e ∙ was_refused p h) in let w = h.within in omega arith

  pub not_stood : (n : ℕ) → read ≡ Err n → (m : Mode) (p : ℕ) → StandsAt records bytes at m p → ⊥
  not_stood n e m p h = let g : err n ≡ ok (m, drop p bytes) = sym e ∙ stood m p h in absurd cc

-- ---- the laws

pub never_both : (records : ℕ) (bytes : List ℕ) (at p q : ℕ) (m : Mode) → at ≤ length bytes → StandsAt records bytes at m p → RefusedAt records bytes at q → ⊥
never_both records bytes at p q m within s r = not_refused records bytes at within m (drop p bytes) (stood records bytes at within m p s) q r

pub stand_or_refused : (records : ℕ) (bytes : List ℕ) (at : ℕ) → AreBytes bytes → at ≤ length bytes → ((m : Mode) × (p : ℕ) × StandsAt records bytes at m p) ⊎ ((p : ℕ) × RefusedAt records bytes at p)
stand_or_refused records bytes at h within = by (read records bytes at within) refl
  where
    by : (o : Outcome Mode) → read records bytes at within ≡ o → ((m : Mode) × (p : ℕ) × StandsAt records bytes at m p) ⊎ ((p : ℕ) × RefusedAt records bytes at p)
    by (Ok x) e = inl (x.0, length bytes - length x.1, found records bytes at within h x.0 x.1 e)
    by (Err n) e = inr (length bytes - n, refused records bytes at within n e)

pub read_back : (records : ℕ) (before rest : List ℕ) (m : Mode) → MayStand records m → StandsAt records (before ++ (spelling m ++ rest)) (length before) m (length before + length (spelling m))
read_back records before rest m h =
    let e : length before + length (spelling m) ≡ length (before ++ spelling m) = sym (length-append before (spelling m)) in
    let size : length (before ++ (spelling m ++ rest)) ≡ length before + (length (spelling m) + length rest) = length-append before (spelling m ++ rest) ∙ ap (λ k. length before + k) (length-append (spelling m) rest) in
    let f : drop (length before) (before ++ (spelling m ++ rest)) ≡ spelling m ++ rest = drop_at before (spelling m ++ rest) (length before) refl in
    let g : drop (length before + length (spelling m)) (before ++ (spelling m ++ rest)) ≡ rest =
    subst (λ t. drop (length before + length (spelling m)) t ≡ rest) (append_assoc before (spelling m) rest) (drop_at (before ++ spelling m) rest (length before + length (spelling m)) (sym e)) in
    record { within = omega arith; spelled = rw g f; stands = h }

-- the two readings of bytes that begin with the one spelling and are the other
pub one_spelling : (records : ℕ) (bytes rest : List ℕ) (m n : Mode) → IsMode records bytes m → IsMode records (bytes ++ rest) n → (rest ≡ []) × (m ≡ n)
one_spelling records bytes rest m n a b =
    let one = (right_mode records).complete (spelling m ++ rest) rest m (stands_fits records rest m a.stands) in
    let two = (right_mode records).complete (spelling n ++ []) [] n (stands_fits records [] n b.stands) in
    let same : spelling n ++ [] ≡ spelling m ++ rest = append-nil (spelling n) ∙ sym b.spelled ∙ ap (λ t. t ++ rest) a.spelled in
    let g = read_same m rest n [] (sym one ∙ rw (sym same) two) in
    (g.1, g.0)
