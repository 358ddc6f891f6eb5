-- What is written behind other data stands behind them with relocations applied.
use Rattle.std.proofs.Common.{◌≡◌, ℕ, ◌+◌, ◌-◌, ◌/◌, ◌%◌, ◌==◌, ◌<◌, ◌≤◌, Bool, true, false, if◌then◌else◌, List, [], ◌∷◌, ◌++◌, length, slice_set, refl, sym, ap, ◌∙◌, subst, arith, length-append, append_assoc}
use Rattle.std.proofs.Math.ListN.{length-set}
use Rattle.std.proofs.Math.Seq.{set-append_seam}
use Rattle.std.proofs.lemmas.List.{set-append_left, set-append_right, append-nil}
use Rattle.std.proofs.lemmas.Bool.Decides.{nat_tests}
use Rattle.rt_words.specs.Bytes.{word_bytes}
use Rattle.rt_sizes.specs.Sizes as sizes
use Rattle.rt_object.specs.declared.object.Relocated.{Relocated}
use Rattle.rt_object.specs.declared.object.Relocation.{Relocation}
use Rattle.rt_link.specs.Relocated.{patched_bytes}
use Rattle.rt_compile.specs.declared.data.written.Data.{Data}
use Rattle.rt_compile.specs.Data.{with_bytes, relocation, hole, even}
use Rattle.rt_started.specs.Views.{view, AllIn}

-- two numbers set, one behind the other
two_set : List ℕ → ℕ → ℕ → ℕ → List ℕ
two_set xs p a b = slice_set (slice_set xs p a) (p + 1) b

two_length : (xs : List ℕ) (p a b : ℕ) → length (two_set xs p a b) ≡ length xs
unfolding two_set
two_length xs p a b = length-set (slice_set xs p a) (p + 1) b ∙ length-set xs p a

two_left : (xs ys : List ℕ) (p a b : ℕ) → p + 1 < length xs → two_set (xs ++ ys) p a b ≡ two_set xs p a b ++ ys
unfolding two_set
two_left xs ys p a b l =
    let one : slice_set (xs ++ ys) p a ≡ slice_set xs p a ++ ys = set-append_left xs ys p a (omega arith) in
    let long : length (slice_set xs p a) ≡ length xs = length-set xs p a in
    ap (λ (z : List ℕ). slice_set z (p + 1) b) one ∙ set-append_left (slice_set xs p a) ys (p + 1) b (omega arith)

two_last : (xs : List ℕ) (p a b : ℕ) → p ≡ length xs → two_set (xs ++ 0 ∷ (0 ∷ [])) p a b ≡ xs ++ a ∷ (b ∷ [])
unfolding two_set
two_last xs p a b e =
    let one : slice_set (xs ++ 0 ∷ (0 ∷ [])) p a ≡ xs ++ a ∷ (0 ∷ []) = ap (λ (z : ℕ). slice_set (xs ++ 0 ∷ (0 ∷ [])) z a) e ∙ set-append_seam xs 0 (0 ∷ []) a in
    let two : slice_set (xs ++ a ∷ (0 ∷ [])) (p + 1) b ≡ xs ++ slice_set (a ∷ (0 ∷ [])) (p + 1 - p) b = set-append_right xs (a ∷ (0 ∷ [])) p (p + 1) b (sym e) (omega arith) in
    let far : p + 1 - p ≡ 1 = omega arith in
    ap (λ (z : List ℕ). slice_set z (p + 1) b) one ∙ two ∙ ap (λ (z : ℕ). xs ++ slice_set (a ∷ (0 ∷ [])) z b) far

all_more : (rs : List Relocation) (n m : ℕ) → n ≤ m → AllIn n rs → AllIn m rs
all_more [] n m l h = tt
all_more (r ∷ rs) n m l h = (let a : r.place + 1 < n = h.0 in omega arith, all_more rs n m l h.1)

all_last : (rs : List Relocation) (r : Relocation) (n : ℕ) → AllIn n rs → r.place + 1 < n → AllIn n (rs ++ r ∷ [])
all_last [] r n h l = (l, tt)
all_last (q ∷ rs) r n h l = (h.0, all_last rs r n h.1 l)

module _ (word : Relocation → ℕ) where
  abbrev low : Relocation → ℕ
  low r = word r % 256

  abbrev high : Relocation → ℕ
  high r = word r / 256

  patched_cons : (r : Relocation) (rs : List Relocation) (xs : List ℕ) → patched_bytes word (r ∷ rs) xs ≡ patched_bytes word rs (two_set xs r.place (low r) (high r))
  unfolding two_set
  patched_cons r rs xs = refl

  pub patched_length : (rs : List Relocation) (xs : List ℕ) → length (patched_bytes word rs xs) ≡ length xs
  patched_length [] xs = refl
  patched_length (r ∷ rs) xs = ap length (patched_cons r rs xs) ∙ patched_length rs (two_set xs r.place (low r) (high r)) ∙ two_length xs r.place (low r) (high r)

  pub patched_left : (rs : List Relocation) (xs ys : List ℕ) → AllIn (length xs) rs → patched_bytes word rs (xs ++ ys) ≡ patched_bytes word rs xs ++ ys
  patched_left [] xs ys h = refl
  patched_left (r ∷ rs) xs ys h =
      let long : length (two_set xs r.place (low r) (high r)) ≡ length xs = two_length xs r.place (low r) (high r) in
      patched_cons r rs (xs ++ ys) ∙ ap (patched_bytes word rs) (two_left xs ys r.place (low r) (high r) h.0)
      ∙ patched_left rs (two_set xs r.place (low r) (high r)) ys (subst (λ (n : ℕ). AllIn n rs) (sym long) h.1) ∙ ap (λ (z : List ℕ). z ++ ys) (sym (patched_cons r rs xs))

  patched_last : (rs : List Relocation) (r : Relocation) (xs : List ℕ) → patched_bytes word (rs ++ r ∷ []) xs ≡ two_set (patched_bytes word rs xs) r.place (low r) (high r)
  patched_last [] r xs = patched_cons r [] xs
  patched_last (q ∷ rs) r xs =
      patched_cons q (rs ++ r ∷ []) xs ∙ patched_last rs r (two_set xs q.place (low q) (high q)) ∙ ap (λ (z : List ℕ). two_set z r.place (low r) (high r)) (sym (patched_cons q rs xs))

  -- ---- data

  abbrev pub Inside : Data → Type 0
  Inside d = AllIn (length d.bytes) d.relocations

  pub view_length : (d : Data) → length (view word d) ≡ length d.bytes
  view_length d = patched_length d.relocations d.bytes

  -- data that go on with a chunk
  pub record GoesOn (d e : Data) (chunk : List ℕ) : Type 0 where
    pub inside : Inside e
    pub view_is : view word e ≡ view word d ++ chunk

  pub goes_on : (d : Data) → Inside d → GoesOn d d []
  goes_on d h = record { inside = h; view_is = sym (append-nil (view word d)) }

  pub both_go_on : (d e f : Data) (xs ys : List ℕ) → GoesOn d e xs → GoesOn e f ys → GoesOn d f (xs ++ ys)
  both_go_on d e f xs ys g h = record { inside = h.inside; view_is = h.view_is ∙ ap (λ (z : List ℕ). z ++ ys) g.view_is ∙ append_assoc (view word d) xs ys }

  pub with_bytes_goes : (bs : List ℕ) (d : Data) → Inside d → GoesOn d (with_bytes bs d) bs
  with_bytes_goes bs d h =
      let long : length (d.bytes ++ bs) ≡ length d.bytes + length bs = length-append d.bytes bs in
      record { inside = all_more d.relocations (length d.bytes) (length (d.bytes ++ bs)) (omega arith) h; view_is = patched_left d.relocations d.bytes bs h }

  pub hole_goes : (of : Relocated) (offset : ℕ) (d : Data) → Inside d → GoesOn d (hole of offset d) (word_bytes (word (relocation of offset d)))
  hole_goes of offset d h =
      let r = relocation of offset d in
      let long : length (d.bytes ++ 0 ∷ (0 ∷ [])) ≡ length d.bytes + 2 = length-append d.bytes (0 ∷ (0 ∷ [])) in
      let place : r.place ≡ length (view word d) = sym (view_length d) in
      record {
        inside = all_last d.relocations r (length (d.bytes ++ 0 ∷ (0 ∷ []))) (all_more d.relocations (length d.bytes) (length (d.bytes ++ 0 ∷ (0 ∷ []))) (omega arith) h) (omega arith);
        view_is = patched_last d.relocations r (d.bytes ++ 0 ∷ (0 ∷ [])) ∙ ap (λ (z : List ℕ). two_set z r.place (low r) (high r)) (patched_left d.relocations d.bytes (0 ∷ (0 ∷ [])) h) ∙ two_last (view word d) r.place (low r) (high r) place;
      }

  -- up to an even number of bytes
  abbrev pub Evened : Data → Data → Type 0
  Evened d e = (pad : List ℕ) × GoesOn d e pad × (length (view word e) ≡ sizes.even (length (view word d)))

  even_by : (d : Data) (b : Bool) → (length d.bytes % 2 == 1) ≡ b → Inside d → Evened d (if b then with_bytes (0 ∷ []) d else d)
  even_by d true e h =
      let goes = with_bytes_goes (0 ∷ []) d h in
      let long : length (view word d) ≡ length d.bytes = view_length d in
      let odd : length d.bytes % 2 ≡ 1 = grind (arith, nat_tests) in
      let all : length (view word (with_bytes (0 ∷ []) d)) ≡ length (view word d) + 1 = ap length goes.view_is ∙ length-append (view word d) (0 ∷ []) in
      (0 ∷ [], goes, omega arith)
  even_by d false e h =
      let long : length (view word d) ≡ length d.bytes = view_length d in
      let not_odd : length d.bytes % 2 ≡ 0 = grind (arith, nat_tests) in
      ([], goes_on d h, omega arith)

  pub even_goes : (d : Data) → Inside d → Evened d (even d)
  even_goes d h = even_by d (length d.bytes % 2 == 1) refl h
