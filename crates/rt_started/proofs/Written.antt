-- What is written by starts shows their contents.
use Rattle.std.proofs.Common.{◌≡◌, ◌⊎◌, inl, inr, ℕ, ◌+◌, ◌*◌, ◌/◌, ◌%◌, ◌<◌, ◌≤◌, Bool, true, false, ◌&&◌, List, [], ◌∷◌, ◌++◌, length, Option, Some, None, slice_index, refl, sym, ap, ◌∙◌, subst, arith, length-append}
use Rattle.std.proofs.lemmas.List.{get_or_append_left, get_or-append-add}
use Rattle.rt_words.specs.Bytes.{word_bytes}
use Rattle.rt_modes.specs.declared.mode.Mode.{Mode, out-Mode}
use Rattle.rt_modes.specs.declared.mode.Mode.TheOpen.{Mode-F}
use Rattle.rt_modes.specs.declared.mode.RecordDef.{RecordDef}
use Rattle.rt_tree_nodes.specs.declared.brick.DataStart.{DataStart, out-DataStart, roll-DataStart}
use Rattle.rt_tree_nodes.specs.declared.brick.DataStart as data_start
use Rattle.rt_tree_nodes.specs.declared.brick.DataStart.TheOpen.{DataStart-F}
use Rattle.rt_tree_nodes.specs.declared.store.Contents.{Contents, out-Contents}
use Rattle.rt_tree_nodes.specs.declared.store.Contents as store_contents
use Rattle.rt_tree_nodes.specs.declared.store.Contents.TheOpen.{Contents-F}
use Rattle.rt_tree_nodes.specs.declared.store.Contents.TheVariants as contents
use Rattle.rt_tree_nodes.specs.declared.store.Datum.{Datum}
use Rattle.rt_tree_nodes.specs.declared.store.Datum.TheVariants.{Word}
use Rattle.rt_tree_nodes.specs.Scopes.{passes}
use Rattle.rt_tree.specs.Stored.{inside, part}
use Rattle.rt_sizes.specs.Sizes as sizes
use Rattle.rt_sizes.specs.Sizes.{begins, size, offset}
use Rattle.rt_sizes.proofs.Layers.{some_is, size_at}
use Rattle.rt_work_state.specs.Stores.{datum_at}
use Rattle.rt_object.specs.declared.object.Relocated.{Relocated}
use Rattle.rt_object.specs.declared.object.Relocation.{Relocation}
use Rattle.rt_compile.specs.declared.data.written.Data.{Data}
use Rattle.rt_compile.specs.Data as bytes
use Rattle.rt_compile.specs.Data.{with_bytes, even, relocation, address}
use Rattle.rt_places.specs.Places.{room_by, AreSizes, IsPart}
use Rattle.rt_places.proofs.Parts.{room_fits}
use Rattle.rt_places.proofs.Paths as paths
use Rattle.rt_started.specs.Views.{view, word_in, byte_in}
use Rattle.rt_started.specs.Started.{Shown, AllShown}
use Rattle.rt_started.proofs.Viewing.{Inside, GoesOn, both_go_on, with_bytes_goes, hole_goes, even_goes}

-- ---- tests

pub left_of : (a b : Bool) → a && b ≡ true → a ≡ true
left_of true b e = refl
left_of false b e = absurd cc

pub right_of : (a b : Bool) → a && b ≡ true → b ≡ true
right_of true b e = e
right_of false b e = absurd cc

pub passed : {A : Type 0} (f : A → Bool) (o : Option A) → passes f o ≡ true → (x : A) × (o ≡ Some x) × (f x ≡ true)
passed f None e = absurd cc
passed f (Some x) e = (x, refl, e)

datum_out : (d : Datum) → out-Contents (contents.Datum d) ≡ Contents-F.Datum d
datum_out d = search store_contents.the_lemmas

pub parts_out : (cs : List Contents) → out-Contents (contents.Parts cs) ≡ Contents-F.Parts cs
parts_out cs = search store_contents.the_lemmas

pub start_out : (x : DataStart-F DataStart) → out-DataStart (roll-DataStart x) ≡ x
start_out x = search data_start.the_lemmas

-- ---- reading what is written

pub word_left : (xs ys : List ℕ) (p : ℕ) → p + 2 ≤ length xs → word_in (xs ++ ys) p ≡ word_in xs p
word_left xs ys p l =
    let a : slice_index (xs ++ ys) p ≡ slice_index xs p = get_or_append_left xs ys 0 p (omega arith) in
    let b : slice_index (xs ++ ys) (p + 1) ≡ slice_index xs (p + 1) = get_or_append_left xs ys 0 (p + 1) (omega arith) in
    ap (λ (z : ℕ). z % 256 + 256 * (slice_index (xs ++ ys) (p + 1) % 256)) a ∙ ap (λ (z : ℕ). slice_index xs p % 256 + 256 * (z % 256)) b

byte_left : (xs ys : List ℕ) (p : ℕ) → p + 1 ≤ length xs → byte_in (xs ++ ys) p ≡ byte_in xs p
byte_left xs ys p l = ap (λ (z : ℕ). z % 256) (get_or_append_left xs ys 0 p (omega arith))

pub word_last : (xs : List ℕ) (a b p : ℕ) → p ≡ length xs → word_in (xs ++ a ∷ (b ∷ [])) p ≡ a % 256 + 256 * (b % 256)
word_last xs a b p e =
    let h0 : slice_index (xs ++ a ∷ (b ∷ [])) (length xs + 0) ≡ a = get_or-append-add xs (a ∷ (b ∷ [])) 0 0 in
    let h1 : slice_index (xs ++ a ∷ (b ∷ [])) (length xs + 1) ≡ b = get_or-append-add xs (a ∷ (b ∷ [])) 1 0 in
    let p0 : p ≡ length xs + 0 = omega arith in
    let p1 : p + 1 ≡ length xs + 1 = omega arith in
    let one : slice_index (xs ++ a ∷ (b ∷ [])) p ≡ a = ap (slice_index (xs ++ a ∷ (b ∷ []))) p0 ∙ h0 in
    let two : slice_index (xs ++ a ∷ (b ∷ [])) (p + 1) ≡ b = ap (slice_index (xs ++ a ∷ (b ∷ []))) p1 ∙ h1 in
    ap (λ (z : ℕ). z % 256 + 256 * (slice_index (xs ++ a ∷ (b ∷ [])) (p + 1) % 256)) one ∙ ap (λ (z : ℕ). a % 256 + 256 * (z % 256)) two

byte_last : (xs : List ℕ) (a p : ℕ) → p ≡ length xs → byte_in (xs ++ a ∷ []) p ≡ a % 256
byte_last xs a p e =
    let h0 : slice_index (xs ++ a ∷ []) (length xs + 0) ≡ a = get_or-append-add xs (a ∷ []) 0 0 in
    let p0 : p ≡ length xs + 0 = omega arith in
    ap (λ (z : ℕ). z % 256) (ap (slice_index (xs ++ a ∷ [])) p0 ∙ h0)

pub split_word : (n : ℕ) → (n % 256) % 256 + 256 * ((n / 256) % 256) ≡ n % 65536
split_word n = omega arith

whole_word : (n : ℕ) → n < 65536 → n % 65536 ≡ n
whole_word n l = omega arith

-- modes whose values are words
abbrev pub Wordy : Mode-F Mode → Type 0
Wordy Mode-F.Int = Unit {0}
Wordy Mode-F.Frac = Unit {0}
Wordy (Mode-F.Ref m) = Unit {0}
Wordy (Mode-F.RefArray m) = Unit {0}
Wordy (Mode-F.Proc ps r) = Unit {0}
Wordy _ = ⊥

wordy_begins : (z : Mode-F Mode) (n : ℕ) → Wordy z → begins z n ≡ sizes.even n
wordy_begins Mode-F.Int n h = refl
wordy_begins Mode-F.Frac n h = refl
wordy_begins (Mode-F.Ref m) n h = refl
wordy_begins (Mode-F.RefArray m) n h = refl
wordy_begins (Mode-F.Proc ps r) n h = refl
wordy_begins _ n h = absurd h

module _ (records : List RecordDef) (S : ℕ → Option ℕ) (are : AreSizes records S) (value : Datum → ℕ) where
  abbrev pub All : List ℕ → ℕ → Mode → Contents → Type 0
  All xs p m c = AllShown value records S xs p m c

  abbrev pub One : List ℕ → ℕ → Mode-F Mode → Option Contents → Type 0
  One xs p z found = Shown value xs p z found

  -- ---- what is shown stays shown

  pub stays : (z : Mode-F Mode) (xs ys : List ℕ) (p : ℕ) (found : Option Contents) → p + room_by z ≤ length xs → One xs p z found → One (xs ++ ys) p z found
  stays Mode-F.Byte xs ys p found l h = byte_left xs ys p l ∙ h
  stays Mode-F.Int xs ys p found l h = word_left xs ys p l ∙ h
  stays Mode-F.Frac xs ys p found l h = word_left xs ys p l ∙ h
  stays Mode-F.Label xs ys p found l h = tt
  stays (Mode-F.Ref m) xs ys p found l h = word_left xs ys p l ∙ h
  stays (Mode-F.RefArray m) xs ys p found l h = word_left xs ys p l ∙ h
  stays (Mode-F.Array n e) xs ys p found l h = word_left xs ys p l ∙ h
  stays (Mode-F.Record r) xs ys p found l h = tt
  stays (Mode-F.Proc ps r) xs ys p found l h = word_left xs ys p l ∙ h

  pub all_stay : (m : Mode) (xs ys : List ℕ) (p s : ℕ) (c : Contents) → size S m ≡ Some s → p + s ≤ length xs → All xs p m c → All (xs ++ ys) p m c
  all_stay m xs ys p s c z l h path w o to =
      let lies = paths.inside records S are path m w o s to z in
      let room = room_fits records S are w lies.bytes lies.sized in
      let within : o + lies.bytes ≤ s = lies.inside in
      stays (out-Mode w) xs ys (p + o) (inside (Some c) path) (omega arith) (h path w o to)

  -- ---- one value

  pub record Wrote (word : Relocation → ℕ) (d e : Data) (m : Mode) (c : Contents) (s : ℕ) : Type 0 where
    pub chunk : List ℕ
    pub goes : GoesOn word d e chunk
    pub begin : ℕ
    pub is : begin ≡ begins (out-Mode m) (length (view word d))
    pub ends : length (view word e) ≡ begin + s
    pub shown : All (view word e) begin m c

  no_part : (k : ℕ) (m e : Mode) (a : ℕ) (z : Mode-F Mode) → out-Mode m ≡ z → Wordy z ⊎ (z ≡ Mode-F.Byte) → IsPart records S k m e a → ⊥
  no_part k m e a z o (inl h) (inl p) = subst Wordy (sym o ∙ p.is) h
  no_part k m e a z o (inl h) (inr p) = subst Wordy (sym o ∙ p.is) h
  no_part k m e a z o (inr h) (inl p) = apart_byte z p.number (sym o ∙ p.is) h
    where
      apart_byte : (z : Mode-F Mode) (r : ℕ) → z ≡ Mode-F.Record r → z ≡ Mode-F.Byte → ⊥
      apart_byte z r a b = cc
  no_part k m e a z o (inr h) (inr p) = apart_byte z p.count e (sym o ∙ p.is) h
    where
      apart_byte : (z : Mode-F Mode) (n : ℕ) (e : Mode) → z ≡ Mode-F.Array n e → z ≡ Mode-F.Byte → ⊥
      apart_byte z n e a b = cc

  -- a value that has no parts is shown where it begins
  alone : (m : Mode) (z : Mode-F Mode) (xs : List ℕ) (p : ℕ) (c : Contents) → out-Mode m ≡ z → Wordy z ⊎ (z ≡ Mode-F.Byte) → One xs p z (Some c) → All xs p m c
  alone m z xs p c o h one [] w x to =
      let none : p ≡ p + x = (let q : x ≡ 0 = to.1 in omega arith) in
      subst (λ (y : Mode). One xs (p + x) (out-Mode y) (Some c)) to.0 (subst (λ (y : Mode-F Mode). One xs (p + x) y (Some c)) (sym o) (subst (λ (n : ℕ). One xs n z (Some c)) none one))
  alone m z xs p c o h one (k ∷ ks) w x (e, a, b, part, rest, is) = absurd (no_part k m e a z o h part)

  word_shown : (z : Mode-F Mode) (xs : List ℕ) (p : ℕ) (x : Datum) → Wordy z → word_in xs p ≡ value x → One xs p z (Some (contents.Datum x))
  word_shown Mode-F.Int xs p x h e = e ∙ ap (λ (y : Contents-F Contents). value (datum_at y)) (sym (datum_out x))
  word_shown Mode-F.Frac xs p x h e = e ∙ ap (λ (y : Contents-F Contents). value (datum_at y)) (sym (datum_out x))
  word_shown (Mode-F.Ref m) xs p x h e = e ∙ ap (λ (y : Contents-F Contents). value (datum_at y)) (sym (datum_out x))
  word_shown (Mode-F.RefArray m) xs p x h e = e ∙ ap (λ (y : Contents-F Contents). value (datum_at y)) (sym (datum_out x))
  word_shown (Mode-F.Proc ps r) xs p x h e = e ∙ ap (λ (y : Contents-F Contents). value (datum_at y)) (sym (datum_out x))
  word_shown _ xs p x h e = absurd h

  wordy_size : (m : Mode) (z : Mode-F Mode) (s : ℕ) → out-Mode m ≡ z → Wordy z → size S m ≡ Some s → s ≡ 2
  wordy_size m Mode-F.Int s o h e = sym (some_is 2 s (sym (size_at S m Mode-F.Int o) ∙ e))
  wordy_size m Mode-F.Frac s o h e = sym (some_is 2 s (sym (size_at S m Mode-F.Frac o) ∙ e))
  wordy_size m (Mode-F.Ref a) s o h e = sym (some_is 2 s (sym (size_at S m (Mode-F.Ref a) o) ∙ e))
  wordy_size m (Mode-F.RefArray a) s o h e = sym (some_is 2 s (sym (size_at S m (Mode-F.RefArray a) o) ∙ e))
  wordy_size m (Mode-F.Proc ps None) s o h e = sym (some_is 2 s (sym (size_at S m (Mode-F.Proc ps None) o) ∙ e))
  wordy_size m (Mode-F.Proc ps (Some r)) s o h e = sym (some_is 2 s (sym (size_at S m (Mode-F.Proc ps (Some r)) o) ∙ e))
  wordy_size m _ s o h e = absurd h

  module _ (word : Relocation → ℕ) where
    abbrev pub Writ : Data → Data → Mode → Contents → ℕ → Type 0
    Writ d e m c s = Wrote word d e m c s

    -- two bytes behind an even number of them
    two_written : (m : Mode) (z : Mode-F Mode) (s a b : ℕ) (d e : Data) (x : Datum) → out-Mode m ≡ z → Wordy z → size S m ≡ Some s → Inside word d → (Inside word (even d) → GoesOn word (even d) e (a ∷ (b ∷ []))) → a % 256 + 256 * (b % 256) ≡ value x → Writ d e m (contents.Datum x) s
    two_written m z s a b d e x o h sz inside goes v =
        let evened = even_goes word d inside in
        let last = goes evened.1.inside in
        let begin : length (view word (even d)) ≡ sizes.even (length (view word d)) = evened.2 in
        let long : length (view word e) ≡ length (view word (even d)) + 2 = ap length last.view_is ∙ length-append (view word (even d)) (a ∷ (b ∷ [])) in
        let two : s ≡ 2 = wordy_size m z s o h sz in
        let read : word_in (view word e) (length (view word (even d))) ≡ value x = ap (λ (xs : List ℕ). word_in xs (length (view word (even d)))) last.view_is ∙ word_last (view word (even d)) a b (length (view word (even d))) refl ∙ v in
        record {
          chunk = evened.0 ++ (a ∷ (b ∷ []));
          goes = both_go_on word d (even d) e evened.0 (a ∷ (b ∷ [])) evened.1 last;
          begin = length (view word (even d));
          is = begin ∙ sym (ap (λ (y : Mode-F Mode). begins y (length (view word d))) o ∙ wordy_begins z (length (view word d)) h);
          ends = omega arith;
          shown = alone m z (view word e) (length (view word (even d))) (contents.Datum x) o (inl h) (word_shown z (view word e) (length (view word (even d))) x h read);
        }

    pub word_written : (m : Mode) (z : Mode-F Mode) (s n : ℕ) (d : Data) → out-Mode m ≡ z → Wordy z → size S m ≡ Some s → Inside word d → value (Word n) ≡ n → n < 65536 → Writ d (bytes.word n d) m (contents.Datum (Word n)) s
    word_written m z s n d o h sz inside v l = two_written m z s (n % 256) (n / 256) d (bytes.word n d) (Word n) o h sz inside (λ i. with_bytes_goes word (word_bytes n) (even d) i) (split_word n ∙ whole_word n l ∙ sym v)

    pub byte_written : (m : Mode) (s n : ℕ) (d : Data) → out-Mode m ≡ Mode-F.Byte → size S m ≡ Some s → Inside word d → value (Word n) ≡ n → n ≤ 255 → Writ d (with_bytes (n % 256 ∷ []) d) m (contents.Datum (Word n)) s
    byte_written m s n d o sz inside v l =
        let last = with_bytes_goes word (n % 256 ∷ []) d inside in
        let long : length (view word (with_bytes (n % 256 ∷ []) d)) ≡ length (view word d) + 1 = ap length last.view_is ∙ length-append (view word d) (n % 256 ∷ []) in
        let one : 1 ≡ s = some_is 1 s (sym (size_at S m Mode-F.Byte o) ∙ sz) in
        let small : (n % 256) % 256 ≡ n = omega arith in
        let read : byte_in (view word (with_bytes (n % 256 ∷ []) d)) (length (view word d)) ≡ value (Word n) = ap (λ (xs : List ℕ). byte_in xs (length (view word d))) last.view_is ∙ byte_last (view word d) (n % 256) (length (view word d)) refl ∙ small ∙ sym v in
        record {
          chunk = n % 256 ∷ [];
          goes = last;
          begin = length (view word d);
          is = sym (ap (λ (y : Mode-F Mode). begins y (length (view word d))) o);
          ends = omega arith;
          shown = alone m Mode-F.Byte (view word (with_bytes (n % 256 ∷ []) d)) (length (view word d)) (contents.Datum (Word n)) o (inr refl) (read ∙ ap (λ (y : Contents-F Contents). value (datum_at y)) (sym (datum_out (Word n))));
        }

    pub address_written : (m : Mode) (z : Mode-F Mode) (s : ℕ) (of : Relocated) (offset : ℕ) (d : Data) (x : Datum) → out-Mode m ≡ z → Wordy z → size S m ≡ Some s → Inside word d → word (relocation of offset (even d)) ≡ value x → word (relocation of offset (even d)) < 65536 → Writ d (address of offset d) m (contents.Datum x) s
    address_written m z s of offset d x o h sz inside v l =
        let r = word (relocation of offset (even d)) in
        two_written m z s (r % 256) (r / 256) d (address of offset d) x o h sz inside (λ i. hole_goes word of offset (even d) i) (split_word r ∙ whole_word r l ∙ v)
