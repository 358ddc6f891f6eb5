-- The spellings of the parts that are still to come.
use Rattle.std.proofs.Common.{◌≡◌, ℕ, ◌%◌, ◌<◌, List, [], ◌∷◌, ◌++◌, length, Option, ap, sym, ◌∙◌, arith, append_assoc}
use Rattle.std.proofs.lemmas.List.{append-nil, length-append}
use Rattle.rt_modes.specs.declared.mode.Mode.{Mode}
use Rattle.rt_modes.specs.declared.mode.Mode.TheVariants as mode
use Rattle.rt_modes.specs.declared.spell.Part.{Part}
use Rattle.rt_modes.specs.Parts.{parts_after, part_spelling, parts_spelling, Adds}
use Rattle.rt_modes.specs.Spelling.{spelling}
use Rattle.rt_words.specs.Bytes.{word_bytes}
use Rattle.rt_modes.proofs.Modes.{out_label, out_record, out_ref, out_ref_array, out_array, out_proc}
use Rattle.rt_modes.proofs.Spelled.{spelled_label, spelled_record, spelled_ref, spelled_ref_array, spelled_array, spelled_proc}

parts_push : (ps : List Part) (p : Part) → parts_spelling (ps ++ p ∷ []) ≡ part_spelling p ++ parts_spelling ps
parts_push [] p = sym (append-nil (part_spelling p))
parts_push (q ∷ ps) p = rw (parts_push ps p) (simp append_assoc)

pub one_more : (ps qs : List Part) (p : Part) → qs ≡ ps ++ p ∷ [] → parts_spelling qs ≡ part_spelling p ++ parts_spelling ps
one_more ps qs p e = rw e (parts_push ps p)

-- the first bytes of some are appended, and the others are put on the parts
pub adds : (bytes head inside : List ℕ) (before after : List Part) (old new : List ℕ) → bytes ≡ head ++ inside → 0 < length head → parts_spelling after ≡ inside ++ parts_spelling before → new ≡ old ++ head
    → Adds bytes before after old new
adds bytes head inside before after old new e some f g = record {
  text = rw (e, f, g) (simp append_assoc);
  some = rw (e, f) (omega (arith, length-append (head ++ inside) (parts_spelling before), length-append head inside, length-append inside (parts_spelling before)));
}

-- a mode by what it is made of, which is known as what the code holds of it
pub label : (m : Mode) → m ≡ mode.Label → spelling m ≡ (8 ∷ []) ++ []
label m e = spelled_label m (out_label m e)

pub number : (m : Mode) (k : ℕ) → m ≡ mode.Record k → spelling m ≡ (7 ∷ word_bytes k) ++ []
number m k e = spelled_record m k (out_record m k e)

pub ref : (m of inner : Mode) → m ≡ mode.Ref of → inner ≡ of → spelling m ≡ (4 ∷ []) ++ spelling inner
ref m of inner e f = rw f (spelled_ref m of (out_ref m of e))

pub ref_array : (m of inner : Mode) → m ≡ mode.RefArray of → inner ≡ of → spelling m ≡ (5 ∷ []) ++ spelling inner
ref_array m of inner e f = rw f (spelled_ref_array m of (out_ref_array m of e))

pub array : (m of inner : Mode) (n : ℕ) → m ≡ mode.Array n of → inner ≡ of → spelling m ≡ (6 ∷ word_bytes n) ++ spelling inner
array m of inner n e f = rw f (spelled_array m of n (out_array m of n e))

pub procedure : (m : Mode) (ps inner : List Mode) (r : Option Mode) (n : ℕ) → m ≡ mode.Proc ps r → inner ≡ ps → n ≡ length ps → spelling m ≡ (9 ∷ (n % 256 ∷ [])) ++ parts_after inner r
procedure m ps inner r n e f g = rw (f, g) (spelled_proc m ps r (out_proc m ps r e))

-- the first parameter is begun, and the others are put on the parts
pub with_first : (ps rest : List Mode) (first : Mode) (r : Option Mode) (p : Part) (before mid after : List Part) (old new : List ℕ) → ps ≡ first ∷ rest → part_spelling p ≡ parts_after rest r → mid ≡ before ++ p ∷ []
    → Adds (spelling first) mid after old new → Adds (parts_after ps r) before after old new
with_first ps rest first r p before mid after old new e f g a =
    let whole : spelling first ++ parts_spelling mid ≡ parts_after ps r ++ parts_spelling before = rw (one_more before mid p g, f, e) (simp append_assoc) in
    record { text = a.text ∙ ap (λ t. old ++ t) whole; some = rw (sym whole) a.some }

-- one part is taken, and some bytes of it are appended
pub goes_on : (p : Part) (before popped after : List Part) (old new whole : List ℕ) → before ≡ popped ++ p ∷ [] → Adds (part_spelling p) popped after old new → old ++ parts_spelling before ≡ whole → new ++ parts_spelling after ≡ whole
goes_on p before popped after old new whole e a f = a.text ∙ rw (sym (one_more popped before p e)) f

pub goes_down : (p : Part) (before popped after : List Part) (old new : List ℕ) → before ≡ popped ++ p ∷ [] → Adds (part_spelling p) popped after old new → length (parts_spelling after) < length (parts_spelling before)
goes_down p before popped after old new e a = rw (one_more popped before p e) a.some
