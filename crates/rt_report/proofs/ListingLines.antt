-- The lines of a listing, one after another.
use Rattle.std.proofs.Common.{◌≡◌, ◌<◌, ◌≤◌, ℕ, suc, ◌+◌, ◌-◌, ◌*◌, List, [], ◌∷◌, ◌++◌, length, take, drop, get_or, codes, Some, slice_get, sym, ap, ◌∙◌, subst, append_assoc, append-nil, drop-cons, add-one, arith}
use Rattle.std.specs.Prelude.{slice_range, slice_index}
use Rattle.std.proofs.Math.Seq.{take-append_seam, take-length, drop-length}
use Rattle.std.proofs.lemmas.List.{length-drop}
use Rattle.std.proofs.lemmas.Option.{slice_get-get_or}
use Rattle.pdp_code.specs.Code.{words_of}
use Rattle.pdp_code.specs.Decode.{Begins}
use Rattle.pdp_code.specs.Text.{text_of}
use Rattle.pdp_code.specs.declared.instruction.Instr.{Instr}
use Rattle.rt_modes.specs.declared.mode.ModeTable.{ModeTable}
use Rattle.rt_object.specs.declared.object.Brick.{Brick}
use Rattle.rt_report.specs.Listing as listing
use Rattle.rt_report.specs.Listing.{code_line, brick_line, ListsFrom, ListsCode, ListsBricks}
use Rattle.rt_report.specs.Writing.{PutsLine, PutsUpTo, Puts, PutsBricks}

-- the words of an instruction are those at its place
words_at : (words : List ℕ) (at n : ℕ) (i : Instr) → Begins i (drop at words) → n ≡ length (words_of i) → slice_range words at (at + n) ≡ words_of i
words_at words at n i begins long =
    let count : (at + n) - at ≡ length (words_of i) = omega arith in
    ap (λ (k : ℕ). take k (drop at words)) count ∙ (ap (take (length (words_of i))) begins.1.1 ∙ take-append_seam (words_of i) begins.1.0)

module _ (words marks : List ℕ) (at : ℕ) (old new : List ℕ) (there : at < length words) (marked : length marks ≡ length words) where
  rest_at : slice_range words at (length words) ≡ drop at words
  rest_at =
      let e : length (drop at words) ≡ length words - at = length-drop at words in
      ap (λ (k : ℕ). take k (drop at words)) (sym e) ∙ take-length (drop at words)

  mark : slice_get marks at ≡ Some (slice_index marks at)
  mark = slice_get-get_or marks at 0 (omega arith)

  pub instruction_line : (n : ℕ) (i : Instr) → Begins i (slice_range words at (length words)) → n ≡ length (words_of i) → 1 ≤ n → n ≤ length (slice_range words at (length words))
      → new ≡ old ++ code_line (2 * at) (slice_range words at (at + n)) (slice_index marks at) (text_of i) → PutsLine words marks at old new (at + n)
  instruction_line n i first long some in_rest all =
      let begins : Begins i (drop at words) = subst (λ (ws : List ℕ). Begins i ws) rest_at first in
      let e : length (drop at words) ≡ length words - at = length-drop at words in
      let below : n ≤ length (drop at words) = subst (λ (ws : List ℕ). n ≤ length ws) rest_at in_rest in
      record {
        line = code_line (2 * at) (words_of i) (slice_index marks at) (text_of i);
        all = all ∙ ap (λ (ws : List ℕ). old ++ code_line (2 * at) ws (slice_index marks at) (text_of i)) (words_at words at n i begins long);
        further = omega arith;
        within = omega arith;
        lists = λ rest h. listing.instruction i begins mark (subst (λ (k : ℕ). ListsFrom words marks (at + k) rest) long h);
      }

  one_word : slice_range words at (at + 1) ≡ slice_index words at ∷ []
  one_word =
      let count : (at + 1) - at ≡ 1 = omega arith in
      ap (λ (k : ℕ). take k (drop at words)) count ∙ ap (take 1) (drop-cons words at 0 there)

  pub word_line : ((i : Instr) → Begins i (slice_range words at (length words)) → ⊥) → new ≡ old ++ code_line (2 * at) (slice_range words at (at + 1)) (slice_index marks at) (codes "WORD") → PutsLine words marks at old new (at + 1)
  word_line none all = record {
    line = code_line (2 * at) (slice_index words at ∷ []) (slice_index marks at) (codes "WORD");
    all = all ∙ ap (λ (ws : List ℕ). old ++ code_line (2 * at) ws (slice_index marks at) (codes "WORD")) one_word;
    further = omega arith;
    within = omega arith;
    lists = λ rest h. listing.word (slice_get-get_or words at 0 there) (λ i b. none i (subst (λ (ws : List ℕ). Begins i ws) (sym rest_at) b)) mark (subst (λ (k : ℕ). ListsFrom words marks k rest) (add-one at) h);
  }

-- one line more
pub puts_more : (words marks : List ℕ) (at next : ℕ) (old now new : List ℕ) → PutsUpTo words marks at old now → PutsLine words marks at now new next → PutsUpTo words marks next old new
puts_more words marks at next old now new h k = record {
  text = h.text ++ k.line;
  all = k.all ∙ (ap (λ (x : List ℕ). x ++ k.line) h.all ∙ append_assoc old h.text k.line);
  within = k.within;
  lists = λ rest f. rw append_assoc (h.lists (k.line ++ rest) (k.lists rest f));
}

pub puts_all : (words marks : List ℕ) (at : ℕ) (old new : List ℕ) → at ≡ length words → PutsUpTo words marks at old new → Puts (ListsFrom words marks 0) old new
puts_all words marks at old new end h = record {
  text = h.text;
  lists = rw append-nil at (h.lists [] (subst (λ (k : ℕ). ListsFrom words marks k []) (sym end) listing.end));
  all = h.all;
}

-- the lines of one brick more
pub bricks_more : (t : ModeTable) (all left : List Brick) (b : Brick) (old now new : List ℕ) → PutsBricks t all (b ∷ left) old now → Puts (ListsCode b.kind) (now ++ brick_line t b) new → PutsBricks t all left old new
bricks_more t all left b old now new h k = record {
  text = h.text ++ (brick_line t b ++ k.text);
  appended =
      let a : (now ++ brick_line t b) ++ k.text ≡ now ++ (brick_line t b ++ k.text) = append_assoc now (brick_line t b) k.text in
      let c : now ++ (brick_line t b ++ k.text) ≡ (old ++ h.text) ++ (brick_line t b ++ k.text) = ap (λ (x : List ℕ). x ++ (brick_line t b ++ k.text)) h.appended in
      k.all ∙ (a ∙ (c ∙ append_assoc old h.text (brick_line t b ++ k.text)));
  lists = λ rest f. rw (append_assoc h.text (brick_line t b ++ k.text) rest) (h.lists ((brick_line t b ++ k.text) ++ rest) (listing.one k.text k.lists f));
}

pub bricks_all : (t : ModeTable) (all : List Brick) (old new : List ℕ) → PutsBricks t all [] old new → Puts (ListsBricks t all) old new
bricks_all t all old new h = record {
  text = h.text;
  lists = rw append-nil at (h.lists [] listing.none);
  all = h.appended;
}

-- the bricks from a place on, where one stands there
pub next_brick : (t : ModeTable) (all : List Brick) (k : ℕ) (b : Brick) (old now : List ℕ) → k < length all → b ≡ get_or all k b → PutsBricks t all (drop k all) old now → PutsBricks t all (b ∷ drop (k + 1) all) old now
next_brick t all k b old now there is h =
    let e : drop k all ≡ b ∷ drop (k + 1) all = drop-cons all k b there ∙ (ap (λ (x : Brick). x ∷ drop (suc k) all) (sym is) ∙ ap (λ (n : ℕ). b ∷ drop n all) (sym (add-one k))) in
    subst (λ (xs : List Brick). PutsBricks t all xs old now) e h

pub no_brick : (t : ModeTable) (all : List Brick) (k : ℕ) (old now : List ℕ) → k ≡ length all → PutsBricks t all (drop k all) old now → PutsBricks t all [] old now
no_brick t all k old now end h = subst (λ (xs : List Brick). PutsBricks t all xs old now) (ap (λ (n : ℕ). drop n all) end ∙ drop-length all) h
