-- An object has one listing.
use Rattle.std.proofs.Common.{◌≡◌, ◌<◌, ℕ, suc, ◌+◌, ◌*◌, List, [], ◌∷◌, ◌++◌, length, drop, codes, Some, slice_get, refl, sym, ap, ◌∙◌, subst, arith}
use Rattle.std.proofs.Math.Seq.{drop-length}
use Rattle.std.proofs.lemmas.Option.{slice_get_within}
use Rattle.pdp_code.proofs.Both.{decoded_words}
use Rattle.pdp_code.specs.Code.{words_of, first_word, more_words}
use Rattle.pdp_code.specs.Decode.{Begins}
use Rattle.pdp_code.specs.Text.{text_of}
use Rattle.pdp_code.specs.declared.instruction.Instr.{Instr}
use Rattle.rt_modes.specs.declared.mode.ModeTable.{ModeTable}
use Rattle.rt_object.specs.declared.object.Brick.{Brick}
use Rattle.rt_object.specs.declared.object.BrickKind.{BrickKind}
use Rattle.rt_object.specs.declared.object.BrickKind.TheVariants as kind
use Rattle.rt_object.specs.declared.object.Content.{Content}
use Rattle.rt_object.specs.declared.object.Content.TheVariants as content
use Rattle.rt_match.proofs.Walking.{some_one}
use Rattle.rt_report.specs.ListingLaws.{HasOneListing}
use Rattle.rt_report.specs.Listing as listing
use Rattle.rt_report.specs.Listing.{code_line, brick_line, title_line, ListsFrom, ListsContent, ListsCode, ListsBricks, IsListing}

one_instruction : (i j : Instr) (ws : List ℕ) → Begins i ws → Begins j ws → i ≡ j
one_instruction i j ws b c =
    let e : Some (i, length (words_of i)) ≡ Some (j, length (words_of j)) = sym (decoded_words i ws b) ∙ decoded_words j ws c in
    ap (λ (x : Instr × ℕ). x.0) (some_one {A = Instr × ℕ} (i, length (words_of i)) (j, length (words_of j)) e)

none_begins_nothing : (i : Instr) (ws : List ℕ) → ws ≡ [] → Begins i ws → ⊥
none_begins_nothing i ws e b = let f : [] ≡ first_word i ∷ (more_words i ++ b.1.0) = sym e ∙ b.1.1 in absurd cc

module _ (words marks : List ℕ) where
  -- how the text from a word on begins
  data View (at : ℕ) (text : List ℕ) : Type 0 where
    ends : at ≡ length words → text ≡ [] → View at text
    instr : (mark : ℕ) (i : Instr) (rest : List ℕ) → Begins i (drop at words) → slice_get marks at ≡ Some mark → ListsFrom words marks (at + length (words_of i)) rest
        → text ≡ code_line (2 * at) (words_of i) mark (text_of i) ++ rest → View at text
    alone : (w mark : ℕ) (rest : List ℕ) → slice_get words at ≡ Some w → ((i : Instr) → Begins i (drop at words) → ⊥) → slice_get marks at ≡ Some mark → ListsFrom words marks (suc at) rest
        → text ≡ code_line (2 * at) (w ∷ []) mark (codes "WORD") ++ rest → View at text

  view : (at : ℕ) (text : List ℕ) → ListsFrom words marks at text → View at text
  view _ _ listing.end = ends refl refl
  view _ _ (listing.instruction {at} {mark} i {rest} b m h) = instr mark i rest b m h refl
  view _ _ (listing.word {at} {w} {mark} {rest} g n m h) = alone w mark rest g n m h refl

  at_end : (i : Instr) → Begins i (drop (length words) words) → ⊥
  at_end i b = none_begins_nothing i (drop (length words) words) (drop-length words) b

  past : (w : ℕ) → slice_get words (length words) ≡ Some w → ⊥
  past w e = let h : length words < length words = slice_get_within words (length words) w e in omega arith

  one_text : (at : ℕ) (text other : List ℕ) → ListsFrom words marks at text → ListsFrom words marks at other → text ≡ other
  one_text _ _ other listing.end k = by (view (length words) other k)
    where
      by : View (length words) other → [] ≡ other
      by (ends e q) = sym q
      by (instr mark i rest b m h q) = absurd (at_end i b)
      by (alone w mark rest g n m h q) = absurd (past w g)
  one_text _ _ other (listing.instruction {at} {mark} i {rest} b m h) k = by (λ v q. one_text (at + length (words_of i)) rest v h q) (view at other k)
    where
      by : ((v : List ℕ) → ListsFrom words marks (at + length (words_of i)) v → rest ≡ v) → View at other → (code_line (2 * at) (words_of i) mark (text_of i) ++ rest) ≡ other
      by same (ends e q) = absurd (at_end i (subst (λ (n : ℕ). Begins i (drop n words)) e b))
      by same (alone w mark2 rest2 g n m2 h2 q) = absurd (n i b)
      by same (instr mark2 j rest2 c m2 h2 q) =
          let ji : j ≡ i = one_instruction j i (drop at words) c b in
          let s : Some mark ≡ Some mark2 = sym m ∙ m2 in
          let marks_same : mark ≡ mark2 = cc in
          let rest_same : rest ≡ rest2 = same rest2 (subst (λ (x : Instr). ListsFrom words marks (at + length (words_of x)) rest2) ji h2) in
          ap (λ (x : ℕ). code_line (2 * at) (words_of i) x (text_of i) ++ rest) marks_same
          ∙ (ap (λ (x : List ℕ). code_line (2 * at) (words_of i) mark2 (text_of i) ++ x) rest_same
          ∙ (ap (λ (x : Instr). code_line (2 * at) (words_of x) mark2 (text_of x) ++ rest2) (sym ji) ∙ sym q))
  one_text _ _ other (listing.word {at} {w} {mark} {rest} g n m h) k = by (λ v q. one_text (suc at) rest v h q) (view at other k)
    where
      by : ((v : List ℕ) → ListsFrom words marks (suc at) v → rest ≡ v) → View at other → (code_line (2 * at) (w ∷ []) mark (codes "WORD") ++ rest) ≡ other
      by same (ends e q) = absurd (past w (subst (λ (x : ℕ). slice_get words x ≡ Some w) e g))
      by same (instr mark2 j rest2 c m2 h2 q) = absurd (n j c)
      by same (alone w2 mark2 rest2 g2 n2 m2 h2 q) =
          let s : Some mark ≡ Some mark2 = sym m ∙ m2 in
          let marks_same : mark ≡ mark2 = cc in
          let sw : Some w ≡ Some w2 = sym g ∙ g2 in
          let words_same : w ≡ w2 = cc in
          ap (λ (x : ℕ). code_line (2 * at) (w ∷ []) x (codes "WORD") ++ rest) marks_same
          ∙ (ap (λ (x : ℕ). code_line (2 * at) (x ∷ []) mark2 (codes "WORD") ++ rest) words_same
          ∙ (ap (λ (x : List ℕ). code_line (2 * at) (w2 ∷ []) mark2 (codes "WORD") ++ x) (same rest2 h2) ∙ sym q))

one_content : (c : Content) (text other : List ℕ) → ListsContent c text → ListsContent c other → text ≡ other
one_content (content.Proc p) text other h k = one_text p.words p.marks 0 text other h k
one_content (content.Data d) text other h k = h ∙ sym k
one_content (content.Stack n) text other h k = h ∙ sym k

one_code : (b : BrickKind) (text other : List ℕ) → ListsCode b text → ListsCode b other → text ≡ other
one_code (kind.Own c) text other h k = one_content c text other h k
one_code (kind.Ent c) text other h k = one_content c text other h k
one_code (kind.Ext e) text other h k = h ∙ sym k
one_code (kind.Svc s) text other h k = h ∙ sym k

one_bricks : (t : ModeTable) (bs : List Brick) (text other : List ℕ) → ListsBricks t bs text → ListsBricks t bs other → text ≡ other
one_bricks t _ _ _ listing.none listing.none = refl
one_bricks t _ _ _ (listing.one {b} {bs} code {rest} c h) (listing.one code2 {rest = rest2} c2 k) =
    ap (λ (x : List ℕ). (brick_line t b ++ x) ++ rest) (one_code b.kind code code2 c c2) ∙ ap (λ (x : List ℕ). (brick_line t b ++ code2) ++ x) (one_bricks t bs rest rest2 h k)

pub one_listing : HasOneListing
one_listing o text other h k = h.all ∙ (ap (λ (x : List ℕ). title_line o.title ++ x) (one_bricks o.records o.bricks h.bricks k.bricks h.are k.are) ∙ sym k.all)
