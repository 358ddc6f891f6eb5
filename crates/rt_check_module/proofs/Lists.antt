-- What is written in a list, part by part.
use Rattle.std.proofs.Common.{◌≡◌, ℕ, List, [], ◌∷◌, Option, map, Result, IfOk, refl, subst, sym, ap, ◌∙◌}
use Rattle.rt_bricks.specs.declared.tree.Parenthesized.{Parenthesized}
use Rattle.rt_bricks.specs.declared.tree.Start.{Start, out-Start, map-Start, the_lemmas}
use Rattle.rt_bricks.specs.declared.tree.Start.TheFolds.{fold_out-Start}
use Rattle.rt_bricks.specs.declared.tree.Start.TheOpen.{Start-F}
use Rattle.rt_bricks.specs.declared.tree.Start.TheVariants as starts
use Rattle.rt_grammar.specs.declared.at.At.{At}
use Rattle.rt_modes.specs.declared.mode.Mode.{Mode, out-Mode}
use Rattle.rt_modes.specs.declared.mode.RecordDef.{RecordDef}
use Rattle.rt_tree_nodes.specs.declared.brick.DataStart.{DataStart}
use Rattle.rt_tree_nodes.specs.declared.brick.DataStart.TheVariants as start
use Rattle.rt_check_module.specs.declared.parts.Wanted.{Wanted as Seen}
use Rattle.rt_check_module.specs.Starts.{Written, Wanted, copies, copies_in, wanted, parts_fit, in_parts, parts_made, wanted_of, number_of, text_made, written_layer, written}
use Rattle.rt_words.specs.declared.memory.Memory.{Memory}
use Rattle.rt_check_declared.specs.Written.{Names}

pub a_list : (s : Start) (ps : List Start) (k : Option Parenthesized) (at : At) → s ≡ starts.List ps k at → out-Start s ≡ Start-F.List ps k at
a_list s ps k at e = ap out-Start e ∙ rolled
  where
    rolled : out-Start (starts.List ps k at) ≡ Start-F.List ps k at
    rolled = search the_lemmas

pub a_text : (s : Start) (t : List ℕ) (at : At) → s ≡ starts.Text t at → out-Start s ≡ Start-F.Text t at
a_text s t at e = ap out-Start e ∙ rolled
  where
    rolled : out-Start (starts.Text t at) ≡ Start-F.Text t at
    rolled = search the_lemmas

-- what is wanted of the parts of a list, as the program finds it
pub wanted_there : (records : List RecordDef) (ps qs : List Start) (m : Mode) (v w : Seen) → qs ≡ ps → wanted_of v ≡ wanted records (map copies qs) (out-Mode m) → v ≡ w → wanted records (map copies ps) (out-Mode m) ≡ wanted_of w
wanted_there records ps qs m v w e is same = sym (ap (λ (x : List Start). wanted records (map copies x) (out-Mode m)) e) ∙ sym is ∙ ap wanted_of same

module _ (records : List RecordDef) (names : Names) (strings : List ℕ) where
  abbrev all_written : Start → Written
  all_written = written records names strings

  abbrev layered : Start-F Start → Written
  layered l = written_layer records names strings (map-Start Start Written all_written l)

  pub written_at : (s : Start) (l : Start-F Start) → out-Start s ≡ l → all_written s ≡ layered l
  written_at s l o = rw (fold_out-Start, o) refl

  copies_by : (s : Start) (l : Start-F Start) → out-Start s ≡ l → (all_written s).copies ≡ copies s
  copies_by s (Start-F.Number g n c at) o = ap (λ (w : Written). w.copies) (written_at s (Start-F.Number g n c at) o) ∙ sym (ap copies_in o)
  copies_by s (Start-F.Text t at) o = ap (λ (w : Written). w.copies) (written_at s (Start-F.Text t at) o) ∙ sym (ap copies_in o)
  copies_by s (Start-F.Place i ss) o = ap (λ (w : Written). w.copies) (written_at s (Start-F.Place i ss) o) ∙ sym (ap copies_in o)
  copies_by s (Start-F.List ps c at) o = ap (λ (w : Written). w.copies) (written_at s (Start-F.List ps c at) o) ∙ sym (ap copies_in o)

  -- a start is written in as many copies as it says
  pub copies_seen : (s : Start) → (all_written s).copies ≡ copies s
  copies_seen s = copies_by s (out-Start s) refl

  pub all_copies : (ps : List Start) → map (λ (w : Written). w.copies) (map (all_written) ps) ≡ map copies ps
  all_copies [] = refl
  all_copies (p ∷ ps) = ap (λ (c : ℕ). c ∷ map (λ (w : Written). w.copies) (map (all_written) ps)) (copies_seen p) ∙ ap (λ (cs : List ℕ). copies p ∷ cs) (all_copies ps)

  -- ---- a list, by what is wanted of its parts

  module _ (s : Start) (ps : List Start) (k : Option Parenthesized) (at : At) (m : Mode) (w : Wanted) (o : out-Start s ≡ Start-F.List ps k at) (is : wanted records (map copies ps) (out-Mode m) ≡ w) where
    same_wanted : wanted records (map (λ (v : Written). v.copies) (map (all_written) ps)) (out-Mode m) ≡ w
    same_wanted = ap (λ (cs : List ℕ). wanted records cs (out-Mode m)) (all_copies ps) ∙ is

    pub list_fits : (all_written s).fits m ≡ parts_fit (map (all_written) ps) w
    list_fits = ap (λ (v : Written). v.fits m) (written_at s (Start-F.List ps k at) o) ∙ ap (parts_fit (map (all_written) ps)) same_wanted

    pub list_private : (all_written s).private m ≡ in_parts (λ v. v.private) (map (all_written) ps) w
    list_private = ap (λ (v : Written). v.private m) (written_at s (Start-F.List ps k at) o) ∙ ap (in_parts (λ v. v.private) (map (all_written) ps)) same_wanted

    pub list_used : (all_written s).used m ≡ in_parts (λ v. v.used) (map (all_written) ps) w
    list_used = ap (λ (v : Written). v.used m) (written_at s (Start-F.List ps k at) o) ∙ ap (in_parts (λ v. v.used) (map (all_written) ps)) same_wanted

    pub list_made : (all_written s).made m ≡ start.List (parts_made (map (all_written) ps) w)
    list_made = ap (λ (v : Written). v.made m) (written_at s (Start-F.List ps k at) o) ∙ ap (λ (x : Wanted). start.List (parts_made (map (all_written) ps) x)) same_wanted

  -- ---- a string

  pub text_is_made : (s : Start) (t bytes : List ℕ) (at : At) (k : ℕ) (m : Mode) (x : Result DataStart Memory) → s ≡ starts.Text t at → bytes ≡ t → k ≡ number_of strings at.item → IfOk x (λ r. r ≡ text_made bytes k (out-Mode m))
      → IfOk x (λ r. r ≡ (all_written s).made m)
  text_is_made s t bytes at k m x e same number is =
      let o : out-Start s ≡ Start-F.Text t at = a_text s t at e in
      let y : text_made bytes k (out-Mode m) ≡ (all_written s).made m =
      ap (λ (b : List ℕ). text_made b k (out-Mode m)) same ∙ ap (λ (n : ℕ). text_made t n (out-Mode m)) number ∙ sym (ap (λ (w : Written). w.made m) (written_at s (Start-F.Text t at) o)) in
      subst (λ (z : DataStart). IfOk x (λ r. r ≡ z)) y is
