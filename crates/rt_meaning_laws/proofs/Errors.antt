-- The mode of ERP in every module.
use Rattle.std.proofs.Common.{◌≡◌, ℕ, zero, suc, ◌&&◌, Bool, true, List, [], ◌∷◌, ◌++◌, Some, None, length, codes, map, refl, ap, ◌∙◌}
use Rattle.rt_modes.specs.declared.mode.Mode.{Mode, out-Mode, map-Mode}
use Rattle.rt_modes.specs.declared.mode.Mode.TheFolds.{fold_out-Mode}
use Rattle.rt_modes.specs.declared.mode.Mode.TheOpen.{Mode-F}
use Rattle.rt_modes.specs.declared.mode.Mode.TheVariants as mode
use Rattle.rt_modes.specs.declared.mode.ModeTable.{ModeTable}
use Rattle.rt_modes.specs.FullMode.{Word, Says, joined, one_mode, mode_words, definition, mentioned, with_new, reached, spelled, where_words, full_text, FullMode}
use Rattle.rt_tree.specs.declared.standing.Standing.{Standing}
use Rattle.rt_tree.specs.declared.standing.Standing.TheVariants as standing
use Rattle.rt_tree.specs.Modules.{Stands, stands}
use Rattle.rt_tree.specs.FullModes.{MayStand}
use Rattle.rt_meaning_laws.specs.Trees.{of_word, IsWord}
use Rattle.rt_resolve.specs.Matching.{int_taken}
use Rattle.rt_meaning_laws.proofs.Modes.{out_int, out_proc, stands_at}

-- a BYTE, INT or FRAC stands everywhere
word_passes : (n : ℕ) (m : Mode) (l : Mode-F Mode) (place : Standing) (levels refs : ℕ) → out-Mode m ≡ l → of_word l ≡ true → stands n m place levels refs ≡ true
word_passes n m Mode-F.Byte place levels refs e h = ap (λ (f : Stands). f place levels refs) (stands_at n m Mode-F.Byte e)
word_passes n m Mode-F.Int place levels refs e h = ap (λ (f : Stands). f place levels refs) (stands_at n m Mode-F.Int e)
word_passes n m Mode-F.Frac place levels refs e h = ap (λ (f : Stands). f place levels refs) (stands_at n m Mode-F.Frac e)
word_passes n m _ place levels refs e h = absurd cc

-- PROC with one parameter, or with a result alone
pub taking_stands : (t : ModeTable) (w m : Mode) → out-Mode w ≡ Mode-F.Proc (m ∷ []) None → IsWord m → MayStand t w
taking_stands t w m o h = record {
  place = standing.Alone;
  levels = 1;
  refs = 0;
  passes = ap (λ (f : Stands). f standing.Alone 1 0) (stands_at (length t.records) w (Mode-F.Proc (m ∷ []) None) o) ∙ ap (λ (b : Bool). (b && true) && true) (word_passes (length t.records) m (out-Mode m) standing.Passed 0 8 refl h);
}

pub giving_stands : (t : ModeTable) (w m : Mode) → out-Mode w ≡ Mode-F.Proc [] (Some m) → IsWord m → MayStand t w
giving_stands t w m o h = record {
  place = standing.Alone;
  levels = 1;
  refs = 0;
  passes = ap (λ (f : Stands). f standing.Alone 1 0) (stands_at (length t.records) w (Mode-F.Proc [] (Some m)) o) ∙ word_passes (length t.records) m (out-Mode m) standing.Passed 0 8 refl h;
}

pub taken_stands : (t : ModeTable) (m : Mode) → IsWord m → MayStand t (mode.Proc (m ∷ []) None)
taken_stands t m h = taking_stands t (mode.Proc (m ∷ []) None) m (out_proc (m ∷ []) None) h

pub given_stands : (t : ModeTable) (m : Mode) → IsWord m → MayStand t (mode.Proc [] (Some m))
given_stands t m h = giving_stands t (mode.Proc [] (Some m)) m (out_proc [] (Some m)) h

pub int_taken_stands : (t : ModeTable) → MayStand t int_taken
int_taken_stands t = taken_stands t mode.Int (ap of_word out_int)

pub words_at : (m : Mode) (l : Mode-F Mode) → out-Mode m ≡ l → mode_words m ≡ one_mode (map-Mode Mode (List Word) mode_words l)
words_at m l o = rw (fold_out-Mode, o) refl

-- words of a text, none of which mentions a record
abbrev says : List (List ℕ) → List Word
says bs = map Says bs

says_nothing : (t : ModeTable) (bs : List (List ℕ)) → mentioned t (says bs ++ []) ≡ []
says_nothing t [] = refl
says_nothing t (b ∷ bs) = says_nothing t bs

-- they reach none
none_reached : (t : ModeTable) (bs : List (List ℕ)) (n : ℕ) → reached t (says bs) n ≡ []
unfolding reached
none_reached t bs zero = refl
none_reached t bs (suc n) = ap (λ (ks : List ℕ). with_new [] (mentioned t (says bs ++ joined (map (definition t) ks)))) (none_reached t bs n) ∙ ap (with_new []) (says_nothing t bs)

pub said : (t : ModeTable) (m : Mode) (bs : List (List ℕ)) → mode_words m ≡ says bs → FullMode t m ≡ spelled t (says bs ++ where_words t [])
said t m bs e = ap (full_text t) e ∙ ap (λ (ks : List ℕ). spelled t (says bs ++ where_words t ks)) (none_reached t bs (suc (length t.records)))

-- the full mode of a PROC with one parameter
taking_full : (t : ModeTable) (w m : Mode) (name : List ℕ) → out-Mode w ≡ Mode-F.Proc (m ∷ []) None → mode_words m ≡ Says name ∷ [] → FullMode t w ≡ spelled t (says (codes "PROC(" ∷ name ∷ codes ")" ∷ []) ++ [])
taking_full t w m name o e = said t w (codes "PROC(" ∷ name ∷ codes ")" ∷ []) (words_at w (Mode-F.Proc (m ∷ []) None) o ∙ ap (λ (ws : List Word). Says (codes "PROC(") ∷ ((ws ++ []) ++ Says (codes ")") ∷ [])) e)

pub int_taking_full : (t : ModeTable) (w m : Mode) → out-Mode w ≡ Mode-F.Proc (m ∷ []) None → out-Mode m ≡ Mode-F.Int → FullMode t w ≡ codes "PROC(INT)"
int_taking_full t w m o e = taking_full t w m (codes "INT") o (words_at m Mode-F.Int e)

pub byte_taking_full : (t : ModeTable) (w m : Mode) → out-Mode w ≡ Mode-F.Proc (m ∷ []) None → out-Mode m ≡ Mode-F.Byte → FullMode t w ≡ codes "PROC(BYTE)"
byte_taking_full t w m o e = taking_full t w m (codes "BYTE") o (words_at m Mode-F.Byte e)

pub byte_giving_full : (t : ModeTable) (w m : Mode) → out-Mode w ≡ Mode-F.Proc [] (Some m) → out-Mode m ≡ Mode-F.Byte → FullMode t w ≡ codes "PROC() BYTE"
byte_giving_full t w m o e =
    said t w (codes "PROC(" ∷ codes ") " ∷ codes "BYTE" ∷ []) (words_at w (Mode-F.Proc [] (Some m)) o ∙ ap (λ (ws : List Word). Says (codes "PROC(") ∷ Says (codes ") ") ∷ ws) (words_at m Mode-F.Byte e))

pub erp_full : (t : ModeTable) → FullMode t int_taken ≡ codes "PROC(INT)"
erp_full t = int_taking_full t int_taken mode.Int (out_proc (mode.Int ∷ []) None) out_int
